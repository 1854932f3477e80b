-- The elements that an iterator shows before it gives them.
use Rattle.btree_set.proofs.Common.{◌≡◌, ◌∙◌, ◌<◌, [], List, Option, None, Some, length, sym, arith, IsStrictlySortedBy, Ordering}
use Rattle.std.proofs.Common.{◌^◌, ◌↔◌, Bool, true, false, not, IfNone, IsTrue, is_some, option_copied, refl}
use Rattle.std.specs.Borrow.{Bor}
use Rattle.std.specs.Iterator.{YieldsFirstRef}
use Rattle.std.specs.List.{cons_option}

module _ {T : Type 0} where
  -- what was taken from the list goes before what is left
  pub rest-is : (rest new : List T) (r : Option (Bor T)) → YieldsFirstRef (λ rest. rest) rest r new → cons_option (option_copied r) new ≡ rest
  rest-is rest new None steps = steps.1 ∙ sym steps.0
  rest-is rest new (Some x) steps = sym steps

  none-left : (rest new : List T) (r : Option (Bor T)) → YieldsFirstRef (λ rest. rest) rest r new → IfNone r (new ≡ [])
  none-left rest new None steps = steps.1
  none-left rest new (Some x) steps = tt

  sorted-rest : (cmp : T → T → Ordering) (head : Option T) (rest : List T) → IsStrictlySortedBy cmp (cons_option head rest) → IsStrictlySortedBy cmp rest
  unfolding IsStrictlySortedBy
  sorted-rest cmp None rest up = up
  sorted-rest cmp (Some x) rest up = up.1

  shorter : (head : Option T) (rest : List T) → length (cons_option head rest) < 2 ^ 64 → length rest < 2 ^ 64
  shorter None rest few = few
  shorter (Some x) rest few = omega arith

  pub peek-next : (cmp : T → T → Ordering) (head : Option (Bor T)) (rest new : List T) (r : Option (Bor T)) → YieldsFirstRef (λ rest. rest) rest r new
      → IsStrictlySortedBy cmp (cons_option (option_copied head) rest) → length (cons_option (option_copied head) rest) < 2 ^ 64
      → IfNone r (new ≡ []) × IsStrictlySortedBy cmp (cons_option (option_copied r) new) × (length (cons_option (option_copied r) new) < 2 ^ 64)
  peek-next cmp head rest new r steps up few = (
    none-left rest new r steps,
    rw (rest-is rest new r steps) (sorted-rest cmp (option_copied head) rest up),
    rw (rest-is rest new r steps) (shorter (option_copied head) rest few),
  )

-- where an iterator yields `None`, nothing was left, and only there
pub none-yields : {T : Type 0} (rest new : List T) (r : Option (Bor T)) → YieldsFirstRef (λ rest. rest) rest r new → (is : Bool) → is_some r ≡ not is
    → IsTrue is ↔ (rest ≡ [])
none-yields rest new None steps true told = (λ yes. steps.0, λ empty. refl)
none-yields rest new None steps false told = absurd (cc)
none-yields rest new (Some x) steps true told = absurd (cc)
none-yields rest new (Some x) steps false told = (λ yes. absurd (cc), λ empty. absurd (let e = steps in cc))
