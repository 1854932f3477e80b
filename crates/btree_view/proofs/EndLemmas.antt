-- Whether the last key is below a separator, by what a look-up of it returns.
use Rattle.std.proofs.Common.{◌≡◌, ◌↔◌, ℕ, ◌-◌, Bool, true, List, Option, Some, None, IsTrue, length, map, refl, sym, ◌∙◌, ap, Ordering}
use Rattle.std.specs.declared.cmp.Ordering.TheVariants.{Less}
use Rattle.std.specs.Prelude.{slice_get, IfSome}
use Rattle.std.specs.Option.{option_map}
use Rattle.std.specs.Ordering.{is_lt}
use Rattle.std.proofs.lemmas.List.{length-map}
use Rattle.std.proofs.lemmas.Option.{slice_get-map}
use Rattle.btree_item.proofs.KeyLemmas.{Less-from_is_lt}
use Rattle.btree_view.specs.Checks.{EndsBelow}

less_tells : (c : Ordering) (r : Bool) → is_lt c ≡ r → IsTrue r ↔ (c ≡ Less)
less_tells c r lt = ((λ yes. Less-from_is_lt c (lt ∙ yes)), λ less. sym lt ∙ ap is_lt less)

module _ {K : Type 0} (cmp : K → K → Ordering) where
  some_below : (max found : Option K) (m k : K) (r : Bool) → max ≡ Some m → found ≡ Some k → is_lt (cmp k m) ≡ r → IsTrue r ↔ IfSome max (λ m. IfSome found (λ k. cmp k m ≡ Less))
  some_below max found m k r is at lt = rw (is, at) (less_tells (cmp k m) r lt)

  none_below : (max found : Option K) (m : K) → max ≡ Some m → found ≡ None → IsTrue true ↔ IfSome max (λ m. IfSome found (λ k. cmp k m ≡ Less))
  none_below max found m is at = rw (is, at) ((λ yes. tt), λ below. refl)

  module _ {T : Type 0} (key_of : T → K) (slots : List T) where
    last_key : (count : ℕ) (last : Option T) → count ≡ length slots → last ≡ slice_get slots (count - 1) → slice_get (map key_of slots) (length (map key_of slots) - 1) ≡ option_map key_of last
    last_key count last counted at =
        ap (λ n. slice_get (map key_of slots) (n - 1)) (length-map slots key_of ∙ sym counted)
        ∙ slice_get-map key_of slots (count - 1)
        ∙ ap (option_map key_of) (sym at)

    pub EndsBelow-last : (count : ℕ) (max : Option K) (last : Option T) (m : K) (x : T) (r : Bool) → count ≡ length slots → last ≡ slice_get slots (count - 1) → max ≡ Some m → last ≡ Some x → is_lt (cmp (key_of x) m) ≡ r → IsTrue r ↔ EndsBelow cmp max (map key_of slots)
    EndsBelow-last count max last m x r counted at is last_is lt =
        some_below max _ m (key_of x) r is (last_key count last counted at ∙ ap (option_map key_of) last_is) lt

    pub EndsBelow-none : (count : ℕ) (max : Option K) (last : Option T) (m : K) → count ≡ length slots → last ≡ slice_get slots (count - 1) → max ≡ Some m → last ≡ None → IsTrue true ↔ EndsBelow cmp max (map key_of slots)
    EndsBelow-none count max last m counted at is last_is =
        none_below max _ m is (last_key count last counted at ∙ ap (option_map key_of) last_is)
