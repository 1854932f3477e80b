-- A step of the iterator over slots, from either end.
use Rattle.btree_item.proofs.Common.{◌≡◌, ◌<◌, List, [], ◌∷◌, ◌++◌, Option, Some, None, length, map, refl, sym, ◌∙◌, ap, arith, somes}
use Rattle.std.specs.Borrow.{Bor}
use Rattle.std.specs.Iterator.{YieldsFirstRef, YieldsLastRef, MakesProgress, item_count}
use Rattle.std.proofs.lemmas.List.{length-append}
use Rattle.std.specs.Option.{option_copied}
use Rattle.btree_item.specs.Somes.{AreSome}
use Rattle.btree_item.proofs.SomesLemmas.{somes_from_map, AreSome-from_map, length-somes}

module _ {T : Type 0} where
  gives_first : (xs : List T) (o : Option T) (slots : List (Option T)) (r : Option (Bor T)) → o ∷ slots ≡ map Some xs → option_copied r ≡ o → YieldsFirstRef (λ rest. rest) xs r (somes slots)
  gives_first [] o slots r are is = cc
  gives_first (x ∷ xs) o slots None are is = absurd (cc)
  gives_first (x ∷ xs) o slots (Some y) are is =
      let rest : slots ≡ map Some xs = cc in
      let same : somes slots ≡ xs = somes_from_map slots xs rest in
      let first : x ≡ y.now = cc in
      cc

  AreSome-rest : (xs : List T) (o : Option T) (slots : List (Option T)) → o ∷ slots ≡ map Some xs → AreSome slots
  AreSome-rest [] o slots are = absurd (cc)
  AreSome-rest (x ∷ xs) o slots are = AreSome-from_map slots xs (cc)

  pub first_is_yielded : (all slots : List (Option T)) (o : Option T) (r : Option (Bor T)) → AreSome all → all ≡ o ∷ slots → option_copied r ≡ o → YieldsFirstRef (λ rest. rest) (somes all) r (somes slots)
  first_is_yielded all slots o r h split is = gives_first (somes all) o slots r (sym split ∙ h.are) is

  pub AreSome-tail : (all slots : List (Option T)) (o : Option T) → AreSome all → all ≡ o ∷ slots → AreSome slots
  AreSome-tail all slots o h split = AreSome-rest (somes all) o slots (sym split ∙ h.are)

  -- a list of options that ends in an option, as the values in it
  somes-last : (slots : List (Option T)) (o : Option T) → somes (slots ++ o ∷ []) ≡ somes slots ++ somes (o ∷ [])
  somes-last [] o = refl
  somes-last (None ∷ slots) o = somes-last slots o
  somes-last (Some x ∷ slots) o = ap (λ rest. x ∷ rest) (somes-last slots o)

  are_but_last : (xs : List T) (slots : List (Option T)) (o : Option T) → slots ++ o ∷ [] ≡ map Some xs → AreSome slots
  are_but_last xs [] o are = record { are = refl }
  are_but_last [] (s ∷ slots) o are = absurd (cc)
  are_but_last (x ∷ xs) (s ∷ slots) o are =
      let rest : slots ++ o ∷ [] ≡ map Some xs = cc in
      let first : s ≡ Some x = cc in
      let below : AreSome slots = are_but_last xs slots o rest in
      record { are = rw first (ap (λ l. Some x ∷ l) below.are) }

  is_some_last : (xs : List T) (slots : List (Option T)) → slots ++ None ∷ [] ≡ map Some xs → ⊥
  is_some_last [] [] are = absurd (cc)
  is_some_last [] (s ∷ slots) are = absurd (cc)
  is_some_last (x ∷ xs) [] are = absurd (cc)
  is_some_last (x ∷ xs) (s ∷ slots) are =
      let rest : slots ++ None ∷ [] ≡ map Some xs = cc in
      is_some_last xs slots rest

  gives_last : (slots : List (Option T)) (xs : List T) (o : Option T) (r : Option (Bor T)) → slots ++ o ∷ [] ≡ map Some xs → option_copied r ≡ o → YieldsLastRef (λ rest. rest) (somes (slots ++ o ∷ [])) r (somes slots)
  gives_last slots xs None r are is = absurd (is_some_last xs slots are)
  gives_last slots xs (Some x) None are is = absurd (cc)
  gives_last slots xs (Some x) (Some y) are is =
      let last : x ≡ y.now = cc in
      rw (sym last) (somes-last slots (Some x))

  pub last_is_yielded : (all slots : List (Option T)) (o : Option T) (r : Option (Bor T)) → AreSome all → all ≡ slots ++ o ∷ [] → option_copied r ≡ o → YieldsLastRef (λ rest. rest) (somes all) r (somes slots)
  last_is_yielded all slots o r h split is = rw split (gives_last slots (somes all) o r (sym split ∙ h.are) is)

  pub AreSome-but_last : (all slots : List (Option T)) (o : Option T) → AreSome all → all ≡ slots ++ o ∷ [] → AreSome slots
  AreSome-but_last all slots o h split = are_but_last (somes all) slots o (sym split ∙ h.are)

  shorter : (xs ys : List T) (x : T) → xs ≡ ys ++ x ∷ [] → length ys < length xs
  shorter xs ys x is = rw is (omega (arith, length-append ys (x ∷ [])))

  pub last-goes : {can : List T → Type 0} → ((xs : List T) → can xs) → (all slots : List (Option T)) (o : Option T) (r : Option (Bor T)) → AreSome all → all ≡ slots ++ o ∷ [] → option_copied r ≡ o → MakesProgress can (item_count (λ rest. rest)) (somes all) r (somes slots)
  last-goes everywhere all slots o None h split is =
      let none : o ≡ None = sym is in
      absurd (is_some_last (somes all) slots (rw (sym none) (sym split ∙ h.are)))
  last-goes everywhere all slots o (Some y) h split is =
      let last : somes all ≡ somes slots ++ y.now ∷ [] = last_is_yielded all slots o (Some y) h split is in
      record { on = λ _. (everywhere (somes slots), tt, shorter (somes all) (somes slots) y.now last); keeps = everywhere (somes slots); rests = λ _. tt }

pub ruleset slot_steps = (first_is_yielded, AreSome-tail, length-somes)

pub ruleset slot_steps_back = (last_is_yielded, AreSome-but_last, length-somes)
