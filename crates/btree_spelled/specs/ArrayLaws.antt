-- Values in a row are read as they were written, and what is read is spelled so.
use Rattle.std.proofs.Common.{◌≡◌, ℕ, zero, suc, ◌+◌, ◌-◌, ◌<◌, List, [], ◌∷◌, ◌++◌, Option, Some, None, refl, sym, ap, subst, ◌∙◌, append_assoc, arith}
use Rattle.std.specs.Prelude.{option_map}
use Rattle.std.specs.Option.{option_and_then}
use Rattle.std.proofs.lemmas.List.{flat_map_more}
use Rattle.btree_spelled.specs.Arrays.{items_bytes, items_read}
use Rattle.btree_spelled.specs.NumberLaws.{AreBytes-rest, some_is}
use Rattle.btree_spelled.specs.Spelled.{AreBytes, Read}

module _ {T : Type 0} (spell : T → List ℕ) (read : Read T) where
  -- the bytes of one value more
  bytes-more : (items : List T) (x : T) (rest : List ℕ) → items_bytes spell (items ++ x ∷ []) ++ rest ≡ items_bytes spell items ++ (spell x ++ rest)
  bytes-more items x rest = ap (λ (t : List ℕ). t ++ rest) (sym (flat_map_more spell [] items x)) ∙ append_assoc (items_bytes spell items) (spell x) rest

  pub again-more : (n : ℕ) (items : List T) (x : T) → ((rest : List ℕ) → items_read read n (items_bytes spell items ++ rest) ≡ Some (items, rest)) → ((rest : List ℕ) → read (spell x ++ rest) ≡ Some (x, rest))
      → (rest : List ℕ) → items_read read (n + 1) (items_bytes spell (items ++ x ∷ []) ++ rest) ≡ Some (items ++ x ∷ [], rest)
  unfolding items_read
  again-more n items x before last rest =
      let next : n + 1 ≡ suc n = omega arith in
      rw (next, bytes-more items x rest, before, last) refl

  module _ (takes : (bytes rest : List ℕ) (x : T) → AreBytes bytes → read bytes ≡ Some (x, rest) → bytes ≡ spell x ++ rest) where
    last_is : (bytes rest : List ℕ) (xs ys : List T) (mid : List ℕ) → AreBytes mid → bytes ≡ items_bytes spell ys ++ mid → (last : Option (T × List ℕ)) → read mid ≡ last
        → option_map {U = List T × List ℕ} (λ s. (ys ++ s.0 ∷ [], s.1)) last ≡ Some (xs, rest) → bytes ≡ items_bytes spell xs ++ rest
    last_is bytes rest xs ys mid fits begins None h e = absurd cc
    last_is bytes rest xs ys mid fits begins (Some s) h e =
        subst (λ (y : List T × List ℕ). bytes ≡ items_bytes spell y.0 ++ y.1) (some_is (ys ++ s.0 ∷ [], s.1) (xs, rest) e)
        (begins ∙ ap (λ (t : List ℕ). items_bytes spell ys ++ t) (takes mid s.1 s.0 fits h) ∙ sym (bytes-more ys s.0 s.1))

    before_is : (bytes rest : List ℕ) (xs : List T) → AreBytes bytes → (before : Option (List T × List ℕ)) → ((ys : List T) (mid : List ℕ) → before ≡ Some (ys, mid) → bytes ≡ items_bytes spell ys ++ mid)
        → option_and_then {U = List T × List ℕ} (λ f. option_map {U = List T × List ℕ} (λ s. (f.0 ++ s.0 ∷ [], s.1)) (read f.1)) before ≡ Some (xs, rest) → bytes ≡ items_bytes spell xs ++ rest
    before_is bytes rest xs fits None held e = absurd cc
    before_is bytes rest xs fits (Some f) held e =
        let begins = held f.0 f.1 refl in
        last_is bytes rest xs f.0 f.1 (AreBytes-rest (items_bytes spell f.0) f.1 (subst AreBytes begins fits)) begins (read f.1) refl e

    pub items-takes : (n : ℕ) (bytes rest : List ℕ) (xs : List T) → AreBytes bytes → items_read read n bytes ≡ Some (xs, rest) → bytes ≡ items_bytes spell xs ++ rest
    unfolding items_read
    items-takes zero bytes rest xs fits e = subst (λ (y : List T × List ℕ). bytes ≡ items_bytes spell y.0 ++ y.1) (some_is ([], bytes) (xs, rest) e) refl
    items-takes (suc n) bytes rest xs fits e = before_is bytes rest xs fits (items_read read n bytes) (λ ys mid h. items-takes n bytes mid ys fits h) e

  pub read-start : (bytes : List ℕ) → items_read read 0 bytes ≡ Some ([], bytes)
  unfolding items_read
  read-start bytes = refl

  -- one value more is read, or none is
  pub read-more : (n : ℕ) (bytes rest after : List ℕ) (items : List T) (x : T) → items_read read n bytes ≡ Some (items, rest) → read rest ≡ Some (x, after) → items_read read (n + 1) bytes ≡ Some (items ++ x ∷ [], after)
  unfolding items_read
  read-more n bytes rest after items x before last =
      let next : n + 1 ≡ suc n = omega arith in
      rw (next, before, last) refl

  read-stop : (n : ℕ) (bytes rest : List ℕ) (items : List T) → items_read read n bytes ≡ Some (items, rest) → read rest ≡ None → items_read read (n + 1) bytes ≡ None
  unfolding items_read
  read-stop n bytes rest items before last =
      let next : n + 1 ≡ suc n = omega arith in
      rw (next, before, last) refl

  none-after : (n m : ℕ) (bytes : List ℕ) → items_read read n bytes ≡ None → items_read read (n + m) bytes ≡ None
  unfolding items_read
  none-after n zero bytes none =
      let same : n + 0 ≡ n = omega arith in
      rw same none
  none-after n (suc m) bytes none =
      let next : n + suc m ≡ suc (n + m) = omega arith in
      rw (next, none-after n m bytes none) refl

  -- where one of the values is not read, they are not
  pub read-none : (n most : ℕ) (bytes rest : List ℕ) (items : List T) → n < most → items_read read n bytes ≡ Some (items, rest) → read rest ≡ None → items_read read most bytes ≡ None
  read-none n most bytes rest items less before last =
      let all : most ≡ n + 1 + (most - (n + 1)) = omega arith in
      rw all (none-after (n + 1) (most - (n + 1)) bytes (read-stop n bytes rest items before last))
