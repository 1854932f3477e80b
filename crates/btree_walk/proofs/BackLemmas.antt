-- A walk backward: what is left of a node.
use Rattle.btree_walk.proofs.Common.{[], ◌≡◌, ℕ, zero, suc, ◌+◌, ◌-◌, ◌<◌, ◌≤◌, List, ◌∷◌, ◌++◌, length, map, take, Some, None, refl, sym, subst, slice_get, arith, append_assoc, append-nil, length-map, take_all, Bor, view_of, View, leaf, internal, items_of, children_of, size_of, Ancestor, preceding_above, preceding_in, row_before, with_child_before, TreeState, node_map}
use Rattle.std.specs.FinMap as finite
use Rattle.btree_walk.specs.Preceding.{EndsAt, branches_before}
use Rattle.btree_walk.proofs.RowLemmas.{all-more, before-get, before-length, get-within, preceding-more, preceding-push, take-more}
use Rattle.btree_walk.proofs.WayLemmas.{Under, Way}

module _ {A : Type 0} where
  -- nothing is passed yet
  pub whole-row : (v : View A) → row_before v 0 ≡ branches_before v
  whole-row (leaf p ys) = take_all (length ys - 0) [] (omega arith)
  whole-row (internal p first bs) =
      let long = before-length first bs in
      let same = length-map bs (λ (b : A × ℕ). b.0) in
      take_all (length (map (λ (b : A × ℕ). b.0) bs) - 0) (with_child_before first bs) (omega arith)

  -- all items are passed
  pub row-none : (v : View A) (passed : ℕ) → size_of v ≤ passed → row_before v passed ≡ []
  row-none v passed all =
      let none : size_of v - passed ≡ 0 = omega arith in
      rw none refl

  pub row-leaf : (v : View A) (passed index : ℕ) → slice_get (children_of v) index ≡ None → index ≤ size_of v → row_before v passed ≡ []
  row-leaf (leaf p ys) passed index none low = none-kept (length ys - passed)
    where
      none-kept : (n : ℕ) → take {A = A × ℕ} n [] ≡ []
      none-kept zero = refl
      none-kept (suc n) = refl
  row-leaf (internal p first bs) passed index none low =
      let n = length-map bs (λ (b : A × ℕ). b.0) in
      let m = length-map bs (λ (b : A × ℕ). b.1) in
      absurd (get-within (first ∷ map (λ b. b.1) bs) index none (omega arith))

  -- the last item that is not passed
  pub row-some : (v : View A) (passed : ℕ) (item : Bor A) (child : ℕ) → passed < size_of v → slice_get (items_of v) (size_of v - passed - 1) ≡ Some item.now
      → slice_get (children_of v) (size_of v - passed - 1) ≡ Some child → EndsAt v passed (Some (item, child))
  row-some (leaf p ys) passed item child low e f = absurd (cc)
  row-some (internal p first bs) passed item child low e f =
      let n = length (map (λ (b : A × ℕ). b.0) bs) in
      let one : n - passed ≡ suc (n - passed - 1) = omega arith in
      let less : n - (passed + 1) ≡ n - passed - 1 = omega arith in
      rw (one, less) (take-more (with_child_before first bs) (n - passed - 1) (item.now, child) (before-get first bs (n - passed - 1) item.now child e f))

module _ {A : Type 0} (v : View A) (passed : ℕ) (item : Bor A) (child count : ℕ) (counted : count ≡ size_of v) (low : passed < count) where
  -- the same by the number of its items
  pub row-at : slice_get (items_of v) (count - passed - 1) ≡ Some item.now → slice_get (children_of v) (count - passed - 1) ≡ Some child → EndsAt v passed (Some (item, child))
  row-at e f =
      row-some v passed item child (omega arith) (subst (λ n. slice_get (items_of v) (n - passed - 1) ≡ Some item.now) counted e)
      (subst (λ n. slice_get (children_of v) (n - passed - 1) ≡ Some child) counted f)

module _ {K V : Type 0} where
  abbrev pub row_of : Ancestor K V → List ((K × V) × ℕ)
  row_of f = row_before (view_of f.node.now) f.passed

  -- what is left of one is passed from the last branch on
  abbrev pub behind : (tree : TreeState K V) → Way tree
  behind tree = record {
    row_of = row_of;
    in_row = preceding_in (node_map tree) (finite.len tree.nodes);
    in_rows = preceding_above (node_map tree) (finite.len tree.nodes);
    join = λ xs ys. ys ++ xs;
    more = λ b row. row ++ b ∷ [];
    joins = λ xs ys zs. sym (append_assoc zs ys xs);
    none = λ xs. append-nil xs;
    no_branch = refl;
    no_row = refl;
    push = λ rows row. preceding-push (node_map tree) (finite.len tree.nodes) rows row;
    first = λ b row. preceding-more (node_map tree) (finite.len tree.nodes) row b;
    under = λ depth b row all. all-more (λ n. Under tree depth n) row b all;
  }
