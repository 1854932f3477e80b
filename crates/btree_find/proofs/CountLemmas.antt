-- How many keys a search compares, on its way down.
use Rattle.btree_find.proofs.Common.{◌≡◌, ◌+◌, ◌<◌, ◌∙◌, ℕ, zero, suc, Option, Some, None, Ok, Err, refl, ap, length, option_map, slice_get, arith, Ordering, place_of, before-from_Err, found-from_Err, Node, view_of, View, children_of, items_of, levels_below, TreeState, node_map, pairs_of, levels_from}
use Rattle.std.proofs.Common.{is_some, if◌then◌else◌}
use Rattle.std.specs.FinMap as nodes_map
use Rattle.btree_item.specs.Pairs.{found}
use Rattle.btree_view.specs.LookUp.{comparisons_in, look_up, offset_in}
use Rattle.btree_internal.proofs.LookUpLemmas.{look_up-Err, look_up-Ok}
use Rattle.btree_find.specs.Levels.{comparisons_after, comparisons_at, comparisons_below, comparisons_from}
use Rattle.btree_find.proofs.SearchLemmas.{placed-err, placed-ok}

found-at : {X : Type 0} (n m p : ℕ) (o : Option X) → (if is_some o then Ok n else Err m) ≡ Ok p → (x : X) × (o ≡ Some x)
found-at n m p None e = absurd (cc)
found-at n m p (Some x) e = (x, refl)

module _ {K Q V : Type 0} (cmp : K → Q → Ordering) (k : Q) where
  module _ (below : ℕ → ℕ) (node : View (K × V)) where
    after-hit : (offset : Option ℕ) → Ok offset ≡ offset_in cmp k node → comparisons_after below (look_up cmp k node) ≡ 0
    after-hit offset e =
        let r = placed-ok (place_of cmp k (items_of node)) (children_of node) offset e in
        let f = found-at _ _ r.0 (found cmp k (items_of node)) r.1 in
        ap (comparisons_after below) (look_up-Ok cmp k node f.0 f.1)

    after-down : (index child : ℕ) → Err (index, Some child) ≡ offset_in cmp k node
        → comparisons_after below (look_up cmp k node) ≡ below child
    after-down index child e =
        let r = placed-err (place_of cmp k (items_of node)) (children_of node) index (Some child) e in
        let absent = found-from_Err cmp k (items_of node) index r.0 in
        let count = before-from_Err cmp k (items_of node) index r.0 in
        ap (comparisons_after below) (look_up-Err cmp k node index child absent count r.1)

    after-miss : (index : ℕ) → Err (index, None) ≡ offset_in cmp k node → comparisons_after below (look_up cmp k node) ≡ 0
    after-miss index e =
        let r = placed-err (place_of cmp k (items_of node)) (children_of node) index None e in
        let absent = found-from_Err cmp k (items_of node) index r.0 in
        let none = ap (slice_get (children_of node)) (before-from_Err cmp k (items_of node) index r.0) ∙ r.1 in
        rw (absent, none) refl

  module _ (s : TreeState K V) (top : ℕ) where
    -- a search from node `top` on has raised a count from old to new, and is at node `id`: so many more are to come
    pub record Counts (id old new : ℕ) : Type 0 where
      pub levels : ℕ
      pub enough : levels_below (node_map s) (length (pairs_of s)) id < levels
      pub counted : new + comparisons_below cmp k (node_map s) levels id ≡ old + comparisons_from cmp k s top

    -- before a search nothing is counted
    pub counts-begin : (old : ℕ) → Counts top old old
    counts-begin old = record { levels = levels_from s top; enough = omega arith; counted = refl }

    module _ (id old new : ℕ) (c : Counts id old new) (node : Node K V) (at : nodes_map.get s.nodes id ≡ Some node)
        (next : ℕ) (ticks : next ≡ new + comparisons_in cmp k (view_of node)) where
      here : node_map s id ≡ Some (view_of node)
      here = ap (option_map view_of) at

      -- one level on
      opened : (m : ℕ) → comparisons_below cmp k (node_map s) (suc m) id
          ≡ comparisons_in cmp k (view_of node) + comparisons_after (comparisons_below cmp k (node_map s) m) (look_up cmp k (view_of node))
      opened m = ap (comparisons_at cmp k (comparisons_below cmp k (node_map s) m)) here

      ends-by : ((below : ℕ → ℕ) → comparisons_after below (look_up cmp k (view_of node)) ≡ 0)
          → (levels : ℕ) → levels_below (node_map s) (length (pairs_of s)) id < levels
          → new + comparisons_below cmp k (node_map s) levels id ≡ old + comparisons_from cmp k s top
          → next ≡ old + comparisons_from cmp k s top
      ends-by none zero enough counted = absurd (omega arith)
      ends-by none (suc m) enough counted =
          let o = opened m in
          let z = none (comparisons_below cmp k (node_map s) m) in
          omega (arith, o, z, counted, ticks)

      -- at a hit the count is that of the whole search
      pub counts-hit : (offset : Option ℕ) → Ok offset ≡ offset_in cmp k (view_of node) → next ≡ old + comparisons_from cmp k s top
      counts-hit offset e = ends-by (λ below. after-hit below (view_of node) offset e) c.levels c.enough c.counted

      -- at a miss in a leaf the count is that of the whole search
      pub counts-miss : (index : ℕ) → Err (index, None) ≡ offset_in cmp k (view_of node) → next ≡ old + comparisons_from cmp k s top
      counts-miss index e = ends-by (λ below. after-miss below (view_of node) index e) c.levels c.enough c.counted

      -- at a child the search goes on with what was counted
      pub counts-down : (index child : ℕ) → Err (index, Some child) ≡ offset_in cmp k (view_of node)
          → levels_below (node_map s) (length (pairs_of s)) child < levels_below (node_map s) (length (pairs_of s)) id
          → Counts child old next
      counts-down index child e smaller = by c.levels c.enough c.counted
        where
          by : (levels : ℕ) → levels_below (node_map s) (length (pairs_of s)) id < levels
              → new + comparisons_below cmp k (node_map s) levels id ≡ old + comparisons_from cmp k s top
              → Counts child old next
          by zero enough counted = absurd (omega arith)
          by (suc m) enough counted =
              let o = opened m in
              let d = after-down (comparisons_below cmp k (node_map s) m) (view_of node) index child e in
              record { levels = m; enough = omega (arith, smaller, enough); counted = omega (arith, o, d, counted, ticks) }
