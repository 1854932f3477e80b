-- The count of the nodes that splits need, step by step.
use Rattle.btree_raw.proofs.Common.{◌≡◌, ◌+◌, ◌<◌, ◌≤◌, ◌∙◌, ℕ, Option, Bool, Some, None, IsSome, sym, ap, arith, option_map, nat_lt, Content, Node, View, most_of, parent_of, size_of, IsCountingUpward, split_need, levels_above, views, used-view, IsCountingSplits, split_key}
use Rattle.std.specs.FinMap as map
use Rattle.btree_laws.proofs.Splits.Need.{upward-done, upward-root, upward-up, upward-used}
use Rattle.btree_raw.proofs.AlikeLemmas.{KeyAt, full-alike, key-at, levels-alike, low-alike, need-alike, used-alike}

module _ {K V : Type 0} (nodes : Content (Node K V)) (most start id counted : ℕ) (s : IsCountingSplits (views nodes) most start id counted) where
  abbrev all : ℕ
  all = split_need s.tree most start

  same-all : split_need s.tree most start ≡ split_need (views nodes) most start
  same-all = sym (need-alike (views nodes) s.tree s.alike most start)

  pub count-there : IsSome (map.get nodes id)
  count-there =
      let u = upward-used (K × V) s.tree s.root s.xs most id counted all s.upward in
      let e = used-alike (views nodes) s.tree s.alike id in
      used-view nodes id (omega arith)

  module _ (v : View (K × V)) (at : views nodes id ≡ Some v) where
    -- the node of the tree
    abbrev key : KeyAt (s.tree id) (split_key v)
    key = key-at (s.tree id) (split_key v) (s.alike id ∙ ap (option_map split_key) at)

    same-room : nat_lt (size_of key.node) (most_of key.node) ≡ nat_lt (size_of v) (most_of v)
    same-room = ap (λ (k : Option ℕ × Bool). k.1) key.key

    same-up : parent_of key.node ≡ parent_of v
    same-up = ap (λ (k : Option ℕ × Bool). k.0) key.key

    pub count-all : size_of v < most_of v → (counted ≡ split_need (views nodes) most start) × (counted ≤ 33)
    count-all less =
        let low = low-alike (size_of key.node) (most_of key.node) (size_of v) (most_of v) same-room less in
        let e = upward-done (K × V) s.tree s.root s.xs most id counted all s.upward key.node key.here low in
        let f = s.few in
        (e ∙ same-all, omega arith)

    module _ (full : most_of v ≤ size_of v) where
      tree-full : most_of key.node ≤ size_of key.node
      tree-full = full-alike (size_of key.node) (most_of key.node) (size_of v) (most_of v) same-room full

      pub count-top : parent_of v ≡ None → (counted + 2 ≡ split_need (views nodes) most start) × (counted + 2 ≤ 33)
      count-top up =
          let e = upward-root (K × V) s.tree s.root s.xs most id counted all s.upward key.node key.here tree-full (same-up ∙ up) in
          let f = s.few in
          (e ∙ same-all, omega arith)

      module _ (p : ℕ) (up : parent_of v ≡ Some p) where
        next : IsCountingUpward (K × V) s.tree s.root s.xs most p (counted + 1) all × (levels_above s.tree most p < levels_above s.tree most id)
        next = upward-up (K × V) s.tree s.root s.xs most id counted all s.upward key.node key.here p tree-full (same-up ∙ up)

        pub count-next : IsCountingSplits (views nodes) most start p (counted + 1)
        count-next = record { tree = s.tree; alike = s.alike; root = s.root; xs = s.xs; upward = next.0; few = s.few }

        pub count-smaller : levels_above (views nodes) most p < levels_above (views nodes) most id
        count-smaller =
            let l = next.1 in
            let a = levels-alike (views nodes) s.tree s.alike most p in
            let b = levels-alike (views nodes) s.tree s.alike most id in
            omega arith

        pub count-fits : counted + 1 ≤ 33
        count-fits = let l = next.0.left in let f = s.few in omega arith
