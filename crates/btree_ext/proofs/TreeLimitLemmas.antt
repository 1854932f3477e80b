-- Trees within their limits: one without pairs, one that was given another limit, and one in which a value was written.
use Rattle.btree_ext.proofs.Common.{◌≡◌, ℕ, ◌≤◌, length, Option, Some, None, ap, sym, subst, arith, Ordering, Address, Node, Kept, TreeState, IsBTree, pairs_of, with_limit, value_written}
use Rattle.std.specs.FinMap as map
use Rattle.btree_laws.specs.TreeState.{rootless}
use Rattle.btree_laws.proofs.Trees.States.{empty-tree}
use Rattle.btree_raw.specs.Limit.{IsBTreeWithinLimit, IsWithinLimit}
use Rattle.btree_ext.specs.ValueWritten.{node_written}

module _ {K V : Type 0} (cmp : K → K → Ordering) where
  pub empty-within : (s : TreeState K V) (kept : Kept) → s ≡ rootless map.empty kept → IsBTreeWithinLimit s cmp
  empty-within s kept is =
      let len : s.len ≡ 0 = ap (λ (t : TreeState K V). t.len) is in
      (empty-tree cmp s (ap (λ (t : TreeState K V). t.nodes) is) (ap (λ (t : TreeState K V). t.root) is) len, omega (arith, len))

  pub limited-within : (old new : TreeState K V) (limit : ℕ) → new ≡ with_limit old limit → IsBTree cmp old → length (pairs_of old) ≤ limit → IsBTreeWithinLimit new cmp
  limited-within old new limit is tree fits =
      let counted : old.len ≡ length (pairs_of old) = tree.counted in
      subst (λ s. IsBTreeWithinLimit s cmp) (sym is) (tree, omega (arith, counted, fits))

module _ {K V : Type 0} (s : TreeState K V) (a : Address) (w : V) where
  pub written-within : IsWithinLimit s → IsWithinLimit (value_written s a w)
  written-within within = by (map.get s.nodes a.id)
    where
      by : (node : Option (Node K V)) → IsWithinLimit (node_written s a w node)
      by None = within
      by (Some node) = within
