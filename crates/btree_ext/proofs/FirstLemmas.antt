-- The first pair of a tree.
use Rattle.btree_ext.proofs.Common.{◌≡◌, ℕ, [], ◌∷◌, length, Some, None, refl, sym, ap, subst, ◌∙◌, arith, insert, Ordering, Address, Node, view_of, leaf, item_in, IsPlace, times_listed, WritesNode, IsStrain, strain_under, TreeState, Changes, IsBTree, node_map, pairs_of, IsWellFormed, times_used, len-views, is-tree, pairs-tree, EMPTY, same-kept, IsInserted}
use Rattle.std.specs.FinMap as map
use Rattle.btree_laws.proofs.Paths.Used.{full-yes}
use Rattle.btree_laws.proofs.Splits.Insertion.{first-well}
use Rattle.btree_laws.proofs.Trees.OneLeaf.{IsOneLeaf, once_here, only-place}
use Rattle.btree_raw.specs.Limit.{IsBelowLimit}
use Rattle.btree_raw.proofs.OnlyLemmas.{only-leaf}
use Rattle.btree_ext.specs.Insert.{IsWithinStrain}

module _ {K V : Type 0} (cmp : K → K → Ordering) (old mid put : TreeState K V) (root : ℕ) (empty : old.root ≡ None) (tree : IsBTree cmp old)
    (node : Node K V) (x : K × V) (claimed : mid ≡ record old { nodes = map.insert old.nodes root EMPTY }) (changes : Changes (λ p q. WritesNode p q root (view_of node)) mid put)
    (is : view_of node ≡ leaf None (x ∷ [])) (a b : Address) (b_is : b ≡ record { id = root; offset = Some 0 }) where
  -- the root and the length are set at the end
  abbrev new : TreeState K V
  new = record put { root = Some root; len = 1 }

  well : IsWellFormed cmp (node_map old) None old.len (pairs_of old)
  well = subst (λ t. IsWellFormed cmp (node_map old) t old.len (pairs_of old)) empty tree

  no-nodes : (n : ℕ) → node_map old n ≡ None
  no-nodes = well.formed.0

  one-leaf : IsOneLeaf (node_map new) root (x ∷ [])
  one-leaf = only-leaf old mid put root node x claimed changes is no-nodes

  first : IsWellFormed cmp (node_map new) (Some root) 1 (x ∷ [])
  first = first-well cmp (node_map new) root x one-leaf.here one-leaf.alone

  pairs-new : pairs_of new ≡ x ∷ []
  pairs-new = pairs-tree cmp new 1 (x ∷ []) first

  used-new : (n : ℕ) → times_listed n (root ∷ []) ≡ times_used (node_map new n)
  used-new n = once_here (node_map new) root (x ∷ []) n one-leaf

  calm : strain_under (node_map new) root (root ∷ []) ≡ 0
  calm = rw one-leaf.here (let s = full-yes root root 0 3 refl in omega arith)

  is-within : map.len old.nodes ≡ 0 → map.len new.nodes ≡ 1 → IsWithinStrain old new
  is-within old_len new_len = record {
    before = 0;
    after = 0;
    strain_before = subst (λ t. IsStrain (node_map old) t 0) (sym empty) refl;
    strain_after = (root ∷ [], used-new, sym calm);
    within_strain = omega arith;
  }

  pub first-inserted : IsBelowLimit old → IsInserted cmp old new a b x
  first-inserted below_limit =
      let old_len : map.len old.nodes ≡ 0 = len-views old.nodes [] (λ n. sym (ap times_used (no-nodes n))) in
      let new_len : map.len new.nodes ≡ 1 = len-views new.nodes (root ∷ []) used-new in
      let zero_len : old.len ≡ 0 = well.counted ∙ ap length well.formed.1 in
      record {
        below_limit = below_limit;
        tree = is-tree cmp new (x ∷ []) first;
        pairs = λ place at.
            let at2 : IsPlace (node_map old) None (pairs_of old) a.id a.offset place = subst (λ t. IsPlace (node_map old) t (pairs_of old) a.id a.offset place) empty at in (
              pairs-new ∙ sym (ap (λ p. insert (pairs_of old) p x) at2.1 ∙ ap (λ l. insert l 0 x) well.formed.1),
              subst (λ (c : Address). IsPlace (node_map new) (Some root) (pairs_of new) c.id c.offset place) (sym b_is)
                  (subst (λ l. IsPlace (node_map new) (Some root) l root (Some 0) place) (sym pairs-new)
                  (subst (λ p. IsPlace (node_map new) (Some root) (x ∷ []) root (Some 0) p) (sym at2.1) (only-place (node_map new) root x one-leaf))),
            );
        item = rw b_is (ap (λ v. item_in v 0) one-leaf.here);
        longer = omega arith;
        nodes = rw empty (omega arith);
        split = λ top at. absurd (let e = empty in cc);
        strain = is-within old_len new_len;
        uncounted = same-kept changes.rest ∙ ap (λ (s : TreeState K V). s.kept) claimed;
      }
