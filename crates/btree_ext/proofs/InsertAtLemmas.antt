-- An insertion at an address: the gap at the address in a leaf at its place, and what the insertion there leaves.
use Rattle.btree_ext.proofs.Common.{◌≡◌, ◌≢◌, ℕ, Option, Some, None, IsSome, refl, sym, subst, option_and_then, arith, remove, IsTotalOrder, Ordering, Address, is_internal, View, NodeMap, leaf, internal, item_in, IsLeaf, TreeState, IsBTree, IsPlaceIn, node_map, pairs_of, has-place, IsGapFor, IsInserted}
use Rattle.std.proofs.Common.{false}
use Rattle.btree_item.proofs.PairEdits.{remove-insert}
use Rattle.btree_raw.specs.Steps.{CanAddItem}
use Rattle.btree_laws.proofs.Trees.ValidPlaces.{place-valid}
use Rattle.btree_find.specs.Fits.{FitsAt}
use Rattle.btree_find.specs.Navigation.{IsLeafAddressFor}
use Rattle.btree_ext.specs.InsertAt.{InsertsAt}
use Rattle.btree_ext.proofs.LevelLemmas.{need-levels}

-- an offset at which something is, is not -1
offset-there : {X : Type 0} (at : ℕ → Option X) (x : X) (offset : Option ℕ) → option_and_then at offset ≡ Some x → IsSome offset
offset-there at x None e = absurd (cc)
offset-there at x (Some n) e = refl

-- a node that takes an item without a child is a leaf
kind-leaf : {A : Type 0} (node_at : NodeMap A) (v : View A) → false ≡ is_internal v → IsLeaf node_at (Some v)
kind-leaf node_at (leaf p xs) kind = tt
kind-leaf node_at (internal p u bs) kind = absurd (cc)

pub can-leaf : {K V : Type 0} (s : TreeState K V) (id index : ℕ) → CanAddItem (node_map s) id index None → IsLeaf (node_map s) (node_map s id)
can-leaf s id index can = subst (λ v. IsLeaf (node_map s) v) (sym can.here) (kind-leaf (node_map s) can.node can.kind)

pub rooted : {K V : Type 0} (s : TreeState K V) (root : ℕ) → s.root ≡ Some root → s.root ≢ None
rooted s root e none = absurd (cc)

module _ {K V : Type 0} (cmp : K → K → Ordering) (laws : IsTotalOrder cmp) (old : TreeState K V) (tree : IsBTree cmp old) (x : K × V)
    (a : Address) (fits : FitsAt cmp x.0 old a) (found : Address) (to : IsLeafAddressFor old a found) where
  leaf-place : IsPlaceIn old found fits.place
  leaf-place = subst (λ p. IsPlaceIn old found p) (fits.has.only to.place to.has.at) to.there.at

  -- the key fits at the address in a leaf, at the same place
  pub gap-at-leaf : IsSome a.offset → IsGapFor cmp x.0 old found
  gap-at-leaf back = record {
    place = fits.place;
    at = leaf-place;
    in_leaf = to.in_leaf;
    back = to.back.0 back;
    fits = fits.fits;
  }

  -- an insertion there is one at the place of the given address
  pub inserts-at : (new : TreeState K V) (b : Address) → IsInserted cmp old new found b x → InsertsAt old new a cmp b x
  inserts-at new b is =
      let at = is.pairs fits.place leaf-place in
      record {
        leaf = found;
        leaf_for = to;
        inserted = is;
        place = fits.place;
        has = fits.has;
        pairs = at.0;
        restores = subst (λ l. remove l fits.place ≡ pairs_of old) (sym at.0) (remove-insert (pairs_of old) fits.place x fits.fits.within);
        valid = place-valid (node_map new) new.root (pairs_of new) b.id b.offset fits.place at.1;
        back = offset-there (item_in (node_map new b.id)) x b.offset is.item;
        there = has-place cmp laws new is.tree b fits.place at.1;
        few = λ levels are.
            let e = is.nodes in
            let n = need-levels cmp old tree found to.in_leaf levels are in
            omega arith;
      }
