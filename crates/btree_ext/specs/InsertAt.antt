-- What an insertion at an address leaves of a tree. An address of an internal node stands for the one in a leaf at the
-- same place (`IsLeafAddressFor`), where the pair is inserted: `IsInserted` says the rest, the needed nodes included.
use Rattle.std.specs.Prelude.{◌≡◌, ℕ, ◌+◌, ◌≤◌, IsSome}
use Rattle.std.specs.FinMap as map
use Rattle.std.specs.List.{insert, remove}
use Rattle.std.specs.declared.cmp.Ordering.{Ordering}
use Rattle.btree_store.specs.Content.{Content}
use Rattle.btree_item.specs.Address.{Address}
use Rattle.btree_item.specs.declared.refused.Cause.{Cause}
use Rattle.btree_node.specs.declared.node.Node.{Node}
use Rattle.btree_laws.specs.TreeState.{TreeState, HasLevels, IsValidIn, pairs_of}
use Rattle.btree_find.specs.Navigation.{HasPlace, IsLeafAddressFor}
use Rattle.btree_raw.specs.Insertion.{IsRefused}
use Rattle.btree_ext.specs.Insert.{IsInserted, LeavesPairs}

module _ {K V : Type 0} (old new : TreeState K V) (a : Address) where
  -- the pair was inserted at the place of address a, by way of the leaf address there, and is at address b; to remove
  -- it from the list again gives the old list
  pub record InsertsAt (cmp : K → K → Ordering) (b : Address) (x : K × V) : Type 0 where
    pub leaf : Address
    pub leaf_for : IsLeafAddressFor old a leaf
    pub inserted : IsInserted cmp old new leaf b x
    pub place : ℕ
    pub has : HasPlace old a place
    pub pairs : pairs_of new ≡ insert (pairs_of old) place x
    pub restores : remove (pairs_of new) place ≡ pairs_of old
    pub valid : IsValidIn new b
    pub back : IsSome b.offset
    pub there : HasPlace new b place
    pub few : (levels : ℕ) → HasLevels old levels → map.len new.nodes ≤ map.len old.nodes + (levels + 1)

  -- an insertion at the place of address a was refused at the leaf there
  pub record IsRefusedAt (MayRefuse : Content (Node K V) → Type 0) (cause : Cause) : Type 0 where
    pub leaf : Address
    pub leaf_for : IsLeafAddressFor old a leaf
    pub refused : IsRefused MayRefuse leaf.id old new cause
    pub leaves : LeavesPairs old new cause
