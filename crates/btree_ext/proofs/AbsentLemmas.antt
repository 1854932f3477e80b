-- An insertion of an absent key at the address of its gap.
use Rattle.btree_ext.proofs.Common.{◌≡◌, ℕ, Option, Some, None, Err, refl, is_some, if◌then◌else◌, Ok, IsTotalOrder, Ordering, before, found, Address, Cause, Node, IsRefused, Content, TreeState, IsBTree, IsPlaceIn, node_map, pairs_of, IsGapAt, has-place, IsGapFor, IsInserted}
use Rattle.btree_raw.proofs.UpwardLemmas.{some-back}
use Rattle.btree_laws.specs.TreeAddresses.{HasAddresses}
use Rattle.btree_laws.proofs.AddressLists.Whole.{addresses-tree}
use Rattle.btree_find.proofs.FitsLemmas.{item-occupied}
use Rattle.btree_find.proofs.SearchLemmas.{gap-at}
use Rattle.btree_ext.specs.Insert.{IsRefusedAtGap}
use Rattle.btree_ext.specs.InsertAbsent.{InsertsAbsent, IsGapOf}
use Rattle.btree_ext.proofs.InsertLemmas.{gap-for, put-inserted_by_key}
use Rattle.btree_ext.proofs.RefusalLemmas.{refused-at-gap}

placed-gap : {X : Type 0} (o : Option X) (n : ℕ) → o ≡ None → (if is_some o then Ok n else Err n) ≡ Err n
placed-gap None n none = refl
placed-gap (Some x) n none = absurd (cc)

module _ {K V : Type 0} (cmp : K → K → Ordering) (laws : IsTotalOrder cmp) (old : TreeState K V) (tree : IsBTree cmp old) (k : K) (w : V)
    (none : found cmp k (pairs_of old) ≡ None) (a : Address) (gap : IsGapOf cmp k old a) where
  abbrev place : ℕ
  place = before cmp k (pairs_of old)

  addresses : HasAddresses old
  addresses = addresses-tree cmp laws old tree

  at-gap : IsPlaceIn old a place
  at-gap = (addresses.leaf_backs.right place a gap).3

  pub gap-there : IsGapAt cmp k old a
  gap-there =
      let r = addresses.leaf_backs.right place a gap in
      gap-at cmp k laws old tree a place r.0 (placed-gap (found cmp k (pairs_of old)) place none) r.3 r.1 (some-back (node_map old) a.offset r.2)

  pub gap-for-absent : IsGapFor cmp k old a
  gap-for-absent = gap-for cmp laws old k w tree a gap-there

  pub inserts-absent : (new : TreeState K V) (b : Address) → IsInserted cmp old new a b (k, w) → InsertsAbsent cmp k old new w b
  inserts-absent new b is =
      let there = is.pairs place at-gap in
      record {
        tree = is.tree;
        pairs = there.0;
        there = has-place cmp laws new is.tree b place there.1;
        occupied = item-occupied new b (rw is.item refl);
        item = is.item;
        by_key = put-inserted_by_key cmp laws old k w tree a gap-there new b is;
        uncounted = is.uncounted;
      }

  pub refused-absent : {MayRefuse : Content (Node K V) → Type 0} (new : TreeState K V) (cause : Cause)
      → IsRefused MayRefuse a.id old new cause → IsRefusedAtGap cmp k old new MayRefuse cause
  refused-absent new cause refused = refused-at-gap cmp old tree new k a gap-there cause refused
