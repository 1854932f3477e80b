-- What a refused insertion leaves, said of the list.
use Rattle.btree_ext.proofs.Common.{ℕ, ap, arith, Ordering, Address, Cause, Node, Content, TreeState, IsBTree, pairs_of, IsRefused, IsGapAt}
use Rattle.btree_item.specs.declared.refused.Cause.TheVariants.{Store, Count}
use Rattle.btree_find.specs.Navigation.{IsLeafAddressFor}
use Rattle.btree_ext.specs.Insert.{IsRefusedAtGap, LeavesPairs}
use Rattle.btree_ext.specs.InsertAt.{IsRefusedAt}

module _ {K V : Type 0} (cmp : K → K → Ordering) (old : TreeState K V) (tree : IsBTree cmp old) (new : TreeState K V) where
  leaves-pairs : (MayRefuse : Content (Node K V) → Type 0) (id : ℕ) (cause : Cause) → IsRefused MayRefuse id old new cause
      → LeavesPairs old new cause
  leaves-pairs MayRefuse id Store r = record {
    pairs = ap (λ (s : TreeState K V). pairs_of s) r.0;
    len = ap (λ (s : TreeState K V). s.len) r.0;
    counts = (ap (λ (s : TreeState K V). s.kept) r.0, let n = tree.counted in let m = r.2 in omega arith);
  }
  leaves-pairs MayRefuse id Count r = record {
    pairs = ap (λ (s : TreeState K V). pairs_of s) r.0;
    len = ap (λ (s : TreeState K V). s.len) r.0;
    counts = (ap (λ (s : TreeState K V). s.kept) r.0, let n = tree.counted in let m = r.1 in omega arith);
  }

  module _ {MayRefuse : Content (Node K V) → Type 0} where
    pub refused-at-gap : (k : K) (gap : Address) → IsGapAt cmp k old gap → (cause : Cause) → IsRefused MayRefuse gap.id old new cause
        → IsRefusedAtGap cmp k old new MayRefuse cause
    refused-at-gap k gap is cause r = record { gap = gap; is_gap = is; refused = r; leaves = leaves-pairs MayRefuse gap.id cause r }

    pub refused-at : (a leaf : Address) → IsLeafAddressFor old a leaf → (cause : Cause) → IsRefused MayRefuse leaf.id old new cause
        → IsRefusedAt old new a MayRefuse cause
    refused-at a leaf for cause r = record { leaf = leaf; leaf_for = for; refused = r; leaves = leaves-pairs MayRefuse leaf.id cause r }
