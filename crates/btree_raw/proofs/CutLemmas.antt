-- A node that is cut if it has an item too many.
use Rattle.btree_raw.proofs.Common.{◌≡◌, ◌∙◌, ◌∷◌, ◌++◌, [], ℕ, ◌≤◌, List, Option, Some, ap, option_map, refl, subst, sym, Content, Node, view_of, IsSplit, NodeMap, View, most_of, parent_of, size_of, Splits, views, HasCount, Overflows}
use Rattle.std.specs.FinMap as map
use Rattle.btree_store.specs.ContentLaws.{insert-same}
use Rattle.btree_view.specs.Edits.{IsOverflowing}
use Rattle.btree_raw.specs.OverflowSplit.{CutsNode, StaysWhole}
use Rattle.btree_raw.specs.Steps.{CanCut, LeavesPart}
use Rattle.btree_raw.proofs.StepLemmas.{halves}

module _ {K V : Type 0} (nodes : Content (Node K V)) (id : ℕ) (node : Node K V) where
  abbrev whole : Content (Node K V)
  whole = map.insert nodes id node

  module _ (at : Some node ≡ map.get nodes id) where
    pub here-there : views nodes id ≡ Some (view_of node)
    here-there = ap (option_map view_of) (sym at)

    pub over-there : IsOverflowing (view_of node) → Overflows (views nodes) id
    over-there over = record { node = view_of node; here = here-there; over = over }

    abbrev pub part-there : (left : Node K V) (kept : ℕ) (median : K × V) (part : Node K V) → kept ≡ size_of (view_of left)
        → IsSplit (view_of node) median (view_of left) (view_of part) → (spare : List ℕ) → CanCut (views nodes) id spare
        → LeavesPart (views (map.insert nodes id left)) (view_of part) spare
    part-there left kept median part counted parts spare can = record {
      whole = views nodes;
      id = id;
      kept = kept;
      median = median;
      half = halves nodes id node at (map.insert nodes id left) left part kept median counted parts refl;
      can = can;
    }

    pub stays-there : size_of (view_of node) ≤ most_of (view_of node) → StaysWhole (views nodes) (views whole) id
    stays-there room = record { node = view_of node; here = here-there; room = room; same = ap (λ n. views n) (insert-same nodes id node (sym at)) }

-- the right part of the cut node was placed
pub cuts-node : {K V : Type 0} (whole new : NodeMap (K × V)) (id : ℕ) (spare rest : List ℕ) (v : View (K × V)) → whole id ≡ Some v → IsOverflowing v
    → (parent : Option ℕ) → parent ≡ parent_of v → (kept : ℕ) (median : K × V) (right : ℕ) → spare ≡ rest ++ right ∷ [] → Splits whole new id right median
    → HasCount new id kept → CutsNode whole new id spare rest parent kept median right
cuts-node whole new id spare rest v here over parent is kept median right last splits leaves = record {
  named = ap (option_map parent_of) here ∙ ap Some (sym is);
  last = last;
  splits = splits;
  over = let q : Some v ≡ Some splits.node = sym here ∙ splits.here in
      let e : v ≡ splits.node = cc in subst (λ v. IsOverflowing v) e over;
  leaves = leaves;
}
