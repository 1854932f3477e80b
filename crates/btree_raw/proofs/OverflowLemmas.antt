-- A node split into two, and a new root over two nodes.
use Rattle.btree_raw.proofs.Common.{◌≡◌, ℕ, ◌<◌, ◌≤◌, [], ◌∷◌, Some, None, sym, ap, ◌∙◌, option_map, arith, IsSplit, with_parent, View, NodeMap, internal, children_of, children_in, size_of, times_listed, Reparents, WritesNode, Splits, times_used, AreThere, CutsAtMedian, HasCount, SetsParent}
use Rattle.btree_laws.specs.Step.{GrowsRoot}
use Rattle.btree_laws.proofs.Splits.Upward.{right-children}
use Rattle.btree_laws.proofs.Trees.Numbers.{used-same}
use Rattle.btree_raw.specs.Steps.{CanGrowRoot, CanSplitInto}

module _ {A : Type 0} (node_at mid : NodeMap A) (id right count : ℕ) (median : A) (part : View A) (can : CanSplitInto node_at id right) (half : CutsAtMedian node_at mid id count median part) where
  parts : IsSplit can.can.node median half.left part
  parts = half.parts can.can.node can.can.here

  pub right-there : 0 < times_used (mid right)
  right-there = used-same node_at mid right (half.writes_node.others right can.apart) can.right_used

  fewer : (n : ℕ) → times_listed n (children_of part) ≤ times_listed n (children_in (node_at id))
  fewer n = let e : children_in (node_at id) ≡ children_of can.can.node = ap children_in can.can.here in
      let r = right-children A n can.can.node half.left part median parts in
      let q = ap (times_listed n) e in omega arith

  apart-left : times_listed id (children_of part) ≡ 0
  apart-left = let z = can.children_apart.0 in let f = fewer id in omega arith

  apart-right : times_listed right (children_of part) ≡ 0
  apart-right = let z = can.children_apart.1 in let f = fewer right in omega arith

  pub adopts-part : AreThere mid (children_of part)
  adopts-part n some =
      let f = fewer n in
      used-same node_at mid n (half.writes_node.others n (λ e. apart-of n e some)) (can.children n (omega arith))
    where
      apart-of : (n : ℕ) → n ≡ id → 0 < times_listed n (children_of part) → ⊥
      apart-of n e some = let z = apart-left in let q = ap (λ k. times_listed k (children_of part)) e in absurd (omega arith)

  module _ (one_look : NodeMap A) (reparents : Reparents mid one_look right (children_of part)) where
    pub right-used : 0 < times_used (one_look right)
    right-used = used-same mid one_look right (reparents.kept right apart-right) right-there

    module _ (new : NodeMap A) (writes_node : WritesNode one_look new right part) where
      left-kept : new id ≡ Some half.left
      left-kept = writes_node.others id (λ e. can.apart (sym e)) ∙ (reparents.kept id apart-left ∙ half.writes_node.here)

      pub splits : Splits node_at new id right median
      splits = record {
        node = can.can.node;
        left = half.left;
        right = part;
        here = can.can.here;
        parts = parts;
        at_left = left-kept;
        at_right = writes_node.here;
        moved = λ n ni nj m.
            writes_node.others n nj ∙ (reparents.moved n m ∙ ap (option_map (with_parent (Some right))) (half.writes_node.others n ni));
        kept = λ n ni nj z. writes_node.others n nj ∙ (reparents.kept n z ∙ half.writes_node.others n ni);
      }

      pub leaves : HasCount new id count
      leaves = ap (option_map size_of) left-kept ∙ ap Some (sym half.counted)

module _ {A : Type 0} (node_at : NodeMap A) (left right root : ℕ) (median : A) (can : CanGrowRoot node_at left right root) where
  module _ (one : NodeMap A) (writes_node : WritesNode node_at one root (internal None left ((median, right) ∷ []))) where
    pub left-there : 0 < times_used (one left)
    left-there = used-same node_at one left (writes_node.others left can.apart.1) can.left_used

    module _ (two : NodeMap A) (first : SetsParent one two left root) where
      pub right-still : 0 < times_used (two right)
      right-still = used-same node_at two right (first.others right (λ e. can.apart.0 (sym e)) ∙ writes_node.others right can.apart.2) can.right_used

      pub grows-root : (new : NodeMap A) → SetsParent two new right root → GrowsRoot node_at new left right root median
      grows-root new second = record {
        root = second.others root (λ e. can.apart.2 (sym e)) ∙ (first.others root (λ e. can.apart.1 (sym e)) ∙ writes_node.here);
        at_left = second.others left can.apart.0 ∙ (first.here ∙ ap (option_map (with_parent (Some root))) (writes_node.others left can.apart.1));
        at_right = second.here ∙ ap (option_map (with_parent (Some root))) (first.others right (λ e. can.apart.0 (sym e)) ∙ writes_node.others right can.apart.2);
        kept = λ n r i j. second.others n j ∙ (first.others n i ∙ writes_node.others n r);
      }
