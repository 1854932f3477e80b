-- How many pairs and levels a tree that is off by one at a node has.
use Rattle.btree_raw.proofs.Common.{◌+◌, ◌≤◌, if◌then◌else◌, Bool, true, false, ℕ, List, arith, nat_lt, Ordering, NodeMap, IsCountingUpward, count_at, most_at, IsOffByOne}
use Rattle.btree_laws.specs.Focus.Need.{path_need}
use Rattle.btree_laws.specs.WellFormed.{IsNearlySized}
use Rattle.btree_laws.proofs.Paths.Levels.{levels-rooted}
use Rattle.btree_raw.proofs.NeedLemmas.{path_need-few}

either-low : (b : Bool) (x y : ℕ) → (if b then x else y) ≤ x + y
either-low true x y = omega arith
either-low false x y = omega arith

-- splits on at most 32 levels need few nodes
pub split_need-few : {K V : Type 0} (cmp : K → K → Ordering) (node_at : NodeMap (K × V)) (root exempt most id all : ℕ) (xs : List (K × V))
    → IsOffByOne cmp node_at root exempt xs → IsCountingUpward (K × V) node_at root xs most id 0 all → all ≤ 33
split_need-few {K} {V} cmp node_at root exempt most id all xs w s =
    let d = levels-rooted (K × V) node_at root xs (IsNearlySized root exempt) w.rooted s.height s.path s.subtree s.focused in
    let n = path_need-few (K × V) s.height s.path in
    let low = w.low in
    let l = s.left in
    let e = either-low (nat_lt (count_at (K × V) s.height s.subtree) (most_at s.height)) 0 (path_need s.path) in
    omega arith
