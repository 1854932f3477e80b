use Rattle.btree_map.proofs.Common.{◌≡◌, length, pairs_of, inserted_all}
use Rattle.btree_map.specs.Extension.{Moves}
use Rattle.btree_map.proofs.map.BTreeMap.append.Given as goal

abbrev pub invariant-loop-key : goal.invariant-loop-key
invariant-loop-key g l =
    (l.self.kept ≡ l.fn.self.kept)
    × (l.other.kept ≡ l.fn.other.kept)
    × (inserted_all g.K.Ord.cmp (pairs_of l.self) (pairs_of l.other) ≡ inserted_all g.K.Ord.cmp (pairs_of l.fn.self) (pairs_of l.fn.other))
    × ((x : _) (new : _) (rest : _) → Moves g.K.Ord.cmp (pairs_of l.self) (pairs_of l.other) x new rest
    → Moves g.K.Ord.cmp (pairs_of l.fn.self) (pairs_of l.fn.other) x new rest)

abbrev pub decreases-loop-key : goal.decreases-loop-key
decreases-loop-key g l = length (pairs_of l.other)
