use Rattle.btree_map.proofs.Common.{◌≡◌, IfSome, pairs_of, IsLastPair}
use Rattle.std.specs.Iterator.{IsFinite, size}
use Rattle.btree_map.specs.Extension.{Extends}
use Rattle.btree_map.proofs.map.BTreeMap.extend.Given as goal

abbrev pub invariant-loop-key : goal.invariant-loop-key
invariant-loop-key g l =
    (g.I.Iterator.can_next l.source × IsFinite (g.I.Iterator.remaining l.source))
    × (l.self.kept ≡ l.fn.self.kept)
    × IfSome l.last (IsLastPair l.self)
    × ((r : _) (n : _) (t : _) → Extends g.K.Ord.cmp g.I.Iterator.next_gives (pairs_of l.self) l.source r n t
    → Extends g.K.Ord.cmp g.I.Iterator.next_gives (pairs_of l.fn.self) l.fn.source r n t)

abbrev pub decreases-loop-key : goal.decreases-loop-key
decreases-loop-key g l = size (g.I.Iterator.remaining l.source)
