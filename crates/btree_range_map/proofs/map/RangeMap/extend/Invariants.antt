use Rattle.btree_range_map.proofs.Common.{◌≡◌, GoesThrough, GrowsWithinLimit}
use Rattle.std.specs.Iterator.{IsFinite, size}
use Rattle.btree_range_map.proofs.map.RangeMap.extend.Given as goal

abbrev pub invariant-loop-start : goal.invariant-loop-start
invariant-loop-start g l =
    (g.I.Iterator.can_next l.source × IsFinite (g.I.Iterator.remaining l.source))
    × (l.self.kept ≡ l.fn.self.kept)
    × GrowsWithinLimit l.fn.self l.self
    × ((outcome : _) (new : _) (rest : _) → GoesThrough g.I.Iterator.next_gives l.self l.source outcome new rest
    → GoesThrough g.I.Iterator.next_gives l.fn.self l.fn.source outcome new rest)

abbrev pub decreases-loop-start : goal.decreases-loop-start
decreases-loop-start g l = size (g.I.Iterator.remaining l.source)
