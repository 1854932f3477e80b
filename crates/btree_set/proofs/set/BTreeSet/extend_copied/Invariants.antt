use Rattle.btree_set.proofs.Common.{◌≡◌, IfSome, IsLastPair}
use Rattle.std.specs.Iterator.{IsFinite, size}
use Rattle.btree_set.specs.Extension.{Extends, copied_steps}
use Rattle.btree_set.proofs.set.BTreeSet.extend_copied.Given as goal

abbrev pub invariant-loop-element : goal.invariant-loop-element
invariant-loop-element g l =
    (g.I.Iterator.can_next l.source × IsFinite (g.I.Iterator.remaining l.source))
    × (l.self.kept ≡ l.fn.self.kept)
    × IfSome l.last (IsLastPair l.self.tree)
    × ((r : _) (n : _) (t : _) → Extends g.T.Ord.cmp (copied_steps g.I.Iterator.next_gives) l.self.elements l.source r n t → Extends g.T.Ord.cmp (copied_steps g.I.Iterator.next_gives) l.fn.self.elements l.fn.source r n t)

abbrev pub decreases-loop-element : goal.decreases-loop-element
decreases-loop-element g l = size (g.I.Iterator.remaining l.source)
