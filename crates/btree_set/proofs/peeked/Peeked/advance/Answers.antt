use Rattle.btree_set.proofs.PeekLemmas.{peek-next}
use Rattle.btree_set.proofs.peeked.Peeked.advance.Goals as goal

pub invariant_of-self : goal.invariant_of-self
invariant_of-self g c =
    peek-next g.T.Ord.cmp c.self.inside.head c.self.inside.rest c.next-self-inside.new.self c.next-self-inside.result c.next-self-inside.ensures.steps
    c.self.invariant.1 c.self.invariant.2
