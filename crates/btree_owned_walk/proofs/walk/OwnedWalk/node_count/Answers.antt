use Rattle.btree_owned_walk.proofs.Common.{◌∙◌, ap, subst}
use Rattle.btree_owned_walk.specs.Leaving.{HoldsLeft, nodes_left}
use Rattle.btree_owned_walk.proofs.LeavingLemmas.{holds-left, leaving-count}
use Rattle.btree_owned_walk.proofs.walk.OwnedWalk.node_count.Goals as goal

pub returns-clause-count : goal.returns-clause-count
returns-clause-count g c =
    c.node_count.ensures.value
    ∙ leaving-count c.self.inside.start.value c.self.inside.nodes.nodes c.self.inside.passed.count c.self.inside.left c.self.inside.front c.self.inside.back c.self.invariant
    ∙ ap nodes_left c.self.view_is

pub returns-clause-held : goal.returns-clause-held
returns-clause-held g c =
    subst HoldsLeft c.self.view_is
    (holds-left c.self.inside.start.value c.self.inside.nodes c.self.inside.passed.count c.self.inside.left c.self.inside.front c.self.inside.back c.self.invariant)
