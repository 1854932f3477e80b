use Rattle.btree_walk.proofs.Common.{Some, ap, ◌∙◌, pair_now}
use Rattle.btree_walk.proofs.NearLemmas.{map-or}
use Rattle.btree_walk.proofs.near.last_below.Goals as goal

pub returns-in-Some : goal.returns-in-Some
returns-in-Some g c =
    rw c.in-Some.is
    (pair_now c.last_under.result, c.last_under.ensures, ap pair_now c.or.ensures ∙ map-or (λ p. (p.0.now, p.1.now)) c.last_under.result (Some c.in-Some.pair))
