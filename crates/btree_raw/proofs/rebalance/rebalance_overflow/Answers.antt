use Rattle.btree_raw.proofs.Common.{◌∙◌}
use Rattle.btree_raw.proofs.ClaimLemmas.{claims-low}
use Rattle.btree_raw.proofs.RebalanceLemmas.{are-claims, counting, splitting, is-split, refusal}
use Rattle.btree_raw.proofs.rebalance.rebalance_overflow.Goals as goal

pub split_need-count-requires : goal.split_need-count-requires
split_need-count-requires g c = counting g.K.Ord.cmp g.met.K.Ord.total c.args.tree.now c.args.id c.requires.off_by_one c.args.addr c.requires.valid c.requires.over

pub split_upward-requires-clause-splitting : goal.split_upward-requires-clause-splitting
split_upward-requires-clause-splitting g c = splitting g.K.Ord.cmp g.met.K.Ord.total c.args.tree.now c.args.id c.requires.off_by_one c.args.addr c.requires.valid c.requires.over c.claim.new.claims.items c.claim.new.tree (are-claims g.K.Ord.cmp g.met.K.Ord.total c.args.tree.now c.args.id c.requires.off_by_one c.args.addr c.requires.valid c.requires.over c.claim.new.claims.items c.claim.new.tree (c.claim.ensures.claimed c.if-not-claim.false)) (c.claim.ensures.claimed c.if-not-claim.false).rest (c.claim.ensures.count c.if-not-claim.false ∙ c.split_need-count.ensures.value)

pub split_upward-requires-clause-numbers : goal.split_upward-requires-clause-numbers
split_upward-requires-clause-numbers g c = claims-low c.args.tree.now.nodes c.claim.new.claims.items (c.claim.ensures.claimed c.if-not-claim.false).claimed.claims

pub returns-clause-rebalanced : goal.returns-clause-rebalanced
returns-clause-rebalanced g c = is-split g.K.Ord.cmp g.met.K.Ord.total c.args.tree.now c.args.id c.requires.off_by_one c.args.addr c.requires.valid c.requires.over c.claim.new.claims.items c.claim.new.tree (are-claims g.K.Ord.cmp g.met.K.Ord.total c.args.tree.now c.args.id c.requires.off_by_one c.args.addr c.requires.valid c.requires.over c.claim.new.claims.items c.claim.new.tree (c.claim.ensures.claimed c.if-not-claim.false)) (c.claim.ensures.claimed c.if-not-claim.false).rest (c.claim.ensures.count c.if-not-claim.false ∙ c.split_need-count.ensures.value)
    c.split_upward.new.tree c.split_upward.result c.split_upward.ensures.split c.split_upward.ensures.back

pub returns-then-not-claim-clause-refused : goal.returns-then-not-claim-clause-refused
returns-then-not-claim-clause-refused g c = refusal g.K.Ord.cmp g.met.K.Ord.total c.args.tree.now c.args.id c.requires.off_by_one c.args.addr c.requires.valid c.requires.over g.C.NodesMut.MayRefuse c.claim.new.tree c.split_need-count.result c.split_need-count.ensures.value (c.claim.ensures.refused c.if-not-claim.true) (c.claim.ensures.may_refuse c.if-not-claim.true)
