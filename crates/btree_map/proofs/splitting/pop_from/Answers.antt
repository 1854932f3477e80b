use Rattle.btree_map.proofs.Common.{◌∙◌, sym, Included, pairs_of, rises}
use Rattle.btree_map.proofs.SplitLemmas.{all-before, below-before, match-some}
use Rattle.btree_map.proofs.splitting.pop_from.Goals as goal

pub returns-clause-popped : goal.returns-clause-popped
returns-clause-popped g c = match-some c.pop_last.result _ _ c.pop_last.ensures.rest

pub returns-then-is_gt-clause-none : goal.returns-then-is_gt-clause-none
returns-then-is_gt-clause-none g c =
    all-before g.met.K.Ord.total (Included c.args.key.now) (pairs_of c.args.map.now)
    (rises g.K.Ord.cmp (pairs_of c.args.map.now) c.tell_well_formed.ensures.well_formed.ascends)
    (λ x is. below-before g.K.Ord.cmp c.args.key.now (c.in-Some.last.now, c.in-Some.field-0-1.now) x c.cmp.result c.cmp.ensures
    (sym c.is_gt.ensures ∙ c.if-is_gt.true) (c.in-Some.ensures ∙ is))
