use Rattle.btree_ext.proofs.Common.{rules, subst, IfErr-weaker, found-from_Err, pairs_of}
use Rattle.btree_find.specs.Answers.{IsAddressOf}
use Rattle.btree_ext.proofs.RefusalLemmas.{refused-at-gap}
use Rattle.btree_ext.proofs.UpdateKeyLemmas.{callable-found, granted-found, granted-gap, if_ok-on, ok-each, on_err, on_ok-each, updates-found, updates-gap}
use Rattle.btree_ext.proofs.LimitLemmas.{ran-within}
use Rattle.btree_ext.proofs.updates.update_at_or_gap.Goals as goal

pub update_at-requires-clause-callable : goal.update_at-requires-clause-callable
update_at-requires-clause-callable g c =
    callable-found g.K.Ord.cmp c.args.key c.args.tree.now c.in-Ok.addr (subst (λ r. IsAddressOf g.K.Ord.cmp c.args.key c.args.tree.now r) c.in-Ok.is c.requires.at) (goal.F-pre g c.args.action) _ (λ x p. search rules) c.requires.callable

pub returns-in-Ok-clause-outcome : goal.returns-in-Ok-clause-outcome
returns-in-Ok-clause-outcome g c =
    let there = subst (λ r. IsAddressOf g.K.Ord.cmp c.args.key c.args.tree.now r) c.in-Ok.is c.requires.at in
    let done = updates-found g.K.Ord.cmp g.met.K.Ord.total c.args.tree.now c.update_at.new.tree c.requires.tree c.args.key (goal.F-post g c.args.action) c.update_at.result c.in-Ok.addr there _ (λ v r e. search rules) c.update_at.ensures in
    record {
      updated = done.runs;
      uncounted = done.uncounted;
      granted = granted-found g.K.Ord.cmp c.args.key c.args.tree.now g.C.Nodes.CanHold c.in-Ok.addr there;
      returned = tt;
      absent = tt;
      cause = tt;
    }

pub returns-in-Err-clause-outcome : goal.returns-in-Err-clause-outcome
returns-in-Err-clause-outcome g c =
    let gap = subst (λ r. IsAddressOf g.K.Ord.cmp c.args.key c.args.tree.now r) c.in-Err.is c.requires.at in
    record {
      updated = ok-each c.update_absent.result (λ t r. (updates-gap g.K.Ord.cmp g.met.K.Ord.total c.args.tree.now c.update_absent.new.tree c.requires.tree c.args.key (goal.F-post g c.args.action) t c.in-Err.gap gap r).runs) c.update_absent.ensures.updated;
      uncounted = if_ok-on c.update_absent.result (λ t r. (updates-gap g.K.Ord.cmp g.met.K.Ord.total c.args.tree.now c.update_absent.new.tree c.requires.tree c.args.key (goal.F-post g c.args.action) t c.in-Err.gap gap r).uncounted) c.update_absent.ensures.updated;
      granted = on_ok-each c.update_absent.result (granted-gap g.K.Ord.cmp c.args.key c.args.tree.now g.C.Nodes.CanHold c.in-Err.gap gap) c.update_absent.ensures.granted;
      returned = c.update_absent.ensures.returned;
      absent = on_err c.update_absent.result (found-from_Err g.K.Ord.cmp c.args.key (pairs_of c.args.tree.now) _ gap.is);
      cause = IfErr-weaker c.update_absent.result _ _ (λ r. refused-at-gap g.K.Ord.cmp c.args.tree.now c.requires.tree c.update_absent.new.tree c.args.key c.in-Err.gap gap r.cause) c.update_absent.ensures.refused;
    }

pub returns-in-Ok-clause-bounded : goal.returns-in-Ok-clause-bounded
returns-in-Ok-clause-bounded g c =
    ran-within g.K.Ord.cmp c.args.tree.now c.update_at.new.tree _ c.in-Ok.addr c.update_at.result c.update_at.ensures
