use Rattle.btree_ext.proofs.Common.{arith, rules, common_steps}
use Rattle.btree_ext.proofs.ReplaceByKeyLemmas.{exchanged-by_key, exchanged-pairs, nothing-old, old-pair, put-by_key, put-pairs}
use Rattle.btree_ext.proofs.RefusalLemmas.{refused-at-gap}
use Rattle.btree_ext.proofs.LimitLemmas.{exchanged-within}
use Rattle.btree_ext.proofs.replacement.replace.Goals as goal

pub returns-in-Ok-clause-outcome : goal.returns-in-Ok-clause-outcome
returns-in-Ok-clause-outcome g c = record {
  was = old-pair g.K.Ord.cmp g.met.K.Ord.total c.args.tree.now c.requires c.args.key c.args.value c.replace_at.new.tree c.in-Ok.addr c.in-Ok.ensures
      c.replace_at.result c.replace_at.ensures.old c.replace_at.ensures.exchanged;
  replaced = exchanged-pairs g.K.Ord.cmp g.met.K.Ord.total c.args.tree.now c.requires c.args.key c.args.value c.replace_at.new.tree c.in-Ok.addr c.in-Ok.ensures
      c.replace_at.result c.replace_at.ensures.old c.replace_at.ensures.exchanged;
  by_key = exchanged-by_key g.K.Ord.cmp g.met.K.Ord.total c.args.tree.now c.requires c.args.key c.args.value c.replace_at.new.tree c.in-Ok.addr c.in-Ok.ensures
      c.replace_at.result c.replace_at.ensures.old c.replace_at.ensures.exchanged;
  uncounted = search rules steps 200000;
  returned = tt;
  absent = tt;
  cause = tt;
}

pub returns-in-Ok-insert_at_gap-clause-outcome : goal.returns-in-Ok-insert_at_gap-clause-outcome
returns-in-Ok-insert_at_gap-clause-outcome g c = record {
  was = nothing-old g.K.Ord.cmp g.met.K.Ord.total c.args.tree.now c.requires c.args.key c.args.value c.insert_at_gap.new.tree c.in-Err.addr c.in-Err.ensures
      c.in-Ok-insert_at_gap.field-0 (rw c.new.ensures at c.in-Ok-insert_at_gap.ensures.inserted);
  replaced = put-pairs g.K.Ord.cmp g.met.K.Ord.total c.args.tree.now c.requires c.args.key c.args.value c.insert_at_gap.new.tree c.in-Err.addr c.in-Err.ensures
      c.in-Ok-insert_at_gap.field-0 (rw c.new.ensures at c.in-Ok-insert_at_gap.ensures.inserted);
  by_key = put-by_key g.K.Ord.cmp g.met.K.Ord.total c.args.tree.now c.requires c.args.key c.args.value c.insert_at_gap.new.tree c.in-Err.addr c.in-Err.ensures
      c.in-Ok-insert_at_gap.field-0 (rw c.new.ensures at c.in-Ok-insert_at_gap.ensures.inserted);
  uncounted = search rules steps 200000;
  returned = tt;
  absent = tt;
  cause = tt;
}

pub returns-in-Err-insert_at_gap-clause-outcome : goal.returns-in-Err-insert_at_gap-clause-outcome
returns-in-Err-insert_at_gap-clause-outcome g c = record {
  was = tt;
  replaced = tt;
  by_key = tt;
  uncounted = tt;
  returned = grind (arith, common_steps) steps 300000;
  absent = grind (arith, common_steps) steps 1500000;
  cause = refused-at-gap g.K.Ord.cmp c.args.tree.now c.requires c.insert_at_gap.new.tree c.args.key c.in-Err.addr c.in-Err.ensures
      c.in-Err-insert_at_gap.refused.cause c.in-Err-insert_at_gap.ensures.refused;
}

pub returns-in-Ok-clause-bounded : goal.returns-in-Ok-clause-bounded
returns-in-Ok-clause-bounded g c =
    exchanged-within g.K.Ord.cmp c.args.tree.now c.replace_at.new.tree c.in-Ok.addr (c.args.key, c.args.value) c.replace_at.ensures.exchanged
