use Rattle.btree_ext.proofs.InsertLemmas.{exchanged-by_key, exchanged-pairs, gap-for, old-value, put-inserted_by_key}
use Rattle.btree_ext.proofs.RefusalLemmas.{refused-at-gap}
use Rattle.btree_ext.proofs.insertion.insert.Goals as goal
use Rattle.btree_ext.proofs.Common.{common_steps, arith, rules}
use Rattle.btree_ext.proofs.LimitLemmas.{exchanged-within}

pub insert_at_gap-requires-clause-gap : goal.insert_at_gap-requires-clause-gap
insert_at_gap-requires-clause-gap g c =
    rw c.new.ensures (gap-for g.K.Ord.cmp g.met.K.Ord.total c.args.tree.now c.args.key c.args.value c.requires.tree c.in-Err.addr c.in-Err.ensures)

pub address_of-requires : goal.address_of-requires
address_of-requires g c = search rules steps 200000

pub exchange-requires-clause-tree : goal.exchange-requires-clause-tree
exchange-requires-clause-tree g c = search rules steps 200000

pub exchange-requires-clause-occupied : goal.exchange-requires-clause-occupied
exchange-requires-clause-occupied g c = search rules steps 200000

pub drop-key-requires : goal.drop-key-requires
drop-key-requires g c κs within = search rules steps 200000

pub new-requires : goal.new-requires
new-requires g c κs = search rules steps 200000

pub insert_at_gap-requires-clause-tree : goal.insert_at_gap-requires-clause-tree
insert_at_gap-requires-clause-tree g c = search rules steps 200000

pub returns-in-Ok-clause-tree : goal.returns-in-Ok-clause-tree
returns-in-Ok-clause-tree g c = search rules steps 200000

pub returns-in-Ok-insert_at_gap-clause-tree : goal.returns-in-Ok-insert_at_gap-clause-tree
returns-in-Ok-insert_at_gap-clause-tree g c = grind (arith, common_steps) steps 300000

pub returns-in-Err-insert_at_gap-clause-tree : goal.returns-in-Err-insert_at_gap-clause-tree
returns-in-Err-insert_at_gap-clause-tree g c = grind (arith, common_steps) steps 300000

pub returns-in-Ok-clause-outcome : goal.returns-in-Ok-clause-outcome
returns-in-Ok-clause-outcome g c = record {
  was = old-value g.K.Ord.cmp g.met.K.Ord.total c.args.tree.now c.args.key c.args.value c.requires.tree c.exchange.new.tree c.in-Ok.addr c.in-Ok.ensures c.exchange.result c.exchange.ensures;
  inserted = exchanged-pairs g.K.Ord.cmp g.met.K.Ord.total c.args.tree.now c.args.key c.args.value c.requires.tree c.exchange.new.tree c.in-Ok.addr c.in-Ok.ensures c.exchange.result c.exchange.ensures;
  by_key = exchanged-by_key g.K.Ord.cmp g.met.K.Ord.total c.args.tree.now c.args.key c.args.value c.requires.tree c.exchange.new.tree
      c.in-Ok.addr c.in-Ok.ensures c.exchange.result c.exchange.ensures;
  uncounted = search rules steps 200000;
  returned = tt;
  absent = tt;
  cause = tt;
}

pub returns-in-Ok-insert_at_gap-clause-outcome : goal.returns-in-Ok-insert_at_gap-clause-outcome
returns-in-Ok-insert_at_gap-clause-outcome g c = record {
  was = grind (arith, common_steps) steps 1500000;
  inserted = grind (arith, common_steps) steps 1500000;
  by_key = put-inserted_by_key g.K.Ord.cmp g.met.K.Ord.total c.args.tree.now c.args.key c.args.value c.requires.tree c.in-Err.addr c.in-Err.ensures c.insert_at_gap.new.tree
      c.in-Ok-insert_at_gap.field-0 (rw c.new.ensures at c.in-Ok-insert_at_gap.ensures.inserted);
  uncounted = search rules steps 200000;
  returned = tt;
  absent = tt;
  cause = tt;
}

pub returns-in-Err-insert_at_gap-clause-outcome : goal.returns-in-Err-insert_at_gap-clause-outcome
returns-in-Err-insert_at_gap-clause-outcome g c = record {
  was = tt;
  inserted = tt;
  by_key = tt;
  uncounted = tt;
  returned = grind (arith, common_steps) steps 300000;
  absent = grind (arith, common_steps) steps 1500000;
  cause = refused-at-gap g.K.Ord.cmp c.args.tree.now c.requires.tree c.insert_at_gap.new.tree c.args.key c.in-Err.addr c.in-Err.ensures
      c.in-Err-insert_at_gap.refused.cause c.in-Err-insert_at_gap.ensures.refused;
}

pub returns-in-Ok-clause-bounded : goal.returns-in-Ok-clause-bounded
returns-in-Ok-clause-bounded g c =
    exchanged-within g.K.Ord.cmp c.args.tree.now c.exchange.new.tree c.in-Ok.addr (c.exchange.ensures.key, c.args.value) c.exchange.ensures.exchanged
