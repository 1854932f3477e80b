use Rattle.btree_range_map.proofs.PutLemmas.{over-can, over-done, over-item, over-none, over-refused}
use Rattle.btree_range_map.proofs.assign.put_over.Goals as goal

pub put-requires-clause-can : goal.put-requires-clause-can
put-requires-clause-can g c =
    over-can c.args.map.now c.args.at c.args.before c.args.start c.args.span c.args.end c.requires.can c.set_end.new.map c.set_end.ensures

pub set_end-requires-in-Err : goal.set_end-requires-in-Err
set_end-requires-in-Err g c =
    (over-item c.args.map.now c.args.at c.args.before c.args.start c.args.span c.args.end c.requires.can c.set_end.new.map c.set_end.ensures c.put.new.map c.in-Err.refused.cause c.in-Err.ensures.cause c.in-Err.ensures.stays).occupied

pub returns-in-Ok-clause-assigned : goal.returns-in-Ok-clause-assigned
returns-in-Ok-clause-assigned g c =
    over-done c.args.map.now c.args.at c.args.before c.args.start c.args.span c.args.end c.requires.can c.set_end.new.map c.set_end.ensures c.put.new.map c.in-Ok.ensures.assigned

pub returns-in-Err-clause-joins_none : goal.returns-in-Err-clause-joins_none
returns-in-Err-clause-joins_none g c =
    over-none c.args.map.now c.args.at c.args.before c.args.start c.args.span c.args.end c.requires.can c.set_end.new.map c.set_end.ensures c.in-Err.ensures.joins_none

pub returns-in-Err-clause-cause : goal.returns-in-Err-clause-cause
returns-in-Err-clause-cause g c =
    over-refused c.args.map.now c.args.at c.args.before c.args.start c.args.span c.args.end c.requires.can c.set_end.new.map c.set_end.ensures c.put.new.map c.in-Err.refused.cause c.in-Err.ensures.cause c.in-Err.ensures.stays
    c.set_end-in-Err.new.map c.set_end-in-Err.ensures
