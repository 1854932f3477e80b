use Rattle.btree_range_map.proofs.Common.{refl}
use Rattle.btree_range_map.proofs.CutLemmas.{cut-fits}
use Rattle.btree_range_map.proofs.SplitLemmas.{split-done, split-fits, split-some}
use Rattle.btree_range_map.proofs.split.split.Goals as goal

pub insert_at-requires-clause-fits : goal.insert_at-requires-clause-fits
insert_at-requires-clause-fits g c =
    rw c.new.ensures (cut-fits c.args.map.now c.args.at c.args.start c.args.span.end c.args.last.end c.args.last.value c.requires.cut)

pub insert_at-requires-in-Ok-clause-fits : goal.insert_at-requires-in-Ok-clause-fits
insert_at-requires-in-Ok-clause-fits g c =
    rw c.new-in-Ok.ensures
    (split-fits c.args.map.now c.args.at c.args.start c.args.span c.args.last c.requires c.insert_at.new.self c.in-Ok.right _ refl (rw c.new.ensures at c.in-Ok.ensures.inserted))

pub unreachable-requires : goal.unreachable-requires
unreachable-requires g c =
    split-some c.args.map.now c.args.at c.args.start c.args.span c.args.last c.requires c.insert_at.new.self c.in-Ok.right _ refl (rw c.new.ensures at c.in-Ok.ensures.inserted)
    c.insert_at-in-Ok.new.self c.in-Ok-insert_at.middle _ c.in-Ok-insert_at.ensures.inserted c.in_default.ensures

pub returns-in-Some-clause-assigned : goal.returns-in-Some-clause-assigned
returns-in-Some-clause-assigned g c =
    split-done c.args.map.now c.args.at c.args.start c.args.span c.args.last c.requires c.insert_at.new.self c.in-Ok.right _ refl (rw c.new.ensures at c.in-Ok.ensures.inserted)
    c.insert_at-in-Ok.new.self c.set_end.new.map c.in-Ok-insert_at.middle c.in-Some.left _ refl
    (rw c.new-in-Ok.ensures at c.in-Ok-insert_at.ensures.inserted) c.in-Some.ensures c.set_end.ensures
