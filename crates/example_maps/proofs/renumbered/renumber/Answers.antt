use Rattle.std.proofs.Common.{◌∙◌, sym}
use Rattle.btree_slab.specs.TreeState.{pairs_of}
use Rattle.example_maps.proofs.RenumberLemmas.{renumbered}
use Rattle.example_maps.proofs.renumbered.renumber.Goals as goal

pub returns-clause-renumbered : goal.returns-clause-renumbered
returns-clause-renumbered g c =
    renumbered c.args.part c.args.number c.in-Some.count (pairs_of c.args.stock.now) (pairs_of c.insert.new.self) (pairs_of c.remove.new.self)
    c.if-part-number.false (sym c.get.ensures ∙ sym c.in-Some.ensures) c.in_ok-insert.ensures.inserted c.remove.ensures.removed c.tell_well_formed.ensures.well_formed.ascends
