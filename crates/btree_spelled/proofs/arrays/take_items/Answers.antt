use Rattle.std.proofs.Common.{◌≡◌, ◌∙◌, None, length, refl, sym, arith, length-set, rules}
use Rattle.std.proofs.lemmas.List.{take_more_set}
use Rattle.btree_spelled.specs.Arrays.{items_read}
use Rattle.btree_spelled.specs.ArrayLaws.{read-more, read-none, read-start}
use Rattle.btree_spelled.proofs.arrays.take_items.Goals as goal

pub loop-at-init : goal.loop-at-init
loop-at-init g c = (refl, read-start g.T.Spelled.spelling g.T.Spelled.read _)

pub loop-at-preserved : goal.loop-at-preserved
loop-at-preserved g c =
    let before = c.loop-at.invariant in (
      length-set c.loop-at.items c.loop-at.at c.in_ok-value.value ∙ before.0,
      rw (take_more_set c.loop-at.items c.loop-at.at c.in_ok-value.value (omega arith))
          (read-more g.T.Spelled.spelling g.T.Spelled.read _ _ _ _ _ _ before.1 (sym (rw c.in_ok-value.was at c.take.ensures))),
    )

pub returns-in_err-value-clause-none : goal.returns-in_err-value-clause-none
returns-in_err-value-clause-none g c =
    let before = c.loop-at.invariant in
    let none : items_read g.T.Spelled.read (length c.args.items.now) c.args.bytes.now ≡ None =
    read-none g.T.Spelled.spelling g.T.Spelled.read c.loop-at.at _ _ _ _ (omega arith) before.1 (sym (rw c.in_err-value.was at c.take.ensures)) in
    search rules
