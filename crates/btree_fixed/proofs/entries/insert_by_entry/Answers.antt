use Rattle.std.proofs.Common.{◌∙◌, ap, is_ok, subst, sym}
use Rattle.btree_laws.specs.TreeState.{TreeState, pairs_of}
use Rattle.btree_fixed.specs.Capacity.{InsertsByEntry}
use Rattle.btree_fixed.proofs.EntryLaws.{entry-inserts, entry-keeps}
use Rattle.btree_fixed.proofs.entries.insert_by_entry.Goals as goal

pub returns-in-Ok-clause-inserted : goal.returns-in-Ok-clause-inserted
returns-in-Ok-clause-inserted g c =
    let final = c.map-in-Ok-2-1.given.1 (sym c.entry.ensures.same_map) in
    subst (λ (t : TreeState _ _). InsertsByEntry g.K.Ord.cmp c.args.key c.args.map.now t) (sym final)
    (entry-inserts c.args.key c.args.map.now _ c.entry.result c.entry.ensures.unchanged c.entry.ensures.asked c.entry.ensures.pair _
    (c.or_insert.follows.holds c.in-Ok.lent.now (ap is_ok c.in-Ok.is)))

pub returns-in-Ok-clause-present : goal.returns-in-Ok-clause-present
returns-in-Ok-clause-present g c = λ there.
    let final = c.map-in-Ok-2-1.given.1 (sym c.entry.ensures.same_map) in
    ap pairs_of final
    ∙ entry-keeps c.args.key c.args.map.now _ c.entry.result c.entry.ensures.unchanged c.entry.ensures.pair there _ c.in-Ok.lent.now c.in-Ok.ensures.value
    (c.or_insert.follows.holds c.in-Ok.lent.now (ap is_ok c.in-Ok.is))
