use Rattle.std.proofs.Common.{◌∙◌, ap, refl, sym}
use Rattle.btree_laws.specs.TreeState.{pairs_of}
use Rattle.btree_fixed.proofs.EntryLaws.{exchanged-kept}
use Rattle.btree_fixed.proofs.entries.insert_by_vacant.Goals as goal

pub returns-in-Occupied-clause-present : goal.returns-in-Occupied-clause-present
returns-in-Occupied-clause-present g c = λ no.
    let entry = c.in-Occupied.entry in
    let value = c.into_mut-value.result.now in
    let final = c.map-in-Occupied-2-1.given.1 (sym c.in-Occupied.ensures.same_map) in
    ap pairs_of final
    ∙ (exchanged-kept g.K.Ord.cmp entry.map.now _ entry.at value value refl (c.into_mut-value.ensures.writes value).exchanged
    ∙ ap pairs_of c.in-Occupied.ensures.unchanged)
