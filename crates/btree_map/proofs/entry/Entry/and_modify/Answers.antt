use Rattle.btree_map.proofs.Common.{◌∙◌, Option, refl, sym, ap, subst}
use Rattle.std.specs.Map.Calls.{MayWrite, ModifiesValue}
use Rattle.btree_map.specs.Entry.{entry_value}
use Rattle.btree_map.proofs.WrittenLemmas.{written-twice, written-value}
use Rattle.btree_map.proofs.entry.Entry.and_modify.Goals as goal

pub returns-in-Occupied-clause-value : goal.returns-in-Occupied-clause-value
returns-in-Occupied-clause-value g c =
    let entry = c.in-Occupied.entry in
    let left = c.change.new.arg2 in
    let old = ap entry_value c.in-Occupied.is ∙ c.get_mut.ensures.value in
    let new = written-value entry.map.now entry.at c.get_mut.result.now left c.get_mut.ensures.value in
    let did : MayWrite g.F.FnOnce c.args.change c.get_mut.result.now left =
    record { lent = c.get_mut.result; result = c.change.result; left = _; before = refl; met = c.change.ensures; after = refl } in
    subst (λ (p : Option g.row.V.Denot × Option g.row.V.Denot). ModifiesValue g.F.FnOnce c.args.change p.0 p.1) (λ i. (sym old i, sym new i)) did

pub returns-in-Occupied-clause-writes : goal.returns-in-Occupied-clause-writes
returns-in-Occupied-clause-writes g c w =
    let entry = c.in-Occupied.entry in
    rw c.in-Occupied.is
    (written-twice g.K.Ord.cmp g.met.K.Ord.total w entry.map.now entry.at c.get_mut.result.now c.change.new.arg2 (c.get_mut.ensures.writes c.change.new.arg2))
