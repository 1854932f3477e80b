use Rattle.std.proofs.Common.{◌∙◌, ◌∷◌, ◌++◌, ◌≤◌, ap, length, refl, subst, sym}
use Rattle.std.proofs.lemmas.Result.{IfErr-weaker, on_err_weaker, on_ok_weaker}
use Rattle.std.specs.FinMap as map
use Rattle.btree_laws.specs.TreeState.{TreeState, IsBTree, pairs_of}
use Rattle.btree_find.specs.Navigation.{HasPlace}
use Rattle.btree_ext.specs.InsertAt.{IsRefusedAt}
use Rattle.btree_map.specs.Editing.{entry_front}
use Rattle.btree_fixed.specs.Capacity.{HoldsAll, RefusesExactlyAtPlace, TakesFew}
use Rattle.btree_fixed.proofs.CursorLaws.{cursor-exact, cursor-taken, front-passed}
use Rattle.btree_fixed.proofs.CursorLemmas.{cursor-inserted, none-inserted, same-map}
use Rattle.btree_fixed.proofs.places.insert_from.Goals as goal

pub insert-result-requires : goal.insert-result-requires
insert-result-requires g c = rw (c.entries_mut_from-entries.ensures.passed, c.entries_mut_from-entries.ensures.left) c.requires

pub returns-clause-exact : goal.returns-clause-exact
returns-clause-exact g c =
    let k = c.entries_mut_from-entries.ensures in
    let old = c.entries_mut_from-entries.result in
    let same = same-map old c.insert-result.new.self (λ e. e.cause) _ c.insert-result.result c.insert-result.ensures.inserted c.insert-result.ensures.refused in
    let final = c.map-1.given.1 (sym (same ∙ k.same_map)) in
    let tree = subst (IsBTree g.K.Ord.cmp) (sym k.unchanged) c.tell_well_formed.ensures.well_formed in
    let held = subst (λ (t : TreeState _ _). map.len t.nodes ≤ g.row.N) final c.tell_held.ensures.held in
    let exact = cursor-exact old c.insert-result.new.self g.row.N (λ e. e.cause) g.met.K.Ord.total tree refl _ c.insert-result.result
    c.insert-result.ensures.inserted c.insert-result.ensures.refused held in
    let place = front-passed old g.met.K.Ord.total tree ∙ ap length k.passed in
    subst (λ n. RefusesExactlyAtPlace c.args.map.now n g.row.N c.insert-result.result) place
    (subst (λ (t : TreeState _ _). RefusesExactlyAtPlace t (entry_front old) g.row.N c.insert-result.result) k.unchanged exact)

pub returns-clause-few : goal.returns-clause-few
returns-clause-few g c =
    let tree = subst (IsBTree g.K.Ord.cmp) (sym c.entries_mut_from-entries.ensures.unchanged) c.tell_well_formed.ensures.well_formed in
    let few = cursor-taken c.entries_mut_from-entries.result c.insert-result.new.self g.row.N (λ e. e.cause) g.met.K.Ord.total tree refl c.insert-result.result
    c.insert-result.ensures.refused in
    subst (λ (t : TreeState _ _). TakesFew t g.row.N c.insert-result.result) c.entries_mut_from-entries.ensures.unchanged few

pub returns-clause-held : goal.returns-clause-held
returns-clause-held g c = c.tell_held.ensures.held

pub returns-clause-inserted : goal.returns-clause-inserted
returns-clause-inserted g c =
    let k = c.entries_mut_from-entries.ensures in
    let same = same-map c.entries_mut_from-entries.result c.insert-result.new.self (λ e. e.cause) _ c.insert-result.result c.insert-result.ensures.inserted c.insert-result.ensures.refused in
    let final = c.map-1.given.1 (sym (same ∙ k.same_map)) in
    on_ok_weaker c.insert-result.result
    (λ i. ap pairs_of final ∙ cursor-inserted c.entries_mut_from-entries.result c.insert-result.new.self _ i ∙ (λ j. k.passed j ++ ((c.args.key, c.args.value) ∷ k.left j)))
    c.insert-result.ensures.inserted

pub returns-clause-returned : goal.returns-clause-returned
returns-clause-returned g c = c.insert-result.ensures.returned

pub returns-clause-kept : goal.returns-clause-kept
returns-clause-kept g c =
    let k = c.entries_mut_from-entries.ensures in
    let same = same-map c.entries_mut_from-entries.result c.insert-result.new.self (λ e. e.cause) _ c.insert-result.result c.insert-result.ensures.inserted c.insert-result.ensures.refused in
    let final = c.map-1.given.1 (sym (same ∙ k.same_map)) in
    on_err_weaker c.insert-result.result
    (λ same. ap pairs_of final ∙ same ∙ ap pairs_of k.unchanged)
    (none-inserted c.entries_mut_from-entries.result c.insert-result.new.self (λ e. e.cause) c.insert-result.result c.insert-result.ensures.refused)

pub returns-clause-refused : goal.returns-clause-refused
returns-clause-refused g c =
    let k = c.entries_mut_from-entries.ensures in
    let old = c.entries_mut_from-entries.result in
    let new = c.insert-result.new.self in
    let same = same-map old new (λ e. e.cause) _ c.insert-result.result c.insert-result.ensures.inserted c.insert-result.ensures.refused in
    let final = c.map-1.given.1 (sym (same ∙ k.same_map)) in
    let tree = subst (IsBTree g.K.Ord.cmp) (sym k.unchanged) c.tell_well_formed.ensures.well_formed in
    let place = front-passed old g.met.K.Ord.total tree ∙ ap length k.passed in
    IfErr-weaker c.insert-result.result _ _
    (λ r e. record {
      gap = e.gap;
      has = subst (λ n. HasPlace c.args.map.now e.gap n) place (subst (λ (t : TreeState _ _). HasPlace t e.gap (entry_front old)) k.unchanged e.has);
      back = e.back;
      refused = subst (λ (t : TreeState _ _). IsRefusedAt c.args.map.now t e.gap (HoldsAll g.row.N) r.cause) (sym final)
          (subst (λ (t : TreeState _ _). IsRefusedAt t new.map.now e.gap (HoldsAll g.row.N) r.cause) k.unchanged e.refused);
    })
    c.insert-result.ensures.refused
