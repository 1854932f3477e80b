use Rattle.btree_map.proofs.Common.{◌≡◌, ◌∙◌, false, true, subst, sym, pairs_of, Ends, entry_front}
use Rattle.btree_map.specs.Drain.{KeepsAddresses, Selects}
use Rattle.btree_map.proofs.DrainRuns.{all-selected, all-uncounted, keeps-addresses}
use Rattle.btree_map.proofs.map.BTreeMap.retain_by.Goals as goal

pub returns-clause-addresses : goal.returns-clause-addresses
returns-clause-addresses g c =
    let step = g.P.PairTest.step in
    let start = c.entries_mut-entries.result in
    let end = c.run_rest.new.entries in
    let final = c.self-1.given.1 (sym (c.run_rest.ensures.same_map ∙ c.entries_mut-entries.ensures.same_map)) in
    let from = subst (λ n. Ends step false c.args.test c.run_rest.new.test start.map.now n end.map.now (entry_front end)) c.entries_mut-entries.ensures.front c.run_rest.ensures.ends in
    let ends = subst (λ s. Ends step false c.args.test c.run_rest.new.test s 0 end.map.now (entry_front end)) c.entries_mut-entries.ensures.unchanged from in
    subst (λ now. KeepsAddresses c.args.self.now now) (sym final) (keeps-addresses _ _ _ _ _ _ ends)

pub returns-clause-kept : goal.returns-clause-kept
returns-clause-kept g c =
    let step = g.P.PairTest.step in
    let start = c.entries_mut-entries.result in
    let end = c.run_rest.new.entries in
    let final = c.self-1.given.1 (sym (c.run_rest.ensures.same_map ∙ c.entries_mut-entries.ensures.same_map)) in
    let from = subst (λ n. Ends step false c.args.test c.run_rest.new.test start.map.now n end.map.now (entry_front end)) c.entries_mut-entries.ensures.front c.run_rest.ensures.ends in
    let ends = subst (λ s. Ends step false c.args.test c.run_rest.new.test s 0 end.map.now (entry_front end)) c.entries_mut-entries.ensures.unchanged from in
    subst (λ now. Selects step true c.args.test (pairs_of c.args.self.now) (pairs_of now)) (sym final) (all-selected _ _ _ _ _ _ ends)

pub returns-clause-uncounted : goal.returns-clause-uncounted
returns-clause-uncounted g c =
    let step = g.P.PairTest.step in
    let start = c.entries_mut-entries.result in
    let end = c.run_rest.new.entries in
    let final = c.self-1.given.1 (sym (c.run_rest.ensures.same_map ∙ c.entries_mut-entries.ensures.same_map)) in
    let from = subst (λ n. Ends step false c.args.test c.run_rest.new.test start.map.now n end.map.now (entry_front end)) c.entries_mut-entries.ensures.front c.run_rest.ensures.ends in
    let ends = subst (λ s. Ends step false c.args.test c.run_rest.new.test s 0 end.map.now (entry_front end)) c.entries_mut-entries.ensures.unchanged from in
    subst (λ now. now.kept ≡ c.args.self.now.kept) (sym final) (all-uncounted _ _ _ _ _ _ ends)
