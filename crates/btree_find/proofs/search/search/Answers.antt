use Rattle.btree_find.proofs.Common.{◌≡◌, ◌+◌, sym, ◌∙◌, ap, arith}
use Rattle.btree_find.specs.Levels.{comparisons_under}
use Rattle.btree_find.proofs.HeightLemmas.{ticks-at-root}
use Rattle.btree_find.proofs.SearchLemmas.{address-whole, no-root}
use Rattle.btree_find.proofs.search.search.Goals as goal

pub returns-in-Some-clause-found : goal.returns-in-Some-clause-found
returns-in-Some-clause-found g c =
    address-whole g.Q.Query.compare c.args.key.now g.met.K.Ord.total g.met.Q.Query.cuts c.args.tree.now c.requires c.in-Some.root
    (sym c.root_id.ensures ∙ c.in-Some.is) c.search_from.result c.search_from.ensures.found

pub returns-in-Some-clause-ticks : goal.returns-in-Some-clause-ticks
returns-in-Some-clause-ticks g c =
    ticks-at-root g.K.Ord.cmp g.met.K.Ord.total c.args.tree.now c.requires c.in-Some.root
    (sym c.root_id.ensures ∙ c.in-Some.is) _ _ c.search_from.ensures.ticks

pub returns-in-None-clause-found : goal.returns-in-None-clause-found
returns-in-None-clause-found g c =
    no-root g.Q.Query.compare c.args.key.now g.met.K.Ord.total g.met.Q.Query.cuts c.args.tree.now c.requires (sym c.root_id.ensures ∙ c.in-None.is)
    c.nowhere.result c.nowhere.ensures

pub returns-in-Some-clause-counted : goal.returns-in-Some-clause-counted
returns-in-Some-clause-counted g c =
    let root = sym c.root_id.ensures ∙ c.in-Some.is in
    c.search_from.ensures.counted
    ∙ ap (λ r. c.args.steps.now.count + comparisons_under g.Q.Query.compare c.args.key.now c.args.tree.now r) (sym root)

pub returns-in-None-clause-counted : goal.returns-in-None-clause-counted
returns-in-None-clause-counted g c =
    let n = c.args.steps.now.count in
    let root = sym c.root_id.ensures ∙ c.in-None.is in
    let none : n ≡ n + 0 = omega arith in
    none ∙ ap (λ r. n + comparisons_under g.Q.Query.compare c.args.key.now c.args.tree.now r) (sym root)
