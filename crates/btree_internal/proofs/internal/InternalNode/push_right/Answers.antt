use Rattle.btree_internal.proofs.BranchLemmas.{long_as_branches}
use Rattle.btree_internal.proofs.Common.{arith, rules, ap, ◌∙◌, [], ◌++◌, ◌∷◌, internal, map-append, branch_pair}
use Rattle.btree_internal.proofs.InternalSizes.{fits-slots}
use Rattle.btree_internal.proofs.ChangeLemmas.{pairs}
use Rattle.btree_internal.proofs.internal.InternalNode.push_right.Goals as goal

pub item_count-requires : goal.item_count-requires
item_count-requires g c = omega arith

pub offset_at-offset-requires : goal.offset_at-offset-requires
offset_at-offset-requires g c = search rules steps 200000

pub push-requires : goal.push-requires
push-requires g c =
    let long = long_as_branches c.args.self.now _ c.self.inside.first c.self.inside.branches c.self.view_is in
    (search fits-slots, omega (arith, long, c.requires))

pub returns-clause-offset : goal.returns-clause-offset
returns-clause-offset g c = search rules steps 200000

pub returns-clause-after : goal.returns-clause-after
returns-clause-after g c =
    let parent = ap (λ n. n.parent) c.self.view_is in
    let first = ap (λ n. n.first) c.self.view_is in
    let mine = ap (λ n. n.branches) c.self.view_is in
    let all = ap pairs c.push.ensures ∙ map-append branch_pair c.self.inside.branches _ in
    let both = all ∙ (λ j. mine j ++ (c.args.item, c.args.child) ∷ []) in
    λ j. internal (parent j) (first j) (both j)
