use Rattle.btree_internal.proofs.BranchLemmas.{long_as_branches}
use Rattle.btree_internal.proofs.InternalSizes.{fits-slots}
use Rattle.btree_internal.proofs.Common.{◌≡◌, ◌∙◌, [], ◌++◌, ◌∷◌, ap, length, arith, rules, length-map, internal}
use Rattle.std.proofs.Common.{length-append}
use Rattle.btree_internal.proofs.ChangeLemmas.{pairs, pairs-joined}
use Rattle.btree_internal.proofs.internal.InternalNode.append_from.Goals as goal

pub item_count-requires : goal.item_count-requires
item_count-requires g c = assumption

pub offset_at-offset-requires : goal.offset_at-offset-requires
offset_at-offset-requires g c = search rules steps 200000

pub move_tail-requires : goal.move_tail-requires
move_tail-requires g c =
    let fits = c.well_formed in
    let long = long_as_branches c.args.self.now _ c.self.inside.first c.self.inside.branches c.self.view_is in
    let more = long_as_branches c.args.other.now _ c.other.inside.first c.other.inside.branches c.other.view_is in
    let own = length-map c.args.self.now.branches (λ b. b.0) in
    let others = length-map c.args.other.now.branches (λ b. b.0) in
    let pushed = ap length c.push.ensures ∙ length-append c.self.inside.branches _ in
    (omega arith, (omega arith, omega (arith, long, more, own, others, pushed, c.requires)))

pub returns-clause-offset : goal.returns-clause-offset
returns-clause-offset g c = search rules steps 200000

pub returns-clause-after : goal.returns-clause-after
returns-clause-after g c =
    let parent = ap (λ n. n.parent) c.self.view_is in
    let first = ap (λ n. n.first) c.self.view_is in
    let mine = ap (λ n. n.branches) c.self.view_is in
    let its = ap (λ n. n.branches) c.other.view_is in
    let child = ap (λ n. n.first) c.other.view_is in
    let all = pairs-joined c.self.inside.branches c.other.inside.branches c.push.new.self c.move_tail.new.to (record { item = c.args.separator; child = c.other.inside.first }) c.push.ensures c.move_tail.ensures.moved in
    let both = all ∙ (λ j. mine j ++ (c.args.separator, child j) ∷ its j) in
    λ j. internal (parent j) (first j) (both j)

pub returns-clause-emptied : goal.returns-clause-emptied
returns-clause-emptied g c =
    let parent = ap (λ n. n.parent) c.other.view_is in
    let first = ap (λ n. n.first) c.other.view_is in
    let none : pairs c.move_tail.new.self ≡ [] = ap pairs c.move_tail.ensures.left in
    λ i. record { parent = parent i; first = first i; branches = none i }

pub push-requires : goal.push-requires
push-requires g c =
    let long = long_as_branches c.args.self.now _ c.self.inside.first c.self.inside.branches c.self.view_is in
    let own = length-map c.args.self.now.branches (λ b. b.0) in
    (search fits-slots, omega (arith, long, own, c.requires))
