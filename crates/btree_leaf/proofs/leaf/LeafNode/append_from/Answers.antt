use Rattle.btree_leaf.proofs.Common.{◌≡◌, length, ◌++◌, arith, ap, ◌∙◌, rules, leaf}
use Rattle.std.proofs.Common.{[], ◌∷◌, length-append}
use Rattle.btree_view.proofs.Cuts.{joined_behind}
use Rattle.btree_leaf.proofs.leaf.LeafNode.append_from.Goals as goal

pub len-requires : goal.len-requires
len-requires g c = search rules steps 200000

pub offset_at-offset-requires : goal.offset_at-offset-requires
offset_at-offset-requires g c = search rules steps 200000

pub push-requires : goal.push-requires
push-requires g c =
    let fits = c.well_formed in
    let long = ap (λ l. length l.items) c.self.view_is in
    (omega arith, omega (arith, long, c.requires))

pub move_tail-requires : goal.move_tail-requires
move_tail-requires g c =
    let fits = c.well_formed in
    let long = ap (λ l. length l.items) c.self.view_is in
    let more = ap (λ l. length l.items) c.other.view_is in
    let pushed = ap length c.push.ensures ∙ length-append c.self.inside.items _ in
    (omega arith, (omega arith, omega (arith, long, more, pushed, c.requires)))

pub returns-clause-after : goal.returns-clause-after
returns-clause-after g c =
    let parent = ap (λ l. l.parent) c.self.view_is in
    let items = ap (λ l. l.items) c.self.view_is in
    let more = ap (λ l. l.items) c.other.view_is in
    let all = joined_behind c.self.inside.items c.other.inside.items c.push.new.self c.move_tail.new.to c.args.separator c.push.ensures c.move_tail.ensures.moved in
    let both = all ∙ ap (λ l. l ++ c.args.separator ∷ c.other.inside.items) items ∙ ap (λ l. c.args.self.now.items ++ c.args.separator ∷ l) more in
    λ j. leaf (parent j) (both j)

pub returns-clause-offset : goal.returns-clause-offset
returns-clause-offset g c = search rules steps 200000

pub returns-clause-emptied : goal.returns-clause-emptied
returns-clause-emptied g c =
    let parent = ap (λ l. l.parent) c.other.view_is in
    let none : c.move_tail.new.self ≡ [] = c.move_tail.ensures.left in
    λ i. record { parent = parent i; items = none i }
