use Rattle.btree_leaf.proofs.Common.{◌≡◌, length, ◌∙◌, ap, arith, rules}
use Rattle.std.proofs.Common.{[]}
use Rattle.btree_leaf.proofs.leaf.LeafNode.move_into.Goals as goal

pub item_count-count-requires : goal.item_count-count-requires
item_count-count-requires g c = search rules steps 200000

pub move_tail-requires : goal.move_tail-requires
move_tail-requires g c =
    let fits = c.well_formed in
    let long = ap (λ l. length l.items) c.self.view_is in
    let none = ap (λ l. length l.items) c.part.view_is ∙ ap (λ xs. length xs) c.requires in (
      omega arith,
      (omega arith, omega (arith, none, long, c.item_count-count.ensures.fits, c.item_count-count.ensures.value)),
    )

pub returns-clause-emptied : goal.returns-clause-emptied
returns-clause-emptied g c =
    let parent = ap (λ l. l.parent) c.self.view_is in
    let none : c.move_tail.new.self ≡ [] = c.move_tail.ensures.left in
    λ i. record { parent = parent i; items = none i }
