use Rattle.btree_leaf.proofs.Common.{◌++◌, length, arith, ap, sym, ◌∙◌, rules}
use Rattle.std.proofs.Common.{drop}
use Rattle.btree_view.proofs.Cuts.{parts_of_split, front_of_split, back_of_split, last_is_there}
use Rattle.btree_leaf.proofs.LeafSplit.{IsSplit-leaf}
use Rattle.btree_leaf.proofs.leaf.LeafNode.split_into.Goals as goal

pub returns-clause-parts : goal.returns-clause-parts
returns-clause-parts g c =
    let long = ap (λ l. length l.items) c.self.view_is in
    let x_is = sym c.unwrap-median.ensures ∙ c.pop.ensures.answer in
    let tail = c.move_tail.ensures.moved ∙ ap (λ xs. xs ++ drop 5 c.self.inside.items) (ap (λ l. l.items) c.right.view_is ∙ c.requires.empty) in
    let parts = parts_of_split c.self.inside.items _ c.move_tail.new.self c.pop.new.self 4 c.unwrap-median.result (omega (arith, long, c.requires.over)) tail c.move_tail.ensures.left x_is c.pop.ensures.after in
    let front = front_of_split c.self.inside.items _ c.move_tail.new.self c.pop.new.self 4 c.unwrap-median.result (omega (arith, long, c.requires.over)) tail c.move_tail.ensures.left x_is c.pop.ensures.after in
    IsSplit-leaf c.args.self.now _ c.self.inside.items c.self.view_is c.pop.new.self c.move_tail.new.to c.unwrap-median.result parts front

pub returns-clause-left : goal.returns-clause-left
returns-clause-left g c =
    let long = ap (λ l. length l.items) c.self.view_is in
    let x_is = sym c.unwrap-median.ensures ∙ c.pop.ensures.answer in
    let tail = c.move_tail.ensures.moved ∙ ap (λ xs. xs ++ drop 5 c.self.inside.items) (ap (λ l. l.items) c.right.view_is ∙ c.requires.empty) in
    let front = front_of_split c.self.inside.items _ c.move_tail.new.self c.pop.new.self 4 c.unwrap-median.result (omega (arith, long, c.requires.over)) tail c.move_tail.ensures.left x_is c.pop.ensures.after in
    c.len.ensures.value ∙ front

pub returns-clause-right : goal.returns-clause-right
returns-clause-right g c =
    let long = ap (λ l. length l.items) c.self.view_is in
    let tail = c.move_tail.ensures.moved ∙ ap (λ xs. xs ++ drop 5 c.self.inside.items) (ap (λ l. l.items) c.right.view_is ∙ c.requires.empty) in
    let back = back_of_split c.self.inside.items c.move_tail.new.to 4 tail in
    omega (arith, long, c.requires.over, back, c.item_count-count.ensures.fits, c.item_count-count.ensures.value)

pub item_count-count-requires : goal.item_count-count-requires
item_count-count-requires g c = search rules steps 200000

pub move_tail-requires : goal.move_tail-requires
move_tail-requires g c =
    let fits = c.well_formed in
    let long = ap (λ l. length l.items) c.self.view_is in
    let none = ap (λ l. length l.items) c.right.view_is ∙ ap (λ xs. length xs) c.requires.empty in (
      omega arith,
      (omega (arith, long, c.requires.over), omega (arith, none, long, c.item_count-count.ensures.fits, c.item_count-count.ensures.value)),
    )

pub pop-requires : goal.pop-requires
pop-requires g c = search rules steps 200000

pub len-requires : goal.len-requires
len-requires g c = search rules steps 200000

pub unwrap-median-requires : goal.unwrap-median-requires
unwrap-median-requires g c =
    let long = ap (λ l. length l.items) c.self.view_is in
    last_is_there c.self.inside.items c.move_tail.new.self 4 _ (omega (arith, long, c.requires.over)) c.move_tail.ensures.left c.pop.ensures.answer
