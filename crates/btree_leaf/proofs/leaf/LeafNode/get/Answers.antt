use Rattle.btree_leaf.proofs.Common.{common_steps, ◌≡◌, ◌∙◌, Some, ap, arith, rules, sym}
use Rattle.std.proofs.Common.{option_map, slice_get}
use Rattle.std.specs.Option.{option_copied}
use Rattle.btree_item.specs.Pairs.{found}
use Rattle.btree_leaf.proofs.leaf.LeafNode.get.Goals as goal

pub items-requires : goal.items-requires
items-requires g c = grind (arith, common_steps) steps 300000

pub place-requires : goal.place-requires
place-requires g c = grind (arith, common_steps) steps 300000

pub items-requires-in-Ok : goal.items-requires-in-Ok
items-requires-in-Ok g c = omega arith

pub get-requires : goal.get-requires
get-requires g c = search rules steps 200000

pub value-requires : goal.value-requires
value-requires g c κs = search rules steps 200000

pub returns-in-Some : goal.returns-in-Some
returns-in-Some g c =
    let item : slice_get c.items-in-Ok.result.now c.in-Ok.index ≡ Some c.in-Some.item.now = sym c.get.ensures ∙ ap option_copied c.in-Some.is in
    let same = ap (λ l. slice_get l c.in-Ok.index) (c.items-in-Ok.ensures ∙ sym c.items.ensures) in
    ap Some c.value.ensures
    ∙ ap (option_map (λ x. x.1)) (sym item ∙ same ∙ c.in-Ok.ensures.here ∙ ap (found g.K.Ord.cmp c.args.key.now) c.items.ensures)

pub returns-in-None : goal.returns-in-None
returns-in-None g c = grind (arith, common_steps) steps 300000

pub returns-in-Err : goal.returns-in-Err
returns-in-Err g c = grind (arith, common_steps) steps 300000
