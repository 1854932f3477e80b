use Rattle.btree_leaf.proofs.Common.{◌≡◌, Some, ap, sym, ◌∙◌, arith, rules, Leaf, node_of, common_steps}
use Rattle.std.specs.Prelude.{slice_get}
use Rattle.std.specs.Option.{option_copied_mut}
use Rattle.btree_leaf.proofs.LeafLemmas.{Ascends-from_inserted, inserted-at, inserted-gap}
use Rattle.btree_leaf.proofs.leaf.LeafNode.insert_by_key.Goals as goal

pub returns-in-Ok-clause-after : goal.returns-in-Ok-clause-after
returns-in-Ok-clause-after g c =
    let place = sym c.place.ensures.place ∙ c.in-Ok.is in
    let at : slice_get c.self.inside.items c.in-Ok.index ≡ Some c.unwrap-item.result.now = sym c.get_mut.ensures.value ∙ ap option_copied_mut c.unwrap-item.ensures in
    rw c.set_value.ensures.after
    (inserted-at g.K.Ord.cmp c.args.self.now (node_of c.self.inside.parent) c.self.inside.items c.self.view_is c.args.key c.in-Ok.index g.met.K.Ord.total c.requires.ascends place c.unwrap-item.result.now at c.args.value)

pub returns-in-Ok-clause-ascends : goal.returns-in-Ok-clause-ascends
returns-in-Ok-clause-ascends g c =
    Ascends-from_inserted g.K.Ord.cmp g.met.K.Ord.total c.args.key c.args.value _ _ (ap (λ (leaf : Leaf g.row.K.Denot g.row.V.Denot). leaf.items) (returns-in-Ok-clause-after g c)) c.requires.ascends

pub returns-in-Err-clause-ascends : goal.returns-in-Err-clause-ascends
returns-in-Err-clause-ascends g c =
    let place = sym c.place.ensures.place ∙ c.in-Err.is in
    let after = rw c.new.ensures at c.insert.ensures in
    Ascends-from_inserted g.K.Ord.cmp g.met.K.Ord.total c.args.key c.args.value c.args.self.now.items _
    (after ∙ inserted-gap g.K.Ord.cmp c.args.self.now (node_of c.self.inside.parent) c.self.inside.items c.self.view_is c.args.key c.in-Err.index c.args.value place) c.requires.ascends

pub place-requires : goal.place-requires
place-requires g c = grind (arith, common_steps) steps 300000

pub get_mut-requires : goal.get_mut-requires
get_mut-requires g c = search rules steps 200000

pub unwrap-item-requires : goal.unwrap-item-requires
unwrap-item-requires g c = grind (arith, common_steps) steps 2000000

pub offset_at-requires : goal.offset_at-requires
offset_at-requires g c = grind (arith, common_steps) steps 300000

pub set_value-requires : goal.set_value-requires
set_value-requires g c κs = search rules steps 200000

pub drop-key-requires : goal.drop-key-requires
drop-key-requires g c κs within = search rules steps 200000

pub new-requires : goal.new-requires
new-requires g c κs = search rules steps 200000

pub insert-requires : goal.insert-requires
insert-requires g c = grind (arith, common_steps) steps 2000000

pub offset_at-requires-in-Err : goal.offset_at-requires-in-Err
offset_at-requires-in-Err g c = grind (arith, common_steps) steps 300000

pub returns-in-Ok-clause-offset : goal.returns-in-Ok-clause-offset
returns-in-Ok-clause-offset g c = search rules steps 200000

pub returns-in-Ok-clause-answer : goal.returns-in-Ok-clause-answer
returns-in-Ok-clause-answer g c = grind (arith, common_steps) steps 300000

pub returns-in-Err-clause-offset : goal.returns-in-Err-clause-offset
returns-in-Err-clause-offset g c = search rules steps 200000

pub returns-in-Err-clause-answer : goal.returns-in-Err-clause-answer
returns-in-Err-clause-answer g c = grind (arith, common_steps) steps 300000

pub returns-in-Err-clause-after : goal.returns-in-Err-clause-after
returns-in-Err-clause-after g c = grind (arith, common_steps) steps 300000
