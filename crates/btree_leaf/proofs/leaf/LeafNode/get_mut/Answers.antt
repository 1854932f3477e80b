use Rattle.btree_leaf.proofs.Common.{◌∙◌, sym, arith, rules, node_of, common_steps}
use Rattle.std.proofs.Common.{inl}
use Rattle.btree_leaf.proofs.LeafLemmas.{found_value-at, with_value-at}
use Rattle.btree_leaf.proofs.leaf.LeafNode.get_mut.Goals as goal

pub returns-in-Some : goal.returns-in-Some
returns-in-Some g c =
    let place = sym c.place.ensures.place ∙ c.in-Ok.is in
    let at = sym c.in-Some.ensures.value in
    let written = with_value-at g.K.Ord.cmp c.args.self.now (node_of c.self.inside.parent) c.self.inside.items c.self.view_is c.args.key.now c.in-Ok.index g.met.K.Ord.total c.requires place c.in-Some.item.now at in (
      λ j. inl (c.value_mut.result.ghost_name, λ w. written w j),
      record {
        writes_back = tt;
        value = found_value-at g.K.Ord.cmp c.args.self.now (node_of c.self.inside.parent) c.self.inside.items c.self.view_is c.args.key.now c.in-Ok.index c.in-Some.item.now _ c.in-Ok.ensures.here at c.value_mut.ensures.value;
      },
    )

pub place-requires : goal.place-requires
place-requires g c = grind (arith, common_steps) steps 300000

pub get_mut-requires : goal.get_mut-requires
get_mut-requires g c = search rules steps 200000

pub value_mut-requires : goal.value_mut-requires
value_mut-requires g c κs = search rules steps 200000

pub invariant_of-self-lent : goal.invariant_of-self-lent
invariant_of-self-lent g c = search rules steps 200000

pub invariant_of-self-lent-in-None : goal.invariant_of-self-lent-in-None
invariant_of-self-lent-in-None g c = search rules steps 200000

pub returns-in-None : goal.returns-in-None
returns-in-None g c = grind (arith, common_steps) steps 300000

pub returns-in-Err : goal.returns-in-Err
returns-in-Err g c = grind (arith, common_steps) steps 300000
