use Rattle.btree_raw.proofs.Common.{◌≡◌, ◌-◌, ◌^◌, ◌∙◌, Some, ap, arith, option_map, refl, rules, sym, view_of, with_parent, other-test, writes_node}
use Rattle.std.specs.FinMap as map
use Rattle.btree_raw.proofs.SingleNodeLemmas.{here-at}
use Rattle.btree_raw.proofs.node_changes.set_parent.Goals as goal

pub tell_fits-requires : goal.tell_fits-requires
tell_fits-requires g c κs = search rules steps 200000

pub set_parent-requires : goal.set_parent-requires
set_parent-requires g c = c.tell_fits.ensures

pub node_mut-requires : goal.node_mut-requires
node_mut-requires g c = (c.tell_fits.ensures, c.requires.used)

pub returns : goal.returns
returns g c =
    let kept = other-test c.args.parent (2 ^ 64 - 1) (λ same. omega (arith, same, c.requires.number)) in
    let is : view_of c.set_parent.new.self ≡ with_parent (Some c.args.parent) (view_of c.node_mut.result.now) = rw kept at c.set_parent.ensures in
    let here = here-at c.args.tree.now.nodes c.args.id c.node_mut.result.now c.node_mut.ensures.value in
    let w = writes_node c.args.tree.now.nodes (map.insert c.args.tree.now.nodes c.args.id c.set_parent.new.self) c.args.id c.set_parent.new.self refl in
    record {
      nodes = record { here = w.here ∙ (ap Some is ∙ sym (ap (option_map (with_parent (Some c.args.parent))) here)); others = w.others };
      rest = record { rest = refl };
    }
