use Rattle.std.proofs.lemmas.Grind.{common_steps}
use Rattle.std.proofs.Common.{◌≡◌, ◌∙◌, None, OnOk, arith, Result, Some, ap, nat_cmp, subst, sym}
use Rattle.btree_item.specs.Address.{Address}
use Rattle.btree_node.specs.Node.{view_of}
use Rattle.btree_view.specs.Edits.{without_at}
use Rattle.btree_laws.specs.TreeState.{IsOffByOneAt}
use Rattle.btree_raw.specs.Insertion.{IsOffByOneWith}
use Rattle.btree_raw.specs.Raw.{with_node}
use Rattle.btree_raw.proofs.PutBackLemmas.{put-back}
use Rattle.book_nodes.proofs.insertion.put_back.Goals as goal

pub insert_exactly_at-requires-clause-off_by_one : goal.insert_exactly_at-requires-clause-off_by_one
insert_exactly_at-requires-clause-off_by_one g c =
    λ rooted. let off : IsOffByOneAt nat_cmp c.args.raw.now c.args.id = c.is_off_by_one-is_off.ensures.0 (grind (arith, common_steps) steps 300000) in
    subst (λ (a : Address). IsOffByOneWith nat_cmp (with_node c.args.raw.now c.args.id c.leaf_remove.new.self) a c.in-Some-Ok.item None)
    (sym c.new.ensures)
    (put-back nat_cmp c.args.raw.now (record { id = c.args.id; offset = c.args.offset }) off c.node_mut.result.now (sym c.node_mut.ensures.value)
    c.leaf_remove.new.self
    (subst (λ (r : Result _ _). OnOk r (view_of c.leaf_remove.new.self ≡ without_at c.args.offset (view_of c.node_mut.result.now)))
    c.in-Some-Ok.field-0-is c.in-Some-Ok.ensures.taken)
    c.in-Some-Ok.item (ap Some (sym c.in-Some-Ok.field-0-is) ∙ c.in-Some-Ok.ensures.answer))
