use Rattle.std.proofs.lemmas.Grind.{common_steps}
use Rattle.std.proofs.Common.{◌≡◌, ◌≢◌, ◌∙◌, ◌-◌, ◌<◌, ◌^◌, Option, Some, ap, arith, nat_cmp, refl, subst, sym, ℕ}
use Rattle.btree_item.specs.Offset.{index_offset}
use Rattle.btree_item.specs.Address.{Address}
use Rattle.btree_node.specs.declared.node.Node.{Node}
use Rattle.btree_node.specs.declared.node.Node.TheVariants.{Internal}
use Rattle.btree_node.specs.Node.{view_of}
use Rattle.btree_view.specs.Edits.{without_at}
use Rattle.btree_view.specs.View.{View, child_after_offset, item_at_offset}
use Rattle.btree_laws.specs.TreeState.{IsOffByOneAt}
use Rattle.btree_raw.specs.Insertion.{IsOffByOneWith}
use Rattle.btree_raw.specs.Raw.{with_node}
use Rattle.btree_raw.proofs.PutBackLemmas.{put-back-at}
use Rattle.book_nodes.proofs.insertion.put_back_inner.Goals as goal

-- the offset of an index that is no greatest number
offset-is : (n : ℕ) → n < 2 ^ 64 - 1 → index_offset n ≡ Some n
offset-is n low = let differs : n ≢ 2 ^ 64 - 1 = λ e. omega arith in grind arith

pub insert_exactly_at-requires-clause-off_by_one : goal.insert_exactly_at-requires-clause-off_by_one
insert_exactly_at-requires-clause-off_by_one g c =
    λ rooted. let off : IsOffByOneAt nat_cmp c.args.raw.now c.args.id = c.is_off_by_one-is_off.ensures.0 (grind (arith, common_steps) steps 300000) in
    let is : index_offset c.args.index ≡ Some c.args.index = offset-is c.args.index (omega arith) in
    let old : Node ℕ ℕ = Internal c.in-Internal.node in
    let new : Node ℕ ℕ = Internal c.remove-left.new.self in
    let v : View (ℕ × ℕ) = view_of old in
    subst (λ (a : Address). IsOffByOneWith nat_cmp (with_node c.args.raw.now c.args.id new) a c.remove-left.result.1 (Some c.remove-left.result.2))
    (sym (c.new.ensures ∙ ap (λ (o : Option ℕ). record { id = c.args.id; offset = o }) (c.from-2.ensures ∙ is)))
    (put-back-at nat_cmp c.args.raw.now (record { id = c.args.id; offset = Some c.args.index }) off old
    (sym c.node_mut.ensures.value ∙ ap Some c.in-Internal.is) new
    (c.remove-left.ensures.after ∙ ap (λ o. without_at o v) (c.from.ensures ∙ is)) c.remove-left.result.1 c.args.index refl
    (sym (c.remove-left.ensures.item ∙ ap (λ o. item_at_offset v o) (c.from.ensures ∙ is))) (Some c.remove-left.result.2)
    (c.remove-left.ensures.right ∙ ap (λ o. child_after_offset v o) (c.from.ensures ∙ is)))
