use Rattle.btree_map.proofs.Common.{◌≡◌, ◌∙◌, ap, sym, false, is_past_end, bound_key, left_of}
use Rattle.btree_map.specs.Editing.{RemovesEntry}
use Rattle.btree_map.proofs.OutsideLemmas.{removes-first}
use Rattle.btree_map.proofs.range_removal.remove_next.Goals as goal

pub returns-clause-removed : goal.returns-clause-removed
returns-clause-removed g c sure =
    let here : is_past_end g.K.Ord.cmp (bound_key c.args.end) c.in-Some.first.now.0 ≡ false =
    ap (λ k. is_past_end g.K.Ord.cmp (bound_key c.args.end) k) (sym c.key.ensures) ∙ sym c.is_past.ensures ∙ c.if-is_past.false in
    removes-first (λ x. RemovesEntry c.args.pairs.now c.remove.new.self x) (λ x. is_past_end g.K.Ord.cmp (bound_key c.args.end) x.0 ≡ false)
    (left_of c.args.pairs.now) c.in-Some.first.now c.remove.result c.in-Some.ensures c.remove.ensures.removed c.remove.ensures.none
    (λ x r. (left_of c.remove.new.self, r.left)) here
