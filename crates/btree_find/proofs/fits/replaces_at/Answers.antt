use Rattle.btree_find.proofs.Common.{◌≡◌, ◌∙◌, IsSome, Some, refl, sym, ap, subst, item_of, IsPrevious}
use Rattle.std.specs.Option.{option_copied}
use Rattle.btree_find.proofs.FitsLemmas.{item-occupied, occupied-low, replaces-below, replaces-by}
use Rattle.btree_find.proofs.fits.replaces_at.Goals as goal

pub returns-then-is_above : goal.returns-then-is_above
returns-then-is_above g c =
    let s = c.args.tree.now in
    let a = c.args.addr in
    let k = c.args.key.now in
    let p = c.previous_item_address-previous.result in
    let n = c.next_item_address.result in
    let some : item_of s a ≡ Some c.in-Some._item.now = sym c.item.ensures.value ∙ ap option_copied c.in-Some.is in
    let occupied = item-occupied s a (subst (λ o. IsSome o) (sym some) refl) in
    let previous : IsPrevious s a p = c.previous_item_address-previous.ensures in
    let low = occupied-low g.K.Ord.cmp g.met.K.Ord.total s c.requires.tree a previous.place previous.has.at occupied in (
      λ t.
          replaces-by g.K.Ord.cmp k s a p n previous c.next_item_address.ensures occupied low (c.is_above.ensures.0 c.if-is_above.true)
          (c.is_below.ensures.0 t),
      λ r. c.is_below.ensures.1 (replaces-below g.K.Ord.cmp k s a p n previous c.next_item_address.ensures r),
    )
