use Rattle.btree_find.proofs.Common.{IsPrevious}
use Rattle.btree_find.proofs.FitsLemmas.{fits-above, fits-below, fits-by}
use Rattle.btree_find.proofs.fits.fits_at.Goals as goal

pub returns-then-is_above : goal.returns-then-is_above
returns-then-is_above g c =
    let s = c.args.tree.now in
    let a = c.args.addr in
    let k = c.args.key.now in
    let p = c.previous_item_address-previous.result in
    let n = c.normalize.result in
    let previous : IsPrevious s a p = c.previous_item_address-previous.ensures in (
      λ t. fits-by g.K.Ord.cmp k s a p n previous c.normalize.ensures (c.is_above.ensures.0 c.if-is_above.true) (c.is_below.ensures.0 t),
      λ f. c.is_below.ensures.1 (fits-below g.K.Ord.cmp k s a p n previous c.normalize.ensures f),
    )

pub returns-else-is_above : goal.returns-else-is_above
returns-else-is_above g c =
    let s = c.args.tree.now in
    let a = c.args.addr in
    let p = c.previous_item_address-previous.result in
    let previous : IsPrevious s a p = c.previous_item_address-previous.ensures in (
      λ t. absurd (cc),
      λ f. c.is_above.ensures.1 (fits-above g.K.Ord.cmp c.args.key.now s a p previous f),
    )
