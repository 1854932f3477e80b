use Rattle.btree_find.proofs.Common.{◌≡◌, ◌∙◌, ℕ, Option, sym, ap, subst, arith, view_of, address_at, address_before, IsValidIn, size_of, IsNormalized, IsPrevious}
use Rattle.btree_find.proofs.FitsLemmas.{fits-in-above, fits-in-below, fits-in-by}
use Rattle.btree_find.proofs.UnderLemmas.{spans}
use Rattle.btree_find.proofs.WalkLemmas.{address-is}
use Rattle.btree_find.proofs.fits.key_fits_in.Goals as goal

pub normalize-requires-clause-valid : goal.normalize-requires-clause-valid
normalize-requires-clause-valid g c =
    let s = c.args.tree.now in
    let b = spans g.K.Ord.cmp g.met.K.Ord.total s c.requires.tree c.args.id c.requires.used c.node.result.now c.node.ensures.value in
    let n = c.item_count-count.ensures.value in
    let few = c.item_count-count.ensures.fits in
    let is =
    address-is c.new-end.result c.args.id c.item_count-count.result c.from.result (omega arith) c.from.ensures c.new-end.ensures in
    subst (λ a. IsValidIn s a) (sym is) (subst (λ m. IsValidIn s (address_at c.args.id m)) (sym n) b.last)

pub returns-then-is_above : goal.returns-then-is_above
returns-then-is_above g c =
    let s = c.args.tree.now in
    let id = c.args.id in
    let k = c.args.key.now in
    let cmp = g.K.Ord.cmp in
    let size : ℕ = size_of (view_of c.node.result.now) in
    let p = c.previous_item_address.result in
    let n = c.normalize.result in
    let b = spans cmp g.met.K.Ord.total s c.requires.tree id c.requires.used c.node.result.now c.node.ensures.value in
    let first : c.new-start.result ≡ address_before id = c.new-start.ensures ∙ ap (λ (o : Option ℕ). record { id = id; offset = o }) c.before-2.ensures in
    let previous : IsPrevious s (address_before id) p = subst (λ a. IsPrevious s a p) first c.previous_item_address.ensures in
    let few = c.item_count-count.ensures.fits in
    let is =
    address-is c.new-end.result id c.item_count-count.result c.from.result (omega arith) c.from.ensures c.new-end.ensures in
    let last : c.new-end.result ≡ address_at id size = is ∙ ap (address_at id) c.item_count-count.ensures.value in
    let here : IsNormalized s (address_at id size) n = subst (λ a. IsNormalized s a n) last c.normalize.ensures in (
      λ t. fits-in-by cmp k s id size b.start b.begins b.ends p previous n here (c.is_above.ensures.0 c.if-is_above.true) (c.is_below.ensures.0 t),
      λ f. c.is_below.ensures.1 (fits-in-below cmp k s id size b.start b.begins b.ends p previous n here f),
    )

pub returns-else-is_above : goal.returns-else-is_above
returns-else-is_above g c =
    let s = c.args.tree.now in
    let id = c.args.id in
    let b = spans g.K.Ord.cmp g.met.K.Ord.total s c.requires.tree id c.requires.used c.node.result.now c.node.ensures.value in
    let p = c.previous_item_address.result in
    let first : c.new-start.result ≡ address_before id = c.new-start.ensures ∙ ap (λ (o : Option ℕ). record { id = id; offset = o }) c.before-2.ensures in
    let previous : IsPrevious s (address_before id) p = subst (λ a. IsPrevious s a p) first c.previous_item_address.ensures in (
      λ t. absurd (cc),
      λ f.
          c.is_above.ensures.1
          (fits-in-above g.K.Ord.cmp c.args.key.now s id (size_of (view_of c.node.result.now)) b.start b.begins b.ends p previous f),
    )

pub node-requires : goal.node-requires
node-requires g c = (c.tell_fits.ensures, c.requires.used)

pub item_count-count-requires : goal.item_count-count-requires
item_count-count-requires g c = c.tell_fits.ensures

pub previous_item_address-requires-clause-valid : goal.previous_item_address-requires-clause-valid
previous_item_address-requires-clause-valid g c =
    let s = c.args.tree.now in
    let id = c.args.id in
    let b = spans g.K.Ord.cmp g.met.K.Ord.total s c.requires.tree id c.requires.used c.node.result.now c.node.ensures.value in
    let first : c.new-start.result ≡ address_before id = c.new-start.ensures ∙ ap (λ (o : Option ℕ). record { id = id; offset = o }) c.before-2.ensures in
    subst (λ a. IsValidIn s a) (sym first) b.first
