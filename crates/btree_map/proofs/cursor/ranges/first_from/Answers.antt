use Rattle.btree_map.proofs.Common.{◌∙◌, slice_get, sym, ap, item_addresses_of, pairs_of, bound_key, from_place}
use Rattle.btree_map.proofs.RangeStarts.{found-after, found-first, gap-after, gap-first, whole-first}
use Rattle.btree_map.proofs.cursor.ranges.first_from.Goals as goal

pub returns-in-Unbounded-clause-value : goal.returns-in-Unbounded-clause-value
returns-in-Unbounded-clause-value g c =
    let s = c.args.map.now in
    whole-first g.K.Ord.cmp g.met.K.Ord.total s c.tell_well_formed.ensures.well_formed c.first_item_address.result c.first_item_address.ensures
    ∙ ap (λ b. slice_get (item_addresses_of s) (from_place g.K.Ord.cmp (bound_key b) (pairs_of s))) (sym c.in-Unbounded.is)

pub returns-in-Ok-clause-value : goal.returns-in-Ok-clause-value
returns-in-Ok-clause-value g c =
    let s = c.args.map.now in
    found-first g.K.Ord.cmp g.met.K.Ord.total s c.tell_well_formed.ensures.well_formed c.in-Included.key.now c.in-Ok.at c.in-Ok.ensures
    ∙ ap (λ b. slice_get (item_addresses_of s) (from_place g.K.Ord.cmp (bound_key b) (pairs_of s))) (sym c.in-Included.is)

pub returns-in-Err-clause-value : goal.returns-in-Err-clause-value
returns-in-Err-clause-value g c =
    let s = c.args.map.now in
    gap-first g.K.Ord.cmp g.met.K.Ord.total s c.tell_well_formed.ensures.well_formed c.in-Included.key.now c.in-Err.gap c.normalize.result
    c.in-Err.ensures c.normalize.ensures
    ∙ ap (λ b. slice_get (item_addresses_of s) (from_place g.K.Ord.cmp (bound_key b) (pairs_of s))) (sym c.in-Included.is)

pub returns-in-Ok-address_of-clause-value : goal.returns-in-Ok-address_of-clause-value
returns-in-Ok-address_of-clause-value g c =
    let s = c.args.map.now in
    found-after g.K.Ord.cmp g.met.K.Ord.total s c.tell_well_formed.ensures.well_formed c.in-Excluded.key.now c.in-Ok-address_of.at
    c.next_item_address.result c.in-Ok-address_of.ensures c.next_item_address.ensures
    ∙ ap (λ b. slice_get (item_addresses_of s) (from_place g.K.Ord.cmp (bound_key b) (pairs_of s))) (sym c.in-Excluded.is)

pub returns-in-Err-address_of-clause-value : goal.returns-in-Err-address_of-clause-value
returns-in-Err-address_of-clause-value g c =
    let s = c.args.map.now in
    gap-after g.K.Ord.cmp g.met.K.Ord.total s c.tell_well_formed.ensures.well_formed c.in-Excluded.key.now c.in-Err-address_of.gap
    c.normalize-in-Err-address_of.result c.in-Err-address_of.ensures c.normalize-in-Err-address_of.ensures
    ∙ ap (λ b. slice_get (item_addresses_of s) (from_place g.K.Ord.cmp (bound_key b) (pairs_of s))) (sym c.in-Excluded.is)
