-- An insertion by a cursor that starts at a bound.
use Rattle.std.specs.Prelude.{◌≡◌, ℕ, ◌∷◌, ◌++◌, IsSome, Result, length}
use Rattle.std.specs.declared.cmp.Ordering.{Ordering}
use Rattle.std.specs.declared.ops.Bound.{Bound}
use Rattle.btree_item.specs.Address.{Address}
use Rattle.btree_item.specs.declared.refused.Cause.{Cause}
use Rattle.btree_laws.specs.TreeState.{TreeState, pairs_of}
use Rattle.btree_find.specs.Navigation.{HasPlace}
use Rattle.btree_ext.specs.InsertAt.{IsRefusedAt}
use Rattle.btree_walk.specs.Bounds.{pairs_from}
use Rattle.btree_map.specs.Editing.{FitsBetween}
use Rattle.btree_map.specs.Spans.{pairs_before}
use Rattle.btree_fixed.specs.Capacity.{HoldsAll, RefusesExactlyAtPlace}

module _ {K V : Type 0} (cmp : K → K → Ordering) (start : Bound K) (old : TreeState K V) where
  -- the key lies between the pairs that the bound leaves out and the others
  abbrev pub FitsFrom : (key : K) → Type 0
  FitsFrom key = FitsBetween cmp key (pairs_before cmp start old) (pairs_from cmp start old)

  -- a pair stands between them then
  abbrev pub InsertsFrom : (key : K) (value : V) (new : TreeState K V) → Type 0
  InsertsFrom key value new = pairs_of new ≡ pairs_before cmp start old ++ (key, value) ∷ pairs_from cmp start old

  -- below the limit, the insertion is refused exactly if the nodes that it needs at its place do not fit
  abbrev pub RefusesExactlyFrom : {X E : Type 0} → (capacity : ℕ) → Result X E → Type 0
  RefusesExactlyFrom capacity result = RefusesExactlyAtPlace old (length (pairs_before cmp start old)) capacity result

  -- it is refused at a back address of that place, for the causes of an insertion there
  pub record IsRefusedFrom (new : TreeState K V) (capacity : ℕ) (cause : Cause) : Type 0 where
    pub gap : Address
    pub has : HasPlace old gap (length (pairs_before cmp start old))
    pub back : IsSome gap.offset
    pub refused : IsRefusedAt old new gap (HoldsAll capacity) cause
