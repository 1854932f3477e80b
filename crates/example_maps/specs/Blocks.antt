-- Numbered blocks, of which some are reserved.
use Rattle.std.specs.Prelude.{◌≡◌, ℕ, ◌+◌, Option, Some, None}
use Rattle.btree_slab.specs.FirstFit.{FitsNowhere, IsFirstFit}
use Rattle.btree_slab.specs.Ranges.{IsUnion, has_number}
use Rattle.btree_slab.specs.State.{RangeState}

-- the first `size` blocks below `end` that were free are reserved now; or there are none, and nothing has changed
abbrev pub Reserves : (end size : ℕ) → (old new : RangeState) → Option ℕ → Type 0
Reserves end size old new (Some start) =
    IsFirstFit (has_number old.ranges) 0 end size start × IsUnion old.ranges start (start + size) new.ranges
Reserves end size old new None = (new ≡ old) × FitsNowhere (has_number old.ranges) 0 end size
