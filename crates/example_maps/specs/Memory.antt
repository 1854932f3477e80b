-- Addresses of which some have an owner.
use Rattle.std.specs.Prelude.{◌≡◌, ℕ, ◌+◌, ◌==◌, Bool, true, false, if◌then◌else◌, Option, Some, None}
use Rattle.btree_slab.specs.FirstFit.{FitsNowhere, IsFirstFit}
use Rattle.btree_slab.specs.RangeMapRanges.{IsAssigned, has_value}
use Rattle.btree_slab.specs.RangeMapState.{RangeState}
use Rattle.example_maps.specs.declared.memory.Owner.{Owner}
use Rattle.example_maps.specs.declared.memory.Owner.TheVariants.{Process, System}

-- the first `size` addresses below `end` that were free have the owner now; or there are none, and nothing has changed
abbrev pub Reserves : {V : Type 0} → (end size : ℕ) (owner : V) → (old new : RangeState V) → Option ℕ → Type 0
Reserves end size owner old new (Some start) =
    IsFirstFit (has_value old.ranges) 0 end size start × IsAssigned old.ranges start (start + size) owner new.ranges
Reserves end size owner old new None = (new ≡ old) × FitsNowhere (has_value old.ranges) 0 end size

-- whether two owners are the same
abbrev pub same_owner : Owner → Owner → Bool
same_owner System System = true
same_owner (Process p) (Process q) = p == q
same_owner System (Process q) = false
same_owner (Process p) System = false

-- the owner, after what one owner has was handed over to another
abbrev pub handed : (from to owner : Owner) → Owner
handed from to owner = if same_owner owner from then to else owner
