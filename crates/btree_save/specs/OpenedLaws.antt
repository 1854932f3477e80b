-- Where the store has room for the number of each node, a map that was saved is opened.
use Rattle.std.specs.Prelude.{ℕ, List, Result, Ok, Err, IsOk, refl}
use Rattle.std.specs.declared.cmp.Ordering.{Ordering}
use Rattle.btree_laws.specs.TreeState.{IsUsed, TreeState}
use Rattle.btree_raw.specs.Limit.{IsBTreeWithinLimit}
use Rattle.btree_image.specs.Saved.{IsSavedAs}
use Rattle.btree_spelled.specs.Spelled.{Read}
use Rattle.btree_save.specs.declared.error.OpenError.{OpenError}
use Rattle.btree_save.specs.Opened.{Opens}

module _ {K V T : Type 0} (read_key : Read K) (read_value : Read V) (cmp : K → K → Ordering) (MayLack : ℕ → Type 0) (bytes : List ℕ) (s : TreeState K V) where
  -- the bytes of a well formed tree within its limit are opened, if the store has room for the number of each node
  pub opens-within : IsSavedAs read_key read_value s bytes → IsBTreeWithinLimit s cmp → ((id : ℕ) → IsUsed s id → ¬ MayLack id) → (result : Result T OpenError) → Opens read_key read_value cmp MayLack bytes result → IsOk result
  opens-within saved within room (Ok x) opens = refl
  opens-within saved within room (Err e) opens = let lacking = (opens s saved within).1 in absurd (room lacking.id lacking.used lacking.lacks)
