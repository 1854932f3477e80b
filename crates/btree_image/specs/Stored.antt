-- A store with the node of one place more.
use Rattle.std.specs.Prelude.{ℕ, suc, Option, Some, None}
use Rattle.std.specs.FinMap as map
use Rattle.btree_store.specs.Content.{Content}

-- with this value under the number, if there is one
abbrev pub with_place : {T : Type 0} → Content T → (id : ℕ) → Option T → Content T
with_place content id None = content
with_place content id (Some value) = map.insert content id value

-- and the number after the highest one that was ever used
abbrev pub reached_with : {T : Type 0} → (reached id : ℕ) → Option T → ℕ
reached_with reached id None = reached
reached_with reached id (Some value) = suc id
