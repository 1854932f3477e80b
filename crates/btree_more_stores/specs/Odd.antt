-- What an `OddSlab` contains: a map from odd numbers to values.
use Rattle.std.specs.Prelude.{◌≡◌, ◌⊎◌, ◌<◌, ◌≤◌, ℕ, ◌+◌, ◌-◌, ◌*◌, ◌/◌, ◌%◌, ◌^◌, List, [], ◌∷◌, Option, Some, None, IsSome, ltb, cond, slice_index_or, refl}
use Rattle.std.specs.Coded.{Coded, code_by, coded×, coded_ℕ}
use Rattle.std.specs.FinMap.{empty, insert, get}
use Rattle.slab.specs.Slab.{HasRoomFor, Slab, slab_code, with_value}
use Rattle.btree_store.specs.Content.{Content}

-- how many odd numbers are below `usize::MAX`
abbrev pub ODD_NUMBERS : ℕ
ODD_NUMBERS = 2 ^ 63 - 1

-- the number under which the value of a slot is: the first slot has the greatest one
abbrev pub odd_number : ℕ → ℕ
odd_number slot = 2 ^ 64 - 3 - 2 * slot

-- the slot of such a number
abbrev pub slot_of : ℕ → ℕ
slot_of number = (2 ^ 64 - 3 - number) / 2

-- a number is that of a slot
abbrev pub IsNumberOf : ℕ → ℕ → Type 0
IsNumberOf number slot = (slot < ODD_NUMBERS) × (odd_number slot ≡ number)

-- the values of these slots, each under its odd number, where the first slot is `slot`
abbrev pub odd_content_from : {T : Type 0} → ℕ → List (Option T) → Content T
odd_content_from slot [] = empty
odd_content_from slot (None ∷ rest) = odd_content_from (slot + 1) rest
odd_content_from slot (Some value ∷ rest) =
    cond (ltb slot ODD_NUMBERS) (insert (odd_content_from (slot + 1) rest) (odd_number slot) value) empty

-- the slots for which no odd number is left have no value
abbrev pub AreNumbered : {T : Type 0} → List (Option T) → Type 0
AreNumbered slots = (slot : ℕ) → ODD_NUMBERS ≤ slot → slice_index_or slots slot None ≡ None

-- every used number is odd
abbrev pub HasOddNumbers : {T : Type 0} → Content T → Type 0
HasOddNumbers content = (id : ℕ) → IsSome (get content id) → id % 2 ≡ 1

-- the slab of the inner store, and how often a value was refused in all
pub record Numbered (T : Type 0) : Type 0 where
  pub slab : Slab T
  pub refused : ℕ

abbrev pub numbered_code : {T : Type 0} → Coded T → Coded (Numbered T)
numbered_code {T} code =
    code_by
    (Slab T × ℕ)
    (coded× (slab_code code) coded_ℕ)
    (λ store. (store.slab, store.refused))
    (λ parts. record { slab = parts.0; refused = parts.1 })
    (λ _. refl)

-- the content of such a store
abbrev pub odd_content : {T : Type 0} → Numbered T → Content T
odd_content store = odd_content_from 0 store.slab.slots

-- the store with a value under an odd number
abbrev pub with_odd_value : {T : Type 0} → Numbered T → ℕ → T → Numbered T
with_odd_value store id value = record store { slab = with_value store.slab (slot_of id) value }

-- the inner store has to make room for a value, or would put it under a number for which no odd number is left
abbrev pub LacksNumber : {T : Type 0} → Numbered T → Type 0
LacksNumber old = (HasRoomFor old.slab 1 → ⊥) ⊎ (ODD_NUMBERS ≤ old.slab.vacant_key)
