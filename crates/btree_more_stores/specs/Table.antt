-- What a contract sees of a store over a list of slots, and how a `FixedSlab` keeps its places.
use Rattle.std.specs.Prelude.{◌≡◌, ◌≢◌, ℕ, ◌+◌, ◌<◌, ◌≤◌, List, length, Option, Some, None, IfSome, is_some, count_by, slice_index, slice_index_or, slice_set, refl}
use Rattle.std.specs.Coded.{Coded, code_by, coded×, coded_ℕ, coded_list, coded_option}
use Rattle.std.specs.FinMap.{get}
use Rattle.btree_store.specs.Content.{Content}

-- the value or nothing in each slot, and how often a value was refused
pub record Table (T : Type 0) : Type 0 where
  pub slots : List (Option T)
  pub refused : ℕ

abbrev pub table_code : {T : Type 0} → Coded T → Coded (Table T)
table_code {T} code =
    code_by
    (List (Option T) × ℕ)
    (coded× (coded_list (coded_option code)) coded_ℕ)
    (λ table. (table.slots, table.refused))
    (λ parts. record { slots = parts.0; refused = parts.1 })
    (λ _. refl)

-- the table with a value in a slot
abbrev pub with_value : {T : Type 0} → Table T → ℕ → T → Table T
with_value table slot value = record table { slots = slice_set table.slots slot (Some value) }

-- the same of a store of a fixed number of places, which never used those from `fresh` on
pub record Places (T : Type 0) : Type 0 where
  pub slots : List (Option T)
  pub fresh : ℕ
  pub refused : ℕ

abbrev pub places_code : {T : Type 0} → Coded T → Coded (Places T)
places_code {T} code =
    code_by
    (List (Option T) × (ℕ × ℕ))
    (coded× (coded_list (coded_option code)) (coded× coded_ℕ coded_ℕ))
    (λ store. (store.slots, (store.fresh, store.refused)))
    (λ parts. record { slots = parts.0; fresh = parts.1.0; refused = parts.1.1 })
    (λ _. refl)

-- the store with a value in a slot
abbrev pub with_value_at : {T : Type 0} → Places T → ℕ → T → Places T
with_value_at store slot value = record store { slots = slice_set store.slots slot (Some value) }

-- the places from `fresh` on were never used, and of the others each that has no value is listed once as free
pub record IsTable {T : Type 0} (places : ℕ) (slots : List (Option T)) (free : List ℕ) (fresh held : ℕ) : Type 0 where
  pub long : length slots ≡ places
  pub counted : held ≡ count_by is_some slots
  pub total : held + length free ≡ fresh
  pub within : fresh ≤ places
  pub below : (j : ℕ) → j < length free → slice_index free j < fresh
  pub vacant : (j : ℕ) → j < length free → slice_index_or slots (slice_index free j) None ≡ None
  pub apart : (i j : ℕ) → i < j → j < length free → slice_index free i ≢ slice_index free j
  pub beyond : (place : ℕ) → fresh ≤ place → slice_index_or slots place None ≡ None

-- not every value is one whose clone is infallible
abbrev pub HasFallible : {T : Type 0} → (is_infallible : T → Type 0) → Content T → Type 0
HasFallible is_infallible content = ¬ ((id : ℕ) → IfSome (get content id) is_infallible)
