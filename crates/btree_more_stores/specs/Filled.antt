-- How a store keeps its places that is filled under chosen numbers, and what its loans say.
use Rattle.std.specs.Prelude.{◌≡◌, ◌⊎◌, ℕ, ◌+◌, ◌≤◌, List, length, Option, Some, count_by, is_some}
use Rattle.std.specs.Borrow.{Lends, Fml, RattleType, MutBor}
use Rattle.std.specs.contracts.option.Option.{the_row as option_row}
use Rattle.btree_more_stores.specs.Table.{IsTable}

-- each place without a value is listed once as free, and the list has room for every place
pub record IsFilled {T : Type 0} (slots : List (Option T)) (free : List ℕ) (held room : ℕ) : Type 0 where
  pub table : IsTable (length slots) slots free (length slots) held
  pub spare : length slots ≤ room

-- each place has a value
abbrev pub IsFull : {T : Type 0} → List (Option T) → Type 0
IsFull slots = count_by is_some slots ≡ length slots

-- there are as many places as before; or each of them had a value, and there is one more
abbrev pub KeepsPlaces : {T : Type 0} → (old new : List (Option T)) → Type 0
KeepsPlaces old new = (length new ≡ length old) ⊎ (IsFull old × (length new ≡ length old + 1))

-- once the borrow r ends, the slot has the last value that r pointed to
abbrev pub lends_filled : (T : RattleType) → MutBor (Option T.Denot) → MutBor T.Denot → Fml
lends_filled T slot r = Lends (option_row T) T slot r Some
