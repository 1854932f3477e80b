-- A slot after a `&mut` to its value has ended.
use Rattle.std.specs.Prelude.{Option, Some}
use Rattle.std.specs.Borrow.{Lends, Fml, RattleType, MutBor}
use Rattle.std.specs.contracts.option.Option.{the_row as option_row}

-- once the borrow r ends, the slot has the last value that r pointed to
abbrev pub lends_filled : (T : RattleType) → MutBor (Option T.Denot) → MutBor T.Denot → Fml
lends_filled T slot r = Lends (option_row T) T slot r Some
