-- What nodes of both kinds store, and lists by an offset.
use Rattle.std.specs.Prelude.{ℕ, ◌-◌, ◌^◌, ◌==◌, List, set, Option, Some, None, if◌then◌else◌}
use Rattle.std.specs.List.{insert}
use Rattle.std.specs.Option.{option_and_then}

-- a number as that of a node: `usize::MAX` is the number of none
abbrev pub node_of : ℕ → Option ℕ
node_of id = if id == 2 ^ 64 - 1 then None else Some id

-- a parent as a node stores it: `Some(usize::MAX)` is read as `None`
abbrev pub kept_parent : Option ℕ → Option ℕ
kept_parent parent = option_and_then node_of parent

module _ {X : Type 0} where
  -- a list with x inserted at an offset; at -1 nothing is inserted
  abbrev pub insert_at : Option ℕ → List X → X → List X
  insert_at None xs x = xs
  insert_at (Some i) xs x = insert xs i x

  -- a list with x in the place of what is at an offset; at -1 nothing is replaced
  abbrev pub set_at : Option ℕ → List X → X → List X
  set_at None xs x = xs
  set_at (Some i) xs x = set xs i x
