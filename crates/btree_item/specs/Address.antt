-- An address as contracts see it, and how it is printed: `@id:offset`.
use Rattle.std.specs.Prelude.{ℕ, Option, List, ◌++◌, codes}
use Rattle.std.specs.Fmt.{decimal}
use Rattle.btree_item.specs.Offset.{offset_text}

-- a node's number and an offset in that node; `None` is the place before its first item
pub record Address : Type 0 where
  pub id : ℕ
  pub offset : Option ℕ

-- the printed text of an address
abbrev pub address_text : Address → List ℕ
address_text a = codes "@" ++ decimal a.id ++ codes ":" ++ offset_text a.offset
