-- What the bytes of a tree stand for: numbered places, each with a node or none, the root's number, the length and the
-- limit. Then their one spelling: words of eight bytes, the greatest byte first, of which the greatest stands for no
-- number, and keys and values as they are spelled. docs/FORMAT.md draws it.
use Rattle.std.specs.Prelude.{ℕ, ◌-◌, ◌^◌, List, ◌++◌, length, take, Option, Some, None}
use Rattle.std.specs.Int.{w64, from_be_bytes, to_be_bytes}
use Rattle.std.specs.List.{flat_map}
use Rattle.sha2.specs.Sha256.{sha256}
use Rattle.btree_view.specs.View.{View}
use Rattle.btree_view.specs.View.{leaf, internal}
use Rattle.btree_image.specs.declared.TheConstants.{MAGIC, VERSION}

pub record Image (A : Type 0) : Type 0 where
  pub root : Option ℕ
  pub len : ℕ
  pub limit : ℕ
  pub places : List (Option (View A))

abbrev pub word : ℕ → List ℕ
word n = to_be_bytes w64 n

abbrev pub number : Option ℕ → List ℕ
number None = word (2 ^ 64 - 1)
number (Some n) = word n

-- the check sum of bytes: the first word of their SHA-256
abbrev pub check_sum : List ℕ → ℕ
check_sum bytes = from_be_bytes w64 (take 8 (sha256 bytes))

module _ {A : Type 0} (spell : A → List ℕ) where
  abbrev pub branch : A × ℕ → List ℕ
  branch b = spell b.0 ++ word b.1

  -- 0 for no node; 1 and a leaf; 2 and an internal node
  abbrev pub place : Option (View A) → List ℕ
  place None = word 0
  place (Some (leaf parent items)) = word 1 ++ number parent ++ word (length items) ++ flat_map spell items
  place (Some (internal parent first branches)) =
      word 2 ++ number parent ++ word (length branches) ++ word first ++ flat_map branch branches

  abbrev pub body : Image A → List ℕ
  body i = word MAGIC ++ word VERSION ++ number i.root ++ word i.len ++ word i.limit ++ word (length i.places) ++ flat_map place i.places

  -- the body with its check sum
  abbrev pub spelling : Image A → List ℕ
  spelling i = body i ++ word (check_sum (body i))
