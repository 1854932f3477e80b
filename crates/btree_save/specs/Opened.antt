-- What `open` promises, beside `IsSavedAs` of `btree_image`: the bytes say that this is the tree.
use Rattle.std.specs.Prelude.{◌≡◌, ◌≢◌, ◌-◌, ℕ, IfErr, IfSome, List, length, Option, Some, Result, Err}
use Rattle.std.specs.Io.KnownBytes.{Appends, IsAtEnd}
use Rattle.std.specs.IoError.{error_kind}
use Rattle.std.specs.declared.io.ErrorKind.TheVariants.{Interrupted}
use Rattle.std.specs.declared.cmp.Ordering.{Ordering}
use Rattle.btree_laws.specs.TreeState.{TreeState}
use Rattle.btree_raw.specs.Limit.{IsBTreeWithinLimit}
use Rattle.btree_valid.specs.Faults.{IsRawVerdict}
use Rattle.btree_image.specs.declared.fault.BadImage.{BadImage}
use Rattle.btree_image.specs.Reading.{image_at}
use Rattle.btree_image.specs.Saved.{AreOnlyBytesOf, IsSavedAs, LacksNode, LacksRoom}
use Rattle.btree_spelled.specs.Spelled.{Read}
use Rattle.btree_save.specs.declared.error.OpenError.{OpenError}
use Rattle.btree_save.specs.declared.error.OpenError.TheVariants as errors
use Rattle.btree_save.specs.declared.error.SaveError.{SaveError}
use Rattle.btree_save.specs.declared.error.SaveError.TheVariants as saves

module _ {K V : Type 0} (read_key : Read K) (read_value : Read V) where
  -- the first fault of the bytes, and the place of the field that has it
  pub record IsFaultAt (bytes : List ℕ) (fault : BadImage) (at : ℕ) : Type 0 where
    pub left : ℕ
    pub first : image_at read_key read_value bytes ≡ Err (record { fault = fault; left = left })
    pub place : at ≡ length bytes - left

  module _ (cmp : K → K → Ordering) (MayLack : ℕ → Type 0) where
    -- why bytes are not opened: the store may have no room for the number of a node up to which they have no fault; or the first fault of
    -- the image; or the bytes are those of a tree, and this is its verdict. No reader is asked.
    abbrev pub IsRefusedBy : List ℕ → OpenError → Type 0
    IsRefusedBy bytes (errors.Read e) = ⊥
    IsRefusedBy bytes errors.Store = LacksRoom read_key read_value MayLack bytes
    IsRefusedBy bytes (errors.Image fault at) = IsFaultAt bytes fault at
    IsRefusedBy bytes (errors.Tree fault) = (s : TreeState K V) × IsSavedAs read_key read_value s bytes × IsRawVerdict cmp s (Err fault)

    -- so it is with the bytes that a reader had left, if they are known
    pub record IsRefusedFrom (remaining : Option (List ℕ)) (e : OpenError) : Type 0 where
      pub bytes : List ℕ
      pub all : IfSome remaining (λ left. bytes ≡ left)
      pub refused : IsRefusedBy bytes e

    -- why a reader is not opened: it failed, and was not just interrupted, or its bytes are refused
    abbrev pub IsErrorFrom : Option (List ℕ) → OpenError → Type 0
    IsErrorFrom remaining (errors.Read e) = error_kind e ≢ Interrupted
    IsErrorFrom remaining errors.Store = IsRefusedFrom remaining errors.Store
    IsErrorFrom remaining (errors.Image fault at) = IsRefusedFrom remaining (errors.Image fault at)
    IsErrorFrom remaining (errors.Tree fault) = IsRefusedFrom remaining (errors.Tree fault)

    -- if they are the bytes of a well formed tree within its limit, they are opened, unless the store may have no room for the number of a
    -- node of it
    abbrev pub Opens : {T : Type 0} → List ℕ → Result T OpenError → Type 0
    Opens bytes result = (s : TreeState K V) → IsSavedAs read_key read_value s bytes → IsBTreeWithinLimit s cmp → IfErr result (λ e. (e ≡ errors.Store) × LacksNode MayLack s)

    -- the reader failed, or the store may have no room for the number of a node of the tree
    abbrev pub IsNoFaultOf : TreeState K V → OpenError → Type 0
    IsNoFaultOf s (errors.Read e) = Unit {0}
    IsNoFaultOf s errors.Store = LacksNode MayLack s
    IsNoFaultOf s (errors.Image fault at) = ⊥
    IsNoFaultOf s (errors.Tree fault) = ⊥

    -- if a reader has the bytes of a well formed tree within its limit left, and nothing else, they are opened, unless it fails, or the
    -- store may have no room for the number of a node of it
    abbrev pub OpensFrom : {T : Type 0} → Option (List ℕ) → Result T OpenError → Type 0
    OpensFrom remaining result = (s : TreeState K V) (bytes : List ℕ) → remaining ≡ Some bytes → IsSavedAs read_key read_value s bytes → IsBTreeWithinLimit s cmp
        → IfErr result (IsNoFaultOf s)

  -- the bytes that the reader had left, if they are known, are those of the tree
  pub record IsOpenedFrom (remaining : Option (List ℕ)) (s : TreeState K V) : Type 0 where
    pub bytes : List ℕ
    pub all : IfSome remaining (λ left. bytes ≡ left)
    pub saved : IsSavedAs read_key read_value s bytes

  -- the bytes that the writer got are those of the tree, and no others are
  pub record IsWrittenTo (before after : Option (List ℕ)) (s : TreeState K V) : Type 0 where
    pub bytes : List ℕ
    pub appended : Appends before after bytes
    pub saved : IsSavedAs read_key read_value s bytes
    pub only : AreOnlyBytesOf read_key read_value s bytes

-- a reader is at its end, unless it failed
abbrev pub IsReadToEnd : Option (List ℕ) → OpenError → Type 0
IsReadToEnd remaining (errors.Read e) = Unit {0}
IsReadToEnd remaining errors.Store = IsAtEnd remaining
IsReadToEnd remaining (errors.Image fault at) = IsAtEnd remaining
IsReadToEnd remaining (errors.Tree fault) = IsAtEnd remaining

-- where there is no memory for the bytes, the writer got none
abbrev pub IsUnwritten : (before after : Option (List ℕ)) → SaveError → Type 0
IsUnwritten before after saves.Memory = after ≡ before
IsUnwritten before after (saves.Write e) = Unit {0}
