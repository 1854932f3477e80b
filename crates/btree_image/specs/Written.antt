-- What is written is read again: the words of the functions that write.
use Rattle.std.specs.Prelude.{◌≡◌, ℕ, zero, suc, ◌-◌, ◌^◌, ◌<◌, ◌≤◌, Bool, true, List, [], ◌∷◌, ◌++◌, slice_get, Option, Some, Ok, IsSome, IfSome}
use Rattle.btree_laws.specs.TreeState.{IsUsed, TreeState}
use Rattle.btree_view.specs.View.{NodeMap, View, most_of, size_of}
use Rattle.btree_image.specs.declared.TheConstants.{MAGIC, VERSION}
use Rattle.btree_image.specs.Image.{branch, number, place, word}
use Rattle.btree_spelled.specs.Pairs.{pair_bytes}
use Rattle.btree_image.specs.Reading.{branch_at, item_at, place_at}
use Rattle.btree_image.specs.Parse.{Parse}
use Rattle.btree_spelled.specs.Spelled.{Read}

-- a value's bytes are read as that value, whatever follows them
abbrev pub IsReadBy : {X : Type 0} → Parse X → (X → List ℕ) → X → Type 0
IsReadBy parse spell x = (rest : List ℕ) → parse (spell x ++ rest) ≡ Ok (x, rest)

-- so are those of each value of a list
abbrev pub AreReadBy : {X : Type 0} → Parse X → (X → List ℕ) → List X → Type 0
AreReadBy parse spell xs = (k : ℕ) → IfSome (slice_get xs k) (IsReadBy parse spell)

module _ {K V : Type 0} (spell_key : K → List ℕ) (spell_value : V → List ℕ) (read_key : Read K) (read_value : Read V) where
  abbrev pub IsItemRead : K × V → Type 0
  IsItemRead x = IsReadBy (item_at read_key read_value) (pair_bytes spell_key spell_value) x

  abbrev pub AreItemsRead : List (K × V) → Type 0
  AreItemsRead xs = AreReadBy (item_at read_key read_value) (pair_bytes spell_key spell_value) xs

  abbrev pub AreBranchesRead : List ((K × V) × ℕ) → Type 0
  AreBranchesRead xs = AreReadBy (branch_at read_key read_value) (branch (pair_bytes spell_key spell_value)) xs

  -- a place too, if it is not the last or has a node
  abbrev pub IsPlaceRead : Option (View (K × V)) → Type 0
  IsPlaceRead p = (is_last : Bool) → (is_last ≡ true → IsSome p) → IsReadBy (place_at read_key read_value is_last) (place (pair_bytes spell_key spell_value)) p

-- every number that is used is below this one, and the one before it is used
pub record IsPast {K V : Type 0} (s : TreeState K V) (count : ℕ) : Type 0 where
  pub all : (id : ℕ) → IsUsed s id → id < count
  pub last : 0 < count → IsUsed s (count - 1)

-- the node has an item, and not more than a well formed tree allows
pub record IsSizedNode {A : Type 0} (node : View A) : Type 0 where
  pub some : 0 < size_of node
  pub fits : size_of node ≤ most_of node

-- so it is with each node
abbrev pub AreSized : {A : Type 0} → NodeMap A → Type 0
AreSized {A} node_at = (id : ℕ) (node : View A) → node_at id ≡ Some node → IsSizedNode node

-- the places of so many numbers
abbrev pub places_of : {A : Type 0} → NodeMap A → ℕ → List (Option (View A))
places_of node_at zero = []
places_of node_at (suc n) = places_of node_at n ++ node_at n ∷ []

-- the length and the limit fit a word each
pub record HasWords {K V : Type 0} (s : TreeState K V) : Type 0 where
  pub len : s.len < 2 ^ 64
  pub limit : s.kept.limit < 2 ^ 64

-- what stands before so many places
abbrev pub head_bytes : {K V : Type 0} → TreeState K V → (count : ℕ) → List ℕ
head_bytes s count = word MAGIC ++ word VERSION ++ number s.root ++ word s.len ++ word s.kept.limit ++ word count
