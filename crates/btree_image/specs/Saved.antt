-- Which trees bytes stand for.
use Rattle.std.specs.Prelude.{◌≡◌, ℕ, suc, ◌<◌, false, List, slice_index_or, Option, None, IsSome, Result, Ok, Err}
use Rattle.btree_laws.specs.TreeState.{IsUsed, TreeState, node_map}
use Rattle.btree_view.specs.View.{NodeMap, View}
use Rattle.btree_image.specs.declared.fault.Stop.{Stop}
use Rattle.btree_image.specs.declared.fault.ReadError.{ReadError}
use Rattle.btree_image.specs.declared.fault.ReadError.TheVariants as errors
use Rattle.btree_image.specs.declared.head.Head.{Head}
use Rattle.btree_image.specs.Image.{Image}
use Rattle.btree_image.specs.Reading.{head_at, image_at, many, place_at}
use Rattle.btree_spelled.specs.Spelled.{AreBytes, Read}

-- the nodes at these places, under their numbers, and no others
abbrev pub AreAt : {A : Type 0} → NodeMap A → List (Option (View A)) → Type 0
AreAt node_at places = (id : ℕ) → node_at id ≡ slice_index_or places id None

-- the tree has these nodes, this root and length, and keeps this limit
pub record IsImageOf {K V : Type 0} (s : TreeState K V) (i : Image (K × V)) : Type 0 where
  pub root : s.root ≡ i.root
  pub len : s.len ≡ i.len
  pub limit : s.kept.limit ≡ i.limit
  pub nodes : AreAt (node_map s) i.places

-- the bytes say that this is the tree
pub record IsSavedAs {K V : Type 0} (read_key : Read K) (read_value : Read V) (s : TreeState K V) (bytes : List ℕ) : Type 0 where
  pub image : Image (K × V)
  pub read : image_at read_key read_value bytes ≡ Ok image
  pub of : IsImageOf s image

-- these are the only bytes that say so
abbrev pub AreOnlyBytesOf : {K V : Type 0} → Read K → Read V → TreeState K V → List ℕ → Type 0
AreOnlyBytesOf read_key read_value s bytes = (other : List ℕ) → AreBytes other → IsSavedAs read_key read_value s other → other ≡ bytes

-- these places were read, the nodes are at them, and these bytes are left
pub record ReadsPlaces {A : Type 0} (node_at : NodeMap A) (rest : List ℕ) (read : Result (List (Option (View A)) × List ℕ) Stop) : Type 0 where
  pub places : List (Option (View A))
  pub is : read ≡ Ok (places, rest)
  pub nodes : AreAt node_at places

-- a store may have no room for the number of a node of this tree
pub record LacksNode {K V : Type 0} (MayLack : ℕ → Type 0) (s : TreeState K V) : Type 0 where
  pub id : ℕ
  pub lacks : MayLack id
  pub used : IsUsed s id

module _ {K V : Type 0} (read_key : Read K) (read_value : Read V) (MayLack : ℕ → Type 0) where
  -- one of so many places has a node, there is no fault up to it, and a store may have no room for its number. A place with a node is read
  -- alike whether it is the last or not.
  pub record LacksPlace (count : ℕ) (bytes : List ℕ) : Type 0 where
    pub id : ℕ
    pub lacks : MayLack id
    pub within : id < count
    pub places : List (Option (View (K × V)))
    pub rest : List ℕ
    pub read : many (λ left. place_at read_key read_value false) (suc id) bytes ≡ Ok (places, rest)
    pub node : IsSome (slice_index_or places id None)

  -- so it is with the places that follow the head of these bytes
  pub record LacksRoom (bytes : List ℕ) : Type 0 where
    pub head : Head
    pub rest : List ℕ
    pub read : head_at bytes ≡ Ok (head, rest)
    pub place : LacksPlace head.count rest

-- why bytes are not read: the store refused a node, and then this holds; or their first fault
abbrev pub IsErrorOf : {X : Type 0} → (lacks : Type 0) → Result X Stop → ReadError → Type 0
IsErrorOf lacks read errors.Store = lacks
IsErrorOf lacks read (errors.Image e) = read ≡ Err e
