-- The positions of a tree: all its addresses in order, offset -1 of each node included, with a step over each item
-- between them; so the place of an address is the number of items stepped over before it. `proofs/Places/OfTree.antt`
-- shows that this agrees with `IsPlace`.
use Rattle.std.specs.Prelude.{◌≡◌, ℕ, zero, suc, ◌⊎◌, List, [], ◌∷◌, ◌++◌, length, Option, Some, None}
use Rattle.btree_item.specs.Address.{Address}
use Rattle.btree_laws.specs.Focus.Subtree.{Subtree}
use Rattle.btree_laws.specs.Focus.Path.{Frame, at_first, at_branch, Path, top, under, frame_id, frame_index}

-- the address at offset -1 of a node, and at another offset
abbrev pub address_before : ℕ → Address
address_before id = record { id = id; offset = None }

abbrev pub address_at : ℕ → ℕ → Address
address_at id offset = record { id = id; offset = Some offset }

-- an address, with the item at it if there is one; or a step over an item
pub data Position (A : Type 0) : Type 0 where
  mark : Address → Option A → Position A
  over : Position A

-- how many items are stepped over
abbrev pub passed : {A : Type 0} → List (Position A) → ℕ
passed [] = 0
passed (mark address item ∷ later) = passed later
passed (over ∷ later) = suc (passed later)

-- no item is expected at an address, or exactly this one
abbrev pub IsExpected : {A : Type 0} → Option A → Option A → Type 0
IsExpected None item = Unit {0}
IsExpected (Some x) item = item ≡ Some x

-- the address comes after `place` items; if `expected` is `Some x`, the item x is at it
abbrev pub IsAt : {A : Type 0} → Option A → Address → List (Position A) → ℕ → Type 0
IsAt expected a [] place = ⊥
IsAt expected a (mark b item ∷ later) place = ((a ≡ b) × (place ≡ 0) × IsExpected expected item) ⊎ IsAt expected a later place
IsAt expected a (over ∷ later) place = (rest : ℕ) × (place ≡ suc rest) × IsAt expected a later rest

-- the addresses of a node from an offset on: that of each entry, then those below the entry, and the one past the last
abbrev pub positions_from : {A X : Type 0} → (X → A) → (X → List (Position A)) → (id offset : ℕ) → List X → List (Position A)
positions_from key below id offset [] = mark (address_at id offset) None ∷ []
positions_from key below id offset (entry ∷ entries) =
    mark (address_at id offset) (Some (key entry)) ∷ over ∷ (below entry ++ positions_from key below id (suc offset) entries)

-- the same without the one past the last entry
abbrev pub positions_to : {A X : Type 0} → (X → A) → (X → List (Position A)) → (id offset : ℕ) → List X → List (Position A)
positions_to key below id offset [] = []
positions_to key below id offset (entry ∷ entries) =
    mark (address_at id offset) (Some (key entry)) ∷ over ∷ (below entry ++ positions_to key below id (suc offset) entries)

-- all addresses of a node: -1, those below its first child, and the others
abbrev pub node_positions : {A X : Type 0} → (X → A) → (X → List (Position A)) → (id : ℕ) → List (Position A) → List X → List (Position A)
node_positions key below id first entries = mark (address_before id) None ∷ (first ++ positions_from key below id 0 entries)

module _ (A : Type 0) where
  abbrev pub positions : (height : ℕ) → Subtree A height → List (Position A)
  positions zero subtree = node_positions {A = A} {X = A} (λ x. x) (λ x. []) subtree.0 [] subtree.1
  positions (suc height) subtree =
      node_positions {A = A} {X = A × Subtree A height} (λ b. b.0) (λ b. positions height b.1) subtree.0 (positions height subtree.1) subtree.2

  abbrev pub branch_key : (height : ℕ) → A × Subtree A height → A
  branch_key height b = b.0

  abbrev pub branch_positions : (height : ℕ) → A × Subtree A height → List (Position A)
  branch_positions height b = positions height b.1

  -- the addresses of a node before its hole, and those after it, which begin at an offset
  abbrev pub positions_before : {height : ℕ} → Frame A height → List (Position A)
  positions_before {height} (at_first id back) = mark (address_before id) None ∷ []
  positions_before {height} (at_branch id first front x back) =
      mark (address_before id) None ∷ (positions height first ++ (positions_to (branch_key height) (branch_positions height) id 0 front
      ++ (mark (address_at id (length front)) (Some x) ∷ over ∷ [])))

  abbrev pub branches_after : {height : ℕ} → Frame A height → List (A × Subtree A height)
  branches_after {height} (at_first id back) = back
  branches_after {height} (at_branch id first front x back) = back

  abbrev pub positions_after : {height : ℕ} → Frame A height → (offset : ℕ) → List (Position A)
  positions_after {height} frame offset =
      positions_from (branch_key height) (branch_positions height) (frame_id frame) offset (branches_after frame)

  abbrev pub path_before : {height : ℕ} → Path A height → List (Position A)
  path_before {height} top = []
  path_before {height} (under frame path) = path_before path ++ positions_before frame

  abbrev pub path_after : {height : ℕ} → Path A height → List (Position A)
  path_after {height} top = []
  path_after {height} (under frame path) = positions_after frame (frame_index frame) ++ path_after path

  -- all addresses of a tree, given as a focus
  abbrev pub all_positions : (height : ℕ) → Path A height → Subtree A height → List (Position A)
  all_positions height path subtree = path_before path ++ (positions height subtree ++ path_after path)

-- `moved` sends each address to one with the same number of items before it, and at the same item if there is one
abbrev pub KeepsPositions : {A : Type 0} → (Address → Address) → List (Position A) → List (Position A) → Type 0
KeepsPositions {A} moved old new =
    (expected : Option A) (a : Address) (place : ℕ) → IsAt expected a old place → IsAt expected (moved a) new place
