-- The addresses of a tree in lists, each in order: those of the items, the back ones in leaves, all back ones, and all
-- front ones.
-- Contracts cite them by the state (`TreeAddresses.antt`); `AddressLaws.antt` says what is in each list.
use Rattle.std.specs.Prelude.{ℕ, zero, suc, List, [], ◌∷◌, ◌++◌, Option, Some, None}
use Rattle.std.specs.List.{flat_map}
use Rattle.btree_item.specs.Address.{Address}
use Rattle.btree_item.specs.Offset.{offset_before}
use Rattle.btree_view.specs.View.{View, leaf, internal, NodeMap, size_of}
use Rattle.btree_laws.specs.Place.{NOWHERE}
use Rattle.btree_laws.specs.Focus.Positions.{address_before, address_at}

-- from an offset of a node on: the address of each entry, and then those below the entry
abbrev pub slots : {X : Type 0} → (X → List Address) → (id offset : ℕ) → List X → List Address
slots below id offset [] = []
slots below id offset (entry ∷ entries) = address_at id offset ∷ (below entry ++ slots below id (suc offset) entries)

-- the same, and at the end the address past the last entry
abbrev pub slots_to_end : {X : Type 0} → (X → List Address) → (id offset : ℕ) → List X → List Address
slots_to_end below id offset [] = address_at id offset ∷ []
slots_to_end below id offset (entry ∷ entries) = address_at id offset ∷ (below entry ++ slots_to_end below id (suc offset) entries)

-- the addresses of the items of one node and below it, given those below each child
abbrev pub item_addresses_in : {A : Type 0} → (ℕ → List Address) → ℕ → Option (View A) → List Address
item_addresses_in below id None = []
item_addresses_in below id (Some (leaf parent items)) = slots (λ x. []) id 0 items
item_addresses_in below id (Some (internal parent first branches)) = below first ++ slots (λ b. below b.1) id 0 branches

-- the addresses of the items of a node and of those below it, down to at most `levels` levels
abbrev pub item_addresses : {A : Type 0} → NodeMap A → (levels : ℕ) → (id : ℕ) → List Address
item_addresses node_at zero id = []
item_addresses node_at (suc levels) id = item_addresses_in (item_addresses node_at levels) id (node_at id)

-- the same under a root
abbrev pub item_addresses_under : {A : Type 0} → NodeMap A → (levels : ℕ) → Option ℕ → List Address
item_addresses_under node_at levels None = []
item_addresses_under node_at levels (Some root) = item_addresses node_at levels root

-- the back addresses in one node if it is a leaf, or in the leaves below it, given those below each child
abbrev pub leaf_backs_in : {A : Type 0} → (ℕ → List Address) → ℕ → Option (View A) → List Address
leaf_backs_in below id None = []
leaf_backs_in below id (Some (leaf parent items)) = slots_to_end (λ x. []) id 0 items
leaf_backs_in below id (Some (internal parent first branches)) = below first ++ flat_map (λ b. below b.1) branches

-- the back addresses in the leaves under a node, down to at most `levels` levels
abbrev pub leaf_backs : {A : Type 0} → NodeMap A → (levels : ℕ) → (id : ℕ) → List Address
leaf_backs node_at zero id = []
leaf_backs node_at (suc levels) id = leaf_backs_in (leaf_backs node_at levels) id (node_at id)

-- the same under a root; without one, the address nowhere
abbrev pub leaf_backs_under : {A : Type 0} → NodeMap A → (levels : ℕ) → Option ℕ → List Address
leaf_backs_under node_at levels None = address_at NOWHERE 0 ∷ []
leaf_backs_under node_at levels (Some root) = leaf_backs node_at levels root

-- the back addresses in one node and below it, given those below each child
abbrev pub backs_in : {A : Type 0} → (ℕ → List Address) → ℕ → Option (View A) → List Address
backs_in below id None = []
backs_in below id (Some (leaf parent items)) = slots_to_end (λ x. []) id 0 items
backs_in below id (Some (internal parent first branches)) = below first ++ slots_to_end (λ b. below b.1) id 0 branches

-- the back addresses in a node and those below it, down to at most `levels` levels
abbrev pub backs : {A : Type 0} → NodeMap A → (levels : ℕ) → (id : ℕ) → List Address
backs node_at zero id = []
backs node_at (suc levels) id = backs_in (backs node_at levels) id (node_at id)

-- the same under a root
abbrev pub backs_under : {A : Type 0} → NodeMap A → (levels : ℕ) → Option ℕ → List Address
backs_under node_at levels None = []
backs_under node_at levels (Some root) = backs node_at levels root

-- the front addresses in one node and below it, given those below each child
abbrev pub fronts_in : {A : Type 0} → (ℕ → List Address) → ℕ → Option (View A) → List Address
fronts_in below id None = []
fronts_in below id (Some (leaf parent items)) = address_before id ∷ slots (λ x. []) id 0 items
fronts_in below id (Some (internal parent first branches)) = address_before id ∷ (below first ++ slots (λ b. below b.1) id 0 branches)

-- the front addresses in a node and those below it, down to at most `levels` levels
abbrev pub fronts : {A : Type 0} → NodeMap A → (levels : ℕ) → (id : ℕ) → List Address
fronts node_at zero id = []
fronts node_at (suc levels) id = fronts_in (fronts node_at levels) id (node_at id)

-- the same under a root
abbrev pub fronts_under : {A : Type 0} → NodeMap A → (levels : ℕ) → Option ℕ → List Address
fronts_under node_at levels None = []
fronts_under node_at levels (Some root) = fronts node_at levels root

-- the leftmost leaf under one node, given those under its children
abbrev pub first_leaf_in : {A : Type 0} → (ℕ → ℕ) → ℕ → Option (View A) → ℕ
first_leaf_in below id None = id
first_leaf_in below id (Some (leaf parent items)) = id
first_leaf_in below id (Some (internal parent first branches)) = below first

-- the leftmost leaf under a node, down to at most `levels` levels
abbrev pub first_leaf : {A : Type 0} → NodeMap A → (levels : ℕ) → (id : ℕ) → ℕ
first_leaf node_at zero id = id
first_leaf node_at (suc levels) id = first_leaf_in (first_leaf node_at levels) id (node_at id)

-- the number of the last child
abbrev pub last_child : {A : Type 0} → ℕ → List (A × ℕ) → ℕ
last_child first [] = first
last_child first (b ∷ branches) = last_child b.1 branches

-- the rightmost leaf under one node, given those under its children
abbrev pub last_leaf_in : {A : Type 0} → (ℕ → ℕ) → ℕ → Option (View A) → ℕ
last_leaf_in below id None = id
last_leaf_in below id (Some (leaf parent items)) = id
last_leaf_in below id (Some (internal parent first branches)) = below (last_child first branches)

-- the rightmost leaf under a node, down to at most `levels` levels
abbrev pub last_leaf : {A : Type 0} → NodeMap A → (levels : ℕ) → (id : ℕ) → ℕ
last_leaf node_at zero id = id
last_leaf node_at (suc levels) id = last_leaf_in (last_leaf node_at levels) id (node_at id)

-- the address one before an offset of a node: 0 gives -1
abbrev pub slot_before : ℕ → ℕ → Address
slot_before id offset = record { id = id; offset = offset_before (Some offset) }

-- the address of a node's last item: -1 if it has none
abbrev pub last_item_in : {A : Type 0} → ℕ → Option (View A) → Address
last_item_in id None = address_before id
last_item_in id (Some node) = slot_before id (size_of node)

-- the address of the last item in the rightmost leaf under a node
abbrev pub last_item : {A : Type 0} → NodeMap A → (levels : ℕ) → (id : ℕ) → Address
last_item node_at levels id = last_item_in (last_leaf node_at levels id) (node_at (last_leaf node_at levels id))
