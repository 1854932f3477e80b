-- The walk of the validator: where it begins, and what it has met.
-- `Spot` is the node where a walk begins, and `Met` its state, written `met` before a call and `after` after it. A part
-- of a tree is as it should be at a spot if `BeginsAt` holds, for which `Suits` compares it with the separators there;
-- `Meets` says what the walk has met after the part. A node may be exempt (`Sizes.antt`). Only the private functions of
-- `src/faults.rt` cite these words; the public calls cite `Faults.antt` and `OffByOne.antt`.
use Rattle.std.specs.Prelude.{◌≡◌, ℕ, ◌+◌, ◌<◌, length, IfOk, IfSome, Option, Some, None, Result, Ok, Err, option_copied}
use Rattle.std.specs.Borrow.{Bor}
use Rattle.std.specs.declared.cmp.Ordering.{Ordering}
use Rattle.btree_item.specs.declared.TheConstants.{MAX_LEVELS}
use Rattle.btree_item.specs.declared.fault.Fault.{Fault}
use Rattle.btree_item.specs.Pairs.{Ascends}
use Rattle.btree_node.specs.declared.node.Node.{Node}
use Rattle.btree_store.specs.Content.{Content}
use Rattle.btree_view.specs.Separators.{separator_after, separator_before}
use Rattle.btree_view.specs.View.{NodeMap, View}
use Rattle.btree_laws.specs.Focus.Subtree.{Holds, Subtree, count_at, id_of, items_under}
use Rattle.btree_laws.specs.Represents.{numbers_under}
use Rattle.btree_laws.specs.TreeState.{views}
use Rattle.btree_valid.specs.Faults.{Allows, AreBTree, AreBetween}
use Rattle.btree_valid.specs.Positions.{nearest_of}
use Rattle.btree_valid.specs.Sizes.{AreSized, PassesNode}
use Rattle.btree_valid.specs.declared.faults.Met.{Met}
use Rattle.btree_valid.specs.declared.faults.Spot.{Spot}
use Rattle.btree_valid.specs.declared.off_by_one.Exempt.{Exempt}

-- after so many have come, `after` is how many may still come
abbrev pub IsFewer : (left : Option ℕ) → (count : ℕ) → (after : Option ℕ) → Type 0
IsFewer left count after = (n : ℕ) → left ≡ Some (count + n) → after ≡ Some n

-- and before they came, so many more could come
abbrev pub WasMore : (after : Option ℕ) → (count : ℕ) → (left : Option ℕ) → Type 0
WasMore after count left = (n : ℕ) → after ≡ Some n → left ≡ Some (count + n)

-- the part is one of a well formed tree but for the exempt node, under this parent and between these separators
pub record Suits {K V : Type 0} (exempt : Option Exempt) (cmp : K → K → Ordering) (min max : Option K) (node_at : NodeMap (K × V)) (parent : Option ℕ) (height : ℕ) (part : Subtree (K × V) height) : Type 0 where
  pub holds : Holds (K × V) node_at height parent part
  pub sized : AreSized exempt min max node_at height part
  pub ascends : Ascends cmp (items_under (K × V) height part)
  pub between : AreBetween cmp min max (items_under (K × V) height part)

-- the walk has met no leaf on another level
abbrev pub CanMeet : (deepest : ℕ) → Met → Type 0
CanMeet deepest met = IfSome met.leaf_level (λ first. first ≡ deepest)

-- the walk has met a leaf on this level
pub record MeetsLeaf (level : ℕ) (met after : Met) : Type 0 where
  pub can : CanMeet level met
  pub after_is : after ≡ record met { leaf_level = Some level }

module _ {K V : Type 0} (content : Content (Node K V)) where
  -- the walk has met the part, whose leaves are on level `deepest`
  pub record Meets (deepest height : ℕ) (part : Subtree (K × V) height) (met after : Met) : Type 0 where
    pub leaves : after.leaf_level ≡ Some deepest
    pub items : IsFewer met.items (length (items_under (K × V) height part)) after.items
    pub nodes : IsFewer met.nodes (length (numbers_under (views content) height (id_of (K × V) height part))) after.nodes

  -- the answer of a walk that met the part and found no fault
  abbrev pub HasMet : (deepest height : ℕ) (part : Subtree (K × V) height) → (met : Met) → Result Met Fault → Type 0
  HasMet deepest height part met answer = (after : Met) × (answer ≡ Ok after) × Meets deepest height part met after

  module _ (cmp : K → K → Ordering) (exempt : Option Exempt) where
    -- the part begins at the spot, and is as it should be there
    pub record BeginsAt (spot : Spot K) (height : ℕ) (part : Subtree (K × V) height) : Type 0 where
      pub here : id_of (K × V) height part ≡ spot.id
      pub low : spot.level + height < MAX_LEVELS
      pub suits : Suits exempt cmp (option_copied spot.min) (option_copied spot.max) (views content) spot.parent height part

    -- the walk meets each part that is as it should be at the spot
    abbrev pub MeetsAt : Spot K → (met : Met) → Result Met Fault → Type 0
    MeetsAt spot met answer = (height : ℕ) (part : Subtree (K × V) height) → BeginsAt spot height part → CanMeet (spot.level + height) met
        → HasMet (spot.level + height) height part met answer

    -- the walk has met a part of this height that is as it should be at the spot, and nothing else
    pub record HasFoundPart (spot : Spot K) (met after : Met) (height : ℕ) : Type 0 where
      pub part : Subtree (K × V) height
      pub begins : BeginsAt spot height part
      pub can : CanMeet (spot.level + height) met
      pub leaves : after.leaf_level ≡ Some (spot.level + height)
      pub items : WasMore after.items (length (items_under (K × V) height part)) met.items
      pub nodes : WasMore after.nodes (length (numbers_under (views content) height (id_of (K × V) height part))) met.nodes

    -- an answer without a fault
    abbrev pub FindsAt : Spot K → (met : Met) → Result Met Fault → Type 0
    FindsAt spot met answer = IfOk answer (λ after. (height : ℕ) × HasFoundPart spot met after height)

  module _ (cmp : K → K → Ordering) where
    -- the spot with a part's own parent, and without separators
    abbrev pub freed : Spot K → (own : Option ℕ) → Spot K
    freed spot own = record spot { parent = own; min = None; max = None }

    -- the answer for a part there: the level of its leaves, or a fault whose check the parent and the separators of the
    -- spot do not pass
    abbrev pub IsAnswerFor : Spot K → (own : Option ℕ) (height : ℕ) (part : Subtree (K × V) height) → Result Met Fault → Type 0
    IsAnswerFor spot own height part (Ok after) = after.leaf_level ≡ Some (spot.level + height)
    IsAnswerFor spot own height part (Err fault) =
        Allows cmp own (count_at (K × V) height part) (items_under (K × V) height part) spot.parent (option_copied spot.min) (option_copied spot.max) fault → ⊥

    -- the walk answers so for each part of a well formed tree
    abbrev pub BlamesAt : Spot K → (met : Met) → Result Met Fault → Type 0
    BlamesAt spot met answer = (own : Option ℕ) (height : ℕ) (part : Subtree (K × V) height) → BeginsAt cmp None (freed spot own) height part
        → CanMeet (spot.level + height) met → IsAnswerFor spot own height part answer

    -- the walk of a well formed tree finds no fault, and nothing may still come then
    abbrev pub MeetsTree : (root : Option ℕ) → (len : ℕ) → Result Met Fault → Type 0
    MeetsTree root len answer = AreBTree cmp content root len → (after : Met) × (answer ≡ Ok after) × (after.items ≡ Some 0) × (after.nodes ≡ Some 0)

    -- without a fault and with nothing that may still come, the tree is well formed
    abbrev pub FindsTree : (root : Option ℕ) → (len : ℕ) → Result Met Fault → Type 0
    FindsTree root len answer = IfOk answer (λ after. after.items ≡ Some 0 → after.nodes ≡ Some 0 → AreBTree cmp content root len)

-- a node passes its checks at a spot
abbrev pub PassesAtSpot : {K V : Type 0} → (cmp : K → K → Ordering) → Option Exempt → Spot K → View (K × V) → Type 0
PassesAtSpot cmp exempt spot node = PassesNode cmp exempt spot.id spot.parent (option_copied spot.min) (option_copied spot.max) node

-- the nearest separator on a side of the child at an index: that of the node if there is one, else the far one
abbrev pub IsNearestBefore : {K V : Type 0} → View (K × V) → (index : ℕ) → (far nearest : Option (Bor K)) → Type 0
IsNearestBefore node index far nearest = option_copied nearest ≡ nearest_of (separator_before node index) (option_copied far)

abbrev pub IsNearestAfter : {K V : Type 0} → View (K × V) → (index : ℕ) → (far nearest : Option (Bor K)) → Type 0
IsNearestAfter node index far nearest = option_copied nearest ≡ nearest_of (separator_after node index) (option_copied far)
