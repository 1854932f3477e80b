-- What `validate` and `validate_node` return on any content.
-- The first fault at a position if there is one; else `validate` compares the length, the number of nodes and the limit of
-- the length, and `validate_node` returns how many levels are below. Each content has one verdict (`verdict-once`,
-- `node-verdict-once`).
use Rattle.std.proofs.Common.{◌∙◌, inl, inr, sym, ap}
use Rattle.std.specs.Prelude.{suc, ◌≡◌, ◌⊎◌, ◌↔◌, ⊤, ℕ, ◌≤◌, List, [], ◌∷◌, length, Option, Some, None, Result, Ok, Err}
use Rattle.std.specs.FinMap as map
use Rattle.std.specs.declared.cmp.Ordering.{Ordering}
use Rattle.btree_item.specs.declared.TheConstants.{MAX_LEVELS}
use Rattle.btree_item.specs.declared.fault.Fault.{Fault}
use Rattle.btree_item.specs.declared.fault.Fault.TheVariants.{WrongLength, Unreachable, OverLimit}
use Rattle.btree_node.specs.declared.node.Node.{Node}
use Rattle.btree_store.specs.Content.{Content}
use Rattle.btree_view.specs.Checks.{FirstFailed}
use Rattle.btree_view.specs.View.{NodeMap}
use Rattle.btree_laws.specs.Represents.{numbers_under}
use Rattle.btree_laws.specs.TreeState.{pairs_under, views}
use Rattle.btree_valid.specs.PositionLaws.{fault-once, leaf-depth-once, met-once, met-once-under, no-fault, one-answer}
use Rattle.btree_valid.specs.Positions.{HasNoFault, IsFirstFault, IsLeafDepth, IsMetBelow, IsMetUnder, Spotted}
use Rattle.btree_valid.specs.declared.faults.Met.{Met}

-- the items met under a root, in order: those of at most 33 levels
unfoldable pub items_met : {K V : Type 0} → NodeMap (K × V) → Option ℕ → List (K × V)
items_met node_at root = pairs_under node_at root (suc MAX_LEVELS)

-- the numbers met under a root, as often as they are met (`numbers-met` in `ListedLaws.antt`)
unfoldable pub numbers_met : {A : Type 0} → NodeMap A → Option ℕ → List ℕ
numbers_met node_at None = []
numbers_met node_at (Some root) = numbers_under node_at MAX_LEVELS root

-- the faults of a whole tree in which no position has one, in the order of their checks
abbrev pub end_faults : List Fault
end_faults = WrongLength ∷ Unreachable ∷ OverLimit ∷ []

module _ {K V : Type 0} (cmp : K → K → Ordering) (nodes : Content (Node K V)) where
  module _ (root : Option ℕ) where
    -- the items met are as many as the length says
    abbrev pub CountsItems : (len : ℕ) → Type 0
    CountsItems len = length (items_met (views nodes) root) ≡ len

    -- the store has no more numbers than were met
    abbrev pub ReachesNodes : Type 0
    ReachesNodes = map.len nodes ≤ length (numbers_met (views nodes) root)

    abbrev pub PassesEnd : (len limit : ℕ) → Fault → Type 0
    PassesEnd len limit WrongLength = CountsItems len
    PassesEnd len limit Unreachable = ReachesNodes
    PassesEnd len limit OverLimit = len ≤ limit
    PassesEnd len limit fault = Unit {0}

    abbrev pub IsFirstFaultUnder : Fault → Type 0
    IsFirstFaultUnder = IsFirstFault cmp (views nodes) (IsMetUnder (views nodes) root)

    abbrev pub HasNoFaultUnder : Type 0
    HasNoFaultUnder = HasNoFault cmp (views nodes) (IsMetUnder (views nodes) root)

    -- the answer of `validate`, for a length and its limit
    abbrev pub IsVerdict : (len limit : ℕ) → Result ⊤ Fault → Type 0
    IsVerdict len limit answer =
        ((fault : Fault) × IsFirstFaultUnder fault × (answer ≡ Err fault))
        ⊎ (HasNoFaultUnder × FirstFailed (PassesEnd len limit) end_faults answer)

    -- there is one
    pub verdict-once : (len limit : ℕ) (a b : Result ⊤ Fault) → IsVerdict len limit a → IsVerdict len limit b → a ≡ b
    verdict-once len limit a b (inl f) (inl g) =
        f.2 ∙ (ap Err (fault-once (views nodes) (IsMetUnder (views nodes) root) (met-once-under (views nodes) root) cmp (IsLeafDepth (views nodes) (IsMetUnder (views nodes) root)) f.0 g.0 f.1 g.1) ∙ sym g.2)
    verdict-once len limit a b (inl f) (inr g) = absurd (no-fault (views nodes) (IsMetUnder (views nodes) root) (met-once-under (views nodes) root) cmp (IsLeafDepth (views nodes) (IsMetUnder (views nodes) root)) g.0 f.0 f.1)
    verdict-once len limit a b (inr f) (inl g) = absurd (no-fault (views nodes) (IsMetUnder (views nodes) root) (met-once-under (views nodes) root) cmp (IsLeafDepth (views nodes) (IsMetUnder (views nodes) root)) f.0 g.0 g.1)
    verdict-once len limit a b (inr f) (inr g) = one-answer (PassesEnd len limit) end_faults a b f.1 g.1

    -- what the walk from the root has met: what may still come is nothing exactly if a check at the end passes
    pub record HasMetTree (len : ℕ) (after : Met) : Type 0 where
      pub none : HasNoFaultUnder
      pub all_items : (after.items ≡ Some 0) ↔ CountsItems len
      pub all_nodes : (after.nodes ≡ Some 0) ↔ ReachesNodes

    abbrev pub NamesTree : (len : ℕ) → Result Met Fault → Type 0
    NamesTree len (Err fault) = IsFirstFaultUnder fault
    NamesTree len (Ok after) = HasMetTree len after

  module _ (start : Spotted K) where
    -- the answer of `validate_node`
    abbrev pub IsVerdictBelow : Result ℕ Fault → Type 0
    IsVerdictBelow answer =
        ((fault : Fault) × IsFirstFault cmp (views nodes) (IsMetBelow (views nodes) start) fault × (answer ≡ Err fault))
        ⊎ (HasNoFault cmp (views nodes) (IsMetBelow (views nodes) start) × (depth : ℕ) × IsLeafDepth (views nodes) (IsMetBelow (views nodes) start) depth × (answer ≡ Ok depth))

    pub node-verdict-once : (a b : Result ℕ Fault) → IsVerdictBelow a → IsVerdictBelow b → a ≡ b
    node-verdict-once a b (inl f) (inl g) =
        f.2 ∙ (ap Err (fault-once (views nodes) (IsMetBelow (views nodes) start) (met-once (views nodes) start) cmp (IsLeafDepth (views nodes) (IsMetBelow (views nodes) start)) f.0 g.0 f.1 g.1) ∙ sym g.2)
    node-verdict-once a b (inl f) (inr g) = absurd (no-fault (views nodes) (IsMetBelow (views nodes) start) (met-once (views nodes) start) cmp (IsLeafDepth (views nodes) (IsMetBelow (views nodes) start)) g.0 f.0 f.1)
    node-verdict-once a b (inr f) (inl g) = absurd (no-fault (views nodes) (IsMetBelow (views nodes) start) (met-once (views nodes) start) cmp (IsLeafDepth (views nodes) (IsMetBelow (views nodes) start)) f.0 g.0 g.1)
    node-verdict-once a b (inr f) (inr g) =
        f.3 ∙ (ap Ok (leaf-depth-once (views nodes) (IsMetBelow (views nodes) start) (met-once (views nodes) start) f.1 g.1 f.2 g.2) ∙ sym g.3)
