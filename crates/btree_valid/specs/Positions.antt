-- The positions of raw content, and the first fault at one of them.
-- A position is a list of child indexes. It is met if each node on its way is used and has the child with that index;
-- it then leads to a number (`Spotted`), which may be unused. Positions are in preorder (`Precedes`), and no node is
-- walked through: a fault is first if its check is the first to fail where it is, and if each position that comes
-- before passes all checks (`IsFirstFault`). At most one fault is first (`specs/PositionLaws.antt`).
use Rattle.std.specs.Prelude.{◌≡◌, ◌⊎◌, ⊤, ℕ, ◌+◌, ◌<◌, ◌≤◌, List, [], ◌∷◌, ◌++◌, slice_get, IsSome, IfSome, Option, Some, None, Result, Ok, Err}
use Rattle.std.specs.Map.{keys_of}
use Rattle.std.specs.declared.cmp.Ordering.{Ordering}
use Rattle.btree_item.specs.declared.TheConstants.{MAX_LEVELS}
use Rattle.btree_item.specs.declared.fault.Fault.{Fault}
use Rattle.btree_item.specs.declared.fault.Fault.TheVariants.{NoNode, TooDeep, NotBalanced}
use Rattle.btree_view.specs.Checks.{FirstFailed, PassesCheck, node_faults}
use Rattle.btree_view.specs.Separators.{separator_after, separator_before}
use Rattle.btree_view.specs.View.{NodeMap, View, children_of, items_of, most_of, parent_of}

-- the nearer separator, if there is one, and else the farther
abbrev pub nearest_of : {K : Type 0} → (near far : Option K) → Option K
nearest_of None far = far
nearest_of (Some key) far = Some key

-- a position comes before another in preorder: a beginning before what continues it, else by the first index that differs
abbrev pub Precedes : (way other : List ℕ) → Type 0
Precedes way [] = ⊥
Precedes [] (j ∷ other) = Unit {0}
Precedes (i ∷ way) (j ∷ other) = (i < j) ⊎ ((i ≡ j) × Precedes way other)

-- where a position leads: how many indexes it has, the number there, the number of the node above, and the nearest keys
-- left and right of the way
pub record Spotted (K : Type 0) : Type 0 where
  pub depth : ℕ
  pub id : ℕ
  pub parent : Option ℕ
  pub min : Option K
  pub max : Option K

-- a start, with this number above it and these separators around it
abbrev pub start_spot : {K : Type 0} → (id : ℕ) (parent : Option ℕ) (min max : Option K) → Spotted K
start_spot id parent min max = record { depth = 0; id = id; parent = parent; min = min; max = max }

-- a root, with nothing around it
abbrev pub root_spot : {K : Type 0} → ℕ → Spotted K
root_spot id = start_spot id None None None

module _ {K V : Type 0} where
  -- one index further down, at a node with this child
  abbrev pub step_down : Spotted K → View (K × V) → (index child : ℕ) → Spotted K
  step_down s node index child = record {
    depth = s.depth + 1;
    id = child;
    parent = Some s.id;
    min = nearest_of (separator_before node index) s.min;
    max = nearest_of (separator_after node index) s.max;
  }

  module _ (node_at : NodeMap (K × V)) where
    -- each node on the way is used and has the child with that index
    abbrev pub Leads : (from : Spotted K) (way : List ℕ) (to : Spotted K) → Type 0
    Leads from [] to = from ≡ to
    Leads from (index ∷ way) to =
        (node : View (K × V)) × (child : ℕ) × (node_at from.id ≡ Some node) × (slice_get (children_of node) index ≡ Some child)
        × Leads (step_down from node index child) way to

    -- a position below a start is met
    pub record IsMetBelow (start : Spotted K) (way : List ℕ) (at : Spotted K) : Type 0 where
      pub leads : Leads start way at
      pub low : at.depth ≤ MAX_LEVELS

    -- a position below a root is met; without a root there is none
    abbrev pub IsMetUnder : Option ℕ → (way : List ℕ) (at : Spotted K) → Type 0
    IsMetUnder None way at = ⊥
    IsMetUnder (Some root) way at = IsMetBelow (root_spot root) way at

    abbrev pub IsLeafAt : Spotted K → Type 0
    IsLeafAt at = (node : View (K × V)) × (node_at at.id ≡ Some node) × (children_of node ≡ [])

    module _ (IsMet : (way : List ℕ) (at : Spotted K) → Type 0) where
      -- the first leaf in preorder
      pub record IsFirstLeaf (way : List ℕ) (at : Spotted K) : Type 0 where
        pub met : IsMet way at
        pub leaf : IsLeafAt at
        pub before : (other : List ℕ) (there : Spotted K) → Precedes other way → IsMet other there → IsLeafAt there → ⊥

      -- and how many indexes its position has
      abbrev pub IsLeafDepth : ℕ → Type 0
      IsLeafDepth depth = (way : List ℕ) × (at : Spotted K) × IsFirstLeaf way at × (at.depth ≡ depth)

-- the faults of a position, in the order of their checks
abbrev pub position_faults : List Fault
position_faults = NoNode ∷ (node_faults ++ (TooDeep ∷ NotBalanced ∷ []))

module _ {K V : Type 0} (cmp : K → K → Ordering) where
  -- the check of a fault passes for a node, if there is one
  abbrev pub PassesOwn : Spotted K → Option (View (K × V)) → Fault → Type 0
  PassesOwn at node fault = IfSome node (λ v. PassesCheck cmp at.parent at.min at.max (parent_of v) (most_of v) (keys_of (items_of v)) fault)

  module _ (node_at : NodeMap (K × V)) (IsFirstDepth : ℕ → Type 0) where
    -- the check of a fault passes where a position leads; the first leaf has as many indexes as `IsFirstDepth` says
    abbrev pub PassesAt : Spotted K → Fault → Type 0
    PassesAt at NoNode = IsSome (node_at at.id)
    PassesAt at TooDeep = at.depth < MAX_LEVELS
    PassesAt at NotBalanced = IsLeafAt node_at at → (first : ℕ) → IsFirstDepth first → at.depth ≡ first
    PassesAt at fault = PassesOwn at (node_at at.id) fault

    -- the answer where a position leads: the fault of the first check that fails, or Ok
    abbrev pub IsVerdictAt : Spotted K → Result ⊤ Fault → Type 0
    IsVerdictAt at answer = FirstFailed (PassesAt at) position_faults answer

    module _ (IsMet : (way : List ℕ) (at : Spotted K) → Type 0) where
      -- the fault of the first position in preorder where a check fails
      pub record IsFirstFaultAmong (fault : Fault) : Type 0 where
        pub way : List ℕ
        pub at : Spotted K
        pub met : IsMet way at
        pub fails : IsVerdictAt at (Err fault)
        pub before : (other : List ℕ) (there : Spotted K) → Precedes other way → IsMet other there → IsVerdictAt there (Ok tt)

      -- no check fails at any position
      abbrev pub HasNoFaultAmong : Type 0
      HasNoFaultAmong = (way : List ℕ) (at : Spotted K) → IsMet way at → IsVerdictAt at (Ok tt)

  module _ (node_at : NodeMap (K × V)) (IsMet : (way : List ℕ) (at : Spotted K) → Type 0) where
    abbrev pub IsFirstFault : Fault → Type 0
    IsFirstFault = IsFirstFaultAmong node_at (IsLeafDepth node_at IsMet) IsMet

    abbrev pub HasNoFault : Type 0
    HasNoFault = HasNoFaultAmong node_at (IsLeafDepth node_at IsMet) IsMet
