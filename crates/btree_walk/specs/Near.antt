-- The last pair of a list that is within an end bound, and what a search for it finds.
-- Pairs past the bound come after all those within it. A search looks at what a walk has left in its leaf, then at the
-- rows above from the lowest one on, and then under the child after the last item that it found within the bound.
use Rattle.std.specs.Prelude.{⊤, ◌≡◌, ℕ, drop, Bool, true, false, List, [], ◌∷◌, ◌++◌, Option, Some, None, option_map}
use Rattle.std.specs.BTreeMap.Range.{entries_between, is_past_end}
use Rattle.std.specs.Borrow.{Bor}
use Rattle.std.specs.FinMap as finite
use Rattle.std.specs.List.{AllByRecursion}
use Rattle.std.specs.Option.{option_or}
use Rattle.std.specs.declared.cmp.Ordering.{Ordering}
use Rattle.std.specs.declared.ops.Bound.{Bound}
use Rattle.std.specs.declared.ops.Bound.TheVariants.{Unbounded}
use Rattle.btree_leaf.specs.Leaf.{Leaf}
use Rattle.btree_node.specs.declared.node.Node.{Node}
use Rattle.btree_node.specs.Node.{view_of}
use Rattle.btree_view.specs.View.{branches_of}
use Rattle.btree_laws.specs.Remaining.{IsUnder}
use Rattle.btree_laws.specs.Represents.{represented}
use Rattle.btree_laws.specs.TreeState.{TreeState, node_map}
use Rattle.btree_walk.specs.Ranges.{pair_now}
use Rattle.btree_walk.specs.Rows.{remaining_in_leaf}

module _ {A : Type 0} where
  -- the last element of a list, or none if it is empty
  abbrev pub IsLast : List A → Option A → Type 0
  IsLast xs None = xs ≡ []
  IsLast xs (Some x) = (before : List A) × (xs ≡ before ++ x ∷ [])

  -- the last element of a list, or another one if it is empty
  abbrev pub IsLastOr : List A → (other result : Option A) → Type 0
  IsLastOr xs other result = (last : Option A) × IsLast xs last × (result ≡ option_or last other)

  -- whether the list goes on; its first element is then past the bound
  abbrev pub StopsAt : (past : A → Bool) → List A → Bool → Type 0
  StopsAt past [] stops = stops ≡ false
  StopsAt past (x ∷ xs) stops = (stops ≡ true) × (past x ≡ true)

  -- a list is cut before its first element past the bound: the last one before the cut, and whether there is one after it
  pub record IsCut (past : A → Bool) (xs : List A) (last : Option A) (stops : Bool) : Type 0 where
    pub inside : List A
    pub outside : List A
    pub parts : xs ≡ inside ++ outside
    pub within : AllByRecursion (λ x. past x ≡ false) inside
    pub ended : IsLast inside last
    pub next : StopsAt past outside stops

module _ {K V : Type 0} (cmp : K → K → Ordering) (end : Bound K) where
  -- whether a pair is past the bound
  abbrev pub pair_past : K × V → Bool
  pair_past x = is_past_end cmp end x.0

  -- whether the item of a branch is past it
  abbrev pub branch_past : (K × V) × ℕ → Bool
  branch_past b = is_past_end cmp end b.0.0

module _ {A : Type 0} where
  -- the item of a branch, or another one if there is no branch
  abbrev pub item_or : Option (A × ℕ) → (other : Option A) → Option A
  item_or None other = other
  item_or (Some b) other = Some b.0

  -- the child of a branch
  abbrev pub child_in : Option (A × ℕ) → Option ℕ
  child_in branch = option_map (λ b. b.1) branch

-- a branch that references lead to
abbrev pub branch_now : {K V : Type 0} → Option ((Bor K × Bor V) × ℕ) → Option ((K × V) × ℕ)
branch_now branch = option_map (λ b. ((b.0.0.now, b.0.1.now), b.1)) branch

module _ {K V : Type 0} (cmp : K → K → Ordering) (end : Bound K) where
  -- the last of the pairs within an end bound, or none if all are past it
  abbrev pub IsLastWithin : List (K × V) → Option (K × V) → Type 0
  IsLastWithin pairs last = IsLast (entries_between cmp Unbounded end pairs) last

  -- what a leaf has left is cut before the first pair past the bound
  abbrev pub CutsLeaf : Option (Bor (Leaf K V)) → (passed : ℕ) → Option (Bor K × Bor V) × Bool → Type 0
  CutsLeaf leaf passed cut = IsCut (pair_past cmp end) (remaining_in_leaf leaf passed) (pair_now cut.0) cut.1

  -- what a node has left is cut before the first branch past the bound
  abbrev pub CutsRow : Node K V → (passed : ℕ) → Option ((Bor K × Bor V) × ℕ) × Bool → Type 0
  CutsRow node passed cut = IsCut (branch_past cmp end) (drop passed (branches_of (view_of node))) (branch_now cut.0) cut.1

module _ {K V : Type 0} (tree : TreeState K V) where
  -- a node of the tree, at some level
  abbrev pub IsSomewhere : (id : ℕ) → Type 0
  IsSomewhere id = (depth : ℕ) × IsUnder (node_map tree) (finite.len tree.nodes) depth id

  -- the list under a node
  abbrev pub list_under : (id : ℕ) → List (K × V)
  list_under id = represented (node_map tree) (finite.len tree.nodes) id

  -- the same for no node or one
  abbrev pub AreSomewhere : Option ℕ → Type 0
  AreSomewhere None = ⊤
  AreSomewhere (Some id) = IsSomewhere id

  abbrev pub list_below : Option ℕ → List (K × V)
  list_below None = []
  list_below (Some id) = list_under id

  -- the last pair within an end bound under the child of a branch; if there is none, the item of the branch; without a
  -- branch, another pair
  abbrev pub IsLastBelow : (K → K → Ordering) → Bound K → (branch : Option ((Bor K × Bor V) × ℕ)) → (other result : Option (Bor K × Bor V)) → Type 0
  IsLastBelow cmp end branch other result =
      IsLastOr (entries_between cmp Unbounded end (list_below (child_in (branch_now branch)))) (item_or (branch_now branch) (pair_now other)) (pair_now result)
