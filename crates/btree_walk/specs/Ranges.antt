-- A range of pairs, from both ends.
-- The range has taken the first pair that is left from a forward walk, and it knows the last pair that it found. That one
-- is left, or the range has given it. What is left can be read off these.
use Rattle.std.specs.Prelude.{⊤, ◌≡◌, Bool, true, false, List, [], ◌∷◌, ◌++◌, Option, Some, None, option_map}
use Rattle.std.specs.BTreeMap.Range.{entries_between}
use Rattle.std.specs.Borrow.{Bor}
use Rattle.std.specs.declared.cmp.Ordering.{Ordering}
use Rattle.std.specs.declared.ops.Bound.{Bound}
use Rattle.std.specs.declared.ops.Bound.TheVariants.{Excluded, Included, Unbounded}
use Rattle.btree_laws.specs.TreeState.{TreeState, pairs_of}
use Rattle.btree_walk.specs.Preceding.{AreAncestorsBefore, AreFetched, preceding_with}
use Rattle.btree_walk.specs.Rows.{remaining_of}
use Rattle.btree_walk.specs.declared.walks.Front.{Front}
use Rattle.btree_walk.specs.declared.walks.Back.{Back}

module _ {A : Type 0} where
  -- the first pair that is left, with the pairs ahead of it
  abbrev pub from_first : (first : Option A) → (ahead : List A) → List A
  from_first None ahead = []
  from_first (Some x) ahead = x ∷ ahead

  -- these are the end of the list
  pub record IsAhead (all : List A) (first : Option A) (ahead : List A) : Type 0 where
    pub before : List A
    pub is : all ≡ before ++ from_first first ahead

  -- the last pair is in the list; with a backward walk, the pairs before it are those that the walk has left
  abbrev pub IsBehind : (all : List A) → (last : Option A) → (behind : Option (List A)) → Type 0
  IsBehind all None behind = ⊤
  IsBehind all (Some y) None = (before : List A) × (after : List A) × (all ≡ before ++ y ∷ after)
  IsBehind all (Some y) (Some behind) = (after : List A) × (all ≡ behind ++ y ∷ after)

  -- the first element of a list and the others; of no elements none are left
  abbrev pub IsFirstOf : List A → (first : Option A) → (rest : List A) → Type 0
  IsFirstOf xs None rest = (xs ≡ []) × (rest ≡ [])
  IsFirstOf xs (Some x) rest = xs ≡ x ∷ rest

  -- the last element of a list and the others; of no elements none are left
  abbrev pub IsLastOf : List A → (last : Option A) → (rest : List A) → Type 0
  IsLastOf xs None rest = (xs ≡ []) × (rest ≡ [])
  IsLastOf xs (Some x) rest = xs ≡ rest ++ x ∷ []

-- the bound that a last key is, if it is left, and if it was given
abbrev pub bound_at : {K : Type 0} → K → (is_left : Bool) → Bound K
bound_at k true = Included k
bound_at k false = Excluded k

module _ {K V : Type 0} (cmp : K → K → Ordering) where
  -- what is left of the pairs from the first one on
  abbrev pub left_until : List (K × V) → (last : Option (K × V)) → (is_left : Bool) → List (K × V)
  left_until pairs None is_left = []
  left_until pairs (Some y) is_left = entries_between cmp Unbounded (bound_at y.0 is_left) pairs

  -- of any final part of a list, the same is left with either of two last pairs
  abbrev pub AreLeftSame : (all : List (K × V)) → (last : Option (K × V)) → Bool → (other : Option (K × V)) → Bool → Type 0
  AreLeftSame all last is_left other other_left = (before pairs : List (K × V)) → all ≡ before ++ pairs
      → left_until pairs last is_left ≡ left_until pairs other other_left

module _ {K V : Type 0} where
  -- a pair that references lead to
  abbrev pub pair_now : Option (Bor K × Bor V) → Option (K × V)
  pair_now pair = option_map (λ p. (p.0.now, p.1.now)) pair

  -- the pair is the first, or the last, of a list, and the others are left
  abbrev pub GivesFirst : List (K × V) → Option (Bor K × Bor V) → (rest : List (K × V)) → Type 0
  GivesFirst xs pair rest = IsFirstOf xs (pair_now pair) rest

  abbrev pub GivesLast : List (K × V) → Option (Bor K × Bor V) → (rest : List (K × V)) → Type 0
  GivesLast xs pair rest = IsLastOf xs (pair_now pair) rest

  -- what a forward walk has left
  abbrev pub ahead_of : TreeState K V → Front K V → List (K × V)
  ahead_of tree front = remaining_of tree front.leaf front.passed front.ancestors

  -- what a backward walk has left
  abbrev pub behind_of : TreeState K V → Back K V → List (K × V)
  behind_of tree back = preceding_with tree back.run back.ancestors

  -- the same, if there is such a walk
  abbrev pub behind_in : TreeState K V → Option (Back K V) → Option (List (K × V))
  behind_in tree back = option_map (behind_of tree) back

  -- the same; without a walk, all pairs
  abbrev pub behind_or_all : TreeState K V → Option (Back K V) → List (K × V)
  behind_or_all tree None = pairs_of tree
  behind_or_all tree (Some back) = behind_of tree back

  -- a backward walk, if there is one
  abbrev pub IsBack : TreeState K V → Option (Back K V) → Type 0
  IsBack tree None = ⊤
  IsBack tree (Some back) = AreAncestorsBefore tree back.ancestors × AreFetched tree back.fetched
