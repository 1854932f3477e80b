-- What a step of a walk gives and leaves, and where a walk begins.
use Rattle.std.specs.Prelude.{◌≡◌, ℕ, Bool, true, List, Option}
use Rattle.std.specs.Borrow.{Bor}
use Rattle.std.specs.declared.cmp.Ordering.{Ordering}
use Rattle.std.specs.declared.ops.Bound.{Bound}
use Rattle.btree_leaf.specs.Leaf.{Leaf}
use Rattle.btree_laws.specs.TreeState.{TreeState, pairs_of}
use Rattle.btree_walk.specs.Bounds.{bound_key, pairs_from, pairs_up_to}
use Rattle.btree_walk.specs.Near.{IsLastWithin}
use Rattle.btree_walk.specs.Preceding.{preceding_at, preceding_of}
use Rattle.btree_walk.specs.Ranges.{AreLeftSame, GivesFirst, GivesLast, IsBehind, ahead_of, behind_in, behind_of, behind_or_all, from_first, pair_now}
use Rattle.btree_walk.specs.Rows.{remaining_after, remaining_at, remaining_of}
use Rattle.btree_walk.specs.declared.ancestors.Ancestor.{Ancestor}
use Rattle.btree_walk.specs.declared.walks.Back.{Back}
use Rattle.btree_walk.specs.declared.walks.Front.{Front}

-- the pair is the last of these within the end bound
abbrev pub GivesLastWithin : {K V : Type 0} → (K → K → Ordering) → (end : Bound (Bor K)) → List (K × V) → Option (Bor K × Bor V) → Type 0
GivesLastWithin cmp end pairs pair = IsLastWithin cmp (bound_key end) pairs (pair_now pair)

module _ {K V : Type 0} (tree : TreeState K V) where
  -- a first pair, and those that a forward walk has left after it
  abbrev pub ahead_from : Option (Bor K × Bor V) → Front K V → List (K × V)
  ahead_from first front = from_first (pair_now first) (ahead_of tree front)

  -- the pair is the first that a forward walk had left, and the others are left
  abbrev pub GivesNext : Option (List (K × V)) → List (Ancestor K V) → Option (Bor K × Bor V) → Option (List (K × V)) → List (Ancestor K V) → Type 0
  GivesNext run ancestors pair new_run new_ancestors = GivesFirst (remaining_after tree run ancestors) pair (remaining_after tree new_run new_ancestors)

  -- the pair is the last that a backward walk had left, and the others are left
  abbrev pub GivesPrevious : Option (Back K V) → Option (Bor K × Bor V) → Option (Back K V) → Type 0
  GivesPrevious old pair new = GivesLast (behind_or_all tree old) pair (behind_or_all tree new)

  -- the last pair is in the tree's list, with what a backward walk has left before it
  abbrev pub IsBehindIn : (last : Option (Bor K × Bor V)) → Option (Back K V) → Type 0
  IsBehindIn last back = IsBehind (pairs_of tree) (pair_now last) (behind_in tree back)

  -- a forward walk that came to node `top` has gone down to this leaf, and has the same left
  abbrev pub KeepsLeft : (top : ℕ) → (old : List (Ancestor K V)) → Option (Bor (Leaf K V)) → (passed : ℕ) → (new : List (Ancestor K V)) → Type 0
  KeepsLeft top old leaf passed new = remaining_at tree top old ≡ remaining_of tree leaf passed new

  -- so has a backward walk
  abbrev pub KeepsLeftBefore : (top : ℕ) → (old : List (Ancestor K V)) → Option (Bor (Leaf K V)) → (kept : ℕ) → (new : List (Ancestor K V)) → Type 0
  KeepsLeftBefore top old leaf kept new = preceding_at tree top old ≡ preceding_of tree leaf kept new

  module _ (cmp : K → K → Ordering) where
    -- the pair is the first one from a start bound on, and the walk has left those after it
    abbrev pub GivesFirstFrom : (start : Bound K) → Option (Bor K × Bor V) → Front K V → Type 0
    GivesFirstFrom start pair front = GivesFirst (pairs_from cmp start tree) pair (ahead_of tree front)

    -- the pair is the last one up to an end bound, and the walk has left those before it
    abbrev pub GivesLastUpTo : (end : Bound K) → Option (Bor K × Bor V) → Back K V → Type 0
    GivesLastUpTo end pair back = GivesLast (pairs_up_to cmp end tree) pair (behind_of tree back)

    -- a forward walk that is in this leaf has left the pairs from a start bound on
    abbrev pub HasLeftFrom : (start : Bound K) → Option (Bor (Leaf K V)) → (passed : ℕ) → List (Ancestor K V) → Type 0
    HasLeftFrom start leaf passed ancestors = remaining_of tree leaf passed ancestors ≡ pairs_from cmp start tree

    -- a backward walk that is in this leaf has left the pairs up to an end bound
    abbrev pub HasLeftUpTo : (end : Bound K) → Option (Bor (Leaf K V)) → (kept : ℕ) → List (Ancestor K V) → Type 0
    HasLeftUpTo end leaf kept ancestors = preceding_of tree leaf kept ancestors ≡ pairs_up_to cmp end tree

    -- up to the other pair, which is left, the same is left as up to the last one
    abbrev pub LeavesSame : (last : Option (Bor K × Bor V)) → (is_left : Bool) → (other : Option (Bor K × Bor V)) → Type 0
    LeavesSame last is_left other = AreLeftSame cmp (pairs_of tree) (pair_now last) is_left (pair_now other) true
