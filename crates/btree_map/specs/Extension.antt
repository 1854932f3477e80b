-- What insertions of many pairs, one after another, leave of a list.
-- Read `inserted_all` first: `extend`, `from_iter` and `append` cite it. `Extends` says how far an iterator was stepped,
-- and `Moves` the same of the list that `append` takes pairs from. `IsRefusedInTurn` is the refusal of one of the pairs.
-- The words after it say these of whole trees, and of a refused insertion.
use Rattle.std.specs.Prelude.{◌≡◌, ◌≢◌, ◌≤◌, List, [], ◌∷◌, ◌++◌, length, Option, None, Some, option_map}
use Rattle.std.specs.Borrow.{Bor}
use Rattle.std.specs.Iterator.{YieldsThen}
use Rattle.std.specs.declared.cmp.Ordering.{Ordering}
use Rattle.btree_store.specs.Content.{Content}
use Rattle.btree_item.specs.Pairs.{found, inserted}
use Rattle.btree_item.specs.declared.refused.Cause.{Cause}
use Rattle.btree_item.specs.declared.refused.Refused.{Refused}
use Rattle.btree_node.specs.declared.node.Node.{Node}
use Rattle.btree_laws.specs.TreeState.{Kept, TreeState, pairs_of, with_limit}
use Rattle.btree_ext.specs.Insert.{IsRefusedAtGap}

module _ {K V : Type 0} (cmp : K → K → Ordering) where
  -- the list after the insertion of each pair of the second list, in order
  abbrev pub inserted_all : List (K × V) → List (K × V) → List (K × V)
  inserted_all xs [] = xs
  inserted_all xs (p ∷ ps) = inserted_all (inserted cmp p.0 p.1 xs) ps

  -- an iterator gave pairs, which were inserted, and then the outcome: `None`, or a pair that was not inserted. It still
  -- has what comes after
  pub record Extends {S : Type 0} (steps : S → Option (K × V) → S → Type 0) (old : List (K × V)) (source : S) (outcome : Option (K × V)) (new : List (K × V)) (rest : S) : Type 0 where
    pub given : List (K × V)
    pub yields : YieldsThen steps source given outcome rest
    pub pairs : new ≡ inserted_all old given

  -- the first pairs of `other` were inserted; then comes a pair that was not inserted, and `rest` is what comes after
  pub record Moves (old other : List (K × V)) (x : K × V) (new rest : List (K × V)) : Type 0 where
    pub given : List (K × V)
    pub split : other ≡ given ++ x ∷ rest
    pub pairs : new ≡ inserted_all old given

  -- the insertion of an absent key was refused, in a map that kept the same as at the start; nothing has changed since
  pub record IsRefusedInTurn (MayRefuse : Content (Node K V) → Type 0) (k : K) (kept : Kept) (new : TreeState K V) (cause : Cause) : Type 0 where
    pub before : TreeState K V
    pub uncounted : before.kept ≡ kept
    pub absent : found cmp k (pairs_of before) ≡ None
    pub refused : IsRefusedAtGap cmp k before new MayRefuse cause

  module _ {S : Type 0} (steps : S → Option (K × V) → S → Type 0) where
    -- all pairs of an iterator were inserted
    abbrev pub Adds : (old : TreeState K V) → (source : S) → (new : TreeState K V) → (rest : S) → Type 0
    Adds old source new rest = Extends steps (pairs_of old) source None (pairs_of new) rest

    -- the pairs before a refused one were inserted
    abbrev pub AddsUntil : (old : TreeState K V) → (source : S) → (new : TreeState K V) → (rest : S) → Refused K V → Type 0
    AddsUntil old source new rest refused = Extends steps (pairs_of old) source (Some (refused.key, refused.value)) (pairs_of new) rest

    -- the same of a map that began without pairs
    abbrev pub Collects : (source rest : S) → (new : TreeState K V) → Type 0
    Collects source rest new = Extends steps [] source None (pairs_of new) rest

    -- the pairs before a refused one were inserted into a map that began without pairs
    abbrev pub CollectsUntil : (source rest : S) → TreeState K V × Refused K V → Type 0
    CollectsUntil source rest stopped = Extends steps [] source (Some (stopped.1.key, stopped.1.value)) (pairs_of stopped.0) rest

  -- all pairs of `other` were inserted
  abbrev pub AddsAll : (old other new : TreeState K V) → Type 0
  AddsAll old other new = pairs_of new ≡ inserted_all (pairs_of old) (pairs_of other)

  -- the pairs of `other` before a refused one were inserted, and those after it are left
  abbrev pub MovesUntil : (old other new rest : TreeState K V) → Refused K V → Type 0
  MovesUntil old other new rest refused = Moves (pairs_of old) (pairs_of other) (refused.key, refused.value) (pairs_of new) (pairs_of rest)

  -- the refused insertion was one of an absent key, with its cause
  abbrev pub RefusesInTurn : (MayRefuse : Content (Node K V) → Type 0) → (kept : Kept) → (new : TreeState K V) → Refused K V → Type 0
  RefusesInTurn MayRefuse kept new refused = IsRefusedInTurn MayRefuse refused.key kept new refused.cause

module _ {K V : Type 0} (old other : TreeState K V) where
  -- the first has no pairs, and those of the other are within its limit
  abbrev pub HasRoomForAll : Type 0
  HasRoomForAll = (pairs_of old ≡ []) × (length (pairs_of other) ≤ old.kept.limit)

  -- else the pairs are moved one at a time
  abbrev pub MovesEach : Type 0
  MovesEach = HasRoomForAll → ⊥

  -- then all but the limits is exchanged, if the other has pairs
  abbrev pub SwapsIntoEmpty : (new rest : TreeState K V) → Type 0
  SwapsIntoEmpty new rest = HasRoomForAll → pairs_of other ≢ [] → (new ≡ with_limit other old.kept.limit) × (rest ≡ with_limit old other.kept.limit)

-- the steps of an iterator that lends keys and values, as steps that give copies
abbrev pub copied_steps : {S K V : Type 0} → (S → Option (Bor K × Bor V) → S → Type 0) → S → Option (K × V) → S → Type 0
copied_steps {K = K} {V = V} steps s r t = (lent : Option (Bor K × Bor V)) × steps s lent t × (r ≡ option_map (λ p. (p.0.now, p.1.now)) lent)
