-- What insertions of many elements, one after another, leave of a set.
-- Read `inserted_all` first. `Extends` says how far an iterator was stepped, and `Moves` the same of the set that `append`
-- takes elements from. `IsRefusedInTurn` is the refusal of one of the elements. The words after it say these of whole
-- sets, and of a refused insertion.
use Rattle.std.specs.Prelude.{◌≡◌, ◌≢◌, ◌≤◌, List, [], ◌∷◌, ◌++◌, length, Option, None, Some}
use Rattle.std.specs.Borrow.{Bor}
use Rattle.std.specs.Iterator.{YieldsThen}
use Rattle.std.specs.Option.{option_copied}
use Rattle.std.specs.declared.cmp.Ordering.{Ordering}
use Rattle.btree_item.specs.declared.refused.Cause.{Cause}
use Rattle.btree_item.specs.declared.refused.Refused.{Refused}
use Rattle.btree_store.specs.Content.{Content}
use Rattle.btree_node.specs.declared.node.Node.{Node}
use Rattle.btree_laws.specs.TreeState.{Kept}
use Rattle.btree_set.specs.Elements.{IsRefused, SetState, inserted, stored, set_with_limit}

module _ {T : Type 0} (cmp : T → T → Ordering) where
  -- the elements after the insertion of each element of the second list, in order
  abbrev pub inserted_all : List T → List T → List T
  inserted_all xs [] = xs
  inserted_all xs (y ∷ ys) = inserted_all (inserted cmp y xs) ys

  -- an iterator gave elements, which were inserted, and then the outcome: `None`, or an element that was not inserted. It
  -- still has what comes after
  pub record Extends {S : Type 0} (steps : S → Option T → S → Type 0) (old : List T) (source : S) (outcome : Option T) (new : List T) (rest : S) : Type 0 where
    pub given : List T
    pub yields : YieldsThen steps source given outcome rest
    pub elements : new ≡ inserted_all old given

  -- the first elements of `other` were inserted; then comes an element that was not inserted, and `rest` is what comes
  -- after
  pub record Moves (old other : List T) (x : T) (new rest : List T) : Type 0 where
    pub given : List T
    pub split : other ≡ given ++ x ∷ rest
    pub elements : new ≡ inserted_all old given

  -- the insertion of a new element was refused, in a set that kept the same as at the start; nothing has changed since
  pub record IsRefusedInTurn (MayRefuse : Content (Node T (Unit {0})) → Type 0) (x : T) (kept : Kept) (new : SetState T) (cause : Cause) : Type 0 where
    pub before : SetState T
    pub uncounted : before.kept ≡ kept
    pub absent : stored cmp x before.elements ≡ None
    pub refused : IsRefused cmp MayRefuse x before new cause

  module _ {S : Type 0} (steps : S → Option T → S → Type 0) where
    -- all elements of an iterator were inserted
    abbrev pub Adds : (old : SetState T) → (source : S) → (new : SetState T) → (rest : S) → Type 0
    Adds old source new rest = Extends steps old.elements source None new.elements rest

    -- the elements before a refused one were inserted
    abbrev pub AddsUntil : (old : SetState T) → (source : S) → (new : SetState T) → (rest : S) → Refused T (Unit {0}) → Type 0
    AddsUntil old source new rest refused = Extends steps old.elements source (Some refused.key) new.elements rest

    -- the same of a set that began without elements
    abbrev pub Collects : (source rest : S) → (new : SetState T) → Type 0
    Collects source rest new = Extends steps [] source None new.elements rest

    -- the elements before a refused one were inserted into a set that began without elements
    abbrev pub CollectsUntil : (source rest : S) → SetState T × Refused T (Unit {0}) → Type 0
    CollectsUntil source rest stopped = Extends steps [] source (Some stopped.1.key) stopped.0.elements rest

  -- all elements of `other` were inserted
  abbrev pub AddsAll : (old other new : SetState T) → Type 0
  AddsAll old other new = new.elements ≡ inserted_all old.elements other.elements

  -- the elements of `other` before a refused one were inserted, and those after it are left
  abbrev pub MovesUntil : (old other new rest : SetState T) → Refused T (Unit {0}) → Type 0
  MovesUntil old other new rest refused = Moves old.elements other.elements refused.key new.elements rest.elements

  -- the refused insertion was one of a new element, with its cause
  abbrev pub RefusesInTurn : (MayRefuse : Content (Node T (Unit {0})) → Type 0) → (kept : Kept) → (new : SetState T) → Refused T (Unit {0}) → Type 0
  RefusesInTurn MayRefuse kept new refused = IsRefusedInTurn MayRefuse refused.key kept new refused.cause

module _ {T : Type 0} (old other : SetState T) where
  -- the first has no elements, and those of the other are within its limit
  abbrev pub HasRoomForAll : Type 0
  HasRoomForAll = (old.elements ≡ []) × (length other.elements ≤ old.kept.limit)

  -- else the elements are moved one at a time
  abbrev pub MovesEach : Type 0
  MovesEach = HasRoomForAll → ⊥

  -- then all but the limits is exchanged, if the other has elements
  abbrev pub SwapsIntoEmpty : (new rest : SetState T) → Type 0
  SwapsIntoEmpty new rest =
      HasRoomForAll → other.elements ≢ [] → (new ≡ set_with_limit other old.kept.limit) × (rest ≡ set_with_limit old other.kept.limit)

-- the steps of an iterator that lends elements, as steps that give copies
abbrev pub copied_steps : {S T : Type 0} → (S → Option (Bor T) → S → Type 0) → S → Option T → S → Type 0
copied_steps {T = T} steps s r t = (lent : Option (Bor T)) × steps s lent t × (r ≡ option_copied lent)
