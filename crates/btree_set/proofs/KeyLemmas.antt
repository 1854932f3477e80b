-- The keys of a map's list, as the elements of a set.
use Rattle.btree_set.proofs.Common.{◌≡◌, ◌∙◌, ℕ, ◌+◌, Bool, true, false, not, cond, List, [], ◌∷◌, Option, Some, None, is_some, option_map, IfSome, ◌&&◌, refl, sym, ap, subst, ◌≤◌, filter, keys_of, is_eq, Less, Equal, Greater, Ordering, pairs_of, SetState, set_of, stored, inserted_all}
use Rattle.std.proofs.Common.{◌↔◌, IsSome, IsTrue, if◌then◌else◌, IfNone, set}
use Rattle.std.proofs.lemmas.List.{map-append, map-set}
use Rattle.std.proofs.lemmas.Map.{keys-set_value}
use Rattle.std.proofs.lemmas.Map.Entries.{length-keys_of}
use Rattle.std.specs.Cmp.Lexicographic.{pointwise, slice_cmp, slice_partial_cmp}
use Rattle.std.specs.List.{count_by, find, insert, remove}
use Rattle.std.specs.Map.{lookup_entry}
use Rattle.std.specs.Ordering.{is_lt, ordering_then, partial_ordering_then}
use Rattle.btree_item.specs.Pairs as pairs
use Rattle.std.specs.declared.ops.Bound.{Bound}
use Rattle.btree_map.specs.Splitting as split
use Rattle.btree_set.specs.Splitting.{AreFrom}
use Rattle.btree_item.proofs.KeyLemmas.{count_by-cons}
use Rattle.btree_item.proofs.PairEdits.{keys_of-insert}
use Rattle.btree_internal.proofs.BranchLemmas.{map_remove}
use Rattle.btree_store.specs.Content.{Content}
use Rattle.btree_item.specs.declared.refused.Cause.{Cause}
use Rattle.btree_item.specs.declared.refused.Cause.TheVariants.{Count, Store}
use Rattle.btree_node.specs.declared.node.Node.{Node}
use Rattle.btree_laws.specs.TreeState.{Kept, TreeState}
use Rattle.btree_raw.specs.Insertion as raw
use Rattle.btree_ext.specs.Insert.{IsRefusedAtGap, LeavesPairs}
use Rattle.btree_ext.specs.Replace as replace
use Rattle.btree_ext.specs.Remove as lists
use Rattle.btree_ext.specs.Remove.{RemovesBy, RemovesByKey, RemovesIfThereBy}
use Rattle.btree_ext.specs.Update.{RemovesIfThere}
use Rattle.btree_map.specs.Comparison.{pair_cmp, pair_eq, pair_partial_cmp}
use Rattle.btree_map.specs.Extension as many
use Rattle.btree_set.specs.Elements.{IsRefused, LeavesElements, before, inserted, removed, replaced}
use Rattle.btree_set.specs.Extension.{IsRefusedInTurn, Moves}
use Rattle.btree_set.specs.Extension as sets

module _ {T V : Type 0} where
  find-keys : (test : T → Bool) (xs : List (T × V)) → find test (keys_of xs) ≡ option_map (λ p. p.0) (lookup_entry test xs)
  find-keys test [] = refl
  find-keys test (x ∷ xs) = by (test x.0) (find-keys test xs)
    where
      by : (b : Bool) → find test (keys_of xs) ≡ option_map (λ p. p.0) (lookup_entry test xs)
          → cond b (Some x.0) (find test (keys_of xs)) ≡ option_map (λ p. p.0) (cond b (Some x) (lookup_entry test xs))
      by true same = refl
      by false same = same

  count-keys : (test : T → Bool) (xs : List (T × V)) → count_by test (keys_of xs) ≡ count_by (λ x. test x.0) xs
  count-keys test [] = refl
  count-keys test (x ∷ xs) =
      count_by-cons test x.0 (keys_of xs) ∙ ap (λ n. cond (test x.0) 1 0 + n) (count-keys test xs) ∙ sym (count_by-cons (λ x. test x.0) x xs)

  some-map : (o : Option (T × V)) → is_some (option_map (λ p. p.0) o) ≡ is_some o
  some-map None = refl
  some-map (Some x) = refl

  module _ {Q : Type 0} (cmp : T → Q → Ordering) (k : Q) (xs : List (T × V)) where
    -- the stored element equal to a key is the key of the pair found by it
    pub stored-keys : stored cmp k (keys_of xs) ≡ option_map (λ p. p.0) (pairs.found cmp k xs)
    stored-keys = find-keys (λ q. is_eq (cmp q k)) xs

    pub before-keys : before cmp k (keys_of xs) ≡ pairs.before cmp k xs
    before-keys = count-keys (λ q. is_lt (cmp q k)) xs

    pub there-keys : is_some (stored cmp k (keys_of xs)) ≡ is_some (pairs.found cmp k xs)
    there-keys = ap is_some stored-keys ∙ some-map (pairs.found cmp k xs)

    -- the pair at a key was removed, if there was one
    pub removed-keys : keys_of (lists.removed cmp k xs) ≡ removed cmp k (keys_of xs)
    removed-keys = rw there-keys (by (is_some (pairs.found cmp k xs)))
      where
        by : (b : Bool) → keys_of (if b then remove xs (pairs.before cmp k xs) else xs)
            ≡ (if b then remove (keys_of xs) (before cmp k (keys_of xs)) else keys_of xs)
        by true = map_remove (λ x. x.0) xs (pairs.before cmp k xs) ∙ ap (λ n. remove (keys_of xs) n) (sym before-keys)
        by false = refl

  module _ (cmp : T → T → Ordering) (k : T) (xs : List (T × V)) where
    pub inserted-keys : (w : V) → keys_of (pairs.inserted cmp k w xs) ≡ inserted cmp k (keys_of xs)
    inserted-keys w = rw (there-keys cmp k xs) (by (is_some (pairs.found cmp k xs)))
      where
        by : (b : Bool) → keys_of (if b then pairs.with_value cmp k w xs else insert xs (pairs.before cmp k xs) (k, w))
            ≡ (if b then keys_of xs else insert (keys_of xs) (before cmp k (keys_of xs)) k)
        by true = keys-set_value (λ q. is_eq (cmp q k)) xs w
        by false = keys_of-insert xs (pairs.before cmp k xs) (k, w) ∙ ap (λ n. insert (keys_of xs) n k) (sym (before-keys cmp k xs))

    pub replaced-keys : (w : V) → keys_of (replace.replaced cmp k w xs) ≡ replaced cmp k (keys_of xs)
    replaced-keys w = rw (there-keys cmp k xs) (by (is_some (pairs.found cmp k xs)))
      where
        by : (b : Bool) → keys_of (if b then set xs (pairs.before cmp k xs) (k, w) else insert xs (pairs.before cmp k xs) (k, w))
            ≡ (if b then set (keys_of xs) (before cmp k (keys_of xs)) k else insert (keys_of xs) (before cmp k (keys_of xs)) k)
        by true = map-set (λ x. x.0) xs (pairs.before cmp k xs) (k, w) ∙ ap (λ n. set (keys_of xs) n k) (sym (before-keys cmp k xs))
        by false = keys_of-insert xs (pairs.before cmp k xs) (k, w) ∙ ap (λ n. insert (keys_of xs) n k) (sym (before-keys cmp k xs))

  -- nothing is there without pairs
  pub none-keys : (xs : List (T × V)) → keys_of xs ≡ [] → xs ≡ []
  none-keys [] e = refl
  none-keys (x ∷ xs) e = absurd (cc)

  pub keys-none : (xs : List (T × V)) → (xs ≡ []) ↔ (keys_of xs ≡ [])
  keys-none xs = (λ e. ap keys_of e, none-keys xs)

  module _ {Q : Type 0} (cmp : T → Q → Ordering) (k : Q) (xs : List (T × V)) where
    pub absent-keys : pairs.found cmp k xs ≡ None → stored cmp k (keys_of xs) ≡ None
    absent-keys none = stored-keys cmp k xs ∙ ap (option_map (λ p. p.0)) none

    pub some-keys : IsSome (pairs.found cmp k xs) ↔ IsSome (stored cmp k (keys_of xs))
    some-keys = (λ is. there-keys cmp k xs ∙ is, λ is. sym (there-keys cmp k xs) ∙ is)

    -- whether an insertion found no value
    pub new-keys : (old : Option V) (b : Bool) → old ≡ option_map (λ x. x.1) (pairs.found cmp k xs) → is_some old ≡ not b
        → IsTrue b ↔ (stored cmp k (keys_of xs) ≡ None)
    new-keys old b is test = rw (stored-keys cmp k xs) (by (pairs.found cmp k xs) b is test)
      where
        by : (o : Option (T × V)) (b : Bool) → old ≡ option_map (λ x. x.1) o → is_some old ≡ not b → IsTrue b ↔ (option_map (λ p. p.0) o ≡ None)
        by None true is test = (λ e. refl, λ e. refl)
        by None false is test = absurd (let e = ap is_some is in cc)
        by (Some x) true is test = absurd (let e = ap is_some is in cc)
        by (Some x) false is test = (λ e. absurd (cc), λ e. absurd (cc))

-- the pairs of a list inserted, by their keys
pub inserted_all-keys : {T V : Type 0} (cmp : T → T → Ordering) (xs ys : List (T × V))
    → keys_of (many.inserted_all cmp xs ys) ≡ inserted_all cmp (keys_of xs) (keys_of ys)
inserted_all-keys cmp xs [] = refl
inserted_all-keys cmp xs (y ∷ ys) =
    inserted_all-keys cmp (pairs.inserted cmp y.0 y.1 xs) ys ∙ ap (λ l. inserted_all cmp l (keys_of ys)) (inserted-keys cmp y.0 xs y.1)

module _ {T : Type 0} (M : Content (Node T (Unit {0})) → Type 0) where
  -- a refused insertion, as the set has it
  refused-set : (id : ℕ) (old new : TreeState T (Unit {0})) (cause : Cause) → raw.IsRefused M id old new cause → LeavesPairs old new cause
      → LeavesElements (set_of old) (set_of new) cause
  refused-set id old new Store is leaves = (ap (λ l. keys_of l) leaves.pairs, leaves.counts.0)
  refused-set id old new Count is leaves = (
    ap set_of is.0,
    subst (λ n. old.kept.limit ≤ n) (sym (length-keys_of (pairs_of old))) leaves.counts.1,
  )

  module _ (cmp : T → T → Ordering) (k : T) where
    pub gap-refused : (old new : TreeState T (Unit {0})) (cause : Cause) → IsRefusedAtGap cmp k old new M cause
        → IsRefused cmp M k (set_of old) (set_of new) cause
    gap-refused old new cause is = record { leaves = refused-set is.gap.id old new cause is.refused is.leaves; at_gap = is }

    pub turn-refused : (kept : Kept) (new : TreeState T (Unit {0})) (cause : Cause) → many.IsRefusedInTurn cmp M k kept new cause
        → IsRefusedInTurn cmp M k kept (set_of new) cause
    turn-refused kept new cause is = record {
      before = set_of is.before;
      uncounted = is.uncounted;
      absent = absent-keys cmp k (pairs_of is.before) is.absent;
      refused = gap-refused is.before new cause is.refused;
    }

-- the elements between two bounds
pub filter-keys : {T V : Type 0} (test : T → Bool) (xs : List (T × V)) → keys_of (filter (λ x. test x.0) xs) ≡ filter test (keys_of xs)
filter-keys test [] = refl
filter-keys test (x ∷ xs) = by (test x.0) (filter-keys test xs)
  where
    by : (b : Bool) → keys_of (filter (λ x. test x.0) xs) ≡ filter test (keys_of xs)
        → keys_of (cond b (x ∷ filter (λ x. test x.0) xs) (filter (λ x. test x.0) xs)) ≡ cond b (x.0 ∷ filter test (keys_of xs)) (filter test (keys_of xs))
    by true same = ap (λ l. x.0 ∷ l) same
    by false same = same

-- what holds of the pair that was taken out, or of none, holds of the pair that was there
if-there : {X : Type 0} (P : X → Type 0) (N : Type 0) (was o : Option X) → o ≡ was → IfSome o P → IfNone o N
    → ((x : X) → was ≡ Some x → P x) × (was ≡ None → N)
if-there P N was None is some none = (λ x there. absurd (let e = is ∙ there in cc), λ gone. none)
if-there P N was (Some y) is some none = (
  λ x there. let e : Some y ≡ Some x = is ∙ there in let same : y ≡ x = cc in subst P same some,
  λ gone. absurd (let e = is ∙ gone in cc),
)

-- so the tree was left, which is as it was if there was no pair
pub taken-nodes : {T V : Type 0} (cmp : T → T → Ordering) (k : T) (o : Option (T × V)) (old new : TreeState T V) → o ≡ pairs.found cmp k (pairs_of old)
    → IfSome o (λ x. RemovesByKey old new cmp k x) → IfNone o (new ≡ old) → RemovesIfThere cmp old new k
taken-nodes cmp k o old new is some none =
    let r = if-there (λ x. RemovesByKey old new cmp k x) (new ≡ old) (pairs.found cmp k (pairs_of old)) o is some none in
    record { present = r.0; absent = r.1 }

pub taken-nodes-by : {T Q V : Type 0} (cmp : T → T → Ordering) (compare : T → Q → Ordering) (k : Q) (o : Option (T × V)) (old new : TreeState T V)
    → o ≡ pairs.found compare k (pairs_of old)
    → IfSome o (λ x. RemovesBy old new cmp compare k x) → IfNone o (new ≡ old) → RemovesIfThereBy old new cmp compare k
taken-nodes-by cmp compare k o old new is some none =
    let r = if-there (λ x. RemovesBy old new cmp compare k x) (new ≡ old) (pairs.found compare k (pairs_of old)) o is some none in
    record { present = r.0; absent = r.1 }

-- values of `()` make no difference to comparisons
and-true : (b : Bool) → (b && true) ≡ b
and-true true = refl
and-true false = refl

pub same-keys : {T : Type 0} (eq : T → T → Bool) (unit_eq : Unit {0} → Unit {0} → Bool) → ((a b : Unit {0}) → unit_eq a b ≡ true) → (xs ys : List (T × Unit {0}))
    → pointwise (pair_eq eq unit_eq) xs ys ≡ pointwise eq (keys_of xs) (keys_of ys)
same-keys eq unit_eq units [] [] = refl
same-keys eq unit_eq units [] (y ∷ ys) = refl
same-keys eq unit_eq units (x ∷ xs) [] = refl
same-keys eq unit_eq units (x ∷ xs) (y ∷ ys) =
    rw (units x.1 y.1) (λ i. and-true (eq x.0 y.0) i && same-keys eq unit_eq units xs ys i)

then-equal : (o : Ordering) → ordering_then o Equal ≡ o
then-equal Less = refl
then-equal Equal = refl
then-equal Greater = refl

pub order-keys : {T : Type 0} (cmp : T → T → Ordering) (unit_cmp : Unit {0} → Unit {0} → Ordering) → ((a b : Unit {0}) → unit_cmp a b ≡ Equal)
    → (xs ys : List (T × Unit {0})) → slice_cmp (pair_cmp cmp unit_cmp) xs ys ≡ slice_cmp cmp (keys_of xs) (keys_of ys)
order-keys cmp unit_cmp units [] [] = refl
order-keys cmp unit_cmp units [] (y ∷ ys) = refl
order-keys cmp unit_cmp units (x ∷ xs) [] = refl
order-keys cmp unit_cmp units (x ∷ xs) (y ∷ ys) =
    rw (units x.1 y.1) (λ i. ordering_then (then-equal (cmp x.0 y.0) i) (order-keys cmp unit_cmp units xs ys i))

then-some : (o : Option Ordering) → partial_ordering_then o (Some Equal) ≡ o
then-some None = refl
then-some (Some Less) = refl
then-some (Some Equal) = refl
then-some (Some Greater) = refl

pub partial-keys : {T : Type 0} (cmp : T → T → Option Ordering) (unit_cmp : Unit {0} → Unit {0} → Option Ordering) → ((a b : Unit {0}) → unit_cmp a b ≡ Some Equal)
    → (xs ys : List (T × Unit {0})) → slice_partial_cmp (pair_partial_cmp cmp unit_cmp) xs ys ≡ slice_partial_cmp cmp (keys_of xs) (keys_of ys)
partial-keys cmp unit_cmp units [] [] = refl
partial-keys cmp unit_cmp units [] (y ∷ ys) = refl
partial-keys cmp unit_cmp units (x ∷ xs) [] = refl
partial-keys cmp unit_cmp units (x ∷ xs) (y ∷ ys) =
    rw (units x.1 y.1) (λ i. partial_ordering_then (then-some (cmp x.0 y.0) i) (partial-keys cmp unit_cmp units xs ys i))

-- the first pairs of a map were inserted into another
pub moves-keys : {T V : Type 0} (cmp : T → T → Ordering) (old other : List (T × V)) (x : T × V) (new rest : List (T × V)) → many.Moves cmp old other x new rest
    → Moves cmp (keys_of old) (keys_of other) x.0 (keys_of new) (keys_of rest)
moves-keys cmp old other x new rest m = record {
  given = keys_of m.given;
  split = ap (λ l. keys_of l) m.split ∙ map-append (λ p. p.0) m.given (x ∷ rest);
  elements = ap (λ l. keys_of l) m.pairs ∙ inserted_all-keys cmp old m.given;
}

-- a refused insertion leaves the elements
pub refused-elements : {T : Type 0} (old new : SetState T) (cause : Cause) → LeavesElements old new cause → new.elements ≡ old.elements
refused-elements old new Store is = is.0
refused-elements old new Count is = ap (λ (s : SetState _). s.elements) is.0

-- a set has room for another exactly if the map behind it has
module _ {T : Type 0} (old other : TreeState T (Unit {0})) where
  pub room-keys : sets.HasRoomForAll (set_of old) (set_of other) ↔ many.HasRoomForAll old other
  room-keys =
      let counts = length-keys_of (pairs_of other) in (
        λ room. (none-keys (pairs_of old) room.0, subst (λ n. n ≤ old.kept.limit) counts room.1),
        λ room. (ap keys_of room.0, subst (λ n. n ≤ old.kept.limit) (sym counts) room.1),
      )

  pub moves-each-keys : sets.MovesEach (set_of old) (set_of other) ↔ many.MovesEach old other
  moves-each-keys = (λ each room. each (room-keys.1 room), λ each room. each (room-keys.0 room))

-- keys without values tell the whole list
pub same-units : {T : Type 0} (xs ys : List (T × Unit {0})) → keys_of xs ≡ keys_of ys → xs ≡ ys
same-units [] [] e = refl
same-units [] (y ∷ ys) e = absurd (cc)
same-units (x ∷ xs) [] e = absurd (cc)
same-units (x ∷ xs) (y ∷ ys) e =
    let key : x.0 ≡ y.0 = cc in
    let rest = same-units xs ys (cc) in
    λ i. (key i, tt) ∷ rest i

-- pairs from a bound on have their keys there
pub from-keys : {T V : Type 0} (cmp : T → T → Ordering) (start : Bound T) (xs : List (T × V)) → split.AreFrom cmp start xs → AreFrom cmp start (keys_of xs)
from-keys cmp start [] all = tt
from-keys cmp start (x ∷ xs) all = (all.0, from-keys cmp start xs all.1)
