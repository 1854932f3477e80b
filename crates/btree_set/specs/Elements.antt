-- A set as contracts see it: its elements in order, and what is kept beside them: how often its store has refused a
-- node, and the greatest number of elements. Only what says what becomes of nodes and addresses names the tree behind the
-- elements; `IsInTree` leads from the one to the other.
-- An element is in a set by the order: `stored` is the equal element that is there. Insertion and removal are at the
-- place of the element, which is the number of smaller ones (`before`).
use Rattle.std.specs.Prelude.{◌≡◌, ◌≤◌, ◌&&◌, ℕ, List, Option, is_some, length, not, refl, set, if◌then◌else◌}
use Rattle.std.specs.BTreeMap.Range.{range_contains}
use Rattle.std.specs.Coded.{Coded, code_by, coded_list, coded×}
use Rattle.std.specs.List.{count_by, filter, find, insert, remove}
use Rattle.std.specs.Map.{keys_of}
use Rattle.std.specs.Ordering.{is_eq, is_lt}
use Rattle.std.specs.declared.cmp.Ordering.{Ordering}
use Rattle.std.specs.declared.ops.Bound.{Bound}
use Rattle.btree_store.specs.Content.{Content}
use Rattle.btree_item.specs.declared.refused.Cause.{Cause}
use Rattle.btree_item.specs.declared.refused.Cause.TheVariants.{Store, Count}
use Rattle.btree_node.specs.declared.node.Node.{Node}
use Rattle.btree_laws.specs.TreeState.{IsBTree, Kept, TreeState, coded_kept, pairs_of, refused_once, tree_code, with_limit}
use Rattle.btree_ext.specs.Insert.{IsRefusedAtGap}
use Rattle.btree_map.specs.Lists.{last_place}
use Rattle.btree_map.specs.Removal.{RemovesPlace}

-- a set as contracts see it: its elements in order, its limit and its count of refusals, and its tree
pub record SetState (T : Type 0) : Type 0 where
  pub elements : List T
  pub kept : Kept
  pub tree : TreeState T (Unit {0})

abbrev pub set_code : {T : Type 0} → Coded T → Coded (Node T (Unit {0})) → Coded (SetState T)
set_code {T} code nodes =
    code_by
    (List T × (Kept × TreeState T (Unit {0})))
    (coded× (coded_list code) (coded× coded_kept (tree_code nodes)))
    (λ s. (s.elements, (s.kept, s.tree)))
    (λ p. record { elements = p.0; kept = p.1.0; tree = p.1.1 })
    (λ _. refl)

-- the keys of a map without values
abbrev pub set_of : {T : Type 0} → TreeState T (Unit {0}) → SetState T
set_of map = record { elements = keys_of (pairs_of map); kept = map.kept; tree = map }

-- the same set with another limit
abbrev pub set_with_limit : {T : Type 0} → SetState T → ℕ → SetState T
set_with_limit s limit = record s { kept = record s.kept { limit = limit }; tree = with_limit s.tree limit }

-- An element may be sought by another one or by a query of another type: `cmp y x` says on which side of x the element y is.
module _ {T Q : Type 0} (cmp : T → Q → Ordering) where
  -- how many elements are below x
  abbrev pub before : Q → List T → ℕ
  before x xs = count_by (λ y. is_lt (cmp y x)) xs

  -- the element that is equal to x, if there is one
  abbrev pub stored : Q → List T → Option T
  stored x xs = find (λ y. is_eq (cmp y x)) xs

  -- without the element that is equal to x
  abbrev pub removed : Q → List T → List T
  removed x xs = if is_some (stored x xs) then remove xs (before x xs) else xs

module _ {T : Type 0} (cmp : T → T → Ordering) where
  -- the elements, and what is kept beside them, are those of the tree, which is well formed
  pub record IsInTree (s : SetState T) : Type 0 where
    pub same : s ≡ set_of s.tree
    pub tree : IsBTree cmp s.tree

  -- with x, if no element is equal to it
  abbrev pub inserted : T → List T → List T
  inserted x xs = if is_some (stored cmp x xs) then xs else insert xs (before cmp x xs) x

  -- with x, in the place of an equal element if there is one
  abbrev pub replaced : T → List T → List T
  replaced x xs = if is_some (stored cmp x xs) then set xs (before cmp x xs) x else insert xs (before cmp x xs) x

  -- x, the first element, was removed at its address in the tree
  abbrev pub RemovesFirst : (old new : SetState T) → T → Type 0
  RemovesFirst old new x = RemovesPlace old.tree new.tree cmp 0 (x, tt)

  -- so was x, the last element
  abbrev pub RemovesLast : (old new : SetState T) → T → Type 0
  RemovesLast old new x = RemovesPlace old.tree new.tree cmp (last_place old.tree) (x, tt)

-- only the count of refusals has changed, by one, or nothing has, and there are as many elements as there may be
abbrev pub LeavesElements : {T : Type 0} → (old new : SetState T) → Cause → Type 0
LeavesElements old new Store = (new.elements ≡ old.elements) × (new.kept ≡ refused_once old.kept)
LeavesElements old new Count = (new ≡ old) × (old.kept.limit ≤ length old.elements)

-- the insertion of x was refused at its gap in the tree
pub record IsRefused {T : Type 0} (cmp : T → T → Ordering) (MayRefuse : Content (Node T (Unit {0})) → Type 0) (x : T) (old new : SetState T) (cause : Cause) : Type 0 where
  pub leaves : LeavesElements old new cause
  pub at_gap : IsRefusedAtGap cmp x old.tree new.tree MayRefuse cause

-- the elements of a list between two bounds
abbrev pub elements_between : {T : Type 0} → (T → T → Ordering) → (start end : Bound T) → List T → List T
elements_between cmp start end xs = filter (range_contains cmp start end) xs

-- those that are not between them
abbrev pub elements_outside : {T : Type 0} → (T → T → Ordering) → (start end : Bound T) → List T → List T
elements_outside cmp start end xs = filter (λ x. not (range_contains cmp start end x)) xs

-- the elements that are not below one query, and are below another: `low x q` and `high x r` say on which sides of them an element x is
abbrev pub elements_from_to : {T Q R : Type 0} → (T → Q → Ordering) → Q → (T → R → Ordering) → R → List T → List T
elements_from_to low start high end xs = filter (λ x. not (is_lt (low x start)) && is_lt (high x end)) xs
