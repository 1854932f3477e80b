-- What a look-up by key in one node returns: the key's index or value if it is there, else the child to go on in.
-- Of a node's calls by key, `get` and `get_mut` cite `look_up`, `find_mut` cites `find_in`, and `offset_of` cites
-- `offset_in` and `PointsInto`, and `offset_of_counted` cites `comparisons_in` as well.
use Rattle.std.specs.Prelude.{◌≡◌, ℕ, ◌<◌, ◌≤◌, IsSomeAnd, List, Option, Some, None, Result, Ok, Err, length, slice_get}
use Rattle.std.specs.Result.{result_map_both}
use Rattle.std.specs.declared.cmp.Ordering.{Ordering}
use Rattle.btree_item.specs.Comparisons.{comparisons}
use Rattle.btree_item.specs.Pairs.{before, found, found_value, place_of}
use Rattle.btree_view.specs.View.{View, items_of, children_of, size_of}

-- the result for the value found, if there is one, and the child that may hold the key, if there is one
abbrev pub looked_up : {V : Type 0} → Option V → Option ℕ → Result (Option V) ℕ
looked_up (Some v) child = Ok (Some v)
looked_up None None = Ok None
looked_up None (Some id) = Err id

-- the same, where the child is returned also for a leaf, which has none
abbrev pub found_or : {V : Type 0} → Option V → Option ℕ → Result V (Option ℕ)
found_or (Some v) child = Ok v
found_or None child = Err child

-- the result for the place among the items, and the children: if the key is absent, with the child that may hold it
abbrev pub placed : Result ℕ ℕ → List ℕ → Result (Option ℕ) (ℕ × Option ℕ)
placed (Ok i) children = Ok (Some i)
placed (Err i) children = Err (i, slice_get children i)

-- a result with f of its value; an error stays
abbrev pub result_map : {T U E : Type 0} → (T → U) → Result T E → Result U E
result_map f answer = result_map_both f (λ e. e) answer

-- a result with f of its error; a value stays
abbrev pub result_map_err : {T E D : Type 0} → (E → D) → Result T E → Result T D
result_map_err f answer = result_map_both (λ v. v) f answer

-- the offset is that of an item, or the gap's index is at most the number of items
abbrev pub PointsInto : {A X : Type 0} → View A → Result (Option ℕ) (ℕ × X) → Type 0
PointsInto node (Ok offset) = IsSomeAnd offset (λ index. index < size_of node)
PointsInto node (Err gap) = gap.0 ≤ size_of node

module _ {K Q V : Type 0} (cmp : K → Q → Ordering) (k : Q) where
  -- the item with the key is at this index
  abbrev pub IsIndexOfKey : List (K × V) → ℕ → Type 0
  IsIndexOfKey xs index = slice_get xs index ≡ found cmp k xs

  -- the child between the items with smaller keys and those with greater ones; a leaf has none
  abbrev pub child_for : View (K × V) → Option ℕ
  child_for node = slice_get (children_of node) (before cmp k (items_of node))

  -- Ok with the value at the key, or with None in a leaf without the key; Err with the child that may hold it
  abbrev pub look_up : View (K × V) → Result (Option V) ℕ
  look_up node = looked_up (found_value cmp k (items_of node)) (child_for node)

  -- Ok with the offset of the key; Err with the number of smaller keys and the child that may hold it
  abbrev pub offset_in : View (K × V) → Result (Option ℕ) (ℕ × Option ℕ)
  offset_in node = placed (place_of cmp k (items_of node)) (children_of node)

  -- how many keys a search in a list of items compares
  abbrev pub comparisons_among : List (K × V) → ℕ
  comparisons_among xs = comparisons (length xs) (before cmp k xs)

  -- how many keys the look-up compares
  abbrev pub comparisons_in : View (K × V) → ℕ
  comparisons_in node = comparisons (size_of node) (before cmp k (items_of node))

  -- Ok with the value at the key; Err with the child that may hold it, if there is one
  unfoldable pub find_in : View (K × V) → Result V (Option ℕ)
  find_in node = found_or (found_value cmp k (items_of node)) (child_for node)
