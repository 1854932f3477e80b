-- What the steps that fix an underflow leave of a store: a rotation between two adjacent siblings, a merge of them, and
-- shrinking the root.
use Rattle.std.specs.Prelude.{◌≡◌, ◌≢◌, ℕ, suc, ◌<◌, List, [], ◌∷◌, ◌++◌, set, slice_get, Option, Some, None, option_map}
use Rattle.std.specs.List.{remove}
use Rattle.btree_view.specs.View.{View, NodeMap, parent_of, items_of, children_of}
use Rattle.btree_view.specs.Edits.{with_parent, is_internal, HasChildFor}
use Rattle.btree_laws.specs.Lists.{as_list, times_listed}

-- a node with these items and children, and otherwise like the old one
pub record IsRemade {A : Type 0} (old new : View A) (items : List A) (children : List ℕ) : Type 0 where
  pub kind : is_internal new ≡ is_internal old
  pub parent : parent_of new ≡ parent_of old
  pub items_are : items_of new ≡ items
  pub children_are : children_of new ≡ children

module _ {A : Type 0} (node_at new : NodeMap A) where
  -- the old and the new nodes under the three numbers, those of a parent and two of its children; the listed children
  -- have `adopter` as their parent now, and no other node has changed
  pub record Writes (parent left right : ℕ) (top low high : View A) (new_top new_low new_high : View A)
      (children : List ℕ) (adopter : ℕ) : Type 0 where
    pub at_parent : node_at parent ≡ Some top
    pub at_left : node_at left ≡ Some low
    pub at_right : node_at right ≡ Some high
    pub new_parent : new parent ≡ Some new_top
    pub new_left : new left ≡ Some new_low
    pub new_right : new right ≡ Some new_high
    pub moved : (n : ℕ) → n ≢ parent → n ≢ left → n ≢ right → 0 < times_listed n children
        → new n ≡ option_map (with_parent (Some adopter)) (node_at n)
    pub kept : (n : ℕ) → n ≢ parent → n ≢ left → n ≢ right → times_listed n children ≡ 0 → new n ≡ node_at n

  -- rotation to the left: the parent's item at `index` goes to the end of `left`, and the first item of `right` takes
  -- its place; the first child of `right`, if it has one, goes to the end of the children of `left`
  pub record RotatesLeft (parent index left right : ℕ) : Type 0 where
    pub top : View A
    pub low : View A
    pub high : View A
    pub new_top : View A
    pub new_low : View A
    pub new_high : View A
    pub down : A
    pub up : A
    pub child : Option ℕ
    pub down_is : slice_get (items_of top) index ≡ Some down
    pub child_for : HasChildFor child high
    pub top_is : IsRemade top new_top (set (items_of top) index up) (children_of top)
    pub low_is : IsRemade low new_low (items_of low ++ down ∷ []) (children_of low ++ as_list child)
    pub high_is : IsRemade new_high high (up ∷ items_of new_high) (as_list child ++ children_of new_high)
    pub writes : Writes parent left right top low high new_top new_low new_high (as_list child) left

  -- rotation to the right: the parent's item at `index` goes to the front of `right`, and the last item of `left` takes
  -- its place; the last child of `left`, if it has one, becomes the first child of `right`
  pub record RotatesRight (parent index left right : ℕ) : Type 0 where
    pub top : View A
    pub low : View A
    pub high : View A
    pub new_top : View A
    pub new_low : View A
    pub new_high : View A
    pub down : A
    pub up : A
    pub child : Option ℕ
    pub down_is : slice_get (items_of top) index ≡ Some down
    pub child_for : HasChildFor child low
    pub top_is : IsRemade top new_top (set (items_of top) index up) (children_of top)
    pub low_is : IsRemade new_low low (items_of new_low ++ up ∷ []) (children_of new_low ++ as_list child)
    pub high_is : IsRemade high new_high (down ∷ items_of high) (as_list child ++ children_of high)
    pub writes : Writes parent left right top low high new_top new_low new_high (as_list child) right

  -- merge: the parent loses its item at `index` and the child after it, which is `right`; `left` then has its own
  -- items, that item and those of `right`, with the children of both; `right` is removed
  pub record Merges (parent index left right : ℕ) : Type 0 where
    pub top : View A
    pub low : View A
    pub high : View A
    pub new_top : View A
    pub new_low : View A
    pub down : A
    pub at_parent : node_at parent ≡ Some top
    pub at_left : node_at left ≡ Some low
    pub at_right : node_at right ≡ Some high
    pub down_is : slice_get (items_of top) index ≡ Some down
    pub top_is : IsRemade top new_top (remove (items_of top) index) (remove (children_of top) (suc index))
    pub low_is : IsRemade low new_low (items_of low ++ down ∷ items_of high) (children_of low ++ children_of high)
    pub new_parent : new parent ≡ Some new_top
    pub new_left : new left ≡ Some new_low
    pub removed : new right ≡ None
    pub moved : (n : ℕ) → n ≢ parent → n ≢ left → n ≢ right → 0 < times_listed n (children_of high)
        → new n ≡ option_map (with_parent (Some left)) (node_at n)
    pub kept : (n : ℕ) → n ≢ parent → n ≢ left → n ≢ right → times_listed n (children_of high) ≡ 0 → new n ≡ node_at n

  -- an internal root without items is removed, and its only child has no parent
  pub record ShrinksRoot (root child : ℕ) : Type 0 where
    pub node : View A
    pub at_root : node_at root ≡ Some node
    pub only : children_of node ≡ child ∷ []
    pub removed : new root ≡ None
    pub new_child : new child ≡ option_map (with_parent None) (node_at child)
    pub kept : (n : ℕ) → n ≢ root → n ≢ child → new n ≡ node_at n
