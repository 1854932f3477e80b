-- What the steps at both ends of a tree, of which items were taken at both ends, require and leave.
-- A step knows no tree: it requires that there is one (`StandsAtFront`, `StandsAtBack`), and what it leaves holds for each one.
use Rattle.std.specs.Prelude.{◌≡◌, ℕ, ◌<◌, ◌∷◌, ◌++◌, [], Some, None}
use Rattle.btree_item.specs.declared.TheConstants.{MAX_LEVELS}
use Rattle.btree_view.specs.View.{View, NodeMap}
use Rattle.btree_laws.specs.Focus.Subtree.{Subtree, items_under}
use Rattle.btree_owned_walk.specs.Rest.{HasAny, FirstGone, LastGone, HoldsRest, HoldsDownTo, OnFirst, OnLast, AtFirst, AtLast, without_first, without_last, AreApart, IsRest}

module _ {A : Type 0} (node_at : NodeMap A) where
  -- the nodes are what is left of a tree of at most 32 levels, with an item left under node `id`, the first one
  pub record StandsAtFront (id : ℕ) : Type 0 where
    pub height : ℕ
    pub t : Subtree A height
    pub rest : IsRest A node_at height t
    pub at : AtFirst A id height t
    pub low : height < MAX_LEVELS

  -- the first item under node `id` is in the node itself
  pub record HasFirst (id : ℕ) : Type 0 where
    pub node : View A
    pub here : node_at id ≡ Some node
    pub bare : FirstGone node_at node

  -- node `to` is at the front too
  abbrev pub KeepsFront : (from to : ℕ) → Type 0
  KeepsFront from to = (height : ℕ) (t : Subtree A height) → HoldsRest A node_at height None t → AtFirst A from height t → AtFirst A to height t

  -- the same at the back
  pub record StandsAtBack (id : ℕ) : Type 0 where
    pub height : ℕ
    pub t : Subtree A height
    pub rest : IsRest A node_at height t
    pub at : AtLast A id height t
    pub low : height < MAX_LEVELS

  pub record HasLast (id : ℕ) : Type 0 where
    pub node : View A
    pub here : node_at id ≡ Some node
    pub bare : LastGone node_at node

  abbrev pub KeepsBack : (from to : ℕ) → Type 0
  KeepsBack from to = (height : ℕ) (t : Subtree A height) → HoldsRest A node_at height None t → AtLast A from height t → AtLast A to height t

  -- the nodes down to node `id` are those of a tree, also if nothing is left in them
  pub record IsClimbing (id : ℕ) : Type 0 where
    pub height : ℕ
    pub t : Subtree A height
    pub apart : AreApart A height t
    pub down : HoldsDownTo A node_at id height None t

module _ {A : Type 0} (old new : NodeMap A) where
  -- of the nodes down to node `id`, those in which nothing is left were removed; `top` is the lowest one that is left
  pub record ReleasesSpent (id top : ℕ) : Type 0 where
    pub holds : (height : ℕ) (t : Subtree A height) → AreApart A height t → HoldsDownTo A old id height None t → HoldsRest A new height None t
    pub first : (height : ℕ) (t : Subtree A height) → AreApart A height t → HoldsDownTo A old id height None t
        → HasAny (items_under A height t) → OnFirst A id height t → AtFirst A top height t
    pub last : (height : ℕ) (t : Subtree A height) → AreApart A height t → HoldsDownTo A old id height None t
        → HasAny (items_under A height t) → OnLast A id height t → AtLast A top height t
    pub fewer : (n : ℕ) → old n ≡ None → new n ≡ None

  -- the first item, x, was taken from tree t; `top` is at the front of what is left
  pub record TakesFirstOf (height : ℕ) (t : Subtree A height) (x : A) (top : ℕ) : Type 0 where
    pub rest : IsRest A new height (without_first A height t)
    pub items : items_under A height t ≡ x ∷ items_under A height (without_first A height t)
    pub front : HasAny (items_under A height (without_first A height t)) → AtFirst A top height (without_first A height t)

  -- the same, whatever the tree
  abbrev pub TakesFirst : (from : ℕ) → A → (top : ℕ) → Type 0
  TakesFirst from x top = (height : ℕ) (t : Subtree A height) → IsRest A old height t → AtFirst A from height t → TakesFirstOf height t x top

  -- the last item, x, was taken from tree t; `top` is at the back of what is left
  pub record TakesLastOf (height : ℕ) (t : Subtree A height) (x : A) (top : ℕ) : Type 0 where
    pub rest : IsRest A new height (without_last A height t)
    pub items : items_under A height t ≡ items_under A height (without_last A height t) ++ x ∷ []
    pub back : HasAny (items_under A height (without_last A height t)) → AtLast A top height (without_last A height t)

  -- the same, whatever the tree
  abbrev pub TakesLast : (from : ℕ) → A → (top : ℕ) → Type 0
  TakesLast from x top = (height : ℕ) (t : Subtree A height) → IsRest A old height t → AtLast A from height t → TakesLastOf height t x top
