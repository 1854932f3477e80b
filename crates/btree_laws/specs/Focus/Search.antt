-- The state of a search for a key that has reached a node.
use Rattle.std.specs.Prelude.{◌≡◌, ℕ, zero, suc, List, ◌++◌, length, Option, Some, None}
use Rattle.std.specs.List.{AllByRecursion}
use Rattle.std.specs.declared.cmp.Ordering.{Ordering}
use Rattle.std.specs.declared.cmp.Ordering.TheVariants.{Less, Greater}
use Rattle.btree_view.specs.View.{View, leaf, internal, NodeMap}
use Rattle.btree_laws.specs.Focus.Subtree.{items_under}
use Rattle.btree_laws.specs.Focus.Path.{Path, items_before, items_after}
use Rattle.btree_laws.specs.Focus.Node.{IsNode}

-- how many levels are below a node, given how many are below its first child
abbrev pub levels_in : {A : Type 0} → (ℕ → ℕ) → Option (View A) → ℕ
levels_in below None = 0
levels_in below (Some (leaf parent items)) = 0
levels_in below (Some (internal parent first branches)) = suc (below first)

-- the same, down to at most `most` levels
abbrev pub levels_below : {A : Type 0} → NodeMap A → (most : ℕ) → (id : ℕ) → ℕ
levels_below node_at zero id = 0
levels_below node_at (suc most) id = levels_in (levels_below node_at most) (node_at id)

-- the items under the end of a path are among the items `within`, which have `start` others before them
pub record IsPart {A : Type 0} {height : ℕ} (path : Path A height) (under within : List A) (start : ℕ) : Type 0 where
  pub front : List A
  pub lower : List A
  pub higher : List A
  pub back : List A
  pub before : items_before path ≡ front ++ lower
  pub after : items_after path ≡ higher ++ back
  pub is : within ≡ lower ++ (under ++ higher)
  pub counted : start ≡ length front

-- a search for k among the items `within`, which are some of those of a well formed tree and have `start` others before
-- them, has reached node `id`: of them, those before its subtree have smaller keys and those after it have greater ones
pub record IsSearching {K Q V : Type 0} (cmp : K → Q → Ordering) (k : Q) (node_at : NodeMap (K × V))
    (root : ℕ) (xs within : List (K × V)) (start id : ℕ) : Type 0 where
  pub node : IsNode (K × V) node_at root xs id
  pub part : IsPart node.focus.path (items_under (K × V) node.focus.height node.focus.subtree) within start
  pub low : AllByRecursion (λ x. cmp x.0 k ≡ Less) part.lower
  pub high : AllByRecursion (λ x. cmp x.0 k ≡ Greater) part.higher
