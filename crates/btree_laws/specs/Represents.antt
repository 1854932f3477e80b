-- The list that the nodes under numbers represent.
-- The children of an internal node name it as their parent and are one level lower. A leaf alone has height 0 and one
-- level: a tree has one level more than the height of its root. Each level has a node of its own, so the number of
-- nodes bounds the levels (`height_held` in `proofs/Trees/States.antt`), also in a tree whose length or whose numbers
-- of items are wrong. With one level more than the height, `represented` is the list of the relation (`represented-is`
-- in `proofs/Trees/Represented.antt`).
use Rattle.std.specs.Prelude.{◌≡◌, ℕ, zero, suc, List, [], ◌∷◌, ◌++◌, map, Option, Some, None}
use Rattle.std.specs.List.{flat_map, AllByRecursion}
use Rattle.btree_view.specs.View.{View, leaf, internal, NodeMap, children_in}

module _ {A : Type 0} (node_at : NodeMap A) where
  -- node `id` has this parent, is `height` levels above the leaves, and its subtree represents the list: a leaf
  -- represents its items; an internal node the list of its first child, then each item followed by the list of the
  -- child after it
  abbrev pub Represents : (height : ℕ) → (parent : Option ℕ) → (id : ℕ) → List A → Type 0
  Represents zero parent id xs = node_at id ≡ Some (leaf parent xs)
  Represents (suc height) parent id xs =
      (first : ℕ) × (front : List A) × (rest : List (A × ℕ × List A))
      × (node_at id ≡ Some (internal parent first (map (λ r. (r.0, r.1)) rest)))
      × Represents height (Some id) first front
      × AllByRecursion (λ r. Represents height (Some id) r.1 r.2) rest
      × (xs ≡ front ++ flat_map (λ r. r.0 ∷ r.2) rest)

  -- the numbers under a node: its own and those under its children, as often as they occur
  abbrev pub numbers_under : (height : ℕ) → (id : ℕ) → List ℕ
  numbers_under zero id = id ∷ []
  numbers_under (suc height) id = id ∷ flat_map (numbers_under height) (children_in (node_at id))

-- the list that one node represents, given those of its children
abbrev pub represented_in : {A : Type 0} → (ℕ → List A) → Option (View A) → List A
represented_in below None = []
represented_in below (Some (leaf parent items)) = items
represented_in below (Some (internal parent first branches)) = below first ++ flat_map (λ b. b.0 ∷ below b.1) branches

-- the list that the subtree of a node represents, down to at most `levels` levels
abbrev pub represented : {A : Type 0} → NodeMap A → (levels : ℕ) → (id : ℕ) → List A
represented node_at zero id = []
represented node_at (suc levels) id = represented_in (represented node_at levels) (node_at id)
