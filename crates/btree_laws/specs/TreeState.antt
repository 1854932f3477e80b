-- A tree as contracts see it: its state, its list, and the definitions that contracts cite.
-- A contract says that nothing changes by an equation of two states. The bound on the levels is the number of nodes, so
-- the list is right for every tree, whatever its length. Read `TreeState`, `pairs_of` and `IsBTree` first. The others
-- are the words of `Place.antt`, `Need.antt` and `Strain.antt` for a state.
use Rattle.std.specs.Prelude.{◌≡◌, ℕ, suc, ◌+◌, ◌-◌, ◌^◌, List, [], length, Option, Some, None, IsSome, option_map, refl}
use Rattle.std.specs.Coded.{Coded, code_by, coded×, coded_ℕ, coded_option}
use Rattle.std.specs.declared.cmp.Ordering.{Ordering}
use Rattle.std.specs.FinMap as map
use Rattle.btree_store.specs.Content.{Content}
use Rattle.btree_item.specs.Address.{Address}
use Rattle.btree_node.specs.declared.node.Node.{Node}
use Rattle.btree_node.specs.Node.{view_of}
use Rattle.btree_view.specs.View.{NodeMap}
use Rattle.btree_laws.specs.Need as needs
use Rattle.btree_laws.specs.Place.{IsLeafAddress, IsOccupied, IsPlace, IsValid, item_at}
use Rattle.btree_laws.specs.Represents.{Represents, represented}
use Rattle.btree_laws.specs.Strain.{IsStrain}
use Rattle.btree_laws.specs.WellFormed.{IsOffByOne, IsWellFormed}

-- what no edit changes but a refusal: how often the store refused a node, and the greatest number of pairs
pub record Kept : Type 0 where
  pub refusals : ℕ
  pub limit : ℕ

abbrev pub coded_kept : Coded Kept
coded_kept =
    code_by
    (ℕ × ℕ)
    (coded× coded_ℕ coded_ℕ)
    (λ k. (k.refusals, k.limit))
    (λ p. record { refusals = p.0; limit = p.1 })
    (λ _. refl)

-- what is kept after a refusal by the store
abbrev pub refused_once : Kept → Kept
refused_once kept = record kept { refusals = kept.refusals + 1 }

-- what a tree keeps that may have as many pairs as can be counted
abbrev pub unlimited : (refusals : ℕ) → Kept
unlimited refusals = record { refusals = refusals; limit = 2 ^ 64 - 1 }

-- what a tree with a limit keeps that has refused nothing yet
abbrev pub limited_to : (limit : ℕ) → Kept
limited_to limit = record { refusals = 0; limit = limit }

-- the nodes under their numbers, the root's number, the number of pairs, and what is kept beside them
pub record TreeState (K V : Type 0) : Type 0 where
  pub nodes : Content (Node K V)
  pub root : Option ℕ
  pub len : ℕ
  pub kept : Kept

abbrev pub tree_code : {K V : Type 0} → Coded (Node K V) → Coded (TreeState K V)
tree_code {K} {V} code =
    code_by
    (Content (Node K V) × (Option ℕ × (ℕ × Kept)))
    (coded× (map.code coded_ℕ code) (coded× (coded_option coded_ℕ) (coded× coded_ℕ coded_kept)))
    (λ s. (s.nodes, (s.root, (s.len, s.kept))))
    (λ p. record { nodes = p.0; root = p.1.0; len = p.1.1.0; kept = p.1.1.1 })
    (λ _. refl)

module _ {K V : Type 0} where
  -- a tree without a root, and so without pairs
  abbrev pub rootless : Content (Node K V) → Kept → TreeState K V
  rootless nodes kept = record { nodes = nodes; root = None; len = 0; kept = kept }

  -- the same tree over a store that has refused nothing yet
  abbrev pub unrefused : TreeState K V → TreeState K V
  unrefused s = record s { kept = record s.kept { refusals = 0 } }

  -- the same tree with another limit
  abbrev pub with_limit : TreeState K V → ℕ → TreeState K V
  with_limit s limit = record s { kept = record s.kept { limit = limit } }

  -- the nodes of a store as a map of nodes
  abbrev pub views : Content (Node K V) → NodeMap (K × V)
  views nodes id = option_map view_of (map.get nodes id)

  -- the list that the nodes under a root represent, down to at most `levels` levels
  abbrev pub pairs_under : NodeMap (K × V) → Option ℕ → (levels : ℕ) → List (K × V)
  pairs_under node_at None levels = []
  pairs_under node_at (Some root) levels = represented node_at levels root

  -- two states differ in their nodes alone
  pub record KeepsRest (old new : TreeState K V) : Type 0 where
    pub rest : new ≡ record old { nodes = new.nodes }

module _ {K V : Type 0} (s : TreeState K V) where
  -- the nodes as a map of nodes
  abbrev pub node_map : NodeMap (K × V)
  node_map = views s.nodes

  -- the list of the tree; a tree has at most as many levels as nodes
  abbrev pub pairs_of : List (K × V)
  pairs_of = pairs_under node_map s.root (map.len s.nodes)

  -- a node has this number
  abbrev pub IsUsed : ℕ → Type 0
  IsUsed id = IsSome (map.get s.nodes id)

  -- the address is one of the tree
  abbrev pub IsValidIn : Address → Type 0
  IsValidIn a = IsValid node_map s.root a.id a.offset

  -- the place of an address in the list
  abbrev pub IsPlaceIn : Address → ℕ → Type 0
  IsPlaceIn a place = IsPlace node_map s.root pairs_of a.id a.offset place

  -- an item is at the address
  abbrev pub IsOccupiedIn : Address → Type 0
  IsOccupiedIn a = IsOccupied node_map a.id a.offset

  -- the address is in a leaf, or nowhere in the empty tree
  abbrev pub IsLeafAddressIn : Address → Type 0
  IsLeafAddressIn a = IsLeafAddress node_map s.root a.id a.offset

  -- the item at an address, if there is one
  abbrev pub item_of : Address → Option (K × V)
  item_of a = item_at node_map a

  -- how many nodes an insertion at a leaf uses
  abbrev pub nodes_needed : ℕ → ℕ
  nodes_needed leaf = needs.need node_map s.root (map.len s.nodes) leaf

  -- how many nodes the splits that begin at a node with an item too many use
  abbrev pub nodes_for_splits : ℕ → ℕ
  nodes_for_splits id = needs.split_need node_map (map.len s.nodes) id

  -- the strain of the tree
  abbrev pub HasStrain : ℕ → Type 0
  HasStrain strain = IsStrain node_map s.root strain

  -- how many levels of nodes are under a root: one more than the height of the root
  abbrev pub HasLevelsUnder : Option ℕ → ℕ → Type 0
  HasLevelsUnder None levels = levels ≡ 0
  HasLevelsUnder (Some root) levels = (height : ℕ) × Represents node_map height None root pairs_of × (levels ≡ suc height)

  abbrev pub HasLevels : ℕ → Type 0
  HasLevels levels = HasLevelsUnder s.root levels

module _ {K V : Type 0} (cmp : K → K → Ordering) where
  -- the tree is well formed
  abbrev pub IsBTree : TreeState K V → Type 0
  IsBTree s = IsWellFormed cmp (node_map s) s.root s.len (pairs_of s)

  -- the same, without the clause on the length
  abbrev pub IsBTreeButLength : TreeState K V → Type 0
  IsBTreeButLength s = IsWellFormed cmp (node_map s) s.root (length (pairs_of s)) (pairs_of s)

  -- the tree has a root, and is off by one at node `id`
  pub record IsOffByOneAt (s : TreeState K V) (id : ℕ) : Type 0 where
    pub root : ℕ
    pub at_root : s.root ≡ Some root
    pub off : IsOffByOne cmp (node_map s) root id (pairs_of s)

-- the nodes have changed as `How` says, and nothing else has changed
pub record Changes {K V : Type 0} (How : NodeMap (K × V) → NodeMap (K × V) → Type 0) (old new : TreeState K V) : Type 0 where
  pub nodes : How (node_map old) (node_map new)
  pub rest : KeepsRest old new
