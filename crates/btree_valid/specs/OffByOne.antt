-- The nodes of a store are off by one at a node, with some list.
use Rattle.std.specs.Prelude.{ℕ, List}
use Rattle.std.specs.declared.cmp.Ordering.{Ordering}
use Rattle.btree_node.specs.declared.node.Node.{Node}
use Rattle.btree_store.specs.Content.{Content}
use Rattle.btree_laws.specs.TreeState.{views}
use Rattle.btree_laws.specs.WellFormed.{IsOffByOne}

-- the tree under the root is off by one at node `exempt`, with some pairs
abbrev pub IsOffByOneAmong : {K V : Type 0} → (cmp : K → K → Ordering) → Content (Node K V) → (root exempt : ℕ) → Type 0
IsOffByOneAmong {K} {V} cmp nodes root exempt = (xs : List (K × V)) × IsOffByOne cmp (views nodes) root exempt xs
