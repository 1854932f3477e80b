-- A session as contracts see it: the state of its map, and the address that it holds, if any.
use Rattle.std.specs.Prelude.{ℕ, Option, IfSome, IsSome, refl}
use Rattle.std.specs.Coded.{Coded, code_by, coded×, coded_ℕ, coded_option}
use Rattle.btree_item.specs.Address.{Address}
use Rattle.btree_node.specs.declared.node.Node.{Node}
use Rattle.btree_laws.specs.TreeState.{TreeState, IsValidIn, tree_code}

-- a map and the address that a session holds, if it holds one
pub record Held (K V : Type 0) : Type 0 where
  pub map : TreeState K V
  pub held : Option Address

abbrev pub address_code : Coded Address
address_code =
    code_by
    (ℕ × Option ℕ)
    (coded× coded_ℕ (coded_option coded_ℕ))
    (λ a. (a.id, a.offset))
    (λ p. record { id = p.0; offset = p.1 })
    (λ _. refl)

abbrev pub held_code : {K V : Type 0} → Coded (Node K V) → Coded (Held K V)
held_code {K} {V} code =
    code_by
    (TreeState K V × Option Address)
    (coded× (tree_code code) (coded_option address_code))
    (λ s. (s.map, s.held))
    (λ p. record { map = p.0; held = p.1 })
    (λ _. refl)

-- the address is one of the tree, and its offset is not -1
pub record IsBackIn {K V : Type 0} (s : TreeState K V) (a : Address) : Type 0 where
  pub valid : IsValidIn s a
  pub back : IsSome a.offset

-- the address that is held, if any, is a back address of the map
abbrev pub HoldsBack : {K V : Type 0} → TreeState K V → Option Address → Type 0
HoldsBack s held = IfSome held (IsBackIn s)
