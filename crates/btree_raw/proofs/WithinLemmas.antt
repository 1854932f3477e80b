-- An address in a node.
use Rattle.btree_raw.proofs.Common.{◌≡◌, ℕ, IsTrue, Option, Some, None, IsSome, option_map, refl, subst, sym, Address, view_of, Node, IsWithin, size_of, TreeState, IsUsed, node_map}
use Rattle.std.proofs.Common.{leb}
use Rattle.std.specs.FinMap as map
use Rattle.btree_node.proofs.RoomLemmas.{at_least}
use Rattle.btree_raw.specs.Raw.{IsWithinNode}

-- no address is in a node that is not there
pub not-within : {K V : Type 0} (s : TreeState K V) (a : Address) → (IsUsed s a.id → ⊥) → IsWithinNode s a → ⊥
not-within {K} {V} s a unused = by (map.get s.nodes a.id) unused
  where
    by : (o : Option (Node K V)) → (IsSome o → ⊥) → IsWithin (node_map s) (option_map view_of o) a.offset → ⊥
    by None u w = w
    by (Some n) u w = u refl

-- an offset from 0 on is in a node up to the number of its items
pub node-within : {K V : Type 0} (s : TreeState K V) (a : Address) (node : Node K V) (n count : ℕ) → map.get s.nodes a.id ≡ Some node → a.offset ≡ Some n
    → count ≡ size_of (view_of node) → (IsTrue (leb n count) → IsWithinNode s a) × (IsWithinNode s a → IsTrue (leb n count))
node-within s a node n count at offset is =
    subst (λ o. (IsTrue (leb n count) → IsWithin (node_map s) (option_map view_of o) a.offset) × (IsWithin (node_map s) (option_map view_of o) a.offset → IsTrue (leb n count))) (sym at)
    (subst (λ p. (IsTrue (leb n count) → IsWithin (node_map s) (Some (view_of node)) p) × (IsWithin (node_map s) (Some (view_of node)) p → IsTrue (leb n count))) (sym offset)
    (at_least n count (size_of (view_of node)) is))

-- the offset -1 is in each node
pub bottom-within : {K V : Type 0} (s : TreeState K V) (a : Address) → IsUsed s a.id → a.offset ≡ None → IsWithinNode s a
bottom-within {K} {V} s a = by (map.get s.nodes a.id) a.offset
  where
    by : (o : Option (Node K V)) (p : Option ℕ) → IsSome o → p ≡ None → IsWithin (node_map s) (option_map view_of o) p
    by None p some none = absurd (cc)
    by (Some n) None some none = tt
    by (Some n) (Some i) some none = absurd (cc)
