-- A well formed tree, and one that is off by one at a node, has the lists of its addresses, in the order that the rules
-- give. Navigation and cursors cite it.
use Rattle.btree_laws.proofs.Common.{◌≡◌, ℕ, suc, List, length, Option, Some, None, refl, IsTotalOrder, slice_get, Ordering, Address, NodeMap, backs_under, fronts_under, last_item, IsPlacedUnder, numbers_of, back_after, front_before, IsWellFormed}
use Rattle.std.specs.FinMap as finite
use Rattle.btree_laws.specs.TreeAddresses.{HasAddresses, first_back_under, last_front_under}
use Rattle.btree_laws.specs.TreeState.{TreeState, IsBTree, node_map, pairs_of}
use Rattle.btree_laws.specs.Visits.{prior}
use Rattle.btree_laws.proofs.AddressLists.BackAddresses.{backs-listed}
use Rattle.btree_laws.proofs.AddressLists.BackVisits.{backs-visited}
use Rattle.btree_laws.proofs.AddressLists.FrontAddresses.{fronts-listed}
use Rattle.btree_laws.proofs.AddressLists.FrontVisits.{fronts-visited}
use Rattle.btree_laws.proofs.AddressLists.ItemAddresses.{items-listed}
use Rattle.btree_laws.proofs.AddressLists.LeafBacks.{leaf-backs-listed}
use Rattle.btree_laws.proofs.AddressLists.Next.{back-rule, came-before, front-rule}
use Rattle.btree_laws.proofs.AddressLists.OnePlaceEach.{placed-formed}
use Rattle.btree_laws.proofs.Trees.Stores.{len-views}
use Rattle.btree_laws.proofs.Trees.States.{height_held}

module _ {A : Type 0} (node_at : NodeMap A) (levels : ℕ) (xs : List A) where
  first-under : (root : Option ℕ) → IsPlacedUnder node_at levels root xs
      → slice_get (backs_under node_at levels root) 0 ≡ first_back_under node_at levels root
  first-under None p = refl
  first-under (Some root) p = (backs-visited node_at levels root xs p).first

  last-under : (root : Option ℕ) → IsPlacedUnder node_at levels root xs
      → prior (fronts_under node_at levels root) (length (fronts_under node_at levels root)) ≡ last_front_under node_at levels root
  last-under None p = refl
  last-under (Some root) p =
      let fronts : List Address = fronts_under node_at levels (Some root) in
      came-before fronts (length fronts) (last_item node_at levels root) (fronts-visited node_at levels root xs p).last

  next-under : (root : Option ℕ) → IsPlacedUnder node_at levels root xs → (i : ℕ) (a : Address)
      → slice_get (backs_under node_at levels root) i ≡ Some a
      → slice_get (backs_under node_at levels root) (suc i) ≡ back_after node_at levels a
  next-under None p i a g = absurd (cc)
  next-under (Some root) p i a g = back-rule node_at levels root xs p i a g

  previous-under : (root : Option ℕ) → IsPlacedUnder node_at levels root xs → (i : ℕ) (a : Address)
      → slice_get (fronts_under node_at levels root) i ≡ Some a
      → prior (fronts_under node_at levels root) i ≡ front_before node_at levels a
  previous-under None p i a g = absurd (cc)
  previous-under (Some root) p i a g = front-rule node_at levels root xs p i a g

module _ {K V : Type 0} (s : TreeState K V) where
  -- the addresses of a tree in which each address has one place
  addresses-placed : IsPlacedUnder (node_map s) (finite.len s.nodes) s.root (pairs_of s) → HasAddresses s
  addresses-placed p =
      let levels = finite.len s.nodes in
      let backs = backs-listed (node_map s) levels s.root (pairs_of s) p in
      let numbers : List ℕ = numbers_of (node_map s) levels s.root (pairs_of s) p in
      record {
        items = items-listed (node_map s) levels s.root (pairs_of s) p;
        leaf_backs = leaf-backs-listed (node_map s) levels s.root (pairs_of s) p;
        numbers = numbers;
        nodes = len-views s.nodes numbers backs.used;
        backs = backs;
        fronts = fronts-listed (node_map s) levels s.root (pairs_of s) p;
        first = first-under (node_map s) levels (pairs_of s) s.root p;
        next = next-under (node_map s) levels (pairs_of s) s.root p;
        last = last-under (node_map s) levels (pairs_of s) s.root p;
        previous = previous-under (node_map s) levels (pairs_of s) s.root p;
      }

module _ {K V : Type 0} (cmp : K → K → Ordering) (laws : IsTotalOrder cmp) (s : TreeState K V) where
  placed-under : (root : Option ℕ) (len : ℕ) (xs : List (K × V)) → IsWellFormed cmp (node_map s) root len xs
      → IsPlacedUnder (node_map s) (finite.len s.nodes) root xs
  placed-under None len xs w = w.formed
  placed-under (Some root) len xs w =
      placed-formed cmp laws (node_map s) (finite.len s.nodes) xs root len w (height_held s _ root xs w.formed)

  -- the same for a tree that is well formed, whatever its length
  pub addresses-formed : (len : ℕ) → IsWellFormed cmp (node_map s) s.root len (pairs_of s) → HasAddresses s
  addresses-formed len w = addresses-placed s (placed-under s.root len (pairs_of s) w)

  -- a well formed tree has the four lists of its addresses, with their laws
  pub addresses-tree : IsBTree cmp s → HasAddresses s
  addresses-tree w = addresses-formed s.len w
