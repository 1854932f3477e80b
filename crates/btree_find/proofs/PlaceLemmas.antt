-- The place of an address in a well formed tree, in the words of a state: one for each valid address, and the item there.
use Rattle.btree_find.proofs.Common.{◌≡◌, ◌<◌, ◌≤◌, ◌∙◌, ℕ, inl, inr, List, length, Option, Some, None, refl, sym, ap, subst, arith, option_map, slice_get_past, IsTotalOrder, Ordering, Address, Node, view_of, NodeMap, View, item_in, size_of, IsOccupied, IsPlace, IsWithin, HasAddresses, TreeState, IsBTree, IsOccupiedIn, IsPlaceIn, IsUsed, IsValidIn, node_map, pairs_of, IsWellFormed, addresses-tree, used-one, used-view, place-valid, HasPlace, IsItemAt, IsNormalized, LeadsToItem}
use Rattle.std.specs.FinMap as finite
use Rattle.btree_laws.specs.AddressLaws.{IsPlaced}
use Rattle.btree_laws.specs.Place.{IsNowhere, IsValid}
use Rattle.btree_laws.specs.TreeAddresses.{item_addresses_of}
use Rattle.btree_laws.specs.TreeState.{IsBTreeButLength}
use Rattle.btree_laws.proofs.Places.HasPlace.{has_place}
use Rattle.btree_laws.proofs.Places.OnePlace.{one_place-well}
use Rattle.btree_laws.proofs.Trees.Stores.{most-few}
use Rattle.btree_raw.proofs.PlacedLemmas as raw

module _ {K V : Type 0} (cmp : K → K → Ordering) (laws : IsTotalOrder cmp) (s : TreeState K V) (tree : IsBTree cmp s) where
  abbrev pub node_at : NodeMap (K × V)
  node_at = node_map s

  abbrev pub pairs : List (K × V)
  pairs = pairs_of s

  pub but-length : IsBTreeButLength cmp s
  but-length = raw.but-length cmp s tree

  addresses : HasAddresses s
  addresses = addresses-tree cmp laws s tree

  pub only : (a : Address) (place other : ℕ) → IsPlaceIn s a place → IsPlaceIn s a other → other ≡ place
  only a place other i j = one_place-well cmp laws node_at pairs s.len s.root tree a.id a.offset other place j i

  -- a place of an address is its only one
  pub has-place : (a : Address) (place : ℕ) → IsPlaceIn s a place → HasPlace s a place
  has-place a place i = record { at = i; only = λ other j. only a place other i j }

  -- the occupied address of a place
  pub item-here : (a : Address) (place : ℕ) → IsOccupiedIn s a → IsPlaceIn s a place → IsItemAt s place (Some a)
  item-here a place o i =
      let listed = addresses.items.each place a o i in
      record {
        listed = sym listed;
        here = record {
          valid = place-valid node_at s.root pairs a.id a.offset place i;
          occupied = o;
          has = has-place a place i;
          item = (addresses.items.right place a listed).2;
        };
        past = λ e. absurd (cc);
      }

  -- past the last item there is none
  pub no-item : (place : ℕ) → length pairs ≤ place → IsItemAt s place None
  no-item place low =
      let n = addresses.items.counted in
      record { listed = sym (slice_get_past (item_addresses_of s) place (omega arith)); here = tt; past = λ e. low }

  -- a node is used only if there is a root
  module _ (id : ℕ) (v : View (K × V)) (at : node_at id ≡ Some v) where
    -- a tree with a node has a root
    pub root-there : (root : ℕ) × (s.root ≡ Some root)
    root-there = raw.root-there cmp laws s but-length id v at

  module _ (root : ℕ) (is : s.root ≡ Some root) where
    well : IsWellFormed cmp node_at (Some root) s.len pairs
    well = subst (λ t. IsWellFormed cmp node_at t s.len pairs) is tree

    pub placed : IsPlaced node_at (finite.len s.nodes) root pairs
    placed = raw.placed cmp laws s but-length root is

    -- a place in the state is one in the tree with its root
    pub in-tree : (id : ℕ) (o : Option ℕ) (place : ℕ) → IsPlace node_at s.root pairs id o place → IsPlace node_at (Some root) pairs id o place
    in-tree id o place i = subst (λ t. IsPlace node_at t pairs id o place) is i

    pub in-state : (id : ℕ) (o : Option ℕ) (place : ℕ) → IsPlace node_at (Some root) pairs id o place → IsPlace node_at s.root pairs id o place
    in-state id o place i = subst (λ t. IsPlace node_at t pairs id o place) (sym is) i

    pub some-items : (id : ℕ) (v : View (K × V)) → node_at id ≡ Some v → 0 < size_of v
    some-items = raw.some-items cmp laws s but-length root is

    pub few-items : (id : ℕ) (v : View (K × V)) → node_at id ≡ Some v → size_of v ≤ 8
    few-items id v e = omega (arith, (well.formed.sized id v e).1, most-few v)

    valid-by : (a : Address) → IsValid node_at s.root a.id a.offset → IsWithin node_at (node_at a.id) a.offset
    valid-by a (inl w) = w
    valid-by a (inr n) = let e = n.0 in absurd (cc)

    within-some : (o : Option ℕ) (v : Option (View (K × V))) → IsWithin node_at v o → (node : View (K × V)) × (v ≡ Some node) × IsWithin node_at (Some node) o
    within-some o None w = absurd w
    within-some o (Some node) w = (node, refl, w)

    -- a valid address in a tree that has a root is in a node
    pub in-node : (a : Address) → IsValidIn s a → (node : View (K × V)) × (node_at a.id ≡ Some node) × IsWithin node_at (Some node) a.offset
    in-node a valid = within-some a.offset (node_at a.id) (valid-by a valid)

    -- the number of a valid address is used
    pub node-used : (a : Address) → IsValidIn s a → IsUsed s a.id
    node-used a valid =
        let n = in-node a valid in
        used-view s.nodes a.id (let u = used-one (node_at a.id) n.0 n.1 in omega arith)

    -- a valid offset is within its node
    pub within-node : (a : Address) → IsValidIn s a → (node : Node K V) → finite.get s.nodes a.id ≡ Some node → (o : ℕ) → a.offset ≡ Some o
        → o ≤ size_of (view_of node)
    within-node a valid node at o e =
        let n = in-node a valid in
        let here : node_at a.id ≡ Some (view_of node) = ap (option_map view_of) at in
        let was = n.1 in
        let same : n.0 ≡ view_of node = cc in
        subst (λ v. o ≤ size_of v) same (subst (λ t. IsWithin node_at (Some n.0) t) e n.2)

    place-in-tree : (a : Address) → IsValidIn s a → (place : ℕ) × IsPlaceIn s a place
    place-in-tree a valid =
        let n = in-node a valid in
        let r = has_place node_at root well.formed.height pairs well.formed.represents well.formed.once a.id n.0 a.offset n.1 n.2 in
        (r.0, in-state a.id a.offset r.0 r.1)

  -- in the empty tree no item stands anywhere
  pub not-empty : (a : Address) → s.root ≡ None → IsOccupiedIn s a → ⊥
  not-empty a e o = by a.offset o
    where
      w : IsWellFormed cmp node_at None s.len pairs
      w = subst (λ t. IsWellFormed cmp node_at t s.len pairs) e tree

      by : (offset : Option ℕ) → IsOccupied node_at a.id offset → ⊥
      by None q = q
      by (Some offset) q = let v = ap (λ t. item_in t offset) (w.formed.0 a.id) in let at = q.1 in absurd (cc)

  -- a valid address has a place
  module _ (a : Address) (valid : IsValidIn s a) where
    -- in an empty tree the only valid address is nowhere
    pub empty-by : s.root ≡ None → IsValid node_at s.root a.id a.offset → IsNowhere node_at None a.id a.offset
    empty-by e (inl w) =
        let t : IsWellFormed cmp node_at None s.len pairs = subst (λ t. IsWellFormed cmp node_at t s.len pairs) e tree in
        absurd (subst (λ v. IsWithin node_at v a.offset) (t.formed.0 a.id) w)
    empty-by e (inr n) = (refl, n.1, n.2)

    -- in the empty tree
    pub empty-place : s.root ≡ None → IsPlaceIn s a 0
    empty-place e = subst (λ t. IsPlace node_at t pairs a.id a.offset 0) (sym e) (empty-by e valid, refl)

    place-by : (t : Option ℕ) → s.root ≡ t → (place : ℕ) × IsPlaceIn s a place
    place-by None e = (0, empty-place e)
    place-by (Some root) e = place-in-tree root e a valid

    -- a valid address has a place
    pub place-there : (place : ℕ) × IsPlaceIn s a place
    place-there = place-by s.root refl

    none-empty : s.root ≡ None → length pairs ≡ 0
    none-empty e =
        let w : IsWellFormed cmp node_at None s.len pairs = subst (λ t. IsWellFormed cmp node_at t s.len pairs) e tree in
        ap length w.formed.1

    pub empty-leads : s.root ≡ None → LeadsToItem s a None
    empty-leads e place i = no-item place (let z = none-empty e in omega arith)

    pub normalized : (found : Option Address) → LeadsToItem s a found → IsNormalized s a found
    normalized found leads =
        let r = place-there in
        let item = leads r.0 r.1 in
        record {
          place = r.0;
          has = has-place a r.0 r.1;
          item = item;
          same = λ o. item.listed ∙ addresses.items.each r.0 a o r.1;
        }

    -- the same from the offset that was read
    pub normalized-at : (offset : Option ℕ) → a.offset ≡ offset → (found : Option Address)
        → LeadsToItem s (record { id = a.id; offset = offset }) found → IsNormalized s a found
    normalized-at offset e found leads = normalized found (λ place i. leads place (subst (λ t. IsPlace node_at s.root pairs a.id t place) e i))
