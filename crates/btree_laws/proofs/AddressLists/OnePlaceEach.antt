-- Trees in which each address has one place: which trees these are, and what is kept of their positions.
use Rattle.btree_laws.proofs.Common.{◌≡◌, ◌<◌, ◌∙◌, ◌+◌, ℕ, Bool, true, List, length, Option, Some, None, sym, ap, subst, arith, slice_get_within, IsTotalOrder, slice_get, Ordering, Address, NodeMap, IsPlaced, IsAddressed, HasPosition, Holds, Subtree, id_of, items_under, IsExpected, Position, IsAt, positions, passed, IsWellFormed}
use Rattle.btree_laws.proofs.Splits.KeptPositions.{positions-passed}
use Rattle.btree_laws.proofs.AddressLists.Kept.{IndexOf, Strung, kept, kept-at, kept-of, passed_to, strung-index, strung-length}
use Rattle.btree_laws.proofs.Places.OnePlace.{one_place-well}
use Rattle.btree_laws.proofs.Places.OneList.{one-positions}
use Rattle.btree_laws.proofs.Places.OfTree.{positions-addressed, valid-on}
use Rattle.btree_laws.proofs.Trees.Subtrees.{subtree-of}

module _ {K V : Type 0} (cmp : K → K → Ordering) (laws : IsTotalOrder cmp) (node_at : NodeMap (K × V)) (levels : ℕ) (xs : List (K × V)) where
  -- a well formed tree is one, for more levels than its height
  abbrev pub placed-formed : (root len : ℕ) (w : IsWellFormed cmp node_at (Some root) len xs) → w.formed.height < levels → IsPlaced node_at levels root xs
  placed-formed root len w l =
      record {
        rooted = record { height = w.formed.height; represents = w.formed.represents; sized = λ id node e. tt; once = w.formed.once };
        low = l;
        one = λ id offset p q s t. one_place-well cmp laws node_at xs len (Some root) w id offset p q s t;
      }

module _ {A : Type 0} (node_at : NodeMap A) (levels root : ℕ) (xs : List A) (p : IsPlaced node_at levels root xs) where
  -- the tree as one subtree, and its positions
  pub record AsSubtree : Type 0 where
    pub subtree : Subtree A p.rooted.height
    pub here : id_of A p.rooted.height subtree ≡ root
    pub holds : Holds A node_at p.rooted.height None subtree
    pub list : items_under A p.rooted.height subtree ≡ xs

  pub as-subtree : AsSubtree
  as-subtree =
      let s = subtree-of A node_at p.rooted.height None root xs p.rooted.represents in
      record { subtree = s.subtree; here = s.here; holds = s.holds; list = s.list }

  module _ (t : AsSubtree) where
    abbrev pub ticks_of : List (Position A)
    ticks_of = positions A p.rooted.height t.subtree

    pub positions_from-passed : passed ticks_of ≡ length xs
    positions_from-passed = positions-passed A p.rooted.height t.subtree ∙ ap length t.list

    pub on-positions : (expected : Option A) (a : Address) (place : ℕ) → IsAt expected a ticks_of place → HasPosition A node_at root expected a place
    on-positions expected a place i = record { height = p.rooted.height; subtree = t.subtree; at_root = t.here; holds = t.holds; there = i }

    pub in-positions : (expected : Option A) (a : Address) (place : ℕ) → HasPosition A node_at root expected a place → IsAt expected a ticks_of place
    in-positions expected a place i =
        subst (λ z. IsAt expected a z place)
        (one-positions A node_at i.height p.rooted.height None None i.subtree t.subtree (i.at_root ∙ sym t.here) i.holds t.holds) i.there

    pub in-addressed : (expected : Option A) (a : Address) (place : ℕ) → IsAt expected a ticks_of place
        → IsAddressed A node_at root xs expected a place
    in-addressed expected a place i =
        positions-addressed A node_at root xs expected a (λ id node. Unit {0}) place p.rooted (on-positions expected a place i)

    pub addressed-in : (expected : Option A) (a : Address) (place : ℕ) → IsAddressed A node_at root xs expected a place
        → IsAt expected a ticks_of place
    addressed-in expected a place d =
        let n = valid-on A node_at root xs expected a (λ id node. Unit {0}) p.rooted d.valid d.item in
        let q = positions-addressed A node_at root xs expected a (λ id node. Unit {0}) n.place p.rooted n.on in
        subst (λ z. IsAt expected a ticks_of z) (p.one a.id a.offset n.place place q.at_place d.at_place)
        (in-positions expected a n.place n.on)

    module _ (keep : Address → Option A → Bool) where
      -- a kept address is one of the tree, at its place
      pub record Addressed (a : Address) (place : ℕ) : Type 0 where
        pub item : Option A
        pub keeps : keep a item ≡ true
        pub is : (expected : Option A) → IsExpected expected item → IsAddressed A node_at root xs expected a place

      pub kept-addressed : (i : ℕ) (a : Address) → slice_get (kept keep ticks_of) i ≡ Some a
          → Addressed a (passed_to keep ticks_of i)
      kept-addressed i a at =
          let k = kept-at keep ticks_of i a at in
          record {
            item = k.item;
            keeps = k.keeps;
            is = λ expected m. in-addressed expected a (passed_to keep ticks_of i) (k.there expected m);
          }

      pub addressed-kept : (expected : Option A) (a : Address) (place : ℕ)
          → ((item : Option A) → IsExpected expected item → keep a item ≡ true) → IsAddressed A node_at root xs expected a place
          → IndexOf keep ticks_of a place
      addressed-kept expected a place k d = kept-of keep expected a ticks_of place k (addressed-in expected a place d)

      -- if one address is kept between any two items, the index is the place
      pub strung-addressed : (m : ℕ) → Strung keep 0 ticks_of m → (i : ℕ) (a : Address)
          → slice_get (kept keep ticks_of) i ≡ Some a → Addressed a i
      strung-addressed m s i a at =
          let e : passed_to keep ticks_of i ≡ i =
          strung-index keep 0 m ticks_of s i (slice_get_within (kept keep ticks_of) i a at)
          ∙ (let q : 0 + i ≡ i = omega arith in q) in
          subst (λ z. Addressed a z) e (kept-addressed i a at)

      pub addressed-strung : (m : ℕ) → Strung keep 0 ticks_of m → (expected : Option A) (a : Address) (place : ℕ)
          → ((item : Option A) → IsExpected expected item → keep a item ≡ true) → IsAddressed A node_at root xs expected a place
          → slice_get (kept keep ticks_of) place ≡ Some a
      addressed-strung m s expected a place k d =
          let r = addressed-kept expected a place k d in
          let e = strung-index keep 0 m ticks_of s r.index (slice_get_within (kept keep ticks_of) r.index a r.at) in
          let q = r.is in
          let same : r.index ≡ place = omega arith in
          ap (slice_get (kept keep ticks_of)) (sym same) ∙ r.at

      pub strung-counted : (m : ℕ) → Strung keep 0 ticks_of m → length (kept keep ticks_of) ≡ length xs + m
      strung-counted m s =
          let q = strung-length keep 0 m ticks_of s in
          let e = positions_from-passed in
          omega arith
