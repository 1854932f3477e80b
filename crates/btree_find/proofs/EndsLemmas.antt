-- The ends of a tree, from the end leaves under its root.
use Rattle.btree_find.proofs.Common.{◌≡◌, ◌∙◌, [], ℕ, suc, inl, inr, length, Option, Some, None, IsSome, refl, sym, ap, subst, arith, option_map, IsTotalOrder, Ordering, Address, View, size_of, address_at, address_before, IsEnd, IsPlace, IsSubtreeAt, HasAddresses, TreeState, IsBTree, IsLeafAddressIn, IsPlaceIn, IsUsed, IsValidIn, node_map, pairs_of, IsWellFormed, addresses-tree, place-valid, EndsInLeaf, BeginsInLeaf, IsItemBefore}
use Rattle.std.proofs.Common.{append-nil, unwrap_or}
use Rattle.std.specs.FinMap as finite
use Rattle.btree_laws.specs.Addresses.{last_item_in}
use Rattle.btree_laws.specs.Place.{IsBack, NOWHERE}
use Rattle.btree_laws.specs.TreeAddresses.{first_back, first_back_under, last_front_under}
use Rattle.btree_laws.proofs.Trees.ValidPlaces.{represents-node}
use Rattle.btree_find.specs.Ends.{IsFirstBack, IsFirstItem, IsLastItem, IsLastValid, IsLeafBackAt, end_of, last_end_under}
use Rattle.btree_find.proofs.PlaceLemmas.{has-place, in-state, no-item, placed}
use Rattle.btree_find.proofs.PreviousLemmas.{ends-before}
use Rattle.btree_find.proofs.WalkLemmas.{begins-item, used-of}

-- the offset before the end of a node
last-by : {A : Type 0} (id n o : ℕ) (v : Option (View A)) → option_map size_of v ≡ Some n → n ≡ suc o → address_at id o ≡ last_item_in id v
last-by id n o None e more = absurd (cc)
last-by id n o (Some v) e more = let same : size_of v ≡ suc o = cc in rw same refl

module _ {K V : Type 0} (cmp : K → K → Ordering) (laws : IsTotalOrder cmp) (s : TreeState K V) (tree : IsBTree cmp s) where
  addresses : HasAddresses s
  addresses = addresses-tree cmp laws s tree

  back-by : (o : Option ℕ) → IsSome o → IsBack (node_map s) o
  back-by None is = absurd (cc)
  back-by (Some n) is = tt

  -- an address of a leaf with an offset is the leaf's back address at its place
  pub leaf-back-at : (a : Address) (place : ℕ) → IsPlaceIn s a place → IsLeafAddressIn s a → IsSome a.offset → IsLeafBackAt s place a
  leaf-back-at a place at in_leaf back =
      let valid : IsValidIn s a = place-valid (node_map s) s.root (pairs_of s) a.id a.offset place at in
      record {
        listed = addresses.leaf_backs.each place a valid in_leaf (back-by a.offset back) at;
        valid = valid;
        in_leaf = in_leaf;
        back = back;
        has = has-place cmp laws s tree a place at;
      }

  module _ (root : ℕ) (is : s.root ≡ Some root) where
    rooted-view : (v : View (K × V)) × (node_map s root ≡ Some v)
    rooted-view =
        let r = (placed cmp laws s tree root is).rooted in
        represents-node (node_map s) r.height None root (pairs_of s) r.represents

    pub root-used : IsUsed s root
    root-used = let v = rooted-view in used-of cmp laws s tree root v.0 v.1

    whole : IsSubtreeAt (node_map s) (pairs_of s) root (pairs_of s) 0
    whole =
        let r = (placed cmp laws s tree root is).rooted in
        record {
          front = [];
          back = [];
          subtree = record { height = r.height; parent = None; represents = r.represents };
          split = sym (append-nil (pairs_of s));
          counted = refl;
        }

    pub start-place : IsPlaceIn s (address_before root) 0
    start-place = in-state cmp laws s tree root is root None 0 (pairs_of s, whole)

    root-size : (size : ℕ) × (option_map size_of (node_map s root) ≡ Some size)
    root-size = let v = rooted-view in (size_of v.0, ap (option_map size_of) v.1)

    end-place : IsPlaceIn s (address_at root root-size.0) (length (pairs_of s))
    unfolding root-size rooted-view
    end-place =
        let v = rooted-view in
        let end : IsEnd (node_map s) (node_map s root) (size_of v.0) = subst (λ w. IsEnd (node_map s) w (size_of v.0)) (sym v.1) refl in
        in-state cmp laws s tree root is root (Some (size_of v.0)) (length (pairs_of s)) (inr (end, (pairs_of s, 0, whole, omega arith)))

    module _ (leaf : ℕ) (b : BeginsInLeaf s root leaf) (a : Address) (same : a ≡ address_at leaf 0) where
      first-is : Some a ≡ first_back s
      first-is =
          ap Some (same ∙ ap (λ n. address_at n 0) b.first) ∙ sym (ap (first_back_under (node_map s) (finite.len s.nodes)) is)

      pub first-item-is : IsFirstItem s (Some a)
      first-item-is = record { item = begins-item cmp laws s tree root leaf b a same 0 start-place; leftmost = first-is }

      pub first-back-is : IsFirstBack s a
      first-back-is =
          let i = first-item-is.item.here in
          record {
            addresses = addresses;
            at = leaf-back-at a 0 i.has.at (inl (rw same b.is_leaf)) (rw same refl);
            leftmost = ap (λ o. unwrap_or o (address_at NOWHERE 0)) first-is;
          }

    module _ (last : ℕ × ℕ) (e : EndsInLeaf s root last) (a : Address) where
      pub last-item-is : (o : ℕ) → last.1 ≡ suc o → a ≡ address_at last.0 o → IsLastItem s (Some a)
      last-item-is o more same =
          let z = root-size in
          record {
            addresses = addresses;
            item = ends-before cmp laws s tree root last e z.0 z.1 a o more same (length (pairs_of s)) end-place;
            rightmost =
                ap Some (same ∙ (last-by last.0 last.1 o (node_map s last.0) e.count more ∙ ap (λ n. last_item_in n (node_map s n)) e.final))
                ∙ sym (ap (last_front_under (node_map s) (finite.len s.nodes)) is);
          }

      pub last-valid-is : a ≡ address_at last.0 last.1 → IsLastValid s a
      last-valid-is same =
          let z = root-size in
          let at = e.ends (length (pairs_of s)) z.0 z.1 end-place in
          record {
            at =
                leaf-back-at a (length (pairs_of s)) (subst (λ n. IsPlaceIn s n (length (pairs_of s))) (sym same) at) (inl (rw same e.is_leaf))
                (rw same refl);
            rightmost =
                same ∙ (ap (address_at last.0) (sym (ap (λ o. unwrap_or o 0) e.count)) ∙ (ap (end_of s) e.final ∙ sym (ap (last_end_under s) is)));
          }

  -- in the empty tree
  module _ (e : s.root ≡ None) where
    no-pairs : length (pairs_of s) ≡ 0
    no-pairs =
        let w : IsWellFormed cmp (node_map s) None s.len (pairs_of s) = subst (λ t. IsWellFormed cmp (node_map s) t s.len (pairs_of s)) e tree in
        ap length w.formed.1

    nowhere-at : IsLeafBackAt s 0 (address_at NOWHERE 0)
    nowhere-at =
        let i : IsPlaceIn s (address_at NOWHERE 0) 0 = subst (λ t. IsPlace (node_map s) t (pairs_of s) NOWHERE (Some 0) 0) (sym e) ((refl, refl, refl), refl) in
        leaf-back-at (address_at NOWHERE 0) 0 i (inr (e, refl, refl)) refl

    pub first-item-none : IsFirstItem s None
    first-item-none =
        record {
          item = no-item cmp laws s tree 0 (let n = no-pairs in omega arith);
          leftmost = sym (ap (first_back_under (node_map s) (finite.len s.nodes)) e);
        }

    pub last-item-none : IsLastItem s None
    last-item-none =
        record {
          addresses = addresses;
          item = subst (λ n. IsItemBefore s n None) (sym no-pairs) refl;
          rightmost = sym (ap (last_front_under (node_map s) (finite.len s.nodes)) e);
        }

    pub first-back-none : (a : Address) → a ≡ address_at NOWHERE 0 → IsFirstBack s a
    first-back-none a same =
        record {
          addresses = addresses;
          at = subst (λ n. IsLeafBackAt s 0 n) (sym same) nowhere-at;
          leftmost = same ∙ sym (ap (λ t. unwrap_or (first_back_under (node_map s) (finite.len s.nodes) t) (address_at NOWHERE 0)) e);
        }

    pub last-valid-none : (a : Address) → a ≡ address_at NOWHERE 0 → IsLastValid s a
    last-valid-none a same =
        record {
          at = subst (λ n. IsLeafBackAt s n a) (sym no-pairs) (subst (λ n. IsLeafBackAt s 0 n) (sym same) nowhere-at);
          rightmost = same ∙ sym (ap (last_end_under s) e);
        }
