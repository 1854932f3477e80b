-- From an address to the next item, or past the last one.
use Rattle.btree_find.proofs.Common.{◌≡◌, ◌<◌, ◌≤◌, ◌+◌, ℕ, inl, inr, Option, Some, None, IsSome, refl, sym, ap, subst, arith, option_map, IsTotalOrder, Ordering, Address, Node, view_of, NodeMap, item_in, size_of, address_at, address_before, IsOccupied, IsWithin, TreeState, IsBTree, IsOccupiedIn, IsValidIn, node_map, IsNext, LeadsToItem}
use Rattle.std.proofs.Common.{◌⊎◌}
use Rattle.std.specs.FinMap as finite
use Rattle.btree_find.specs.Navigation.{IsNextOrBack, LeadsToNext}
use Rattle.btree_find.proofs.NextLemmas.{next-at, next-before, next-empty, not-past}
use Rattle.btree_find.proofs.PlaceLemmas.{not-empty, root-there}
use Rattle.btree_find.proofs.WalkLemmas.{occupied-below}

occupied-or : {A : Type 0} (node_at : NodeMap A) (id : ℕ) (offset : Option ℕ) → IsOccupied node_at id offset ⊎ (IsOccupied node_at id offset → ⊥)
occupied-or node_at id None = inr (λ o. o)
occupied-or {A} node_at id (Some n) = by (item_in (node_at id) n) refl
  where
    by : (o : Option A) → item_in (node_at id) n ≡ o → IsOccupied node_at id (Some n) ⊎ (IsOccupied node_at id (Some n) → ⊥)
    by None e = inr (λ q. let at = q.1 in absurd (cc))
    by (Some x) e = inl (x, e)

module _ {K V : Type 0} (cmp : K → K → Ordering) (laws : IsTotalOrder cmp) (s : TreeState K V) (tree : IsBTree cmp s)
    (a : Address) (valid : IsValidIn s a) where
  -- where there is a next item
  from-next : (b : Address) → IsNext s a (Some b) → IsNextOrBack s a (Some b)
  from-next b n =
      record {
        next = Some b;
        is_next = n;
        item = refl;
        after = λ m e none o. absurd (cc);
        stays = λ none o. absurd (cc);
        empty = λ e. absurd (empty-next e);
        valid = valid-next;
        back = back-next;
      }
    where
      empty-next : s.root ≡ None → ⊥
      empty-next e = elim (occupied-or (node_map s) a.id a.offset) [
        | inl o ↦ not-empty cmp laws s tree b e (n.after o).here.occupied
        | inr o ↦ not-empty cmp laws s tree b e (n.here o).here.occupied
      ]

      valid-next : IsValidIn s b
      valid-next = elim (occupied-or (node_map s) a.id a.offset) [
        | inl o ↦ (n.after o).here.valid
        | inr o ↦ (n.here o).here.valid
      ]

      some-offset : (offset : Option ℕ) → IsOccupied (node_map s) b.id offset → IsSome offset
      some-offset None o = absurd o
      some-offset (Some m) o = refl

      back-next : IsSome b.offset
      back-next = elim (occupied-or (node_map s) a.id a.offset) [
        | inl o ↦ some-offset b.offset (n.after o).here.occupied
        | inr o ↦ some-offset b.offset (n.here o).here.occupied
      ]

  pub or-empty : s.root ≡ None → IsNextOrBack s a None
  or-empty e =
      record {
        next = None;
        is_next = next-empty cmp laws s tree a valid e;
        item = tt;
        after = λ m _ none o. absurd (not-empty cmp laws s tree a e o);
        stays = λ none o rooted. absurd (rooted e);
        empty = λ _. refl;
        valid = tt;
        back = tt;
      }

  pub or-first : a.offset ≡ None → (b : Address) → LeadsToItem s (address_before a.id) (Some b) → IsNextOrBack s a (Some b)
  or-first e b leads = from-next b (next-at cmp laws s tree a valid None e (Some b) (next-before cmp laws s tree a.id (Some b) leads))

  module _ (o : ℕ) (e : a.offset ≡ Some o) (found : Option Address) (leads : LeadsToNext s (address_at a.id o) found) where
    pub or-next : (b : Address) → found ≡ Some b → IsNextOrBack s a (Some b)
    or-next b is = from-next b (subst (λ f. IsNext s a f) is (next-at cmp laws s tree a valid (Some o) e found leads))

    module _ (none : found ≡ None) (node : Node K V) (at : finite.get s.nodes a.id ≡ Some node) where
      here : node_map s a.id ≡ Some (view_of node)
      here = ap (option_map view_of) at

      rooted : s.root ≡ None → ⊥
      rooted e = let r = root-there cmp laws s tree a.id (view_of node) here in let is = r.1 in absurd (cc)

      no-next : IsNext s a None
      no-next = subst (λ f. IsNext s a f) none (next-at cmp laws s tree a valid (Some o) e found leads)

      within-next : o < size_of (view_of node) → IsValidIn s (address_at a.id (o + 1))
      within-next low = inl (subst (λ v. IsWithin (node_map s) v (Some (o + 1))) (sym here) (omega arith))

      pub or-after : o < size_of (view_of node) → (b : Address) → b ≡ address_at a.id (o + 1) → IsNextOrBack s a (Some b)
      or-after low b same =
          let full : IsOccupiedIn s a = subst (λ t. IsOccupied (node_map s) a.id t) (sym e) (occupied-below (node_map s) a.id o (view_of node) here low) in
          subst (λ z. IsNextOrBack s a (Some z)) (sym same)
          (record {
            next = None;
            is_next = no-next;
            item = tt;
            after = λ m f _ _. let n : o ≡ m = cc in ap (λ k. Some (address_at a.id (k + 1))) n;
            stays = λ _ vacant. absurd (vacant full);
            empty = λ none. absurd (rooted none);
            valid = within-next low;
            back = refl;
          })

      pub or-stays : size_of (view_of node) ≤ o → IsNextOrBack s a (Some a)
      or-stays low =
          record {
            next = None;
            is_next = no-next;
            item = tt;
            after = λ m f _ full. absurd (not-past (node_map s) a.id o (view_of node) here low (subst (λ t. IsOccupied (node_map s) a.id t) e full));
            stays = λ _ _ _. refl;
            empty = λ none. absurd (rooted none);
            valid = valid;
            back = subst (λ t. IsSome t) (sym e) refl;
          }
