-- An item of a node replaced by another: its subtree, the addresses in it and its strain.
use Rattle.btree_laws.proofs.Common.{◌≡◌, ◌≢◌, ◌<◌, ◌++◌, ◌∷◌, [], ◌∙◌, ◌+◌, ℕ, zero, suc, inl, inr, List, length, map, set, take, Option, Some, refl, sym, ap, subst, arith, append_assoc, length-append, flat_map-append, length-map, slice_get, Address, NodeMap, Holds, Subtree, count_at, id_of, items_under, later_items, times_under, view_at, strain, strain_below, IsAt, Position, branch_key, branch_positions, address_at, positions_from, positions}
use Rattle.std.proofs.Math.Seq.{take-append_seam}
use Rattle.btree_laws.proofs.LookUp.Descent.{get-after}
use Rattle.btree_laws.proofs.Paths.Frames.{AllByRecursion-append, AllByRecursion-left, AllByRecursion-right, eachs-same, holds-same, total-append}
use Rattle.btree_laws.proofs.Underflow.Writes.{set-seam}
use Rattle.btree_laws.proofs.Places.NodePlaces.{items_upto}
use Rattle.btree_laws.proofs.Splits.TwoParts.{times_below}
use Rattle.btree_laws.proofs.Removal.FromTree.{parts-at}
use Rattle.btree_laws.proofs.Places.Lists.{in-cases, in-left, in-right}
use Rattle.btree_laws.proofs.Underflow.Items.{children_at, ids-append, items_at, keys-append, numbered}

module _ {A X : Type 0} (key : X → A) (below : X → List (Position A)) (expected : Option A) (b : Address) where
  -- a row in which one entry has another item: every address but its own stays
  node_positions-swap : (i o : ℕ) (l : List X) (e e' : X) (r : List X) (q : ℕ) → below e ≡ below e' → b ≢ address_at i (o + length l)
      → IsAt expected b (positions_from key below i o (l ++ e ∷ r)) q → IsAt expected b (positions_from key below i o (l ++ e' ∷ r)) q
  node_positions-swap i o [] e e' r q same away (inl s) =
      absurd (away (s.0 ∙ ap (λ n. address_at i n) (let k : o ≡ o + 0 = omega arith in k)))
  node_positions-swap i o [] e e' r q same away (inr (m, is, s)) =
      inr (m, is, subst (λ z. IsAt expected b (z ++ positions_from key below i (suc o) r) m) same s)
  node_positions-swap i o (z ∷ l) e e' r q same away (inl s) = inl s
  node_positions-swap i o (z ∷ l) e e' r q same away (inr (m, is, s)) =
      inr (
        m,
        is,
        elim (in-cases expected b (below z) (positions_from key below i (suc o) (l ++ e ∷ r)) m s) [
          | inl early ↦ in-left expected b (below z) (positions_from key below i (suc o) (l ++ e' ∷ r)) m early
          | inr later ↦ in-right expected b (below z) (positions_from key below i (suc o) (l ++ e' ∷ r)) m later.rest later.is
              (node_positions-swap i (suc o) l e e' r later.rest same
              (λ k. away (k ∙ ap (λ n. address_at i n) (let j : suc o + length l ≡ o + suc (length l) = omega arith in j)))
              later.there)
        ],
      )

module _ (A : Type 0) where
  -- the node with item y at index k in the place of x
  pub record Swapped (h : ℕ) (t : Subtree A h) (k : ℕ) (x y : A) : Type 0 where
    pub now : Subtree A h
    pub front : List A
    pub back : List A
    pub old_items : items_under A h t ≡ front ++ x ∷ back
    pub new_items : items_under A h now ≡ front ++ y ∷ back
    pub old_upto : items_upto A h t k ≡ length front
    pub upto : items_upto A h now k ≡ length front
    pub here : id_of A h now ≡ id_of A h t
    pub within : k < count_at A h now
    pub count : count_at A h now ≡ count_at A h t
    pub times : (n : ℕ) → times_under A h n now ≡ times_under A h n t
    pub strain_is : strain_below A h now ≡ strain_below A h t
    pub items_are : items_at A h now ≡ set (items_at A h t) k y
    pub item_is : slice_get (items_at A h now) k ≡ Some y
    pub children_are : children_at A h now ≡ children_at A h t
    pub holds : (node_at new : NodeMap A) (p : Option ℕ) → Holds A node_at h p t
        → new (id_of A h t) ≡ Some (view_at A h p now) → ((n : ℕ) → 0 < times_below A h n t → new n ≡ node_at n)
        → Holds A new h p now
    pub stays : (expected : Option A) (b : Address) (q : ℕ) → b ≢ address_at (id_of A h t) k → IsAt expected b (positions A h t) q
        → IsAt expected b (positions A h now) q

  swapped-leaf : (i : ℕ) (l : List A) (x y : A) (r : List A) (k : ℕ) → length l ≡ k
      → Swapped 0 (i, l ++ x ∷ r) k x y
  swapped-leaf i l x y r k n =
      let n1 = length-append l (x ∷ r) in
      let n2 = length-append l (y ∷ r) in
      record {
        now = (i, l ++ y ∷ r);
        front = l;
        back = r;
        old_items = refl;
        new_items = refl;
        old_upto = sym n;
        upto = sym n;
        here = refl;
        within = omega arith;
        count = omega arith;
        times = λ m. refl;
        strain_is = refl;
        items_are = sym (set-seam l x r k y n);
        item_is = get-after l y r k (sym n);
        children_are = refl;
        holds = λ node_at new p d e same. e;
        stays = λ expected b q away s.
            elim s [
              | inl address_before ↦ inl address_before
              | inr more ↦ inr (node_positions-swap {A = A} {X = A} (λ x. x) (λ x. []) expected b i 0 l x y r q refl
                  (λ e. away (e ∙ ap (λ m. address_at i m) (let j : 0 + length l ≡ k = omega arith in j))) more)
            ];
      }

  swapped-inner : (h i : ℕ) (first : Subtree A h) (l : List (A × Subtree A h)) (x y : A) (u : Subtree A h)
      (r : List (A × Subtree A h)) (k : ℕ) → length l ≡ k
      → Swapped (suc h) (i, first, l ++ (x, u) ∷ r) k x y
  swapped-inner h i first l x y u r k n =
      let n1 = length-append l ((x, u) ∷ r) in
      let n2 = length-append l ((y, u) ∷ r) in
      let kl : List A = map {B = A} (λ b. b.0) (map (numbered A h) l) in
      let kr : List A = map {B = A} (λ b. b.0) (map (numbered A h) r) in
      let len : length kl ≡ k =
      length-map (map (numbered A h) l) (λ (b : A × ℕ). b.0) ∙ (length-map l (numbered A h) ∙ n) in
      let tx : take k (l ++ (x, u) ∷ r) ≡ l =
      subst (λ j. take j (l ++ (x, u) ∷ r) ≡ l) n (take-append_seam l ((x, u) ∷ r)) in
      let tk : take k (l ++ (y, u) ∷ r) ≡ l = subst (λ j. take j (l ++ (y, u) ∷ r) ≡ l) n (take-append_seam l ((y, u) ∷ r)) in
      record {
        now = (i, first, l ++ (y, u) ∷ r);
        front = items_under A h first ++ later_items A h l;
        back = items_under A h u ++ later_items A h r;
        old_items = simp (flat_map-append, append_assoc);
        new_items = simp (flat_map-append, append_assoc);
        old_upto = ap (λ m. length (items_under A h first ++ later_items A h m)) tx;
        upto = ap (λ m. length (items_under A h first ++ later_items A h m)) tk;
        here = refl;
        within = omega arith;
        count = omega arith;
        times = λ m. omega (
          arith,
          total-append (λ (b : A × Subtree A h). times_under A h m b.1) l ((x, u) ∷ r),
          total-append (λ (b : A × Subtree A h). times_under A h m b.1) l ((y, u) ∷ r),
        );
        strain_is = omega (
          arith,
          total-append (λ (b : A × Subtree A h). strain A h b.1) l ((x, u) ∷ r),
          total-append (λ (b : A × Subtree A h). strain A h b.1) l ((y, u) ∷ r),
        );
        items_are = keys-append A h l ((y, u) ∷ r)
            ∙ (sym (set-seam kl x kr k y len) ∙ ap (λ m. set m k y) (sym (keys-append A h l ((x, u) ∷ r))));
        item_is = ap (λ m. slice_get m k) (keys-append A h l ((y, u) ∷ r)) ∙ get-after kl y kr k (sym len);
        children_are = ap (λ m. id_of A h first ∷ m)
            (ids-append A h l ((y, u) ∷ r) ∙ sym (ids-append A h l ((x, u) ∷ r)));
        holds = λ node_at new p d e same.
            let H : A × Subtree A h → Type 0 = λ b. Holds A new h (Some i) b.1 in
            let all = eachs-same A node_at new h (Some i) (l ++ (x, u) ∷ r) (λ m z. same m (omega arith)) d.2 in
            let right = AllByRecursion-right H l ((x, u) ∷ r) all in (
              e,
              holds-same A node_at new h (Some i) first (λ m z. same m (omega arith)) d.1,
              AllByRecursion-append H l ((y, u) ∷ r) (AllByRecursion-left H l ((x, u) ∷ r) all) right,
            );
        stays = λ expected b q away s.
            elim s [
              | inl address_before ↦ inl address_before
              | inr more ↦ inr
                  (elim (in-cases expected b (positions A h first)
                  (positions_from (branch_key A h) (branch_positions A h) i 0 (l ++ (x, u) ∷ r)) q more) [
                    | inl early ↦ in-left expected b (positions A h first)
                        (positions_from (branch_key A h) (branch_positions A h) i 0 (l ++ (y, u) ∷ r)) q early
                    | inr later ↦ in-right expected b (positions A h first)
                        (positions_from (branch_key A h) (branch_positions A h) i 0 (l ++ (y, u) ∷ r)) q later.rest later.is
                        (node_positions-swap (branch_key A h) (branch_positions A h) expected b i 0 l (x, u) (y, u) r later.rest refl
                        (λ e. away (e ∙ ap (λ m. address_at i m) (let j : 0 + length l ≡ k = omega arith in j)))
                        later.there)
                  ])
            ];
      }

  branch-at : (h : ℕ) (bs : List (A × Subtree A h)) (k : ℕ) (x : A)
      → slice_get (map {B = A} (λ b. b.0) (map (numbered A h) bs)) k ≡ Some x
      → (l : List (A × Subtree A h)) × (u : Subtree A h) × (r : List (A × Subtree A h)) × (bs ≡ l ++ (x, u) ∷ r)
      × (length l ≡ k)
  branch-at h [] k x e = absurd (cc)
  branch-at h (b ∷ bs) zero x e = ([], b.1, bs, (let q : b.0 ≡ x = cc in ap (λ z. (z, b.1) ∷ bs) q), refl)
  branch-at h (b ∷ bs) (suc k) x e =
      let s = branch-at h bs k x e in
      (b ∷ s.0, s.1, s.2, ap (λ z. b ∷ z) s.3, (let q = s.4 in omega arith))

  pub swapped : (h : ℕ) (t : Subtree A h) (k : ℕ) (x y : A) → slice_get (items_at A h t) k ≡ Some x → Swapped h t k x y
  swapped zero t k x y e =
      let s = parts-at t.1 k x e in
      subst (λ (m : List A). Swapped 0 (t.0, m) k x y) (sym s.2) (swapped-leaf t.0 s.0 x y s.1 k s.3)
  swapped (suc h) t k x y e =
      let s = branch-at h t.2 k x e in
      subst (λ (m : List (A × Subtree A h)). Swapped (suc h) (t.0, t.1, m) k x y) (sym s.3)
      (swapped-inner h t.0 t.1 s.0 x y s.1 s.2 k s.4)
