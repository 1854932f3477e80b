-- The end of a search: at the item of a node, or at a leaf's address for a key that is not there.
use Rattle.btree_laws.proofs.Common.{◌≡◌, ◌++◌, ◌∷◌, [], ◌∙◌, ◌+◌, ℕ, zero, suc, List, length, map, take, Option, Some, None, Err, refl, sym, ap, subst, arith, append_assoc, length-append, flat_map-append, length-map, slice_get, Ordering, Equal, Greater, Less, Cuts, place_of, NodeMap, View, item_in, items_of, leaf, IsPlace, Subtree, id_of, items_under, later_items, view_at, Path, items_before, parent_above, IsFocus}
use Rattle.std.proofs.Common.{Ok}
use Rattle.std.proofs.lemmas.List.{take_at}
use Rattle.btree_item.specs.Pairs.{found}
use Rattle.btree_laws.specs.Focus.Search.{IsPart, IsSearching}
use Rattle.btree_laws.proofs.LookUp.Descent.{get-after, map-parts, hole-rises, items-rise, part-rises}
use Rattle.btree_laws.proofs.Paths.Frames.{AllByRecursion-append}
use Rattle.btree_laws.proofs.Places.NodePlaces.{hole-place, items_upto}
use Rattle.btree_laws.proofs.Trees.Sizes.{view-items}
use Rattle.btree_laws.proofs.LookUp.KeyInList.{AreAbove, AreBelow, IsSearched, Rises, equal-back, equal-front, place-hit, place-miss, rises-right, searched, side}

module _ {K Q V : Type 0} (cmp : K → Q → Ordering) (k : Q) {ord : K → K → Ordering} (cut : Cuts ord cmp) (node_at : NodeMap (K × V)) (root : ℕ)
    (xs : List (K × V)) (up : Rises ord xs) (within : List (K × V)) (start : ℕ) where
  abbrev A : Type 0
  A = K × V

  -- the key is found at an offset of node `id`, which has the key's place, counted from the start of the search
  pub record Hit (id o : ℕ) : Type 0 where
    pub place : ℕ
    pub is : place_of cmp k within ≡ Ok place
    pub at : IsPlace node_at (Some root) xs id (Some o) (start + place)
    pub item : found cmp k within ≡ item_in (node_at id) o

  -- the key is not there, and an offset of leaf `id` has its place
  pub record Miss (id o : ℕ) : Type 0 where
    pub place : ℕ
    pub is : place_of cmp k within ≡ Err place
    pub at : IsPlace node_at (Some root) xs id (Some o) (start + place)
    pub absent : found cmp k within ≡ None

  -- a place in the whole list, counted from the start of the search
  from-start : (h : ℕ) (c : Path A h) (under : List A) (p : IsPart c under within start) (o : ℕ)
      → length (items_before c) + o ≡ start + (length p.lower + o)
  from-start h c under p o =
      let n = ap length p.before in
      let m = length-append p.front p.lower in
      let s = p.counted in
      omega arith

  leaf-hit : (h : ℕ) (c : Path A 0) (t : Subtree A 0) (o : ℕ) → IsFocus A node_at [] root xs 0 c t
      → (p : IsPart c t.1 within start) → AreBelow cmp k p.lower → AreAbove cmp k p.higher
      → IsSearched cmp k t.1 (Ok o) → Hit t.0 o
  leaf-hit h c t o w part low high r =
      let b : List A = part.lower in
      let a : List A = part.higher in
      let e : within ≡ (b ++ r.0) ++ r.1 ∷ (r.2 ++ a) = part.is ∙ (ap (λ z. b ++ (z ++ a)) r.3 ∙ simp append_assoc) in
      let s : IsSearched cmp k within (Ok (length (b ++ r.0))) = (
        b ++ r.0,
        r.1,
        r.2 ++ a,
        e,
        refl,
        AllByRecursion-append (λ y. side cmp k y ≡ Less) b r.0 low r.5,
        r.6,
        AllByRecursion-append (λ y. side cmp k y ≡ Greater) r.2 a r.7 high,
      ) in
      let p = place-hit cmp k within (length (b ++ r.0)) s in
      let n : length (b ++ r.0) ≡ length b + o = length-append b r.0 ∙ ap (λ z. length b + z) r.4 in
      let here : item_in (node_at t.0) o ≡ Some r.1 =
      ap (λ z. item_in z o) w.inner ∙ (ap (λ z. slice_get z o) r.3 ∙ get-after r.0 r.1 r.2 o (sym r.4)) in
      let l1 = ap length r.3 in
      let l2 = length-append r.0 (r.1 ∷ r.2) in
      let l3 = r.4 in
      record {
        place = length b + o;
        is = p.0 ∙ ap Ok n;
        at =
            subst (λ z. IsPlace node_at (Some root) xs t.0 (Some o) z) (from-start 0 c t.1 part o)
            (hole-place A node_at [] root xs 0 c t w o (omega arith));
        item = p.1 ∙ sym here;
      }

  inner-hit : (h : ℕ) (c : Path A (suc h)) (t : Subtree A (suc h)) (o : ℕ) → IsFocus A node_at [] root xs (suc h) c t
      → IsPart c (items_under A (suc h) t) within start
      → (left : List (A × Subtree A h)) (b : A × Subtree A h) (right : List (A × Subtree A h))
      → t.2 ≡ left ++ b ∷ right → length left ≡ o → side cmp k b.0 ≡ Equal
      → slice_get (items_of (view_at A (suc h) (parent_above c) t)) o ≡ Some b.0 → Hit t.0 o
  inner-hit h c t o w part left b right is n l got =
      let ps : List A = part.lower ++ (items_under A h t.1 ++ later_items A h left) in
      let qs : List A = (items_under A h b.1 ++ later_items A h right) ++ part.higher in
      let e : within ≡ ps ++ b.0 ∷ qs = part.is ∙ (rw is (simp (flat_map-append, append_assoc))) in
      let rise = part-rises cmp k cut node_at root xs up within start (suc h) c t w part in
      let up' : Rises ord (ps ++ b.0 ∷ qs) = subst (λ ys. Rises ord ys) e rise in
      let s : IsSearched cmp k within (Ok (length ps)) = (
        ps,
        b.0,
        qs,
        e,
        refl,
        equal-front cmp k cut ps b.0 qs up' l,
        l,
        equal-back cmp k cut b.0 qs
            (rises-right ord ps (b.0 ∷ qs) up').0 l,
      ) in
      let p = place-hit cmp k within (length ps) s in
      let many : length t.2 ≡ length left + suc (length right) = ap length is ∙ length-append left (b ∷ right) in
      let taken : take o t.2 ≡ left = rw is (take_at left (b ∷ right) o n) in
      let m : length ps ≡ length part.lower + items_upto A (suc h) t o =
      length-append part.lower (items_under A h t.1 ++ later_items A h left)
      ∙ ap (λ (ys : List (A × Subtree A h)). length part.lower + length
      (items_under A h t.1 ++ later_items A h ys)) (sym taken) in
      let here : item_in (node_at t.0) o ≡ Some b.0 = ap (λ z. item_in z o) w.inner.0 ∙ got in
      record {
        place = length part.lower + items_upto A (suc h) t o;
        is = p.0 ∙ ap Ok m;
        at =
            subst (λ z. IsPlace node_at (Some root) xs t.0 (Some o) z)
            (from-start (suc h) c (items_under A (suc h) t) part (items_upto A (suc h) t o))
            (hole-place A node_at [] root xs (suc h) c t w o (omega arith));
        item = p.1 ∙ sym here;
      }

  -- a search that ends at an item has found the key, at the item's place
  pub search-hit : (id : ℕ) → IsSearching cmp k node_at root xs within start id → (v : View A) → node_at id ≡ Some v → (o : ℕ)
      → place_of cmp k (items_of v) ≡ Ok o → Hit id o
  search-hit id s v e o place = at s.node.focus.height s.node.focus.path s.node.focus.subtree s.node.focus.here
      s.node.focus.whole s.part s.low s.high
    where
      at : (h : ℕ) (c : Path A h) (t : Subtree A h) → id_of A h t ≡ id → IsFocus A node_at [] root xs h c t
          → (part : IsPart c (items_under A h t) within start) → AreBelow cmp k part.lower → AreAbove cmp k part.higher
          → Hit id o
      at zero c t here w part low high =
          let e2 : node_at t.0 ≡ Some v = rw here e in
          let d = w.inner in
          let is : leaf (parent_above c) t.1 ≡ v = cc in
          let place2 : place_of cmp k t.1 ≡ Ok o = subst (λ u. place_of cmp k (items_of u) ≡ Ok o) (sym is) place in
          let r = searched cmp k cut t.1 (Ok o) (hole-rises cmp k cut node_at root xs up within start 0 c t w) place2 in
          subst (λ n. Hit n o) here (leaf-hit 0 c t o w part low high r)
      at (suc h) c t here w part low high =
          let d = w.inner.0 in
          let e2 : node_at t.0 ≡ Some v = rw here e in
          let is : view_at A (suc h) (parent_above c) t ≡ v = cc in
          let ys : List A = items_of (view_at A (suc h) (parent_above c) t) in
          let up2 = items-rise V ord (suc h) (parent_above c) t (hole-rises cmp k cut node_at root xs up within start (suc h) c t w) in
          let place2 : place_of cmp k ys ≡ Ok o = subst (λ u. place_of cmp k (items_of u) ≡ Ok o) (sym is) place in
          let r = searched cmp k cut ys (Ok o) up2 place2 in
          let q = map-parts (λ (b : A × Subtree A h). b.0) t.2 r.0 (r.1 ∷ r.2) (sym (view-items A h t.2) ∙ r.3) in
          subst (λ n. Hit n o) here
          (parts q.left q.right q.is q.first q.second (r.4) r.6
          (ap (λ z. slice_get z o) r.3 ∙ get-after r.0 r.1 r.2 o (sym r.4)) r.0 r.1 r.2)
        where
          parts : (left right : List (A × Subtree A h)) → t.2 ≡ left ++ right → {front : List A} {x : A} {back : List A}
              → map {B = A} (λ (b : A × Subtree A h). b.0) left ≡ front
              → map {B = A} (λ (b : A × Subtree A h). b.0) right ≡ x ∷ back → length front ≡ o → side cmp k x ≡ Equal
              → slice_get (items_of (view_at A (suc h) (parent_above c) t)) o ≡ Some x
              → (f : List A) (y : A) (g : List A) → Hit t.0 o
          parts left [] is e1 e2 n l got f y g = absurd (cc)
          parts left (b ∷ right) is {front} {x} {back} e1 e2 n l got f y g =
              let e3 : b.0 ≡ x = cc in
              inner-hit h c t o w part left b right is
              (sym (length-map left (λ (b : A × Subtree A h). b.0)) ∙ (ap length e1 ∙ n)) (ap (side cmp k) e3 ∙ l)
              (got ∙ ap Some (sym e3))

  -- a search that ends between the items of a leaf has found where an absent key belongs
  pub search-miss : (id : ℕ) → IsSearching cmp k node_at root xs within start id → (p : Option ℕ) (ys : List A)
      → node_at id ≡ Some (leaf p ys) → (o : ℕ) → place_of cmp k ys ≡ Err o → Miss id o
  search-miss id s p ys e o place = at s.node.focus.height s.node.focus.path s.node.focus.subtree s.node.focus.here
      s.node.focus.whole s.part s.low s.high
    where
      at : (h : ℕ) (c : Path A h) (t : Subtree A h) → id_of A h t ≡ id → IsFocus A node_at [] root xs h c t
          → (part : IsPart c (items_under A h t) within start) → AreBelow cmp k part.lower → AreAbove cmp k part.higher
          → Miss id o
      at (suc h) c t here w part low high =
          let d = w.inner.0 in let e2 : node_at t.0 ≡ Some (leaf p ys) = rw here e in absurd (cc)
      at zero c t here w part low high =
          let e2 : node_at t.0 ≡ Some (leaf p ys) = rw here e in
          let d = w.inner in
          let is : t.1 ≡ ys = cc in
          let r =
          searched cmp k cut t.1 (Err o) (hole-rises cmp k cut node_at root xs up within start 0 c t w)
          (ap (place_of cmp k) is ∙ place) in
          let b : List A = part.lower in
          let a : List A = part.higher in
          let f : within ≡ (b ++ r.0) ++ (r.1 ++ a) = part.is ∙ (ap (λ z. b ++ (z ++ a)) r.2 ∙ simp append_assoc) in
          let q : IsSearched cmp k within (Err (length (b ++ r.0))) = (
            b ++ r.0,
            r.1 ++ a,
            f,
            refl,
            AllByRecursion-append (λ y. side cmp k y ≡ Less) b r.0 low r.4,
            AllByRecursion-append (λ y. side cmp k y ≡ Greater) r.1 a r.5 high,
          ) in
          let m = place-miss cmp k within (length (b ++ r.0)) q in
          let n : length (b ++ r.0) ≡ length b + o = length-append b r.0 ∙ ap (λ z. length b + z) r.3 in
          let l1 = ap length r.2 in
          let l2 = length-append r.0 r.1 in
          let l3 = r.3 in
          subst (λ n. Miss n o) here
          (record {
            place = length b + o;
            is = m.0 ∙ ap Err n;
            at =
                subst (λ z. IsPlace node_at (Some root) xs t.0 (Some o) z) (from-start 0 c t.1 part o)
                (hole-place A node_at [] root xs 0 c t w o (omega arith));
            absent = m.1;
          })
