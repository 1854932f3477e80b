-- The nodes that are left are those of the start with an item left.
use Rattle.btree_owned_walk.proofs.Common.{◌≡◌, ◌<◌, ◌≤◌, inl, inr, ℕ, zero, suc, ◌+◌, List, [], ◌∷◌, ◌++◌, length, Option, Some, None, refl, sym, ap, ◌∙◌, arith, Content, Node, views, AllByRecursion, View, leaf, NodeMap, one, total, Subtree, items_under, later_items, times_under, view_at, one-self, zero-or, HasAny, HoldsRest, AreApart, IsRest, first_gone, tail_of, without_first, init_of, without_last, met}
use Rattle.std.proofs.Common.{length-append}
use Rattle.std.specs.FinMap as fin
use Rattle.btree_laws.proofs.Trees.Stores.{len-views}
use Rattle.std.proofs.lemmas.Bool.Decides.{nat_tests}
use Rattle.std.specs.List.{flat_map}
use Rattle.btree_laws.specs.Lists.{times_listed}
use Rattle.btree_laws.specs.WellFormed.{times_used}
use Rattle.btree_laws.proofs.Trees.Numbers.{listed-append}
use Rattle.btree_owned_walk.specs.Rest.{if_any, last_end, later_out, last_out}
use Rattle.btree_owned_walk.specs.NodesLeft.{meets, met_later}
use Rattle.btree_owned_walk.specs.Leaving.{CountsOf}
use Rattle.btree_owned_walk.proofs.RestLemmas.{any-or, append-none, out-gone, out-left}

own-first : (from to s m n : ℕ) → suc s ≤ from → m ≡ n → meets from to (suc s) m ≡ meets from to s n
own-first from to s m n l e = omega arith

own-last : (from to s m n : ℕ) → to ≤ m → m ≤ n → meets from to s m ≡ meets from to s n
own-last from to s m n l e = omega arith

module _ (A : Type 0) where
  -- how many items a step takes
  pub first-length : (h : ℕ) (t : Subtree A h) → HasAny (items_under A h t) → suc (length (items_under A h (without_first A h t))) ≡ length (items_under A h t)
  first-length zero t a = of t.1 a
    where
      of : (xs : List A) → HasAny xs → suc (length (tail_of xs)) ≡ length xs
      of [] a = absurd (omega arith)
      of (x ∷ xs) a = refl
  first-length (suc h) t a =
      elim (any-or (items_under A h t.1)) [
        | inl none ↦ ap (λ u. suc (length (items_under A (suc h) u))) (out-gone A h (items_under A h t.1) (without_first A h t.1) t none) ∙ gone t.0 t.1 t.2 none a
        | inr some ↦ ap (λ u. suc (length (items_under A (suc h) u))) (out-left A h (items_under A h t.1) (without_first A h t.1) t some)
            ∙ (let q = first-length h t.1 some in let l1 = length-append (items_under A h (without_first A h t.1)) (later_items A h t.2) in
            let l2 = length-append (items_under A h t.1) (later_items A h t.2) in omega arith)
      ]
    where
      gone : (i : ℕ) (c : Subtree A h) (bs : List (A × Subtree A h)) → items_under A h c ≡ [] → HasAny (items_under A (suc h) (i, c, bs))
          → suc (length (items_under A (suc h) (first_gone A h i c bs))) ≡ length (items_under A (suc h) (i, c, bs))
      gone i c [] none a = absurd (let l = length-append (items_under A h c) [] in let n = ap length none in omega arith)
      gone i c (b ∷ bs) none a =
          let l = length-append (items_under A h c) (later_items A h (b ∷ bs)) in
          let n = ap length none in omega arith

  module _ (from to : ℕ) where
    -- a subtree without items has no node with an item left
    gone-later : (h : ℕ) (s : ℕ) (bs : List (A × Subtree A h)) → later_items A h bs ≡ [] → met_later A from to h (met A from to h) s bs ≡ 0
    gone-later h s [] e = refl
    gone-later h s (b ∷ bs) e = absurd (cc)

    pub gone-met : (h s : ℕ) (t : Subtree A h) → items_under A h t ≡ [] → met A from to h s t ≡ 0
    gone-met zero s t e = let l = ap length e in omega arith
    gone-met (suc h) s t e =
        let parts = append-none A (items_under A h t.1) (later_items A h t.2) e in
        let l = ap length e in
        let a = gone-met h s t.1 parts.0 in
        let b = gone-later h (s + length (items_under A h t.1)) t.2 parts.1 in
        omega arith

    -- a step at the front takes no node that still has an item left
    pub first-met : (h s : ℕ) (t : Subtree A h) → HasAny (items_under A h t) → suc s ≤ from
        → met A from to h (suc s) (without_first A h t) ≡ met A from to h s t
    first-met zero s t a l =
        let n = first-length zero t a in
        own-first from to s (suc s + length (items_under A zero (without_first A zero t))) (s + length t.1) l (omega arith)
    first-met (suc h) s t a l =
        elim (any-or (items_under A h t.1)) [
          | inl none ↦ ap (met A from to (suc h) (suc s)) (out-gone A h (items_under A h t.1) (without_first A h t.1) t none) ∙ gone t.0 t.1 t.2 none a l
          | inr some ↦ ap (met A from to (suc h) (suc s)) (out-left A h (items_under A h t.1) (without_first A h t.1) t some)
              ∙ (let n = first-length h t.1 some in
              let l1 = length-append (items_under A h (without_first A h t.1)) (later_items A h t.2) in
              let l2 = length-append (items_under A h t.1) (later_items A h t.2) in
              let own = own-first from to s (suc s + length (items_under A h (without_first A h t.1) ++ later_items A h t.2))
              (s + length (items_under A h t.1 ++ later_items A h t.2)) l (omega arith) in
              let r = first-met h s t.1 some l in
              let place : suc s + length (items_under A h (without_first A h t.1)) ≡ s + length (items_under A h t.1) = omega arith in
              let later = ap (λ q. met_later A from to h (met A from to h) q t.2) place in
              omega arith)
        ]
      where
        gone : (i : ℕ) (c : Subtree A h) (bs : List (A × Subtree A h)) → items_under A h c ≡ [] → HasAny (items_under A (suc h) (i, c, bs)) → suc s ≤ from
            → met A from to (suc h) (suc s) (first_gone A h i c bs) ≡ met A from to (suc h) s (i, c, bs)
        gone i c [] none a l = absurd (let l = length-append (items_under A h c) [] in let n = ap length none in omega arith)
        gone i c (b ∷ bs) none a l =
            let n = ap length none in
            let l2 = length-append (items_under A h c) (later_items A h (b ∷ bs)) in
            let own = own-first from to s (suc s + length (items_under A h b.1 ++ later_items A h bs))
            (s + length (items_under A h c ++ later_items A h (b ∷ bs))) l (omega arith) in
            let z = gone-met h s c none in
            let place : s + length (items_under A h c) + 1 ≡ suc s = omega arith in
            let first = ap (λ q. met A from to h q b.1) place in
            let later = ap (λ q. met_later A from to h (met A from to h) (q + length (items_under A h b.1)) bs) place in
            omega arith

  -- how many items a step at the back takes
  pub last-length : (h : ℕ) (t : Subtree A h) → HasAny (items_under A h t) → suc (length (items_under A h (without_last A h t))) ≡ length (items_under A h t)
  last-length zero t a = of t.1 a
    where
      of : (xs : List A) → HasAny xs → suc (length (init_of xs)) ≡ length xs
      of [] a = absurd (omega arith)
      of (x ∷ []) a = refl
      of (x ∷ (y ∷ ys)) a = ap suc (of (y ∷ ys) (omega arith))
  last-length (suc h) t a = of (last-length h) t.0 t.1 t.2 a
    where
      later : ((c : Subtree A h) → HasAny (items_under A h c) → suc (length (items_under A h (without_last A h c))) ≡ length (items_under A h c))
          → (b : A × Subtree A h) (bs : List (A × Subtree A h))
          → suc (length (later_items A h (later_out A h (without_last A h) b bs))) ≡ length (later_items A h (b ∷ bs))
      later each b [] = end (items_under A h b.1) (λ a. each b.1 a)
        where
          end : (xs : List A) → (HasAny xs → suc (length (items_under A h (without_last A h b.1))) ≡ length xs)
              → suc (length (later_items A h (last_end A h b.0 xs (without_last A h b.1)))) ≡ length (b.0 ∷ (xs ++ []))
          end [] e = refl
          end (x ∷ xs) e =
              let n = e (omega arith) in
              let l1 = length-append (items_under A h (without_last A h b.1)) [] in
              let l2 = length-append xs [] in omega arith
      later each b (d ∷ ds) =
          let r = later each d ds in
          let l1 = length-append (items_under A h b.1) (later_items A h (later_out A h (without_last A h) d ds)) in
          let l2 = length-append (items_under A h b.1) (later_items A h (d ∷ ds)) in omega arith

      of : ((c : Subtree A h) → HasAny (items_under A h c) → suc (length (items_under A h (without_last A h c))) ≡ length (items_under A h c))
          → (i : ℕ) (c : Subtree A h) (bs : List (A × Subtree A h)) → HasAny (items_under A (suc h) (i, c, bs))
          → suc (length (items_under A (suc h) (last_out A h (without_last A h) i c bs))) ≡ length (items_under A (suc h) (i, c, bs))
      of each i c [] a =
          let l2 = length-append (items_under A h c) [] in
          let l1 = length-append (items_under A h (without_last A h c)) [] in
          let n = each c (omega arith) in omega arith
      of each i c (b ∷ bs) a =
          let r = later each b bs in
          let l1 = length-append (items_under A h c) (later_items A h (later_out A h (without_last A h) b bs)) in
          let l2 = length-append (items_under A h c) (later_items A h (b ∷ bs)) in omega arith

  module _ (from to : ℕ) where
    -- a step at the back takes no node that still has an item left
    pub last-met : (h s : ℕ) (t : Subtree A h) → HasAny (items_under A h t) → suc to ≤ s + length (items_under A h t)
        → met A from to h s (without_last A h t) ≡ met A from to h s t
    last-met zero s t a l =
        let n = last-length zero t a in
        own-last from to s (s + length (items_under A zero (without_last A zero t))) (s + length t.1) (omega arith) (omega arith)
    last-met (suc h) s t a l = of (last-met h) t.0 t.1 t.2 a l
      where
        later : ((s : ℕ) (c : Subtree A h) → HasAny (items_under A h c) → suc to ≤ s + length (items_under A h c)
            → met A from to h s (without_last A h c) ≡ met A from to h s c)
            → (s : ℕ) (b : A × Subtree A h) (bs : List (A × Subtree A h)) → suc to ≤ s + length (later_items A h (b ∷ bs))
            → met_later A from to h (met A from to h) s (later_out A h (without_last A h) b bs) ≡ met_later A from to h (met A from to h) s (b ∷ bs)
        later each s b [] l = end (items_under A h b.1) refl
          where
            end : (xs : List A) → items_under A h b.1 ≡ xs
                → met_later A from to h (met A from to h) s (last_end A h b.0 xs (without_last A h b.1)) ≡ met A from to h (s + 1) b.1 + 0
            end [] e = let z = gone-met from to h (s + 1) b.1 e in omega arith
            end (x ∷ xs) e =
                let n = ap length e in
                let l2 = length-append (items_under A h b.1) [] in
                let r = each (s + 1) b.1 (omega arith) (omega arith) in omega arith
        later each s b (d ∷ ds) l =
            let l2 = length-append (items_under A h b.1) (later_items A h (d ∷ ds)) in
            let r = later each (s + 1 + length (items_under A h b.1)) d ds (omega arith) in omega arith

        of : ((s : ℕ) (c : Subtree A h) → HasAny (items_under A h c) → suc to ≤ s + length (items_under A h c)
            → met A from to h s (without_last A h c) ≡ met A from to h s c)
            → (i : ℕ) (c : Subtree A h) (bs : List (A × Subtree A h)) → HasAny (items_under A (suc h) (i, c, bs))
            → suc to ≤ s + length (items_under A (suc h) (i, c, bs))
            → met A from to (suc h) s (last_out A h (without_last A h) i c bs) ≡ met A from to (suc h) s (i, c, bs)
        of each i c [] a l =
            let l2 = length-append (items_under A h c) [] in
            let l1 = length-append (items_under A h (without_last A h c)) [] in
            let n = last-length h c (omega arith) in
            let r = each s c (omega arith) (omega arith) in
            let own = own-last from to s (s + length (items_under A h (without_last A h c) ++ [])) (s + length (items_under A h c ++ [])) (omega arith) (omega arith) in
            omega arith
        of each i c (b ∷ bs) a l =
            let l1 = length-append (items_under A h c) (later_items A h (later_out A h (without_last A h) b bs)) in
            let l2 = length-append (items_under A h c) (later_items A h (b ∷ bs)) in
            let n = last-length (suc h) (i, c, b ∷ bs) a in
            let own = own-last from to s (s + length (items_under A h c ++ later_items A h (later_out A h (without_last A h) b bs)))
            (s + length (items_under A h c ++ later_items A h (b ∷ bs))) (omega arith) (omega arith) in
            let r = later each (s + length (items_under A h c)) b bs (omega arith) in omega arith

  -- the numbers of the nodes in which an item is left
  abbrev pub kept_own : List A → ℕ → List ℕ
  kept_own [] id = []
  kept_own (x ∷ xs) id = id ∷ []

  abbrev pub kept : (h : ℕ) → Subtree A h → List ℕ
  kept zero t = kept_own t.1 t.0
  kept (suc h) t = kept_own (items_under A (suc h) t) t.0 ++ (kept h t.1 ++ flat_map (λ b. kept h b.1) t.2)

  own-listed : (n id : ℕ) (xs : List A) → times_listed n (kept_own xs id) ≤ one n id
  own-listed n id [] = omega arith
  own-listed n id (x ∷ xs) = omega arith

  -- only numbers of the subtree are kept
  pub kept-few : (h n : ℕ) (t : Subtree A h) → times_listed n (kept h t) ≤ times_under A h n t
  kept-few zero n t = own-listed n t.0 t.1
  kept-few (suc h) n t = of (kept-few h n) t.2
    where
      later : ((c : Subtree A h) → times_listed n (kept h c) ≤ times_under A h n c) → (bs : List (A × Subtree A h))
          → times_listed n (flat_map (λ b. kept h b.1) bs) ≤ total (λ b. times_under A h n b.1) bs
      later each [] = omega arith
      later each (b ∷ bs) =
          let q = listed-append n (kept h b.1) (flat_map (λ b. kept h b.1) bs) in
          let r = later each bs in let k = each b.1 in omega arith

      of : ((c : Subtree A h) → times_listed n (kept h c) ≤ times_under A h n c) → (bs : List (A × Subtree A h))
          → times_listed n (kept (suc h) t) ≤ times_under A (suc h) n t
      of each bs =
          let q1 = listed-append n (kept_own (items_under A (suc h) t) t.0) (kept h t.1 ++ flat_map (λ b. kept h b.1) t.2) in
          let q2 = listed-append n (kept h t.1) (flat_map (λ b. kept h b.1) t.2) in
          let o = own-listed n t.0 (items_under A (suc h) t) in
          let r = later each t.2 in let k = each t.1 in omega arith

  own-kept : (node_at : NodeMap A) (n id : ℕ) (v : View A) (xs : List A) → node_at id ≡ if_any xs v → n ≡ id
      → times_listed n (kept_own xs id) ≡ times_used (node_at n)
  own-kept node_at n id v [] e is = ap times_used (sym (ap node_at is ∙ e))
  own-kept node_at n id v (x ∷ xs) e is =
      let e1 : one n id ≡ 1 = ap (one n) (sym is) ∙ one-self n in
      let e2 : times_used (node_at n) ≡ 1 = ap times_used (ap node_at is ∙ e) in
      omega arith

  later-few : (h n : ℕ) (bs : List (A × Subtree A h))
      → times_listed n (flat_map (λ (b : A × Subtree A h). kept h b.1) bs) ≤ total (λ (b : A × Subtree A h). times_under A h n b.1) bs
  later-few h n [] = omega arith
  later-few h n (b ∷ bs) =
      let q = listed-append n (kept h b.1) (flat_map (λ (b : A × Subtree A h). kept h b.1) bs) in
      let r = later-few h n bs in let k = kept-few h n b.1 in omega arith

  later : (node_at : NodeMap A) (h : ℕ) (p : Option ℕ)
      → ((t : Subtree A h) → HoldsRest A node_at h p t → AreApart A h t → (n : ℕ) → 0 < times_under A h n t → times_listed n (kept h t) ≡ times_used (node_at n))
      → (bs : List (A × Subtree A h)) → AllByRecursion (λ b. HoldsRest A node_at h p b.1) bs → (n : ℕ)
      → ((m : ℕ) → total (λ (b : A × Subtree A h). times_under A h m b.1) bs ≤ 1)
      → 0 < total (λ (b : A × Subtree A h). times_under A h n b.1) bs
      → times_listed n (flat_map (λ (b : A × Subtree A h). kept h b.1) bs) ≡ times_used (node_at n)
  later node_at h p each [] d n apart u = absurd (omega arith)
  later node_at h p each (b ∷ bs) d n apart u =
      let q = listed-append n (kept h b.1) (flat_map (λ (b : A × Subtree A h). kept h b.1) bs) in
      let few = kept-few h n b.1 in
      let few2 = later-few h n bs in
      let ap0 = apart n in
      elim (zero-or (times_under A h n b.1)) [
        | inl none ↦ (let r = later node_at h p each bs d.1 n (λ m. (let q = apart m in omega arith)) (omega arith) in omega arith)
        | inr some ↦ (let r = each b.1 d.0 (λ m. (let q = apart m in omega arith)) n some in omega arith)
      ]

  -- the kept numbers are those in use
  pub kept-used : (node_at : NodeMap A) (h : ℕ) (p : Option ℕ) (t : Subtree A h) → HoldsRest A node_at h p t → AreApart A h t → (n : ℕ)
      → 0 < times_under A h n t → times_listed n (kept h t) ≡ times_used (node_at n)
  kept-used node_at zero p t d apart n u =
      elim (zero-or (one n t.0)) [
        | inl z ↦ absurd (omega arith)
        | inr q ↦ own-kept node_at n t.0 (leaf p t.1) t.1 d (grind (arith, nat_tests))
      ]
  kept-used node_at (suc h) p t d apart n u =
      let q1 = listed-append n (kept_own (items_under A (suc h) t) t.0) (kept h t.1 ++ flat_map (λ b. kept h b.1) t.2) in
      let q2 = listed-append n (kept h t.1) (flat_map (λ b. kept h b.1) t.2) in
      let o = own-listed n t.0 (items_under A (suc h) t) in
      let few = kept-few h n t.1 in
      let few2 = later-few h n t.2 in
      let ap0 = apart n in
      elim (zero-or (one n t.0)) [
        | inl z ↦ elim (zero-or (times_under A h n t.1)) [
          | inl none ↦ (let r = later node_at h (Some t.0) (kept-used node_at h (Some t.0)) t.2 d.2 n (λ m. (let q = apart m in omega arith)) (omega arith) in omega arith)
          | inr some ↦ (let r = kept-used node_at h (Some t.0) t.1 d.1 (λ m. (let q = apart m in omega arith)) n some in omega arith)
        ]
        | inr q ↦ (let r = own-kept node_at n t.0 (view_at A (suc h) p t) (items_under A (suc h) t) d.0 (grind (arith, nat_tests)) in omega arith)
      ]

  -- how many there are: each node that is kept has an item left
  kept-own-met : (from to s : ℕ) (xs : List A) (id : ℕ) → from ≤ s → s + length xs ≤ to → meets from to s (s + length xs) ≡ length (kept_own xs id)
  kept-own-met from to s [] id l g = omega arith
  kept-own-met from to s (x ∷ xs) id l g = omega arith

  pub kept-met : (from to h s : ℕ) (t : Subtree A h) → from ≤ s → s + length (items_under A h t) ≤ to → met A from to h s t ≡ length (kept h t)
  kept-met from to zero s t l g = kept-own-met from to s t.1 t.0 l g
  kept-met from to (suc h) s t l g =
      let l2 = length-append (items_under A h t.1) (later_items A h t.2) in
      let q1 = length-append (kept_own (items_under A (suc h) t) t.0) (kept h t.1 ++ flat_map (λ b. kept h b.1) t.2) in
      let q2 = length-append (kept h t.1) (flat_map (λ b. kept h b.1) t.2) in
      let own = kept-own-met from to s (items_under A (suc h) t) t.0 l g in
      let r = kept-met from to h s t.1 l (omega arith) in
      let k = each (kept-met from to h) (s + length (items_under A h t.1)) t.2 (omega arith) (omega arith) in
      omega arith
    where
      each : ((s : ℕ) (c : Subtree A h) → from ≤ s → s + length (items_under A h c) ≤ to → met A from to h s c ≡ length (kept h c))
          → (s : ℕ) (bs : List (A × Subtree A h)) → from ≤ s → s + length (later_items A h bs) ≤ to
          → met_later A from to h (met A from to h) s bs ≡ length (flat_map (λ (b : A × Subtree A h). kept h b.1) bs)
      each f s [] l g = refl
      each f s (b ∷ bs) l g =
          let l2 = length-append (items_under A h b.1) (later_items A h bs) in
          let q2 = length-append (kept h b.1) (flat_map (λ (b : A × Subtree A h). kept h b.1) bs) in
          let r = f (s + 1) b.1 (omega arith) (omega arith) in
          let k = each f (s + 1 + length (items_under A h b.1)) bs (omega arith) (omega arith) in
          omega arith

  pub rest-listed : (node_at : NodeMap A) (h : ℕ) (t : Subtree A h) → IsRest A node_at h t → (n : ℕ) → times_listed n (kept h t) ≡ times_used (node_at n)
  rest-listed node_at h t r n =
      elim (zero-or (times_under A h n t)) [
        | inl none ↦ (let few = kept-few h n t in let e : times_used (node_at n) ≡ 0 = ap times_used (r.only n none) in omega arith)
        | inr some ↦ kept-used node_at h None t r.holds r.apart n some
      ]

module _ (A : Type 0) (g : ℕ) (start : Subtree A g) where
  pub counts-start : CountsOf A g start g start 0
  counts-start = record { same = λ from to l m. refl }

  pub counts-first : (h : ℕ) (t : Subtree A h) (passed : ℕ) → HasAny (items_under A h t) → CountsOf A g start h t passed
      → CountsOf A g start h (without_first A h t) (suc passed)
  counts-first h t passed some c = record {
    same = λ from to l m. (let n = first-length A h t some in c.same from to (omega arith) (omega arith) ∙ sym (first-met A from to h passed t some l));
  }

  pub counts-last : (h : ℕ) (t : Subtree A h) (passed : ℕ) → HasAny (items_under A h t) → CountsOf A g start h t passed
      → CountsOf A g start h (without_last A h t) passed
  counts-last h t passed some c = record {
    same = λ from to l m. (let n = last-length A h t some in c.same from to l (omega arith) ∙ sym (last-met A from to h passed t some (omega arith)));
  }

-- exactly: the nodes of the store are as many as those of the start with an item left
module _ {K V : Type 0} where
  pub counted : (nodes : Content (Node K V)) (g : ℕ) (start : Subtree (K × V) g) (h : ℕ) (t : Subtree (K × V) h) (passed : ℕ)
      → IsRest (K × V) (views nodes) h t → CountsOf (K × V) g start h t passed
      → fin.len nodes ≡ met (K × V) passed (passed + length (items_under (K × V) h t)) g 0 start
  counted nodes g start h t passed r c =
      len-views nodes (kept (K × V) h t) (rest-listed (K × V) (views nodes) h t r)
      ∙ sym (c.same passed (passed + length (items_under (K × V) h t)) (omega arith) (omega arith)
      ∙ kept-met (K × V) passed (passed + length (items_under (K × V) h t)) h passed t (omega arith) (omega arith))
