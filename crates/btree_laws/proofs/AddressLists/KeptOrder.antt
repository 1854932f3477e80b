-- What is kept of the positions of a tree is in order, each address once; and how many nodes and items a tree has.
use Rattle.btree_laws.proofs.Common.{◌≡◌, ◌≤◌, ◌∷◌, ◌+◌, ◌∙◌, [], ℕ, suc, inl, inr, Bool, List, length, Option, Some, None, refl, sym, ap, subst, arith, length-append, slice_get, Address, NodeMap, IsPlaced, IsPlacedUnder, numbers_of, IsValid, IsWithin, times_listed, total, Subtree, items_under, later_items, times_under, numbers_under, positions, times_used}
use Rattle.btree_laws.specs.AddressLaws.{IsInOrder}
use Rattle.btree_laws.proofs.Trees.Density.{node-numbers, nodes_in}
use Rattle.btree_laws.proofs.AddressLists.Kept.{kept, passed-rise}
use Rattle.btree_laws.proofs.AddressLists.KeptOnce.{kept-once}
use Rattle.btree_laws.proofs.Trees.Numbers.{numbers-subtree, used-low}
use Rattle.btree_laws.proofs.AddressLists.OnePlaceEach.{AsSubtree, kept-addressed, ticks_of}

module _ (A : Type 0) where
  -- the lengths of what is kept of the branches, if each subtree has as many as items and nodes
  pub branch-sum : (keep : Address → Option A → Bool) (h : ℕ)
      → ((t : Subtree A h) → length (kept keep (positions A h t)) ≡ length (items_under A h t) + nodes_in A h t)
      → (bs : List (A × Subtree A h))
      → total (λ (b : A × Subtree A h). suc (length (kept keep (positions A h b.1)))) bs
      ≡ length (later_items A h bs) + total (λ (b : A × Subtree A h). nodes_in A h b.1) bs
  branch-sum keep h each [] = refl
  branch-sum keep h each (b ∷ bs) =
      let q = each b.1 in
      let r = branch-sum keep h each bs in
      let l = length-append (items_under A h b.1) (later_items A h bs) in
      omega arith

module _ {A : Type 0} (node_at : NodeMap A) where
  -- an address of a tree with a root is in one of its nodes
  pub valid-within : (root id : ℕ) (offset : Option ℕ) → IsValid node_at (Some root) id offset → IsWithin node_at (node_at id) offset
  valid-within root id offset (inl l) = l
  valid-within root id offset (inr n) = let e = n.0 in absurd (cc)

  -- the numbers of the nodes are those that are used, each once
  pub numbers-once : (levels : ℕ) (root : Option ℕ) (xs : List A) (p : IsPlacedUnder node_at levels root xs) (n : ℕ)
      → times_listed n (numbers_of node_at levels root xs p) ≡ times_used (node_at n)
  numbers-once levels None xs p n = sym (ap times_used (p.0 n))
  numbers-once levels (Some root) xs p n = p.rooted.once n

  module _ (levels root : ℕ) (xs : List A) (p : IsPlaced node_at levels root xs) (t : AsSubtree node_at levels root xs p) where
    pub times-few : (n : ℕ) → times_under A p.rooted.height n t.subtree ≤ 1
    times-few n =
        let b =
        subst (λ i. times_listed n (numbers_under node_at p.rooted.height i) ≡ times_under A p.rooted.height n t.subtree) t.here
        (numbers-subtree A node_at n p.rooted.height None t.subtree t.holds) in
        let o = p.rooted.once n in
        let u = used-low (node_at n) in
        omega arith

    pub numbers-counted : length (numbers_under node_at p.rooted.height root) ≡ nodes_in A p.rooted.height t.subtree
    numbers-counted =
        subst (λ i. length (numbers_under node_at p.rooted.height i) ≡ nodes_in A p.rooted.height t.subtree) t.here
        (node-numbers A node_at p.rooted.height None t.subtree t.holds)

    -- what is kept of the positions is in order
    pub kept-order : (keep : Address → Option A → Bool) (list : List Address)
        → list ≡ kept keep (ticks_of node_at levels root xs p t) → IsInOrder node_at (Some root) xs list
    kept-order keep list e = record {
      once = λ i j a f g.
          kept-once A a keep p.rooted.height t.subtree (times-few a.id) i j (ap (λ l. slice_get l i) (sym e) ∙ f)
          (ap (λ l. slice_get l j) (sym e) ∙ g);
      rising = λ i j a b m n l f g k q.
          let u = (kept-addressed node_at levels root xs p t keep i a (ap (λ l. slice_get l i) (sym e) ∙ f)).is None tt in
          let v = (kept-addressed node_at levels root xs p t keep j b (ap (λ l. slice_get l j) (sym e) ∙ g)).is None tt in
          let same = p.one a.id a.offset _ m u.at_place k in
          let other = p.one b.id b.offset _ n v.at_place q in
          let r = passed-rise keep (ticks_of node_at levels root xs p t) i j l in
          omega arith;
      placed = λ i a f.
          let u = (kept-addressed node_at levels root xs p t keep i a (ap (λ l. slice_get l i) (sym e) ∙ f)).is None tt in
          (_, u.at_place);
    }
