-- From the list that nodes represent to a subtree as one value, and back.
use Rattle.btree_laws.proofs.Common.{◌≡◌, ◌++◌, ◌∷◌, [], ◌∙◌, ℕ, zero, suc, List, map, Option, Some, refl, sym, ap, AllByRecursion, flat_map, NodeMap, internal, Holds, Subtree, id_of, items_under, later_items, Represents}

module _ (A : Type 0) where
  represents-each : (node_at : NodeMap A) (h : ℕ) (p : Option ℕ)
      (below : (t : Subtree A h) → Holds A node_at h p t → Represents node_at h p (id_of A h t) (items_under A h t))
      (bs : List (A × Subtree A h)) → AllByRecursion (λ b. Holds A node_at h p b.1) bs
      → AllByRecursion {X = A × ℕ × List A} (λ b. Represents node_at h p b.1 b.2)
      (map (λ (b : A × Subtree A h). (b.0, id_of A h b.1, items_under A h b.1)) bs)
  represents-each node_at h p below [] d = tt
  represents-each node_at h p below (b ∷ bs) d = (below b.1 d.0, represents-each node_at h p below bs d.1)

  branches-again : (h : ℕ) (bs : List (A × Subtree A h)) → map {B = A × ℕ} (λ (b : A × Subtree A h). (b.0, id_of A h b.1))
      bs
      ≡ map {B = A × ℕ} (λ (b : A × ℕ × List A). (b.0, b.1))
      (map {B = A × ℕ × List A} (λ (b : A × Subtree A h). (b.0, id_of A h b.1, items_under A h b.1)) bs)
  branches-again h [] = refl
  branches-again h (b ∷ bs) = ap (λ z. (b.0, id_of A h b.1) ∷ z) (branches-again h bs)

  later-again : (h : ℕ) (bs : List (A × Subtree A h)) → later_items A h bs
      ≡ flat_map (λ (b : A × ℕ × List A). b.0 ∷ b.2)
      (map {B = A × ℕ × List A} (λ (b : A × Subtree A h). (b.0, id_of A h b.1, items_under A h b.1)) bs)
  later-again h [] = refl
  later-again h (b ∷ bs) = ap (λ z. (b.0 ∷ items_under A h b.1) ++ z) (later-again h bs)

  -- a subtree that the nodes hold represents its items
  pub represents-of : (node_at : NodeMap A) (h : ℕ) (p : Option ℕ) (t : Subtree A h) → Holds A node_at h p t
      → Represents node_at h p (id_of A h t) (items_under A h t)
  represents-of node_at zero p t d = d
  represents-of node_at (suc h) p t d = (
    id_of A h t.1,
    items_under A h t.1,
    map (λ (b : A × Subtree A h). (b.0, id_of A h b.1, items_under A h b.1)) t.2,
    d.0 ∙ ap (λ z. Some (internal p (id_of A h t.1) z)) (branches-again h t.2),
    represents-of node_at h (Some t.0) t.1 d.1,
    represents-each node_at h (Some t.0) (represents-of node_at h (Some t.0)) t.2 d.2,
    ap (λ z. items_under A h t.1 ++ z) (later-again h t.2),
  )

-- a subtree whose nodes are under a number and represent the list
pub record RepresentedSubtree (A : Type 0) (node_at : NodeMap A) (h : ℕ) (p : Option ℕ) (i : ℕ) (xs : List A) : Type 0 where
  pub subtree : Subtree A h
  pub here : id_of A h subtree ≡ i
  pub holds : Holds A node_at h p subtree
  pub list : items_under A h subtree ≡ xs

pub record Branches (A : Type 0) (node_at : NodeMap A) (h : ℕ) (p : Option ℕ) (bs : List (A × ℕ × List A)) : Type 0 where
  pub shapes : List (A × Subtree A h)
  pub named : map {B = A × ℕ} (λ b. (b.0, id_of A h b.1)) shapes ≡ map {B = A × ℕ} (λ b. (b.0, b.1)) bs
  pub hold : AllByRecursion (λ b. Holds A node_at h p b.1) shapes
  pub list : later_items A h shapes ≡ flat_map (λ b. b.0 ∷ b.2) bs

module _ (A : Type 0) (node_at : NodeMap A) where
  branches-of : (h : ℕ) (p : Option ℕ) (below : (i : ℕ) (xs : List A) → Represents node_at h p i xs → RepresentedSubtree A node_at h p i xs)
      (bs : List (A × ℕ × List A))
      → AllByRecursion (λ b. Represents node_at h p b.1 b.2) bs → Branches A node_at h p bs
  branches-of h p below [] d = record { shapes = []; named = refl; hold = tt; list = refl }
  branches-of h p below (b ∷ bs) d =
      let s = below b.1 b.2 d.0 in
      let r = branches-of h p below bs d.1 in
      record {
        shapes = (b.0, s.subtree) ∷ r.shapes;
        named = ap (λ (z : ℕ). (b.0, z) ∷ map {B = A × ℕ} (λ b. (b.0, id_of A h b.1)) r.shapes) s.here
            ∙ ap (λ z. (b.0, b.1) ∷ z) r.named;
        hold = (s.holds, r.hold);
        list = ap (λ z. (b.0 ∷ z) ++ later_items A h r.shapes) s.list ∙ ap (λ z. (b.0 ∷ b.2) ++ z) r.list;
      }

  -- nodes that represent a list hold a subtree with these items
  pub subtree-of : (h : ℕ) (p : Option ℕ) (i : ℕ) (xs : List A) → Represents node_at h p i xs → RepresentedSubtree A node_at h p i xs
  subtree-of zero p i xs s = record { subtree = (i, xs); here = refl; holds = s; list = refl }
  subtree-of (suc h) p i xs s =
      let f = subtree-of h (Some i) s.0 s.1 s.4 in
      let r = branches-of h (Some i) (subtree-of h (Some i)) s.2 s.5 in
      record {
        subtree = (i, f.subtree, r.shapes);
        here = refl;
        holds = (
          s.3 ∙ (ap (λ z. Some (internal p z (map (λ b. (b.0, b.1)) s.2))) (sym f.here)
              ∙ ap (λ z. Some (internal p (id_of A h f.subtree) z)) (sym r.named)),
          f.holds,
          r.hold,
        );
        list = ap (λ z. z ++ later_items A h r.shapes) f.list ∙ (ap (λ z. s.1 ++ z) r.list ∙ sym s.6);
      }
