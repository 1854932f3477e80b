-- The leftmost and the rightmost leaf under a node and under its children; and more levels change neither these nor the
-- lists. Walks from both ends cite it.
use Rattle.btree_laws.proofs.Common.{◌≡◌, ◌<◌, ◌∷◌, ◌∙◌, [], ℕ, zero, suc, List, length, map, Option, Some, refl, sym, ap, subst, arith, AllByRecursion, slice_get, NodeMap, leaf, internal, first_leaf, IsPlaced, Holds, Subtree, id_of, view_at, parent_above}
use Rattle.btree_laws.specs.Addresses.{first_leaf_in, last_child, last_leaf, last_leaf_in}
use Rattle.btree_laws.proofs.AddressLists.Neighbours.{no-higher}
use Rattle.btree_laws.proofs.Trees.Numbers.{used-there}
use Rattle.btree_laws.proofs.AddressLists.OnePlaceEach.{as-subtree}
use Rattle.btree_laws.proofs.Paths.FromRoot.{node-rooted}

module _ (A : Type 0) (node_at : NodeMap A) where
  -- what holds for the number of each subtree holds for that of the last child
  at-last : (P : ℕ → Type 0) (h : ℕ) (p : Option ℕ) → ((t : Subtree A h) → Holds A node_at h p t → P (id_of A h t)) → (first : Subtree A h)
      → Holds A node_at h p first → (bs : List (A × Subtree A h)) → AllByRecursion (λ b. Holds A node_at h p b.1) bs
      → P (last_child (id_of A h first) (map {B = A × ℕ} (λ b. (b.0, id_of A h b.1)) bs))
  at-last P h p each first d [] e = each first d
  at-last P h p each first d (b ∷ bs) e = at-last P h p each b.1 e.0 bs e.1

  first-levels : (h m n : ℕ) (p : Option ℕ) (t : Subtree A h) → h < m → h < n → Holds A node_at h p t
      → first_leaf node_at m (id_of A h t) ≡ first_leaf node_at n (id_of A h t)
  first-levels h zero n p t l k d = absurd (omega arith)
  first-levels h (suc m) zero p t l k d = absurd (omega arith)
  first-levels zero (suc m) (suc n) p t l k d =
      ap (first_leaf_in (first_leaf node_at m) t.0) d ∙ sym (ap (first_leaf_in (first_leaf node_at n) t.0) d)
  first-levels (suc h) (suc m) (suc n) p t l k d =
      ap (first_leaf_in (first_leaf node_at m) t.0) d.0
      ∙ (first-levels h m n (Some t.0) t.1 (omega arith) (omega arith) d.1
      ∙ sym (ap (first_leaf_in (first_leaf node_at n) t.0) d.0))

  last-levels : (h m n : ℕ) (p : Option ℕ) (t : Subtree A h) → h < m → h < n → Holds A node_at h p t
      → last_leaf node_at m (id_of A h t) ≡ last_leaf node_at n (id_of A h t)
  last-levels h zero n p t l k d = absurd (omega arith)
  last-levels h (suc m) zero p t l k d = absurd (omega arith)
  last-levels zero (suc m) (suc n) p t l k d =
      ap (last_leaf_in (last_leaf node_at m) t.0) d ∙ sym (ap (last_leaf_in (last_leaf node_at n) t.0) d)
  last-levels (suc h) (suc m) (suc n) p t l k d =
      ap (last_leaf_in (last_leaf node_at m) t.0) d.0
      ∙ (at-last (λ i. last_leaf node_at m i ≡ last_leaf node_at n i) h (Some t.0)
      (λ u e. last-levels h m n (Some t.0) u (omega arith) (omega arith) e) t.1 d.1 t.2 d.2
      ∙ sym (ap (last_leaf_in (last_leaf node_at n) t.0) d.0))

  first-down : (h n : ℕ) (p : Option ℕ) (t : Subtree A h) → h < n → Holds A node_at h p t → (parent : Option ℕ) (first : ℕ)
      (branches : List (A × ℕ)) → node_at (id_of A h t) ≡ Some (internal parent first branches)
      → first_leaf node_at n (id_of A h t) ≡ first_leaf node_at n first
  first-down h zero p t l d parent first branches e = absurd (omega arith)
  first-down zero (suc n) p t l d parent first branches e = absurd (cc)
  first-down (suc h) (suc n) p t l d parent first branches e =
      let v = d.0 in
      let same : id_of A h t.1 ≡ first = cc in
      ap (first_leaf_in (first_leaf node_at n) t.0) d.0
      ∙ (first-levels h n (suc n) (Some t.0) t.1 (omega arith) (omega arith) d.1 ∙ ap (first_leaf node_at (suc n)) same)

  last-down : (h n : ℕ) (p : Option ℕ) (t : Subtree A h) → h < n → Holds A node_at h p t → (parent : Option ℕ) (first : ℕ)
      (branches : List (A × ℕ)) → node_at (id_of A h t) ≡ Some (internal parent first branches)
      → last_leaf node_at n (id_of A h t) ≡ last_leaf node_at n (last_child first branches)
  last-down h zero p t l d parent first branches e = absurd (omega arith)
  last-down zero (suc n) p t l d parent first branches e = absurd (cc)
  last-down (suc h) (suc n) p t l d parent first branches e =
      let v = d.0 in
      let same : view_at A (suc h) p t ≡ internal parent first branches = cc in
      ap (last_leaf_in (last_leaf node_at n) t.0) d.0
      ∙ (at-last (λ i. last_leaf node_at n i ≡ last_leaf node_at (suc n) i) h (Some t.0)
      (λ u e. last-levels h n (suc n) (Some t.0) u (omega arith) (omega arith) e) t.1 d.1 t.2 d.2
      ∙ ap (λ v. last_leaf_in (last_leaf node_at (suc n)) t.0 (Some v)) same)

-- the last child is at the index past that of the last item
pub last-child-at : {A : Type 0} (first : ℕ) (branches : List (A × ℕ))
    → slice_get (first ∷ map {B = ℕ} (λ (b : A × ℕ). b.1) branches) (length branches) ≡ Some (last_child first branches)
last-child-at first [] = refl
last-child-at first (b ∷ branches) = last-child-at b.1 branches

module _ {A : Type 0} (node_at : NodeMap A) (levels root : ℕ) (xs : List A) (p : IsPlaced node_at levels root xs) (id : ℕ) where
  -- in a leaf both are the leaf itself
  module _ (parent : Option ℕ) (items : List A) (e : node_at id ≡ Some (leaf parent items)) where
    first-self-by : (n : ℕ) → 0 < n → first_leaf node_at n id ≡ id
    first-self-by zero l = absurd (omega arith)
    first-self-by (suc n) l = ap (first_leaf_in (first_leaf node_at n) id) e

    last-self-by : (n : ℕ) → 0 < n → last_leaf node_at n id ≡ id
    last-self-by zero l = absurd (omega arith)
    last-self-by (suc n) l = ap (last_leaf_in (last_leaf node_at n) id) e

    -- the first leaf under a leaf is that leaf
    pub first-leaf-self : first_leaf node_at levels id ≡ id
    first-leaf-self = first-self-by levels (let l = p.low in omega arith)

    -- the last leaf under a leaf is that leaf
    pub last-leaf-self : last_leaf node_at levels id ≡ id
    last-leaf-self = last-self-by levels (let l = p.low in omega arith)

  -- in an internal node they are those of the first child and of the last one
  module _ (parent : Option ℕ) (first : ℕ) (branches : List (A × ℕ)) (e : node_at id ≡ Some (internal parent first branches)) where
    -- the first leaf under an internal node is that under its first child
    pub first-leaf-down : first_leaf node_at levels id ≡ first_leaf node_at levels first
    first-leaf-down =
        let n = node-rooted A node_at (λ id node. Unit {0}) root xs p.rooted id (used-there node_at id (internal parent first branches) e) in
        let l = no-higher node_at levels root xs p (as-subtree node_at levels root xs p) n.height n.path n.subtree n.focused in
        let k = p.low in
        subst (λ i. first_leaf node_at levels i ≡ first_leaf node_at levels first) n.here
        (first-down A node_at n.height levels (parent_above n.path) n.subtree (omega arith) n.focused.inner parent first branches
        (ap node_at n.here ∙ e))

    -- the last leaf under an internal node is that under its last child
    pub last-leaf-down : last_leaf node_at levels id ≡ last_leaf node_at levels (last_child first branches)
    last-leaf-down =
        let n = node-rooted A node_at (λ id node. Unit {0}) root xs p.rooted id (used-there node_at id (internal parent first branches) e) in
        let l = no-higher node_at levels root xs p (as-subtree node_at levels root xs p) n.height n.path n.subtree n.focused in
        let k = p.low in
        subst (λ i. last_leaf node_at levels i ≡ last_leaf node_at levels (last_child first branches)) n.here
        (last-down A node_at n.height levels (parent_above n.path) n.subtree (omega arith) n.focused.inner parent first branches
        (ap node_at n.here ∙ e))
