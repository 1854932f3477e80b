-- Numbers in lists and under nodes, counted.
use Rattle.btree_laws.proofs.Common.{◌≡◌, ◌≢◌, ◌<◌, ◌≤◌, ◌⊎◌, ◌++◌, ◌∷◌, [], ◌+◌, ℕ, zero, suc, inl, inr, List, length, map, Option, Some, None, refl, ap, arith, AllByRecursion, flat_map, NodeMap, children_in, View, one, times_listed, total, Holds, Subtree, id_of, times_under, numbers_under, times_used}
use Rattle.std.proofs.Common.{option_map}
use Rattle.btree_laws.proofs.Paths.Frames.{one-self, total-append}

-- of two numbers one is less, or they are equal
pub less-or : (m n : ℕ) → (m < n) ⊎ ((m ≡ n) ⊎ (n < m))
less-or zero zero = inr (inl refl)
less-or zero (suc n) = inl (omega arith)
less-or (suc m) zero = inr (inr (omega arith))
less-or (suc m) (suc n) =
    elim (less-or m n) [
      | inl a ↦ inl (omega arith)
      | inr b ↦ inr
          (elim b [ inl e ↦ inl (ap suc e) | inr g ↦ inr (omega arith) ])
    ]

-- two numbers are equal or different
pub same-or : (m n : ℕ) → (m ≡ n) ⊎ (m ≢ n)
same-or m n = elim (less-or m n)
    [ inl a ↦ inr (λ e. omega arith) | inr b ↦ elim b [ inl e ↦ inl e | inr g ↦ inr (λ e. omega arith) ] ]

-- a number is zero or more
pub zero-or : (n : ℕ) → (n ≡ 0) ⊎ (0 < n)
zero-or zero = inl refl
zero-or (suc n) = inr (omega arith)

-- a number is used at most once
pub used-low : {X : Type 0} (o : Option X) → times_used o ≤ 1
used-low None = omega arith
used-low (Some x) = omega arith

-- a number that is not used has no node
pub used-none : {X : Type 0} (o : Option X) → times_used o ≡ 0 → o ≡ None
used-none None e = refl
used-none (Some x) e = absurd (omega arith)

pub used-some : {X : Type 0} (o : Option X) → 0 < times_used o → (x : X) × (o ≡ Some x)
used-some None e = absurd (omega arith)
used-some (Some x) e = (x, refl)

-- a number is used whichever view of its node is taken
pub used-mapped : {X Y : Type 0} (f : X → Y) (o : Option X) → times_used (option_map f o) ≡ times_used o
used-mapped f None = refl
used-mapped f (Some x) = refl

-- a number with a node is used
pub used-there : {A : Type 0} (node_at : NodeMap A) (n : ℕ) (v : View A) → node_at n ≡ Some v → 0 < times_used (node_at n)
used-there node_at n v e = rw e (omega arith)

-- a used number whose node did not change is still used
pub used-same : {A : Type 0} (node_at new : NodeMap A) (n : ℕ) → new n ≡ node_at n → 0 < times_used (node_at n) → 0 < times_used (new n)
used-same node_at new n e u = rw e u

-- a number has one node
pub same-node : {A : Type 0} (node_at : NodeMap A) (id : ℕ) (v w : View A) → node_at id ≡ Some v → node_at id ≡ Some w → v ≡ w
same-node node_at id v w e f = cc

-- a number with a node is used once
pub used-one : {X : Type 0} (o : Option X) (x : X) → o ≡ Some x → times_used o ≡ 1
used-one None x e = absurd (cc)
used-one (Some y) x e = refl

-- an element that contributes to a sum
pub record Picked {X : Type 0} (f : X → ℕ) (xs : List X) : Type 0 where
  pub front : List X
  pub found : X
  pub back : List X
  pub is : xs ≡ front ++ found ∷ back
  pub some : 0 < f found

pub pick : {X : Type 0} (f : X → ℕ) (xs : List X) → 0 < total f xs → Picked f xs
pick f [] p = absurd (omega arith)
pick f (x ∷ xs) p =
    elim (zero-or (f x)) [
      | inl z ↦ (let r = pick f xs (omega arith) in record {
        front = x ∷ r.front;
        found = r.found;
        back = r.back;
        is =
            ap (λ l. x ∷ l) r.is;
        some = r.some;
      })
      | inr q ↦ record { front = []; found = x; back = xs; is = refl; some = q }
    ]

-- nothing is listed in an empty list
pub none-listed : (ns : List ℕ) → length ns ≡ 0 → (n : ℕ) → times_listed n ns ≡ 0
none-listed [] none n = refl
none-listed (m ∷ ns) none n = absurd (omega arith)

-- a number is listed in two lists together as often as in each
pub listed-append : (n : ℕ) (ns ms : List ℕ) → times_listed n (ns ++ ms) ≡ times_listed n ns + times_listed n ms
listed-append n ns ms = total-append (λ i. one n i) ns ms

module _ (A : Type 0) (node_at : NodeMap A) (n : ℕ) where
  branch-numbers : (h : ℕ) (p : Option ℕ)
      → ((t : Subtree A h) → Holds A node_at h p t → times_listed n (numbers_under node_at h (id_of A h t)) ≡ times_under A h n
      t)
      → (bs : List (A × Subtree A h)) → AllByRecursion (λ b. Holds A node_at h p b.1) bs
      → times_listed n (flat_map (numbers_under node_at h)
      (map {B = ℕ} (λ b. b.1) (map {B = A × ℕ} (λ (b : A × Subtree A h). (b.0, id_of A h b.1)) bs))) ≡ total
      (λ (b : A × Subtree A h). times_under A h n b.1) bs
  branch-numbers h p each [] d = refl
  branch-numbers h p each (b ∷ bs) d =
      let q =
      listed-append n (numbers_under node_at h (id_of A h b.1))
      (flat_map (numbers_under node_at h)
      (map {B = ℕ} (λ b. b.1) (map {B = A × ℕ} (λ (b : A × Subtree A h). (b.0, id_of A h b.1)) bs))) in
      let a = each b.1 d.0 in
      let r = branch-numbers h p each bs d.1 in
      omega arith

  -- the numbers under a node are those of its subtree
  pub numbers-subtree : (h : ℕ) (p : Option ℕ) (t : Subtree A h) → Holds A node_at h p t
      → times_listed n (numbers_under node_at h (id_of A h t)) ≡ times_under A h n t
  numbers-subtree zero p t d = omega arith
  numbers-subtree (suc h) p t d =
      let q =
      listed-append n (numbers_under node_at h (id_of A h t.1))
      (flat_map (numbers_under node_at h)
      (map {B = ℕ} (λ b. b.1) (map {B = A × ℕ} (λ (b : A × Subtree A h). (b.0, id_of A h b.1)) t.2))) in
      let a = numbers-subtree h (Some t.0) t.1 d.1 in
      let r = branch-numbers h (Some t.0) (numbers-subtree h (Some t.0)) t.2 d.2 in
      let e : children_in (node_at t.0) ≡ id_of A h t.1 ∷ map {B = ℕ} (λ b. b.1)
      (map {B = A × ℕ} (λ (b : A × Subtree A h). (b.0, id_of A h b.1)) t.2) =
      ap children_in d.0 in
      let f : times_listed n (flat_map (numbers_under node_at h) (children_in (node_at t.0))) ≡ times_listed n
      (flat_map (numbers_under node_at h)
      (id_of A h t.1 ∷ map {B = ℕ} (λ b. b.1) (map {B = A × ℕ} (λ (b : A × Subtree A h). (b.0, id_of A h b.1)) t.2)))
      =
      ap (λ l. times_listed n (flat_map (numbers_under node_at h) l)) e in
      omega arith

module _ (A : Type 0) where
  -- the number of a subtree's root is under it
  pub times-has : (h n : ℕ) (t : Subtree A h) → one n (id_of A h t) ≤ times_under A h n t
  times-has zero n t = omega arith
  times-has (suc h) n t = omega arith

  pub times-own : (h : ℕ) (t : Subtree A h) → 1 ≤ times_under A h (id_of A h t) t
  times-own h t = omega (arith, one-self (id_of A h t), times-has h (id_of A h t) t)
