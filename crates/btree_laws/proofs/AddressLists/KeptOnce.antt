-- An address is kept once: it is among the positions at most as often as its number is in the tree.
use Rattle.btree_laws.proofs.Common.{◌≡◌, ◌<◌, ◌≤◌, ◌++◌, ◌∷◌, ◌+◌, ◌∙◌, [], ℕ, zero, suc, inl, inr, Bool, true, false, List, Option, Some, None, refl, sym, ap, subst, arith, slice_get, Address, one, total, Subtree, times_under, Position, branch_key, branch_positions, address_before, mark, over, address_at, positions_from, positions}
use Rattle.btree_laws.proofs.Paths.Frames.{one-other, one-self}
use Rattle.btree_laws.proofs.AddressLists.Kept.{kept, put}
use Rattle.btree_laws.proofs.Trees.Numbers.{same-or}

-- 1 if two offsets are equal, and if two addresses are, else 0
abbrev same_offset : Option ℕ → Option ℕ → ℕ
same_offset None None = 1
same_offset None (Some o) = 0
same_offset (Some k) None = 0
same_offset (Some k) (Some o) = one k o

abbrev both : ℕ → ℕ → ℕ
both zero n = 0
both (suc m) n = n

both-zero : (m : ℕ) → both m 0 ≡ 0
both-zero zero = refl
both-zero (suc m) = refl

one-low : (m n : ℕ) → one m n ≤ 1
one-low m n = elim (same-or m n) [
  | inl e ↦ let q : one m n ≡ 1 = subst (λ z. one m z ≡ 1) e (one-self m) in omega arith
  | inr e ↦ let q = one-other m n e in omega arith
]

same-low : (k o : Option ℕ) → same_offset k o ≤ 1
same-low None None = omega arith
same-low None (Some o) = omega arith
same-low (Some k) None = omega arith
same-low (Some k) (Some o) = one-low k o

both-low : (m n : ℕ) → n ≤ 1 → both m n ≤ m
both-low zero n l = omega arith
both-low (suc m) n l = omega arith

abbrev same_address : Address → Address → ℕ
same_address a b = both (one a.id b.id) (same_offset a.offset b.offset)

same-offset-self : (k : Option ℕ) → same_offset k k ≡ 1
same-offset-self None = refl
same-offset-self (Some k) = one-self k

same-self : (a : Address) → same_address a a ≡ 1
same-self a = ap (λ m. both m (same_offset a.offset a.offset)) (one-self a.id) ∙ same-offset-self a.offset

-- how often an address is in a list, and among positions
abbrev times_in : Address → List Address → ℕ
times_in a list = total (λ b. same_address a b) list

abbrev met : {A : Type 0} → Address → List (Position A) → ℕ
met a [] = 0
met a (mark b item ∷ ts) = same_address a b + met a ts
met a (over ∷ ts) = met a ts

get-times : (a : Address) (list : List Address) (i : ℕ) → slice_get list i ≡ Some a → 0 < times_in a list
get-times a [] i e = absurd (cc)
get-times a (b ∷ list) zero e =
    let s : b ≡ a = cc in
    let q : same_address a b ≡ 1 = subst (λ z. same_address a z ≡ 1) (sym s) (same-self a) in
    omega arith
get-times a (b ∷ list) (suc i) e = let q = get-times a list i e in omega arith

pub one-index : (a : Address) (list : List Address) → times_in a list ≤ 1 → (i j : ℕ) → slice_get list i ≡ Some a
    → slice_get list j ≡ Some a → i ≡ j
one-index a [] l i j e f = absurd (cc)
one-index a (b ∷ list) l zero zero e f = refl
one-index a (b ∷ list) l zero (suc j) e f =
    let s : b ≡ a = cc in
    let q : same_address a b ≡ 1 = subst (λ z. same_address a z ≡ 1) (sym s) (same-self a) in
    let r = get-times a list j f in
    absurd (omega arith)
one-index a (b ∷ list) l (suc i) zero e f =
    let s : b ≡ a = cc in
    let q : same_address a b ≡ 1 = subst (λ z. same_address a z ≡ 1) (sym s) (same-self a) in
    let r = get-times a list i e in
    absurd (omega arith)
one-index a (b ∷ list) l (suc i) (suc j) e f = ap suc (one-index a list (omega arith) i j e f)

put-times : (c : Bool) (a b : Address) (list : List Address) (n : ℕ) → times_in a list ≤ n → times_in a (put c b list) ≤ same_address a b + n
put-times true a b list n l = omega arith
put-times false a b list n l = omega arith

-- the offset comes before another one
abbrev Earlier : Option ℕ → ℕ → Type 0
Earlier None o = Unit {0}
Earlier (Some k) o = k < o

earlier-more : (k : Option ℕ) (o : ℕ) → Earlier k o → Earlier k (suc o)
earlier-more None o e = tt
earlier-more (Some k) o e = omega arith

not-same : (k : Option ℕ) (o : ℕ) → Earlier k o → same_offset k (Some o) ≡ 0
not-same None o e = refl
not-same (Some k) o e = one-other k o (λ s. omega arith)

module _ {A : Type 0} where
  met-append : (a : Address) (ts ss : List (Position A)) → met a (ts ++ ss) ≡ met a ts + met a ss
  met-append a [] ss = omega arith
  met-append a (mark b item ∷ ts) ss = omega (arith, met-append a ts ss)
  met-append a (over ∷ ts) ss = met-append a ts ss

  pub kept-times : (keep : Address → Option A → Bool) (a : Address) (ts : List (Position A)) → times_in a (kept keep ts) ≤ met a ts
  kept-times keep a [] = omega arith
  kept-times keep a (mark b item ∷ ts) = put-times (keep b item) a b (kept keep ts) (met a ts) (kept-times keep a ts)
  kept-times keep a (over ∷ ts) = kept-times keep a ts

  -- a row has each address of its node once, and none before its first
  module _ {X : Type 0} (key : X → A) (below : X → List (Position A)) (a : Address) (id : ℕ) where
    node_positions-free : (o : ℕ) (xs : List X) → Earlier a.offset o → met a (positions_from key below id o xs) ≡ total (λ x. met a (below x)) xs
    node_positions-free o [] e =
        let z : same_address a (address_at id o) ≡ 0 = ap (both (one a.id id)) (not-same a.offset o e) ∙ both-zero (one a.id id) in
        omega arith
    node_positions-free o (x ∷ xs) e =
        let z : same_address a (address_at id o) ≡ 0 = ap (both (one a.id id)) (not-same a.offset o e) ∙ both-zero (one a.id id) in
        let q = node_positions-free (suc o) xs (earlier-more a.offset o e) in
        let r = met-append a (below x) (positions_from key below id (suc o) xs) in
        omega arith

    here-low : (o : Option ℕ) → same_address a (record { id = id; offset = o }) ≤ one a.id id
    here-low o = both-low (one a.id id) (same_offset a.offset o) (same-low a.offset o)

    node_positions-once : (k : Option ℕ) → a.offset ≡ k → (o : ℕ) (xs : List X)
        → met a (positions_from key below id o xs) ≤ one a.id id + total (λ x. met a (below x)) xs
    node_positions-once None e o xs = let q = node_positions-free o xs (subst (λ z. Earlier z o) (sym e) tt) in omega arith
    node_positions-once (Some k) e o [] = let q = here-low (Some o) in omega arith
    node_positions-once (Some k) e o (x ∷ xs) =
        let r = met-append a (below x) (positions_from key below id (suc o) xs) in
        elim (same-or k o) [
          | inl s ↦
              let q = node_positions-free (suc o) xs (subst (λ z. Earlier z (suc o)) (sym e) (let l : k < suc o = omega arith in l)) in
              let h = here-low (Some o) in
              omega arith
          | inr s ↦
              let n : same_offset a.offset (Some o) ≡ 0 = ap (λ z. same_offset z (Some o)) e ∙ one-other k o s in
              let z : same_address a (address_at id o) ≡ 0 = ap (both (one a.id id)) n ∙ both-zero (one a.id id) in
              let q = node_positions-once (Some k) e (suc o) xs in
              omega arith
        ]

    -- the same with -1
    whole-once : (k : Option ℕ) → a.offset ≡ k → (xs : List X)
        → same_address a (address_before id) + met a (positions_from key below id 0 xs) ≤ one a.id id + total (λ x. met a (below x)) xs
    whole-once None e xs =
        let q = node_positions-free 0 xs (subst (λ z. Earlier z 0) (sym e) tt) in
        let h = here-low None in
        omega arith
    whole-once (Some k) e xs =
        let n : same_offset a.offset None ≡ 0 = ap (λ z. same_offset z None) e in
        let z : same_address a (address_before id) ≡ 0 = ap (both (one a.id id)) n ∙ both-zero (one a.id id) in
        let q = node_positions-once (Some k) e 0 xs in
        omega arith

total-none : {X : Type 0} (xs : List X) → total (λ (x : X). 0) xs ≡ 0
total-none [] = refl
total-none (x ∷ xs) = omega (arith, total-none xs)

total-less : {X : Type 0} (f g : X → ℕ) → ((x : X) → f x ≤ g x) → (xs : List X) → total f xs ≤ total g xs
total-less f g l [] = omega arith
total-less f g l (x ∷ xs) = omega (arith, l x, total-less f g l xs)

module _ (A : Type 0) (a : Address) where
  pub positions-met : (h : ℕ) (t : Subtree A h) → met a (positions A h t) ≤ times_under A h a.id t
  positions-met zero t =
      let q = whole-once {A = A} {X = A} (λ x. x) (λ x. []) a t.0 a.offset refl t.1 in
      let z = total-none t.1 in
      omega arith
  positions-met (suc h) t =
      let q = whole-once (branch_key A h) (branch_positions A h) a t.0 a.offset refl t.2 in
      let f = positions-met h t.1 in
      let b = total-less (λ (b : A × Subtree A h). met a (positions A h b.1)) (λ b. times_under A h a.id b.1) (λ b. positions-met h b.1) t.2 in
      let r = met-append a (positions A h t.1) (positions_from (branch_key A h) (branch_positions A h) t.0 0 t.2) in
      omega arith

  -- so an address is kept once in a tree that has each number once
  pub kept-once : (keep : Address → Option A → Bool) (h : ℕ) (t : Subtree A h) → times_under A h a.id t ≤ 1
      → (i j : ℕ) → slice_get (kept keep (positions A h t)) i ≡ Some a → slice_get (kept keep (positions A h t)) j ≡ Some a → i ≡ j
  kept-once keep h t l i j e f =
      one-index a (kept keep (positions A h t))
      (let q = kept-times keep a (positions A h t) in let r = positions-met h t in omega arith) i j e f
