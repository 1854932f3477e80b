-- Nodes that are split alike: they need the same nodes, and have the same levels above them.
use Rattle.btree_raw.proofs.Common.{◌≡◌, ◌<◌, ◌≤◌, ◌∙◌, ℕ, zero, suc, inl, inr, if◌then◌else◌, Bool, Option, Some, None, refl, sym, ap, arith, option_map, nat_lt, NodeMap, View, most_of, parent_of, size_of, levels_above, split_need, times_used, less-no, less-or, used-mapped, split_key}
use Rattle.std.proofs.lemmas.Option.{same_Some}
use Rattle.btree_laws.specs.Need.{levels_over, levels_up, need_of_split, split_need_in}
use Rattle.btree_laws.proofs.Paths.Used.{less-yes}
use Rattle.btree_raw.specs.Steps.{AreSplitAlike}

-- one comparison stands for the other
pub low-alike : (m n p q : ℕ) → nat_lt m n ≡ nat_lt p q → p < q → m < n
low-alike m n p q e low = elim (less-or m n) [
  | inl less ↦ less
  | inr other ↦
      let full : n ≤ m = elim other [ inl same ↦ omega arith | inr more ↦ omega arith ] in
      let a = less-no m n (suc zero) zero full in
      let b = less-yes p q (suc zero) zero low in
      let f : Bool → ℕ = λ b. if b then suc zero else zero in
      let c : f (nat_lt m n) ≡ f (nat_lt p q) = ap f e in
      absurd (omega arith)
]

pub full-alike : (m n p q : ℕ) → nat_lt m n ≡ nat_lt p q → q ≤ p → n ≤ m
full-alike m n p q e full = elim (less-or m n) [
  | inl less ↦
      let a = less-yes m n (suc zero) zero less in
      let b = less-no p q (suc zero) zero full in
      let f : Bool → ℕ = λ b. if b then suc zero else zero in
      let c : f (nat_lt m n) ≡ f (nat_lt p q) = ap f e in
      absurd (omega arith)
  | inr other ↦ elim other [ inl same ↦ omega arith | inr more ↦ omega arith ]
]

module _ {A : Type 0} where
  pub record KeyAt (o : Option (View A)) (k : Option ℕ × Bool) : Type 0 where
    pub node : View A
    pub here : o ≡ Some node
    pub key : split_key node ≡ k

  pub key-at : (o : Option (View A)) (k : Option ℕ × Bool) → option_map split_key o ≡ Some k → KeyAt o k
  key-at None k e = absurd (cc)
  key-at (Some node) k e = record { node = node; here = refl; key = same_Some (split_key node) k e }

  need-in : (f g : ℕ → ℕ) → ((n : ℕ) → f n ≡ g n) → (o p : Option (View A)) → option_map split_key p ≡ option_map split_key o
      → split_need_in f o ≡ split_need_in g p
  need-in f g same None None e = refl
  need-in f g same None (Some w) e = absurd (cc)
  need-in f g same (Some v) None e = absurd (cc)
  need-in f g same (Some v) (Some w) e =
      let k : split_key w ≡ split_key v = same_Some (split_key w) (split_key v) e in
      let up : parent_of w ≡ parent_of v = ap (λ (k : Option ℕ × Bool). k.0) k in
      let room : nat_lt (size_of w) (most_of w) ≡ nat_lt (size_of v) (most_of v) = ap (λ (k : Option ℕ × Bool). k.1) k in
      ap (λ (b : Bool). if b then 0 else need_of_split f (parent_of v)) (sym room)
      ∙ ap (λ n. if nat_lt (size_of w) (most_of w) then 0 else n) (of (parent_of v) ∙ ap (need_of_split g) (sym up))
    where
      of : (p : Option ℕ) → need_of_split f p ≡ need_of_split g p
      of None = refl
      of (Some p) = ap suc (same p)

  levels-in : (f g : ℕ → ℕ) → ((n : ℕ) → f n ≡ g n) → (o p : Option (View A)) → option_map split_key p ≡ option_map split_key o
      → levels_over f o ≡ levels_over g p
  levels-in f g same None None e = refl
  levels-in f g same None (Some w) e = absurd (cc)
  levels-in f g same (Some v) None e = absurd (cc)
  levels-in f g same (Some v) (Some w) e =
      let k : split_key w ≡ split_key v = same_Some (split_key w) (split_key v) e in
      let up : parent_of w ≡ parent_of v = ap (λ (k : Option ℕ × Bool). k.0) k in
      of (parent_of v) ∙ ap (levels_up g) (sym up)
    where
      of : (p : Option ℕ) → levels_up f p ≡ levels_up g p
      of None = refl
      of (Some p) = ap suc (same p)

  module _ (node_at other : NodeMap A) (alike : AreSplitAlike node_at other) where
    pub need-alike : (most id : ℕ) → split_need node_at most id ≡ split_need other most id
    need-alike zero id = refl
    need-alike (suc most) id =
        need-in (split_need node_at most) (split_need other most) (λ n. need-alike most n) (node_at id) (other id) (alike id)

    pub levels-alike : (most id : ℕ) → levels_above node_at most id ≡ levels_above other most id
    levels-alike zero id = refl
    levels-alike (suc most) id =
        levels-in (levels_above node_at most) (levels_above other most) (λ n. levels-alike most n) (node_at id) (other id)
        (alike id)

    pub used-alike : (n : ℕ) → times_used (other n) ≡ times_used (node_at n)
    used-alike n = sym (used-mapped split_key (other n)) ∙ ap times_used (alike n) ∙ used-mapped split_key (node_at n)
