-- Numbers claimed before a change: the last of them, and a tree in whose store they are claimed.
use Rattle.btree_laws.proofs.Common.{◌≡◌, ◌<◌, ◌++◌, ◌∷◌, [], ◌∙◌, ◌+◌, ℕ, suc, List, length, ap, arith, length-append, NodeMap, one, times_listed, Subtree, id_of, times_under, Claims, Path, parent_above, times_above, IsFocus}
use Rattle.btree_laws.proofs.Paths.Frames.{above-same, holds-same}
use Rattle.btree_laws.proofs.Trees.Numbers.{listed-append, used-low}

-- one number more among the spare ones is listed once more
pub push-spare : (spare rest : List ℕ) (j : ℕ) → spare ≡ rest ++ j ∷ []
    → ((n : ℕ) → times_listed n spare ≡ one n j + times_listed n rest) × (length spare ≡ suc (length rest))
push-spare spare rest j is = (
  (λ n. ap (times_listed n) is ∙ (let q = listed-append n rest (j ∷ []) in omega arith)),
  ap length is ∙ (let q = length-append rest (j ∷ []) in omega arith),
)

module _ (A : Type 0) where
  -- a tree stays when numbers are claimed
  pub claimed : (node_at new : NodeMap A) (spare : List ℕ) (root : ℕ) (xs : List A) (h : ℕ) (c : Path A h) (t : Subtree A h)
      → Claims node_at new spare
      → IsFocus A node_at [] root xs h c t → IsFocus A new spare root xs h c t
  claimed node_at new spare root xs h c t cl w =
      let keep : (n : ℕ) → 0 < times_above n c + times_under A h n t → new n ≡ node_at n = λ n p.
      let o = w.once n in let k = cl.counted n in let b = used-low (new n) in cl.kept n (omega arith) in
      record {
        above = above-same A node_at new h c (id_of A h t) (λ n p. keep n (omega arith)) w.above;
        inner = holds-same A node_at new h (parent_above c) t (λ n p. keep n (omega arith)) w.inner;
        once = λ n. let o = w.once n in let k = cl.counted n in omega arith;
        filled = w.filled;
        below = w.below;
        list = w.list;
        root_is = w.root_is;
      }
