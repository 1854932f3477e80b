-- A tree has one strain: the sum does not depend on the list in which the numbers of the nodes are given.
use Rattle.btree_laws.proofs.Common.{◌≡◌, ◌∙◌, ◌<◌, ◌++◌, ◌∷◌, [], ℕ, inl, inr, List, refl, sym, ap, arith, NodeMap, one, times_listed, total}
use Rattle.btree_laws.specs.Strain.{IsStrain, strain_in}
use Rattle.std.specs.Prelude.{Option, Some, None}
use Rattle.btree_laws.proofs.Paths.Frames.{one-other, one-self, total-append}
use Rattle.btree_laws.proofs.Trees.Numbers.{listed-append, pick, same-or}

found-is : (x m : ℕ) → 0 < one x m → x ≡ m
found-is x m p = elim (same-or x m) [
  | inl same ↦ same
  | inr ne ↦ let z = one-other x m ne in absurd (omega arith)
]

-- lists that have the same numbers, each as often, have the same sums
pub same-total : (f : ℕ → ℕ) (ns ms : List ℕ) → ((n : ℕ) → times_listed n ns ≡ times_listed n ms) → total f ns ≡ total f ms
same-total f [] [] each = refl
same-total f [] (m ∷ ms) each = let e = each m in let s = one-self m in absurd (omega arith)
same-total f (x ∷ ns) ms each =
    let here = each x in
    let self = one-self x in
    let p = pick (λ i. one x i) ms (omega arith) in
    let same : x ≡ p.found = found-is x p.found p.some in
    let parts : ms ≡ p.front ++ x ∷ p.back = p.is ∙ ap (λ m. p.front ++ m ∷ p.back) (sym same) in
    let rest = same-total f ns (p.front ++ p.back) (λ n.
    let e = each n in
    let a = listed-append n p.front (x ∷ p.back) in
    let b = listed-append n p.front p.back in
    let c = ap (times_listed n) parts in
    omega arith) in
    let d = total-append f p.front (x ∷ p.back) in
    let e = total-append f p.front p.back in
    let g = ap (total f) parts in
    omega arith

-- a tree has one strain
pub one-strain : {A : Type 0} (node_at : NodeMap A) (root : Option ℕ) (s t : ℕ) → IsStrain node_at root s → IsStrain node_at root t → s ≡ t
one-strain node_at None s t a b = a ∙ sym b
one-strain node_at (Some root) s t a b =
    a.2 ∙ (same-total (λ id. strain_in root id (node_at id)) a.0 b.0 (λ n. a.1 n ∙ sym (b.1 n)) ∙ sym b.2)
