-- Raw content has at most one first fault, and none if no check fails.
use Rattle.std.proofs.Common.{◌≡◌, ◌∙◌, ◌<◌, ◌∷◌, [], ℕ, zero, suc, inl, inr, List, Option, Some, None, Result, Ok, Err, refl, sym, ap, subst, arith}
use Rattle.std.specs.Prelude.{◌⊎◌, ⊤}
use Rattle.std.specs.declared.cmp.Ordering.{Ordering}
use Rattle.btree_item.specs.declared.fault.Fault.{Fault}
use Rattle.btree_view.specs.Checks.{FirstFailed}
use Rattle.btree_view.specs.View.{NodeMap}
use Rattle.btree_valid.specs.Positions.{HasNoFaultAmong, IsFirstFaultAmong, IsLeafDepth, IsMetBelow, IsMetUnder, IsVerdictAt, Leads, PassesAt, Precedes, Spotted, position_faults, root_spot, step_down}

-- of two positions one comes before the other, or they are the same
pub one-first : (way other : List ℕ) → Precedes way other ⊎ (way ≡ other) ⊎ Precedes other way
one-first [] [] = inr (inl refl)
one-first [] (j ∷ other) = inl tt
one-first (i ∷ way) [] = inr (inr tt)
one-first (i ∷ way) (j ∷ other) = by (one-first way other) (lower i j) where
  lower : (i j : ℕ) → (i < j) ⊎ (i ≡ j) ⊎ (j < i)
  lower zero zero = inr (inl refl)
  lower zero (suc j) = inl (omega arith)
  lower (suc i) zero = inr (inr (omega arith))
  lower (suc i) (suc j) = elim (lower i j) [
    | inl low ↦ inl (omega arith)
    | inr rest ↦ elim rest [ inl same ↦ inr (inl (ap suc same)) | inr high ↦ inr (inr (omega arith)) ]
  ]

  by : Precedes way other ⊎ (way ≡ other) ⊎ Precedes other way → (i < j) ⊎ (i ≡ j) ⊎ (j < i) → Precedes (i ∷ way) (j ∷ other) ⊎ (i ∷ way ≡ j ∷ other) ⊎ Precedes (j ∷ other) (i ∷ way)
  by below (inl low) = inl (inl low)
  by below (inr (inr high)) = inr (inr (inl high))
  by below (inr (inl same)) = elim below [
    | inl first ↦ inl (inr (same, first))
    | inr rest ↦ elim rest [
      | inl tail ↦ inr (inl (ap (λ n. n ∷ way) same ∙ ap (λ w. j ∷ w) tail))
      | inr last ↦ inr (inr (inr (sym same, last)))
    ]
  ]

-- checks that are done in order have one answer
pub one-answer : (Passes : Fault → Type 0) (faults : List Fault) (a b : Result ⊤ Fault) → FirstFailed Passes faults a → FirstFailed Passes faults b → a ≡ b
one-answer Passes [] a b f g = f ∙ sym g
one-answer Passes (fault ∷ later) a b (inl f) (inl g) = f.1 ∙ sym g.1
one-answer Passes (fault ∷ later) a b (inl f) (inr g) = absurd (f.0 g.0)
one-answer Passes (fault ∷ later) a b (inr f) (inl g) = absurd (g.0 f.0)
one-answer Passes (fault ∷ later) a b (inr f) (inr g) = one-answer Passes later a b f.1 g.1

pub ok-or-err : (fault : Fault) (ok err : Result ⊤ Fault) → ok ≡ Ok tt → err ≡ Err fault → ok ≡ err → ⊥
ok-or-err fault ok err e f same = cc

module _ {K V : Type 0} (node_at : NodeMap (K × V)) where
  -- a position leads to one number
  pub leads-once : (way : List ℕ) (from a b : Spotted K) → Leads node_at from way a → Leads node_at from way b → a ≡ b
  leads-once [] from a b f g = sym f ∙ g
  leads-once (i ∷ way) from a b f g =
      let node : f.0 ≡ g.0 = (let x = f.2 in let y = g.2 in cc) in
      let child : f.1 ≡ g.1 = (let x = f.3 in let y = g.3 in cc) in
      let same : step_down from f.0 i f.1 ≡ step_down from g.0 i g.1 = ap (λ n. step_down from n i f.1) node ∙ ap (λ c. step_down from g.0 i c) child in
      leads-once way (step_down from g.0 i g.1) a b (subst (λ s. Leads node_at s way a) same f.4) g.4

  pub met-once : (start : Spotted K) (way : List ℕ) (a b : Spotted K) → IsMetBelow node_at start way a → IsMetBelow node_at start way b → a ≡ b
  met-once start way a b f g = leads-once way start a b f.leads g.leads

  pub met-once-under : (root : Option ℕ) (way : List ℕ) (a b : Spotted K) → IsMetUnder node_at root way a → IsMetUnder node_at root way b → a ≡ b
  met-once-under None way a b f g = absurd f
  met-once-under (Some root) way a b f g = met-once (root_spot root) way a b f g

  module _ (IsMet : (way : List ℕ) (at : Spotted K) → Type 0) (once : (way : List ℕ) (a b : Spotted K) → IsMet way a → IsMet way b → a ≡ b) where
    -- there is at most one first leaf
    pub leaf-depth-once : (m n : ℕ) → IsLeafDepth node_at IsMet m → IsLeafDepth node_at IsMet n → m ≡ n
    leaf-depth-once m n f g = elim (one-first f.0 g.0) [
      | inl first ↦ absurd (g.2.before f.0 f.1 first f.2.met f.2.leaf)
      | inr rest ↦ elim rest [
        | inl same ↦
            let at : f.1 ≡ g.1 = once g.0 f.1 g.1 (subst (λ w. IsMet w f.1) same f.2.met) g.2.met in
            sym f.3 ∙ (ap (λ s. s.depth) at ∙ g.3)
        | inr last ↦ absurd (f.2.before g.0 g.1 last g.2.met g.2.leaf)
      ]
    ]

    module _ (cmp : K → K → Ordering) (IsFirstDepth : ℕ → Type 0) where
      abbrev Verdict : Spotted K → Result ⊤ Fault → Type 0
      Verdict = IsVerdictAt cmp node_at IsFirstDepth

      one-verdict : (at : Spotted K) (a b : Result ⊤ Fault) → Verdict at a → Verdict at b → a ≡ b
      one-verdict at a b = one-answer (PassesAt cmp node_at IsFirstDepth at) position_faults a b

      -- at most one fault is first
      pub fault-once : (a b : Fault) → IsFirstFaultAmong cmp node_at IsFirstDepth IsMet a → IsFirstFaultAmong cmp node_at IsFirstDepth IsMet b → a ≡ b
      fault-once a b f g = elim (one-first f.way g.way) [
        | inl first ↦ absurd (ok-or-err a (Ok tt) (Err a) refl refl (one-verdict f.at (Ok tt) (Err a) (g.before f.way f.at first f.met) f.fails))
        | inr rest ↦ elim rest [
          | inl same ↦
              let at : f.at ≡ g.at = once g.way f.at g.at (subst (λ w. IsMet w f.at) same f.met) g.met in
              let e = one-verdict g.at (Err a) (Err b) (subst (λ s. Verdict s (Err a)) at f.fails) g.fails in
              cc
          | inr last ↦ absurd (ok-or-err b (Ok tt) (Err b) refl refl (one-verdict g.at (Ok tt) (Err b) (f.before g.way g.at last g.met) g.fails))
        ]
      ]

      -- and none if no check fails
      pub no-fault : HasNoFaultAmong cmp node_at IsFirstDepth IsMet → (fault : Fault) → IsFirstFaultAmong cmp node_at IsFirstDepth IsMet fault → ⊥
      no-fault none fault f = ok-or-err fault (Ok tt) (Err fault) refl refl (one-verdict f.at (Ok tt) (Err fault) (none f.way f.at f.met) f.fails)
