-- What a reader may rest on where no check at a position fails, whatever the length is and whatever else the store holds.
use Rattle.btree_valid.proofs.Common.{◌≡◌, ◌∷◌, [], ℕ, inl, inr, List, Option, Some, None, Result, Err, refl, sym, subst, arith, IsTotalOrder, AllByRecursion, ⊤, Ordering, Content, Fault, Node, FirstFailed, views, IsLeafDepth, PassesAt, Spotted, root_spot, numbers_met}
use Rattle.std.specs.Prelude.{◌↔◌}
use Rattle.btree_valid.proofs.ListedLaws.{leads-depth}
use Rattle.btree_valid.specs.PositionLaws.{met-once-under, no-fault}
use Rattle.btree_valid.specs.Positions.{IsMetUnder}
use Rattle.btree_valid.specs.Reading.{IsReadable, PassesPositions}
use Rattle.btree_valid.specs.Verdicts.{HasNoFaultUnder, IsVerdict, PassesEnd, end_faults}
use Rattle.btree_valid.proofs.ReadLemmas.{no-position-fault, none-readable, root-readable}
use Rattle.btree_valid.proofs.WayLemmas.{same-way}

passes-end : (P : Fault → Type 0) (faults : List Fault) (answer : Result ⊤ Fault) → AllByRecursion (λ fault. PassesPositions (Err fault)) faults → FirstFailed P faults answer → PassesPositions answer
passes-end P [] answer all is = subst PassesPositions (sym is) tt
passes-end P (fault ∷ later) answer all (inl failed) = subst PassesPositions (sym failed.1) all.0
passes-end P (fault ∷ later) answer all (inr passed) = passes-end P later answer all.1 passed.1

module _ {K V : Type 0} (cmp : K → K → Ordering) (nodes : Content (Node K V)) where
  -- no check at a position fails exactly if `validate` answers Ok, or a fault of the whole tree
  pub no-fault-after : (root : Option ℕ) (len limit : ℕ) (answer : Result ⊤ Fault) → IsVerdict cmp nodes root len limit answer → PassesPositions answer ↔ HasNoFaultUnder cmp nodes root
  no-fault-after root len limit answer (inl f) = (
    λ passes. absurd (no-position-fault f.0 (subst PassesPositions f.2 passes) (PassesAt cmp (views nodes) (IsLeafDepth (views nodes) (IsMetUnder (views nodes) root)) f.1.at) f.1.fails),
    λ none. absurd (no-fault (views nodes) (IsMetUnder (views nodes) root) (met-once-under (views nodes) root) cmp (IsLeafDepth (views nodes) (IsMetUnder (views nodes) root)) none f.0 f.1),
  )
  no-fault-after root len limit answer (inr f) = (λ passes. f.0, λ none. passes-end (PassesEnd cmp nodes root len limit) end_faults answer (tt, (tt, (tt, tt))) f.1)

  module _ (laws : IsTotalOrder cmp) where
    -- where no check at a position fails, no number is met twice, and the items met are the list
    pub readable : (root : Option ℕ) → HasNoFaultUnder cmp nodes root → IsReadable cmp nodes root
    readable None none = none-readable cmp laws nodes
    readable (Some root) none = root-readable cmp laws nodes root none

    -- so the content is readable where `validate` answers Ok, or a fault of the whole tree
    pub readable-after : (root : Option ℕ) (len limit : ℕ) (answer : Result ⊤ Fault) → PassesPositions answer → IsVerdict cmp nodes root len limit answer → IsReadable cmp nodes root
    readable-after root len limit answer passes verdict = readable root ((no-fault-after root len limit answer verdict).0 passes)

  -- there, two ways to one number are the same way
  pub one-way : (root : Option ℕ) (way other : List ℕ) (a b : Spotted K) → IsReadable cmp nodes root → IsMetUnder (views nodes) root way a → IsMetUnder (views nodes) root other b
      → a.id ≡ b.id → way ≡ other
  unfolding numbers_met
  one-way None way other a b r f g same = absurd f
  one-way (Some root) way other a b r f g same =
      let d = leads-depth (views nodes) (root_spot root) way a f.leads in
      let e = leads-depth (views nodes) (root_spot root) other b g.leads in
      let low = f.low in
      let high = g.low in
      same-way (views nodes) b.id 32 (root_spot root) way other a b (omega arith) (omega arith) f.leads g.leads same refl (r.once b.id)
