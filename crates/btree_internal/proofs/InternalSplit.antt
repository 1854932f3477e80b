-- The parts of an internal node that is split.
use Rattle.btree_internal.proofs.Common.{◌≡◌, ℕ, List, ◌∷◌, ◌++◌, Option, length, map, sym, ◌∙◌, ap, length-map, map-append, internal, Branch, Internal, branch_pair, internal_view}
use Rattle.btree_view.specs.Edits.{IsSplit}
use Rattle.btree_internal.proofs.BranchLemmas.{branches_are}

module _ {K V : Type 0} where
  pub IsSplit-internal : (node : Internal K V) (parent : Option ℕ) (first : ℕ) (bs : List (Branch K V)) → record { parent = parent; first = first; branches = map branch_pair bs } ≡ node → (rest tail : List (Branch K V)) (b : Branch K V) → bs ≡ rest ++ b ∷ tail → length rest ≡ 3 → IsSplit (internal_view node) b.item (internal parent first (map branch_pair rest)) (internal parent b.child (map branch_pair tail))
  IsSplit-internal node parent first bs is rest tail b parts front =
      let same = ap (λ n. n.parent) is in
      let begins = ap (λ n. n.first) is in (
        map branch_pair rest,
        b.child,
        map branch_pair tail,
        sym (branches_are node parent first bs is) ∙ ap (map branch_pair) parts ∙ map-append branch_pair rest (b ∷ tail),
        length-map rest branch_pair ∙ front,
        λ j. internal (same j) (begins j) (map branch_pair rest),
        ap (λ p. internal p b.child (map branch_pair tail)) same,
      )
