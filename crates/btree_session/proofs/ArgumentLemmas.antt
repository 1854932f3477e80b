-- What arguments ask for, by the comparisons of `setup` and `limit_of`.
use Rattle.btree_session.proofs.Common.{◌≡◌, ◌∙◌, ◌<◌, ◌≤◌, ◌-◌, [], ◌∷◌, List, ℕ, Bool, true, false, length, take, drop, get_or, ap, subst, sym, arith, take_all, IsNumber}
use Rattle.std.proofs.Common.{codes, Bor}
use Rattle.std.specs.Cmp.Lexicographic.{pointwise, bytes_decides}
use Rattle.std.proofs.Math.Dec.{eqb}
use Rattle.btree_session.specs.Arguments.{Asks, AsksLimit, texts}

abbrev Words : Type 0
Words = List (Bor (List ℕ))

other_words : codes "table" ≡ codes "limit" → ⊥
other_words same = let first = ap (λ text. get_or text 0 0) same in absurd (omega arith)

-- all words behind the first
abbrev behind : Words → Words
behind words = take (length words - 1) (drop 1 words)

behind-first : (word : Bor (List ℕ)) (words : Words) → behind (word ∷ words) ≡ words
behind-first word words = take_all (length (word ∷ words) - 1) words (omega arith)

module _ (words : Words) (d : Bor (List ℕ)) where
  module _ (some : 1 ≤ length words) (table : true ≡ pointwise eqb (get_or words 0 d).now (codes "table")) where
    pub table-asked : (limit : ℕ) → AsksLimit limit (texts (behind words)) → Asks true limit (texts words)
    table-asked limit asks = by words some table asks
      where
        by : (words : Words) → 1 ≤ length words → true ≡ pointwise eqb (get_or words 0 d).now (codes "table") → AsksLimit limit (texts (behind words)) → Asks true limit (texts words)
        by [] some table asks = absurd (omega arith)
        by (word ∷ words) some table asks =
            ((bytes_decides word.now (codes "table")).0 (sym table), subst (λ ws. AsksLimit limit (texts ws)) (behind-first word words) asks)

    pub table-alone : ((limit : ℕ) → AsksLimit limit (texts (behind words)) → ⊥) → (table : Bool) (limit : ℕ) → Asks table limit (texts words) → ⊥
    table-alone none = by words some table none
      where
        limited : (word : Bor (List ℕ)) (words : Words) (limit : ℕ) → word.now ≡ codes "table" → AsksLimit limit (texts (word ∷ words)) → ⊥
        limited word [] limit is asks = asks
        limited word (digits ∷ []) limit is asks = other_words (sym is ∙ asks.0)
        limited word (digits ∷ other ∷ words) limit is asks = asks

        by : (words : Words) → 1 ≤ length words → true ≡ pointwise eqb (get_or words 0 d).now (codes "table") → ((limit : ℕ) → AsksLimit limit (texts (behind words)) → ⊥)
            → (table : Bool) (limit : ℕ) → Asks table limit (texts words) → ⊥
        by [] some table none asked limit asks = absurd (omega arith)
        by (word ∷ words) some table none false limit asks = limited word words limit ((bytes_decides word.now (codes "table")).0 (sym table)) asks
        by (word ∷ words) some table none true limit asks = none limit (subst (λ ws. AsksLimit limit (texts ws)) (sym (behind-first word words)) asks.1)

  pub no-table : false ≡ pointwise eqb (get_or words 0 d).now (codes "table") → ((limit : ℕ) → AsksLimit limit (texts words) → ⊥)
      → (table : Bool) (limit : ℕ) → Asks table limit (texts words) → ⊥
  no-table other none false limit asks = none limit asks
  no-table other none true limit asks = by words other asks
    where
      by : (words : Words) → false ≡ pointwise eqb (get_or words 0 d).now (codes "table") → Asks true limit (texts words) → ⊥
      by [] other asks = asks
      by (word ∷ words) other asks = absurd (let same = (bytes_decides word.now (codes "table")).1 asks.0 in cc)

  pub limit-asked : (limit : ℕ) → 2 ≤ length words → length words < 3 → true ≡ pointwise eqb (get_or words 0 d).now (codes "limit") → IsNumber limit (get_or words 1 d).now
      → AsksLimit limit (texts words)
  limit-asked limit low high same number = by words low high same number
    where
      by : (words : Words) → 2 ≤ length words → length words < 3 → true ≡ pointwise eqb (get_or words 0 d).now (codes "limit") → IsNumber limit (get_or words 1 d).now
          → AsksLimit limit (texts words)
      by [] low high same number = absurd (omega arith)
      by (word ∷ []) low high same number = absurd (omega arith)
      by (word ∷ digits ∷ []) low high same number = ((bytes_decides word.now (codes "limit")).0 (sym same), number)
      by (word ∷ digits ∷ other ∷ words) low high same number = absurd (omega arith)
