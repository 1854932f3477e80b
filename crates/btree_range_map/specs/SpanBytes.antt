-- A span as bytes: those of the pair of its end and its value.
use Rattle.std.specs.Prelude.{◌≡◌, ◌++◌, ℕ, List, Some, refl}
use Rattle.std.specs.Int.{w64}
use Rattle.btree_spelled.specs.Mapped.{mapped_bytes, mapped_read}
use Rattle.btree_spelled.specs.MappedLaws.{mapped-again, mapped-takes}
use Rattle.btree_spelled.specs.NumberLaws.{pair-again, pair-takes, u64-takes}
use Rattle.btree_spelled.specs.Numbers.{number_bytes, number_read}
use Rattle.btree_spelled.specs.Pairs.{pair_bytes, pair_read}
use Rattle.btree_spelled.specs.Spelled.{Read, Takes}
use Rattle.btree_range_map.specs.declared.span.Span.{Span}

module _ {V : Type 0} where
  abbrev fields : Span V → ℕ × V
  fields span = (span.end, span.value)

  abbrev of_fields : ℕ × V → Span V
  of_fields x = record { end = x.0; value = x.1 }

  -- the bytes of a span
  abbrev pub span_bytes : (V → List ℕ) → Span V → List ℕ
  span_bytes spell = mapped_bytes fields (pair_bytes (number_bytes w64) spell)

  -- the span that bytes begin with
  abbrev pub span_read : Read V → Read (Span V)
  span_read read = mapped_read of_fields (pair_read (number_read w64) read)

  module _ (spell : V → List ℕ) (read : Read V) where
    -- what is read is spelled so
    pub span-takes : Takes spell read → Takes (span_bytes spell) (span_read read)
    span-takes takes = mapped-takes fields of_fields (pair_bytes (number_bytes w64) spell) (pair_read (number_read w64) read) (λ x. refl) (pair-takes (number_bytes w64) spell (number_read w64) read u64-takes takes)

    -- and what is written is read
    pub span-again : (span : Span V) → ((rest : List ℕ) → number_read w64 (number_bytes w64 span.end ++ rest) ≡ Some (span.end, rest))
        → ((rest : List ℕ) → read (spell span.value ++ rest) ≡ Some (span.value, rest)) → (rest : List ℕ) → span_read read (span_bytes spell span ++ rest) ≡ Some (span, rest)
    span-again span end value rest =
        mapped-again of_fields (pair_read (number_read w64) read) (span_bytes spell span ++ rest) rest (fields span)
        (pair-again (number_bytes w64) spell (number_read w64) read (fields span) end value rest)

-- what was written is read
pub ruleset spans = (span-again)
