-- How maps compare, by their lists of pairs, and what they feed to a hasher. Two maps whose pairs are equal have equal
-- hashes, whatever their trees and stores (`writes-same`).
use Rattle.std.specs.Prelude.{◌≡◌, Bool, true, false, ◌&&◌, List, [], ◌∷◌, ◌++◌, Option}
use Rattle.std.specs.Cmp.Lexicographic.{pointwise}
use Rattle.std.specs.Hash.{Alike, HashWrites}
use Rattle.std.specs.List.{flat_map}
use Rattle.std.specs.Ordering.{ordering_then, partial_ordering_then}
use Rattle.std.specs.declared.cmp.Ordering.{Ordering}
use Rattle.std.proofs.Common.{refl, sym}
use mathlib.Core.Bool.{true≢false}

module _ {K V : Type 0} where
  -- keys and values are equal
  abbrev pub pair_eq : (K → K → Bool) → (V → V → Bool) → K × V → K × V → Bool
  pair_eq key_eq value_eq p q = key_eq p.0 q.0 && value_eq p.1 q.1

  -- by key, and then by value
  abbrev pub pair_cmp : (K → K → Ordering) → (V → V → Ordering) → K × V → K × V → Ordering
  pair_cmp key_cmp value_cmp p q = ordering_then (key_cmp p.0 q.0) (value_cmp p.1 q.1)

  abbrev pub pair_partial_cmp : (K → K → Option Ordering) → (V → V → Option Ordering) → K × V → K × V → Option Ordering
  pair_partial_cmp key_cmp value_cmp p q = partial_ordering_then (key_cmp p.0 q.0) (value_cmp p.1 q.1)

  -- each key and each value, in order, without a length
  abbrev pub hash_writes : (K → HashWrites) → (V → HashWrites) → List (K × V) → HashWrites
  hash_writes key_writes value_writes xs = flat_map (λ p. key_writes p.0 ++ value_writes p.1) xs

and_first : (a b : Bool) → (a && b) ≡ true → a ≡ true
and_first true b h = refl
and_first false b h = h

and_second : (a b : Bool) → (a && b) ≡ true → b ≡ true
and_second true b h = h
and_second false b h = absurd (true≢false (sym h))

-- equal lists are fed alike
pub writes-same : {P : Type 0} {E : P → P → Bool} {F : P → HashWrites} → Alike E F → (xs ys : List P) → pointwise E xs ys ≡ true
    → flat_map F xs ≡ flat_map F ys
writes-same alike [] [] h = refl
writes-same alike [] (y ∷ ys) h = absurd (true≢false (sym h))
writes-same alike (x ∷ xs) [] h = absurd (true≢false (sym h))
writes-same {P} {E} alike (x ∷ xs) (y ∷ ys) h =
    λ i. alike.fed x y (and_first (E x y) (pointwise E xs ys) h) i ++ writes-same alike xs ys (and_second (E x y) (pointwise E xs ys) h) i
