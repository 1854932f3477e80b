-- How many ranges there are: no more than there may be, and fewer before one is added.
use Rattle.btree_range_map.proofs.Common.{◌≡◌, ◌≤◌, ◌∙◌, ℕ, length, ap, arith, insert, nat_cmp, Address, TreeState, pairs_of, HasPlace, InsertsAt, Span, GrowsWithinLimit}
use Rattle.std.proofs.lemmas.List.Edits.{length-insert}
use Rattle.btree_range_map.specs.State.{ranges_of}

module _ {V : Type 0} where
  -- a step that adds no range
  pub grows-not : (old new : TreeState ℕ (Span V)) → length (pairs_of new) ≤ length (pairs_of old) → GrowsWithinLimit (ranges_of old) (ranges_of new)
  grows-not old new few more = absurd (omega (arith, few, more))

  -- a range was added, so there are no more than there may be
  pub put-limit : (s new : TreeState ℕ (Span V)) (gap b : Address) (place : ℕ) (x : ℕ × Span V) → HasPlace s gap place → place ≤ length (pairs_of s)
      → InsertsAt s new gap nat_cmp b x → length (pairs_of new) ≤ s.kept.limit
  put-limit s new gap b place x has within puts =
      let same : puts.place ≡ place = has.only puts.place puts.has.at in
      let longer = ap length (puts.pairs ∙ ap (λ p. insert (pairs_of s) p x) same) ∙ length-insert (pairs_of s) place x within in
      let counted = puts.inserted.tree.counted in
      let below = puts.inserted.below_limit in
      omega (arith, longer, counted, puts.inserted.longer, below)
