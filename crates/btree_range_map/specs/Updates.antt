-- What an update leaves. Its action is called once at each part of the numbers that has a value, in order, and each part is
-- given the value that the call returned. If the insertion of one is refused, those before it were given theirs. The action is
-- left as these calls leave it.
use Rattle.std.specs.Prelude.{◌≡◌, ℕ, ◌<◌, ◌≤◌, cond, max, min, List, [], ◌∷◌, ◌++◌, map, option_map}
use Rattle.std.specs.Borrow.{Bor}
use Rattle.btree_range_map.specs.declared.refused.RangeRefused.{RangeRefused}
use Rattle.btree_range_map.specs.declared.span.Span.{Span}
use Rattle.btree_range_map.specs.Ranges.{is_between, ranges_meeting, value_at}
use Rattle.btree_range_map.specs.Series.{AreAssigned}

module _ {V : Type 0} where
  -- some numbers, as their start and their end, with their value, which is lent
  abbrev pub part_now : ℕ × ℕ × Bor V → ℕ × Span V
  part_now part = (part.0, record { end = part.1; value = part.2.now })

  -- what a range has of the numbers from `start` up to `end`
  abbrev pub part_between : (start end : ℕ) → ℕ × Span V → ℕ × Span V
  part_between start end range = (max start range.0, record { end = min end range.1.end; value = range.1.value })

  -- what each range that has one of these numbers has of them
  abbrev pub parts_between : (start end : ℕ) → List (ℕ × Span V) → List (ℕ × Span V)
  parts_between start end ranges = map (part_between start end) (ranges_meeting start end ranges)

  -- of the numbers from `start` up to `end`, this is the first part that has a value
  pub record IsFirstPart (ranges : List (ℕ × Span V)) (start end : ℕ) (part : ℕ × Span V) : Type 0 where
    pub some : part.0 < part.1.end
    pub low : start ≤ part.0
    pub high : part.1.end ≤ end
    pub first : parts_between start end ranges ≡ part ∷ parts_between part.1.end end ranges

module _ {F V : Type 0} (Step : F → V → V → F → Type 0) where
  -- one call at the value of each part, in order, took the action from f to f'; `given` are the parts with what it returned
  abbrev pub Returns : F → (parts given : List (ℕ × Span V)) → F → Type 0
  Returns f [] given f' = (given ≡ []) × (f' ≡ f)
  Returns f (part ∷ parts) given f' = (w : V) × (f1 : F) × (more : List (ℕ × Span V))
      × Step f part.1.value w f1 × Returns f1 parts more f'
      × (given ≡ (part.0, record { end = part.1.end; value = w }) ∷ more)

  -- the numbers of each part were given the value that the action returned for it; these calls took it from f to f'
  pub record IsUpdated (f f' : F) (parts old new : List (ℕ × Span V)) : Type 0 where
    pub given : List (ℕ × Span V)
    pub returns : Returns f parts given f'
    pub assigned : AreAssigned old given new

  -- so were those of the first parts; for the part after them the refused value was returned, and no call was made after it
  pub record IsUpdatedUntil (f f' : F) (parts old new : List (ℕ × Span V)) (refused : RangeRefused (Span V)) : Type 0 where
    pub called : List (ℕ × Span V)
    pub rest : List (ℕ × Span V)
    pub split : parts ≡ called ++ rest
    pub given : List (ℕ × Span V)
    pub returns : Returns f called (given ++ (refused.key, refused.value) ∷ []) f'
    pub assigned : AreAssigned old given new

-- each number from `start` up to `end` that has a value has what `f` makes of it, and the others have what they had
abbrev pub IsMapped : {V : Type 0} → (f : V → V) (old : List (ℕ × Span V)) (start end : ℕ) (new : List (ℕ × Span V)) → Type 0
IsMapped f old start end new =
    (n : ℕ) → value_at new n ≡ cond (is_between start end n) (option_map f (value_at old n)) (value_at old n)
