-- Lists of granted calls: the set after them is what they make of the set before (`made-by-calls`, `RangeLaws.antt` of
-- the proofs). `insert` and `remove` are the calls that change a set by numbers, and `IsGranted` is what each of them
-- promises on Ok.
use Rattle.std.specs.Prelude.{◌≡◌, ℕ, Bool, not, ◌&&◌, ◌||◌, List, [], ◌∷◌}
use Rattle.btree_range_set.specs.Ranges.{IsDifference, IsUnion, is_within}

-- a call that changes a set
pub data Call : Type 0 where
  Insert : (start end : ℕ) → Call
  Remove : (start end : ℕ) → Call

-- the numbers of the set after a call
abbrev pub after_call : Call → (ℕ → Bool) → ℕ → Bool
after_call (Insert start end) set n = set n || is_within (start, end) n
after_call (Remove start end) set n = set n && not (is_within (start, end) n)

-- the numbers after a list of calls, in order
abbrev pub after_calls : List Call → (ℕ → Bool) → ℕ → Bool
after_calls [] set = set
after_calls (call ∷ calls) set = after_calls calls (after_call call set)

-- a call was granted: these are the ranges before and after it
abbrev pub IsGranted : Call → (old new : List (ℕ × ℕ)) → Type 0
IsGranted (Insert start end) old new = IsUnion old start end new
IsGranted (Remove start end) old new = IsDifference old start end new

-- so were all calls of a list
abbrev pub AreGranted : List Call → (old new : List (ℕ × ℕ)) → Type 0
AreGranted [] old new = new ≡ old
AreGranted (call ∷ calls) old new = (mid : List (ℕ × ℕ)) × IsGranted call old mid × AreGranted calls mid new
