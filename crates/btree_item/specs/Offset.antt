-- An offset as contracts see it: `None` stands for -1, and `Some n` for the number n. -1 is below every number.
use Rattle.std.specs.Prelude.{ℕ, ◌+◌, ◌-◌, ◌^◌, ◌==◌, zero, suc, List, Option, Some, None, codes, if◌then◌else◌}
use Rattle.std.specs.Fmt.{decimal}

-- the number that an offset is stored as: one more than its own, and 0 for -1
abbrev pub kept_number : Option ℕ → ℕ
kept_number None = 0
kept_number (Some n) = n + 1

-- the offset that a number is stored for
abbrev pub kept_offset : ℕ → Option ℕ
kept_offset zero = None
kept_offset (suc n) = Some n

-- the offset at an index: `usize::MAX` stands for -1
abbrev pub index_offset : ℕ → Option ℕ
index_offset n = if n == 2 ^ 64 - 1 then None else Some n

-- the next offset: after -1 comes 0
abbrev pub offset_after : Option ℕ → Option ℕ
offset_after None = Some 0
offset_after (Some n) = Some (n + 1)

-- the offset before: before 0 comes -1, and -1 stays
abbrev pub offset_before : Option ℕ → Option ℕ
offset_before None = None
offset_before (Some zero) = None
offset_before (Some (suc n)) = Some n

-- the printed text of an offset
abbrev pub offset_text : Option ℕ → List ℕ
offset_text None = codes "-1"
offset_text (Some n) = decimal n
