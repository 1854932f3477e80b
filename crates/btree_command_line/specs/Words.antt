-- The words that the system gives as arguments.
use Rattle.std.specs.Prelude.{◌≡◌, ℕ, List, take, Option, None, Some, Result, Ok, Err, IfSome, IsSome, IsSomeAnd, IsUtf8}
use Rattle.std.specs.Borrow.{Bor}
use Rattle.std.specs.declared.env.FillError.{FillError}
use Rattle.std.specs.declared.env.FillError.TheVariants.{NotPresent, TooLong}

-- what was read of a buffer that was filled: the text in it if it is one, that there is no argument, or that it cannot be read
abbrev pub ReadsWord : (filled : Result ℕ FillError) → (buffer : List ℕ) → Option (Option (Bor (List ℕ))) → Type 0
ReadsWord (Ok len) buffer read = IfSome read (λ word. IsSomeAnd word (λ text. text.now ≡ take len buffer)) × (IsUtf8 (take len buffer) → IsSome read)
ReadsWord (Err NotPresent) buffer read = read ≡ Some None
ReadsWord (Err TooLong) buffer read = read ≡ None
