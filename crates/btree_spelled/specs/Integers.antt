-- Signed numbers, numbers of sixteen bytes and characters as bytes.
use Rattle.std.specs.Prelude.{List, ℕ, ℤ, ◌+◌, ◌*◌, ◌/◌, ◌%◌, ◌^◌, Option, Some, None, if◌then◌else◌}
use Rattle.std.specs.Int.{Width, w8, w32, w64, w128, cast_signed, cast_unsigned}
use Rattle.std.specs.Option.{option_and_then}
use lib.Utf8.{scalar}
use Rattle.btree_spelled.specs.Mapped.{mapped_bytes, mapped_read}
use Rattle.btree_spelled.specs.Numbers.{byte_bytes, byte_read, number_bytes, number_read}
use Rattle.btree_spelled.specs.Pairs.{pair_bytes, pair_read}
use Rattle.btree_spelled.specs.Spelled.{Read}

-- a signed number has the bytes of the unsigned one with the same bits
abbrev pub signed_byte_bytes : ℤ → List ℕ
signed_byte_bytes = mapped_bytes (cast_unsigned w8) byte_bytes

abbrev pub signed_byte_read : Read ℤ
signed_byte_read = mapped_read (cast_signed w8) byte_read

abbrev pub signed_bytes : Width → ℤ → List ℕ
signed_bytes w = mapped_bytes (cast_unsigned w) (number_bytes w)

abbrev pub signed_read : Width → Read ℤ
signed_read w = mapped_read (cast_signed w) (number_read w)

-- a number of sixteen bytes is a pair of words, the higher one first
abbrev pub halves : ℕ → ℕ × ℕ
halves n = (n / 2 ^ 64, n % 2 ^ 64)

abbrev pub joined : ℕ × ℕ → ℕ
joined x = x.0 * 2 ^ 64 + x.1

abbrev pub long_bytes : ℕ → List ℕ
long_bytes = mapped_bytes halves (pair_bytes (number_bytes w64) (number_bytes w64))

abbrev pub long_read : Read ℕ
long_read = mapped_read joined (pair_read (number_read w64) (number_read w64))

abbrev pub signed_long_bytes : ℤ → List ℕ
signed_long_bytes = mapped_bytes (cast_unsigned w128) long_bytes

abbrev pub signed_long_read : Read ℤ
signed_long_read = mapped_read (cast_signed w128) long_read

-- a character has the bytes of its code; no other code is read
abbrev pub char_of : ℕ × List ℕ → Option (ℕ × List ℕ)
char_of n = if scalar n.0 then Some n else None

abbrev pub char_bytes : ℕ → List ℕ
char_bytes = number_bytes w32

unfoldable pub char_read : Read ℕ
char_read bytes = option_and_then char_of (number_read w32 bytes)
