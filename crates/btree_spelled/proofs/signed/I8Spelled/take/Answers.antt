use Rattle.std.proofs.Common.{◌≡◌, Some, refl, rules, sym, of_z, to_z, to_z-of_z}
use Rattle.std.specs.Int.{w8}
use Rattle.btree_spelled.specs.Numbers.{byte_read}
use Rattle.btree_spelled.proofs.signed.I8Spelled.take.Goals as goal

-- for a wrong result the search of this goal has no end
pub returns : goal.returns
returns c =
    let same : to_z w8 (of_z w8 c.cast_signed.result) ≡ c.cast_signed.result = to_z-of_z {w = w8} (search rules) in
    let read : byte_read c.args.bytes.now ≡ Some (c.in_ok-bits.bits, c.in_ok-bits.rest.now) = sym (rw c.in_ok-bits.was at c.take.ensures) in
    rw (same, c.cast_signed.ensures, read) refl
