-- The error of a read of so many bytes.
use Rattle.std.specs.Prelude.{ℕ, ◌-◌}
use Rattle.btree_image.specs.declared.fault.ReadError.{ReadError}
use Rattle.btree_image.specs.declared.fault.ReadError.TheVariants as reads
use Rattle.btree_save.specs.declared.error.OpenError.{OpenError}
use Rattle.btree_save.specs.declared.error.OpenError.TheVariants as errors

abbrev pub error_of : (count : ℕ) → ReadError → OpenError
error_of count reads.Store = errors.Store
error_of count (reads.Image stop) = errors.Image stop.fault (count - stop.left)
