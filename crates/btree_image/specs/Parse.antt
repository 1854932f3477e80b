-- What it is to read bytes up to the first fault.
use Rattle.std.specs.Prelude.{ℕ, List, Result}
use Rattle.btree_image.specs.declared.fault.Stop.{Stop}

-- a reading that says the first fault, and how many bytes are left there
abbrev pub Parse : Type 0 → Type 0
Parse X = List ℕ → Result (X × List ℕ) Stop
