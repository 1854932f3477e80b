-- What holds where a call did not fail.
use Rattle.std.specs.Prelude.{OnOk, Result, Ok, Err}

pub on_ok_with : {T E P Q : Type 0} (r : Result T E) → (P → Q) → OnOk r P → OnOk r Q
on_ok_with (Ok x) f p = f p
on_ok_with (Err e) f p = tt
