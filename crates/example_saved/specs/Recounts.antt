-- A part that is counted anew where it is.
use Rattle.std.specs.Prelude.{ℕ}
use Rattle.std.specs.Ordering.{nat_cmp}
use Rattle.btree_slab.specs.Address.{Address}
use Rattle.btree_slab.specs.Exchange.{IsValueExchanged}
use Rattle.btree_slab.specs.TreeState.{TreeState}
use Rattle.example_saved.specs.declared.part.Part.{Part}

-- the part at the address has this count now, and nothing else has changed
abbrev pub Recounts : (old new : TreeState ℕ Part) → Address → (count : ℕ) → Type 0
Recounts old new at count = (was : Part) × IsValueExchanged old new at nat_cmp was (record { count = count; grams = was.grams })
