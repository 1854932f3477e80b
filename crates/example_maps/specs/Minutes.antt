-- Minutes, as places between keys in seconds.
use Rattle.std.specs.Prelude.{ℕ, ◌*◌, List}
use Rattle.std.specs.Cmp.{nat_cmp_total}
use Rattle.std.specs.Ordering.{nat_cmp}
use Rattle.std.specs.declared.cmp.Ordering.{Ordering}
use Rattle.btree_slab.specs.Keys.{Cuts}
use Rattle.btree_slab.specs.KeyLaws.{cuts_of, cuts_before, side_before}
use Rattle.btree_slab.specs.Queries.{pairs_from_to}

-- on which side of the start of a minute a second is
abbrev pub side_of_minute : ℕ → ℕ → Ordering
side_of_minute second minute = side_before (nat_cmp second (minute * 60))

-- the start of each minute divides the seconds
pub minutes_cut : {Q : Type 0} (number : Q → ℕ) → Cuts nat_cmp (λ second query. side_of_minute second (number query))
minutes_cut number = cuts_before (cuts_of nat_cmp_total) (λ query. number query * 60)

-- the entries of a log from one minute on, and before another
abbrev pub entries_from_to : {V : Type 0} → ℕ → ℕ → List (ℕ × V) → List (ℕ × V)
entries_from_to start end log = pairs_from_to side_of_minute start side_of_minute end log
