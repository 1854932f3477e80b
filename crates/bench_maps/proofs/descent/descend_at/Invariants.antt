use Rattle.bench_maps.specs.Begins.{BeginsAt}
use Rattle.bench_maps.proofs.descent.descend_at.Given as goal

abbrev pub invariant-loop-first : goal.invariant-loop-first
invariant-loop-first g l = BeginsAt l.map l.at l.first

abbrev pub decreases-loop-first : goal.decreases-loop-first
decreases-loop-first g l = l.first
