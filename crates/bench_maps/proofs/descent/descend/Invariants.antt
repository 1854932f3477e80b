use Rattle.bench_maps.proofs.descent.descend.Given as goal

abbrev pub decreases-loop-key : goal.decreases-loop-key
decreases-loop-key g l = l.key
