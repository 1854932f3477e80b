use denote.Text.{Utf8}
use denote.Shadow.{shadow}
use Rattle.book_nodes.proofs.build.+build_nodes.Given as goal

abbrev pub decreases-build_nodes : goal.decreases-build_nodes
decreases-build_nodes g l = l.levels

abbrev pub invariant-loop : goal.invariant-loop
invariant-loop g l = shadow (Utf8 l.rest)
