use Rattle.book_nodes.proofs.everywhere.+pass.Given as goal

abbrev pub decreases-pass : goal.decreases-pass
decreases-pass g l = l.levels
