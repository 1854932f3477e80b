use Rattle.book_nodes.proofs.build.+glue_counts.Given as goal

abbrev pub decreases-glue_counts : goal.decreases-glue_counts
decreases-glue_counts g l = l.levels
