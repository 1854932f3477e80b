use Rattle.book_text.proofs.places.+glue_node.Given as goal

abbrev pub decreases-glue_node : goal.decreases-glue_node
decreases-glue_node g l = l.levels
