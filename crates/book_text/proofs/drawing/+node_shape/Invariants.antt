use Rattle.book_text.proofs.drawing.+node_shape.Given as goal

abbrev pub decreases-node_shape : goal.decreases-node_shape
decreases-node_shape g l = l.levels
