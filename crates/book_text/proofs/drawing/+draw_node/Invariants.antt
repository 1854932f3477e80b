use Rattle.book_text.proofs.drawing.+draw_node.Given as goal

abbrev pub decreases-draw_node : goal.decreases-draw_node
decreases-draw_node g l = l.levels
