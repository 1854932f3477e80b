use Rattle.book_text.proofs.places.+start.Given as goal

abbrev pub decreases-start : goal.decreases-start
decreases-start g l = l.levels
