use Rattle.book_text.proofs.places.+items_under.Given as goal

abbrev pub decreases-items_under : goal.decreases-items_under
decreases-items_under g l = l.levels
