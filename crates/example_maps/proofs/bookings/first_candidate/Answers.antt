use Rattle.example_maps.proofs.BookingLemmas.{candidate-before, candidate-found}
use Rattle.example_maps.proofs.bookings.first_candidate.Goals as goal

pub returns-in-Ok : goal.returns-in-Ok
returns-in-Ok c = candidate-found c.args.bookings.now c.args.start c.requires c.in-Ok.addr c.normalize.result c.in-Ok.ensures c.normalize.ensures

pub returns-in-Some : goal.returns-in-Some
returns-in-Some c =
    candidate-before c.args.bookings.now c.args.start c.requires c.in-Err.gap c.in-Some.previous c.in-Err.ensures
    c.in-Some.ensures
