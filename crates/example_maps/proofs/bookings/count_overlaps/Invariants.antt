use Rattle.std.proofs.Common.{◌≡◌, ◌≤◌, ℕ, take}
use Rattle.std.specs.List.{count_by}
use Rattle.btree_slab.specs.TreeState.{pairs_of}
use Rattle.btree_slab.specs.Navigation.{IsItemAt}
use Rattle.example_maps.specs.Bookings.{overlaps}
use Rattle.example_maps.proofs.bookings.count_overlaps.Given as goal

-- the bookings before the next one were counted, and there is one for each step
abbrev pub invariant-loop-step : goal.invariant-loop-step
invariant-loop-step l = record {
  place : ℕ;
  item : IsItemAt l.bookings place l.next;
  counted : l.count ≡ count_by (overlaps l.start l.end) (take place (pairs_of l.bookings));
  passed : l._step ≤ place;
  few : l.count ≤ l._step;
}
