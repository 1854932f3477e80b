use Rattle.std.proofs.Common.{◌≡◌, ◌≤◌, eqb, false}
use Rattle.btree_image.specs.Reading.{place_at}
use Rattle.btree_image.proofs.RoomLemmas.{IsReadTo}
use Rattle.btree_image.proofs.StoreLemmas.{HasStored}
use Rattle.btree_image.proofs.places.read_places.Given as goal

abbrev pub invariant-loop-id : goal.invariant-loop-id
invariant-loop-id g l = record {
  stored : HasStored (λ left. place_at g.K.Spelled.read g.V.Spelled.read (eqb left 0)) l.count l.bytes (g.C.Slab.content l.nodes) l.id l.rest;
  refusals : g.C.Slab.refusals l.nodes ≡ g.C.Slab.refusals l.fn.nodes;
  reached : g.C.Fill.reached l.nodes ≤ l.id;
  read : IsReadTo (place_at g.K.Spelled.read g.V.Spelled.read false) l.bytes l.id l.rest;
}
