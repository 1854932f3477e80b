use Rattle.std.proofs.Common.{◌≡◌, ◌∙◌, ◌+◌, ◌-◌, ◌<◌, ℕ, Ok, Err, eqb, false, refl, sym, arith, inl, inr}
use Rattle.std.specs.Prelude.{option_map}
use Rattle.std.proofs.lemmas.Bool.{cases_eq, eq-eqb, ne_eqb}
use Rattle.std.proofs.lemmas.Result.{err_from_is_err_and}
use Rattle.btree_node.specs.Node.{view_of}
use Rattle.btree_image.specs.Reading.{place_at}
use Rattle.btree_image.proofs.PlaceLemmas.{used-map}
use Rattle.btree_image.proofs.RoomLemmas.{lacks-place, only-lacks, place-early, reached-within, read-more, read-none}
use Rattle.btree_image.proofs.StoreLemmas.{stored-all, stored-fault, stored-none, stored-place}
use Rattle.btree_image.proofs.places.read_places.Goals as goal

-- the last place is the one after which none is left
last-place : (count id : ℕ) → id < count → eqb (id + 1) count ≡ eqb (count - (id + 1)) 0
last-place count id lt = elim (cases_eq (id + 1) count) [
  | inl same ↦ eq-eqb (id + 1) count same ∙ sym (eq-eqb (count - (id + 1)) 0 (omega arith))
  | inr other ↦ ne_eqb (id + 1) count other ∙ sym (ne_eqb (count - (id + 1)) 0 (λ e. other (omega arith)))
]

pub loop-id-init : goal.loop-id-init
loop-id-init g c =
    record {
      stored = stored-none (λ left. place_at g.K.Spelled.read g.V.Spelled.read (eqb left 0)) c.args.count c.args.bytes.now (g.C.Slab.content c.args.nodes) c.requires.empty;
      refusals = refl;
      reached = omega (arith, c.requires.unused);
      read = read-none (place_at g.K.Spelled.read g.V.Spelled.read false) c.args.bytes.now;
    }

pub read_place-requires : goal.read_place-requires
read_place-requires g c = c.requires.fits

pub returns-in_err-place-clause-refused : goal.returns-in_err-place-clause-refused
returns-in_err-place-clause-refused g c =
    let p = err_from_is_err_and c.from_residual.result c.from_residual.ensures.1 in
    let last = last-place c.args.count c.loop-id.id (omega (arith, c.loop-id-test.true)) in
    let parse = λ (left : ℕ). place_at g.K.Spelled.read g.V.Spelled.read (eqb left 0) in
    let read : parse (c.args.count - (c.loop-id.id + 1)) c.loop-id.rest.now ≡ Err c.in_err-place.field-0.0 = rw last at c.in_err-place.ensures in
    let failed = stored-fault parse c.args.count c.args.bytes.now (g.C.Slab.content c.loop-id.nodes) c.loop-id.id c.loop-id.rest.now c.in_err-place.field-0.0 c.loop-id-test.true read c.loop-id.invariant.stored in
    rw (p.1, p.2) failed

pub returns-in_err-store_place-clause-refused : goal.returns-in_err-store_place-clause-refused
returns-in_err-store_place-clause-refused g c =
    let p = err_from_is_err_and c.from_residual-in_err-store_place.result c.from_residual-in_err-store_place.ensures.1 in
    let last = last-place c.args.count c.loop-id.id (omega (arith, c.loop-id-test.true)) in
    let parse = place_at g.K.Spelled.read g.V.Spelled.read in
    let read : parse (eqb (c.args.count - (c.loop-id.id + 1)) 0) c.loop-id.rest.now ≡ Ok (option_map view_of c.in_ok-place.place, c.in_ok-place.after.now) = rw last at c.in_ok-place.ensures in
    let early = place-early g.K.Spelled.read g.V.Spelled.read (eqb (c.args.count - (c.loop-id.id + 1)) 0) c.loop-id.rest.now (option_map view_of c.in_ok-place.place, c.in_ok-place.after.now) read in
    let lacks = only-lacks (g.C.Fill.reached c.loop-id.nodes) c.loop-id.id c.loop-id.invariant.reached c.in_err-store_place.ensures.lacks in
    let lacking = lacks-place g.K.Spelled.read g.V.Spelled.read g.C.Fill.MayLack c.args.count c.loop-id.id c.args.bytes.now c.loop-id.rest.now c.in_ok-place.after.now (option_map view_of c.in_ok-place.place) c.loop-id.invariant.read early (used-map view_of c.in_ok-place.place c.in_err-store_place.ensures.node) c.loop-id-test.true lacks in
    rw (p.1, p.2, c.in_err-store_place.ensures.refused) lacking

pub loop-id-preserved : goal.loop-id-preserved
loop-id-preserved g c =
    let last = last-place c.args.count c.loop-id.id (omega (arith, c.loop-id-test.true)) in
    let parse = λ (left : ℕ). place_at g.K.Spelled.read g.V.Spelled.read (eqb left 0) in
    let read : parse (c.args.count - (c.loop-id.id + 1)) c.loop-id.rest.now ≡ Ok (option_map view_of c.in_ok-place.place, c.in_ok-place.after.now) = rw last at c.in_ok-place.ensures in
    let early = place-early g.K.Spelled.read g.V.Spelled.read (eqb (c.args.count - (c.loop-id.id + 1)) 0) c.loop-id.rest.now (option_map view_of c.in_ok-place.place, c.in_ok-place.after.now) read in
    record {
      stored = stored-place parse c.args.count c.args.bytes.now (g.C.Slab.content c.loop-id.nodes) (g.C.Slab.content c.store_place.new.nodes) c.loop-id.id c.in_ok-place.place c.loop-id.rest.now c.in_ok-place.after.now c.in_ok-store_place.ensures.stored c.loop-id-test.true read c.loop-id.invariant.stored;
      refusals = c.in_ok-store_place.ensures.refusals ∙ c.loop-id.invariant.refusals;
      reached = reached-within c.in_ok-place.place (g.C.Fill.reached c.loop-id.nodes) (g.C.Fill.reached c.store_place.new.nodes) c.loop-id.id c.loop-id.invariant.reached c.in_ok-store_place.ensures.reached;
      read = read-more (place_at g.K.Spelled.read g.V.Spelled.read false) c.args.bytes.now c.loop-id.id c.loop-id.rest.now c.in_ok-place.after.now (option_map view_of c.in_ok-place.place) c.loop-id.invariant.read early;
    }

pub returns-clause-places : goal.returns-clause-places
returns-clause-places g c =
    stored-all (λ left. place_at g.K.Spelled.read g.V.Spelled.read (eqb left 0)) c.args.count c.args.bytes.now (g.C.Slab.content c.loop-id.nodes) c.loop-id.id c.loop-id.rest.now (omega arith) c.loop-id.invariant.stored
