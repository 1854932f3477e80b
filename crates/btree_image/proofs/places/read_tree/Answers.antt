use Rattle.std.proofs.Common.{◌≡◌, Result, Err, refl}
use Rattle.std.proofs.lemmas.Result.{err_from_is_err_and}
use Rattle.btree_image.specs.declared.fault.Stop.{Stop}
use Rattle.btree_image.specs.declared.fault.ReadError.{ReadError}
use Rattle.btree_image.specs.declared.fault.ReadError.TheVariants as errors
use Rattle.btree_image.specs.Reading.{body_at, image_at, image_of}
use Rattle.btree_image.specs.Saved.{IsErrorOf, LacksPlace, LacksRoom}
use Rattle.btree_image.proofs.places.read_tree.Goals as goal

-- an error of a part is one of the whole, if the fault is
error-of : {X Y Lacks LacksAll : Type 0} (e : ReadError) (part : Result X Stop) (whole : Result Y Stop) → (Lacks → LacksAll) → ((stop : Stop) → part ≡ Err stop → whole ≡ Err stop)
    → IsErrorOf Lacks part e → IsErrorOf LacksAll whole e
error-of errors.Store part whole lacks same is = lacks is
error-of (errors.Image stop) part whole lacks same is = same stop is

pub returns-in_err-head-clause-refused : goal.returns-in_err-head-clause-refused
unfolding image_at body_at
returns-in_err-head-clause-refused g c =
    let p = err_from_is_err_and c.from_residual.result c.from_residual.ensures.1 in
    rw (p.1, p.2, c.in_err-head.ensures) refl

pub returns-in_err-nodes-clause-refused : goal.returns-in_err-nodes-clause-refused
unfolding image_at body_at
returns-in_err-nodes-clause-refused g c =
    let p = err_from_is_err_and c.from_residual-in_err-nodes.result c.from_residual-in_err-nodes.ensures.1 in
    let lacking : LacksPlace g.K.Spelled.read g.V.Spelled.read g.C.Fill.MayLack c.in_ok-head.head.count c.in_ok-head.rest.now → LacksRoom g.K.Spelled.read g.V.Spelled.read g.C.Fill.MayLack c.args.bytes.now =
    λ place. record { head = c.in_ok-head.head; rest = c.in_ok-head.rest.now; read = c.in_ok-head.ensures; place = place } in
    rw (p.1, p.2) (error-of c.in_err-nodes.field-0.0 _ _ lacking (λ stop is. rw (c.in_ok-head.ensures, is) refl) c.in_err-nodes.ensures.refused)

pub returns-in_err-read_end-clause-refused : goal.returns-in_err-read_end-clause-refused
unfolding image_at body_at
returns-in_err-read_end-clause-refused g c =
    let p = err_from_is_err_and c.from_residual-in_err-read_end.result c.from_residual-in_err-read_end.ensures.1 in
    rw (p.1, p.2, c.in_ok-head.ensures, c.in_ok-nodes.ensures.places.is, c.in_err-read_end.ensures) refl

pub returns-clause-saved : goal.returns-clause-saved
unfolding image_at body_at
returns-clause-saved g c =
    let places = c.in_ok-nodes.ensures.places in
    record {
      image = image_of c.in_ok-head.head places.places;
      read = rw (c.in_ok-head.ensures, places.is, c.in_ok-read_end.ensures) refl;
      of = record {
        root = rw (c.set_limit.ensures, c.set_len.ensures, c.set_root_id.ensures) refl;
        len = rw (c.set_limit.ensures, c.set_len.ensures) refl;
        limit = rw c.set_limit.ensures refl;
        nodes = λ id. rw (c.set_limit.ensures, c.set_len.ensures, c.set_root_id.ensures, c.in_store-tree.ensures) (places.nodes id);
      };
    }

pub returns-clause-refusals : goal.returns-clause-refusals
returns-clause-refusals g c = rw (c.set_limit.ensures, c.set_len.ensures, c.set_root_id.ensures, c.in_store-tree.ensures) c.in_ok-nodes.ensures.refusals
