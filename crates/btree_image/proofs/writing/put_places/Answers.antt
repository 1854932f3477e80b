use Rattle.std.proofs.Common.{◌≡◌, ◌++◌, ℕ, subst, refl, arith}
use Rattle.std.specs.List.{flat_map}
use Rattle.btree_laws.specs.TreeState.{node_map}
use Rattle.btree_image.specs.Image.{place}
use Rattle.btree_spelled.specs.Pairs.{pair_bytes}
use Rattle.btree_image.specs.Written.{places_of}
use Rattle.btree_image.proofs.Whole.{placed-none, placed-one}
use Rattle.btree_image.proofs.writing.put_places.Goals as goal

pub loop-id-init : goal.loop-id-init
loop-id-init g c = placed-none g.K.Spelled.spelling g.V.Spelled.spelling g.K.Spelled.read g.V.Spelled.read (node_map c.args.tree.now) c.args.out.now.items

pub loop-id-preserved : goal.loop-id-preserved
loop-id-preserved g c =
    let node_at = node_map c.args.tree.now in
    placed-one g.K.Spelled.spelling g.V.Spelled.spelling g.K.Spelled.read g.V.Spelled.read node_at c.args.out.now.items c.loop-id.out.items c.loop-id.id (node_at c.loop-id.id) c.put_place.new.out.items
    refl c.in_ok-put_place.ensures.appends c.in_ok-put_place.ensures.is_read c.loop-id.invariant

pub returns-clause-appends : goal.returns-clause-appends
returns-clause-appends g c =
    let same : c.loop-id.id ≡ c.args.count = omega arith in
    subst (λ (n : ℕ). c.loop-id.out.items ≡ c.args.out.now.items ++ flat_map (place (pair_bytes g.K.Spelled.spelling g.V.Spelled.spelling)) (places_of (node_map c.args.tree.now) n)) same c.loop-id.invariant.text

pub returns-clause-are_read : goal.returns-clause-are_read
returns-clause-are_read g c = λ id lt. c.loop-id.invariant.read id (omega arith)
