use Rattle.btree_raw.proofs.Common.{view_of, node_map, used-view}
use Rattle.btree_raw.proofs.OverflowLemmas.{adopts-part, leaves, right-used, splits}
use Rattle.btree_raw.proofs.node_changes.adopt_part.Goals as goal

pub take_claim-right-requires : goal.take_claim-right-requires
take_claim-right-requires g c = c.requires.left.can.some

pub adopt-requires : goal.adopt-requires
adopt-requires g c =
    let l = c.requires.left in
    let last = c.take_claim-right.ensures in (
      c.tell_fits.ensures,
      (
        adopts-part l.whole (node_map c.args.tree.now) l.id c.take_claim-right.result l.kept l.median (view_of c.args.part.now) (l.can.into c.take_claim-right.new.claims.items c.take_claim-right.result last) l.half,
        l.can.low c.take_claim-right.new.claims.items c.take_claim-right.result last,
      ),
    )

pub returns-clause-used : goal.returns-clause-used
returns-clause-used g c =
    let l = c.requires.left in
    used-view c.adopt.new.tree.nodes c.take_claim-right.result
    (right-used l.whole (node_map c.args.tree.now) l.id c.take_claim-right.result l.kept l.median (view_of c.args.part.now)
    (l.can.into c.take_claim-right.new.claims.items c.take_claim-right.result c.take_claim-right.ensures) l.half (node_map c.adopt.new.tree) c.adopt.ensures.nodes)

pub returns-clause-splits : goal.returns-clause-splits
returns-clause-splits g c = λ after put l.
    splits l.whole (node_map c.args.tree.now) l.id c.take_claim-right.result l.kept l.median (view_of c.args.part.now)
    (l.can.into c.take_claim-right.new.claims.items c.take_claim-right.result c.take_claim-right.ensures) l.half (node_map c.adopt.new.tree) c.adopt.ensures.nodes
    (node_map after) put.nodes

pub returns-clause-leaves : goal.returns-clause-leaves
returns-clause-leaves g c = λ after put l.
    leaves l.whole (node_map c.args.tree.now) l.id c.take_claim-right.result l.kept l.median (view_of c.args.part.now)
    (l.can.into c.take_claim-right.new.claims.items c.take_claim-right.result c.take_claim-right.ensures) l.half (node_map c.adopt.new.tree) c.adopt.ensures.nodes
    (node_map after) put.nodes

pub returns-clause-rest : goal.returns-clause-rest
returns-clause-rest g c = c.adopt.ensures.rest
