use Rattle.btree_raw.proofs.Common.{arith, ap, option_map, refl, sym, subst, rules, view_of, TreeState, node_map, InsertsExactly, IsFull, IsOffByOneWith, IsRefused, with_node, HasParent, view}
use Rattle.std.specs.Prelude.{IfErr, IfOk}
use Rattle.btree_raw.proofs.NeedLemmas.{is-full, not-full}
use Rattle.btree_raw.proofs.PutLemmas.{add-used, can-add, no-overflow, put-inserted, put-off, put-room, put-valid, room-at, these}
use Rattle.btree_raw.proofs.FetchedLemmas.{count-written, parent-there, parent-written}
use Rattle.btree_raw.proofs.LastLemmas.{same-state}
use Rattle.btree_raw.proofs.StepLemmas.{adds, take-room}
use Rattle.btree_raw.proofs.insertion.insert_in_tree.Goals as goal

pub tell_fits-requires : goal.tell_fits-requires
tell_fits-requires g c κs =
    search rules steps 200000

pub node_mut-node-requires : goal.node_mut-node-requires
node_mut-node-requires g c =
    (c.tell_fits.ensures, add-used g.K.Ord.cmp g.met.K.Ord.total c.args.tree.now (view c.addr.inside) c.args.item c.args.child (rw (← c.addr.view_is) at c.requires.off_by_one))

pub is_full-requires : goal.is_full-requires
is_full-requires g c =
    c.tell_fits.ensures

pub insert_and_split-requires-clause-off_by_one : goal.insert_and_split-requires-clause-off_by_one
insert_and_split-requires-clause-off_by_one g c =
    subst (λ (t : TreeState _ _). IsOffByOneWith g.K.Ord.cmp t c.args.addr c.args.item c.args.child) (sym (same-state c.args.tree.now c.addr.inside.id c.node_mut-node.result.now c.node_mut-node.result.now c.node_mut-node.ensures.value refl)) c.requires.off_by_one

pub insert_and_split-requires-clause-full : goal.insert_and_split-requires-clause-full
insert_and_split-requires-clause-full g c = rw (← c.addr.view_is) (subst (λ (t : TreeState _ _). IsFull (node_map t) c.addr.inside.id) (sym (same-state c.args.tree.now c.addr.inside.id c.node_mut-node.result.now c.node_mut-node.result.now c.node_mut-node.ensures.value refl)) (record { node = view_of c.node_mut-node.result.now; here = ap (option_map view_of) (sym c.node_mut-node.ensures.value); full = is-full c.node_mut-node.result.now c.if-is_full.ensures }))

pub insert_and_split-requires-clause-rooted : goal.insert_and_split-requires-clause-rooted
insert_and_split-requires-clause-rooted g c =
    c.requires.rooted

pub insert_and_split-requires-clause-room : goal.insert_and_split-requires-clause-room
insert_and_split-requires-clause-room g c =
    c.requires.room

pub insert_and_split-requires-clause-granted : goal.insert_and_split-requires-clause-granted
insert_and_split-requires-clause-granted g c =
    c.requires.granted

pub returns-then-is_full-clause-inserted : goal.returns-then-is_full-clause-inserted
returns-then-is_full-clause-inserted g c =
    subst (λ (t : TreeState _ _). IfOk c.insert_and_split.result
    (λ b. InsertsExactly g.K.Ord.cmp t c.insert_and_split.new.tree c.args.addr b c.args.item c.args.child)) (same-state c.args.tree.now c.addr.inside.id c.node_mut-node.result.now c.node_mut-node.result.now c.node_mut-node.ensures.value refl) c.insert_and_split.ensures.inserted

pub returns-then-is_full-clause-returned : goal.returns-then-is_full-clause-returned
returns-then-is_full-clause-returned g c = c.insert_and_split.ensures.returned

pub returns-then-is_full-clause-refused : goal.returns-then-is_full-clause-refused
returns-then-is_full-clause-refused g c =
    subst (λ (t : TreeState _ _). IfErr c.insert_and_split.result
    (λ r. IsRefused g.C.NodesMut.MayRefuse c.args.addr.id t c.insert_and_split.new.tree r.cause)) (same-state c.args.tree.now c.addr.inside.id c.node_mut-node.result.now c.node_mut-node.result.now c.node_mut-node.ensures.value refl) c.insert_and_split.ensures.refused

pub unwrap-index-requires : goal.unwrap-index-requires
unwrap-index-requires g c =
    let off = rw (← c.addr.view_is) at c.requires.off_by_one in
    let o = off.puts.offset in
    rw o refl

pub insert-requires : goal.insert-requires
insert-requires g c = (
  c.tell_fits.ensures,
  take-room c.args.tree.now.nodes c.addr.inside.id c.node_mut-node.result.now c.node_mut-node.ensures.value c.unwrap-index.result c.args.child
      c.from.result c.from.ensures (can-add g.K.Ord.cmp g.met.K.Ord.total c.args.tree.now (view c.addr.inside) c.args.item c.args.child (rw (← c.addr.view_is) at c.requires.off_by_one) c.unwrap-index.result (sym c.unwrap-index.ensures.value)),
)

pub rebalance_fetched-at-requires-clause-count : goal.rebalance_fetched-at-requires-clause-count
rebalance_fetched-at-requires-clause-count g c =
    count-written c.args.tree.now.nodes c.addr.inside.id c.insert.new.self c.item_count-count.result c.item_count-count.ensures.value

pub rebalance_fetched-at-requires-clause-parent : goal.rebalance_fetched-at-requires-clause-parent
rebalance_fetched-at-requires-clause-parent g c =
    parent-written c.args.tree.now.nodes c.addr.inside.id c.insert.new.self c.parent-parent-2.result c.parent-parent-2.ensures.value

pub rebalance_fetched-at-requires-clause-off_by_one : goal.rebalance_fetched-at-requires-clause-off_by_one
rebalance_fetched-at-requires-clause-off_by_one g c =
    put-off g.K.Ord.cmp g.met.K.Ord.total c.args.tree.now (view c.addr.inside) c.args.item c.args.child (rw (← c.addr.view_is) at c.requires.off_by_one) (with_node c.args.tree.now c.addr.inside.id c.insert.new.self) c.unwrap-index.result (sym c.unwrap-index.ensures.value) (record { nodes = adds c.args.tree.now.nodes c.addr.inside.id c.node_mut-node.result.now c.node_mut-node.ensures.value c.insert.new.self c.unwrap-index.result c.args.item c.args.child c.from.result c.from.ensures (can-add g.K.Ord.cmp g.met.K.Ord.total c.args.tree.now (view c.addr.inside) c.args.item c.args.child (rw (← c.addr.view_is) at c.requires.off_by_one) c.unwrap-index.result (sym c.unwrap-index.ensures.value)) c.insert.ensures; rest = record { rest = refl } })

pub rebalance_fetched-at-requires-clause-valid : goal.rebalance_fetched-at-requires-clause-valid
rebalance_fetched-at-requires-clause-valid g c =
    rw (← c.addr.view_is) (put-valid g.K.Ord.cmp g.met.K.Ord.total c.args.tree.now (view c.addr.inside) c.args.item c.args.child (with_node c.args.tree.now c.addr.inside.id c.insert.new.self)
    (these g.K.Ord.cmp g.met.K.Ord.total c.args.tree.now (view c.addr.inside) c.args.item c.args.child (rw (← c.addr.view_is) at c.requires.off_by_one) (with_node c.args.tree.now c.addr.inside.id c.insert.new.self) c.unwrap-index.result (sym c.unwrap-index.ensures.value) (record { nodes = adds c.args.tree.now.nodes c.addr.inside.id c.node_mut-node.result.now c.node_mut-node.ensures.value c.insert.new.self c.unwrap-index.result c.args.item c.args.child c.from.result c.from.ensures (can-add g.K.Ord.cmp g.met.K.Ord.total c.args.tree.now (view c.addr.inside) c.args.item c.args.child (rw (← c.addr.view_is) at c.requires.off_by_one) c.unwrap-index.result (sym c.unwrap-index.ensures.value)) c.insert.ensures; rest = record { rest = refl } })))

pub rebalance_fetched-at-requires-clause-room : goal.rebalance_fetched-at-requires-clause-room
rebalance_fetched-at-requires-clause-room g c =
    put-room g.K.Ord.cmp g.met.K.Ord.total c.args.tree.now (view c.addr.inside) c.args.item c.args.child (with_node c.args.tree.now c.addr.inside.id c.insert.new.self)
    (these g.K.Ord.cmp g.met.K.Ord.total c.args.tree.now (view c.addr.inside) c.args.item c.args.child (rw (← c.addr.view_is) at c.requires.off_by_one) (with_node c.args.tree.now c.addr.inside.id c.insert.new.self) c.unwrap-index.result (sym c.unwrap-index.ensures.value) (record { nodes = adds c.args.tree.now.nodes c.addr.inside.id c.node_mut-node.result.now c.node_mut-node.ensures.value c.insert.new.self c.unwrap-index.result c.args.item c.args.child c.from.result c.from.ensures (can-add g.K.Ord.cmp g.met.K.Ord.total c.args.tree.now (view c.addr.inside) c.args.item c.args.child (rw (← c.addr.view_is) at c.requires.off_by_one) c.unwrap-index.result (sym c.unwrap-index.ensures.value)) c.insert.ensures; rest = record { rest = refl } }))
    (room-at g.K.Ord.cmp g.met.K.Ord.total c.args.tree.now (view c.addr.inside) c.args.item c.args.child (rw (← c.addr.view_is) at c.requires.off_by_one) (with_node c.args.tree.now c.addr.inside.id c.insert.new.self) c.unwrap-index.result (sym c.unwrap-index.ensures.value) (record { nodes = adds c.args.tree.now.nodes c.addr.inside.id c.node_mut-node.result.now c.node_mut-node.ensures.value c.insert.new.self c.unwrap-index.result c.args.item c.args.child c.from.result c.from.ensures (can-add g.K.Ord.cmp g.met.K.Ord.total c.args.tree.now (view c.addr.inside) c.args.item c.args.child (rw (← c.addr.view_is) at c.requires.off_by_one) c.unwrap-index.result (sym c.unwrap-index.ensures.value)) c.insert.ensures; rest = record { rest = refl } }) c.node_mut-node.result.now (sym c.node_mut-node.ensures.value) (not-full c.node_mut-node.result.now c.if-is_full.ensures))

pub len-requires : goal.len-requires
len-requires g c κs =
    search rules steps 200000

pub overflow_add-len : goal.overflow_add-len
overflow_add-len g c =
    let same = c.rebalance_fetched-at.ensures.len in
    let room = c.requires.room in
    rw c.len.ensures (omega arith)

pub set_len-requires : goal.set_len-requires
set_len-requires g c κs =
    search rules steps 200000

pub returns-clause-inserted : goal.returns-clause-inserted
returns-clause-inserted g c =
    rw (← c.addr.view_is) (rw (c.set_len.ensures, c.len.ensures)
    (put-inserted g.K.Ord.cmp g.met.K.Ord.total c.args.tree.now (view c.addr.inside) c.args.item c.args.child (with_node c.args.tree.now c.addr.inside.id c.insert.new.self)
    (these g.K.Ord.cmp g.met.K.Ord.total c.args.tree.now (view c.addr.inside) c.args.item c.args.child (rw (← c.addr.view_is) at c.requires.off_by_one) (with_node c.args.tree.now c.addr.inside.id c.insert.new.self) c.unwrap-index.result (sym c.unwrap-index.ensures.value) (record { nodes = adds c.args.tree.now.nodes c.addr.inside.id c.node_mut-node.result.now c.node_mut-node.ensures.value c.insert.new.self c.unwrap-index.result c.args.item c.args.child c.from.result c.from.ensures (can-add g.K.Ord.cmp g.met.K.Ord.total c.args.tree.now (view c.addr.inside) c.args.item c.args.child (rw (← c.addr.view_is) at c.requires.off_by_one) c.unwrap-index.result (sym c.unwrap-index.ensures.value)) c.insert.ensures; rest = record { rest = refl } }))
    c.rebalance_fetched-at.new.tree c.rebalance_fetched-at.result c.requires.rooted c.requires.granted
    (put-off g.K.Ord.cmp g.met.K.Ord.total c.args.tree.now (view c.addr.inside) c.args.item c.args.child (rw (← c.addr.view_is) at c.requires.off_by_one) (with_node c.args.tree.now c.addr.inside.id c.insert.new.self) c.unwrap-index.result (sym c.unwrap-index.ensures.value) (record { nodes = adds c.args.tree.now.nodes c.addr.inside.id c.node_mut-node.result.now c.node_mut-node.ensures.value c.insert.new.self c.unwrap-index.result c.args.item c.args.child c.from.result c.from.ensures (can-add g.K.Ord.cmp g.met.K.Ord.total c.args.tree.now (view c.addr.inside) c.args.item c.args.child (rw (← c.addr.view_is) at c.requires.off_by_one) c.unwrap-index.result (sym c.unwrap-index.ensures.value)) c.insert.ensures; rest = record { rest = refl } }))
    (rw (← c.addr.view_is) at c.rebalance_fetched-at.ensures)
    (no-overflow g.K.Ord.cmp g.met.K.Ord.total c.args.tree.now (view c.addr.inside) c.args.item c.args.child (with_node c.args.tree.now c.addr.inside.id c.insert.new.self)
    (these g.K.Ord.cmp g.met.K.Ord.total c.args.tree.now (view c.addr.inside) c.args.item c.args.child (rw (← c.addr.view_is) at c.requires.off_by_one) (with_node c.args.tree.now c.addr.inside.id c.insert.new.self) c.unwrap-index.result (sym c.unwrap-index.ensures.value) (record { nodes = adds c.args.tree.now.nodes c.addr.inside.id c.node_mut-node.result.now c.node_mut-node.ensures.value c.insert.new.self c.unwrap-index.result c.args.item c.args.child c.from.result c.from.ensures (can-add g.K.Ord.cmp g.met.K.Ord.total c.args.tree.now (view c.addr.inside) c.args.item c.args.child (rw (← c.addr.view_is) at c.requires.off_by_one) c.unwrap-index.result (sym c.unwrap-index.ensures.value)) c.insert.ensures; rest = record { rest = refl } }))
    (room-at g.K.Ord.cmp g.met.K.Ord.total c.args.tree.now (view c.addr.inside) c.args.item c.args.child (rw (← c.addr.view_is) at c.requires.off_by_one) (with_node c.args.tree.now c.addr.inside.id c.insert.new.self) c.unwrap-index.result (sym c.unwrap-index.ensures.value) (record { nodes = adds c.args.tree.now.nodes c.addr.inside.id c.node_mut-node.result.now c.node_mut-node.ensures.value c.insert.new.self c.unwrap-index.result c.args.item c.args.child c.from.result c.from.ensures (can-add g.K.Ord.cmp g.met.K.Ord.total c.args.tree.now (view c.addr.inside) c.args.item c.args.child (rw (← c.addr.view_is) at c.requires.off_by_one) c.unwrap-index.result (sym c.unwrap-index.ensures.value)) c.insert.ensures; rest = record { rest = refl } }) c.node_mut-node.result.now (sym c.node_mut-node.ensures.value) (not-full c.node_mut-node.result.now c.if-is_full.ensures)))))

pub returns-clause-returned : goal.returns-clause-returned
returns-clause-returned g c =
    search rules steps 200000

pub returns-clause-refused : goal.returns-clause-refused
returns-clause-refused g c =
    search rules steps 200000

pub insert_and_split-requires-clause-parent : goal.insert_and_split-requires-clause-parent
insert_and_split-requires-clause-parent g c =
    rw (← c.addr.view_is) (subst (λ (t : TreeState _ _). HasParent (node_map t) c.addr.inside.id c.parent-parent.result) (sym (same-state c.args.tree.now c.addr.inside.id c.node_mut-node.result.now c.node_mut-node.result.now c.node_mut-node.ensures.value refl))
    (parent-there c.args.tree.now.nodes c.addr.inside.id c.node_mut-node.result.now (sym c.node_mut-node.ensures.value) c.parent-parent.result
    c.parent-parent.ensures.value))

pub parent-parent-requires : goal.parent-parent-requires
parent-parent-requires g c = c.tell_fits.ensures

pub item_count-count-requires : goal.item_count-count-requires
item_count-count-requires g c = c.tell_fits.ensures

pub parent-parent-requires-2 : goal.parent-parent-requires-2
parent-parent-requires-2 g c = c.tell_fits.ensures
