use Rattle.btree_ext.proofs.Common.{◌≡◌, ◌<◌, ◌^◌, ℕ, arith, TreeState, node_map}
use Rattle.btree_raw.proofs.RebalanceLemmas.{enough-rebalanced}
use Rattle.btree_raw.proofs.StepLemmas.{size-at}
use Rattle.btree_ext.specs.Taken.{one_less}
use Rattle.btree_ext.proofs.taken.settle.Goals as goal

-- a length that was read
low : {K V : Type 0} (s : TreeState K V) (len : ℕ) → len ≡ s.len → len < 2 ^ 64 → s.len < 2 ^ 64
low s len e fits = omega arith

pub overflow_sub-len : goal.overflow_sub-len
overflow_sub-len g c =
    let some = (c.requires (low c.args.tree.now c.len-len.result c.len-len.ensures c.len-len.type_inv)).some in
    let e = c.len-len.ensures in
    omega arith

pub rebalance_fetched-requires-clause-off_by_one : goal.rebalance_fetched-requires-clause-off_by_one
rebalance_fetched-requires-clause-off_by_one g c = rw (c.set_len.ensures, c.len-len.ensures) (c.requires (low c.args.tree.now c.len-len.result c.len-len.ensures c.len-len.type_inv)).off

pub rebalance_fetched-requires-clause-valid : goal.rebalance_fetched-requires-clause-valid
rebalance_fetched-requires-clause-valid g c = rw c.set_len.ensures (c.requires (low c.args.tree.now c.len-len.result c.len-len.ensures c.len-len.type_inv)).valid

pub rebalance_fetched-requires-clause-room : goal.rebalance_fetched-requires-clause-room
rebalance_fetched-requires-clause-room g c = rw c.set_len.ensures (c.requires (low c.args.tree.now c.len-len.result c.len-len.ensures c.len-len.type_inv)).room

pub rebalance_fetched-requires-clause-count : goal.rebalance_fetched-requires-clause-count
rebalance_fetched-requires-clause-count g c = rw c.set_len.ensures (c.requires (low c.args.tree.now c.len-len.result c.len-len.ensures c.len-len.type_inv)).counted

pub rebalance_fetched-requires-clause-parent : goal.rebalance_fetched-requires-clause-parent
rebalance_fetched-requires-clause-parent g c = rw c.set_len.ensures (c.requires (low c.args.tree.now c.len-len.result c.len-len.ensures c.len-len.type_inv)).above

pub returns-then-count-ge-MIN_ITEMS-clause-few : goal.returns-then-count-ge-MIN_ITEMS-clause-few
returns-then-count-ge-MIN_ITEMS-clause-few g c = low c.args.tree.now c.len-len.result c.len-len.ensures c.len-len.type_inv

pub returns-then-count-ge-MIN_ITEMS-clause-rebalanced : goal.returns-then-count-ge-MIN_ITEMS-clause-rebalanced
returns-then-count-ge-MIN_ITEMS-clause-rebalanced g c =
    let l = c.requires (low c.args.tree.now c.len-len.result c.len-len.ensures c.len-len.type_inv) in
    let size = size-at (node_map c.args.tree.now) c.args.id c.args.count l.room.node l.room.here l.counted in
    let enough = c.if-count-ge-MIN_ITEMS.true in
    rw (c.set_len.ensures, c.len-len.ensures)
    (enough-rebalanced g.K.Ord.cmp g.met.K.Ord.total (one_less c.args.tree.now) c.args.id l.off c.args.addr l.valid l.room (omega arith))

pub returns-clause-few : goal.returns-clause-few
returns-clause-few g c = low c.args.tree.now c.len-len.result c.len-len.ensures c.len-len.type_inv

pub returns-clause-rebalanced : goal.returns-clause-rebalanced
returns-clause-rebalanced g c = rw (c.set_len.ensures, c.len-len.ensures) at c.rebalance_fetched.ensures
