use Rattle.btree_ext.proofs.Common.{arith, refl, sym, same-len, view}
use Rattle.btree_raw.proofs.ClaimLemmas.{claims-low}
use Rattle.btree_ext.proofs.MoreLemmas.{can-add, more-inserted, splitting, the-leaf}
use Rattle.btree_ext.proofs.insertion.insert_claimed.Goals as goal

pub unwrap-index-requires : goal.unwrap-index-requires
unwrap-index-requires g c =
    let n = rw (← c.addr.view_is) at c.requires in
    let l = the-leaf g.K.Ord.cmp g.met.K.Ord.total n.0 n.1.some n.1.tree c.args.item.0 c.args.item.1 (view c.addr.inside) n.1.gap in
    rw l.offset refl

pub add_and_split-at-requires-clause-can : goal.add_and_split-at-requires-clause-can
add_and_split-at-requires-clause-can g c =
    let n = rw (← c.addr.view_is) at c.requires in
    can-add g.K.Ord.cmp g.met.K.Ord.total n.0 n.1.some n.1.tree c.args.item.0 c.args.item.1 (view c.addr.inside) n.1.gap
    c.args.claims.now.items c.args.tree.now n.1.claimed n.1.enough c.unwrap-index.result (sym c.unwrap-index.ensures.value)

pub add_and_split-at-requires-clause-splitting : goal.add_and_split-at-requires-clause-splitting
add_and_split-at-requires-clause-splitting g c = rw (← c.addr.view_is) (λ added adds.
    let n = rw (← c.addr.view_is) at c.requires in
    splitting g.K.Ord.cmp g.met.K.Ord.total n.0 n.1.some n.1.tree c.args.item.0 c.args.item.1 (view c.addr.inside) n.1.gap
    c.args.claims.now.items c.args.tree.now n.1.claimed n.1.enough added c.unwrap-index.result (sym c.unwrap-index.ensures.value) adds)

pub add_and_split-at-requires-clause-numbers : goal.add_and_split-at-requires-clause-numbers
add_and_split-at-requires-clause-numbers g c =
    let n = rw (← c.addr.view_is) at c.requires in
    claims-low n.0.nodes c.args.claims.now.items n.1.claimed.claimed.claims

pub overflow_add-len : goal.overflow_add-len
overflow_add-len g c =
    let n = c.requires in
    let claimed = same-len n.1.claimed.rest in
    let added = same-len c.add_and_split-at.ensures.split.adds.rest in
    let split = c.add_and_split-at.ensures.split.splits.len in
    let room = n.1.room in
    rw c.len.ensures (omega arith)

pub returns : goal.returns
returns g c = rw (← c.addr.view_is) (λ base needed.
    rw (c.set_len.ensures, c.len.ensures)
    (more-inserted g.K.Ord.cmp g.met.K.Ord.total base needed.some needed.tree c.args.item.0 c.args.item.1 (view c.addr.inside) needed.gap
    c.args.claims.now.items c.args.tree.now needed.claimed needed.enough c.add_and_split-at.ensures.split.added c.unwrap-index.result (sym c.unwrap-index.ensures.value) c.add_and_split-at.ensures.split.adds
    c.add_and_split-at.new.tree c.add_and_split-at.result (rw (← c.addr.view_is) at c.add_and_split-at.ensures.split.splits) needed.below_limit))
