use Rattle.btree_raw.proofs.Common.{◌∙◌, arith, refl, sym, rules, view, common_steps}
use Rattle.btree_raw.proofs.ClaimLemmas.{claims-low}
use Rattle.btree_raw.proofs.PutLemmas.{can-add-claimed, old-counting, put-refused, put-splitting, split-inserted}
use Rattle.btree_raw.proofs.StateLemmas.{same-len}
use Rattle.btree_raw.proofs.insertion.insert_and_split.Goals as goal

pub tell_fits-requires : goal.tell_fits-requires
tell_fits-requires g c κs =
    search rules steps 200000

pub split_need_above-count-requires-clause-counting : goal.split_need_above-count-requires-clause-counting
split_need_above-count-requires-clause-counting g c =
    old-counting g.K.Ord.cmp g.met.K.Ord.total c.args.tree.now (view c.addr.inside) c.args.item c.args.child (rw (← c.addr.view_is) at c.requires.off_by_one) (rw (← c.addr.view_is) at c.requires.full)

pub split_need_above-count-requires-clause-full : goal.split_need_above-count-requires-clause-full
split_need_above-count-requires-clause-full g c =
    rw (← c.addr.view_is) at c.requires.full

pub split_need_above-count-requires-clause-parent : goal.split_need_above-count-requires-clause-parent
split_need_above-count-requires-clause-parent g c =
    rw (← c.addr.view_is) at c.requires.parent

pub new-claims-requires : goal.new-claims-requires
new-claims-requires g c =
    search rules steps 200000

pub claim-requires-clause-few : goal.claim-requires-clause-few
claim-requires-clause-few g c =
    grind (arith, common_steps) steps 1500000

pub claim-requires-clause-none : goal.claim-requires-clause-none
claim-requires-clause-none g c =
    search rules steps 200000

pub refused-requires : goal.refused-requires
refused-requires g c κs =
    search rules steps 200000

pub returns-then-not-claim-clause-inserted : goal.returns-then-not-claim-clause-inserted
returns-then-not-claim-clause-inserted g c =
    search rules steps 200000

pub returns-then-not-claim-clause-returned : goal.returns-then-not-claim-clause-returned
returns-then-not-claim-clause-returned g c =
    grind (arith, common_steps) steps 300000

pub returns-then-not-claim-clause-refused : goal.returns-then-not-claim-clause-refused
returns-then-not-claim-clause-refused g c = rw (← c.addr.view_is) (rw c.refused.ensures (put-refused g.K.Ord.cmp g.met.K.Ord.total c.args.tree.now (view c.addr.inside) c.args.item c.args.child (rw (← c.addr.view_is) at c.requires.off_by_one) (rw (← c.addr.view_is) at c.requires.full) g.C.NodesMut.MayRefuse c.claim.new.tree c.split_need_above-count.result c.split_need_above-count.ensures.value (c.claim.ensures.refused c.if-not-claim.true) (c.claim.ensures.may_refuse c.if-not-claim.true) c.requires.granted))

pub unwrap-index-requires : goal.unwrap-index-requires
unwrap-index-requires g c =
    let off = rw (← c.addr.view_is) at c.requires.off_by_one in
    let o = off.puts.offset in
    rw o refl

pub add_and_split-at-requires-clause-can : goal.add_and_split-at-requires-clause-can
add_and_split-at-requires-clause-can g c =
    can-add-claimed g.K.Ord.cmp g.met.K.Ord.total c.args.tree.now (view c.addr.inside) c.args.item c.args.child (rw (← c.addr.view_is) at c.requires.off_by_one) (rw (← c.addr.view_is) at c.requires.full) c.claim.new.claims.items c.claim.new.tree (c.claim.ensures.claimed c.if-not-claim.false) (c.claim.ensures.count c.if-not-claim.false ∙ c.split_need_above-count.ensures.value) c.unwrap-index.result (sym c.unwrap-index.ensures.value)

pub add_and_split-at-requires-clause-splitting : goal.add_and_split-at-requires-clause-splitting
add_and_split-at-requires-clause-splitting g c =
    rw (← c.addr.view_is) (λ added adds. put-splitting g.K.Ord.cmp g.met.K.Ord.total c.args.tree.now (view c.addr.inside) c.args.item c.args.child (rw (← c.addr.view_is) at c.requires.off_by_one) (rw (← c.addr.view_is) at c.requires.full) c.claim.new.claims.items c.claim.new.tree (c.claim.ensures.claimed c.if-not-claim.false) (c.claim.ensures.count c.if-not-claim.false ∙ c.split_need_above-count.ensures.value)
    added c.unwrap-index.result (sym c.unwrap-index.ensures.value) adds)

pub add_and_split-at-requires-clause-numbers : goal.add_and_split-at-requires-clause-numbers
add_and_split-at-requires-clause-numbers g c =
    claims-low c.args.tree.now.nodes c.claim.new.claims.items (c.claim.ensures.claimed c.if-not-claim.false).claimed.claims

pub len-requires : goal.len-requires
len-requires g c κs =
    search rules steps 200000

pub overflow_add-len : goal.overflow_add-len
overflow_add-len g c =
    let claimed = same-len (c.claim.ensures.claimed c.if-not-claim.false).rest in
    let added = same-len c.add_and_split-at.ensures.split.adds.rest in
    let split = c.add_and_split-at.ensures.split.splits.len in
    let room = c.requires.room in
    rw c.len.ensures (omega arith)

pub set_len-requires : goal.set_len-requires
set_len-requires g c κs =
    search rules steps 200000

pub returns-clause-inserted : goal.returns-clause-inserted
returns-clause-inserted g c =
    rw (← c.addr.view_is) (rw (c.set_len.ensures, c.len.ensures)
    (split-inserted g.K.Ord.cmp g.met.K.Ord.total c.args.tree.now (view c.addr.inside) c.args.item c.args.child (rw (← c.addr.view_is) at c.requires.off_by_one) (rw (← c.addr.view_is) at c.requires.full) c.claim.new.claims.items c.claim.new.tree (c.claim.ensures.claimed c.if-not-claim.false) (c.claim.ensures.count c.if-not-claim.false ∙ c.split_need_above-count.ensures.value)
    c.add_and_split-at.ensures.split.added c.unwrap-index.result (sym c.unwrap-index.ensures.value) c.add_and_split-at.ensures.split.adds c.add_and_split-at.new.tree c.add_and_split-at.result c.requires.rooted c.requires.granted (rw (← c.addr.view_is) at c.add_and_split-at.ensures.split.splits) (rw (← c.addr.view_is) at c.add_and_split-at.ensures.back)))

pub returns-clause-returned : goal.returns-clause-returned
returns-clause-returned g c =
    search rules steps 200000

pub returns-clause-refused : goal.returns-clause-refused
returns-clause-refused g c =
    search rules steps 200000
