use Rattle.std.proofs.lemmas.Option.{slice_get_within}
use Rattle.btree_walk.proofs.Common.{sym, arith}
use Rattle.btree_node.proofs.RoomLemmas.{drop-next, drop-none}
use Rattle.btree_walk.proofs.ancestors.next_in_leaf.Goals as goal

pub returns-in-Some-get-clause-first : goal.returns-in-Some-get-clause-first
returns-in-Some-get-clause-first g c =
    rw (c.in-Some.is, c.key.ensures, c.value.ensures)
    (drop-next c.in-Some.leaf.now.items c.args.passed _ (rw (← c.items.ensures) (sym c.in-Some-get.ensures)))

pub returns-in-None-get-clause-first : goal.returns-in-None-get-clause-first
returns-in-None-get-clause-first g c =
    rw c.in-Some.is (drop-none c.in-Some.leaf.now.items c.args.passed (rw (← c.items.ensures) (sym c.in-None-get.ensures)))

pub item_count-few-requires : goal.item_count-few-requires
item_count-few-requires g c = assumption

pub returns-in-Some-get-clause-fits : goal.returns-in-Some-get-clause-fits
returns-in-Some-get-clause-fits g c = let at = rw c.items.ensures at c.in-Some-get.ensures in let low = slice_get_within c.in-Some.leaf.now.items c.args.passed _ (sym at) in omega (arith, low, c.item_count-few.ensures.value, c.item_count-few.ensures.fits)
