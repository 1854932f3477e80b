use Rattle.btree_ext.proofs.Common.{[], arith, refl, sym, ◌∙◌, same-len, view}
use Rattle.btree_raw.proofs.NeedLemmas.{need-split_need}
use Rattle.btree_ext.proofs.MoreLemmas.{can-add-first, leaf-used, more-inserted, none-claimed, unsplit}
use Rattle.btree_ext.proofs.insertion.insert_more.Goals as goal

pub unwrap-requires : goal.unwrap-requires
unwrap-requires g c = rw (← c.addr.view_is) at c.requires.gap.back

pub add_item_in_room-requires : goal.add_item_in_room-requires
add_item_in_room-requires g c =
    can-add-first g.K.Ord.cmp g.met.K.Ord.total c.args.tree.now c.requires.some c.requires.tree c.args.item.0 c.args.item.1 (view c.addr.inside) (rw (← c.addr.view_is) at c.requires.gap)
    c.unwrap.result (sym c.unwrap.ensures.value)

pub returns-in-Ok-clause-inserted : goal.returns-in-Ok-clause-inserted
returns-in-Ok-clause-inserted g c =
    rw (← c.addr.view_is) (let used = leaf-used g.K.Ord.cmp g.met.K.Ord.total c.args.tree.now c.requires.some c.requires.tree c.args.item.0 c.args.item.1 (view c.addr.inside) (rw (← c.addr.view_is) at c.requires.gap) in
    let enough = sym c.in-Ok.ensures.enough ∙ need-split_need g.K.Ord.cmp c.args.tree.now c.addr.inside.id c.requires.tree used in
    rw (c.set_len.ensures, c.len.ensures)
    (more-inserted g.K.Ord.cmp g.met.K.Ord.total c.args.tree.now c.requires.some c.requires.tree c.args.item.0 c.args.item.1 (view c.addr.inside) (rw (← c.addr.view_is) at c.requires.gap)
    [] c.args.tree.now (none-claimed c.args.tree.now) enough c.add_item_in_room.new.tree c.unwrap.result (sym c.unwrap.ensures.value) c.in-Ok.ensures.added
    c.add_item_in_room.new.tree (view c.addr.inside)
    (unsplit g.K.Ord.cmp g.met.K.Ord.total c.args.tree.now c.requires.some c.requires.tree c.args.item.0 c.args.item.1 (view c.addr.inside) (rw (← c.addr.view_is) at c.requires.gap)
    [] c.args.tree.now (none-claimed c.args.tree.now) enough c.add_item_in_room.new.tree c.unwrap.result (sym c.unwrap.ensures.value) c.in-Ok.ensures.added refl)
    c.requires.granted))

pub need_above-count-requires : goal.need_above-count-requires
need_above-count-requires g c = record {
  sound = rw c.in-Err.ensures.unchanged c.requires.tree;
  full = rw c.in-Err.ensures.unchanged c.in-Err.ensures.full;
  parent = rw c.in-Err.ensures.unchanged c.in-Err.ensures.parent;
}

pub insert_and_split-requires : goal.insert_and_split-requires
insert_and_split-requires g c = record {
  tree = rw c.in-Err.ensures.unchanged c.requires.tree;
  some = rw c.in-Err.ensures.unchanged c.requires.some;
  gap = rw (c.in-Err.ensures.unchanged, c.in-Err.ensures.returned) c.requires.gap;
  room = rw c.in-Err.ensures.unchanged c.requires.room;
  granted = rw c.in-Err.ensures.unchanged c.requires.granted;
  enough = rw (← c.addr.view_is) c.need_above-count.ensures.value;
  few = c.need_above-count.ensures.few;
}

pub overflow_add-len : goal.overflow_add-len
overflow_add-len g c =
    let same = same-len c.in-Ok.ensures.added.rest in
    let room = c.requires.room in
    rw c.len.ensures (omega arith)

pub returns-in-Err-clause-inserted : goal.returns-in-Err-clause-inserted
returns-in-Err-clause-inserted g c = rw (c.in-Err.ensures.unchanged, c.in-Err.ensures.returned) at c.insert_and_split.ensures.inserted

pub returns-in-Err-clause-returned : goal.returns-in-Err-clause-returned
returns-in-Err-clause-returned g c = rw c.in-Err.ensures.returned at c.insert_and_split.ensures.returned

pub returns-in-Err-clause-refused : goal.returns-in-Err-clause-refused
returns-in-Err-clause-refused g c = rw c.in-Err.ensures.unchanged at c.insert_and_split.ensures.refused
