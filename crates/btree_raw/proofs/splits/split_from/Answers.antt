use Rattle.btree_raw.proofs.Common.{◌≡◌, ◌∙◌, ℕ, subst, sym, arith, NodeMap, node_map, times_used}
use Rattle.btree_raw.specs.Steps.{AreSplit, MayCut}
use Rattle.btree_raw.proofs.StateLemmas.{then, same-len, same-root, same-kept}
use Rattle.btree_raw.proofs.UpwardLemmas.{ReachesCut, cut-length, reached-back, reached-cut, reached-grow_root, reached-next, reached-none-left, reached-number, reached-offset, reached-root, reached-root-left, reached-separator, reached-used, upward-done, upward-none-left, upward-start}
use Rattle.btree_raw.proofs.splits.split_from.Goals as goal

pub loop-next-init : goal.loop-next-init
loop-next-init g c = λ begun spare is. record {
  reached = record {
    whole = node_map begun;
    before = spare;
    up_to = upward-start _ (node_map begun) begun.root c.args.start spare c.args.addr is.low;
    cuts = is.cuts.nodes;
  };
  rest = is.cuts.rest;
}

pub take_claim-root-requires : goal.take_claim-root-requires
take_claim-root-requires g c = reached-root-left (node_map c.requires.begun.0) (node_map c.loop-next.tree) c.requires.begun.0.root c.args.start c.loop-next.id c.requires.begun.1 c.loop-next.claims.items c.args.addr c.loop-next.at c.requires.begun.2.splitting c.in-Some.cut (subst (λ o. ReachesCut (node_map c.requires.begun.0) (node_map c.loop-next.tree) c.requires.begun.0.root c.args.start c.loop-next.id c.requires.begun.1 c.loop-next.claims.items c.args.addr c.loop-next.at o) c.in-Some.is (c.loop-next.invariant c.requires.begun.0 c.requires.begun.1 c.requires.begun.2).reached) c.in_default-parent.is

pub grow_root-requires-clause-can : goal.grow_root-requires-clause-can
grow_root-requires-clause-can g c = reached-grow_root (node_map c.requires.begun.0) (node_map c.loop-next.tree) c.requires.begun.0.root c.args.start c.loop-next.id c.requires.begun.1 c.loop-next.claims.items c.args.addr c.loop-next.at c.requires.begun.2.splitting c.in-Some.cut (subst (λ o. ReachesCut (node_map c.requires.begun.0) (node_map c.loop-next.tree) c.requires.begun.0.root c.args.start c.loop-next.id c.requires.begun.1 c.loop-next.claims.items c.args.addr c.loop-next.at o) c.in-Some.is (c.loop-next.invariant c.requires.begun.0 c.requires.begun.1 c.requires.begun.2).reached) c.in_default-parent.is c.take_claim-root.new.claims.items c.take_claim-root.result c.take_claim-root.ensures

pub grow_root-requires-clause-number : goal.grow_root-requires-clause-number
grow_root-requires-clause-number g c = reached-number (node_map c.requires.begun.0) (node_map c.loop-next.tree) c.requires.begun.0.root c.args.start c.loop-next.id c.requires.begun.1 c.loop-next.claims.items c.args.addr c.loop-next.at c.requires.begun.2.splitting c.in-Some.cut (subst (λ o. ReachesCut (node_map c.requires.begun.0) (node_map c.loop-next.tree) c.requires.begun.0.root c.args.start c.loop-next.id c.requires.begun.1 c.loop-next.claims.items c.args.addr c.loop-next.at o) c.in-Some.is (c.loop-next.invariant c.requires.begun.0 c.requires.begun.1 c.requires.begun.2).reached) c.in_default-parent.is c.take_claim-root.new.claims.items c.take_claim-root.result c.take_claim-root.ensures

pub moved_by_split-requires-clause-offset : goal.moved_by_split-requires-clause-offset
moved_by_split-requires-clause-offset g c = reached-offset (node_map c.requires.begun.0) (node_map c.loop-next.tree) c.requires.begun.0.root c.args.start c.loop-next.id c.requires.begun.1 c.loop-next.claims.items c.args.addr c.loop-next.at c.requires.begun.2.splitting c.in-Some.cut (subst (λ o. ReachesCut (node_map c.requires.begun.0) (node_map c.loop-next.tree) c.requires.begun.0.root c.args.start c.loop-next.id c.requires.begun.1 c.loop-next.claims.items c.args.addr c.loop-next.at o) c.in-Some.is (c.loop-next.invariant c.requires.begun.0 c.requires.begun.1 c.requires.begun.2).reached)

pub returns-in_default-parent-clause-split : goal.returns-in_default-parent-clause-split
returns-in_default-parent-clause-split g c = λ begun spare is.
    let rest = then (c.loop-next.invariant begun spare is).rest c.grow_root.ensures.rest in
    rw (c.set_root_id.ensures, c.moved_by_split.ensures)
    (record {
      split = reached-root (node_map begun) (node_map c.loop-next.tree) begun.root c.args.start c.loop-next.id spare c.loop-next.claims.items c.args.addr c.loop-next.at is.splitting c.in-Some.cut (subst (λ o. ReachesCut (node_map begun) (node_map c.loop-next.tree) begun.root c.args.start c.loop-next.id spare c.loop-next.claims.items c.args.addr c.loop-next.at o) c.in-Some.is (c.loop-next.invariant begun spare is).reached) c.in_default-parent.is c.take_claim-root.new.claims.items c.take_claim-root.result c.take_claim-root.ensures (node_map c.grow_root.new.tree) c.grow_root.ensures.nodes;
      used = reached-used (node_map begun) (node_map c.loop-next.tree) begun.root c.args.start c.loop-next.id spare c.loop-next.claims.items c.args.addr c.loop-next.at is.splitting c.in-Some.cut (subst (λ o. ReachesCut (node_map begun) (node_map c.loop-next.tree) begun.root c.args.start c.loop-next.id spare c.loop-next.claims.items c.args.addr c.loop-next.at o) c.in-Some.is (c.loop-next.invariant begun spare is).reached) c.in_default-parent.is c.take_claim-root.new.claims.items c.take_claim-root.result c.take_claim-root.ensures (node_map c.grow_root.new.tree) c.grow_root.ensures.nodes;
      len = same-len rest;
      uncounted = same-kept rest;
    })

pub returns-in_default-parent-clause-none_left : goal.returns-in_default-parent-clause-none_left
returns-in_default-parent-clause-none_left g c = reached-none-left (node_map c.requires.begun.0) (node_map c.loop-next.tree) c.requires.begun.0.root c.args.start c.loop-next.id c.requires.begun.1 c.loop-next.claims.items c.args.addr c.loop-next.at c.requires.begun.2.splitting c.in-Some.cut (subst (λ o. ReachesCut (node_map c.requires.begun.0) (node_map c.loop-next.tree) c.requires.begun.0.root c.args.start c.loop-next.id c.requires.begun.1 c.loop-next.claims.items c.args.addr c.loop-next.at o) c.in-Some.is (c.loop-next.invariant c.requires.begun.0 c.requires.begun.1 c.requires.begun.2).reached) c.in_default-parent.is c.take_claim-root.new.claims.items c.take_claim-root.result c.take_claim-root.ensures

pub returns-in_default-parent-clause-back : goal.returns-in_default-parent-clause-back
returns-in_default-parent-clause-back g c = rw c.moved_by_split.ensures (reached-back (node_map c.requires.begun.0) (node_map c.loop-next.tree) c.requires.begun.0.root c.args.start c.loop-next.id c.requires.begun.1 c.loop-next.claims.items c.args.addr c.loop-next.at c.requires.begun.2.splitting c.in-Some.cut (subst (λ o. ReachesCut (node_map c.requires.begun.0) (node_map c.loop-next.tree) c.requires.begun.0.root c.args.start c.loop-next.id c.requires.begun.1 c.loop-next.claims.items c.args.addr c.loop-next.at o) c.in-Some.is (c.loop-next.invariant c.requires.begun.0 c.requires.begun.1 c.requires.begun.2).reached) c.in_default-parent.is c.take_claim-root.new.claims.items c.take_claim-root.result c.take_claim-root.ensures (node_map c.grow_root.new.tree) c.grow_root.ensures.nodes)

pub insert_separator-index-requires-clause-can : goal.insert_separator-index-requires-clause-can
insert_separator-index-requires-clause-can g c = reached-separator (node_map c.requires.begun.0) (node_map c.loop-next.tree) c.requires.begun.0.root c.args.start c.loop-next.id c.requires.begun.1 c.loop-next.claims.items c.args.addr c.loop-next.at c.requires.begun.2.splitting c.in-Some.cut (subst (λ o. ReachesCut (node_map c.requires.begun.0) (node_map c.loop-next.tree) c.requires.begun.0.root c.args.start c.loop-next.id c.requires.begun.1 c.loop-next.claims.items c.args.addr c.loop-next.at o) c.in-Some.is (c.loop-next.invariant c.requires.begun.0 c.requires.begun.1 c.requires.begun.2).reached) c.in-Some-parent.above c.in-Some-parent.is

pub insert_separator-index-requires-clause-can_cut : goal.insert_separator-index-requires-clause-can_cut
insert_separator-index-requires-clause-can_cut g c = λ added k adds.
    reached-cut (node_map c.requires.begun.0) (node_map c.loop-next.tree) c.requires.begun.0.root c.args.start c.loop-next.id c.requires.begun.1 c.loop-next.claims.items c.args.addr c.loop-next.at c.requires.begun.2.splitting c.in-Some.cut (subst (λ o. ReachesCut (node_map c.requires.begun.0) (node_map c.loop-next.tree) c.requires.begun.0.root c.args.start c.loop-next.id c.requires.begun.1 c.loop-next.claims.items c.args.addr c.loop-next.at o) c.in-Some.is (c.loop-next.invariant c.requires.begun.0 c.requires.begun.1 c.requires.begun.2).reached) c.in-Some-parent.above c.in-Some-parent.is (node_map added) k adds.nodes

pub moved_by_split-at-requires-clause-offset : goal.moved_by_split-at-requires-clause-offset
moved_by_split-at-requires-clause-offset g c = reached-offset (node_map c.requires.begun.0) (node_map c.loop-next.tree) c.requires.begun.0.root c.args.start c.loop-next.id c.requires.begun.1 c.loop-next.claims.items c.args.addr c.loop-next.at c.requires.begun.2.splitting c.in-Some.cut (subst (λ o. ReachesCut (node_map c.requires.begun.0) (node_map c.loop-next.tree) c.requires.begun.0.root c.args.start c.loop-next.id c.requires.begun.1 c.loop-next.claims.items c.args.addr c.loop-next.at o) c.in-Some.is (c.loop-next.invariant c.requires.begun.0 c.requires.begun.1 c.requires.begun.2).reached)

pub loop-next-preserved : goal.loop-next-preserved
loop-next-preserved g c = λ begun spare is. record {
  reached = record {
    whole = node_map c.insert_separator-index.ensures.adds.added;
    before = c.loop-next.claims.items;
    up_to = rw c.moved_by_split-at.ensures
        (reached-next (node_map begun) (node_map c.loop-next.tree) begun.root c.args.start c.loop-next.id spare c.loop-next.claims.items c.args.addr c.loop-next.at is.splitting c.in-Some.cut (subst (λ o. ReachesCut (node_map begun) (node_map c.loop-next.tree) begun.root c.args.start c.loop-next.id spare c.loop-next.claims.items c.args.addr c.loop-next.at o) c.in-Some.is (c.loop-next.invariant begun spare is).reached) c.in-Some-parent.above c.in-Some-parent.is (node_map c.insert_separator-index.ensures.adds.added) c.insert_separator-index.result.0 c.insert_separator-index.ensures.adds.adds.nodes);
    cuts = c.insert_separator-index.ensures.adds.cuts.nodes;
  };
  rest = then (then (c.loop-next.invariant begun spare is).rest c.insert_separator-index.ensures.adds.adds.rest) c.insert_separator-index.ensures.adds.cuts.rest;
}

pub returns-clause-split : goal.returns-clause-split
returns-clause-split g c = λ begun spare is.
    let stays = (subst (λ o. MayCut (c.loop-next.invariant begun spare is).reached.whole (node_map c.loop-next.tree) c.loop-next.id (c.loop-next.invariant begun spare is).reached.before c.loop-next.claims.items o) c.in_default.is (c.loop-next.invariant begun spare is).reached.cuts) in
    record {
      split =
          rw (same-root (c.loop-next.invariant begun spare is).rest)
          (subst (λ m. AreSplit (node_map begun) m begun.root begun.root c.args.start spare c.args.addr c.loop-next.at) (sym stays.0.same)
          (upward-done _ (node_map begun) (c.loop-next.invariant begun spare is).reached.whole begun.root c.args.start c.loop-next.id spare (c.loop-next.invariant begun spare is).reached.before c.args.addr c.loop-next.at is.splitting (c.loop-next.invariant begun spare is).reached.up_to stays.0.node stays.0.here stays.0.room));
      used = subst (λ (m : NodeMap _). (n : ℕ) → times_used (m n) ≡ times_used (node_map begun n)) (sym stays.0.same) (c.loop-next.invariant begun spare is).reached.up_to.used;
      len = same-len (c.loop-next.invariant begun spare is).rest;
      uncounted = same-kept (c.loop-next.invariant begun spare is).rest;
    }

pub returns-clause-none_left : goal.returns-clause-none_left
returns-clause-none_left g c =
    let stays = (subst (λ o. MayCut (c.loop-next.invariant c.requires.begun.0 c.requires.begun.1 c.requires.begun.2).reached.whole (node_map c.loop-next.tree) c.loop-next.id (c.loop-next.invariant c.requires.begun.0 c.requires.begun.1 c.requires.begun.2).reached.before c.loop-next.claims.items o) c.in_default.is (c.loop-next.invariant c.requires.begun.0 c.requires.begun.1 c.requires.begun.2).reached.cuts) in
    stays.1 ∙ upward-none-left _ (node_map c.requires.begun.0) (c.loop-next.invariant c.requires.begun.0 c.requires.begun.1 c.requires.begun.2).reached.whole c.requires.begun.0.root c.args.start c.loop-next.id c.requires.begun.1 (c.loop-next.invariant c.requires.begun.0 c.requires.begun.1 c.requires.begun.2).reached.before c.args.addr c.loop-next.at c.requires.begun.2.splitting (c.loop-next.invariant c.requires.begun.0 c.requires.begun.1 c.requires.begun.2).reached.up_to stays.0.node stays.0.here stays.0.room

pub returns-clause-back : goal.returns-clause-back
returns-clause-back g c = (c.loop-next.invariant c.requires.begun.0 c.requires.begun.1 c.requires.begun.2).reached.up_to.back

pub loop-next-smaller : goal.loop-next-smaller
loop-next-smaller g c =
    rw c.in-Some.is
    (let less = cut-length _ _ c.in-Some-parent.above c.loop-next.claims.items c.insert_separator-index.new.claims.items c.insert_separator-index.result.1 c.insert_separator-index.ensures.adds.cuts.nodes in omega arith)
