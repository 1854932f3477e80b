use Rattle.btree_raw.proofs.Common.{◌∙◌, Some, refl, ap, subst, arith, node_map, used-view, AreFixed}
use Rattle.btree_raw.proofs.FetchedLemmas.{count-there, parent-there}
use Rattle.btree_raw.proofs.FixedLemmas.{fit-some, fix-start, short-unfit, still-followed, still-fixing, fix-used, fix-low, fix-enough, fix-here, fix-root, fix-above, fix-lower-of}
use Rattle.btree_raw.proofs.StateLemmas.{same-len, same-kept, same-root, then}
use Rattle.btree_raw.proofs.underflow.fix_underflow_upward.Goals as goal

pub loop-held-init : goal.loop-held-init
loop-held-init g c = record {
  up_to = fix-start _ (node_map c.args.tree.now) c.args.tree.now.root c.args.start c.args.addr;
  rest = record { rest = refl };
  count = c.requires.1.1.1.1.1.0;
  parent = c.requires.1.1.1.1.1.1;
  stays = λ fit. record { same_tree = refl; same_address = refl };
  fit = λ fit. fit;
}

pub returns-clause-fixed : goal.returns-clause-fixed
returns-clause-fixed g c = record {
  fixed = rw (same-root c.loop-held.invariant.rest) (fix-enough (node_map c.args.tree.now) (node_map c.loop-held.tree) c.args.tree.now.root c.args.start c.loop-held.id c.args.addr c.loop-held.at c.requires.1.1.1.1.0.fixing c.loop-held.invariant.up_to c.loop-held.held c.loop-held.invariant.count (omega (arith, c.loop-held-test.false)));
  len = same-len c.loop-held.invariant.rest;
  uncounted = same-kept c.loop-held.invariant.rest;
}

pub returns-clause-settled : goal.returns-clause-settled
returns-clause-settled g c = c.loop-held.invariant.stays

pub returns-clause-back : goal.returns-clause-back
returns-clause-back g c = c.loop-held.invariant.up_to.back

pub fix_root-requires-clause-fixing : goal.fix_root-requires-clause-fixing
fix_root-requires-clause-fixing g c = rw (same-root c.loop-held.invariant.rest) (still-fixing (node_map c.args.tree.now) (node_map c.loop-held.tree) c.args.tree.now.root c.args.start c.loop-held.id c.args.addr c.loop-held.at c.requires.1.1.1.1.0.fixing c.loop-held.invariant.up_to)

pub fix_root-requires-clause-top : goal.fix_root-requires-clause-top
fix_root-requires-clause-top g c = c.loop-held.invariant.parent ∙ ap Some c.in_default.is

pub fix_root-requires-clause-count : goal.fix_root-requires-clause-count
fix_root-requires-clause-count g c = c.loop-held.invariant.count

pub returns-in_default-clause-fixed : goal.returns-in_default-clause-fixed
returns-in_default-clause-fixed g c =
    record {
      fixed = fix-root (node_map c.args.tree.now) (node_map c.loop-held.tree) c.args.tree.now.root c.args.start c.loop-held.id c.args.addr c.loop-held.at c.requires.1.1.1.1.0.fixing c.loop-held.invariant.up_to (node_map c.fix_root.new.tree) c.fix_root.new.tree.root c.fix_root.result
          (subst (λ r. AreFixed (node_map c.loop-held.tree) (node_map c.fix_root.new.tree) r c.fix_root.new.tree.root c.loop-held.id c.loop-held.at c.fix_root.result) (same-root c.loop-held.invariant.rest) c.fix_root.ensures.fixed.fixed);
      len = c.fix_root.ensures.fixed.len ∙ same-len c.loop-held.invariant.rest;
      uncounted = c.fix_root.ensures.fixed.uncounted ∙ same-kept c.loop-held.invariant.rest;
    }

pub returns-in_default-clause-back : goal.returns-in_default-clause-back
returns-in_default-clause-back g c = λ is. c.fix_root.ensures.back (c.loop-held.invariant.up_to.back is)

pub returns-in_default-clause-settled : goal.returns-in_default-clause-settled
returns-in_default-clause-settled g c = λ fit.
    let before = c.loop-held.invariant.stays fit in
    let last = c.fix_root.ensures.settled (fit-some (node_map c.loop-held.tree) c.args.tree.now.root c.loop-held.id c.loop-held.held (c.loop-held.invariant.fit fit) c.loop-held.invariant.count) in
    record { same_tree = last.same_tree ∙ before.same_tree; same_address = last.same_address ∙ before.same_address }

pub fix_underflow_at-moved-requires-clause-followed : goal.fix_underflow_at-moved-requires-clause-followed
fix_underflow_at-moved-requires-clause-followed g c = still-followed (node_map c.args.tree.now) (node_map c.loop-held.tree) c.args.tree.now.root c.args.start c.loop-held.id c.args.addr c.loop-held.at c.requires.1.1.1.1.0.fixing c.loop-held.invariant.up_to

pub fix_underflow_at-moved-requires-clause-under : goal.fix_underflow_at-moved-requires-clause-under
fix_underflow_at-moved-requires-clause-under g c = (c.loop-held.invariant.parent ∙ ap Some c.in-Some.is)

pub fix_underflow_at-moved-requires-clause-count : goal.fix_underflow_at-moved-requires-clause-count
fix_underflow_at-moved-requires-clause-count g c = c.loop-held.invariant.count

pub fix_underflow_at-moved-requires-clause-low : goal.fix_underflow_at-moved-requires-clause-low
fix_underflow_at-moved-requires-clause-low g c = fix-low (node_map c.args.tree.now) (node_map c.loop-held.tree) c.args.tree.now.root c.args.start c.loop-held.id c.args.addr c.loop-held.at c.requires.1.1.1.1.0.fixing c.loop-held.invariant.up_to

pub returns-then-not-up-clause-fixed : goal.returns-then-not-up-clause-fixed
returns-then-not-up-clause-fixed g c = record {
  fixed = rw (same-root (then c.loop-held.invariant.rest c.fix_underflow_at-moved.ensures.rest)) (fix-here (node_map c.args.tree.now) (node_map c.loop-held.tree) c.args.tree.now.root c.args.start c.loop-held.id c.args.addr c.loop-held.at c.requires.1.1.1.1.0.fixing c.loop-held.invariant.up_to (node_map c.fix_underflow_at-moved.new.tree) c.fix_underflow_at-moved.result.0 (c.fix_underflow_at-moved.ensures.here c.if-not-up.true)
      c.in-Some.parent c.loop-held.held (c.loop-held.invariant.parent ∙ ap Some c.in-Some.is) c.loop-held.invariant.count (omega arith) (c.fix_underflow_at-moved.ensures.borrows c.if-not-up.true));
  len = same-len (then c.loop-held.invariant.rest c.fix_underflow_at-moved.ensures.rest);
  uncounted = same-kept (then c.loop-held.invariant.rest c.fix_underflow_at-moved.ensures.rest);
}

pub returns-then-not-up-clause-back : goal.returns-then-not-up-clause-back
returns-then-not-up-clause-back g c = λ is. c.fix_underflow_at-moved.ensures.back (c.loop-held.invariant.up_to.back is)

pub returns-then-not-up-clause-settled : goal.returns-then-not-up-clause-settled
returns-then-not-up-clause-settled g c = λ fit.
    absurd (short-unfit (node_map c.args.tree.now) (node_map c.loop-held.tree) c.args.tree.now.root c.args.start c.loop-held.id c.args.addr c.loop-held.at c.requires.1.1.1.1.0.fixing c.loop-held.invariant.up_to
    c.in-Some.parent c.loop-held.held (c.loop-held.invariant.parent ∙ ap Some c.in-Some.is) c.loop-held.invariant.count (omega arith) (c.loop-held.invariant.fit fit))

pub node-node-requires : goal.node-node-requires
node-node-requires g c = (
  c.tell_fits.ensures,
  used-view c.fix_underflow_at-moved.new.tree.nodes c.in-Some.parent
      (fix-used (node_map c.args.tree.now) (node_map c.fix_underflow_at-moved.new.tree) c.args.tree.now.root c.args.start c.in-Some.parent c.args.addr c.fix_underflow_at-moved.result.0 c.requires.1.1.1.1.0.fixing
      (fix-above (node_map c.args.tree.now) (node_map c.loop-held.tree) c.args.tree.now.root c.args.start c.loop-held.id c.args.addr c.loop-held.at c.requires.1.1.1.1.0.fixing c.loop-held.invariant.up_to (node_map c.fix_underflow_at-moved.new.tree) c.in-Some.parent c.fix_underflow_at-moved.result.0 (c.fix_underflow_at-moved.ensures.above c.if-not-up.false) c.fix_underflow_at-moved.ensures.back c.loop-held.held (c.loop-held.invariant.parent ∙ ap Some c.in-Some.is) c.loop-held.invariant.count (omega arith) (c.fix_underflow_at-moved.ensures.merges c.if-not-up.false))),
)

pub loop-held-smaller : goal.loop-held-smaller
loop-held-smaller g c = fix-lower-of (node_map c.args.tree.now) (node_map c.loop-held.tree) c.args.tree.now.root c.args.start c.loop-held.id c.args.addr c.loop-held.at c.requires.1.1.1.1.0.fixing c.loop-held.invariant.up_to (node_map c.fix_underflow_at-moved.new.tree) c.in-Some.parent c.fix_underflow_at-moved.result.0 (c.fix_underflow_at-moved.ensures.above c.if-not-up.false) g.items c.requires.1.1.1.1.0.items

pub loop-held-preserved : goal.loop-held-preserved
loop-held-preserved g c = record {
  up_to = fix-above (node_map c.args.tree.now) (node_map c.loop-held.tree) c.args.tree.now.root c.args.start c.loop-held.id c.args.addr c.loop-held.at c.requires.1.1.1.1.0.fixing c.loop-held.invariant.up_to (node_map c.fix_underflow_at-moved.new.tree) c.in-Some.parent c.fix_underflow_at-moved.result.0 (c.fix_underflow_at-moved.ensures.above c.if-not-up.false) c.fix_underflow_at-moved.ensures.back c.loop-held.held (c.loop-held.invariant.parent ∙ ap Some c.in-Some.is) c.loop-held.invariant.count (omega arith) (c.fix_underflow_at-moved.ensures.merges c.if-not-up.false);
  rest = then c.loop-held.invariant.rest c.fix_underflow_at-moved.ensures.rest;
  count = count-there c.fix_underflow_at-moved.new.tree.nodes c.in-Some.parent c.node-node.result.now c.node-node.ensures.value c.item_count-held.result c.item_count-held.ensures.value;
  parent = parent-there c.fix_underflow_at-moved.new.tree.nodes c.in-Some.parent c.node-node.result.now c.node-node.ensures.value c.parent-above.result c.parent-above.ensures.value;
  stays = λ fit. absurd (short-unfit (node_map c.args.tree.now) (node_map c.loop-held.tree) c.args.tree.now.root c.args.start c.loop-held.id c.args.addr c.loop-held.at c.requires.1.1.1.1.0.fixing c.loop-held.invariant.up_to
      c.in-Some.parent c.loop-held.held (c.loop-held.invariant.parent ∙ ap Some c.in-Some.is) c.loop-held.invariant.count (omega arith) (c.loop-held.invariant.fit fit));
  fit = λ fit. absurd (short-unfit (node_map c.args.tree.now) (node_map c.loop-held.tree) c.args.tree.now.root c.args.start c.loop-held.id c.args.addr c.loop-held.at c.requires.1.1.1.1.0.fixing c.loop-held.invariant.up_to
      c.in-Some.parent c.loop-held.held (c.loop-held.invariant.parent ∙ ap Some c.in-Some.is) c.loop-held.invariant.count (omega arith) (c.loop-held.invariant.fit fit));
}

pub item_count-held-requires : goal.item_count-held-requires
item_count-held-requires g c = c.tell_fits.ensures

pub parent-above-requires : goal.parent-above-requires
parent-above-requires g c = c.tell_fits.ensures
