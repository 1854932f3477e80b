use Rattle.btree_raw.proofs.Common.{arith, refl, node_map, used-view}
use Rattle.btree_raw.proofs.FixedLemmas.{root-there, root-rests, can-release, released, emptied}
use Rattle.btree_raw.proofs.StateLemmas.{same-len, same-kept}
use Rattle.btree_raw.proofs.underflow.fix_root.Goals as goal

pub returns-then-count-gt0-clause-fixed : goal.returns-then-count-gt0-clause-fixed
returns-then-count-gt0-clause-fixed g c = record { fixed = root-rests (node_map c.args.tree.now) c.args.tree.now.root c.args.id c.args.addr c.requires.fixing c.requires.top c.args.count c.requires.count c.if-count-gt0.true; len = refl; uncounted = refl }

pub returns-then-count-gt0-clause-settled : goal.returns-then-count-gt0-clause-settled
returns-then-count-gt0-clause-settled g c = λ some. record { same_tree = refl; same_address = refl }

pub returns-in-Some-clause-settled : goal.returns-in-Some-clause-settled
returns-in-Some-clause-settled g c = λ some. absurd (omega (arith, c.if-count-gt0.false))

pub returns-in-None-clause-settled : goal.returns-in-None-clause-settled
returns-in-None-clause-settled g c = λ some. absurd (omega (arith, c.if-count-gt0.false))

pub shrink_root-requires-clause-used : goal.shrink_root-requires-clause-used
shrink_root-requires-clause-used g c = used-view c.args.tree.now.nodes c.args.id (root-there (node_map c.args.tree.now) c.args.tree.now.root c.args.id c.args.addr c.requires.fixing c.requires.top c.args.count c.requires.count)

pub shrink_root-requires-clause-can : goal.shrink_root-requires-clause-can
shrink_root-requires-clause-can g c = λ child first. can-release (node_map c.args.tree.now) c.args.tree.now.root c.args.id c.args.addr c.requires.fixing c.requires.top c.args.count c.requires.count c.if-count-gt0.false child first

pub returns-in-Some-clause-fixed : goal.returns-in-Some-clause-fixed
returns-in-Some-clause-fixed g c =
    rw (c.moved_by_shrink_root.ensures, c.set_root_id.ensures)
    (record {
      fixed = released (node_map c.args.tree.now) c.args.tree.now.root c.args.id c.args.addr c.requires.fixing c.requires.top c.args.count c.requires.count c.if-count-gt0.false c.in-Some.child c.in-Some.ensures.first (node_map c.shrink_root.new.tree) c.in-Some.ensures.shrinks.nodes c.in-Some.held c.in-Some.ensures.count;
      len = same-len c.in-Some.ensures.shrinks.rest;
      uncounted = same-kept c.in-Some.ensures.shrinks.rest;
    })

pub returns-in-None-clause-fixed : goal.returns-in-None-clause-fixed
returns-in-None-clause-fixed g c =
    rw (c.nowhere.ensures, c.set_root_id-in-None.ensures)
    (record {
      fixed = emptied (node_map c.args.tree.now) c.args.tree.now.root c.args.id c.args.addr c.requires.fixing c.requires.top c.args.count c.requires.count c.if-count-gt0.false c.in-None.ensures.leaf (node_map c.shrink_root.new.tree) c.in-None.ensures.removes.nodes;
      len = same-len c.in-None.ensures.removes.rest;
      uncounted = same-kept c.in-None.ensures.removes.rest;
    })
