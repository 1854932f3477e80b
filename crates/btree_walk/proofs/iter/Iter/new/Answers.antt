use Rattle.btree_walk.proofs.Common.{◌++◌, ◌∙◌, ap, arith, fits-leaf, remaining_above, pairs_of, views, rows_of}
use Rattle.std.specs.FinMap as map
use Rattle.btree_walk.proofs.EndLemmas.{ends-whole, whole-left}
use Rattle.btree_walk.proofs.iter.Iter.new.Goals as goal

pub invariant_of-result : goal.invariant_of-result
invariant_of-result g c =
    let ahead = ap (λ l. l ++ remaining_above (views c.args.tree.now.nodes) (map.len c.args.tree.now.nodes) (rows_of c.start-leaf.new.ancestors)) c.run_of.ensures ∙ c.start-leaf.ensures.left in
    (c.note_fits.ensures, c.start-leaf.ensures.above, tt, rw ahead (ends-whole c.len.result (pairs_of c.args.tree.now) c.len.ensures))

pub returns : goal.returns
returns g c =
    rw (ap (λ l. l ++ remaining_above (views c.args.tree.now.nodes) (map.len c.args.tree.now.nodes) (rows_of c.start-leaf.new.ancestors)) c.run_of.ensures ∙ c.start-leaf.ensures.left)
    (whole-left c.len.result (pairs_of c.args.tree.now) c.len.ensures)

pub start-leaf-requires : goal.start-leaf-requires
start-leaf-requires g c = (omega arith, (search fits-leaf, c.new-ancestors.ensures))

pub run_of-requires : goal.run_of-requires
run_of-requires g c = search fits-leaf
