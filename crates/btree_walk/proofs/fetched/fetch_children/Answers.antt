use Rattle.btree_walk.proofs.Common.{length, refl, arith, ap, ◌∙◌, sym, length_push, view_of, fits-leaf}
use Rattle.btree_laws.specs.TreeState.{IsUsed}
use Rattle.btree_walk.proofs.FetchedLemmas.{all-push, row-child}
use Rattle.btree_walk.proofs.fetched.fetch_children.Goals as goal

pub loop-index-init : goal.loop-index-init
loop-index-init g c = record { fetched = rw c.requires.none tt; counted = rw c.requires.none refl }

pub node-node-requires : goal.node-node-requires
node-node-requires g c = (
  c.tell_fits.ensures,
  row-child (λ n. IsUsed c.args.tree.now n) (view_of c.args.ancestor.now.node.now) c.args.ancestor.now.passed c.loop-index.index c.in-Some.id
      (sym c.in-Some.ensures) (let n = c.item_count-count.ensures.value in let e = c.saturating_sub-index-end.ensures in let low = c.loop-index-test.true in omega arith) c.requires.children,
)

pub push-requires : goal.push-requires
push-requires g c = (omega arith, let n = c.item_count-count.ensures.fits in let e = c.saturating_sub-index-end.ensures in let low = c.loop-index-test.true in let k = c.loop-index.invariant.counted in omega arith)

pub loop-index-preserved : goal.loop-index-preserved
loop-index-preserved g c = record {
  fetched = rw c.push.ensures (all-push _ c.loop-index.fetched _ c.loop-index.invariant.fetched c.node-node.ensures);
  counted = ap length c.push.ensures ∙ length_push c.loop-index.fetched _ ∙ (let k = c.loop-index.invariant.counted in omega arith);
}

pub read_early-requires : goal.read_early-requires
read_early-requires g c = search fits-leaf

pub item_count-count-requires : goal.item_count-count-requires
item_count-count-requires g c = c.tell_fits.ensures

pub child_id_opt-requires : goal.child_id_opt-requires
child_id_opt-requires g c = c.tell_fits.ensures

pub returns : goal.returns
returns g c = c.loop-index.invariant.fetched
