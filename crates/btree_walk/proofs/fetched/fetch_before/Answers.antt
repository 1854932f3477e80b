use Rattle.btree_walk.proofs.Common.{◌≡◌, ◌-◌, Some, length, slice_get, subst, sym, arith, rules}
use Rattle.btree_walk.proofs.FetchedLemmas.{lowest-used, no-elements}
use Rattle.btree_walk.proofs.fetched.fetch_before.Goals as goal

pub fetch_children-requires : goal.fetch_children-requires
fetch_children-requires g c =
    let last : slice_get c.args.ancestors.now (length c.args.ancestors.now - 1) ≡ Some c.in-Some.parent.now = let n = c.len-2.ensures in let e = c.saturating_sub.ensures in
    subst (λ n. slice_get c.args.ancestors.now n ≡ Some c.in-Some.parent.now) (omega arith) (sym c.in-Some.ensures) in (
      omega arith,
      (
        search rules,
        (
          lowest-used c.args.tree.now c.args.ancestors.now c.in-Some.parent.now c.requires.above last,
          no-elements c.args.fetched.now (let n = c.len.ensures.value in let none = c.if-len-gt0.false in omega arith),
        ),
      ),
    )
