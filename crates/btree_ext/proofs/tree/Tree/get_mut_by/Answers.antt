use Rattle.btree_ext.proofs.Common.{refl, address_at_key}
use Rattle.btree_ext.proofs.TreeLimitLemmas.{written-within}
use Rattle.btree_ext.proofs.tree.Tree.get_mut_by.Goals as goal

pub invariant_of-self-lent : goal.invariant_of-self-lent
invariant_of-self-lent g c = λ _.
    let old = c.self.inside.raw in
    (λ w. (c.get_mut_by.ensures.tree w, written-within old (address_at_key g.Q.Query.compare c.args.query.now old) w c.self.invariant.1), c.self.invariant)

pub returns : goal.returns
returns g c =
    rw (← c.self.view_is)
    (refl, record { writes_back = tt; value = c.get_mut_by.ensures.value; exchanged = c.get_mut_by.ensures.exchanged })
