use Rattle.btree_leaf.proofs.Common.{ap, sym, ◌∙◌, arith, rules, leaf_view, node_of, leaf, common_steps, length}
use Rattle.btree_item.proofs.StoreLemmas.{is_some-within}
use Rattle.btree_view.proofs.Cuts.{last_out}
use Rattle.std.proofs.Common.{refl}
use Rattle.btree_leaf.proofs.leaf.LeafNode.pop_right.Goals as goal

pub returns-clause-taken : goal.returns-clause-taken
returns-clause-taken g c =
    let x_is = sym c.unwrap-item.ensures ∙ c.pop.ensures.answer in
    let parts = last_out c.self.inside.items c.pop.new.self c.unwrap-item.result x_is c.pop.ensures.after in
    sym (ap leaf_view c.self.view_is) ∙ ap (leaf (node_of c.self.inside.parent)) parts

pub has_spare-requires : goal.has_spare-requires
has_spare-requires g c = search rules steps 200000

pub returns-then-not-has_spare-clause-spare : goal.returns-then-not-has_spare-clause-spare
returns-then-not-has_spare-clause-spare g c = search rules steps 200000

pub returns-then-not-has_spare-clause-offset : goal.returns-then-not-has_spare-clause-offset
returns-then-not-has_spare-clause-offset g c = search rules steps 200000

pub returns-then-not-has_spare-clause-taken : goal.returns-then-not-has_spare-clause-taken
returns-then-not-has_spare-clause-taken g c = search rules steps 200000

pub returns-then-not-has_spare-clause-short : goal.returns-then-not-has_spare-clause-short
returns-then-not-has_spare-clause-short g c = grind (arith, common_steps) steps 300000

pub pop-requires : goal.pop-requires
pop-requires g c = search rules steps 200000

pub len-requires : goal.len-requires
len-requires g c = search rules steps 200000

pub offset_at-requires : goal.offset_at-requires
offset_at-requires g c = search rules steps 200000

pub returns-clause-spare : goal.returns-clause-spare
returns-clause-spare g c = grind (arith, common_steps) steps 2000000

pub returns-clause-offset : goal.returns-clause-offset
returns-clause-offset g c = search rules steps 200000

pub returns-clause-short : goal.returns-clause-short
returns-clause-short g c = search rules steps 200000

pub unwrap-item-requires : goal.unwrap-item-requires
unwrap-item-requires g c =
    let long = ap (λ l. length l.items) c.self.view_is in
    let spare = c.if-not-has_spare.ensures.0 refl in
    rw c.pop.ensures.answer (is_some-within c.self.inside.items _ (omega (arith, long, spare)))
