use Rattle.btree_leaf.proofs.Common.{length, ap, sym, ◌∙◌, arith, rules, leaf_view, node_of, leaf}
use Rattle.btree_item.proofs.StoreLemmas.{is_some-within}
use Rattle.btree_view.proofs.Cuts.{take-last}
use Rattle.btree_view.specs.Edits.{without_last}
use Rattle.btree_view.specs.View.{last_item_of}
use Rattle.btree_leaf.proofs.leaf.LeafNode.remove_last.Goals as goal

pub returns-clause-answer : goal.returns-clause-answer
returns-clause-answer g c = sym c.unwrap.ensures ∙ c.pop.ensures.answer ∙ ap (λ l. last_item_of (leaf_view l)) c.self.view_is

pub returns-clause-after : goal.returns-clause-after
returns-clause-after g c =
    let long = ap (λ l. length l.items) c.self.view_is in
    let gone = c.pop.ensures.after ∙ take-last c.self.inside.items _ (omega (arith, long, c.requires)) in
    ap (leaf (node_of c.self.inside.parent)) gone ∙ ap (λ l. without_last (leaf_view l)) c.self.view_is

pub pop-requires : goal.pop-requires
pop-requires g c = search rules steps 200000

pub unwrap-requires : goal.unwrap-requires
unwrap-requires g c =
    let long = ap (λ l. length l.items) c.self.view_is in
    rw c.pop.ensures.answer (is_some-within c.self.inside.items _ (omega (arith, long, c.requires)))
