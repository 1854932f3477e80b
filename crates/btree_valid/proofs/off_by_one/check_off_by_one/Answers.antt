use Rattle.btree_valid.proofs.Common.{◌∙◌, arith, option_copied, sym, view_of, refl}
use Rattle.btree_valid.proofs.NodeLemmas.{nearly-below, nearly-from, nearly-passes}
use Rattle.btree_view.proofs.CheckLemmas.{other-parent, same-parent}
use Rattle.btree_valid.proofs.off_by_one.check_off_by_one.Goals as goal

pub returns-then-ne : goal.returns-then-ne
returns-then-ne g c = (λ ok. absurd (cc), λ p. absurd (other-parent c.parent.result c.args.parent _ c.if-ne.ensures refl (c.parent.ensures.value ∙ p.parent_is)))

pub returns-then-not-ascends_from : goal.returns-then-not-ascends_from
returns-then-not-ascends_from g c = (
  λ ok. absurd (cc),
  λ p. let no = c.if-not-ascends_from.ensures.1 (nearly-from g.K.Ord.cmp c.args.exempt c.args.id c.args.parent (option_copied c.args.min) (option_copied c.args.max) (view_of c.args.node.now) p) in absurd (cc),
)

pub returns-then-not-ends_below : goal.returns-then-not-ends_below
returns-then-not-ends_below g c = (
  λ ok. absurd (cc),
  λ p. let no = c.if-not-ends_below.ensures.1 (nearly-below g.K.Ord.cmp c.args.exempt c.args.id c.args.parent (option_copied c.args.min) (option_copied c.args.max) (view_of c.args.node.now) p) in absurd (cc),
)

pub returns : goal.returns
returns g c = (
  λ ok. nearly-passes g.K.Ord.cmp c.args.exempt c.args.id c.args.parent (option_copied c.args.min) (option_copied c.args.max) (view_of c.args.node.now) g.met.K.Ord.total
      (sym c.parent.ensures.value ∙ same-parent c.parent.result c.args.parent _ c.if-ne.ensures refl)
      (omega arith, omega arith) (c.if-not-ascends_from.ensures.0 refl) (c.if-not-ends_below.ensures.0 refl),
  λ p. refl,
)

pub returns-then-count-least_items : goal.returns-then-count-least_items
returns-then-count-least_items g c = (λ ok. absurd (cc), λ p. absurd (let enough = p.sized.0 in omega arith))

pub returns-then-count-most_items : goal.returns-then-count-most_items
returns-then-count-most_items g c = (λ ok. absurd (cc), λ p. absurd (let enough = p.sized.1 in omega arith))

pub parent-requires : goal.parent-requires
parent-requires g c = search

pub item_count-count-requires : goal.item_count-count-requires
item_count-count-requires g c = search

pub most_items-requires : goal.most_items-requires
most_items-requires g c = search

pub ascends_from-requires : goal.ascends_from-requires
ascends_from-requires g c = search

pub ends_below-requires : goal.ends_below-requires
ends_below-requires g c = search
