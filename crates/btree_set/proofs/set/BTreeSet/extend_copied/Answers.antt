use Rattle.btree_set.proofs.Common.{◌∙◌, ◌∷◌, [], IfSome, None, Some, ap, refl, subst, IsLastPair, SetState, inserted_all}
use Rattle.btree_map.specs.CallerLaws.{last-pair}
use Rattle.btree_set.proofs.KeyLemmas.{refused-elements}
use Rattle.btree_set.proofs.set.BTreeSet.extend_copied.Goals as goal

pub loop-element-preserved : goal.loop-element-preserved
loop-element-preserved g c =
    let next = c.in-Some.ensures.goes.on c.loop-element.invariant.0.1 in (
      (next.0, next.1),
      c.in-Ok.ensures.uncounted ∙ c.loop-element.invariant.1,
      c.in-Ok.ensures.last,
      λ r n t h. c.loop-element.invariant.3 r n t (record {
        given = c.in-Some.element.now ∷ h.given;
        yields = (h.yields.0, (_, (_, c.in-Some.ensures.steps, refl), h.yields.1), h.yields.2);
        elements = h.elements ∙ ap (λ l. inserted_all g.T.Ord.cmp l h.given) c.in-Ok.ensures.inserted;
      }),
    )

pub returns-in-Err-clause-stopped : goal.returns-in-Err-clause-stopped
returns-in-Err-clause-stopped g c =
    rw c.in-Err.ensures.returned
    (c.loop-element.invariant.3 (Some c.in-Some.element.now) c.insert_in_order.new.self.elements c.next.new.self (record {
      given = [];
      yields = (_, refl, (_, c.in-Some.ensures.steps, refl));
      elements = refused-elements c.loop-element.self c.insert_in_order.new.self c.in-Err.refused.cause c.in-Err.ensures.cause.leaves;
    }))

pub returns-in-Err-clause-cause : goal.returns-in-Err-clause-cause
returns-in-Err-clause-cause g c = record {
  before = c.loop-element.self;
  uncounted = c.loop-element.invariant.1;
  absent = rw c.in-Err.ensures.returned c.in-Err.ensures.absent;
  refused = rw c.in-Err.ensures.returned c.in-Err.ensures.cause;
}

pub returns-clause-extended : goal.returns-clause-extended
returns-clause-extended g c =
    c.loop-element.invariant.3 None c.loop-element.self.elements c.next.new.self
    (record { given = []; yields = (_, refl, (_, c.in_default.ensures.steps, refl)); elements = refl })

pub loop-element-init : goal.loop-element-init
loop-element-init g c = (
  (c.requires.can_step, c.requires.ends),
  refl,
  subst (λ (s : SetState _). IfSome c.last_item_address-last.result (IsLastPair s.tree)) c.self.view_is
      (last-pair c.self.inside.map _ c.last_item_address-last.result refl c.last_item_address-last.ensures.item),
  λ r n t h. h,
)
