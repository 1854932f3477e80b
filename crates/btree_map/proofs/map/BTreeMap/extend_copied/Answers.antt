use Rattle.btree_map.proofs.Common.{◌≡◌, ◌∙◌, ◌∷◌, [], None, Some, refl, ap, inserted, pairs_of, inserted_all}
use Rattle.btree_map.specs.CallerLaws.{last-pair}
use Rattle.btree_map.proofs.map.BTreeMap.extend_copied.Goals as goal

pub loop-key-preserved : goal.loop-key-preserved
loop-key-preserved g c =
    let next = c.in-Some.ensures.goes.on c.loop-key.invariant.0.1 in
    let is : pairs_of c.insert_in_order.new.map ≡ inserted g.K.Ord.cmp c.in-Some.key.now c.in-Some.value.now (pairs_of c.loop-key.self) = c.in-Ok.ensures.inserted in (
      (next.0, next.1),
      c.in-Ok.ensures.uncounted ∙ c.loop-key.invariant.1,
      c.in-Ok.ensures.last,
      λ r n t h. c.loop-key.invariant.3 r n t (record {
        given = (c.in-Some.key.now, c.in-Some.value.now) ∷ h.given;
        yields = (h.yields.0, (_, (Some (c.in-Some.key, c.in-Some.value), c.in-Some.ensures.steps, refl), h.yields.1), h.yields.2);
        pairs = h.pairs ∙ ap (λ l. inserted_all g.K.Ord.cmp l h.given) is;
      }),
    )

pub returns-in-Err-clause-stopped : goal.returns-in-Err-clause-stopped
returns-in-Err-clause-stopped g c =
    let cause = c.in-Err.ensures.cause in
    rw (c.in-Err.ensures.returned.0, c.in-Err.ensures.returned.1)
    (c.loop-key.invariant.3 (Some (c.in-Some.key.now, c.in-Some.value.now)) (pairs_of c.insert_in_order.new.map) c.next.new.self (record {
      given = [];
      yields = (_, refl, (Some (c.in-Some.key, c.in-Some.value), c.in-Some.ensures.steps, refl));
      pairs = cause.leaves.pairs;
    }))

pub returns-in-Err-clause-cause : goal.returns-in-Err-clause-cause
returns-in-Err-clause-cause g c =
    record {
      before = c.loop-key.self;
      uncounted = c.loop-key.invariant.1;
      absent = rw (c.in-Err.ensures.returned.0) c.in-Err.ensures.absent;
      refused = rw (c.in-Err.ensures.returned.0) c.in-Err.ensures.cause;
    }

pub returns-clause-extended : goal.returns-clause-extended
returns-clause-extended g c =
    c.loop-key.invariant.3 None (pairs_of c.loop-key.self) c.next.new.self
    (record { given = []; yields = (_, refl, (None, c.in_default.ensures.steps, refl)); pairs = refl })

pub loop-key-init : goal.loop-key-init
loop-key-init g c = (
  (c.requires.can_step, c.requires.ends),
  refl,
  last-pair c.args.self.now _ c.last_item_address-last.result refl c.last_item_address-last.ensures.item,
  λ r n t h. h,
)
