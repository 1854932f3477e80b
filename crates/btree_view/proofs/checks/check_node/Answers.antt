use Rattle.std.proofs.Common.{◌∙◌, arith, inl, inr, refl, sym}
use Rattle.std.proofs.lemmas.List.{length-map}
use Rattle.btree_view.proofs.CheckLemmas.{other-parent, same-parent}
use Rattle.btree_view.proofs.checks.check_node.Goals as goal

pub returns-then-ne : goal.returns-then-ne
returns-then-ne g c =
    inl ((λ equal. other-parent _ _ _ c.ne.ensures c.if-ne.true equal), refl)

pub returns-then-count-most : goal.returns-then-count-most
returns-then-count-most g c =
    let same = length-map c.args.slots.now g.T.Keyed.key_of in
    let value = c.len-count.ensures.value in
    inr (same-parent _ _ _ c.ne.ensures c.if-ne.false, inl ((λ fits. let over = c.if-count-most.true in omega arith), refl))

pub returns-then-not-has_fewest : goal.returns-then-not-has_fewest
returns-then-not-has_fewest g c =
    let same = length-map c.args.slots.now g.T.Keyed.key_of in
    let value = c.len-count.ensures.value in
    inr (same-parent _ _ _ c.ne.ensures c.if-ne.false, inr ((let fits = c.if-count-most.false in omega arith), inl ((λ few. let passed = c.has_fewest.ensures.1 (λ f. let least = few (sym c.is_root-is_root.ensures ∙ f) in omega arith) in let failed = c.if-not-has_fewest.true in absurd (cc)), refl)))

pub returns-then-not-has_root_item : goal.returns-then-not-has_root_item
returns-then-not-has_root_item g c =
    let same = length-map c.args.slots.now g.T.Keyed.key_of in
    let value = c.len-count.ensures.value in
    inr (same-parent _ _ _ c.ne.ensures c.if-ne.false, inr ((let fits = c.if-count-most.false in omega arith), inr ((λ f. let few = c.has_fewest.ensures.0 c.if-not-has_fewest.false (c.is_root-is_root.ensures ∙ f) in omega arith), inl ((λ some. let passed = c.has_root_item.ensures.1 (λ t. let least = some (sym c.is_root-is_root.ensures ∙ t) in omega arith) in let failed = c.if-not-has_root_item.true in absurd (cc)), refl))))

pub returns-then-not-keys_ascend : goal.returns-then-not-keys_ascend
returns-then-not-keys_ascend g c =
    let same = length-map c.args.slots.now g.T.Keyed.key_of in
    let value = c.len-count.ensures.value in
    inr (same-parent _ _ _ c.ne.ensures c.if-ne.false, inr ((let fits = c.if-count-most.false in omega arith), inr ((λ f. let few = c.has_fewest.ensures.0 c.if-not-has_fewest.false (c.is_root-is_root.ensures ∙ f) in omega arith), inr ((λ t. let some = c.has_root_item.ensures.0 c.if-not-has_root_item.false (c.is_root-is_root.ensures ∙ t) in omega arith), inl ((λ up. let passed = c.keys_ascend.ensures.1 up in let failed = c.if-not-keys_ascend.true in absurd (cc)), refl)))))

pub returns-then-not-begins_above : goal.returns-then-not-begins_above
returns-then-not-begins_above g c =
    let same = length-map c.args.slots.now g.T.Keyed.key_of in
    let value = c.len-count.ensures.value in
    inr (same-parent _ _ _ c.ne.ensures c.if-ne.false, inr ((let fits = c.if-count-most.false in omega arith), inr ((λ f. let few = c.has_fewest.ensures.0 c.if-not-has_fewest.false (c.is_root-is_root.ensures ∙ f) in omega arith), inr ((λ t. let some = c.has_root_item.ensures.0 c.if-not-has_root_item.false (c.is_root-is_root.ensures ∙ t) in omega arith), inr (c.keys_ascend.ensures.0 c.if-not-keys_ascend.false, inl ((λ above. let passed = c.begins_above.ensures.1 above in let failed = c.if-not-begins_above.true in absurd (cc)), refl))))))

pub returns-then-not-ends_below : goal.returns-then-not-ends_below
returns-then-not-ends_below g c =
    let same = length-map c.args.slots.now g.T.Keyed.key_of in
    let value = c.len-count.ensures.value in
    inr (same-parent _ _ _ c.ne.ensures c.if-ne.false, inr ((let fits = c.if-count-most.false in omega arith), inr ((λ f. let few = c.has_fewest.ensures.0 c.if-not-has_fewest.false (c.is_root-is_root.ensures ∙ f) in omega arith), inr ((λ t. let some = c.has_root_item.ensures.0 c.if-not-has_root_item.false (c.is_root-is_root.ensures ∙ t) in omega arith), inr (c.keys_ascend.ensures.0 c.if-not-keys_ascend.false, inr (c.begins_above.ensures.0 c.if-not-begins_above.false, inl ((λ below. let passed = c.ends_below.ensures.1 below in let failed = c.if-not-ends_below.true in absurd (cc)), refl)))))))

pub returns : goal.returns
returns g c =
    let same = length-map c.args.slots.now g.T.Keyed.key_of in
    let value = c.len-count.ensures.value in
    inr (same-parent _ _ _ c.ne.ensures c.if-ne.false, inr ((let fits = c.if-count-most.false in omega arith), inr ((λ f. let few = c.has_fewest.ensures.0 c.if-not-has_fewest.false (c.is_root-is_root.ensures ∙ f) in omega arith), inr ((λ t. let some = c.has_root_item.ensures.0 c.if-not-has_root_item.false (c.is_root-is_root.ensures ∙ t) in omega arith), inr (c.keys_ascend.ensures.0 c.if-not-keys_ascend.false, inr (c.begins_above.ensures.0 c.if-not-begins_above.false, inr (c.ends_below.ensures.0 c.if-not-ends_below.false, refl)))))))
