use Rattle.btree_internal.proofs.Common.{◌≡◌, Option, Some, None, Ok, inl, refl, ap, sym, ◌∙◌, arith, rules, slice_get, option_map, internal_view, items_of, common_steps}
use Rattle.btree_item.proofs.PairLemmas.{before-from_Err}
use Rattle.btree_internal.proofs.BranchLemmas.{with_value-from_at}
use Rattle.btree_internal.proofs.LookUpLemmas.{look_up-Ok, look_up-Err, not-past}
use Rattle.btree_internal.proofs.internal.InternalNode.get_mut.Goals as goal

item_of_value : {K V : Type 0} (o : Option (K × V)) (v : V) → Some v ≡ option_map (λ x. x.1) o → (x : K × V) × (o ≡ Some x) × (v ≡ x.1)
item_of_value None v is = absurd (cc)
item_of_value (Some x) v is = (x, refl, cc)

pub returns-in-Some : goal.returns-in-Some
returns-in-Some g c =
    let item = item_of_value (slice_get (items_of (internal_view c.args.self.now)) c.in-Ok.index) c.in-Some.value.now c.in-Some.ensures.value in
    let place = sym c.in-Ok.ensures.place in
    let finds = sym c.in-Ok.ensures.here ∙ item.1 in (
      λ j. inl (c.in-Some.value.ghost_name, λ w. with_value-from_at g.K.Ord.cmp g.met.K.Ord.total c.args.self.now c.args.key.now c.in-Ok.index item.0 c.requires place item.1 w j),
      record {
        writes_back = tt;
        value = ap (λ v. Ok (Some v)) item.2 ∙ sym (look_up-Ok g.K.Ord.cmp c.args.key.now (internal_view c.args.self.now) _ finds);
      },
    )

pub returns-in-Err : goal.returns-in-Err
returns-in-Err g c = (
  refl,
  record {
    writes_back = tt;
    value = sym (look_up-Err g.K.Ord.cmp c.args.key.now (internal_view c.args.self.now) _ _ c.in-Err.ensures.absent (before-from_Err g.K.Ord.cmp c.args.key.now _ _ (sym c.in-Err.ensures.place)) c.child_id.ensures);
  },
)

pub find-requires : goal.find-requires
find-requires g c = search rules steps 200000

pub value_at-requires : goal.value_at-requires
value_at-requires g c = assumption

pub unreachable-unreachable : goal.unreachable-unreachable
unreachable-unreachable g c = search rules steps 200000

pub child_id-requires : goal.child_id-requires
child_id-requires g c = grind (arith, common_steps) steps 2000000

pub unreachable-requires : goal.unreachable-requires
unreachable-requires g c = not-past (λ x. x.1) (items_of (internal_view c.args.self.now)) c.in-Ok.index (omega (arith, c.in-Ok.ensures.sized, c.in-Ok.ensures.within)) c.in-None.ensures.value
