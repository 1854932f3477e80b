use Rattle.btree_internal.proofs.Common.{Some, inl, ap, sym, ◌∙◌, arith, rules, option_map, common_steps, None, refl}
use Rattle.btree_internal.proofs.BranchLemmas.{there, value-at, item-read}
use mathlib.Core.Logic.{inr}
use Rattle.btree_internal.proofs.internal.InternalNode.value_at.Goals as goal

pub returns-in-Some : goal.returns-in-Some
returns-in-Some g c =
    let at = sym c.in-Some.ensures.value in
    let written = value-at c.args.self.now _ c.self.inside.first c.self.inside.branches c.self.view_is c.args.index c.in-Some.branch.now at in (
      λ j. inl (c.value_mut.result.ghost_name, λ w. written w j),
      record {
        writes_back = tt;
        value = ap (λ v. Some v) c.value_mut.ensures.value ∙ sym (ap (option_map (λ x. x.1)) (there c.args.self.now _ c.self.inside.first c.self.inside.branches c.self.view_is c.args.index c.in-Some.branch.now at));
      },
    )

pub get_mut-requires : goal.get_mut-requires
get_mut-requires g c = grind (arith, common_steps) steps 300000

pub value_mut-requires : goal.value_mut-requires
value_mut-requires g c κs = search rules steps 200000

pub invariant_of-self-lent : goal.invariant_of-self-lent
invariant_of-self-lent g c = search rules steps 200000

pub invariant_of-self-lent-in-None : goal.invariant_of-self-lent-in-None
invariant_of-self-lent-in-None g c = search rules steps 200000

pub returns-in-None : goal.returns-in-None
returns-in-None g c =
    let none = item-read c.args.self.now _ c.self.inside.first c.self.inside.branches c.self.view_is c.args.index None None c.in-None.ensures.value refl in
    (ap inr c.self.view_is, record { writes_back = tt; value = ap (option_map (λ x. x.1)) none })
