use Rattle.btree_internal.proofs.Common.{Some, None, inl, ap, sym, refl}
use Rattle.std.proofs.Common.{inr}
use Rattle.btree_internal.proofs.BranchLemmas.{item-read, item-written}
use Rattle.btree_internal.proofs.internal.InternalNode.item_mut_at_index.Goals as goal

pub returns-in-Some : goal.returns-in-Some
returns-in-Some g c =
    let written = item-written c.args.self.now _ c.self.inside.first c.self.inside.branches c.self.view_is c.args.index c.in-Some.branch.now (sym c.in-Some.ensures.value) in (
      λ j. inl (c.item_mut.result.ghost_name, λ x. written x j),
      record {
        writes_back = tt;
        value = item-read c.args.self.now _ c.self.inside.first c.self.inside.branches c.self.view_is c.args.index (Some c.in-Some.branch.now) (Some c.item_mut.result.now) c.in-Some.ensures.value (ap (λ x. Some x) c.item_mut.ensures.item);
      },
    )

pub returns-in-None : goal.returns-in-None
returns-in-None g c = (
  λ j. inr (c.self.view_is j),
  record {
    writes_back = tt;
    value = item-read c.args.self.now _ c.self.inside.first c.self.inside.branches c.self.view_is c.args.index None None c.in-None.ensures.value refl;
  },
)
