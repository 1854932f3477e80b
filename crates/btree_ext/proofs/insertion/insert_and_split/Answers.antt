use Rattle.btree_ext.proofs.Common.{◌∙◌, subst, arith, common_steps, EMPTY}
use Rattle.btree_raw.specs.Claimed.{MayRefuseOneOf}
use Rattle.btree_ext.proofs.insertion.insert_and_split.Goals as goal

pub insert_claimed-requires : goal.insert_claimed-requires
insert_claimed-requires g c = (
  c.args.tree.now,
  record {
    tree = c.requires.tree;
    some = c.requires.some;
    gap = c.requires.gap;
    room = c.requires.room;
    below_limit = c.requires.granted;
    claimed = c.claim.ensures.claimed c.if-not-claim.false;
    enough = c.claim.ensures.count c.if-not-claim.false ∙ c.requires.enough;
  },
)

pub returns-clause-inserted : goal.returns-clause-inserted
returns-clause-inserted g c =
    c.insert_claimed.ensures c.args.tree.now (record {
      tree = c.requires.tree;
      some = c.requires.some;
      gap = c.requires.gap;
      room = c.requires.room;
      below_limit = c.requires.granted;
      claimed = c.claim.ensures.claimed c.if-not-claim.false;
      enough = c.claim.ensures.count c.if-not-claim.false ∙ c.requires.enough;
    })

pub claim-requires-clause-few : goal.claim-requires-clause-few
claim-requires-clause-few g c = grind (arith, common_steps) steps 1500000

pub returns-then-not-claim-clause-returned : goal.returns-then-not-claim-clause-returned
returns-then-not-claim-clause-returned g c = grind (arith, common_steps) steps 300000

pub returns-then-not-claim-clause-refused : goal.returns-then-not-claim-clause-refused
returns-then-not-claim-clause-refused g c =
    rw c.refused.ensures (
      c.claim.ensures.refused c.if-not-claim.true,
      subst (λ count. MayRefuseOneOf EMPTY g.C.NodesMut.MayRefuse c.args.tree.now.nodes count) c.requires.enough (c.claim.ensures.may_refuse c.if-not-claim.true),
      c.requires.granted,
    )
