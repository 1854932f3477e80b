use Rattle.std.proofs.Common.{◌≡◌, ◌∙◌, ◌-◌, suc, length, sym, subst, arith}
use Rattle.btree_laws.specs.TreeAddresses.{fronts_of}
use Rattle.btree_laws.specs.Visits.{prior}
use Rattle.test_tree.proofs.VisitLemmas.{prior-none, prior-some}
use Rattle.test_tree.proofs.visits.visit_fronts.Goals as goal

pub loop-next-preserved : goal.loop-next-preserved
loop-next-preserved g c =
    let list = fronts_of c.args.tree.now in
    let left = length (fronts_of c.args.tree.now) - c.loop-next.passed.count in
    let at = prior-some (fronts_of c.args.tree.now) left c.in-Some.at (sym c.loop-next.invariant.here ∙ c.in-Some.is) in
    let some : left ≡ suc at.0 = at.1 in
    let one = c.tick.ensures in
    let same : at.0 ≡ length (fronts_of c.args.tree.now) - c.tick.new.self.count = omega arith in
    record {
      here = subst (λ n. c.previous_front_address-next.result ≡ prior (fronts_of c.args.tree.now) n) same (c.previous_front_address-next.ensures.previous at.0 at.2);
      valid = c.previous_front_address-next.ensures.valid;
      within = omega arith;
    }

pub returns : goal.returns
returns g c =
    let left = length (fronts_of c.args.tree.now) - c.loop-next.passed.count in
    let end : left ≡ 0 = prior-none (fronts_of c.args.tree.now) left (omega arith) (sym c.loop-next.invariant.here ∙ c.in_default.is) in
    let most = c.loop-next.invariant.within in
    let listed = c.last_item_address-next.ensures.addresses.fronts.counted in
    let nodes = c.last_item_address-next.ensures.addresses.nodes in
    omega arith
