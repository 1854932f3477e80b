use Rattle.std.proofs.Common.{◌≡◌, ◌∙◌, suc, IfSome, slice_get, sym, subst, arith}
use Rattle.std.proofs.lemmas.Option.{slice_get_within}
use Rattle.btree_laws.specs.TreeAddresses.{backs_of}
use Rattle.btree_laws.specs.TreeState.{IsValidIn}
use Rattle.btree_find.specs.VisitLaws.{first-listed}
use Rattle.test_tree.proofs.VisitLemmas.{get-none}
use Rattle.test_tree.proofs.visits.visit_backs.Goals as goal

pub loop-next-init : goal.loop-next-init
loop-next-init g c = record {
  here = rw c.new-passed.ensures (first-listed c.args.tree.now c.first_back_address.result c.first_back_address.ensures c.requires);
  valid = c.first_back_address.ensures.at.valid;
  within = let z = c.new-passed.ensures in omega arith;
}

pub next_back_address-next-requires : goal.next_back_address-next-requires
next_back_address-next-requires g c = subst (λ o. IfSome o (IsValidIn c.args.tree.now)) c.in-Some.is c.loop-next.invariant.valid

pub loop-next-smaller : goal.loop-next-smaller
loop-next-smaller g c =
    let there = slice_get_within (backs_of c.args.tree.now) c.loop-next.passed.count c.in-Some.at (sym c.loop-next.invariant.here ∙ c.in-Some.is) in
    let one = c.tick.ensures in
    omega arith

pub loop-next-preserved : goal.loop-next-preserved
loop-next-preserved g c =
    let at = sym c.loop-next.invariant.here ∙ c.in-Some.is in
    let there = slice_get_within (backs_of c.args.tree.now) c.loop-next.passed.count c.in-Some.at at in
    let one = c.tick.ensures in
    let same : suc c.loop-next.passed.count ≡ c.tick.new.self.count = omega arith in
    record {
      here = subst (λ n. c.next_back_address-next.result ≡ slice_get (backs_of c.args.tree.now) n) same (c.next_back_address-next.ensures.next c.loop-next.passed.count at);
      valid = c.next_back_address-next.ensures.valid;
      within = omega arith;
    }

pub returns : goal.returns
returns g c =
    let past = get-none (backs_of c.args.tree.now) c.loop-next.passed.count (sym c.loop-next.invariant.here ∙ c.in_default.is) in
    let most = c.loop-next.invariant.within in
    let listed = c.first_back_address.ensures.addresses.backs.counted in
    let nodes = c.first_back_address.ensures.addresses.nodes in
    omega arith
