use Rattle.btree_set.proofs.Common.{◌≡◌, ◌≤◌, drop, length, slice_get, subst, sym, CalledAt, TakesAt, pairs_of, CallableOnEach, set_of}
use Rattle.btree_laws.specs.TreeAddresses.{item_addresses_of}
use Rattle.btree_set.specs.Drain.{RunsOut}
use Rattle.btree_set.proofs.DrainLemmas.{callable-pairs, drop-keys, runs-out-keys}
use Rattle.btree_set.proofs.drain.steps.run_rest.Goals as goal

pub run_out-requires-clause-stands : goal.run_out-requires-clause-stands
run_out-requires-clause-stands g c =
    subst (λ set. c.args.first ≡ slice_get (item_addresses_of set.tree) c.args.front) (sym c.set.view_is) c.requires.stands

pub run_out-requires-clause-within : goal.run_out-requires-clause-within
run_out-requires-clause-within g c =
    subst (λ set. c.args.front ≤ length (item_addresses_of set.tree)) (sym c.set.view_is) c.requires.within

pub run_out-requires-clause-callable : goal.run_out-requires-clause-callable
run_out-requires-clause-callable g c =
    callable-pairs _ _ _ _
    (subst (λ left. CallableOnEach (CalledAt g.F.FnMut) (TakesAt g.F.FnMut) c.args.test.now left) (drop-keys c.args.front (pairs_of c.set.inside.map))
    (subst (λ set. CallableOnEach (CalledAt g.F.FnMut) (TakesAt g.F.FnMut) c.args.test.now (drop c.args.front set.elements)) (sym c.set.view_is) c.requires.callable))

pub returns : goal.returns
returns g c =
    subst (λ set. RunsOut (CalledAt g.F.FnMut) c.args.test.now c.args.front set (set_of c.run_out.new.map)) c.set.view_is
    (runs-out-keys (CalledAt g.F.FnMut) c.args.test.now c.args.front c.set.inside.map c.run_out.new.map c.run_out.ensures)
