use Rattle.btree_set.proofs.Common.{◌≡◌, ◌≤◌, drop, length, slice_get, subst, sym, CalledAt, TakesAt, pairs_of, CallableOnEach, set_of}
use Rattle.btree_laws.specs.TreeAddresses.{item_addresses_of}
use Rattle.btree_set.specs.Drain.{Yields}
use Rattle.btree_set.proofs.DrainLemmas.{callable-keys, callable-pairs, drop-keys, yields-keys}
use Rattle.btree_set.proofs.drain.steps.seek.Goals as goal

pub seek_from-first-requires-clause-stands : goal.seek_from-first-requires-clause-stands
seek_from-first-requires-clause-stands g c =
    subst (λ set. c.args.first ≡ slice_get (item_addresses_of set.tree) c.args.front) (sym c.set.view_is) c.requires.stands

pub seek_from-first-requires-clause-within : goal.seek_from-first-requires-clause-within
seek_from-first-requires-clause-within g c =
    subst (λ set. c.args.front ≤ length (item_addresses_of set.tree)) (sym c.set.view_is) c.requires.within

pub seek_from-first-requires-clause-callable : goal.seek_from-first-requires-clause-callable
seek_from-first-requires-clause-callable g c =
    callable-pairs _ _ _ _
    (subst (λ left. CallableOnEach (CalledAt g.F.FnMut) (TakesAt g.F.FnMut) c.args.test.now left) (drop-keys c.args.front (pairs_of c.set.inside.map))
    (subst (λ set. CallableOnEach (CalledAt g.F.FnMut) (TakesAt g.F.FnMut) c.args.test.now (drop c.args.front set.elements)) (sym c.set.view_is) c.requires.callable))

pub returns-clause-callable : goal.returns-clause-callable
returns-clause-callable g c =
    let sought = c.seek_from-first in
    subst (λ left. CallableOnEach (CalledAt g.F.FnMut) (TakesAt g.F.FnMut) sought.new.test left) (sym (drop-keys sought.result.1 (pairs_of sought.new.map)))
    (callable-keys (CalledAt g.F.FnMut) _ _ _ sought.ensures.callable)

pub returns-clause-yields : goal.returns-clause-yields
returns-clause-yields g c =
    let sought = c.seek_from-first in
    subst (λ set. Yields (CalledAt g.F.FnMut) c.args.test.now sought.new.test set c.args.front (set_of sought.new.map) sought.result.1 c.first_of.result) c.set.view_is
    (subst (λ found. Yields (CalledAt g.F.FnMut) c.args.test.now sought.new.test (set_of c.set.inside.map) c.args.front (set_of sought.new.map) sought.result.1 found) (sym c.first_of.ensures)
    (yields-keys (CalledAt g.F.FnMut) c.args.test.now sought.new.test c.set.inside.map c.args.front sought.new.map sought.result.1 sought.result.2 sought.ensures.yields))
