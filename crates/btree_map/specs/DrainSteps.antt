-- What a drain does: its steps, and its end.
-- `IsDraining` is what a drain is between its steps. `DrainsNext` is a step. By `LetsGo`, once a drain is ended or dropped, the
-- map has the pairs that were kept so far, and of those that were left the ones for which the answer was no.
use Rattle.std.specs.Prelude.{◌≡◌, ◌≤◌, Bool, true, Option, drop, length, slice_get}
use Rattle.std.specs.Map.Calls.{CallableOnEachPair, CalledAtPair, TakesPair}
use denote.Ref.{Bor, MutBor}
use denote.Param.Members.{Mut}
use Rattle.btree_laws.specs.TreeAddresses.{item_addresses_of}
use Rattle.btree_laws.specs.TreeState.{TreeState, pairs_of}
use Rattle.btree_map.specs.Drain.{RunsOut, Yields}
use Rattle.btree_map.specs.declared.drain.DrainFilter.{DrainFilter}

module _ {K V C F O : Type 0} (calls : Mut F (Bor K × (MutBor V × Unit {0})) (Bool × (MutBor V × Unit {0}))) where
  -- the first address is that of the place, and the closure may be called at each pair that is left
  pub record IsDraining (d : DrainFilter K V C F O) : Type 0 where
    pub stands : d.first ≡ slice_get (item_addresses_of d.map.now) d.front
    pub within : d.front ≤ length (item_addresses_of d.map.now)
    pub callable : CallableOnEachPair (CalledAtPair calls) (TakesPair calls) d.test (drop d.front (pairs_of d.map.now))

  -- a step: calls up to the first pair that is picked, which is removed and returned, or at all that were left
  pub record DrainsNext (old : DrainFilter K V C F O) (result : Option (K × V)) (new : DrainFilter K V C F O) : Type 0 where
    pub same_map : new.map.ghost_name ≡ old.map.ghost_name
    pub yields : Yields (CalledAtPair calls) true old.test new.test old.map.now old.front new.map.now new.front result
    pub draining : IsDraining new

  -- the end: calls at all pairs that were left
  abbrev pub LetsGo : (old : DrainFilter K V C F O) → (now : TreeState K V) → Type 0
  LetsGo old now = RunsOut (CalledAtPair calls) old.test old.front old.map.now now
