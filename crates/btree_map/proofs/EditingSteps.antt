-- What an editing cursor has passed, and what is left, once a value that it lent was written.
use Rattle.btree_map.proofs.Common.{◌≡◌, ◌∙◌, ◌+◌, ◌<◌, ◌∷◌, Option, Some, length, take, drop, set, slice_get, refl, sym, ap, arith, Address, item_addresses_of, pairs_of, WritesPlace, or_nowhere, entry_front, index_of, item_index, written-addresses, EntriesMut}
use Rattle.std.specs.declared.cmp.Ord as ord
use Rattle.std.specs.declared.cmp.PartialEq as eq
use Rattle.std.specs.declared.cmp.PartialOrd as partial
use Rattle.btree_node.specs.declared.node_stores.Nodes as nodes
use Rattle.btree_node.specs.declared.node_stores.NodesMut as nodes_mut
use Rattle.btree_map.specs.Editing.{WritesPassed, WritesPeeked, entry_written, next_of, past_first, with_first}
use Rattle.btree_map.proofs.IndexLemmas.{IsOnce, index-is}
use Rattle.btree_map.proofs.EditingLists.{set-drop, set-drop-more, set-take, set-take-more}

module _ {K V C O : Type 0} {g : ord.Ghosts K} {g' : eq.Ghosts K} {g'' : partial.Ghosts K} {s : nodes_mut.Ghosts C K V O} {s' : nodes.Ghosts C K V}
    (c : EntriesMut K V C O g g' g'' s s') (k : K) (was w : V) (here : slice_get (pairs_of c.map.now) (entry_front c) ≡ Some (k, was))
    (x : WritesPlace g.cmp c.map.now (entry_written c w) (or_nowhere c.first) (entry_front c) k was w) where
  -- an address is at its index still
  stays : (found : Option Address) → item_index (entry_written c w) found ≡ item_index c.map.now found
  stays found = ap (λ l. index_of l found) (written-addresses c.map.now (or_nowhere c.first) w)

  pub writes-passed : IsOnce (item_addresses_of c.map.now) → entry_front c < length (item_addresses_of c.map.now) → WritesPassed c k was w
  writes-passed once within =
      let one : item_index c.map.now (next_of c) ≡ entry_front c + 1 =
      index-is (item_addresses_of c.map.now) once (entry_front c + 1) (next_of c) refl (omega (arith, within)) in
      let front : entry_front (past_first c w) ≡ entry_front c + 1 = stays (next_of c) ∙ one in
      record {
        passed = (λ i. take (front i) (x.pairs i)) ∙ set-take-more (k, was) (k, w) (entry_front c) (pairs_of c.map.now) here;
        left = set-drop-more (k, was) (k, w) (entry_front c) (pairs_of c.map.now) here ∙ (λ i. (k, was) ∷ drop (sym front i) (sym x.pairs i));
        writes = x;
      }

  pub writes-peeked : WritesPeeked c k was w
  writes-peeked =
      let front : entry_front (with_first c w) ≡ entry_front c = stays c.first in
      record {
        passed = (λ i. take (front i) (x.pairs i)) ∙ set-take (k, was) (k, w) (entry_front c) (pairs_of c.map.now) here;
        rest = drop (entry_front c + 1) (set (pairs_of c.map.now) (entry_front c) (k, w));
        left = set-drop-more (k, was) (k, w) (entry_front c) (pairs_of c.map.now) here;
        written = (λ i. drop (front i) (x.pairs i)) ∙ set-drop (k, was) (k, w) (entry_front c) (pairs_of c.map.now) here;
        writes = x;
      }
