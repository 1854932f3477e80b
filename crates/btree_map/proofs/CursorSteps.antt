-- What is left of a cursor after a step.
use Rattle.std.proofs.Common.{map as each}
use Rattle.btree_map.proofs.Common.{◌≡◌, ◌∙◌, ◌+◌, ◌-◌, ◌<◌, ◌∷◌, ◌++◌, [], List, Some, take, drop, slice_get, sym, ap, pairs_of, WritesPlace, or_nowhere}
use Rattle.std.specs.declared.cmp.Ord as ord
use Rattle.std.specs.declared.cmp.PartialEq as eq
use Rattle.std.specs.declared.cmp.PartialOrd as partial
use Rattle.btree_node.specs.declared.node_stores.Nodes as nodes
use Rattle.btree_node.specs.declared.node_stores.NodesMut as nodes_mut
use Rattle.btree_map.specs.Cursor.{WritesFirst, WritesLast, WritesFirstValue, back_written, first_written, front_written, values_left}
use Rattle.btree_map.specs.declared.cursor.IterMut.{IterMut}
use Rattle.btree_map.specs.declared.cursor.ValuesMut.{ValuesMut}
use Rattle.btree_map.proofs.SpanLemmas.{span-first, span-last}

module _ {K V C O : Type 0} {g : ord.Ghosts K} {g' : eq.Ghosts K} {g'' : partial.Ghosts K} {s : nodes_mut.Ghosts C K V O} {s' : nodes.Ghosts C K V}
    (c : IterMut K V C O g g' g'' s s') (some : c.front < c.back) (k : K) (was w : V) where
  pub writes-first : slice_get (pairs_of c.map.now) c.front ≡ Some (k, was)
      → WritesPlace g.cmp c.map.now (front_written c w) (or_nowhere c.first) c.front k was w → WritesFirst c k was w
  writes-first here x = record {
    left =
        span-first (pairs_of c.map.now) c.front c.back some (k, was) (k, w) here
        ∙ ap (λ l. (k, was) ∷ take (c.back - (c.front + 1)) (drop (c.front + 1) l)) (sym x.pairs);
    writes = x;
  }

  pub writes-last : slice_get (pairs_of c.map.now) (c.back - 1) ≡ Some (k, was)
      → WritesPlace g.cmp c.map.now (back_written c w) (or_nowhere c.last) (c.back - 1) k was w → WritesLast c k was w
  writes-last here x = record {
    left =
        span-last (pairs_of c.map.now) c.front c.back some (k, was) (k, w) here
        ∙ ap (λ (l : List (K × V)). take (c.back - 1 - c.front) (drop c.front l) ++ (k, was) ∷ []) (sym x.pairs);
    writes = x;
  }

module _ {K V C O : Type 0} {g : ord.Ghosts K} {g' : eq.Ghosts K} {g'' : partial.Ghosts K} {s : nodes_mut.Ghosts C K V O} {s' : nodes.Ghosts C K V}
    (c : ValuesMut K V C O g g' g'' s s') (some : c.front < c.back) (k : K) (was : V) (here : slice_get (pairs_of c.map.now) c.front ≡ Some (k, was)) where
  pub first-value : slice_get (values_left c) 0 ≡ Some was
  first-value = ap (λ (l : List (K × V)). slice_get (each (λ (x : K × V). x.1) l) 0) (span-first (pairs_of c.map.now) c.front c.back some (k, was) (k, was) here)

  pub writes-value : (w : V) → WritesPlace g.cmp c.map.now (first_written c w) (or_nowhere c.first) c.front k was w → WritesFirstValue c was w
  writes-value w x = record {
    key = k;
    left =
        ap (each (λ (x : K × V). x.1))
        (span-first (pairs_of c.map.now) c.front c.back some (k, was) (k, w) here
        ∙ ap (λ l. (k, was) ∷ take (c.back - (c.front + 1)) (drop (c.front + 1) l)) (sym x.pairs));
    writes = x;
  }
