-- Two cursors with the same map, addresses and places are equal.
use Rattle.btree_map.proofs.Common.{◌≡◌, ◌≤◌, ℕ, Bool, Option, length, nat_lt, slice_get, MutBor, Address, item_addresses_of, TreeState, prior, index_after, index_of}
use Rattle.std.specs.declared.cmp.Ord as ord
use Rattle.std.specs.declared.cmp.PartialEq as eq
use Rattle.std.specs.declared.cmp.PartialOrd as partial
use Rattle.btree_node.specs.declared.node_stores.Nodes as nodes
use Rattle.btree_node.specs.declared.node_stores.NodesMut as nodes_mut
use Rattle.btree_map.specs.declared.cursor.IterMut.{IterMut}
use Rattle.btree_map.specs.declared.cursor.RangeMut.{RangeMut}
use Rattle.btree_map.specs.declared.cursor.ValuesMut.{ValuesMut}
use denote.Struct.Props.{props}
use mathlib.Core.HLevel.{is_prop→PathP}

pub address-prop : (a b : Option Address) → IsProp (a ≡ b)
address-prop a b = hlevel props

pub low-prop : (m n : ℕ) → IsProp (m ≤ n)
low-prop m n = hlevel props

told-prop : (a b : Bool) → IsProp (a ≡ b)
told-prop a b = hlevel props

module _ {K V C O : Type 0} {g : ord.Ghosts K} {g' : eq.Ghosts K} {g'' : partial.Ghosts K} {s : nodes_mut.Ghosts C K V O} {s' : nodes.Ghosts C K V} where
  pub same_cursor : (map : MutBor (TreeState K V)) (old new : TreeState K V) (first first' last last' : Option Address) (front back : ℕ)
      → (map_is : old ≡ new) (first_is : first ≡ first') (last_is : last ≡ last')
      → (p : first ≡ slice_get (item_addresses_of old) front) (q : last ≡ prior (item_addresses_of old) back) (r : back ≤ length (item_addresses_of old))
      → (p' : first' ≡ slice_get (item_addresses_of new) front) (q' : last' ≡ prior (item_addresses_of new) back) (r' : back ≤ length (item_addresses_of new))
      → ◌≡◌ {A = IterMut K V C O g g' g'' s s'}
      (record { map = record map { now = old }; first = first; last = last; front = front; back = back; first_stands = p; last_stands = q; within = r })
      (record { map = record map { now = new }; first = first'; last = last'; front = front; back = back; first_stands = p'; last_stands = q'; within = r' })
  same_cursor map old new first first' last last' front back map_is first_is last_is p q r p' q' r' i = record {
    map = record map { now = map_is i };
    first = first_is i;
    last = last_is i;
    front = front;
    back = back;
    first_stands = is_prop→PathP (λ j. first_is j ≡ slice_get (item_addresses_of (map_is j)) front) (λ j. address-prop _ _) p p' i;
    last_stands = is_prop→PathP (λ j. last_is j ≡ prior (item_addresses_of (map_is j)) back) (λ j. address-prop _ _) q q' i;
    within = is_prop→PathP (λ j. back ≤ length (item_addresses_of (map_is j))) (λ j. low-prop _ _) r r' i;
  }

  pub same_values : (map : MutBor (TreeState K V)) (old new : TreeState K V) (first first' : Option Address) (front back : ℕ)
      → (map_is : old ≡ new) (first_is : first ≡ first')
      → (p : first ≡ slice_get (item_addresses_of old) front) (r : back ≤ length (item_addresses_of old))
      → (p' : first' ≡ slice_get (item_addresses_of new) front) (r' : back ≤ length (item_addresses_of new))
      → ◌≡◌ {A = ValuesMut K V C O g g' g'' s s'}
      (record { map = record map { now = old }; first = first; front = front; back = back; first_stands = p; within = r })
      (record { map = record map { now = new }; first = first'; front = front; back = back; first_stands = p'; within = r' })
  same_values map old new first first' front back map_is first_is p r p' r' i = record {
    map = record map { now = map_is i };
    first = first_is i;
    front = front;
    back = back;
    first_stands = is_prop→PathP (λ j. first_is j ≡ slice_get (item_addresses_of (map_is j)) front) (λ j. address-prop _ _) p p' i;
    within = is_prop→PathP (λ j. back ≤ length (item_addresses_of (map_is j))) (λ j. low-prop _ _) r r' i;
  }

  pub same_range : (map : MutBor (TreeState K V)) (old new : TreeState K V) (first first' last last' : Option Address) (any any' : Bool)
      → (map_is : old ≡ new) (first_is : first ≡ first') (last_is : last ≡ last') (any_is : any ≡ any')
      → (p : first ≡ slice_get (item_addresses_of old) (index_of (item_addresses_of old) first))
      → (q : last ≡ prior (item_addresses_of old) (index_after (item_addresses_of old) last))
      → (r : any ≡ nat_lt (index_of (item_addresses_of old) first) (index_after (item_addresses_of old) last))
      → (p' : first' ≡ slice_get (item_addresses_of new) (index_of (item_addresses_of new) first'))
      → (q' : last' ≡ prior (item_addresses_of new) (index_after (item_addresses_of new) last'))
      → (r' : any' ≡ nat_lt (index_of (item_addresses_of new) first') (index_after (item_addresses_of new) last'))
      → ◌≡◌ {A = RangeMut K V C O g g' g'' s s'}
      (record { map = record map { now = old }; first = first; last = last; any_left = any; first_stands = p; last_stands = q; ordered = r })
      (record { map = record map { now = new }; first = first'; last = last'; any_left = any'; first_stands = p'; last_stands = q'; ordered = r' })
  same_range map old new first first' last last' any any' map_is first_is last_is any_is p q r p' q' r' i = record {
    map = record map { now = map_is i };
    first = first_is i;
    last = last_is i;
    any_left = any_is i;
    first_stands = is_prop→PathP (λ j. first_is j ≡ slice_get (item_addresses_of (map_is j)) (index_of (item_addresses_of (map_is j)) (first_is j))) (λ j. address-prop _ _) p p' i;
    last_stands = is_prop→PathP (λ j. last_is j ≡ prior (item_addresses_of (map_is j)) (index_after (item_addresses_of (map_is j)) (last_is j))) (λ j. address-prop _ _) q q' i;
    ordered = is_prop→PathP (λ j. any_is j ≡ nat_lt (index_of (item_addresses_of (map_is j)) (first_is j)) (index_after (item_addresses_of (map_is j)) (last_is j))) (λ j. told-prop _ _) r r' i;
  }
