-- Two editing cursors with the same map, address and count are equal.
use Rattle.btree_map.proofs.Common.{◌≡◌, ℕ, Option, MutBor, Address, TreeState, item_index, EntriesMut}
use Rattle.std.specs.Option.{ForSome}
use Rattle.std.specs.declared.cmp.Ord as ord
use Rattle.std.specs.declared.cmp.PartialEq as eq
use Rattle.std.specs.declared.cmp.PartialOrd as partial
use Rattle.btree_node.specs.declared.node_stores.Nodes as nodes
use Rattle.btree_node.specs.declared.node_stores.NodesMut as nodes_mut
use Rattle.btree_map.specs.Spans.{IsFirstListed}
use Rattle.btree_map.proofs.SameCursor.{address-prop}
use denote.Struct.Props.{props}
use mathlib.Core.HLevel.{is_prop→PathP}

pub known-prop : (known : Option ℕ) (place : ℕ) → IsProp (ForSome known (λ n. n ≡ place))
known-prop known place = hlevel props

module _ {K V C O : Type 0} {g : ord.Ghosts K} {g' : eq.Ghosts K} {g'' : partial.Ghosts K} {s : nodes_mut.Ghosts C K V O} {s' : nodes.Ghosts C K V} where
  pub same_editing : (map : MutBor (TreeState K V)) (old new : TreeState K V) (first first' : Option Address) (known known' : Option ℕ)
      → (map_is : old ≡ new) (first_is : first ≡ first') (known_is : known ≡ known')
      → (p : IsFirstListed old first) (r : ForSome known (λ n. n ≡ item_index old first))
      → (p' : IsFirstListed new first') (r' : ForSome known' (λ n. n ≡ item_index new first'))
      → ◌≡◌ {A = EntriesMut K V C O g g' g'' s s'}
      (record { map = record map { now = old }; first = first; known = known; first_stands = p; counted = r })
      (record { map = record map { now = new }; first = first'; known = known'; first_stands = p'; counted = r' })
  same_editing map old new first first' known known' map_is first_is known_is p r p' r' i = record {
    map = record map { now = map_is i };
    first = first_is i;
    known = known_is i;
    first_stands = is_prop→PathP (λ j. IsFirstListed (map_is j) (first_is j)) (λ j. address-prop _ _) p p' i;
    counted = is_prop→PathP (λ j. ForSome (known_is j) (λ n. n ≡ item_index (map_is j) (first_is j))) (λ j. known-prop (known_is j) (item_index (map_is j) (first_is j))) r r' i;
  }
