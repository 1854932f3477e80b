-- A walk forward: what is left of a node.
use Rattle.btree_walk.proofs.Common.{[], ◌≡◌, ℕ, zero, suc, List, ◌∷◌, ◌++◌, drop, Option, Some, None, IsSome, refl, option_map, append_assoc, Content, Node, view_of, View, branches_of, views, remaining_above, remaining_in, IsUnder, AreRows, remaining-push, Ancestor, rows_of, TreeState, node_map}
use Rattle.std.proofs.lemmas.List.{map-append}
use Rattle.std.specs.FinMap as map
use Rattle.btree_laws.specs.Represents.{Represents}
use Rattle.btree_walk.proofs.WayLemmas.{Way}

module _ {K V : Type 0} where
  abbrev pub row_of : Ancestor K V → List ((K × V) × ℕ)
  row_of f = drop f.passed (branches_of (view_of f.node.now))

  pub rows-of-push : (ancestors : List (Ancestor K V)) (f : Ancestor K V) → rows_of (ancestors ++ f ∷ []) ≡ rows_of ancestors ++ row_of f ∷ []
  rows-of-push ancestors f = map-append row_of ancestors (f ∷ [])

  -- what is left of one is passed from the first branch on
  abbrev pub ahead : (tree : TreeState K V) → Way tree
  ahead tree = record {
    row_of = row_of;
    in_row = remaining_in (node_map tree) (map.len tree.nodes);
    in_rows = remaining_above (node_map tree) (map.len tree.nodes);
    join = λ xs ys. xs ++ ys;
    more = λ b row. b ∷ row;
    joins = λ xs ys zs. append_assoc xs ys zs;
    none = λ xs. refl;
    no_branch = refl;
    no_row = refl;
    push = λ rows row. remaining-push (node_map tree) (map.len tree.nodes) rows row;
    first = λ b row. refl;
    under = λ depth b row all. all;
  }

module _ {K V : Type 0} (nodes : Content (Node K V)) (len : ℕ) where
  abbrev pub left_over : List (Ancestor K V) → List (K × V)
  left_over ancestors = remaining_above (views nodes) len (rows_of ancestors)

  abbrev pub AreOpen : List (Ancestor K V) → Type 0
  AreOpen ancestors = AreRows (views nodes) len 0 (rows_of ancestors)

  pub under-used : (depth id : ℕ) → IsUnder (views nodes) len depth id → IsSome (map.get nodes id)
  under-used depth id u = at u.height u.represents
    where
      some : (o : Option (Node K V)) (v : View (K × V)) → option_map view_of o ≡ Some v → IsSome o
      some None v e = absurd (cc)
      some (Some node) v e = refl

      at : (height : ℕ) → Represents (views nodes) height u.parent id u.list → IsSome (map.get nodes id)
      at zero h = some (map.get nodes id) _ h
      at (suc height) h = some (map.get nodes id) _ h.3
