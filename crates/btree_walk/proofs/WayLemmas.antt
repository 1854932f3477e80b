-- A walk in either direction: down to a leaf, and up to an ancestor with an item that is not passed.
use Rattle.btree_walk.proofs.Common.{[], ◌≡◌, ℕ, suc, ◌+◌, ◌-◌, ◌<◌, List, ◌∷◌, ◌++◌, length, map, take, slice_get, Option, Some, None, refl, sym, ap, subst, ◌∙◌, option_map, arith, length-map, length_push, AllByRecursion, Node, view_of, leaf, IsUnder, AreRows, under-leaf, Ancestor, TreeState, node_map, list_under}
use Rattle.std.proofs.lemmas.List.{map-append}
use Rattle.std.specs.FinMap as finite
use Rattle.btree_laws.proofs.LookUp.Walk.{rows-pop, rows-push}
use Rattle.btree_node.proofs.RoomLemmas.{none-last}
use Rattle.btree_walk.proofs.RowLemmas.{split-last}

module _ {K V : Type 0} (tree : TreeState K V) where
  -- a node that can be at a depth, and branches whose children can
  abbrev pub Under : (depth id : ℕ) → Type 0
  Under depth id = IsUnder (node_map tree) (finite.len tree.nodes) depth id

  abbrev pub AreUnder : (depth : ℕ) → List ((K × V) × ℕ) → Type 0
  AreUnder depth row = AllByRecursion (λ b. Under depth b.1) row

  -- a direction: what an ancestor has left, and what is left in that and in all such rows; `join` puts lists that are
  -- passed one after the other together, and `more` puts the branch that is passed next to a row
  pub record Way : Type 0 where
    pub row_of : Ancestor K V → List ((K × V) × ℕ)
    pub in_row : List ((K × V) × ℕ) → List (K × V)
    pub in_rows : List (List ((K × V) × ℕ)) → List (K × V)
    pub join : List (K × V) → List (K × V) → List (K × V)
    pub more : (K × V) × ℕ → List ((K × V) × ℕ) → List ((K × V) × ℕ)
    pub joins : (xs ys zs : List (K × V)) → join (join xs ys) zs ≡ join xs (join ys zs)
    pub none : (xs : List (K × V)) → join [] xs ≡ xs
    pub no_branch : in_row [] ≡ []
    pub no_row : in_rows [] ≡ []
    pub push : (rows : List (List ((K × V) × ℕ))) (row : List ((K × V) × ℕ)) → in_rows (rows ++ row ∷ []) ≡ join (in_row row) (in_rows rows)
    pub first : (b : (K × V) × ℕ) (row : List ((K × V) × ℕ)) → in_row (more b row) ≡ join (b.0 ∷ []) (join (list_under tree b.1) (in_row row))
    pub under : (depth : ℕ) (b : (K × V) × ℕ) (row : List ((K × V) × ℕ)) → AreUnder depth (more b row) → Under depth b.1 × AreUnder depth row

module _ {K V : Type 0} {tree : TreeState K V} (way : Way tree) where
  -- what each ancestor has left
  abbrev pub rows_by : List (Ancestor K V) → List (List ((K × V) × ℕ))
  rows_by ancestors = map way.row_of ancestors

  -- what is left in the ancestors
  abbrev pub left : List (Ancestor K V) → List (K × V)
  left ancestors = way.in_rows (rows_by ancestors)

  -- each child that is left lies one level below its ancestor, the first of which is the root
  abbrev pub AreOpen : List (Ancestor K V) → Type 0
  AreOpen ancestors = AreRows (node_map tree) (finite.len tree.nodes) 0 (rows_by ancestors)

  -- an internal node is put below the ancestors, with a row of which all children are one level below
  pub record IsPushed (ancestors new : List (Ancestor K V)) (row : List ((K × V) × ℕ)) : Type 0 where
    pub rows : AreOpen new
    pub deeper : length (rows_by new) ≡ suc (length (rows_by ancestors))
    pub list : left new ≡ way.join (way.in_row row) (left ancestors)

  pub pushed : (ancestors : List (Ancestor K V)) (f : Ancestor K V) {new : List (Ancestor K V)} {row : List ((K × V) × ℕ)} → AreOpen ancestors → new ≡ ancestors ++ f ∷ []
      → way.row_of f ≡ row → AreUnder tree (suc (length (rows_by ancestors))) row → IsPushed ancestors new row
  pushed ancestors f {new} {row} were made is under =
      let more : rows_by new ≡ rows_by ancestors ++ row ∷ [] = ap rows_by made ∙ map-append way.row_of ancestors (f ∷ []) ∙ ap (λ r. rows_by ancestors ++ r ∷ []) is in
      let none_more : 0 + length (rows_by ancestors) ≡ length (rows_by ancestors) = omega arith in
      record {
        rows = subst (λ r. AreRows (node_map tree) (finite.len tree.nodes) 0 r) (sym more) (rows-push (node_map tree) (finite.len tree.nodes) 0 (rows_by ancestors) row were (rw none_more under));
        deeper = let q = length_push (rows_by ancestors) row in let m = ap length more in omega arith;
        list = ap way.in_rows more ∙ way.push (rows_by ancestors) row;
      }

  pub room : (ancestors : List (Ancestor K V)) {id : ℕ} → Under tree (length (rows_by ancestors)) id → length ancestors < 32
  room ancestors u = let l = u.room in let m = length-map ancestors way.row_of in omega arith

  -- going down: the list at the start is still that of a node and of the rows above it
  pub record IsDown (start : List (K × V)) (ancestors : List (Ancestor K V)) (id : ℕ) : Type 0 where
    pub rows : AreOpen ancestors
    pub under : Under tree (length (rows_by ancestors)) id
    pub list : start ≡ way.join (list_under tree id) (left ancestors)

  module _ {start : List (K × V)} {ancestors : List (Ancestor K V)} {id : ℕ} (d : IsDown start ancestors id) where
    pub down-room : length ancestors < 32
    down-room = room ancestors d.under

    pub down-leaf : (node : Node K V) → finite.get tree.nodes id ≡ Some node → (p : Option ℕ) (ys : List (K × V)) → view_of node ≡ leaf p ys
        → start ≡ way.join ys (left ancestors)
    down-leaf node here p ys e =
        d.list ∙ ap (λ zs. way.join zs (left ancestors))
        (under-leaf (node_map tree) (finite.len tree.nodes) (length (rows_by ancestors)) id p ys d.under (ap (option_map view_of) here ∙ ap Some e))

    -- to the child that is passed first
    pub down-internal : (child : ℕ) (row : List ((K × V) × ℕ)) → Under tree (suc (length (rows_by ancestors))) child → AreUnder tree (suc (length (rows_by ancestors))) row
        → list_under tree id ≡ way.join (list_under tree child) (way.in_row row) → (f : Ancestor K V) → way.row_of f ≡ row
        → {new : List (Ancestor K V)} → new ≡ ancestors ++ f ∷ [] → IsDown start new child
    down-internal child row here under parts f is {new} made =
        let p = pushed ancestors f d.rows made is under in
        record {
          rows = p.rows;
          under = subst (λ n. Under tree n child) (sym p.deeper) here;
          list =
              d.list ∙ ap (λ ys. way.join ys (left ancestors)) parts
              ∙ way.joins (list_under tree child) (way.in_row row) (left ancestors)
              ∙ ap (way.join (list_under tree child)) (sym p.list);
        }

  -- an ancestor was popped: the rest are above it, with their rows unchanged
  pub record IsTakenOff (ancestors rest : List (Ancestor K V)) (f : Ancestor K V) : Type 0 where
    pub fewer : length rest < length ancestors
    pub rows : AreOpen rest
    pub under : AreUnder tree (suc (length (rows_by rest))) (way.row_of f)
    pub list : left ancestors ≡ way.join (way.in_row (way.row_of f)) (left rest)

  pub taken-off : (ancestors : List (Ancestor K V)) {rest : List (Ancestor K V)} {f : Ancestor K V} → AreOpen ancestors
      → Some f ≡ slice_get ancestors (length ancestors - 1) → rest ≡ take (length ancestors - 1) ancestors → IsTakenOff ancestors rest f
  taken-off ancestors {rest} {f} was answer after =
      let whole : ancestors ≡ rest ++ f ∷ [] = split-last ancestors f answer ∙ ap (λ l. l ++ f ∷ []) (sym after) in
      let more : rows_by ancestors ≡ rows_by rest ++ way.row_of f ∷ [] = ap rows_by whole ∙ map-append way.row_of rest (f ∷ []) in
      let low = rows-pop (node_map tree) (finite.len tree.nodes) 0 (rows_by rest) (way.row_of f) (subst (λ r. AreRows (node_map tree) (finite.len tree.nodes) 0 r) more was) in
      let none_more : 0 + length (rows_by rest) ≡ length (rows_by rest) = omega arith in
      record {
        fewer = let q = length_push rest f in let w = ap length whole in omega arith;
        rows = low.above;
        under = subst (λ n. AreUnder tree (suc n) (way.row_of f)) none_more low.under;
        list = ap way.in_rows more ∙ way.push (rows_by rest) (way.row_of f);
      }

  -- going up: the ancestors that are passed had nothing left
  pub record IsUp (start ancestors : List (Ancestor K V)) : Type 0 where
    pub rows : AreOpen ancestors
    pub list : left start ≡ left ancestors

  module _ {start ancestors : List (Ancestor K V)} (up : IsUp start ancestors) {rest : List (Ancestor K V)} {f : Ancestor K V} (off : IsTakenOff ancestors rest f) where
    -- no item was left in it
    pub up-passed : way.row_of f ≡ [] → IsUp start rest
    up-passed none = record {
      rows = off.rows;
      list = up.list ∙ off.list ∙ ap (λ row. way.join (way.in_row row) (left rest)) none ∙ ap (λ l. way.join l (left rest)) way.no_branch ∙ way.none (left rest);
    }

    -- the next item x is its own, and then a child comes
    pub record Steps (x : K × V) (child : ℕ) (new : List (Ancestor K V)) : Type 0 where
      pub room : length rest < 32
      pub rows : AreOpen new
      pub under : Under tree (length (rows_by new)) child
      pub list : left start ≡ way.join (x ∷ []) (way.join (list_under tree child) (left new))

    pub up-steps : (x : K × V) (child : ℕ) (after : Ancestor K V) → way.row_of f ≡ way.more (x, child) (way.row_of after)
        → {new : List (Ancestor K V)} → new ≡ rest ++ after ∷ [] → Steps x child new
    up-steps x child after next {new} made =
        let all = way.under (suc (length (rows_by rest))) (x, child) (way.row_of after) (subst (λ row. AreUnder tree (suc (length (rows_by rest))) row) next off.under) in
        let p = pushed rest after off.rows made refl all.1 in
        record {
          room = let r = all.0.room in let m = length-map rest way.row_of in omega arith;
          rows = p.rows;
          under = subst (λ n. Under tree n child) (sym p.deeper) all.0;
          list =
              up.list ∙ off.list
              ∙ ap (λ row. way.join (way.in_row row) (left rest)) next
              ∙ ap (λ l. way.join l (left rest)) (way.first (x, child) (way.row_of after))
              ∙ way.joins (x ∷ []) (way.join (list_under tree child) (way.in_row (way.row_of after))) (left rest)
              ∙ ap (way.join (x ∷ [])) (way.joins (list_under tree child) (way.in_row (way.row_of after)) (left rest)
              ∙ ap (way.join (list_under tree child)) (sym p.list));
        }

  -- no ancestor is left
  pub up-over : {start ancestors rest : List (Ancestor K V)} → IsUp start ancestors → None ≡ slice_get ancestors (length ancestors - 1)
      → rest ≡ take (length ancestors - 1) ancestors → (rest ≡ []) × (left start ≡ [])
  up-over {start} {ancestors} up answer after =
      let none : ancestors ≡ [] = none-last ancestors answer in
      (after ∙ ap (λ l. take (length l - 1) l) none, up.list ∙ ap left none ∙ way.no_row)
