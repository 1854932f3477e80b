-- A search for the last pair within an end bound: up from a leaf, and down to one.
use Rattle.btree_walk.proofs.Common.{◌≡◌, ℕ, suc, ◌+◌, ◌<◌, ◌≤◌, Bool, true, false, List, [], ◌∷◌, ◌++◌, length, take, slice_get, Option, Some, None, refl, sym, ap, subst, ◌∙◌, option_map, arith, append_assoc, append-nil, take_all, IsTotalOrder, AllByRecursion, option_or, Ordering, Bound, Content, Node, view_of, internal, leaf, levels_below, AreRows, IsUnder, remaining_above, remaining_in, TreeState, views, Rises, Inside, remaining-push, under-internal, under-leaf, AllByRecursion-right, IsLast, branch_past, list_under, pair_past, Ancestor, rows_of}
use Rattle.std.specs.FinMap as finite
use Rattle.btree_laws.proofs.LookUp.Walk.{Lowest, rows-pop}
use Rattle.btree_laws.proofs.Paths.Frames.{AllByRecursion-left}
use Rattle.btree_walk.specs.Near.{AreSomewhere, IsCut, IsLastOr, StopsAt, child_in, item_or, list_below}
use Rattle.btree_walk.proofs.AtKeyLemmas.{remaining-parts}
use Rattle.btree_walk.proofs.LevelLemmas.{IsLower, children-lower}
use Rattle.btree_walk.proofs.NearLemmas.{ArePast, Searching, below-rises, cut-within, search-ends, search-on, search-past, search-split, within}
use Rattle.btree_walk.proofs.RowLemmas.{take-more, take-none}
use Rattle.btree_walk.proofs.WalkLemmas.{AreOpen, left_over, row_of, rows-of-push}

module _ {K V : Type 0} {cmp : K → K → Ordering} (laws : IsTotalOrder cmp) (end : Bound K) (s : TreeState K V) (whole : List (K × V)) where
  abbrev nodes : Content (Node K V)
  nodes = s.nodes

  abbrev len : ℕ
  len = finite.len s.nodes

  abbrev row_list : List ((K × V) × ℕ) → List (K × V)
  row_list row = remaining_in (views nodes) len row

  module _ (up : Rises cmp whole) where
    -- a row is cut: the search goes on after its last item before the cut, if there is one
    pub row-item : (last : Option (K × V)) (below : List (K × V)) (row : List ((K × V) × ℕ)) (above : List (K × V)) → Searching laws end whole last below (row_list row ++ above)
        → (b : (K × V) × ℕ) (stops : Bool) (cut : IsCut (branch_past cmp end) row (Some b) stops)
        → Searching laws end whole (Some b.0) (list_under s b.1) (row_list cut.outside ++ above)
    row-item last below row above search b stops cut =
        let before = cut.ended.0 in
        let parts : row ≡ (before ++ b ∷ []) ++ cut.outside = cut.parts ∙ ap (λ l. l ++ cut.outside) cut.ended.1 in
        let list : row_list row ++ above ≡ row_list before ++ b.0 ∷ (list_under s b.1 ++ (row_list cut.outside ++ above)) =
        ap (λ l. row_list l ++ above) parts
        ∙ ap (λ l. l ++ above) (remaining-parts (views nodes) len (before ++ b ∷ []) cut.outside ∙ ap (λ l. l ++ row_list cut.outside) (remaining-parts (views nodes) len before (b ∷ [])))
        ∙ (simp append_assoc) in
        let here = (AllByRecursion-right (λ c. branch_past cmp end c ≡ false) before (b ∷ []) (subst (λ l. AllByRecursion (λ c. branch_past cmp end c ≡ false) l) cut.ended.1 cut.within)).0 in
        search-on laws end whole up last below (row_list row ++ above) search (row_list before) b.0 (list_under s b.1) (row_list cut.outside ++ above) list here

    pub row-none : (last : Option (K × V)) (below : List (K × V)) (row : List ((K × V) × ℕ)) (above : List (K × V)) → Searching laws end whole last below (row_list row ++ above)
        → (stops : Bool) (cut : IsCut (branch_past cmp end) row None stops) → Searching laws end whole last below (row_list cut.outside ++ above)
    row-none last below row above search stops cut =
        let same : row ≡ cut.outside = cut.parts ∙ ap (λ l. l ++ cut.outside) cut.ended in
        subst (λ l. Searching laws end whole last below (row_list l ++ above)) same search

    -- the rest of the row begins past the bound
    pub row-past : (last : Option (K × V)) (below : List (K × V)) (row : List ((K × V) × ℕ)) (above : List (K × V)) → Searching laws end whole last below (row_list row ++ above)
        → StopsAt (branch_past cmp end) row true → ArePast laws end (row_list row ++ above)
    row-past last below [] above search next = absurd (cc)
    row-past last below (b ∷ row) above search next =
        search-past laws end whole up last below (row_list (b ∷ row) ++ above) search b.0 ((list_under s b.1 ++ row_list row) ++ above) refl next.1

    -- or it is past the bound if what comes after it is
    pub row-after : (last : Option (K × V)) (below : List (K × V)) (row : List ((K × V) × ℕ)) (above : List (K × V)) → Searching laws end whole last below (row_list row ++ above)
        → (stops : Bool) → StopsAt (branch_past cmp end) row stops → ArePast laws end above → ArePast laws end (row_list row ++ above)
    row-after last below [] above search stops next out = out
    row-after last below (b ∷ row) above search stops next out = row-past last below (b ∷ row) above search (refl, next.1)

  none-outside : {A : Type 0} (past : A → Bool) (xs : List A) → StopsAt past xs false → xs ≡ []
  none-outside past [] next = refl
  none-outside past (x ∷ xs) next = absurd (cc)

  -- the leaf of the walk
  module _ (rest above : List (K × V)) (is : whole ≡ rest ++ above) (last : Option (K × V)) where
    pub leaf-search : (stops : Bool) (cut : IsCut (pair_past cmp end) rest last stops) → Searching laws end whole last [] (cut.outside ++ above)
    leaf-search stops cut = record {
      done = cut.inside;
      parts = is ∙ ap (λ l. l ++ above) cut.parts ∙ append_assoc cut.inside cut.outside above ∙ ap (λ l. l ++ (cut.outside ++ above)) (sym (append-nil cut.inside));
      ended = cut.ended;
      done_within = cut.within;
    }

    pub leaf-on : IsCut (pair_past cmp end) rest last false → Searching laws end whole last [] above
    leaf-on cut = subst (λ l. Searching laws end whole last [] (l ++ above)) (none-outside (pair_past cmp end) cut.outside cut.next) (leaf-search false cut)

    pub leaf-past : (up : Rises cmp whole) (ys : List (K × V)) → StopsAt (pair_past cmp end) ys true → Searching laws end whole last [] (ys ++ above) → ArePast laws end (ys ++ above)
    leaf-past up [] next search = absurd (cc)
    leaf-past up (y ∷ ys) next search = search-past laws end whole up last [] ((y ∷ ys) ++ above) search y (ys ++ above) refl next.1

    pub leaf-ends : (up : Rises cmp whole) → IsCut (pair_past cmp end) rest last true → IsLast (within laws end whole) last
    leaf-ends up cut =
        let search = leaf-search true cut in
        search-ends laws end whole up last [] (cut.outside ++ above) search (leaf-past up cut.outside cut.next search) last (None, refl, refl)

  -- the last pair within the bound is under the child of a branch, or it is the branch's item, or another one
  pub record IsNear (other : Option (K × V)) (branch : Option ((K × V) × ℕ)) : Type 0 where
    pub under : AreSomewhere s (child_in branch)
    pub rest : List (K × V)
    pub search : Searching laws end whole (item_or branch other) (list_below s (child_in branch)) rest
    pub out : ArePast laws end rest

  module _ (up : Rises cmp whole) (other : Option (K × V)) (branch : Option ((K × V) × ℕ)) (n : IsNear other branch) where
    pub near-rises : Rises cmp (list_below s (child_in branch))
    near-rises = below-rises laws end whole up (item_or branch other) (list_below s (child_in branch)) n.rest n.search

    pub near-ends : (result : Option (K × V)) → IsLastOr (within laws end (list_below s (child_in branch))) (item_or branch other) result → IsLast (within laws end whole) result
    near-ends result found = search-ends laws end whole up (item_or branch other) (list_below s (child_in branch)) n.rest n.search n.out result found

  -- up through the ancestors: those below a level are searched
  module _ (ancestors : List (Ancestor K V)) (other : Option (K × V)) where
    pub record IsClimbing (level : ℕ) (branch : Option ((K × V) × ℕ)) : Type 0 where
      pub low : level ≤ length ancestors
      pub rows : AreOpen nodes len (take level ancestors)
      pub under : AreSomewhere s (child_in branch)
      pub search : Searching laws end whole (item_or branch other) (list_below s (child_in branch)) (left_over nodes len (take level ancestors))

    pub climb-start : AreOpen nodes len ancestors → Searching laws end whole other [] (left_over nodes len ancestors) → IsClimbing (length ancestors) None
    climb-start rows search =
        let all : ancestors ≡ take (length ancestors) ancestors = sym (take_all (length ancestors) ancestors (omega arith)) in
        record { low = omega arith; rows = subst (λ l. AreOpen nodes len l) all rows; under = tt; search = subst (λ l. Searching laws end whole other [] (left_over nodes len l)) all search }

    -- a level is searched
    module _ (up : Rises cmp whole) (level : ℕ) (branch : Option ((K × V) × ℕ)) (c : IsClimbing (suc level) branch) (f : Ancestor K V) (at : slice_get ancestors level ≡ Some f) where
      abbrev higher : List (Ancestor K V)
      higher = take level ancestors

      more : take (suc level) ancestors ≡ higher ++ f ∷ []
      more = take-more ancestors level f at

      rows : rows_of (take (suc level) ancestors) ≡ rows_of higher ++ row_of f ∷ []
      rows = ap rows_of more ∙ rows-of-push higher f

      searching : Searching laws end whole (item_or branch other) (list_below s (child_in branch)) (row_list (row_of f) ++ left_over nodes len higher)
      searching =
          subst (λ l. Searching laws end whole (item_or branch other) (list_below s (child_in branch)) l)
          (ap (remaining_above (views nodes) len) rows ∙ remaining-push (views nodes) len (rows_of higher) (row_of f)) c.search

      pub record HasClimbed (later : Option ((K × V) × ℕ)) (outside : List ((K × V) × ℕ)) : Type 0 where
        pub above : AreOpen nodes len higher
        pub under : AreSomewhere s (child_in (option_or later branch))
        pub search : Searching laws end whole (item_or (option_or later branch) other) (list_below s (child_in (option_or later branch))) (row_list outside ++ left_over nodes len higher)

      low : Lowest (views nodes) len 0 (rows_of higher) (row_of f)
      low = rows-pop (views nodes) len 0 (rows_of higher) (row_of f) (subst (λ r. AreRows (views nodes) len 0 r) rows c.rows)

      climbed : (later : Option ((K × V) × ℕ)) (stops : Bool) (cut : IsCut (branch_past cmp end) (row_of f) later stops) → HasClimbed later cut.outside
      climbed later stops cut = by later cut
        where
          by : (later : Option ((K × V) × ℕ)) (cut : IsCut (branch_past cmp end) (row_of f) later stops) → HasClimbed later cut.outside
          by None cut = record { above = low.above; under = c.under; search = row-none up (item_or branch other) (list_below s (child_in branch)) (row_of f) (left_over nodes len higher) searching stops cut }
          by (Some b) cut =
              let inside = AllByRecursion-left (λ (d : (K × V) × ℕ). IsUnder (views nodes) len (suc (0 + length (rows_of higher))) d.1) cut.inside cut.outside
              (subst (λ l. AllByRecursion (λ (d : (K × V) × ℕ). IsUnder (views nodes) len (suc (0 + length (rows_of higher))) d.1) l) cut.parts low.under) in
              let here = AllByRecursion-right (λ (d : (K × V) × ℕ). IsUnder (views nodes) len (suc (0 + length (rows_of higher))) d.1) cut.ended.0 (b ∷ [])
              (subst (λ l. AllByRecursion (λ (d : (K × V) × ℕ). IsUnder (views nodes) len (suc (0 + length (rows_of higher))) d.1) l) cut.ended.1 inside) in
              record {
                above = low.above;
                under = (suc (0 + length (rows_of higher)), here.0);
                search = row-item up (item_or branch other) (list_below s (child_in branch)) (row_of f) (left_over nodes len higher) searching b stops cut;
              }

      pub climb-on : (later : Option ((K × V) × ℕ)) → IsCut (branch_past cmp end) (row_of f) later false → (r : Option ((K × V) × ℕ)) → r ≡ option_or later branch → IsClimbing level r
      climb-on later cut r is =
          let h = climbed later false cut in
          let l = c.low in
          rw is record {
            low = omega arith;
            rows = h.above;
            under = h.under;
            search = subst (λ l. Searching laws end whole (item_or (option_or later branch) other) (list_below s (child_in (option_or later branch))) (row_list l ++ left_over nodes len higher)) (none-outside (branch_past cmp end) cut.outside cut.next) h.search;
          }

      pub climb-stop : (later : Option ((K × V) × ℕ)) → IsCut (branch_past cmp end) (row_of f) later true → (r : Option ((K × V) × ℕ)) → r ≡ option_or later branch → IsNear other r
      climb-stop later cut r is =
          let h = climbed later true cut in
          rw is record {
            under = h.under;
            rest = row_list cut.outside ++ left_over nodes len higher;
            search = h.search;
            out = row-past up (item_or (option_or later branch) other) (list_below s (child_in (option_or later branch))) cut.outside (left_over nodes len higher) h.search cut.next;
          }

    -- all levels are searched
    pub climb-end : (branch : Option ((K × V) × ℕ)) → IsClimbing 0 branch → IsNear other branch
    climb-end branch c =
        let none : take 0 ancestors ≡ [] = take-none ancestors in
        record {
          under = c.under;
          rest = [];
          search = subst (λ l. Searching laws end whole (item_or branch other) (list_below s (child_in branch)) (left_over nodes len l)) none c.search;
          out = tt;
        }

  -- down to a leaf
  pub record IsGoingDown (last : Option (K × V)) (id : ℕ) : Type 0 where
    pub depth : ℕ
    pub under : IsUnder (views nodes) len depth id
    pub rest : List (K × V)
    pub search : Searching laws end whole last (list_under s id) rest
    pub out : ArePast laws end rest

  module _ (up : Rises cmp whole) (last : Option (K × V)) (id : ℕ) (d : IsGoingDown last id) (node : Node K V) (here : finite.get nodes id ≡ Some node) where
    focus : views nodes id ≡ Some (view_of node)
    focus = ap (option_map view_of) here

    pub down-ends : (p : Option ℕ) (ys : List (K × V)) → view_of node ≡ leaf p ys → (found : Option (K × V)) (stops : Bool) → IsCut (pair_past cmp end) ys found stops
        → IsLast (within laws end whole) (option_or found last)
    down-ends p ys is found stops cut =
        let list : list_under s id ≡ ys = under-leaf (views nodes) len d.depth id p ys d.under (focus ∙ ap Some is) in
        let up_ys : Rises cmp ys = subst (λ l. Rises cmp l) list (below-rises laws end whole up last (list_under s id) d.rest d.search) in
        search-ends laws end whole up last (list_under s id) d.rest d.search d.out (option_or found last)
        (found, subst (λ l. IsLast l found) (sym (ap (within laws end) list ∙ cut-within laws end ys up_ys found stops cut)) cut.ended, refl)

    module _ (p : Option ℕ) (first : ℕ) (bs : List ((K × V) × ℕ)) (is : view_of node ≡ internal p first bs) where
      inside : Inside (views nodes) len d.depth id first bs
      inside = under-internal (views nodes) len d.depth id p first bs d.under (focus ∙ ap Some is)

      lower : IsLower (views nodes) len id first bs
      lower = children-lower (views nodes) len d.depth id d.under p first bs (focus ∙ ap Some is)

      split : Searching laws end whole last (list_under s first) (row_list bs ++ d.rest)
      split = search-split laws end whole up last (list_under s id) d.rest d.search (list_under s first) (row_list bs) inside.list

      pub down-first : (stops : Bool) → IsCut (branch_past cmp end) bs None stops → IsGoingDown last first
      down-first stops cut =
          let search = row-none up last (list_under s first) bs d.rest split stops cut in
          record {
            depth = suc d.depth;
            under = inside.first_under;
            rest = row_list cut.outside ++ d.rest;
            search = search;
            out = row-after up last (list_under s first) cut.outside d.rest search stops cut.next d.out;
          }

      pub down-first-lower : levels_below (views nodes) len first < levels_below (views nodes) len id
      down-first-lower = lower.first_lower

      module _ (b : (K × V) × ℕ) (stops : Bool) (cut : IsCut (branch_past cmp end) bs (Some b) stops) where
        among : (P : (K × V) × ℕ → Type 0) → AllByRecursion P bs → P b
        among P all =
            let front = AllByRecursion-left P cut.inside cut.outside (subst (λ l. AllByRecursion P l) cut.parts all) in
            (AllByRecursion-right P cut.ended.0 (b ∷ []) (subst (λ l. AllByRecursion P l) cut.ended.1 front)).0

        pub down-after : IsGoingDown (Some b.0) b.1
        down-after =
            let search = row-item up last (list_under s first) bs d.rest split b stops cut in
            record {
              depth = suc d.depth;
              under = among (λ c. IsUnder (views nodes) len (suc d.depth) c.1) inside.row_under;
              rest = row_list cut.outside ++ d.rest;
              search = search;
              out = row-after up (Some b.0) (list_under s b.1) cut.outside d.rest search stops cut.next d.out;
            }

        pub down-after-lower : levels_below (views nodes) len b.1 < levels_below (views nodes) len id
        down-after-lower = among (λ c. levels_below (views nodes) len c.1 < levels_below (views nodes) len id) lower.row_lower
