-- A walk down to a key, in either direction: what lies around the node that it has come to.
use Rattle.btree_walk.proofs.Common.{◌≡◌, ℕ, suc, List, ◌∷◌, ◌++◌, length, length-append, map, slice_get, Option, Some, None, Ok, Err, sym, ap, subst, ◌∙◌, option_map, arith, append_assoc, IsTotalOrder, AllByRecursion, Ordering, Equal, Greater, Less, place_of, Node, view_of, internal, items_of, leaf, remaining_in, AreAbove, AreBelow, Rises, ascends, rises-left, rises-right, side, Inside, under-internal, under-leaf, AllByRecursion-append, preceding_in, with_child_before, TreeState, node_map, list_under}
use Rattle.std.specs.FinMap as finite
use Rattle.btree_item.specs.Pairs.{Ascends}
use Rattle.btree_walk.proofs.AtKeyLemmas.{child-under, cut-list, cut-low, gap-none, gap-of, hit-of, node-rises, remaining-parts, row-high}
use Rattle.btree_walk.proofs.WayLemmas.{Under}

pub parts-leaf : {X : Type 0} (before left right after : List X) → before ++ ((left ++ right) ++ after) ≡ (before ++ left) ++ (right ++ after)
parts-leaf before left right after = simp append_assoc

parts-found : {X : Type 0} (before front left back after : List X) → before ++ ((front ++ (left ++ back)) ++ after) ≡ (before ++ (front ++ left)) ++ (back ++ after)
parts-found before front left back after = simp append_assoc

parts-down : {X : Type 0} (before pre child right after : List X) → before ++ ((pre ++ (child ++ right)) ++ after) ≡ (before ++ pre) ++ (child ++ (right ++ after))
parts-down before pre child right after = simp append_assoc

module _ {K V : Type 0} (cmp : K → K → Ordering) (k : K) (whole : List (K × V)) (tree : TreeState K V) where
  -- the list in three parts: what is below the key, the list under node `id`, and what is above the key
  pub record IsAround (id : ℕ) (before after : List (K × V)) : Type 0 where
    pub list : whole ≡ before ++ (list_under tree id ++ after)
    pub low : AreBelow cmp k before
    pub high : AreAbove cmp k after

module _ {K V : Type 0} {cmp : K → K → Ordering} (laws : IsTotalOrder cmp) {k : K} {whole : List (K × V)} (up : Rises cmp whole) {tree : TreeState K V}
    {id : ℕ} {before after : List (K × V)} (a : IsAround cmp k whole tree id before after) {depth : ℕ} (u : Under tree depth id)
    (node : Node K V) (here : finite.get tree.nodes id ≡ Some node) where
  focus : node_map tree id ≡ Some (view_of node)
  focus = ap (option_map view_of) here

  inner-rises : Rises cmp (list_under tree id)
  inner-rises = rises-left cmp (list_under tree id) after (rises-right cmp before (list_under tree id ++ after) (subst (λ l. Rises cmp l) a.list up))

  items-rise : Rises cmp (items_of (view_of node))
  items-rise = node-rises cmp (node_map tree) (finite.len tree.nodes) depth id (view_of node) u focus inner-rises

  pub items-ascend : Ascends cmp (items_of (view_of node))
  items-ascend = ascends cmp (items_of (view_of node)) items-rise

  module _ (p : Option ℕ) (ys : List (K × V)) (is : view_of node ≡ leaf p ys) where
    pub leaf-list : whole ≡ before ++ (ys ++ after)
    leaf-list = a.list ∙ ap (λ l. before ++ (l ++ after)) (under-leaf (node_map tree) (finite.len tree.nodes) depth id p ys u (focus ∙ ap Some is))

    pub leaf-rises : Rises cmp ys
    leaf-rises = subst (λ v. Rises cmp (items_of v)) is items-rise

  module _ (p : Option ℕ) (first : ℕ) (bs : List ((K × V) × ℕ)) (is : view_of node ≡ internal p first bs) where
    pub inside : Inside (node_map tree) (finite.len tree.nodes) depth id first bs
    inside = under-internal (node_map tree) (finite.len tree.nodes) depth id p first bs u (focus ∙ ap Some is)

    inside-list : whole ≡ before ++ ((list_under tree first ++ remaining_in (node_map tree) (finite.len tree.nodes) bs) ++ after)
    inside-list = a.list ∙ ap (λ l. before ++ (l ++ after)) inside.list

    branches-rise : Rises cmp (map (λ b. b.0) bs)
    branches-rise = subst (λ v. Rises cmp (items_of v)) is items-rise

    -- the key is that of a branch
    pub record IsFound (i : ℕ) : Type 0 where
      pub left : List ((K × V) × ℕ)
      pub branch : (K × V) × ℕ
      pub right : List ((K × V) × ℕ)
      pub parts : bs ≡ left ++ branch ∷ right
      pub counted : i ≡ length left
      pub same : side cmp k branch.0 ≡ Equal
      pub list : whole ≡ (before ++ (list_under tree first ++ remaining_in (node_map tree) (finite.len tree.nodes) left))
          ++ branch.0 ∷ ((list_under tree branch.1 ++ remaining_in (node_map tree) (finite.len tree.nodes) right) ++ after)

    pub found : (i : ℕ) → place_of cmp k (map (λ b. b.0) bs) ≡ Ok i → IsFound i
    found i e =
        let h = hit-of cmp (node_map tree) (finite.len tree.nodes) k laws bs i branches-rise e in
        let back = list_under tree h.branch.1 ++ remaining_in (node_map tree) (finite.len tree.nodes) h.right in
        record {
          left = h.left;
          branch = h.branch;
          right = h.right;
          parts = h.is;
          counted = h.counted;
          same = h.same;
          list =
              inside-list ∙ ap (λ l. before ++ ((list_under tree first ++ remaining_in (node_map tree) (finite.len tree.nodes) l) ++ after)) h.is
              ∙ ap (λ l. before ++ ((list_under tree first ++ l) ++ after)) (remaining-parts (node_map tree) (finite.len tree.nodes) h.left (h.branch ∷ h.right))
              ∙ parts-found before (list_under tree first) (remaining_in (node_map tree) (finite.len tree.nodes) h.left) (h.branch.0 ∷ back) after;
        }

    -- the key is in no branch: the child between those below it and those above it is next
    pub record IsBetween (i child : ℕ) : Type 0 where
      pub left : List ((K × V) × ℕ)
      pub right : List ((K × V) × ℕ)
      pub parts : bs ≡ left ++ right
      pub counted : i ≡ length left
      pub under : Under tree (suc depth) child
      pub around : IsAround cmp k whole tree child (before ++ preceding_in (node_map tree) (finite.len tree.nodes) (with_child_before first left))
          (remaining_in (node_map tree) (finite.len tree.nodes) right ++ after)

    pub between : (i : ℕ) → place_of cmp k (map (λ b. b.0) bs) ≡ Err i → (child : ℕ) → slice_get (first ∷ map (λ b. b.1) bs) i ≡ Some child → IsBetween i child
    between i e child get =
        let g = gap-of cmp (node_map tree) (finite.len tree.nodes) k laws bs i branches-rise e in
        let at : slice_get (first ∷ map (λ b. b.1) (g.left ++ g.right)) (length g.left) ≡ Some child = rw (← g.is, ← g.counted) get in
        let front = list_under tree first in
        let left = remaining_in (node_map tree) (finite.len tree.nodes) g.left in
        let right = remaining_in (node_map tree) (finite.len tree.nodes) g.right in
        let pre = preceding_in (node_map tree) (finite.len tree.nodes) (with_child_before first g.left) in
        let both : Rises cmp ((front ++ left) ++ right) =
        subst (λ l. Rises cmp l) (ap (λ l. front ++ remaining_in (node_map tree) (finite.len tree.nodes) l) g.is ∙ ap (λ l. front ++ l) (remaining-parts (node_map tree) (finite.len tree.nodes) g.left g.right)
        ∙ sym (append_assoc front left right)) (subst (λ l. Rises cmp l) inside.list inner-rises) in
        record {
          left = g.left;
          right = g.right;
          parts = g.is;
          counted = g.counted;
          under = child-under (λ n. Under tree (suc depth) n) first g.left g.right child at inside.first_under
              (subst (λ l. AllByRecursion (λ (b : (K × V) × ℕ). Under tree (suc depth) b.1) l) g.is inside.row_under);
          around = record {
            list =
                inside-list
                ∙ ap (λ l. before ++ ((front ++ remaining_in (node_map tree) (finite.len tree.nodes) l) ++ after)) g.is
                ∙ ap (λ l. before ++ (l ++ after)) (cut-list (node_map tree) (finite.len tree.nodes) first g.left g.right child at)
                ∙ parts-down before pre (list_under tree child) right after;
            low = AllByRecursion-append (λ y. side cmp k y ≡ Less) before pre a.low
                (cut-low cmp (node_map tree) (finite.len tree.nodes) k laws first g.left g.low (rises-left cmp (front ++ left) right both));
            high = AllByRecursion-append (λ y. side cmp k y ≡ Greater) right after
                (row-high cmp (node_map tree) (finite.len tree.nodes) k laws g.right g.high (rises-right cmp (front ++ left) right both)) a.high;
          };
        }

    -- such a child is there
    pub some-child : (i : ℕ) → place_of cmp k (map (λ b. b.0) bs) ≡ Err i → slice_get (first ∷ map (λ b. b.1) bs) i ≡ None → ⊥
    some-child i e get =
        let g = gap-of cmp (node_map tree) (finite.len tree.nodes) k laws bs i branches-rise e in
        gap-none first bs i (let c = g.counted in let b = ap length g.is in let n = length-append g.left g.right in omega arith) get
