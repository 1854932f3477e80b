-- An item of a node replaced by another, in any tree: the list, the sizes, the strain and every other address.
use Rattle.btree_laws.proofs.Common.{◌≡◌, ◌≢◌, ◌≤◌, ◌++◌, ◌∷◌, [], ◌∙◌, ◌+◌, ℕ, inl, inr, List, length, set, Option, Some, refl, sym, ap, subst, arith, append_assoc, length-append, slice_get, Address, is_internal, NodeMap, View, children_of, internal, items_of, leaf, most_of, size_of, IsUnsizedFocus, HasPosition, IsPlace, one, Subtree, count_at, id_of, items_under, times_under, view_at, numbers_under, HasItems, WritesNode, own_strain, strain_under, IsAt, address_at, positions, path_after, path_before, all_positions, Path, HoldsAbove, items_after, items_before, parent_above, root_above, times_above, IsRooted, times_used, same_Some}
use Rattle.std.proofs.lemmas.List.{length-set}
use Rattle.btree_laws.proofs.Splits.KeptPositions.{positions-passed}
use Rattle.btree_laws.proofs.Paths.Frames.{above-same, one-zero, top-view}
use Rattle.btree_laws.proofs.Underflow.Writes.{remade-view}
use Rattle.btree_laws.proofs.Places.NodePlaces.{items_upto, unsized-place}
use Rattle.btree_laws.proofs.Trees.Numbers.{same-or, times-has, used-low, used-one}
use Rattle.btree_laws.proofs.Paths.Levels.{levels-rooted}
use Rattle.btree_laws.proofs.Places.OfTree.{on-unsized, unsized-on}
use Rattle.btree_laws.proofs.Paths.FromRoot.{node-rooted, rooted-unsized}
use Rattle.btree_laws.proofs.Splits.TwoParts.{times-top}
use Rattle.btree_laws.proofs.Strain.Sums.{strain-unsized}
use Rattle.btree_laws.proofs.Removal.OtherItem.{Swapped, swapped}
use Rattle.btree_laws.proofs.Places.TreePlaces.{item-in}
use Rattle.btree_laws.proofs.Places.Lists.{in-cases, in-left, in-right}
use Rattle.btree_laws.proofs.Underflow.Items.{children_at-is, items_at, items_at-is}

kind-most : {A : Type 0} (v w : View A) → is_internal v ≡ is_internal w → most_of v ≡ most_of w
kind-most (leaf p xs) (leaf q ys) e = refl
kind-most (leaf p xs) (internal q u ys) e = absurd (cc)
kind-most (internal p u xs) (leaf q ys) e = absurd (cc)
kind-most (internal p u xs) (internal q v ys) e = refl

module _ (A : Type 0) (is_right : (id : ℕ) → View A → Type 0)
    (by_size : (id : ℕ) (v w : View A) → size_of w ≡ size_of v → most_of w ≡ most_of v → is_right id v → is_right id w)
    (node_at new : NodeMap A) (root : ℕ) (xs : List A) (r : IsRooted is_right node_at root xs) (n k : ℕ) (x y : A)
    (v w : View A) (here : node_at n ≡ Some v) (item : slice_get (items_of v) k ≡ Some x) (put : WritesNode node_at new n w)
    (has : HasItems v w (set (items_of v) k y)) where
  -- the tree with the other item
  pub record Replaced : Type 0 where
    pub front : List A
    pub back : List A
    pub old_list : xs ≡ front ++ x ∷ back
    pub at_place : IsPlace node_at (Some root) xs n (Some k) (length front)
    pub rooted : IsRooted is_right new root (front ++ y ∷ back)
    pub height_is : rooted.height ≡ r.height
    pub strain_is : strain_under new root (numbers_under new rooted.height root)
        ≡ strain_under node_at root (numbers_under node_at r.height root)
    pub keeps : (expected : Option A) (b : Address) (q : ℕ) → b ≢ address_at n k → HasPosition A node_at root expected b q
        → HasPosition A new root expected b q
    pub itself : HasPosition A new root (Some y) (address_at n k) (length front)

  module _ (h : ℕ) (c : Path A h) (t : Subtree A h) (is : id_of A h t ≡ n) (s : IsUnsizedFocus A node_at [] root xs h c t) where
    view-is : v ≡ view_at A h (parent_above c) t
    view-is = same_Some v (view_at A h (parent_above c) t)
        (sym here ∙ subst (λ i. node_at i ≡ Some (view_at A h (parent_above c) t)) is
        (top-view A node_at h (parent_above c) t s.inner))

    item-there : slice_get (items_at A h t) k ≡ Some x
    item-there = ap (λ l. slice_get l k) (sym (ap items_of view-is ∙ items_at-is A h (parent_above c) t)) ∙ item

    pub swap : Swapped A h t k x y
    swap = swapped A h t k x y item-there

    abbrev Front : List A
    Front = items_before c ++ swap.front

    abbrev Back : List A
    Back = swap.back ++ items_after c

    sum : (m : ℕ) → times_above m c + times_under A h m t ≤ 1
    sum m = let o = s.once m in let u = used-low (node_at m) in omega arith

    others : (m : ℕ) → one m (id_of A h t) ≡ 0 → new m ≡ node_at m
    others m z = put.others m (λ e. one-zero m (id_of A h t) z (e ∙ sym is))

    new-view : w ≡ view_at A h (parent_above c) swap.now
    new-view =
        let i1 = ap items_of view-is ∙ items_at-is A h (parent_above c) t in
        let c1 = ap children_of view-is ∙ children_at-is A h (parent_above c) t in
        remade-view A h (parent_above c) t swap.now v w (set (items_of v) k y) (children_of v) view-is
        (record { kind = has.kind; parent = has.parent; items_are = has.items_are; children_are = has.children })
        (ap (λ l. set l k y) i1 ∙ sym swap.items_are) (c1 ∙ sym swap.children_are)

    new-list : Front ++ y ∷ Back ≡ items_before c ++ (items_under A h swap.now ++ items_after c)
    new-list = sym (ap (λ l. items_before c ++ (l ++ items_after c)) swap.new_items ∙ simp append_assoc)

    focused : IsUnsizedFocus A new [] root (Front ++ y ∷ Back) h c swap.now
    focused =
        record {
          above = subst (λ i. HoldsAbove new c i) (sym swap.here) (above-same A node_at new h c (id_of A h t)
              (λ m z. let q = sum m in let t = times-has A h m t in others m (omega arith)) s.above);
          inner = swap.holds node_at new (parent_above c) s.inner
              (subst (λ i. new i ≡ Some (view_at A h (parent_above c) swap.now)) (sym is) (put.here ∙ ap Some new-view))
              (λ m z. let q = sum m in let t = times-top A h m t in others m (omega arith));
          once = λ m.
              let o = s.once m in
              let e = swap.times m in
              elim (same-or m n) [
                | inl at ↦
                    let u1 : times_used (new m) ≡ 1 = subst (λ i. times_used (new i) ≡ 1) (sym at)
                    (used-one (new n) w put.here) in
                    let u2 : times_used (node_at m) ≡ 1 = subst (λ i. times_used (node_at i) ≡ 1) (sym at)
                    (used-one (node_at n) v here) in
                    omega arith
                | inr away ↦ let u : times_used (new m) ≡ times_used (node_at m) = ap times_used (put.others m away) in
                    omega arith
              ];
          list = new-list;
          root_is = ap (root_above c) swap.here ∙ s.root_is;
        }

    whole-stays : (expected : Option A) (b : Address) (q : ℕ) → b ≢ address_at n k → IsAt expected b (all_positions A h c t) q
        → IsAt expected b (all_positions A h c swap.now) q
    whole-stays expected b q away i =
        elim (in-cases expected b (path_before A c) (positions A h t ++ path_after A c) q i) [
          | inl early ↦ in-left expected b (path_before A c) (positions A h swap.now ++ path_after A c) q early
          | inr later ↦ in-right expected b (path_before A c) (positions A h swap.now ++ path_after A c) q later.rest later.is
              (elim (in-cases expected b (positions A h t) (path_after A c) later.rest later.there) [
                | inl inside ↦ in-left expected b (positions A h swap.now) (path_after A c) later.rest
                    (swap.stays expected b later.rest (λ e. away (e ∙ ap (λ i. address_at i k) is)) inside)
                | inr behind ↦
                    let p1 = positions-passed A h t in
                    let p2 = positions-passed A h swap.now in
                    let l1 : length (items_under A h t) ≡ length (swap.front ++ x ∷ swap.back) =
                    ap length swap.old_items in
                    let l2 : length (items_under A h swap.now) ≡ length (swap.front ++ y ∷ swap.back) =
                    ap length swap.new_items in
                    let a1 = length-append swap.front (x ∷ swap.back) in
                    let a2 = length-append swap.front (y ∷ swap.back) in
                    let b1 = behind.is in
                    in-right expected b (positions A h swap.now) (path_after A c) later.rest behind.rest (omega arith)
                    behind.there
              ])
        ]

    sized : (i : ℕ) (u : View A) → new i ≡ Some u → is_right i u
    sized i u e =
        elim (same-or i n) [
          | inl at ↦
              let same : w ≡ u = same_Some w u (sym put.here ∙ (ap new (sym at) ∙ e)) in
              let size : size_of w ≡ size_of v = ap length has.items_are ∙ length-set (items_of v) k y in
              subst (λ z. is_right i z) same (subst (λ j. is_right j w) (sym at)
              (by_size n v w size (kind-most w v has.kind) (r.sized n v here)))
          | inr away ↦ r.sized i u (sym (put.others i away) ∙ e)
        ]

    replaced-at : Replaced
    replaced-at =
        let place : length (items_before c) + items_upto A h t k ≡ length Front =
        ap (λ z. length (items_before c) + z) swap.old_upto ∙ sym (length-append (items_before c) swap.front) in
        let place2 : length (items_before c) + items_upto A h swap.now k ≡ length Front =
        ap (λ z. length (items_before c) + z) swap.upto ∙ sym (length-append (items_before c) swap.front) in
        let rooted = rooted-unsized A new is_right root (Front ++ y ∷ Back) h c swap.now focused sized in
        let wn = swap.within in
        let cn = swap.count in
        let h1 = levels-rooted A node_at root xs is_right r h c t s in
        let h2 = levels-rooted A new root (Front ++ y ∷ Back) is_right rooted h c swap.now focused in
        let s1 = strain-unsized A is_right node_at root xs r h c t s in
        let s2 = strain-unsized A is_right new root (Front ++ y ∷ Back) rooted h c swap.now focused in
        let st = swap.strain_is in
        let so : own_strain A c (count_at A h swap.now) ≡ own_strain A c (count_at A h t) = ap (own_strain A c) cn in
        let low : k ≤ count_at A h t = omega arith in
        let low2 : k ≤ count_at A h swap.now = omega arith in
        record {
          front = Front;
          back = Back;
          old_list = s.list ∙ (ap (λ l. items_before c ++ (l ++ items_after c)) swap.old_items ∙ simp append_assoc);
          at_place = subst (λ i. IsPlace node_at (Some root) xs i (Some k) (length Front)) is
              (subst (λ q. IsPlace node_at (Some root) xs (id_of A h t) (Some k) q) place
              (unsized-place A node_at [] root xs h c t s k low));
          rooted = rooted;
          height_is = omega arith;
          strain_is = omega arith;
          keeps = λ expected b q away on. unsized-on A new [] root (Front ++ y ∷ Back) expected b q h c swap.now focused
              (whole-stays expected b q away (on-unsized A node_at [] root xs expected b q h c t s on));
          itself = subst (λ i. HasPosition A new root (Some y) (address_at i k) (length Front)) (swap.here ∙ is)
              (subst (λ q. HasPosition A new root (Some y) (address_at (id_of A h swap.now) k) q) place2
              (unsized-on A new [] root (Front ++ y ∷ Back) (Some y) (address_at (id_of A h swap.now) k)
              (length (items_before c) + items_upto A h swap.now k) h c swap.now focused
              (item-in A h c (parent_above c) swap.now k y
              (ap (λ l. slice_get l k) (items_at-is A h (parent_above c) swap.now) ∙ swap.item_is) low2)));
        }

  pub replaced : Replaced
  replaced =
      let m = node-rooted A node_at is_right root xs r n (let u = used-one (node_at n) v here in omega arith) in
      replaced-at m.height m.path m.subtree m.here m.focused
