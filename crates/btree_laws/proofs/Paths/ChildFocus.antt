-- A focus at the child at an index of a node, and the positions next to that child's.
use Rattle.btree_laws.proofs.Common.{◌≡◌, ◌<◌, ◌++◌, ◌∷◌, ◌∙◌, ◌+◌, [], ℕ, zero, suc, List, length, map, Option, Some, None, Bool, true, refl, sym, ap, subst, arith, append_assoc, slice_get, Address, NodeMap, View, children_in, children_of, slot_before, Subtree, id_of, view_at, Position, branch_key, branch_positions, address_before, mark, over, address_at, positions_to, positions, positions_after, positions_before, Path, Frame, at_branch, at_first, frame_count, frame_id, frame_index, parent_above, under, IsRooted, times_used, IsUnsizedFocus}
use Rattle.btree_laws.specs.Focus.Positions.{branches_after}
use Rattle.btree_laws.proofs.AddressLists.OfPositions.{keep_back, keep_front}
use Rattle.btree_laws.proofs.LookUp.Descent.{child-numbers}
use Rattle.btree_laws.proofs.Paths.Frames.{top-view}
use Rattle.btree_laws.proofs.AddressLists.Kept.{kept, kept-append, put}
use Rattle.btree_laws.proofs.Paths.FromRoot.{node-rooted}
use Rattle.btree_laws.proofs.Paths.UnsizedFocus.{unsized-down}
use Rattle.btree_laws.proofs.AddressLists.Ends.{Begins, Ends, ends-more, node_positions-begins, node_positions-begins-front}

-- a list around an index
record Cut {X : Type 0} (g : X → ℕ) (xs : List X) (k n : ℕ) : Type 0 where
  pub front : List X
  pub found : X
  pub back : List X
  pub is : xs ≡ front ++ found ∷ back
  pub at : length front ≡ k
  pub named : g found ≡ n

cut : {X : Type 0} (g : X → ℕ) (xs : List X) (k n : ℕ) → slice_get (map {B = ℕ} g xs) k ≡ Some n → Cut g xs k n
cut g [] k n e = absurd (cc)
cut g (x ∷ xs) zero n e = record { front = []; found = x; back = xs; is = refl; at = refl; named = cc }
cut g (x ∷ xs) (suc k) n e =
    let r = cut g xs k n e in
    record {
      front = x ∷ r.front;
      found = r.found;
      back = r.back;
      is = ap (λ l. x ∷ l) r.is;
      at = ap suc r.at;
      named = r.named;
    }

module _ (A : Type 0) (node_at : NodeMap A) (root : ℕ) (xs : List A) where
  -- a focus at the child at an index of a node
  pub record ChildAt (id index child : ℕ) : Type 0 where
    pub height : ℕ
    pub frame : Frame A height
    pub path : Path A (suc height)
    pub subtree : Subtree A height
    pub focused : IsUnsizedFocus A node_at [] root xs height (under frame path) subtree
    pub here : id_of A height subtree ≡ child
    pub above : frame_id frame ≡ id
    pub at : frame_index frame ≡ index

  at-index : (h : ℕ) (c : Path A (suc h)) (t : Subtree A (suc h)) → IsUnsizedFocus A node_at [] root xs (suc h) c t → (index child : ℕ)
      → slice_get (id_of A h t.1 ∷ map {B = ℕ} (λ (b : A × Subtree A h). id_of A h b.1) t.2) index ≡ Some child
      → ChildAt t.0 index child
  at-index h c t w zero child e =
      record {
        height = h;
        frame = at_first t.0 t.2;
        path = c;
        subtree = t.1;
        focused = unsized-down A node_at [] root xs h (at_first t.0 t.2) c t.1 w;
        here = cc;
        above = refl;
        at = refl;
      }
  at-index h c t w (suc index) child e =
      let r = cut (λ (b : A × Subtree A h). id_of A h b.1) t.2 index child e in
      record {
        height = h;
        frame = at_branch t.0 t.1 r.front r.found.0 r.back;
        path = c;
        subtree = r.found.1;
        focused = unsized-down A node_at [] root xs h (at_branch t.0 t.1 r.front r.found.0 r.back) c r.found.1
            (subst (λ (bs : List (A × Subtree A h)). IsUnsizedFocus A node_at [] root xs (suc h) c (t.0, t.1, bs)) r.is w);
        here = r.named;
        above = refl;
        at = let l = r.at in omega arith;
      }

  children-used : (v : Option (View A)) (index child : ℕ) → slice_get (children_in v) index ≡ Some child → 0 < times_used v
  children-used None index child e = absurd (cc)
  children-used (Some v) index child e = omega arith

  focus-child : (h : ℕ) (c : Path A h) (t : Subtree A h) → IsUnsizedFocus A node_at [] root xs h c t → (index child : ℕ)
      → slice_get (children_of (view_at A h (parent_above c) t)) index ≡ Some child → ChildAt (id_of A h t) index child
  focus-child zero c t w index child e = absurd (cc)
  focus-child (suc h) c t w index child e =
      at-index h c t w index child (ap (λ l. slice_get (id_of A h t.1 ∷ l) index) (sym (child-numbers A h t.2)) ∙ e)

  pub child-at : (is_right : (id : ℕ) → View A → Type 0) → IsRooted is_right node_at root xs → (id index child : ℕ)
      → slice_get (children_in (node_at id)) index ≡ Some child → ChildAt id index child
  child-at is_right r id index child e =
      let n = node-rooted A node_at is_right root xs r id (children-used (node_at id) index child e) in
      let v : node_at id ≡ Some (view_at A n.height (parent_above n.path) n.subtree) =
      subst (λ i. node_at i ≡ Some (view_at A n.height (parent_above n.path) n.subtree)) n.here
      (top-view A node_at n.height (parent_above n.path) n.subtree n.focused.inner) in
      subst (λ i. ChildAt i index child) n.here
      (focus-child n.height n.path n.subtree n.focused index child
      (subst (λ w. slice_get (children_in w) index ≡ Some child) v e))

module _ (A : Type 0) where
  -- before a child, the node's item before it is kept, or its -1
  last-before : (keep : Address → Option A → Bool) (h n : ℕ) → ((o : ℕ) (x : A) → keep (address_at n o) (Some x) ≡ true) → (first : Subtree A h)
      (front : List (A × Subtree A h)) (x : A) (back : List (A × Subtree A h))
      → Ends (address_at n (length front)) (kept keep (positions_before A (at_branch n first front x back)))
  last-before keep h n each first front x back =
      let end : List (Position A) = mark (address_at n (length front)) (Some x) ∷ over ∷ [] in
      let node_positions : List (Position A) = positions_to (branch_key A h) (branch_positions A h) n 0 front in
      let one : Ends (address_at n (length front)) (kept keep end) =
      record { front = []; is = ap (λ c. put c (address_at n (length front)) []) (each (length front) x) } in
      let all : kept keep (mark (address_before n) None ∷ (positions A h first ++ (node_positions ++ end)))
      ≡ kept keep (mark (address_before n) None ∷ (positions A h first ++ node_positions)) ++ kept keep end =
      ap (λ l. kept keep (mark (address_before n) None ∷ l)) (sym (append_assoc (positions A h first) node_positions end))
      ∙ kept-append keep (mark (address_before n) None ∷ (positions A h first ++ node_positions)) end in
      subst (λ l. Ends (address_at n (length front)) l) (sym all)
      (ends-more (address_at n (length front)) (kept keep (mark (address_before n) None ∷ (positions A h first ++ node_positions))) (kept keep end) one)

  pub back-before : (h : ℕ) (f : Frame A h) (index : ℕ) → frame_index f ≡ suc index
      → Ends (address_at (frame_id f) index) (kept keep_back (positions_before A f))
  back-before h (at_first n back) index e = absurd (omega arith)
  back-before h (at_branch n first front x back) index e =
      subst (λ k. Ends (address_at n k) (kept keep_back (positions_before A (at_branch n first front x back))))
      (let q : length front ≡ index = omega arith in q) (last-before keep_back h n (λ o x. refl) first front x back)

  pub front-before : (h : ℕ) (f : Frame A h) → Ends (slot_before (frame_id f) (frame_index f)) (kept keep_front (positions_before A f))
  front-before h (at_first n back) = record { front = []; is = refl }
  front-before h (at_branch n first front x back) =
      subst (λ k. Ends (slot_before n k) (kept keep_front (positions_before A (at_branch n first front x back))))
      (let q : suc (length front) ≡ length front + 1 = omega arith in q)
      (last-before keep_front h n (λ o x. refl) first front x back)

  -- after a child, the node goes on at the child's index
  pub back-after : (h : ℕ) (f : Frame A h) → Begins (address_at (frame_id f) (frame_index f)) (kept keep_back (positions_after A f (frame_index f)))
  back-after h f = node_positions-begins (branch_key A h) (branch_positions A h) (frame_id f) (frame_index f) (branches_after A f)

  few-after : (h : ℕ) (f : Frame A h) → frame_index f < frame_count f → 0 < length (branches_after A f)
  few-after h (at_first n back) l = omega arith
  few-after h (at_branch n first front x back) l = omega arith

  pub front-after : (h : ℕ) (f : Frame A h) → frame_index f < frame_count f
      → Begins (address_at (frame_id f) (frame_index f)) (kept keep_front (positions_after A f (frame_index f)))
  front-after h f l =
      node_positions-begins-front (branch_key A h) (branch_positions A h) (frame_id f) (frame_index f) (branches_after A f) (few-after h f l)
