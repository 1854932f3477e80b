-- Addresses that follow one another in a list, and in what is kept of positions.
use Rattle.btree_laws.proofs.Common.{◌≡◌, ◌<◌, ◌≤◌, ◌++◌, ◌∷◌, ◌∙◌, ◌+◌, [], ℕ, zero, suc, Bool, List, length, Option, Some, None, refl, sym, ap, subst, arith, append_assoc, length-append, slice_get, Address, NodeMap, slot_before, IsPlaced, levels_below, Subtree, id_of, Position, address_before, address_at, positions_from, positions, positions_after, positions_before, path_after, path_before, Path, Frame, fill, frame_index, top, under, IsUnsizedFocus}
use Rattle.btree_laws.specs.Visits.{ComesBefore}
use Rattle.btree_laws.proofs.AddressLists.OfPositions.{keep_back, keep_front}
use Rattle.btree_laws.proofs.LookUp.Descent.{get-after}
use Rattle.btree_laws.proofs.Trees.Heights.{levels-is}
use Rattle.btree_laws.proofs.AddressLists.Kept.{kept, kept-append}
use Rattle.btree_laws.proofs.Places.OfTree.{root-positions}
use Rattle.btree_laws.proofs.AddressLists.OnePlaceEach.{AsSubtree, ticks_of}
use Rattle.btree_laws.proofs.Paths.UnsizedFocus.{unsized-up}
use Rattle.btree_laws.proofs.AddressLists.Ends.{Begins, Ends, node_positions-begins, node_positions-begins-front}

pub record Adjacent (a b : Address) (list : List Address) : Type 0 where
  pub front : List Address
  pub back : List Address
  pub is : list ≡ front ++ a ∷ b ∷ back

pub adjacent-within : (a b : Address) (front list back : List Address) → Adjacent a b list → Adjacent a b (front ++ (list ++ back))
adjacent-within a b front list back n =
    record {
      front = front ++ n.front;
      back = n.back ++ back;
      is = ap (λ l. front ++ (l ++ back)) n.is ∙ (ap (λ l. front ++ l) (append_assoc n.front (a ∷ b ∷ n.back) back)
          ∙ sym (append_assoc front n.front (a ∷ b ∷ (n.back ++ back))));
    }

-- at the end of one part and the beginning of the next
pub adjacent-between : (a b : Address) (front left right back : List Address) → Ends a left → Begins b right
    → Adjacent a b (front ++ (left ++ (right ++ back)))
adjacent-between a b front left right back e s =
    record {
      front = front ++ e.front;
      back = s.rest ++ back;
      is = ap (λ l. front ++ (l ++ (right ++ back))) e.is
          ∙ (ap (λ l. front ++ ((e.front ++ a ∷ []) ++ (l ++ back))) s.is
          ∙ (ap (λ l. front ++ l) (append_assoc e.front (a ∷ []) (b ∷ (s.rest ++ back)))
          ∙ sym (append_assoc front e.front (a ∷ b ∷ (s.rest ++ back)))));
    }

-- in a list that has each address once
module _ (list : List Address) (once : (i j : ℕ) (a : Address) → slice_get list i ≡ Some a → slice_get list j ≡ Some a → i ≡ j) where
  pub after-is : (a b : Address) → Adjacent a b list → (i : ℕ) → slice_get list i ≡ Some a → slice_get list (suc i) ≡ Some b
  after-is a b n i e =
      let f : slice_get list (length n.front) ≡ Some a =
      ap (λ l. slice_get l (length n.front)) n.is ∙ get-after n.front a (b ∷ n.back) (length n.front) refl in
      let same = once i (length n.front) a e f in
      let split : list ≡ (n.front ++ a ∷ []) ++ b ∷ n.back = n.is ∙ sym (append_assoc n.front (a ∷ []) (b ∷ n.back)) in
      ap (λ l. slice_get l (suc i)) split
      ∙ get-after (n.front ++ a ∷ []) b n.back (suc i) (let l = length-append n.front (a ∷ []) in omega arith)

  pub before-is : (a b : Address) → Adjacent a b list → (i : ℕ) → slice_get list i ≡ Some b → ComesBefore list i a
  before-is a b n i e =
      let split : list ≡ (n.front ++ a ∷ []) ++ b ∷ n.back = n.is ∙ sym (append_assoc n.front (a ∷ []) (b ∷ n.back)) in
      let f : slice_get list (suc (length n.front)) ≡ Some b =
      ap (λ l. slice_get l (suc (length n.front))) split
      ∙ get-after (n.front ++ a ∷ []) b n.back (suc (length n.front))
      (let l = length-append n.front (a ∷ []) in omega arith) in
      record {
        index = length n.front;
        is = once i (suc (length n.front)) b e f;
        at = ap (λ l. slice_get l (length n.front)) n.is ∙ get-after n.front a (b ∷ n.back) (length n.front) refl;
      }

  pub end-is : (a : Address) → Ends a list → (i : ℕ) → slice_get list i ≡ Some a → length list ≡ suc i
  end-is a n i e =
      let f : slice_get list (length n.front) ≡ Some a =
      ap (λ l. slice_get l (length n.front)) n.is ∙ get-after n.front a [] (length n.front) refl in
      let same = once i (length n.front) a e f in
      let l = ap length n.is in
      let m = length-append n.front (a ∷ []) in
      omega arith

  pub start-is : (a : Address) → Begins a list → (i : ℕ) → slice_get list i ≡ Some a → i ≡ 0
  start-is a n i e = once i 0 a e (ap (λ l. slice_get l 0) n.is)

pub end-before : (list : List Address) (a : Address) → Ends a list → ComesBefore list (length list) a
end-before list a n =
    let l = ap length n.is in
    let m = length-append n.front (a ∷ []) in
    record {
      index = length n.front;
      is = omega arith;
      at = ap (λ l. slice_get l (length n.front)) n.is ∙ get-after n.front a [] (length n.front) refl;
    }

-- in one node's row
module _ {A : Type 0} (id : ℕ) where
  abbrev leaf_row : ℕ → List A → List (Position A)
  leaf_row offset xs = positions_from {A = A} {X = A} (λ x. x) (λ x. []) id offset xs

  pub node_positions-next : (offset k : ℕ) (xs : List A) → k < length xs
      → Adjacent (address_at id (offset + k)) (address_at id (suc (offset + k))) (kept keep_back (leaf_row offset xs))
  node_positions-next offset k [] l = absurd (omega arith)
  node_positions-next offset zero (x ∷ xs) l =
      let b = node_positions-begins {A = A} {X = A} (λ x. x) (λ x. []) id (suc offset) xs in
      subst (λ o. Adjacent (address_at id o) (address_at id (suc o)) (kept keep_back (leaf_row offset (x ∷ xs))))
      (let q : offset ≡ offset + 0 = omega arith in q)
      (record { front = []; back = b.rest; is = ap (λ l. address_at id offset ∷ l) b.is })
  node_positions-next offset (suc k) (x ∷ xs) l =
      let r = node_positions-next (suc offset) k xs (omega arith) in
      subst (λ o. Adjacent (address_at id o) (address_at id (suc o)) (kept keep_back (leaf_row offset (x ∷ xs))))
      (let q : suc offset + k ≡ offset + suc k = omega arith in q)
      (record { front = address_at id offset ∷ r.front; back = r.back; is = ap (λ l. address_at id offset ∷ l) r.is })

  node_positions-next-front : (offset k : ℕ) (xs : List A) → suc k < length xs
      → Adjacent (address_at id (offset + k)) (address_at id (suc (offset + k))) (kept keep_front (leaf_row offset xs))
  node_positions-next-front offset k [] l = absurd (omega arith)
  node_positions-next-front offset zero (x ∷ xs) l =
      let b = node_positions-begins-front {A = A} {X = A} (λ x. x) (λ x. []) id (suc offset) xs (omega arith) in
      subst (λ o. Adjacent (address_at id o) (address_at id (suc o)) (kept keep_front (leaf_row offset (x ∷ xs))))
      (let q : offset ≡ offset + 0 = omega arith in q)
      (record { front = []; back = b.rest; is = ap (λ l. address_at id offset ∷ l) b.is })
  node_positions-next-front offset (suc k) (x ∷ xs) l =
      let r = node_positions-next-front (suc offset) k xs (omega arith) in
      subst (λ o. Adjacent (address_at id o) (address_at id (suc o)) (kept keep_front (leaf_row offset (x ∷ xs))))
      (let q : suc offset + k ≡ offset + suc k = omega arith in q)
      (record { front = address_at id offset ∷ r.front; back = r.back; is = ap (λ l. address_at id offset ∷ l) r.is })

  pub node_positions-prior : (k : ℕ) (xs : List A) → k < length xs
      → Adjacent (slot_before id k) (address_at id k) (address_before id ∷ kept keep_front (leaf_row 0 xs))
  node_positions-prior zero xs l =
      let b = node_positions-begins-front {A = A} {X = A} (λ x. x) (λ x. []) id 0 xs l in
      record { front = []; back = b.rest; is = ap (λ l. address_before id ∷ l) b.is }
  node_positions-prior (suc k) xs l =
      let r = node_positions-next-front 0 k xs l in
      subst (λ o. Adjacent (address_at id o) (address_at id (suc o)) (address_before id ∷ kept keep_front (leaf_row 0 xs)))
      (let q : 0 + k ≡ k = omega arith in q)
      (record { front = address_before id ∷ r.front; back = r.back; is = ap (λ l. address_before id ∷ l) r.is })

-- a node of a tree is no higher than its root
module _ {A : Type 0} (node_at : NodeMap A) (levels root : ℕ) (xs : List A) (p : IsPlaced node_at levels root xs) (t : AsSubtree node_at levels root xs p) where
  pub no-higher : (h : ℕ) (c : Path A h) (u : Subtree A h) → IsUnsizedFocus A node_at [] root xs h c u → h ≤ p.rooted.height
  no-higher h top u w =
      let n : ℕ = h + p.rooted.height in
      let a = levels-is A node_at h n None u (omega arith) w.inner in
      let b = levels-is A node_at p.rooted.height n None t.subtree (omega arith) t.holds in
      let same : id_of A h u ≡ id_of A p.rooted.height t.subtree = w.root_is ∙ sym t.here in
      let q : h ≡ p.rooted.height = sym a ∙ (ap (levels_below node_at n) same ∙ b) in
      omega arith
  no-higher h (under f c) u w =
      let l = no-higher (suc h) c (fill f u) (unsized-up A node_at [] root xs h f c u w) in
      omega arith

-- what is kept of the positions of a tree, in parts: by a focus at a node, and at a child
module _ {A : Type 0} (node_at : NodeMap A) (levels root : ℕ) (xs : List A) (p : IsPlaced node_at levels root xs) (t : AsSubtree node_at levels root xs p)
    (keep : Address → Option A → Bool) where
  pub kept-parts : (h : ℕ) (c : Path A h) (u : Subtree A h) → IsUnsizedFocus A node_at [] root xs h c u
      → kept keep (ticks_of node_at levels root xs p t)
      ≡ kept keep (path_before A c) ++ (kept keep (positions A h u) ++ kept keep (path_after A c))
  kept-parts h c u w =
      ap (kept keep) (sym (root-positions A node_at [] root xs h c u w p.rooted.height t.subtree t.here t.holds))
      ∙ (kept-append keep (path_before A c) (positions A h u ++ path_after A c)
      ∙ ap (λ l. kept keep (path_before A c) ++ l) (kept-append keep (positions A h u) (path_after A c)))

  pub adjacent-node : (a b : Address) (h : ℕ) (c : Path A h) (u : Subtree A h) → IsUnsizedFocus A node_at [] root xs h c u
      → Adjacent a b (kept keep (positions A h u)) → Adjacent a b (kept keep (ticks_of node_at levels root xs p t))
  adjacent-node a b h c u w n =
      subst (λ l. Adjacent a b l) (sym (kept-parts h c u w))
      (adjacent-within a b (kept keep (path_before A c)) (kept keep (positions A h u)) (kept keep (path_after A c)) n)

  module _ (a b : Address) (h : ℕ) (f : Frame A h) (c : Path A (suc h)) (u : Subtree A h)
      (w : IsUnsizedFocus A node_at [] root xs h (under f c) u) where
    -- from the node to the child after its item, and from the child on to the node
    pub adjacent-down : Ends a (kept keep (positions_before A f)) → Begins b (kept keep (positions A h u))
        → Adjacent a b (kept keep (ticks_of node_at levels root xs p t))
    adjacent-down e s =
        let before : List Address = kept keep (path_before A c) in
        let siblings : List Address = kept keep (positions_before A f) in
        let here : List Address = kept keep (positions A h u) in
        let after : List Address = kept keep (path_after A (under f c)) in
        subst (λ l. Adjacent a b l)
        (sym (kept-parts h (under f c) u w ∙ (ap (λ l. l ++ (here ++ after)) (kept-append keep (path_before A c) (positions_before A f))
        ∙ append_assoc before siblings (here ++ after))))
        (adjacent-between a b before siblings here after e s)

    pub adjacent-up : Ends a (kept keep (positions A h u)) → Begins b (kept keep (positions_after A f (frame_index f)))
        → Adjacent a b (kept keep (ticks_of node_at levels root xs p t))
    adjacent-up e s =
        let before : List Address = kept keep (path_before A (under f c)) in
        let here : List Address = kept keep (positions A h u) in
        let siblings : List Address = kept keep (positions_after A f (frame_index f)) in
        let after : List Address = kept keep (path_after A c) in
        subst (λ l. Adjacent a b l)
        (sym (kept-parts h (under f c) u w
        ∙ ap (λ l. before ++ (here ++ l)) (kept-append keep (positions_after A f (frame_index f)) (path_after A c))))
        (adjacent-between a b before here siblings after e s)
