-- An item removed from a leaf of a well formed tree, in the public terms: the tree is off by one there. Removal will
-- cite what nothing cites yet.
use Rattle.btree_laws.proofs.Common.{◌≡◌, ◌<◌, ◌≤◌, ◌++◌, ◌∷◌, [], ◌∙◌, ◌+◌, ◌==◌, if◌then◌else◌, ℕ, zero, suc, List, length, Option, Some, None, refl, sym, ap, subst, arith, append_assoc, length-append, IsTotalOrder, AllByRecursion, remove, slice_get, Ordering, Less, Ascends, Address, NodeMap, leaf, moved_by_take, IsExemptNode, HasPosition, IsPlace, IsFilled, Subtree, count_at, id_of, debt, debt_of, numbers_under, WritesNode, strain_under, IsAt, address_at, all_positions, Path, items_after, items_before, least_at, parent_above, top, under, IsNearlySized, IsOffByOne, IsRooted, IsSized, IsWellFormed, IsFocus}
use Rattle.btree_laws.proofs.LookUp.Descent.{get-after}
use Rattle.btree_laws.proofs.Paths.Frames.{one-self}
use Rattle.btree_laws.proofs.Underflow.Writes.{remove-seam}
use Rattle.btree_laws.proofs.Paths.Used.{full-no}
use Rattle.btree_laws.proofs.Places.NodePlaces.{hole-place}
use Rattle.btree_laws.proofs.Trees.Numbers.{used-low, used-one}
use Rattle.btree_laws.proofs.Paths.Levels.{levels-rooted}
use Rattle.btree_laws.proofs.Places.OfTree.{on-whole, whole-on}
use Rattle.btree_laws.proofs.Places.OnePlace.{one_place-well}
use Rattle.btree_laws.proofs.Splits.InsertionAddresses.{smaller-before}
use Rattle.btree_laws.proofs.Paths.FromRoot.{node-at, rooted-off}
use Rattle.btree_laws.proofs.LookUp.KeyInList.{Rises, ascends, rises}
use Rattle.btree_laws.proofs.Paths.UnsizedFocus.{focus-unsized}
use Rattle.btree_laws.proofs.Strain.Sums.{strain-rooted, strain-unsized}
use Rattle.btree_laws.proofs.Removal.FromLeaf.{leaf-take, take-before, take-behind, take-itself, take-strain}

-- a list in parts around the element at an index
pub parts-at : {X : Type 0} (ys : List X) (o : ℕ) (x : X) → slice_get ys o ≡ Some x
    → (l : List X) × (r : List X) × (ys ≡ l ++ x ∷ r) × (length l ≡ o)
parts-at [] o x e = absurd (cc)
parts-at (y ∷ ys) zero x e = ([], ys, (let q : y ≡ x = cc in ap (λ z. z ∷ ys) q), refl)
parts-at (y ∷ ys) (suc o) x e =
    let s = parts-at ys o x e in (y ∷ s.0, s.1, ap (λ z. y ∷ z) s.2, (let q = s.3 in omega arith))

-- ascending keys ascend without one of them
module _ {K V : Type 0} (cmp : K → K → Ordering) where
  all-without : (P : K × V → Type 0) (f : List (K × V)) (x : K × V) (b : List (K × V)) → AllByRecursion P (f ++ x ∷ b)
      → AllByRecursion P (f ++ b)
  all-without P [] x b a = a.1
  all-without P (y ∷ f) x b a = (a.0, all-without P f x b a.1)

  rises-without : (f : List (K × V)) (x : K × V) (b : List (K × V)) → Rises cmp (f ++ x ∷ b) → Rises cmp (f ++ b)
  rises-without [] x b up = up.1
  rises-without (y ∷ f) x b up = (all-without (λ z. cmp y.0 z.0 ≡ Less) f x b up.0, rises-without f x b up.1)

  -- pairs in order stay in order when one is removed
  pub Ascends-remove : (xs : List (K × V)) (p : ℕ) (x : K × V) → slice_get xs p ≡ Some x → Ascends cmp xs
      → Ascends cmp (remove xs p)
  Ascends-remove xs p x at up =
      let s = parts-at xs p x at in
      let e : remove xs p ≡ s.0 ++ s.1 = ap (λ l. remove l p) s.2 ∙ remove-seam s.0 x s.1 p s.3 in
      subst (λ l. Ascends cmp l) (sym e)
      (ascends cmp (s.0 ++ s.1) (rises-without s.0 x s.1 (subst (λ l. Rises cmp l) s.2 (rises cmp xs up))))

module _ {K V : Type 0} (cmp : K → K → Ordering) (laws : IsTotalOrder cmp) (node_at : NodeMap (K × V)) (root len : ℕ)
    (xs : List (K × V)) (well : IsWellFormed cmp node_at (Some root) len xs) (low : well.formed.height < 32)
    (new : NodeMap (K × V)) (id : ℕ) (p : Option ℕ) (ys : List (K × V)) (o place : ℕ) (x : K × V)
    (here : node_at id ≡ Some (leaf p ys)) (at_offset : slice_get ys o ≡ Some x)
    (is : IsPlace node_at (Some root) xs id (Some o) place) (put : WritesNode node_at new id (leaf p (remove ys o))) where
  abbrev Pair : Type 0
  Pair = K × V

  -- the leaf in its tree, before and after
  record Seat : Type 0 where
    pub path : Path Pair 0
    pub left : List Pair
    pub right : List Pair
    pub parts : ys ≡ left ++ x ∷ right
    pub count : length left ≡ o
    pub old : IsFocus Pair node_at [] root xs 0 path (id, left ++ x ∷ right)
    pub place_is : length (items_before path) + length left ≡ place
    pub now : IsFocus Pair new [] root (remove xs place) 0 path (id, left ++ right)
    pub sized : IsFilled (least_at path) 0 (length (left ++ x ∷ right))

  seat : Seat
  seat =
      let n = node-at Pair node_at root xs well.formed id (let u = used-one (node_at id) (leaf p ys) here in omega arith) in
      at n.focus.height n.focus.path n.focus.subtree n.focus.here n.focus.whole n.sized
    where
      at : (h : ℕ) (c : Path Pair h) (t : Subtree Pair h) → id_of Pair h t ≡ id → IsFocus Pair node_at [] root xs h c t
          → IsFilled (least_at c) h (count_at Pair h t) → Seat
      at (suc h) c t same w z = let d = w.inner.0 in let e2 : node_at t.0 ≡ Some (leaf p ys) = rw same here in absurd (cc)
      at zero c t same w z =
          let d = w.inner in
          let e2 : node_at t.0 ≡ Some (leaf p ys) = rw same here in
          let parents : parent_above c ≡ p = cc in
          let items : t.1 ≡ ys = cc in
          let s = parts-at ys o x at_offset in
          let l : List Pair = s.0 in
          let r : List Pair = s.1 in
          let whole-list : List Pair = l ++ x ∷ r in
          let te : t ≡ (id, whole-list) =
          ap (λ (i : ℕ). (i, t.1)) same ∙ ap (λ (z : List Pair). (id, z)) (items ∙ s.2) in
          let w1 : IsFocus Pair node_at [] root xs 0 c (id, whole-list) =
          subst (λ (s : Subtree Pair 0). IsFocus Pair node_at [] root xs 0 c s) te w in
          let shorter : remove ys o ≡ l ++ r = ap (λ z. remove z o) s.2 ∙ remove-seam l x r o s.3 in
          let put2 : WritesNode node_at new id (leaf (parent_above c) (l ++ r)) =
          subst (λ z. WritesNode node_at new id (leaf (parent_above c) z)) shorter
          (subst (λ q. WritesNode node_at new id (leaf q (remove ys o))) (sym parents) put) in
          let len-is = length-append l (x ∷ r) in
          let pl =
          one_place-well cmp laws node_at xs len (Some root) well id (Some (length l)) (length (items_before c) + length l)
          place (hole-place Pair node_at [] root xs 0 c (id, whole-list) w1 (length l) (omega arith))
          (subst (λ k. IsPlace node_at (Some root) xs id (Some k) place) (sym s.3) is) in
          record {
            path = c;
            left = l;
            right = r;
            parts = s.2;
            count = s.3;
            old = w1;
            place_is = pl;
            now = subst (λ k. IsFocus Pair new [] root (remove xs k) 0 c (id, l ++ r)) pl
                (leaf-take Pair c id l x r node_at new root xs w1 put2);
            sized = subst (λ n. IsFilled (least_at c) 0 n) (ap length (items ∙ s.2)) z;
          }

  -- the item that is taken from a leaf was at its place of the list
  pub take-item : slice_get xs place ≡ Some x
  take-item =
      let s = seat in
      let e1 : xs ≡ (items_before s.path ++ s.left) ++ x ∷ (s.right ++ items_after s.path) =
      s.old.list ∙ simp append_assoc in
      let n = length-append (items_before s.path) s.left in
      let q = s.place_is in
      ap (λ l. slice_get l place) e1
      ∙ get-after (items_before s.path ++ s.left) x (s.right ++ items_after s.path) place (omega arith)

  off-node : IsExemptNode Pair new root (remove xs place) id
  off-node =
      let s = seat in
      let z0 = s.sized.0 in
      let z1 = s.sized.1 in
      let a = length-append s.left (x ∷ s.right) in
      let b = length-append s.left s.right in
      record {
        focus = record { height = 0; path = s.path; subtree = (id, s.left ++ s.right); here = refl; whole = s.now };
        low = omega arith;
        high = omega arith;
      }

  rooted : IsRooted (IsNearlySized root id) new root (remove xs place)
  rooted = rooted-off Pair new root (remove xs place) id off-node

  same-height : (r : IsRooted (IsNearlySized root id) new root (remove xs place)) → r.height ≡ well.formed.height
  same-height r =
      let s = seat in
      let h1 =
      levels-rooted Pair node_at root xs (IsSized root) well.formed 0 s.path (id, s.left ++ x ∷ s.right)
      (focus-unsized Pair node_at [] root xs 0 s.path (id, s.left ++ x ∷ s.right) s.old) in
      let h2 =
      levels-rooted Pair new root (remove xs place) (IsNearlySized root id) r 0 s.path (id, s.left ++ s.right)
      (focus-unsized Pair new [] root (remove xs place) 0 s.path (id, s.left ++ s.right) s.now) in
      omega arith

  -- after an item was taken the tree is off by one at the leaf
  pub take-off : IsOffByOne cmp new root id (remove xs place)
  take-off =
      let h = same-height rooted in
      record {
        ascends = Ascends-remove cmp xs place x take-item well.ascends;
        rooted = rooted;
        low = omega arith;
        used = rw put.here refl;
      }

  -- after an item was taken the tree is as high as before
  pub take-height : take-off.rooted.height ≡ well.formed.height
  take-height = same-height take-off.rooted

  shorter-count : (s : Seat) → length (remove ys o) ≡ length (s.left ++ s.right)
  shorter-count s = ap length (ap (λ z. remove z o) s.parts ∙ remove-seam s.left x s.right o s.count)

  -- after an item was taken, strain and what the leaf owes are at most one more
  pub take-within : strain_under new root (numbers_under new take-off.rooted.height root) + debt_of (leaf p (remove ys o))
      ≤ suc (strain_under node_at root (numbers_under node_at well.formed.height root))
  take-within =
      let s = seat in
      let a =
      strain-unsized Pair (IsNearlySized root id) new root (remove xs place) take-off.rooted 0 s.path
      (id, s.left ++ s.right) (focus-unsized Pair new [] root (remove xs place) 0 s.path (id, s.left ++ s.right) s.now)
      in
      let b = strain-rooted Pair node_at root xs well.formed 0 s.path (id, s.left ++ x ∷ s.right) s.old in
      let t = take-strain Pair s.path id s.left x s.right in
      let w = debt-is s in
      omega arith
    where
      one-left : (c : Path Pair 0) (n : ℕ) → least_at c ≤ suc n → (if n == 0 then 1 else 0) ≡ debt c n
      one-left top zero l = refl
      one-left top (suc n) l = full-no (suc n) 0 1 0 (λ e. omega arith)
      one-left (under f c) zero l = absurd (omega arith)
      one-left (under f c) (suc n) l = full-no (suc n) 0 1 0 (λ e. omega arith)

      debt-is : (s : Seat) → debt_of (leaf p (remove ys o)) ≡ debt s.path (length (s.left ++ s.right))
      debt-is s =
          let z0 = s.sized.0 in
          let a = length-append s.left (x ∷ s.right) in
          let b = length-append s.left s.right in
          ap (λ n. if n == 0 then 1 else 0) (shorter-count s)
          ∙ one-left s.path (length (s.left ++ s.right)) (omega arith)

  -- an address at a smaller place keeps it, and its item
  pub take-keeps : (expected : Option Pair) (b : Address) (q : ℕ) → q < place → HasPosition Pair node_at root expected b q
      → HasPosition Pair new root expected b q
  take-keeps expected b q less on =
      let s = seat in
      let pl = s.place_is in
      let m = on-whole Pair node_at [] root xs expected b q 0 s.path (id, s.left ++ x ∷ s.right) s.old on in
      whole-on Pair new [] root (remove xs place) expected b q 0 s.path (id, s.left ++ s.right) s.now
      (take-before Pair s.path id s.left x s.right expected b q
      (smaller-before Pair s.path id s.left x (x ∷ s.right) expected b q m (omega arith)))

  -- an address at a greater place has one less, with its item, at its new address
  pub take-later : (expected : Option Pair) (b : Address) (q : ℕ) → place ≤ q → HasPosition Pair node_at root expected b (suc q)
      → HasPosition Pair new root expected (moved_by_take id o b) q
  take-later expected b q more on =
      let s = seat in
      let pl = s.place_is in
      let m = on-whole Pair node_at [] root xs expected b (suc q) 0 s.path (id, s.left ++ x ∷ s.right) s.old on in
      let once = s.old.once id in
      let u = used-low (node_at id) in
      let k = one-self id in
      let r =
      take-behind Pair s.path id s.left x s.right (omega arith) expected b q (omega arith) m in
      whole-on Pair new [] root (remove xs place) expected (moved_by_take id o b) q 0 s.path (id, s.left ++ s.right) s.now
      (subst (λ n. IsAt expected (moved_by_take id n b) (all_positions Pair 0 s.path (id, s.left ++ s.right)) q) s.count r)

  -- after an item was taken its own address keeps the place
  pub take-address : HasPosition Pair new root None (address_at id o) place
  take-address =
      let s = seat in
      subst (λ q. HasPosition Pair new root None (address_at id o) q) s.place_is
      (whole-on Pair new [] root (remove xs place) None (address_at id o) (length (items_before s.path) + length s.left) 0 s.path
      (id, s.left ++ s.right) s.now
      (subst (λ n. IsAt None (address_at id n) (all_positions Pair 0 s.path (id, s.left ++ s.right))
      (length (items_before s.path) + length s.left)) s.count (take-itself Pair s.path id s.left x s.right)))
