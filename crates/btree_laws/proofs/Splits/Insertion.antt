-- An item inserted into a leaf.
use Rattle.btree_laws.proofs.Common.{◌≡◌, ◌≢◌, ◌<◌, ◌≤◌, ◌++◌, ◌∷◌, [], ◌∙◌, ◌+◌, ◌-◌, ℕ, zero, suc, inl, inr, List, length, Option, Some, None, refl, sym, ap, subst, arith, IsTotalOrder, insert, Ordering, Address, with_item, NodeMap, leaf, MayOverflowAt, IsRepaired, split_need, path_need_from, path_need, IsNode, IsPlace, one, IsFilled, Subtree, count_at, id_of, numbers_under, Claims, WritesNode, strain_of, strain_under, address_at, Path, depth, items_after, items_before, least_at, parent_above, times_above, IsRooted, IsSized, IsWellFormed, times_used, IsFocus}
use Rattle.std.proofs.lemmas.List.Edits.{insert-append_left, insert-append_right, length-insert}
use Rattle.btree_item.proofs.PairEdits.{Ascends-insert, Ascends-one, slice_get-insert}
use Rattle.btree_item.specs.Pairs.{KeyFits}
use Rattle.btree_laws.specs.Need.{need}
use Rattle.btree_laws.proofs.Places.Words.{AddressIn, address-in}
use Rattle.btree_laws.proofs.Splits.Claims.{claimed}
use Rattle.btree_laws.proofs.Paths.Frames.{above-same, one-zero}
use Rattle.btree_laws.proofs.Paths.Levels.{levels-rooted}
use Rattle.btree_laws.proofs.Paths.UnsizedFocus.{focus-unsized}
use Rattle.btree_laws.proofs.Paths.Used.{less-no, less-yes}
use Rattle.btree_laws.proofs.Places.NodePlaces.{hole-place}
use Rattle.btree_laws.proofs.Trees.Numbers.{same-or, used-low, used-one}
use Rattle.btree_laws.proofs.Trees.OneLeaf.{rooted-one_leaf}
use Rattle.btree_laws.proofs.Places.OnePlace.{one_place-well}
use Rattle.btree_laws.proofs.Splits.Need.{split_need-node}
use Rattle.btree_laws.proofs.Paths.FromRoot.{node-at, rooted-node}
use Rattle.btree_laws.proofs.Strain.Sums.{strain-rooted}
use Rattle.btree_laws.proofs.Strain.Splits.{put-strain}
use Rattle.btree_laws.proofs.Places.TreePlaces.{item-in}

insert-between : {X : Type 0} (front ys back : List X) (o : ℕ) (x : X) → o ≤ length ys
    → insert (front ++ (ys ++ back)) (length front + o) x ≡ front ++ (insert ys o x ++ back)
insert-between front ys back o x low =
    let z : length front + o - length front ≡ o = omega arith in
    insert-append_right front (ys ++ back) (length front) (length front + o) x refl (omega arith)
    ∙ (ap (λ k. front ++ insert (ys ++ back) k x) z ∙ ap (λ l. front ++ l) (insert-append_left ys back o x low))

module _ (A : Type 0) where
  pub leaf-put : (node_at new : NodeMap A) (spare : List ℕ) (root : ℕ) (xs : List A) (c : Path A 0) (i : ℕ) (ys : List A)
      (o : ℕ) (x : A)
      → IsFocus A node_at spare root xs 0 c (i, ys) → o ≤ length ys
      → WritesNode node_at new i (leaf (parent_above c) (insert ys o x))
      → IsFocus A new spare root (insert xs (length (items_before c) + o) x) 0 c (i, insert ys o x)
  leaf-put node_at new spare root xs c i ys o x w low pu =
      let sum : (n : ℕ) → times_above n c + one n i ≤ 1 = λ n. let o = w.once n in
      let b = used-low (node_at n) in omega arith in
      record {
        above = above-same A node_at new 0 c i (λ n p. let s = sum n in pu.others n (one-zero n i (omega arith))) w.above;
        inner = pu.here;
        once = λ n. elim (same-or n i) [
          | inl is ↦
              let a : times_used (new n) ≡ 1 = rw (is, pu.here) refl in
              let b : times_used (node_at n) ≡ 1 = rw (is, w.inner) refl in
              let o = w.once n in
              omega arith
          | inr ne ↦ let h : times_used (new n) ≡ times_used (node_at n) = ap times_used (pu.others n ne) in let o =
              w.once n in omega arith
        ];
        filled = w.filled;
        below = tt;
        list = ap (λ l. insert l (length (items_before c) + o) x) w.list ∙ insert-between (items_before c) ys
            (items_after c) o x low;
        root_is = w.root_is;
      }

  -- the splits that begin at a leaf of a well formed tree, into which an item was inserted: `node_at` is the tree
  -- before the numbers were claimed
  module _ (node_at mid new : NodeMap A) (root : ℕ) (xs : List A) (id : ℕ) (p : Option ℕ) (ys : List A) (o : ℕ) (x : A)
      (spare : List ℕ)
      (node : IsNode A node_at root xs id) (here : node_at id ≡ Some (leaf p ys)) (low : o ≤ length ys)
      (most : ℕ) (deep : depth node.focus.path < most) (cl : Claims node_at mid spare) (enough : length spare ≡ split_need node_at most id)
      (pu : WritesNode mid new id (with_item o x None (leaf p ys))) where
    -- the place in the list, the strain before, and the tree with the item: the start of the splits
    pub record PutAt : Type 0 where
      pub place : ℕ
      pub is : IsPlace node_at (Some root) xs id (Some o) place
      pub strain : ℕ
      pub strain_is : strain ≡ strain_of A node.focus.height node.focus.path node.focus.subtree
      pub grows : MayOverflowAt A new root (insert xs place x) id spare (Some x) (address_at id o) place 0 (suc strain)

    pub put-overflow : PutAt
    put-overflow = at node.focus.height node.focus.path node.focus.subtree node.focus.here node.focus.whole node.sized
        (split_need-node A node_at root xs id node most deep) refl
      where
        at : (h : ℕ) (c : Path A h) (t : Subtree A h) → id_of A h t ≡ id → IsFocus A node_at [] root xs h c t
            → IsFilled (least_at c) h (count_at A h t)
            → split_need node_at most id ≡ path_need_from c (count_at A h t)
            → strain_of A h c t ≡ strain_of A node.focus.height node.focus.path node.focus.subtree → PutAt
        at (suc h) c t is w z nd st =
            let d = w.inner.0 in let e2 : node_at t.0 ≡ Some (leaf p ys) = rw is here in absurd (cc)
        at zero c t is w z nd st =
            let d = w.inner in
            let e2 : node_at t.0 ≡ Some (leaf p ys) = rw is here in
            let parents : parent_above c ≡ p = cc in
            let same : t.1 ≡ ys = cc in
            let te : t ≡ (id, ys) = ap (λ (i : ℕ). (i, t.1)) is ∙ ap (λ (l : List A). (id, l)) same in
            let w1 : IsFocus A node_at [] root xs 0 c (id, ys) =
            subst (λ (s : Subtree A 0). IsFocus A node_at [] root xs 0 c s) te w in
            let wm = claimed A node_at mid spare root xs 0 c (id, ys) cl w1 in
            let pu2 : WritesNode mid new id (leaf (parent_above c) (insert ys o x)) =
            subst (λ q. WritesNode mid new id (leaf q (insert ys o x))) (sym parents) pu in
            let w2 = leaf-put mid new spare root xs c id ys o x wm low pu2 in
            let size : length t.1 ≡ length ys = ap length same in
            let more : length (insert ys o x) ≡ length ys + 1 = length-insert ys o x low in
            let z0 = z.0 in
            let z1 = z.1 in
            record {
              place = length (items_before c) + o;
              is = hole-place A node_at [] root xs 0 c (id, ys) w1 o low;
              strain = strain_of A 0 c t;
              strain_is = st;
              grows = record {
                focus = record { height = 0; path = c; subtree = (id, insert ys o x); here = refl; whole = w2 };
                low = omega arith;
                high = omega arith;
                enough = λ full. let y = less-no (length t.1) 8 0 (path_need c) (omega arith) in enough ∙ (nd ∙ y);
                none = λ few. let y = less-yes (length t.1) 8 0 (path_need c) (omega arith) in enough ∙ (nd ∙ y);
                there = item-in A 0 c (parent_above c) (id, insert ys o x) o x (slice_get-insert ys o x low)
                    (omega arith);
                within_strain = let q = put-strain A c id ys o x low in let r : strain_of A 0 c t ≡ strain_of A 0 c (id, ys) =
                    ap (strain_of A 0 c) te in omega arith;
              };
            }

  -- the end of the splits, in the public terms
  module _ (new : NodeMap A) (root : ℕ) (xs : List A) (expected : Option A) (a : Address) (place allocated bound : ℕ)
      (g : IsRepaired A new root xs expected a place allocated bound) where
    -- a repaired tree is sized, with the same list
    pub repaired-rooted : IsRooted (IsSized root) new root xs
    repaired-rooted = rooted-node A new root xs g.id g.node

    -- in a repaired tree the moved address has the same place
    pub repaired-address : AddressIn A new root xs expected a place
    repaired-address = address-in A new root xs g.node.focus.height g.node.focus.path g.node.focus.subtree g.node.focus.whole
        expected a place g.there

    -- what a repaired tree has allocated and its strain are within the bound
    pub repaired-within : allocated + strain_under new root (numbers_under new repaired-rooted.height root) ≤ bound
    repaired-within =
        let e =
        strain-rooted A new root xs repaired-rooted g.node.focus.height g.node.focus.path g.node.focus.subtree g.node.focus.whole
        in
        let p = g.within_strain in
        omega arith

-- an item inserted into a leaf of a well formed tree, at an address whose place is known
module _ {K V : Type 0} (cmp : K → K → Ordering) (laws : IsTotalOrder cmp) (node_at : NodeMap (K × V)) (root len : ℕ)
    (xs : List (K × V)) (well : IsWellFormed cmp node_at (Some root) len xs) where
  -- an item put into a leaf leaves a tree in which that leaf alone may overflow
  pub leaf-overflow : (mid new : NodeMap (K × V)) (id : ℕ) (p : Option ℕ) (ys : List (K × V)) (o place : ℕ) (x : K × V)
      (spare : List ℕ)
      → node_at id ≡ Some (leaf p ys) → o ≤ length ys
      → IsPlace node_at (Some root) xs id (Some o) place → (most : ℕ) → well.formed.height < most → Claims node_at mid spare
      → length spare ≡ need node_at (Some root) most id → WritesNode mid new id (with_item o x None (leaf p ys))
      → MayOverflowAt (K × V) new root (insert xs place x) id spare (Some x) (address_at id o) place 0
      (suc (strain_under node_at root (numbers_under node_at well.formed.height root)))
  leaf-overflow mid new id p ys o place x spare here low is most deep cl enough pu =
      let node =
      node-at (K × V) node_at root xs well.formed id (let u = used-one (node_at id) (leaf p ys) here in omega arith) in
      let levels =
      levels-rooted (K × V) node_at root xs (IsSized root) well.formed node.focus.height node.focus.path node.focus.subtree
      (focus-unsized (K × V) node_at [] root xs node.focus.height node.focus.path node.focus.subtree node.focus.whole) in
      let r = put-overflow (K × V) node_at mid new root xs id p ys o x spare node here low most (omega arith) cl enough pu in
      let same = one_place-well cmp laws node_at xs len (Some root) well id (Some o) r.place place r.is is in
      let st : r.strain ≡ strain_under node_at root (numbers_under node_at well.formed.height root) =
      r.strain_is ∙ strain-rooted (K × V) node_at root xs well.formed node.focus.height node.focus.path node.focus.subtree
      node.focus.whole in
      subst (λ q. MayOverflowAt (K × V) new root (insert xs q x) id spare (Some x) (address_at id o) q 0
      (suc (strain_under node_at root (numbers_under node_at well.formed.height root)))) same
      (subst (λ s. MayOverflowAt (K × V) new root (insert xs r.place x) id spare (Some x) (address_at id o) r.place 0 (suc s)) st
      r.grows)

  -- after the splits the tree is well formed, with one item more in its list
  pub repaired-well : (k : K) (w : V) (place : ℕ) → KeyFits cmp k place xs
      → (new : NodeMap (K × V)) (r : ℕ) (expected : Option (K × V)) (a : Address) (allocated bound : ℕ)
      → IsRepaired (K × V) new r (insert xs place (k, w)) expected a place allocated bound
      → IsWellFormed cmp new (Some r) (len + 1) (insert xs place (k, w))
  repaired-well k w place fits new r expected a allocated bound g =
      let counted = well.counted in
      record {
        ascends = Ascends-insert cmp laws k w place xs well.ascends fits;
        formed = repaired-rooted (K × V) new r (insert xs place (k, w)) expected a place allocated bound g;
        counted = ap (λ n. n + 1) counted ∙ sym (length-insert xs place (k, w) fits.within);
      }

-- a leaf with the first item is a well formed tree
pub first-well : {K V : Type 0} (cmp : K → K → Ordering) (new : NodeMap (K × V)) (r : ℕ) (x : K × V)
    → new r ≡ Some (leaf None (x ∷ [])) → ((n : ℕ) → n ≢ r → new n ≡ None)
    → IsWellFormed cmp new (Some r) 1 (x ∷ [])
first-well cmp new r x here alone = record {
  ascends = Ascends-one cmp x;
  formed = rooted-one_leaf new r (x ∷ []) (record { here = here; alone = alone }) (omega arith) (omega arith);
  counted = refl;
}
