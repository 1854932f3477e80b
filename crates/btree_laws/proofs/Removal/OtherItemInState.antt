-- An item replaced by another in a well formed tree and in one that is off by one at a node, in the public terms.
use Rattle.btree_laws.proofs.Common.{◌≡◌, ◌≢◌, ◌<◌, ◌++◌, ◌∷◌, [], ◌∙◌, ℕ, zero, suc, inl, inr, List, length, set, Option, Some, IsSome, refl, sym, ap, subst, arith, IsTotalOrder, remove, slice_get, Ordering, Ascends, Address, NodeMap, View, items_of, HasPosition, IsPlace, numbers_under, HasItems, WritesNode, strain_under, address_at, IsNearlySized, IsOffByOne, IsSized, IsWellFormed}
use Rattle.std.proofs.lemmas.List.{length-set}
use Rattle.btree_laws.proofs.Underflow.Writes.{set-seam}
use Rattle.btree_laws.proofs.Trees.Numbers.{same-or}
use Rattle.btree_laws.proofs.Places.OnePlace.{one_place, one_place-well}
use Rattle.btree_laws.proofs.Removal.OtherItemInTree.{replaced}

-- to remove an item and put it in the place of the next one is to remove the next one
pub replaced-remove : {X : Type 0} (xs : List X) (q : ℕ) (y : X) → slice_get xs q ≡ Some y → suc q < length xs
    → set (remove xs q) q y ≡ remove xs (suc q)
replaced-remove [] q y e lt = absurd (cc)
replaced-remove (z ∷ []) zero y e lt = absurd (omega arith)
replaced-remove (z ∷ u ∷ xs) zero y e lt = let q : z ≡ y = cc in ap (λ w. w ∷ xs) (sym q)
replaced-remove (z ∷ xs) (suc q) y e lt = ap (λ l. z ∷ l) (replaced-remove xs q y e (omega arith))

module _ {K V : Type 0} (cmp : K → K → Ordering) (laws : IsTotalOrder cmp) (node_at new : NodeMap (K × V)) (root : ℕ)
    (xs : List (K × V)) (n k : ℕ) (x y : K × V) (v w : View (K × V)) (here : node_at n ≡ Some v)
    (item : slice_get (items_of v) k ≡ Some x) (put : WritesNode node_at new n w)
    (has : HasItems v w (set (items_of v) k y)) (place : ℕ) (at_place : IsPlace node_at (Some root) xs n (Some k) place)
    (up : Ascends cmp (set xs place y)) where
  -- every other address stays, at its place and item, and this one is at the new item
  pub record Stays : Type 0 where
    pub keeps : (expected : Option (K × V)) (b : Address) (q : ℕ) → b ≢ address_at n k → HasPosition (K × V) node_at root expected b q
        → HasPosition (K × V) new root expected b q
    pub itself : HasPosition (K × V) new root (Some y) (address_at n k) place

  -- a tree that is off by one at a node
  module _ (exempt : ℕ) (d : IsOffByOne cmp node_at root exempt xs) where
    pub record ReplacedOff (ys : List (K × V)) : Type 0 where
      pub tree : IsOffByOne cmp new root exempt ys
      pub height_is : tree.rooted.height ≡ d.rooted.height
      pub strain_is : strain_under new root (numbers_under new tree.rooted.height root)
          ≡ strain_under node_at root (numbers_under node_at d.rooted.height root)
      pub stays : Stays

    pub replaced-off : ReplacedOff (set xs place y)
    replaced-off =
        let r =
        replaced (K × V) (IsNearlySized root exempt)
        (λ i v w e f z. let z0 = z.0 in let z1 = z.1 in (omega arith, omega arith)) node_at new root xs d.rooted n k x y v w
        here item put has in
        let at : place ≡ length r.front = one_place cmp laws node_at root exempt xs d n (Some k) place (length r.front)
        at_place r.at_place in
        let list : set xs place y ≡ r.front ++ y ∷ r.back =
        ap (λ l. set l place y) r.old_list ∙ set-seam r.front x r.back place y (sym at) in
        let h = r.height_is in
        let l = d.low in
        subst (λ l. ReplacedOff l) (sym list)
        (record {
          tree = record {
            ascends = subst (λ l. Ascends cmp l) list up;
            rooted = r.rooted;
            low = omega arith;
            used = used;
          };
          height_is = r.height_is;
          strain_is = r.strain_is;
          stays = record {
            keeps = r.keeps;
            itself = subst (λ q. HasPosition (K × V) new root (Some y) (address_at n k) q) (sym at) r.itself;
          };
        })
      where
        used : IsSome (new exempt)
        used = elim (same-or exempt n) [
          | inl e ↦ rw (e, put.here) refl
          | inr away ↦ rw (put.others exempt away) d.used
        ]

  -- a well formed tree
  module _ (len : ℕ) (d : IsWellFormed cmp node_at (Some root) len xs) where
    pub record ReplacedWell (ys : List (K × V)) : Type 0 where
      pub tree : IsWellFormed cmp new (Some root) len ys
      pub stays : Stays

    -- a tree in which one item was exchanged is well formed, with the list so changed
    pub replaced-well : ReplacedWell (set xs place y)
    replaced-well =
        let r =
        replaced (K × V) (IsSized root)
        (λ i v w e f z. let z0 = z.0 in let z1 = z.1 in (omega arith, omega arith)) node_at new root xs d.formed n k x y v w
        here item put has in
        let at : place ≡ length r.front = one_place-well cmp laws node_at xs len (Some root) d n (Some k) place
        (length r.front) at_place r.at_place in
        let list : set xs place y ≡ r.front ++ y ∷ r.back =
        ap (λ l. set l place y) r.old_list ∙ set-seam r.front x r.back place y (sym at) in
        subst (λ l. ReplacedWell l) (sym list)
        (record {
          tree = record {
            ascends = subst (λ l. Ascends cmp l) list up;
            formed = r.rooted;
            counted = d.counted ∙ (sym (length-set xs place y) ∙ ap length list);
          };
          stays = record {
            keeps = r.keeps;
            itself = subst (λ q. HasPosition (K × V) new root (Some y) (address_at n k) q) (sym at) r.itself;
          };
        })
