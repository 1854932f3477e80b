-- An item removed from an internal node of a well formed tree: the item before it, which is in a leaf, is removed there
-- and replaces it. The tree is off by one at that leaf. Removal cites it.
use Rattle.btree_laws.proofs.Common.{◌≡◌, ◌≢◌, ◌<◌, ◌≤◌, ◌⊎◌, ◌∙◌, ◌+◌, ℕ, suc, inl, inr, List, set, Option, Some, sym, ap, subst, arith, slice_get_within, IsTotalOrder, remove, slice_get, Ordering, Ascends, Address, NodeMap, View, item_in, items_of, leaf, moved_by_take, HasPosition, IsEnd, IsPlace, IsPlaceOf, debt_of, numbers_under, HasItems, WritesNode, strain_under, address_at, IsNearlySized, IsOffByOne, IsWellFormed}
use Rattle.btree_laws.specs.Moved.{in_shortened}
use Rattle.btree_laws.specs.Place.{IsPlaceAfter}
use Rattle.btree_laws.proofs.Places.Words.{item-within}
use Rattle.btree_laws.proofs.Places.Untouched.{if-other}
use Rattle.btree_laws.proofs.Places.OfTree.{positions-addressed, well-on}
use Rattle.btree_laws.proofs.Removal.OtherItemInState.{ReplacedOff, replaced-off, replaced-remove}
use Rattle.btree_laws.proofs.Removal.FromTree.{Ascends-remove, take-height, take-item, take-keeps, take-later, take-off, take-within}

-- the item at an address is in the list at the address's place
pub place-item : {A : Type 0} (node_at : NodeMap A) (root : ℕ) (xs : List A) (n k : ℕ) (x : A) (v : View A)
    → node_at n ≡ Some v → slice_get (items_of v) k ≡ Some x → (q : ℕ) → IsPlace node_at (Some root) xs n (Some k) q
    → slice_get xs q ≡ Some x
place-item {A} node_at root xs n k x v e item q at = by at
  where
    by : IsPlaceOf node_at xs (item_in (node_at n) k) q ⊎ (IsEnd node_at (node_at n) k × IsPlaceAfter node_at xs n q)
        → slice_get xs q ≡ Some x
    by (inl here) = subst (λ o. IsPlaceOf node_at xs o q) (ap (λ u. item_in u k) e ∙ item) here
    by (inr end) =
        let l : IsEnd node_at (Some v) k = subst (λ u. IsEnd node_at u k) e end.0 in
        let w = slice_get_within (items_of v) k x item in
        absurd (omega arith)

module _ {K V : Type 0} (cmp : K → K → Ordering) (laws : IsTotalOrder cmp) (node_at : NodeMap (K × V)) (root len : ℕ)
    (xs : List (K × V)) (well : IsWellFormed cmp node_at (Some root) len xs) (low : well.formed.height < 32)
    (mid new : NodeMap (K × V)) (leaf_id : ℕ) (p : Option ℕ) (ys : List (K × V)) (o before : ℕ) (y : K × V)
    (leaf_here : node_at leaf_id ≡ Some (leaf p ys)) (leaf_item : slice_get ys o ≡ Some y)
    (leaf_place : IsPlace node_at (Some root) xs leaf_id (Some o) before)
    (leaf_put : WritesNode node_at mid leaf_id (leaf p (remove ys o)))
    (n k : ℕ) (x : K × V) (v w : View (K × V)) (here : node_at n ≡ Some v) (apart : n ≢ leaf_id)
    (item : slice_get (items_of v) k ≡ Some x) (at_place : IsPlace node_at (Some root) xs n (Some k) (suc before))
    (put : WritesNode mid new n w) (has : HasItems v w (set (items_of v) k y)) where
  abbrev Pair : Type 0
  Pair = K × V

  abbrev took : IsOffByOne cmp mid root leaf_id (remove xs before)
  took = take-off cmp laws node_at root len xs well low mid leaf_id p ys o before y leaf_here leaf_item leaf_place leaf_put

  there : mid n ≡ Some v
  there = leaf_put.others n apart ∙ here

  -- an address of another node stays
  elsewhere : (b : Address) → b.id ≢ leaf_id → moved_by_take leaf_id o b ≡ b
  elsewhere b away = if-other b.id leaf_id (in_shortened leaf_id o b.offset) b away

  on-before : HasPosition Pair node_at root (Some x) (address_at n k) (suc before)
  on-before =
      let i : item_in (node_at n) k ≡ Some x = ap (λ u. item_in u k) here ∙ item in
      well-on cmp laws node_at root xs (Some x) (address_at n k) (suc before) len well
      (record { valid = inl (item-within node_at k x (node_at n) i); at_place = at_place; item = i })

  on-mid : HasPosition Pair mid root (Some x) (address_at n k) before
  on-mid =
      subst (λ b. HasPosition Pair mid root (Some x) b before) (elsewhere (address_at n k) apart)
      (take-later cmp laws node_at root len xs well low mid leaf_id p ys o before y leaf_here leaf_item leaf_place leaf_put
      (Some x) (address_at n k) before (omega arith) on-before)

  place-mid : IsPlace mid (Some root) (remove xs before) n (Some k) before
  place-mid =
      (positions-addressed Pair mid root (remove xs before) (Some x) (address_at n k) (IsNearlySized root leaf_id) before
      took.rooted on-mid).at_place

  -- the item that is removed from an internal node was at its place of the list
  pub inner-item : slice_get xs (suc before) ≡ Some x
  inner-item = place-item node_at root xs n k x v here item (suc before) at_place

  taken-list : set (remove xs before) before y ≡ remove xs (suc before)
  taken-list =
      let e =
      take-item cmp laws node_at root len xs well low mid leaf_id p ys o before y leaf_here leaf_item leaf_place leaf_put in
      replaced-remove xs before y e (slice_get_within xs (suc before) x inner-item)

  exchanged : ReplacedOff cmp laws mid new root (remove xs before) n k x y v w there item put has before place-mid
      (subst (λ l. Ascends cmp l) (sym taken-list) (Ascends-remove cmp xs (suc before) x inner-item well.ascends)) leaf_id
      took (set (remove xs before) before y)
  exchanged = replaced-off cmp laws mid new root (remove xs before) n k x y v w there item put has before place-mid
      (subst (λ l. Ascends cmp l) (sym taken-list) (Ascends-remove cmp xs (suc before) x inner-item well.ascends)) leaf_id
      took

  -- the tree without the item, its strain, and its addresses
  pub record RemovedInner (list : List Pair) : Type 0 where
    pub tree : IsOffByOne cmp new root leaf_id list
    pub height_is : tree.rooted.height ≡ well.formed.height
    pub within_strain : strain_under new root (numbers_under new tree.rooted.height root) + debt_of (leaf p (remove ys o))
        ≤ suc (strain_under node_at root (numbers_under node_at well.formed.height root))
    -- an address at a smaller place than the leaf's item keeps it, and its item; one at a greater place than the
    -- removed item has one less
    pub earlier : (expected : Option Pair) (b : Address) (q : ℕ) → q < before → b ≢ address_at n k
        → HasPosition Pair node_at root expected b q → HasPosition Pair new root expected b q
    pub later : (expected : Option Pair) (b : Address) (q : ℕ) → suc before ≤ q → b.id ≢ leaf_id → b ≢ address_at n k
        → HasPosition Pair node_at root expected b (suc q) → HasPosition Pair new root expected b q

  -- an item of an internal node is removed by the one before it, which takes its place
  pub inner-removed : RemovedInner (remove xs (suc before))
  inner-removed =
      let e = exchanged in
      let t =
      take-within cmp laws node_at root len xs well low mid leaf_id p ys o before y leaf_here leaf_item leaf_place leaf_put in
      let s = e.strain_is in
      subst (λ l. RemovedInner l) taken-list
      (record {
        tree = e.tree;
        height_is = e.height_is
            ∙ take-height cmp laws node_at root len xs well low mid leaf_id p ys o before y leaf_here leaf_item leaf_place
            leaf_put;
        within_strain = omega arith;
        earlier = λ expected b q lt away on. e.stays.keeps expected b q away
            (take-keeps cmp laws node_at root len xs well low mid leaf_id p ys o before y leaf_here leaf_item leaf_place
            leaf_put expected b q lt on);
        later = λ expected b q ge off away on. e.stays.keeps expected b q away
            (subst (λ c. HasPosition Pair mid root expected c q) (elsewhere b off)
            (take-later cmp laws node_at root len xs well low mid leaf_id p ys o before y leaf_here leaf_item leaf_place
            leaf_put expected b q (omega arith) on));
      })
