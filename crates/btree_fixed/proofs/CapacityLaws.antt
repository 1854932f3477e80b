-- The laws of the exact refusal, for callers of the map itself. The premises are clauses of a call, and a bound on the
-- nodes that are held afterwards, which is the clause `can_hold` of `node_count`.
-- By key: `insert-exact`, `replace-exact`, `update-exact`. At an address: `insert_at-exact`; by a cursor: `cursor-exact`.
-- `taken`, `taken-at`: an insertion that leaves few pairs is taken, whatever it is, if the tree is well formed afterwards.
use Rattle.std.proofs.Common.{◌≡◌, ◌<◌, ◌≤◌, ◌+◌, ◌*◌, ℕ, List, [], ◌∷◌, length, None, Result, Ok, Err, IsSome, IfErr, IfOk, OnOk, refl, subst, arith}
use Rattle.std.proofs.lemmas.Result.{on_ok_weaker}
use Rattle.std.specs.Cmp.{IsTotalOrder}
use Rattle.std.specs.FinMap as map
use Rattle.std.specs.declared.cmp.Ordering.{Ordering}
use Rattle.btree_store.specs.Content.{Content}
use Rattle.btree_store.specs.ContentLaws.{len-insert_unused}
use Rattle.btree_item.specs.Pairs.{found}
use Rattle.btree_item.specs.Address.{Address}
use Rattle.btree_item.specs.declared.refused.Cause.{Cause}
use Rattle.btree_item.specs.declared.refused.Cause.TheVariants.{Store, Count}
use Rattle.btree_node.specs.declared.node.Node.{Node}
use Rattle.btree_laws.specs.TreeState.{TreeState, IsBTree, IsLeafAddressIn, IsPlaceIn, nodes_needed, pairs_of}
use Rattle.btree_raw.specs.Claimed.{AreClaims, CanHoldMore, EMPTY, MayRefuseOneOf, with_claims}
use Rattle.btree_raw.specs.Insertion.{IsRefused}
use Rattle.btree_raw.specs.Limit.{IsBelowLimit}
use Rattle.btree_find.specs.Answers.{IsGapAt}
use Rattle.btree_find.specs.Ends.{IsLeafBackAt}
use Rattle.btree_find.specs.Navigation.{HasPlace, IsLeafAddressFor}
use Rattle.btree_find.proofs.EndsLemmas.{leaf-back-at}
use Rattle.btree_ext.specs.Insert.{InsertsByKey, IsGrantedIfAbsent, IsRefusedAtGap}
use Rattle.btree_ext.specs.InsertAt.{InsertsAt, IsRefusedAt}
use Rattle.btree_ext.specs.Replace.{ReplacesByKey}
use Rattle.btree_ext.proofs.RoomLemmas.{room-needed}
use Rattle.btree_fixed.specs.Capacity.{ExceedsCapacity, HoldsAll, HoldsAtMost, RefusesExactly, RefusesExactlyAt, TakesFew}

-- claims add their number
len-claims : {N : Type 0} (empty : N) (nodes : Content N) (ids : List ℕ) → AreClaims empty nodes ids
    → map.len (with_claims empty nodes ids) ≡ map.len nodes + length ids
len-claims empty nodes [] claims = omega arith
len-claims empty nodes (id ∷ ids) claims =
    let more = len-insert_unused nodes id empty claims.0 in
    let rest = len-claims empty (map.insert nodes id empty) ids claims.2 in
    omega arith

module _ {N : Type 0} (empty : N) (capacity : ℕ) (nodes : Content N) (count : ℕ) where
  -- a table that may refuse one of so many nodes cannot hold them all
  pub refused-past : MayRefuseOneOf empty (HoldsAll capacity) nodes count → capacity < map.len nodes + count
  refused-past may =
      let added = len-claims empty nodes may.ids may.claims in
      let fewer = may.fewer in
      let full : map.len (with_claims empty nodes may.ids) ≡ capacity = may.may in
      omega arith

  -- one that can hold so many more has room for them
  pub held-within : CanHoldMore empty (HoldsAtMost capacity) nodes count → map.len nodes + count ≤ capacity
  held-within can =
      let added = len-claims empty nodes can.ids can.claims in
      let all = can.all in
      let held : map.len (with_claims empty nodes can.ids) ≤ capacity = can.can in
      omega arith

module _ {K V : Type 0} (old new : TreeState K V) (capacity leaf : ℕ) where
  -- an insertion that was refused below the limit: its nodes do not fit
  pub refused-exceeds : (cause : Cause) → IsRefused (HoldsAll capacity) leaf old new cause → IsBelowLimit old → ExceedsCapacity old capacity leaf
  refused-exceeds Store refused below = refused-past EMPTY capacity old.nodes (nodes_needed old leaf) refused.1
  refused-exceeds Count refused below = let most = refused.1 in absurd (omega arith)

-- an address other than one at -1 has its leaf address at its place
module _ {K V : Type 0} (cmp : K → K → Ordering) (laws : IsTotalOrder cmp) (s : TreeState K V) (tree : IsBTree cmp s) (a : Address) (back : IsSome a.offset) where
  pub leaf-back : (leaf : Address) → IsLeafAddressFor s a leaf → (place : ℕ) → HasPlace s a place → IsLeafBackAt s place leaf
  leaf-back leaf l place has =
      let at : IsPlaceIn s leaf place = subst (IsPlaceIn s leaf) (has.only l.place l.has.at) l.there.at in
      leaf-back-at cmp laws s tree leaf place at l.in_leaf (l.back.0 back)

-- where few pairs are left, the nodes fit at each leaf
few-fit : {K V : Type 0} (cmp : K → K → Ordering) (s : TreeState K V) (capacity : ℕ) (a : Address) → IsBTree cmp s → IsLeafAddressIn s a
    → length (pairs_of s) + 1 ≤ 3 * capacity → ExceedsCapacity s capacity a.id → ⊥
few-fit cmp s capacity a tree at few exceeds =
    let room = room-needed cmp s tree a at in
    let counted = tree.counted in
    omega arith

-- a list below the limit is that of a tree below it
below-limit : {K V : Type 0} (cmp : K → K → Ordering) (s : TreeState K V) → IsBTree cmp s → length (pairs_of s) < s.kept.limit → IsBelowLimit s
below-limit cmp s tree below = let counted = tree.counted in omega arith

-- a refusal changes no node, so the tree that it leaves was there before
tree-before : {K V : Type 0} (cmp : K → K → Ordering) (old new : TreeState K V) (MayRefuse : Content (Node K V) → Type 0) (leaf : ℕ) (cause : Cause)
    → IsRefused MayRefuse leaf old new cause → IsBTree cmp new → IsBTree cmp old
tree-before cmp old new MayRefuse leaf Store refused tree = subst (IsBTree cmp) refused.0 tree
tree-before cmp old new MayRefuse leaf Count refused tree = subst (IsBTree cmp) refused.0 tree

-- the nodes fit at the gap of a key
pub record FitsAtGap {K V : Type 0} (cmp : K → K → Ordering) (k : K) (s : TreeState K V) (capacity : ℕ) : Type 0 where
  pub gap : Address
  pub is_gap : IsGapAt cmp k s gap
  pub fits : map.len s.nodes + nodes_needed s gap.id ≤ capacity

module _ {K V X E : Type 0} (cmp : K → K → Ordering) (k : K) (old new : TreeState K V) (capacity : ℕ) (cause_of : E → Cause) where
  -- the refusal of an insertion or an update at the gap of the key, by the cause in the error
  abbrev pub RefusedByKey : Result X E → Type 0
  RefusedByKey result = IfErr result (λ e. IsRefusedAtGap cmp k old new (HoldsAll capacity) (cause_of e))

  -- what each call is refused by; an Ok has the nodes
  pub exact-by : (result : Result X E) → OnOk result (found cmp k (pairs_of old) ≡ None → FitsAtGap cmp k old capacity) → RefusedByKey result
      → RefusesExactly cmp k old capacity result
  exact-by (Ok x) fits refused = λ absent below.
      let at = fits absent in
      record {
        gap = at.gap;
        is_gap = at.is_gap;
        exactly = (λ err. absurd (cc), λ exceeds. absurd (let fit = at.fits in omega arith));
      }
  exact-by (Err e) fits refused = λ absent below. record {
    gap = refused.gap;
    is_gap = refused.is_gap;
    exactly = (λ err. refused-exceeds old new capacity refused.gap.id (cause_of e) refused.refused below, λ exceeds. refl);
  }

  -- an insertion or update by key that leaves few pairs is taken
  pub taken : IsBTree cmp new → (result : Result X E) → RefusedByKey result → TakesFew old capacity result
  taken tree (Ok x) refused = λ few below. refl
  taken tree (Err e) refused = λ few below.
      let before = tree-before cmp old new (HoldsAll capacity) refused.gap.id (cause_of e) refused.refused tree in
      absurd (few-fit cmp old capacity refused.gap before refused.is_gap.in_leaf few
      (refused-exceeds old new capacity refused.gap.id (cause_of e) refused.refused (below-limit cmp old before below)))

  module _ (result : Result X E) (refused : RefusedByKey result) where
    -- `insert`, and an insertion by way of an entry
    pub insert-exact : (value : V) → OnOk result (InsertsByKey cmp k old new value) → map.len new.nodes ≤ capacity → RefusesExactly cmp k old capacity result
    insert-exact value inserted held =
        exact-by result (on_ok_weaker result (λ by_key absent.
        let at = by_key.absent absent in
        record { gap = at.0; is_gap = at.1; fits = let more = at.2 in omega arith }) inserted) refused

    -- `replace`
    pub replace-exact : (value : V) → OnOk result (ReplacesByKey cmp k old new value) → map.len new.nodes ≤ capacity → RefusesExactly cmp k old capacity result
    replace-exact value replaced held =
        exact-by result (on_ok_weaker result (λ by_key absent.
        let at = (by_key.absent absent).absent absent in
        record { gap = at.0; is_gap = at.1; fits = let more = at.2 in omega arith }) replaced) refused

    -- `update` and `update_in`, also of a key for which the action gives no value
    pub update-exact : OnOk result (IsGrantedIfAbsent cmp k old (HoldsAtMost capacity)) → RefusesExactly cmp k old capacity result
    update-exact granted =
        exact-by result (on_ok_weaker result (λ grants absent.
        let at = grants absent in
        record { gap = at.gap; is_gap = at.is_gap; fits = held-within EMPTY capacity old.nodes (nodes_needed old at.gap.id) at.granted.0 }) granted) refused

module _ {K V E : Type 0} (cmp : K → K → Ordering) (old new : TreeState K V) (a : Address) (capacity : ℕ) (cause_of : E → Cause) where
  -- the refusal of an insertion at an address, by the cause in the error
  abbrev pub RefusedAt : {X : Type 0} → Result X E → Type 0
  RefusedAt result = IfErr result (λ e. IsRefusedAt old new a (HoldsAll capacity) (cause_of e))

  -- `insert_at` and `insert_exactly_at`
  pub insert_at-exact : (x : K × V) (result : Result Address E) → IfOk result (λ b. InsertsAt old new a cmp b x) → RefusedAt result
      → map.len new.nodes ≤ capacity → RefusesExactlyAt old a capacity result
  insert_at-exact x (Ok b) inserted refused held = λ below. record {
    leaf = inserted.leaf;
    leaf_for = inserted.leaf_for;
    exactly = (λ err. absurd (cc), λ exceeds. absurd (let more = inserted.inserted.nodes in omega arith));
  }
  insert_at-exact x (Err e) inserted refused held = λ below. record {
    leaf = refused.leaf;
    leaf_for = refused.leaf_for;
    exactly = (λ err. refused-exceeds old new capacity refused.leaf.id (cause_of e) refused.refused below, λ exceeds. refl);
  }

  -- one that leaves few pairs is taken
  pub taken-at : {X : Type 0} → IsBTree cmp new → (result : Result X E) → RefusedAt result → TakesFew old capacity result
  taken-at tree (Ok x) refused = λ few below. refl
  taken-at tree (Err e) refused = λ few below.
      let before = tree-before cmp old new (HoldsAll capacity) refused.leaf.id (cause_of e) refused.refused tree in
      absurd (few-fit cmp old capacity refused.leaf before refused.leaf_for.in_leaf few
      (refused-exceeds old new capacity refused.leaf.id (cause_of e) refused.refused (below-limit cmp old before below)))
