-- The number of levels, counted down the first children.
use Rattle.btree_find.proofs.Common.{◌≡◌, refl, ℕ, zero, suc, ◌+◌, ◌-◌, ◌<◌, ◌≤◌, ◌^◌, List, Option, Some, None, IsSome, sym, ap, subst, length, option_map, slice_get, arith, Node, view_of, NodeMap, leaf, internal, children_of, levels_below, TreeState, IsBTree, node_map, pairs_of, IsWellFormed, Ordering, used-one, used-view, levels_from, IsTotalOrder}
use Rattle.std.proofs.Common.{◌*◌}
use Rattle.std.specs.Prelude.{map as list_map}
use Rattle.std.specs.FinMap as map
use Rattle.btree_store.specs.Content.{Content}
use Rattle.btree_laws.specs.Represents.{Represents}
use Rattle.btree_laws.specs.TreeState.{HasLevelsUnder, views}
use Rattle.btree_laws.proofs.Trees.Density.{height-dense, height-low}
use Rattle.btree_laws.proofs.Trees.Represented.{height_below}
use Rattle.btree_laws.proofs.Trees.ValidPlaces.{represents-node}
use Rattle.btree_find.specs.Levels.{TicksAtMost}
use Rattle.btree_find.proofs.PlaceLemmas.{some-items}

-- `levels` levels are counted from the root down to node `id`
pub record IsDescending {A : Type 0} (node_at : NodeMap A) (root : ℕ) (xs : List A) (id levels : ℕ) : Type 0 where
  pub height : ℕ
  pub low : height < 32
  pub represents : Represents node_at height None root xs
  pub dense : 2 * 4 ^ height ≤ length xs + 1
  pub below : ℕ
  pub parent : Option ℕ
  pub list : List A
  pub here : Represents node_at below parent id list
  pub counted : levels + below ≡ suc height

-- the result of the count
pub record Ends {A : Type 0} (node_at : NodeMap A) (root : ℕ) (xs : List A) (levels : ℕ) : Type 0 where
  pub height : ℕ
  pub represents : Represents node_at height None root xs
  pub counted : levels ≡ suc height
  pub dense : 2 * 4 ^ (levels - 1) ≤ length xs + 1

module _ {K V : Type 0} (nodes : Content (Node K V)) (root : ℕ) (xs : List (K × V)) where
  pub descending-start : (h : ℕ) → h < 32 → Represents (views nodes) h None root xs → 2 * 4 ^ h ≤ length xs + 1 → IsDescending (views nodes) root xs root 1
  descending-start h low s dense = record { height = h; low = low; represents = s; dense = dense; below = h; parent = None; list = xs; here = s; counted = omega arith }

  module _ (id levels : ℕ) (d : IsDescending (views nodes) root xs id levels) where
    pub descending-used : IsSome (map.get nodes id)
    descending-used =
        let v = represents-node (views nodes) d.below d.parent id d.list d.here in
        used-view nodes id (let u = used-one (views nodes id) v.0 v.1 in omega arith)

    module _ (node : Node K V) (at : map.get nodes id ≡ Some node) where
      here : views nodes id ≡ Some (view_of node)
      here = ap (option_map view_of) at

      pub descending-end : slice_get (children_of (view_of node)) 0 ≡ None → Ends (views nodes) root xs levels
      descending-end none = by d.below d.here d.counted
        where
          by : (h : ℕ) → Represents (views nodes) h d.parent id d.list → levels + h ≡ suc d.height → Ends (views nodes) root xs levels
          by zero s e = record { height = d.height; represents = d.represents; counted = omega arith; dense = let q : levels - 1 ≡ d.height = omega arith in rw q d.dense }
          by (suc h) s e =
              let q = s.3 in
              let h2 = here in
              let same : internal d.parent s.0 (list_map {B = _ × ℕ} (λ r. (r.0, r.1)) s.2) ≡ view_of node = cc in
              let none2 : slice_get (children_of (internal d.parent s.0 (list_map {B = _ × ℕ} (λ r. (r.0, r.1)) s.2))) 0 ≡ None = subst (λ v. slice_get (children_of v) 0 ≡ None) (sym same) none in
              absurd (cc)

      pub descending-next : (child : ℕ) → slice_get (children_of (view_of node)) 0 ≡ Some child → IsDescending (views nodes) root xs child (levels + 1) × (levels < 32)
      descending-next child some = by d.below d.here d.counted
        where
          by : (h : ℕ) → Represents (views nodes) h d.parent id d.list → levels + h ≡ suc d.height → IsDescending (views nodes) root xs child (levels + 1) × (levels < 32)
          by zero s e =
              let h2 = here in
              let same : leaf d.parent d.list ≡ view_of node = cc in
              let some2 : slice_get (children_of (leaf d.parent d.list)) 0 ≡ Some child = subst (λ v. slice_get (children_of v) 0 ≡ Some child) (sym same) some in
              absurd (cc)
          by (suc h) s e =
              let q = s.3 in
              let h2 = here in
              let same : internal d.parent s.0 (list_map {B = _ × ℕ} (λ r. (r.0, r.1)) s.2) ≡ view_of node = cc in
              let some2 : slice_get (children_of (internal d.parent s.0 (list_map {B = _ × ℕ} (λ r. (r.0, r.1)) s.2))) 0 ≡ Some child = subst (λ v. slice_get (children_of v) 0 ≡ Some child) (sym same) some in
              let is : s.0 ≡ child = cc in
              let low = d.low in
              (record { height = d.height; low = d.low; represents = d.represents; dense = d.dense; below = h; parent = Some id; list = s.1; here = subst (λ i. Represents (views nodes) h (Some id) i s.1) is s.4; counted = omega arith }, omega arith)

-- at the root
pub levels-start : {K V : Type 0} (cmp : K → K → Ordering) (s : TreeState K V) (root : ℕ) → s.root ≡ Some root → s.len < 2 ^ 64 → IsBTree cmp s
    → IsDescending (node_map s) root (pairs_of s) root 1
levels-start {K} {V} cmp s root is low tree =
    let w : IsWellFormed cmp (node_map s) (Some root) s.len (pairs_of s) = subst (λ t. IsWellFormed cmp (node_map s) t s.len (pairs_of s)) is tree in
    let c = w.counted in
    descending-start s.nodes root (pairs_of s) w.formed.height (height-low (K × V) (node_map s) root (pairs_of s) w.formed (omega arith)) w.formed.represents (height-dense (K × V) (node_map s) root (pairs_of s) w.formed)

-- the levels counted down the first children are those of the tree
levels-of : {A : Type 0} (node_at : NodeMap A) (most height : ℕ) (parent : Option ℕ) (id : ℕ) (ys : List A) → height ≤ most
    → Represents node_at height parent id ys → levels_below node_at most id ≡ height
levels-of node_at zero zero parent id ys low r = refl
levels-of node_at zero (suc height) parent id ys low r = absurd (omega arith)
levels-of node_at (suc most) zero parent id ys low r = rw r refl
levels-of node_at (suc most) (suc height) parent id ys low r =
    rw r.3 (ap suc (levels-of node_at most height (Some id) r.0 r.1 (omega arith) r.4))

-- a search from the root makes at most six comparisons for each level
pub ticks-at-root : {K V : Type 0} (cmp : K → K → Ordering) (laws : IsTotalOrder cmp) (s : TreeState K V) (tree : IsBTree cmp s) (root : ℕ)
    → s.root ≡ Some root → (old new : ℕ) → new ≤ old + 6 * levels_from s root → TicksAtMost s old new
ticks-at-root cmp laws s tree root is old new low levels has =
    let h : HasLevelsUnder s (Some root) levels = subst (λ t. HasLevelsUnder s t levels) is has in
    let b = height_below (node_map s) h.0 None root (pairs_of s) (some-items cmp laws s tree root is) h.1 in
    let l = levels-of (node_map s) (length (pairs_of s)) h.0 None root (pairs_of s) (omega arith) h.1 in
    let e = h.2 in
    omega arith
