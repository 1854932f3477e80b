-- A node inserted into a store of any content, which becomes the parent of its children.
use Rattle.btree_raw.proofs.Common.{◌≡◌, ◌≢◌, ℕ, ◌<◌, inl, inr, List, Option, Some, None, IsSome, IsTrue, Bool, false, refl, ap, subst, ◌∙◌, arith, Ordering, Content, Node, view_of, children_in, children_of, times_listed, Reparents, TreeState, IsOffByOneAt, node_map, pairs_of, views, IsOffByOne, times_used, is-off, zero-or, writes_node}
use Rattle.std.specs.FinMap as map
use Rattle.btree_valid.specs.OffByOne.{IsOffByOneAmong}
use Rattle.btree_raw.specs.Raw.{AreUsed}
use Rattle.btree_raw.specs.Steps.{CanReparent}
use Rattle.btree_laws.proofs.Trees.Stores.{some-used}

module _ {K V : Type 0} where
  not-both : (o : Option (Node K V)) → o ≡ None → IsSome o → ⊥
  not-both None none some = cc
  not-both (Some node) none some = cc

module _ {K V : Type 0} (nodes : Content (Node K V)) (id : ℕ) (node : Node K V) (unused : map.get nodes id ≡ None) (children : AreUsed nodes (children_of (view_of node))) where
  child-apart : (n : ℕ) → 0 < times_listed n (children_of (view_of node)) → n ≢ id
  child-apart n listed same = not-both (map.get nodes n) (ap (map.get nodes) same ∙ unused) (children n listed)

  none-listed : times_listed id (children_of (view_of node)) ≡ 0
  none-listed = elim (zero-or (times_listed id (children_of (view_of node)))) [
    | inl none ↦ none
    | inr some ↦ absurd (child-apart id some refl)
  ]

  module _ (after : Content (Node K V)) (is : after ≡ map.insert nodes id node) where
    here : views after id ≡ Some (view_of node)
    here = (writes_node nodes after id node is).here

    child-used : (n : ℕ) → 0 < times_listed n (children_of (view_of node)) → 0 < times_used (views after n)
    child-used n listed =
        let kept = (writes_node nodes after id node is).others n (child-apart n listed) in
        rw kept (some-used (map.get nodes n) (children n listed))

    pub can-reparent_children : CanReparent (views after) id
    can-reparent_children = record {
      used = rw here (omega arith);
      children = λ n listed. child-used n (rw here at listed);
      apart = rw here none-listed;
    }

    pub reparents : (last : Content (Node K V)) → Reparents (views after) (views last) id (children_in (views after id)) → Reparents (views (map.insert nodes id node)) (views last) id (children_of (view_of node))
    reparents last a =
        let P : List ℕ → Type 0 = λ l. Reparents (views after) (views last) id l in
        let Q : Content (Node K V) → Type 0 = λ m. Reparents (views m) (views last) id (children_of (view_of node)) in
        subst Q is (subst P (ap children_in here) a)

module _ {K V : Type 0} (cmp : K → K → Ordering) (s : TreeState K V) (id : ℕ) where
  -- the walk of the nodes under the root decides whether the tree is off by one
  pub off-found : (root : ℕ) → s.root ≡ Some root → (result : Bool)
      → (IsTrue result → IsOffByOneAmong cmp s.nodes root id) × (IsOffByOneAmong cmp s.nodes root id → IsTrue result)
      → (IsTrue result → IsOffByOneAt cmp s id) × (IsOffByOneAt cmp s id → IsTrue result)
  off-found root at result walk = (
    λ yes. let off = walk.0 yes in is-off cmp s root id off.0 at off.1,
    λ o. let same : o.root ≡ root = (let e = o.at_root in cc) in walk.1 (pairs_of s, subst (λ r. IsOffByOne cmp (node_map s) r id (pairs_of s)) same o.off),
  )

  pub no-root-off : s.root ≡ None → (IsTrue false → IsOffByOneAt cmp s id) × (IsOffByOneAt cmp s id → IsTrue false)
  no-root-off none = (λ no. absurd (cc), λ o. let e = o.at_root in absurd (cc))
