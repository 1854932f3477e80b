-- The steps of the code at the back, by the laws of what is left.
use Rattle.std.specs.Prelude.{map as list_map}
use Rattle.btree_owned_walk.proofs.Common.{◌≡◌, ◌≢◌, ◌<◌, ◌≤◌, inl, inr, ℕ, zero, suc, ◌+◌, List, [], ◌∷◌, ◌++◌, length, Option, Some, None, refl, sym, ap, subst, ◌∙◌, arith, slice_get, option_map, same_Some, Node, view_of, View, leaf, internal, NodeMap, children_of, size_of, HasChildFor, Subtree, id_of, items_under, times_under, view_at, TreeState, node_map, zero-or, writes_node, with_node, HasAny, LastGone, last_of, HoldsRest, HoldsDownTo, AtLast, AreApart, IsRest, without_last, IsClimbing, ReleasesSpent, StandsAtBack, TakesLast}
use Rattle.std.specs.FinMap as map
use Rattle.btree_item.specs.declared.TheConstants.{MAX_LEVELS}
use Rattle.btree_view.specs.Edits.{pushed_right}
use Rattle.btree_laws.proofs.Trees.Numbers.{same-or}
use Rattle.btree_laws.specs.Step.{WritesNode}
use Rattle.btree_owned_walk.specs.Rest.{last_id}
use Rattle.btree_owned_walk.specs.Ends.{HasLast, KeepsBack}
use Rattle.btree_owned_walk.proofs.RestLemmas.{top-used, top-there}
use Rattle.btree_owned_walk.proofs.StartLemmas.{root-at-last}
use Rattle.btree_owned_walk.proofs.ChainLemmas.{last-rest, on-last-under}
use Rattle.btree_owned_walk.proofs.LastLemmas.{last-child-id, last-only, last-sized, last-times-less, stays-last, takes-last}

-- the last child by its index
child-index : {A : Type 0} (first : ℕ) (bs : List (A × ℕ)) → slice_get (first ∷ list_map {B = ℕ} (λ b. b.1) bs) (length (list_map {B = A} (λ b. b.0) bs)) ≡ Some (last_id first bs)
child-index first [] = refl
child-index first (b ∷ bs) = child-index b.1 bs

module _ {A : Type 0} (node_at : NodeMap A) where
  -- the child at the index of the number of items is the last one
  pub last-leaf : (v : View A) → slice_get (children_of v) (size_of v) ≡ None → LastGone node_at v
  last-leaf (leaf p xs) e = tt
  last-leaf (internal p c bs) e = absurd (let k = child-index c bs in cc)

  pub last-gone : (v : View A) (c : ℕ) → slice_get (children_of v) (size_of v) ≡ Some c → node_at c ≡ None → LastGone node_at v
  last-gone (leaf p xs) c e g = tt
  last-gone (internal p d bs) c e g = ap node_at (same_Some _ _ (sym (child-index d bs) ∙ e)) ∙ g

  -- a walk from node `from` to the node with the last item has reached node `id`
  pub record GoesToLast (from id levels : ℕ) : Type 0 where
    pub height : ℕ
    pub parent : Option ℕ
    pub part : Subtree A height
    pub holds : HoldsRest A node_at height parent part
    pub here : id_of A height part ≡ id
    pub some : HasAny (items_under A height part)
    pub low : levels + height < MAX_LEVELS
    pub keeps : KeepsBack node_at from id

  part-of-last : (h : ℕ) (p : Option ℕ) (t : Subtree A h) (id : ℕ) → HoldsRest A node_at h p t → AtLast A id h t
      → (g : ℕ) × (q : Option ℕ) × (part : Subtree A g) × HoldsRest A node_at g q part × (id_of A g part ≡ id) × HasAny (items_under A g part) × (g ≤ h)
  part-of-last zero p t id d at = (zero, p, t, d, at.0, at.1, omega arith)
  part-of-last (suc h) p t id d at =
      elim at.1 [
        | inl is ↦ (suc h, p, t, d, is, at.0, omega arith)
        | inr below ↦ (let r = part-of-last h (Some t.0) (last_of A h t.1 t.2) id (last-rest A node_at h (Some t.0) t.1 t.2 d.1 d.2) below in (r.0, r.1, r.2, r.3, r.4, r.5, omega (arith, r.6)))
      ]

  pub goes-back-start : (id : ℕ) → StandsAtBack node_at id → GoesToLast id id 0
  goes-back-start id s =
      let r = part-of-last s.height None s.t id s.rest.holds s.at in
      record { height = r.0; parent = r.1; part = r.2; holds = r.3; here = r.4; some = r.5; low = (let l = s.low in omega (arith, r.6)); keeps = λ h t d at. at }

  pub goes-back-used : (from id levels : ℕ) → GoesToLast from id levels → (v : View A) × (node_at id ≡ Some v)
  goes-back-used from id levels s = (view_at A s.height s.parent s.part, ap node_at (sym s.here) ∙ top-there A node_at s.height s.parent s.part s.holds s.some)

  last-view : (h : ℕ) (p : Option ℕ) (t : Subtree A (suc h)) → slice_get (children_of (view_at A (suc h) p t)) (size_of (view_at A (suc h) p t)) ≡ Some (id_of A h (last_of A h t.1 t.2))
  last-view h p t = child-index (id_of A h t.1) (list_map {B = A × ℕ} (λ (b : A × Subtree A h). (b.0, id_of A h b.1)) t.2) ∙ ap Some (last-child-id A h t.1 t.2)

  below-back : (h : ℕ) (p : Option ℕ) (t : Subtree A h) → HoldsRest A node_at h p t → (v : View A) → node_at (id_of A h t) ≡ Some v
      → (c : ℕ) → slice_get (children_of v) (size_of v) ≡ Some c → (w : View A) → node_at c ≡ Some w
      → (g : ℕ) × (q : Option ℕ) × (part : Subtree A g) × HoldsRest A node_at g q part × (id_of A g part ≡ c) × HasAny (items_under A g part) × (suc g ≡ h)
  below-back zero p t d v e c k w f =
      let is = (top-used A node_at zero p t d v e).1 in
      let none : slice_get (children_of (leaf p t.1)) (size_of (leaf p t.1)) ≡ Some c = ap (λ u. slice_get (children_of u) (size_of u)) is ∙ k in
      absurd (cc)
  below-back (suc h) p t d v e c k w f =
      let is = (top-used A node_at (suc h) p t d v e).1 in
      let child : id_of A h (last_of A h t.1 t.2) ≡ c = same_Some _ _ (sym (last-view h p t) ∙ ap (λ u. slice_get (children_of u) (size_of u)) is ∙ k) in
      let rest = last-rest A node_at h (Some t.0) t.1 t.2 d.1 d.2 in
      (h, Some t.0, last_of A h t.1 t.2, rest, child, (top-used A node_at h (Some t.0) (last_of A h t.1 t.2) rest w (ap node_at child ∙ f)).0, refl)

  last-goes : (h : ℕ) (p : Option ℕ) (t : Subtree A h) → HoldsRest A node_at h p t → (id : ℕ) → AtLast A id h t → (v : View A) → node_at id ≡ Some v
      → (c : ℕ) → slice_get (children_of v) (size_of v) ≡ Some c → (w : View A) → node_at c ≡ Some w → AtLast A c h t
  last-goes zero p t d id at v e c k w f =
      let is = (top-used A node_at zero p t d v (ap node_at at.0 ∙ e)).1 in
      let none : slice_get (children_of (leaf p t.1)) (size_of (leaf p t.1)) ≡ Some c = ap (λ u. slice_get (children_of u) (size_of u)) is ∙ k in
      absurd (cc)
  last-goes (suc h) p t d id at v e c k w f =
      let rest = last-rest A node_at h (Some t.0) t.1 t.2 d.1 d.2 in
      elim at.1 [
        | inl here ↦
            (let is = (top-used A node_at (suc h) p t d v (ap node_at here ∙ e)).1 in
            let child : id_of A h (last_of A h t.1 t.2) ≡ c = same_Some _ _ (sym (last-view h p t) ∙ ap (λ u. slice_get (children_of u) (size_of u)) is ∙ k) in
            let there = (top-used A node_at h (Some t.0) (last_of A h t.1 t.2) rest w (ap node_at child ∙ f)).0 in
            (at.0, inr (subst (λ i. AtLast A i h (last_of A h t.1 t.2)) child (root-at-last A h (last_of A h t.1 t.2) there))))
        | inr below ↦ (at.0, inr (last-goes h (Some t.0) (last_of A h t.1 t.2) rest id below v e c k w f))
      ]

  pub goes-back-on : (from id levels : ℕ) → GoesToLast from id levels → (v : View A) → node_at id ≡ Some v
      → (c : ℕ) → slice_get (children_of v) (size_of v) ≡ Some c → (w : View A) → node_at c ≡ Some w → GoesToLast from c (suc levels)
  goes-back-on from id levels s v e c k w f =
      let r = below-back s.height s.parent s.part s.holds v (ap node_at s.here ∙ e) c k w f in
      record {
        height = r.0;
        parent = r.1;
        part = r.2;
        holds = r.3;
        here = r.4;
        some = r.5;
        low = (let l = s.low in omega (arith, r.6));
        keeps = λ h t d at. last-goes h None t d id (s.keeps h t d at) v e c k w f;
      }

-- the last item, taken from the node that has it
module _ (A : Type 0) (old mid new : NodeMap A) (from id top : ℕ) (v w : View A) (x : A) (child : Option ℕ) (e : old id ≡ Some v)
    (bare : LastGone old v) (kind : HasChildFor child v) (popped : v ≡ pushed_right x child w)
    (here : mid id ≡ Some w) (others : (n : ℕ) → n ≢ id → mid n ≡ old n) (keeps : KeepsBack old from id) where
  apart-after : (h : ℕ) (t : Subtree A h) → AreApart A h t → AreApart A h (without_last A h t)
  apart-after h t a n = let q = a n in let l = last-times-less A h n t in omega arith

  after-take : (h : ℕ) (t : Subtree A h) → IsRest A old h t → AtLast A from h t
      → HoldsDownTo A mid id h None (without_last A h t) × (items_under A h t ≡ items_under A h (without_last A h t) ++ x ∷ [])
  after-take h t r at = takes-last A old mid id v w x child e bare kind popped here others h None t r.holds r.apart (keeps h t r.holds at)

  pub take-climbs-back : StandsAtBack old from → IsClimbing mid id
  take-climbs-back s = record {
    height = s.height;
    t = without_last A s.height s.t;
    apart = apart-after s.height s.t s.rest.apart;
    down = (after-take s.height s.t s.rest s.at).0;
  }

  pub take-leaves-back : ReleasesSpent mid new id top → TakesLast old new from x top
  take-leaves-back r h t rest at =
      let a = apart-after h t rest.apart in
      let d = after-take h t rest at in
      let on = stays-last A h t id (keeps h t rest.holds at) in
      record {
        rest = record {
          holds = r.holds h (without_last A h t) a d.0;
          apart = a;
          only = λ n z. r.fewer n (elim (same-or n id) [
            | inl same ↦ absurd (let u = on-last-under A h (without_last A h t) id on in
                let z' : times_under A h id (without_last A h t) ≡ 0 = subst (λ m. times_under A h m (without_last A h t) ≡ 0) same z in omega arith)
            | inr differs ↦ others n differs ∙ elim (zero-or (times_under A h n t)) [
              | inl none ↦ rest.only n none
              | inr some ↦ last-only A old h None t rest.holds n some z
            ]
          ]);
        };
        items = d.1;
        back = λ some. r.last h (without_last A h t) a d.0 some on;
      }

module _ {K V : Type 0} (s : TreeState K V) (from id : ℕ) (node : Node K V) (at : Some node ≡ map.get s.nodes id)
    (hl : HasLast (node_map s) id) (keeps : KeepsBack (node_map s) from id) where
  last-here : node_map s id ≡ Some (view_of node)
  last-here = ap (option_map view_of) (sym at)

  last-bare : LastGone (node_map s) (view_of node)
  last-bare = subst (LastGone (node_map s)) (same_Some _ _ (sym hl.here ∙ last-here)) hl.bare

  pub last-room : StandsAtBack (node_map s) from → 0 < size_of (view_of node)
  last-room q = last-sized (K × V) (node_map s) q.height None q.t q.rest.holds id (keeps q.height q.t q.rest.holds q.at) (view_of node) last-here last-bare

  module _ (w : Node K V) (x : K × V) (child : Option ℕ) (kind : HasChildFor child (view_of node))
      (popped : view_of node ≡ pushed_right x child (view_of w)) where
    written-last : WritesNode (node_map s) (node_map (with_node s id w)) id (view_of w)
    written-last = writes_node s.nodes (map.insert s.nodes id w) id w refl

    pub last-climbs : StandsAtBack (node_map s) from → IsClimbing (node_map (with_node s id w)) id
    last-climbs q =
        take-climbs-back (K × V) (node_map s) (node_map (with_node s id w)) (node_map s) from id id (view_of node) (view_of w) x child last-here last-bare kind popped
        written-last.here written-last.others keeps q

    pub last-taken : (new : NodeMap (K × V)) (top : ℕ) → ReleasesSpent (node_map (with_node s id w)) new id top → TakesLast (node_map s) new from x top
    last-taken new top r =
        take-leaves-back (K × V) (node_map s) (node_map (with_node s id w)) new from id top (view_of node) (view_of w) x child last-here last-bare kind popped
        written-last.here written-last.others keeps r
