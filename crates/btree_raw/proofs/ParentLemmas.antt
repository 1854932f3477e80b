-- A node that becomes the parent of its children, one after another.
use Rattle.btree_raw.proofs.Common.{◌≡◌, ℕ, zero, suc, ◌+◌, ◌<◌, ◌≤◌, inl, inr, List, [], ◌∷◌, ◌++◌, length, take, slice_get, Option, Some, None, IsSome, refl, sym, ap, ◌∙◌, option_map, arith, Content, Node, with_parent, view_of, View, NodeMap, leaf, internal, children_in, children_of, one, times_listed, Reparents, views, times_used, one-other, listed-append, same-or, used-mapped, zero-or, AreThere, SetsParent, get-times, used-view}
use Rattle.std.specs.FinMap as map
use Rattle.btree_laws.proofs.Paths.Frames.{one-zero}
use Rattle.btree_raw.specs.Steps.{CanReparent}

times-take : (n i : ℕ) (ids : List ℕ) → times_listed n (take i ids) ≤ times_listed n ids
times-take n zero ids = omega arith
times-take n (suc i) [] = omega arith
times-take n (suc i) (id ∷ ids) = omega (arith, times-take n i ids)

take-next : (i : ℕ) (ids : List ℕ) (id : ℕ) → slice_get ids i ≡ Some id → take (suc i) ids ≡ take i ids ++ id ∷ []
take-next i [] id e = absurd (cc)
take-next zero (x ∷ ids) id e = let s : x ≡ id = cc in rw s refl
take-next (suc i) (x ∷ ids) id e = ap (λ l. x ∷ l) (take-next i ids id e)

take-more : (i : ℕ) (ids : List ℕ) (id : ℕ) → slice_get ids i ≡ Some id → take (i + 1) ids ≡ take i ids ++ id ∷ []
take-more i ids id e = let n : i + 1 ≡ suc i = omega arith in rw n (take-next i ids id e)

pub take-all : (i : ℕ) (ids : List ℕ) → length ids ≤ i → take i ids ≡ ids
take-all zero [] e = refl
take-all (suc i) [] e = refl
take-all zero (x ∷ ids) e = absurd (omega arith)
take-all (suc i) (x ∷ ids) e = ap (λ l. x ∷ l) (take-all i ids (omega arith))

twice : {A : Type 0} (p : ℕ) (o : Option (View A)) → option_map (with_parent (Some p)) (option_map (with_parent (Some p)) o) ≡ option_map (with_parent (Some p)) o
twice p None = refl
twice p (Some (leaf q xs)) = refl
twice p (Some (internal q first bs)) = refl

-- a loop over the children, which are there
module _ {A : Type 0} (node_at : NodeMap A) (parent : ℕ) (children : List ℕ) (there : AreThere node_at children)
    (now : NodeMap A) (index : ℕ) (partly : Reparents node_at now parent (take index children)) (child : ℕ)
    (is : slice_get children index ≡ Some child) where
  pub reparented-used : 0 < times_used (now child)
  reparented-used =
      let used = there child (get-times children index child is) in
      elim (zero-or (times_listed child (take index children))) [
        | inl none ↦ rw (partly.kept child none) used
        | inr some ↦ rw (partly.moved child some, used-mapped (with_parent (Some parent)) (node_at child)) used
      ]

  pub reparents-more : (new : NodeMap A) → SetsParent now new child parent → Reparents node_at new parent (take (index + 1) children)
  reparents-more new s =
      let sum : (n : ℕ) → times_listed n (take (index + 1) children) ≡ times_listed n (take index children) + one n child =
      λ n. ap (times_listed n) (take-more index children child is) ∙ (let q = listed-append n (take index children) (child ∷ []) in omega arith) in
      record {
        kept = λ n none. let q = sum n in s.others n (one-zero n child (omega arith)) ∙ partly.kept n (omega arith);
        moved = λ n some. elim (same-or n child) [
          | inl same ↦ rw same (s.here ∙ elim (zero-or (times_listed child (take index children))) [
            | inl z ↦ ap (option_map (with_parent (Some parent))) (partly.kept child z)
            | inr p ↦ ap (option_map (with_parent (Some parent))) (partly.moved child p) ∙ twice parent (node_at child)
          ])
          | inr ne ↦ let q = sum n in let o = one-other n child ne in s.others n ne ∙ partly.moved n (omega arith)
        ];
      }

module _ {A : Type 0} (node_at : NodeMap A) (id : ℕ) (can : CanReparent node_at id) where
  abbrev children : List ℕ
  children = children_in (node_at id)

  pub parent-kept : (now : NodeMap A) (index : ℕ) → Reparents node_at now id (take index children) → now id ≡ node_at id
  parent-kept now index partly = partly.kept id (let z = can.apart in omega (arith, times-take id index children))

module _ {K V : Type 0} where
  -- the children of the node at a number
  pub children-at : (nodes : Content (Node K V)) (id : ℕ) (node : Node K V) → map.get nodes id ≡ Some node → children_in (views nodes id) ≡ children_of (view_of node)
  children-at nodes id node at = rw at refl

  -- one iteration of the loop: the node as it was and as it is now
  module _ (old now : Content (Node K V)) (id : ℕ) (can : CanReparent (views old) id) (index : ℕ) (partly : Reparents (views old) (views now) id (take index (children_in (views old id)))) where
    pub still-used : IsSome (map.get now id)
    still-used = used-view now id (rw (parent-kept (views old) id can (views now) index partly) can.used)

    module _ (node : Node K V) (at : map.get now id ≡ Some node) where
      same-children : children_of (view_of node) ≡ children_in (views old id)
      same-children = sym (children-at now id node at) ∙ ap children_in (parent-kept (views old) id can (views now) index partly)

      pub index-below : (first : Node K V) (count : ℕ) → map.get old id ≡ Some first → count ≡ length (children_of (view_of first)) → index < count → index < length (children_of (view_of node))
      index-below first count was many below = let a = ap length same-children in let b = ap length (children-at old id first was) in omega arith

      module _ (child : ℕ) (is : slice_get (children_of (view_of node)) index ≡ Some child) where
        the-child : slice_get (children_in (views old id)) index ≡ Some child
        the-child = ap (λ ids. slice_get ids index) (sym same-children) ∙ is

        pub child-used : IsSome (map.get now child)
        child-used = used-view now child (reparented-used (views old) id (children_in (views old id)) can.children (views now) index partly child the-child)

        pub child-reparented : (new : Content (Node K V)) → SetsParent (views now) (views new) child id → Reparents (views old) (views new) id (take (index + 1) (children_in (views old id)))
        child-reparented new s = reparents-more (views old) id (children_in (views old id)) can.children (views now) index partly child the-child (views new) s
