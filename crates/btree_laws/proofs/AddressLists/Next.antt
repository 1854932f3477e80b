-- The functions that give the next address agree with the lists.
use Rattle.btree_laws.proofs.Common.{◌≡◌, ◌≢◌, ◌<◌, ◌≤◌, ◌∷◌, ◌∙◌, [], ℕ, zero, suc, inl, inr, true, false, List, length, map, Option, Some, None, refl, sym, ap, subst, arith, ◌⊎◌, nat_tests, length-map, slice_get_cases, slice_get, nat_lt, Address, NodeMap, View, leaf, internal, children_in, children_of, parent_of, size_of, backs_under, fronts_under, last_item, slot_before, IsFront, IsPlaced, IsBack, IsWithin, Subtree, id_of, view_at, address_before, address_at, back_after, front_before, Path, frame_id, frame_index, parent_above, top, under, IsUnsizedFocus}
use Rattle.std.proofs.Common.{option_map}
use Rattle.std.proofs.lemmas.Option.{slice_get_past}
use Rattle.std.specs.Prelude.{◌==◌}
use Rattle.btree_laws.specs.Visits.{ComesBefore, VisitsBacks, VisitsFronts, back_after_at, back_after_in, front_before_at, front_before_in, in_parent, index_in, prior}
use Rattle.btree_laws.proofs.AddressLists.BackAddresses.{backs-listed}
use Rattle.btree_laws.proofs.AddressLists.BackVisits.{backs-visited}
use Rattle.btree_laws.proofs.Paths.Parents.{index-here}
use Rattle.btree_laws.proofs.Paths.Frames.{top-view}
use Rattle.btree_laws.proofs.AddressLists.FrontAddresses.{fronts-listed}
use Rattle.btree_laws.proofs.AddressLists.FrontVisits.{fronts-visited}
use Rattle.btree_laws.proofs.Trees.Numbers.{less-or, same-or, used-there}
use Rattle.btree_laws.proofs.Paths.FromRoot.{node-rooted}
use Rattle.btree_laws.proofs.Trees.Sizes.{view-parent}

-- a number in a list has an index
pub record Indexed (n : ℕ) (numbers : List ℕ) : Type 0 where
  pub index : ℕ
  pub is : index_in n numbers ≡ Some index
  pub at : slice_get numbers index ≡ Some n

indexed : (n : ℕ) (numbers : List ℕ) (k : ℕ) → slice_get numbers k ≡ Some n → Indexed n numbers
indexed n [] k e = absurd (cc)
indexed n (m ∷ numbers) k e = elim (same-or n m) [
  | inl same ↦ record {
    index = 0;
    is = let t : (n == m) ≡ true = grind (arith, nat_tests) in rw t refl;
    at = ap (λ z. Some z) (sym same);
  }
  | inr other ↦
      let t : (n == m) ≡ false = grind (arith, nat_tests) in
      let r = indexed n numbers (pass k) (passed k e other) in
      record { index = suc r.index; is = rw t (ap (option_map suc) r.is); at = r.at }
]
  where
    pass : ℕ → ℕ
    pass zero = 0
    pass (suc k) = k

    passed : (k : ℕ) → slice_get (m ∷ numbers) k ≡ Some n → n ≢ m → slice_get numbers (pass k) ≡ Some n
    passed zero e other = absurd (other (let s : m ≡ n = cc in sym s))
    passed (suc k) e other = e

low-or : (o n : ℕ) → o ≤ n → (o < n) ⊎ (o ≡ n)
low-or o n l = elim (less-or o n) [
  | inl a ↦ inl a
  | inr b ↦ elim b [ inl e ↦ inr e | inr m ↦ absurd (omega arith) ]
]

-- the address before an index of a list is the one that comes before it
pub came-before : (list : List Address) (i : ℕ) (a : Address) → ComesBefore list i a → prior list i ≡ Some a
came-before list i a c = ap (prior list) c.is ∙ c.at

module _ {A : Type 0} (node_at : NodeMap A) (levels root : ℕ) (xs : List A) (p : IsPlaced node_at levels root xs) where
  -- a node with a parent is one of the parent's children
  parent-focus : (h : ℕ) (c : Path A h) (u : Subtree A h) → IsUnsizedFocus A node_at [] root xs h c u → (node : View A) (parent : ℕ)
      → node_at (id_of A h u) ≡ Some node → parent_of node ≡ Some parent → Indexed (id_of A h u) (children_in (node_at parent))
  parent-focus h top u w node parent e is =
      let v = top-view A node_at h None u w.inner in
      let same : view_at A h None u ≡ node = cc in
      let q = sym (view-parent A h None u) ∙ ap parent_of same in
      absurd (cc)
  parent-focus h (under f c) u w node parent e is =
      let v = top-view A node_at h (Some (frame_id f)) u w.inner in
      let same : view_at A h (Some (frame_id f)) u ≡ node = cc in
      let q : Some (frame_id f) ≡ Some parent = sym (view-parent A h (Some (frame_id f)) u) ∙ (ap parent_of same ∙ is) in
      let r : frame_id f ≡ parent = cc in
      let here : slice_get (children_in (node_at (frame_id f))) (frame_index f) ≡ Some (id_of A h u) =
      subst (λ v. slice_get (children_in v) (frame_index f) ≡ Some (id_of A h u)) (sym w.above.0)
      (index-here A h (parent_above c) f (id_of A h u)) in
      indexed (id_of A h u) (children_in (node_at parent)) (frame_index f)
      (subst (λ i. slice_get (children_in (node_at i)) (frame_index f) ≡ Some (id_of A h u)) r here)

  pub parent-index : (id : ℕ) (node : View A) (parent : ℕ) → node_at id ≡ Some node → parent_of node ≡ Some parent
      → Indexed id (children_in (node_at parent))
  parent-index id node parent e is =
      let n = node-rooted A node_at (λ id node. Unit {0}) root xs p.rooted id (used-there node_at id node e) in
      subst (λ i. Indexed i (children_in (node_at parent))) n.here
      (parent-focus n.height n.path n.subtree n.focused node parent (ap node_at n.here ∙ e) is)

  -- an item with no child after it is in a leaf
  in-leaf : (node : View A) (o : ℕ) → slice_get (children_of node) (suc o) ≡ None → o < size_of node
      → (parent : Option ℕ) × (items : List A) × (node ≡ leaf parent items)
  in-leaf (leaf parent items) o e l = (parent, items, refl)
  in-leaf (internal parent first branches) o e l =
      let n = length-map branches (λ (b : A × ℕ). b.0) in
      let m = length-map branches (λ (b : A × ℕ). b.1) in
      elim (slice_get_cases (map {B = ℕ} (λ (b : A × ℕ). b.1) branches) o).1 [
        | inl c ↦ let q = c.2 in absurd (cc)
        | inr c ↦ let k = c.0 in absurd (omega arith)
      ]

  abbrev back_list : List Address
  back_list = backs_under node_at levels (Some root)

  law : VisitsBacks node_at levels root back_list
  law = backs-visited node_at levels root xs p

  -- the rule past the last item
  back-out : (i id o : ℕ) (node : View A) → node_at id ≡ Some node → o ≡ size_of node → slice_get back_list i ≡ Some (address_at id o)
      → (parent : Option ℕ) → parent_of node ≡ parent → slice_get back_list (suc i) ≡ in_parent node_at address_at id parent
  back-out i id o node e last g None is = let l = law.last i id o node e last is g in slice_get_past back_list (suc i) (omega arith)
  back-out i id o node e last g (Some parent) is =
      let n = parent-index id node parent e is in
      law.up i id o node parent n.index e last n.at g ∙ sym (ap (option_map (address_at parent)) n.is)

  back-in : (i id o : ℕ) (node : View A) → node_at id ≡ Some node → o ≤ size_of node → slice_get back_list i ≡ Some (address_at id o)
      → (child : Option ℕ) → slice_get (children_of node) (suc o) ≡ child
      → slice_get back_list (suc i) ≡ back_after_in node_at levels id o node child
  back-in i id o node e l g (Some child) is = law.down i id o child (subst (λ v. slice_get (children_in v) (suc o) ≡ Some child) (sym e) is) g
  back-in i id o node e l g None is = elim (low-or o (size_of node) l) [
    | inl low ↦
        let t : nat_lt o (size_of node) ≡ true = grind (arith, nat_tests) in
        let n = in-leaf node o is low in
        let k : o < length n.1 = subst (λ v. o < size_of v) n.2 low in
        rw t (law.along i id o n.0 n.1 (e ∙ ap (λ v. Some v) n.2) k g)
    | inr last ↦
        let t : nat_lt o (size_of node) ≡ false = grind (arith, nat_tests) in
        rw t (back-out i id o node e last g (parent_of node) refl)
  ]

  back-at : (i id : ℕ) (v : Option (View A)) → node_at id ≡ v → (offset : Option ℕ) → IsWithin node_at v offset → IsBack node_at offset
      → slice_get back_list i ≡ Some (record { id = id; offset = offset })
      → slice_get back_list (suc i) ≡ back_after_at node_at levels id v offset
  back-at i id None e offset l b g = absurd l
  back-at i id (Some node) e None l b g = absurd b
  back-at i id (Some node) e (Some o) l b g = back-in i id o node e l g (slice_get (children_of node) (suc o)) refl

  -- after each back address in the list comes the one that `back_after` gives, or none
  pub back-rule : (i : ℕ) (a : Address) → slice_get back_list i ≡ Some a → slice_get back_list (suc i) ≡ back_after node_at levels a
  back-rule i a g =
      let r = (backs-listed node_at levels (Some root) xs p).right i a g in
      back-at i a.id (node_at a.id) refl a.offset r.0 r.1 g

  abbrev front_list : List Address
  front_list = fronts_under node_at levels (Some root)

  front-law : VisitsFronts node_at levels root front_list
  front-law = fronts-visited node_at levels root xs p

  front-out : (i id : ℕ) (node : View A) → node_at id ≡ Some node → slice_get front_list i ≡ Some (address_before id)
      → (parent : Option ℕ) → parent_of node ≡ parent → prior front_list i ≡ in_parent node_at slot_before id parent
  front-out i id node e g None is = ap (prior front_list) (front-law.first i id node e is g)
  front-out i id node e g (Some parent) is =
      let n = parent-index id node parent e is in
      came-before front_list i (slot_before parent n.index) (front-law.up i id parent n.index n.at g)
      ∙ sym (ap (option_map (slot_before parent)) n.is)

  front-in : (i id o : ℕ) (node : View A) → node_at id ≡ Some node → o < size_of node → slice_get front_list i ≡ Some (address_at id o)
      → (child : Option ℕ) → slice_get (children_of node) o ≡ child
      → prior front_list i ≡ Some (front_before_in node_at levels id o child)
  front-in i id o node e l g (Some child) is =
      came-before front_list i (last_item node_at levels child)
      (front-law.down i id o child (subst (λ v. slice_get (children_in v) o ≡ Some child) (sym e) is) g)
  front-in i id o (leaf parent items) e l g None is = came-before front_list i (slot_before id o) (front-law.along i id o parent items e g)
  front-in i id zero (internal parent first branches) e l g None is = absurd (cc)
  front-in i id (suc o) (internal parent first branches) e l g None is =
      let n = in-leaf (internal parent first branches) o is (omega arith) in
      let k = n.2 in
      absurd (cc)

  front-at : (i id : ℕ) (v : Option (View A)) → node_at id ≡ v → (offset : Option ℕ) → IsFront node_at v offset
      → slice_get front_list i ≡ Some (record { id = id; offset = offset })
      → prior front_list i ≡ front_before_at node_at levels id v offset
  front-at i id None e offset l g = absurd l
  front-at i id (Some node) e None l g = front-out i id node e g (parent_of node) refl
  front-at i id (Some node) e (Some o) l g = front-in i id o node e l g (slice_get (children_of node) o) refl

  -- before each front address in the list comes the one that `front_before` gives, or none
  pub front-rule : (i : ℕ) (a : Address) → slice_get front_list i ≡ Some a → prior front_list i ≡ front_before node_at levels a
  front-rule i a g =
      front-at i a.id (node_at a.id) refl a.offset ((fronts-listed node_at levels (Some root) xs p).right i a g) g
