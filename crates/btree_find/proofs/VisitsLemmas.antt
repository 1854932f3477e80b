-- One step of a visit of the back or of the front addresses, by the laws of their lists.
use Rattle.btree_find.proofs.Common.{◌≡◌, ◌<◌, ◌≤◌, ◌∙◌, ◌+◌, ℕ, zero, suc, inl, length, Option, Some, None, IsSome, refl, sym, ap, subst, arith, option_map, slice_get, slice_get_past, IsTotalOrder, Ordering, Address, Node, view_of, View, children_in, children_of, leaf, parent_of, size_of, address_at, address_before, IsEnd, IsWithin, HasAddresses, TreeState, IsBTree, IsValidIn, node_map, pairs_of, IsWellFormed, addresses-tree, EndsInLeaf, leaf-without, BeginsInLeaf}
use Rattle.std.proofs.Common.{IfSome}
use Rattle.std.specs.FinMap as finite
use Rattle.btree_laws.specs.AddressLaws.{IsFront}
use Rattle.btree_laws.specs.Addresses.{backs_under, fronts_under, last_item, last_item_in, last_leaf, slot_before}
use Rattle.btree_laws.specs.Place.{IsBack}
use Rattle.btree_laws.specs.TreeAddresses.{backs_of, fronts_of}
use Rattle.btree_laws.specs.Visits.{ComesBefore, VisitsBacks, VisitsFronts, prior}
use Rattle.btree_laws.proofs.AddressLists.BackVisits.{backs-visited}
use Rattle.btree_laws.proofs.AddressLists.FrontAddresses.{front-within}
use Rattle.btree_laws.proofs.AddressLists.FrontVisits.{fronts-visited}
use Rattle.btree_laws.proofs.AddressLists.LeafEnds.{last-leaf-down, last-leaf-self}
use Rattle.btree_laws.proofs.AddressLists.Next.{came-before}
use Rattle.btree_raw.proofs.LastLemmas.{internal-last}
use Rattle.btree_find.specs.Visits.{IsNextBack, IsPreviousFront}
use Rattle.btree_find.proofs.PlaceLemmas.{empty-by, few-items, placed, root-there}
use Rattle.btree_find.proofs.WalkLemmas.{leaf-focus}

-- the address before the end of a node that is there
end-slot : {A : Type 0} (id n : ℕ) (v : Option (View A)) → option_map size_of v ≡ Some n → slot_before id n ≡ last_item_in id v
end-slot id n None e = absurd (cc)
end-slot id n (Some v) e = let same : size_of v ≡ n = cc in rw same refl

module _ {K V : Type 0} (cmp : K → K → Ordering) (laws : IsTotalOrder cmp) (s : TreeState K V) (tree : IsBTree cmp s) where
  abbrev levels : ℕ
  levels = finite.len s.nodes

  addresses : HasAddresses s
  addresses = addresses-tree cmp laws s tree

  -- the address of the last item under a node, by its last leaf
  abbrev last_of : ℕ → Address
  last_of n = last_item_in n (node_map s n)

  some-by : (o : Option ℕ) → IsBack (node_map s) o → IsSome o
  some-by None is = absurd is
  some-by (Some n) is = refl

  listed-valid : (j : ℕ) (found : Option Address) → slice_get (backs_of s) j ≡ found → IfSome found (IsValidIn s)
  listed-valid j None e = tt
  listed-valid j (Some b) e = inl (addresses.backs.right j b e).0

  listed-some : (j : ℕ) (found : Option Address) → slice_get (backs_of s) j ≡ found → IfSome found (λ b. IsSome b.offset)
  listed-some j None e = tt
  listed-some j (Some b) e = some-by b.offset (addresses.backs.right j b e).1

  front-valid : (b : Address) → IsFront (node_map s) (node_map s b.id) b.offset → IsValidIn s b
  front-valid b f = inl (front-within (node_map s) (node_map s b.id) b.offset f)

  slot-by : (node : View (K × V)) (id n : ℕ) → n ≤ size_of node → IsFront (node_map s) (Some node) (slot_before id n).offset
  slot-by node id zero low = tt
  slot-by node id (suc n) low = omega arith

  slot-front : (id n : ℕ) (node : View (K × V)) → node_map s id ≡ Some node → n ≤ size_of node
      → IsFront (node_map s) (node_map s (slot_before id n).id) (slot_before id n).offset
  slot-front id n node e low = subst (λ v. IsFront (node_map s) v (slot_before id n).offset) (sym e) (slot-by node id n low)

  rooted-not : (id : ℕ) (node : View (K × V)) → node_map s id ≡ Some node → s.root ≡ None → ⊥
  rooted-not id node e none = let r = root-there cmp laws s tree id node e in let q = r.1 in absurd (cc)

  module _ (id : ℕ) (node : Node K V) (at : finite.get s.nodes id ≡ Some node) where
    here : node_map s id ≡ Some (view_of node)
    here = ap (option_map view_of) at

    there : (root : ℕ) × (s.root ≡ Some root)
    there = root-there cmp laws s tree id (view_of node) here

    pub size-few : size_of (view_of node) ≤ 8
    size-few = few-items cmp laws s tree there.0 there.1 id (view_of node) here

    back-law : VisitsBacks (node_map s) levels there.0 (backs_of s)
    back-law =
        subst (λ t. VisitsBacks (node_map s) levels there.0 (backs_under (node_map s) levels t)) (sym there.1)
        (backs-visited (node_map s) levels there.0 (pairs_of s) (placed cmp laws s tree there.0 there.1))

    front-law : VisitsFronts (node_map s) levels there.0 (fronts_of s)
    front-law =
        subst (λ t. VisitsFronts (node_map s) levels there.0 (fronts_under (node_map s) levels t)) (sym there.1)
        (fronts-visited (node_map s) levels there.0 (pairs_of s) (placed cmp laws s tree there.0 there.1))

    module _ (offset : ℕ) (within : offset ≤ size_of (view_of node)) where
      back-listed : (i : ℕ) × (slice_get (backs_of s) i ≡ Some (address_at id offset))
      back-listed = addresses.backs.each (address_at id offset) (subst (λ v. IsWithin (node_map s) v (Some offset)) (sym here) within) tt

      next-by : (found : Option Address)
          → ((i : ℕ) → slice_get (backs_of s) i ≡ Some (address_at id offset) → slice_get (backs_of s) (suc i) ≡ found)
          → IsNextBack s (address_at id offset) found
      next-by found law =
          let l = back-listed in
          record {
            listed = λ o n. l;
            next = λ i g. sym (law i g);
            before = λ e. absurd (cc);
            empty = λ e. absurd (rooted-not id (view_of node) here e);
            valid = listed-valid (suc l.0) found (law l.0 l.1);
            back = listed-some (suc l.0) found (law l.0 l.1);
          }

      pub back-down : (child : ℕ) → Some child ≡ slice_get (children_of (view_of node)) (offset + 1) → (first : ℕ) → BeginsInLeaf s child first
          → (a : Address) → a ≡ address_at first 0 → IsNextBack s (address_at id offset) (Some a)
      back-down child after first b a same =
          let n : suc offset ≡ offset + 1 = omega arith in
          let below : slice_get (children_in (node_map s id)) (suc offset) ≡ Some child =
          ap (λ v. slice_get (children_in v) (suc offset)) here ∙ (ap (slice_get (children_of (view_of node))) n ∙ sym after) in
          next-by (Some a) (λ i g. back-law.down i id offset child below g ∙ ap Some (sym (same ∙ ap (λ k. address_at k 0) b.first)))

      pub back-along : None ≡ slice_get (children_of (view_of node)) (offset + 1) → offset < size_of (view_of node) → (a : Address)
          → a ≡ address_at id (offset + 1) → IsNextBack s (address_at id offset) (Some a)
      back-along none low a same =
          let l = leaf-without (view_of node) (offset + 1) (omega arith) (sym none) in
          let n : size_of (view_of node) ≡ length l.1 = ap size_of l.2 in
          let m : suc offset ≡ offset + 1 = omega arith in
          next-by (Some a) (λ i g.
          back-law.along i id offset l.0 l.1 (here ∙ ap Some l.2) (omega arith) g
          ∙ ap Some (ap (address_at id) m ∙ sym same))

      module _ (end : size_of (view_of node) ≤ offset) where
        at-end : offset ≡ size_of (view_of node)
        at-end = omega arith

        pub back-last : parent_of (view_of node) ≡ None → IsNextBack s (address_at id offset) None
        back-last none =
            next-by None (λ i g.
            let l = back-law.last i id offset (view_of node) here at-end none g in
            slice_get_past (backs_of s) (suc i) (omega arith))

        pub back-up : (parent index : ℕ) → slice_get (children_in (node_map s parent)) index ≡ Some id → (a : Address)
            → a ≡ address_at parent index → IsNextBack s (address_at id offset) (Some a)
        back-up parent index child a same =
            next-by (Some a) (λ i g. back-law.up i id offset (view_of node) parent index here at-end child g ∙ ap Some (sym same))

      previous-by : (x : Address) → IsFront (node_map s) (node_map s x.id) x.offset
          → ((i : ℕ) → slice_get (fronts_of s) i ≡ Some (address_at id offset) → ComesBefore (fronts_of s) i x)
          → (offset ≡ size_of (view_of node) → x ≡ last_item (node_map s) levels id)
          → IsPreviousFront s (address_at id offset) (Some x)
      previous-by x front law last =
          record {
            listed = addresses.fronts.each (address_at id offset);
            previous = λ i g. sym (came-before (fronts_of s) i x (law i g));
            end = λ o e is.
                let same : offset ≡ o = cc in
                let size : o ≡ size_of (view_of node) = subst (λ v. IsEnd (node_map s) v o) here is in
                ap Some (last (same ∙ size));
            empty = λ e. absurd (rooted-not id (view_of node) here e);
            valid = front-valid x front;
            front = front;
          }

      pub front-down : (child : ℕ) → Some child ≡ slice_get (children_of (view_of node)) offset → (last : ℕ × ℕ) → EndsInLeaf s child last
          → (x : Address) → x ≡ slot_before last.0 last.1 → IsPreviousFront s (address_at id offset) (Some x)
      front-down child after last e x same =
          let l = leaf-focus (node_map s) (node_map s last.0) e.is_leaf in
          let size : option_map size_of (node_map s last.0) ≡ Some (length l.1) = ap (option_map size_of) l.2 in
          let sized = e.count in
          let count : last.1 ≡ length l.1 = cc in
          let below : slice_get (children_in (node_map s id)) offset ≡ Some child = ap (λ v. slice_get (children_in v) offset) here ∙ sym after in
          let is : x ≡ last_item (node_map s) levels child =
          same ∙ (end-slot last.0 last.1 (node_map s last.0) e.count ∙ ap last_of e.final) in
          let front = subst (λ b. IsFront (node_map s) (node_map s b.id) b.offset) (sym same) (slot-front last.0 last.1 (leaf l.0 l.1) l.2 (omega arith)) in
          previous-by x front (λ i g. subst (λ b. ComesBefore (fronts_of s) i b) (sym is) (front-law.down i id offset child below g))
          (λ end.
          let n = internal-last (view_of node) offset child end after in
          let p = placed cmp laws s tree there.0 there.1 in
          is
          ∙ sym (ap last_of (last-leaf-down (node_map s) levels there.0 (pairs_of s) p id n.0 n.1 n.2 (here ∙ ap Some n.3)
          ∙ ap (last_leaf (node_map s) levels) n.4)))

      pub front-along : None ≡ slice_get (children_of (view_of node)) offset → (x : Address) → x ≡ slot_before id offset
          → IsPreviousFront s (address_at id offset) (Some x)
      front-along none x same =
          let l = leaf-without (view_of node) offset within (sym none) in
          let front = subst (λ b. IsFront (node_map s) (node_map s b.id) b.offset) (sym same) (slot-front id offset (view_of node) here within) in
          previous-by x front
          (λ i g. subst (λ b. ComesBefore (fronts_of s) i b) (sym same) (front-law.along i id offset l.0 l.1 (here ∙ ap Some l.2) g))
          (λ end.
          let p = placed cmp laws s tree there.0 there.1 in
          same
          ∙ (end-slot id offset (node_map s id) (ap (option_map size_of) here ∙ ap Some (sym end))
          ∙ sym (ap last_of (last-leaf-self (node_map s) levels there.0 (pairs_of s) p id l.0 l.1 (here ∙ ap Some l.2)))))

    above-by : (found : Option Address) → IfSome found (λ b. IsFront (node_map s) (node_map s b.id) b.offset)
        → ((i : ℕ) → slice_get (fronts_of s) i ≡ Some (address_before id) → found ≡ prior (fronts_of s) i)
        → IsPreviousFront s (address_before id) found
    above-by found front law =
        record {
          listed = addresses.fronts.each (address_before id);
          previous = law;
          end = λ o e. absurd (cc);
          empty = λ e. absurd (rooted-not id (view_of node) here e);
          valid = by found front;
          front = front;
        }
      where
        by : (t : Option Address) → IfSome t (λ b. IsFront (node_map s) (node_map s b.id) b.offset) → IfSome t (IsValidIn s)
        by None f = tt
        by (Some b) f = front-valid b f

    pub front-first : parent_of (view_of node) ≡ None → IsPreviousFront s (address_before id) None
    front-first none =
        above-by None tt (λ i g. sym (ap (prior (fronts_of s)) (front-law.first i id (view_of node) here none g)))

    pub front-up : (parent index : ℕ) → slice_get (children_in (node_map s parent)) index ≡ Some id → (above : Node K V)
        → finite.get s.nodes parent ≡ Some above → index ≤ size_of (view_of above) → (x : Address) → x ≡ slot_before parent index
        → IsPreviousFront s (address_before id) (Some x)
    front-up parent index child above focus low x same =
        above-by (Some x)
        (subst (λ b. IsFront (node_map s) (node_map s b.id) b.offset) (sym same) (slot-front parent index (view_of above) (ap (option_map view_of) focus) low))
        (λ i g. sym (came-before (fronts_of s) i x (subst (λ b. ComesBefore (fronts_of s) i b) (sym same) (front-law.up i id parent index child g))))

  module _ (a : Address) (valid : IsValidIn s a) where
    -- from -1 of a node
    pub back-before : a.offset ≡ None → (root : ℕ) → s.root ≡ Some root → (first : ℕ) → BeginsInLeaf s a.id first → (b : Address)
        → b ≡ address_at first 0 → IsNextBack s a (Some b)
    back-before none root is first begins b same =
        let l = leaf-focus (node_map s) (node_map s first) begins.is_leaf in
        record {
          listed = λ o n. let q = subst (λ t. IsSome t) none o in absurd (cc);
          next = λ i g. absurd (let k = (addresses.backs.right i a g).1 in subst (λ t. IsBack (node_map s) t) none k);
          before = λ e. ap Some (same ∙ ap (λ n. address_at n 0) begins.first);
          empty = λ e. absurd (cc);
          valid =
              subst (λ t. IsValidIn s t) (sym same)
              (inl (subst (λ v. IsWithin (node_map s) v (Some 0)) (sym l.2) (let z : 0 ≤ length l.1 = omega arith in z)));
          back = rw same refl;
        }

    pub back-at : (offset : Option ℕ) → a.offset ≡ offset → (found : Option Address)
        → IsNextBack s (record { id = a.id; offset = offset }) found → IsNextBack s a found
    back-at offset e found is = subst (λ t. IsNextBack s (record { id = a.id; offset = t }) found) (sym e) is

    pub front-at : (offset : Option ℕ) → a.offset ≡ offset → (found : Option Address)
        → IsPreviousFront s (record { id = a.id; offset = offset }) found → IsPreviousFront s a found
    front-at offset e found is = subst (λ t. IsPreviousFront s (record { id = a.id; offset = t }) found) (sym e) is

    -- in the empty tree
    module _ (e : s.root ≡ None) where
      zero-offset : a.offset ≡ Some 0
      zero-offset = (empty-by cmp laws s tree a valid e valid).2

      no-node : node_map s a.id ≡ None
      no-node =
          let w : IsWellFormed cmp (node_map s) None s.len (pairs_of s) = subst (λ t. IsWellFormed cmp (node_map s) t s.len (pairs_of s)) e tree in
          w.formed.0 a.id

      pub back-empty : IsNextBack s a None
      back-empty =
          let z = zero-offset in
          record {
            listed = λ o n. absurd (n e);
            next = λ i g. absurd (subst (λ v. IsWithin (node_map s) v a.offset) no-node (addresses.backs.right i a g).0);
            before = λ n. absurd (cc);
            empty = λ n. refl;
            valid = tt;
            back = tt;
          }

      pub front-empty : IsPreviousFront s a None
      front-empty =
          record {
            listed = λ f. absurd (subst (λ v. IsFront (node_map s) v a.offset) no-node f);
            previous = λ i g. absurd (subst (λ v. IsFront (node_map s) v a.offset) no-node (addresses.fronts.right i a g));
            end = λ o is f. absurd (subst (λ v. IsEnd (node_map s) v o) no-node f);
            empty = λ n. refl;
            valid = tt;
            front = tt;
          }
