-- An item put at exactly an address: the nodes with it, and what the steps of the insertion require and leave.
use Rattle.btree_raw.proofs.Common.{◌≡◌, ◌≢◌, ◌∙◌, ◌+◌, ◌<◌, ◌≤◌, ℕ, zero, suc, inl, inr, List, [], ◌∷◌, length, Bool, true, false, Option, Some, None, IsSome, refl, sym, ap, subst, arith, slice_get, option_map, if◌then◌else◌, nat_lt, IsTotalOrder, length-map, Ordering, Content, Address, Store, Node, view_of, with_item, HasChildFor, View, leaf, internal, item_in, items_of, most_of, parent_of, size_of, times_listed, need, split_need, IsWithin, Claims, TreeState, Changes, IsOffByOneAt, IsUsed, KeepsRest, node_map, nodes_for_splits, pairs_of, views, IsOffByOne, times_used, less-no, less-or, same-node, same-or, used-one, is-off, len-views, AreClaimed, EMPTY, InsertsExactly, IsFull, IsOffByOneWith, IsRefused, Refuses, AddsItem, CanAddItem, IsCountingSplits, IsSplitting, Overflows, split_key}
use Rattle.std.proofs.Common.{option_and_then}
use Rattle.std.specs.Prelude.{map}
use Rattle.std.specs.List.{insert}
use Rattle.std.specs.FinMap as finite
use Rattle.std.proofs.lemmas.List.Edits.{length-insert}
use Rattle.btree_item.proofs.PairEdits.{slice_get-insert}
use Rattle.btree_laws.specs.Represents.{numbers_under}
use Rattle.btree_laws.specs.TreeState.{IsValidIn, item_of, nodes_needed}
use Rattle.btree_laws.proofs.Trees.Numbers.{used-low}
use Rattle.btree_raw.specs.Claimed.{MayRefuseOneOf}
use Rattle.btree_raw.specs.Insertion.{PutsItem, UsesNeeded}
use Rattle.btree_raw.specs.Limit.{IsBelowLimit}
use Rattle.btree_raw.specs.Rebalance.{HasRoom, IsRebalanced}
use Rattle.btree_raw.specs.Steps.{AreSplitAlike, SplitsUpward}
use Rattle.btree_raw.proofs.AlikeLemmas.{need-alike}
use Rattle.btree_raw.proofs.ClaimLemmas.{claims-focus}
use Rattle.btree_raw.proofs.RebalanceLemmas.{counting, is-split, splitting}
use Rattle.btree_raw.proofs.StateLemmas.{same-len, same-kept, same-root, then, used-here, with_nodes}

not-less : (m n : ℕ) → n ≤ m → nat_lt m n ≡ false
not-less m n full = by (nat_lt m n) refl
  where
    by : (b : Bool) → nat_lt m n ≡ b → nat_lt m n ≡ false
    by true e =
        let f : Bool → ℕ = λ b. if b then suc zero else zero in
        let one : f (nat_lt m n) ≡ suc zero = ap f e in
        let none : f (nat_lt m n) ≡ zero = less-no m n (suc zero) zero full in
        absurd (omega arith)
    by false e = e

module _ {A : Type 0} where
  in-branches : (bs : List (A × ℕ)) (i : ℕ) (x : A) (c : ℕ) → i ≤ length bs → slice_get (map (λ b. b.0) (insert bs i (x, c))) i ≡ Some x
  in-branches bs zero x c low = refl
  in-branches [] (suc i) x c low = absurd (omega arith)
  in-branches (b ∷ bs) (suc i) x c low = in-branches bs i x c (omega arith)

  -- a node with one item more
  pub put-size : (v : View A) (i : ℕ) (x : A) (child : Option ℕ) → i ≤ size_of v → HasChildFor child v → size_of (with_item i x child v) ≡ size_of v + 1
  put-size (leaf p ys) i x child low kind = length-insert ys i x low
  put-size (internal p first bs) i x None low kind = absurd (cc)
  put-size (internal p first bs) i x (Some c) low kind =
      let e : length (map (λ (b : A × ℕ). b.0) bs) ≡ length bs = length-map bs (λ (b : A × ℕ). b.0) in
      let d : length (map (λ (b : A × ℕ). b.0) (insert bs i (x, c))) ≡ length (insert bs i (x, c)) = length-map (insert bs i (x, c)) (λ (b : A × ℕ). b.0) in
      d ∙ (length-insert bs i (x, c) (subst (λ n. i ≤ n) e low) ∙ ap (λ n. n + 1) (sym e))

  pub put-most : (v : View A) (i : ℕ) (x : A) (child : Option ℕ) → most_of (with_item i x child v) ≡ most_of v
  put-most (leaf p ys) i x child = refl
  put-most (internal p first bs) i x None = refl
  put-most (internal p first bs) i x (Some c) = refl

  put-parent : (v : View A) (i : ℕ) (x : A) (child : Option ℕ) → parent_of (with_item i x child v) ≡ parent_of v
  put-parent (leaf p ys) i x child = refl
  put-parent (internal p first bs) i x None = refl
  put-parent (internal p first bs) i x (Some c) = refl

  put-there : (v : View A) (i : ℕ) (x : A) (child : Option ℕ) → i ≤ size_of v → HasChildFor child v → slice_get (items_of (with_item i x child v)) i ≡ Some x
  put-there (leaf p ys) i x child low kind = slice_get-insert ys i x low
  put-there (internal p first bs) i x None low kind = absurd (cc)
  put-there (internal p first bs) i x (Some c) low kind = in-branches bs i x c (subst (λ n. i ≤ n) (length-map bs (λ (b : A × ℕ). b.0)) low)

  put-key : (v : View A) (i : ℕ) (x : A) (child : Option ℕ) → i ≤ size_of v → HasChildFor child v → most_of v ≤ size_of v
      → split_key (with_item i x child v) ≡ split_key v
  put-key v i x child low kind full =
      let s = put-size v i x child low kind in
      let m = put-most v i x child in
      let w : View A = with_item i x child v in
      let no : nat_lt (size_of w) (most_of w) ≡ false = not-less (size_of w) (most_of w) (omega arith) in
      let was : nat_lt (size_of v) (most_of v) ≡ false = not-less (size_of v) (most_of v) full in
      ap (λ p. (p, nat_lt (size_of w) (most_of w))) (put-parent v i x child) ∙ ap (λ b. (parent_of v, b)) (no ∙ sym was)

module _ {K V : Type 0} (cmp : K → K → Ordering) (laws : IsTotalOrder cmp) (old : TreeState K V) (a : Address) (x : K × V) (child : Option ℕ) where
  module _ (put : TreeState K V) (puts : PutsItem old put a x child) where
    abbrev was : View (K × V)
    was = puts.can.node

    abbrev is : View (K × V)
    is = with_item puts.index x child was

    put-here : node_map put a.id ≡ Some is
    put-here = puts.adds.nodes.here ∙ ap (option_map (with_item puts.index x child)) puts.can.here

    larger : size_of is ≡ size_of was + 1
    larger = put-size was puts.index x child puts.can.within puts.can.kind

    pub put-valid : IsValidIn put a
    put-valid =
        let l = larger in
        let w = puts.can.within in
        inl
        (subst (λ o. IsWithin (node_map put) (node_map put a.id) o) (sym puts.offset)
        (subst (λ v. IsWithin (node_map put) v (Some puts.index)) (sym put-here) (omega arith)))

    pub put-item : item_of put a ≡ Some x
    put-item =
        ap (option_and_then (item_in (node_map put a.id))) puts.offset
        ∙ (ap (λ v. item_in v puts.index) put-here ∙ put-there was puts.index x child puts.can.within puts.can.kind)

    put-used : (n : ℕ) → times_used (node_map put n) ≡ times_used (node_map old n)
    put-used n = elim (same-or n a.id) [
      | inl same ↦
          let p = used-one (node_map put a.id) is put-here in
          let q = used-one (node_map old a.id) was puts.can.here in
          rw same (omega arith)
      | inr differs ↦ ap times_used (puts.adds.nodes.others n differs)
    ]

    pub put-as-many : IsOffByOneAt cmp put a.id → finite.len put.nodes ≡ finite.len old.nodes
    put-as-many off =
        let ids : List ℕ = numbers_under (node_map put) off.off.rooted.height off.root in
        let each : (n : ℕ) → times_listed n ids ≡ times_used (node_map put n) = off.off.rooted.once in
        len-views put.nodes ids each ∙ sym (len-views old.nodes ids (λ n. each n ∙ put-used n))

    -- a full node overflows with the item, and any other has room for it
    pub full-over : IsFull (node_map old) a.id → Overflows (node_map put) a.id
    full-over full =
        let e = same-node (node_map old) a.id full.node was full.here puts.can.here in
        let s = ap size_of e in
        let t = ap most_of e in
        let f = full.full in
        let l = larger in
        let m = put-most was puts.index x child in
        record { node = is; here = put-here; over = omega arith }

    else-room : (IsFull (node_map old) a.id → ⊥) → HasRoom (node_map put) a.id
    else-room not_full =
        let l = larger in
        let m = put-most was puts.index x child in
        elim (less-or (size_of was) (most_of was)) [
          | inl low ↦ record { node = is; here = put-here; room = omega arith }
          | inr other ↦
              let full : most_of was ≤ size_of was = elim other [ inl same ↦ omega arith | inr more ↦ omega arith ] in
              absurd (not_full (record { node = was; here = puts.can.here; full = full }))
        ]

    put-nodes : (new : TreeState K V) (b : Address) → old.root ≢ None → IsOffByOneAt cmp put a.id → IsRebalanced put new a.id cmp a b
        → (Overflows (node_map put) a.id → nodes_for_splits put a.id ≡ nodes_needed old a.id)
        → UsesNeeded old (record new { len = new.len + 1 }) a.id
    put-nodes new b rooted off r needed =
        let many = put-as-many off in
        record {
          full = λ f.
              let over = full-over f in
              let more = (r.allocated over).more in
              let n = needed over in
              omega arith;
          first = λ none. absurd (rooted none);
          room = λ some not_full. let fewer = (r.freed (else-room not_full)).fewer in omega arith;
        }

    -- the rebalanced content with the item, and the length raised
    pub put-inserted : (new : TreeState K V) (b : Address) → old.root ≢ None → IsBelowLimit old → IsOffByOneAt cmp put a.id → IsRebalanced put new a.id cmp a b
        → (Overflows (node_map put) a.id → nodes_for_splits put a.id ≡ nodes_needed old a.id)
        → InsertsExactly cmp old (record new { len = new.len + 1 }) a b x child
    put-inserted new b rooted below_limit off r needed =
        let same : new.len ≡ old.len = r.len ∙ same-len puts.adds.rest in
        record {
          below_limit = below_limit;
          tree = r.well;
          valid = r.valid;
          item = r.item x put-item;
          longer = ap (λ n. n + 1) same;
          uncounted = r.uncounted ∙ same-kept puts.adds.rest;
          nodes = put-nodes new b rooted off r needed;
          put = λ some. record {
            put = put;
            puts = puts;
            rebalanced = subst (λ n. IsRebalanced put (record new { len = n }) a.id cmp a b) same r;
            needed = needed;
          };
          first = λ none. absurd (rooted none);
        }

    -- the node has room
    module _ (room : size_of was < most_of was) where
      pub put-room : HasRoom (node_map put) a.id
      put-room = let l = larger in let m = put-most was puts.index x child in record { node = is; here = put-here; room = omega arith }

      pub no-overflow : Overflows (node_map put) a.id → nodes_for_splits put a.id ≡ nodes_needed old a.id
      no-overflow over =
          let e = same-node (node_map put) a.id over.node is over.here put-here in
          let l = larger in
          let m = put-most was puts.index x child in
          let s = ap size_of e in
          let t = ap most_of e in
          let o = over.over in
          absurd (omega arith)

  module _ (w : IsOffByOneWith cmp old a x child) where
    pub index-is : (n : ℕ) → Some n ≡ a.offset → w.puts.index ≡ n
    index-is n e = let o = w.puts.offset in let both : Some n ≡ Some w.puts.index = e ∙ o in cc

    pub add-used : IsUsed old a.id
    add-used = used-here old.nodes a.id w.puts.can.node w.puts.can.here

    pub can-add : (index : ℕ) → Some index ≡ a.offset → CanAddItem (node_map old) a.id index child
    can-add index at = subst (λ n. CanAddItem (node_map old) a.id n child) (index-is index at) w.puts.can

    -- the content with the item, by the step that puts it there
    module _ (put : TreeState K V) (index : ℕ) (offset : Some index ≡ a.offset) (adds : Changes (λ p q. AddsItem p q a.id index x child) old put) where
      abbrev pub these : PutsItem old put a x child
      these = record { index = index; offset = sym offset; can = can-add index offset; adds = adds }

      -- the node has room, by what was read of it
      pub room-at : (n : Node K V) → finite.get old.nodes a.id ≡ Some n → size_of (view_of n) < most_of (view_of n)
          → size_of these.can.node < most_of these.can.node
      room-at n at low =
          let e = same-node (node_map old) a.id (view_of n) these.can.node (ap (option_map view_of) at) these.can.here in
          let s = ap size_of e in
          let t = ap most_of e in
          omega arith

      with-index : AddsItem (node_map old) (node_map put) a.id w.puts.index x child
      with-index = subst (λ n. AddsItem (node_map old) (node_map put) a.id n x child) (sym (index-is index offset)) adds.nodes

      same-at : (n : ℕ) → node_map w.put n ≡ node_map put n
      same-at n = elim (same-or n a.id) [
        | inl same ↦ ap (node_map w.put) same ∙ (w.puts.adds.nodes.here ∙ (sym with-index.here ∙ sym (ap (node_map put) same)))
        | inr differs ↦ w.puts.adds.nodes.others n differs ∙ sym (with-index.others n differs)
      ]

      same-nodes : node_map w.put ≡ node_map put
      same-nodes = λ i n. same-at n i

      pub put-off : IsOffByOneAt cmp put a.id
      put-off =
          is-off cmp put w.off.root a.id (pairs_of w.put) (same-root adds.rest ∙ (sym (same-root w.puts.adds.rest) ∙ w.off.at_root))
          (subst (λ m. IsOffByOne cmp m w.off.root a.id (pairs_of w.put)) same-nodes w.off.off)

    -- the node is full
    module _ (full : IsFull (node_map old) a.id) where
      abbrev node : View (K × V)
      node = w.puts.can.node

      is-full : most_of node ≤ size_of node
      is-full =
          let e = same-node (node_map old) a.id full.node node full.here w.puts.can.here in
          let s = ap size_of e in
          let t = ap most_of e in
          let f = full.full in
          omega arith

      abbrev more : View (K × V)
      more = with_item w.puts.index x child node

      more-here : node_map w.put a.id ≡ Some more
      more-here = put-here w.put w.puts

      over : Overflows (node_map w.put) a.id
      over = full-over w.put w.puts full

      alike : AreSplitAlike (node_map old) (node_map w.put)
      alike n = elim (same-or n a.id) [
        | inl same ↦
            ap (λ i. option_map split_key (node_map w.put i)) same
            ∙ (ap (option_map split_key) more-here
            ∙ (ap Some (put-key node w.puts.index x child w.puts.can.within w.puts.can.kind is-full)
            ∙ (sym (ap (option_map split_key) w.puts.can.here) ∙ sym (ap (λ i. option_map split_key (node_map old i)) same))))
        | inr differs ↦ ap (option_map split_key) (w.puts.adds.nodes.others n differs)
      ]

      as-many : finite.len w.put.nodes ≡ finite.len old.nodes
      as-many = put-as-many w.put w.puts w.off

      pub old-counting : IsCountingSplits (node_map old) (finite.len old.nodes) a.id a.id 0
      old-counting =
          let s = counting cmp laws w.put a.id w.off a (put-valid w.put w.puts) over in
          subst (λ m. IsCountingSplits (node_map old) m a.id a.id 0) as-many
          (record { tree = s.tree; alike = λ n. s.alike n ∙ alike n; root = s.root; xs = s.xs; upward = s.upward; few = s.few })

      same-need : nodes_for_splits w.put a.id ≡ nodes_for_splits old a.id
      same-need = ap (λ m. split_need (node_map w.put) m a.id) as-many ∙ sym (need-alike (node_map old) (node_map w.put) alike (finite.len old.nodes) a.id)

      root-is : old.root ≡ Some w.off.root
      root-is = sym (same-root w.puts.adds.rest) ∙ w.off.at_root

      needed-is : nodes_for_splits old a.id ≡ nodes_needed old a.id
      needed-is = sym (ap (λ t. need (node_map old) t (finite.len old.nodes) a.id) root-is)

      pub put-refused : (MayRefuse : Content (Node K V) → Type 0) (new : TreeState K V) (count : ℕ) → count ≡ nodes_for_splits old a.id → Refuses old new
          → MayRefuseOneOf EMPTY MayRefuse old.nodes count → old.len < old.kept.limit → IsRefused MayRefuse a.id old new Store
      put-refused MayRefuse new count count_is refuses may room =
          (refuses, subst (λ n. MayRefuseOneOf EMPTY MayRefuse old.nodes n) (count_is ∙ needed-is) may, room)

      -- after the claims
      module _ (ids : List ℕ) (mid : TreeState K V) (claimed : AreClaimed old mid ids) (count : length ids ≡ nodes_for_splits old a.id) where
        claims : Claims (node_map old) (node_map mid) ids
        claims = subst (λ m. Claims (node_map old) (views m) ids) (sym claimed.claimed.after) (claims-focus old.nodes ids claimed.claimed.claims)

        unclaimed : times_listed a.id ids ≡ 0
        unclaimed =
            let u = used-one (node_map old a.id) node w.puts.can.here in
            let v = used-low (node_map mid a.id) in
            let c = claims.counted a.id in
            omega arith

        kept : node_map mid a.id ≡ node_map old a.id
        kept = claims.kept a.id unclaimed

        pub can-add-claimed : (index : ℕ) → Some index ≡ a.offset → CanAddItem (node_map mid) a.id index child
        can-add-claimed index at =
            let c = can-add index at in
            record { node = c.node; here = kept ∙ c.here; room = c.room; within = c.within; kind = c.kind }

        module _ (last : TreeState K V) (index : ℕ) (offset : Some index ≡ a.offset) (adds : Changes (λ p q. AddsItem p q a.id index x child) mid last) where
          added : AddsItem (node_map mid) (node_map last) a.id w.puts.index x child
          added = subst (λ n. AddsItem (node_map mid) (node_map last) a.id n x child) (sym (index-is index offset)) adds.nodes

          last-here : node_map last a.id ≡ node_map w.put a.id
          last-here = added.here ∙ (ap (option_map (with_item w.puts.index x child)) kept ∙ sym w.puts.adds.nodes.here)

          put-claims : Claims (node_map w.put) (node_map last) ids
          put-claims = record {
            counted = λ n. elim (same-or n a.id) [
              | inl same ↦
                  let e = ap times_used last-here in
                  let u = unclaimed in
                  rw same (omega arith)
              | inr differs ↦
                  let e = ap times_used (added.others n differs) in
                  let d = ap times_used (w.puts.adds.nodes.others n differs) in
                  let c = claims.counted n in
                  omega arith
            ];
            kept = λ n none. elim (same-or n a.id) [
              | inl same ↦ ap (node_map last) same ∙ (last-here ∙ sym (ap (node_map w.put) same))
              | inr differs ↦ added.others n differs ∙ (claims.kept n none ∙ sym (w.puts.adds.nodes.others n differs))
            ];
          }

          rest : KeepsRest w.put last
          rest = record { rest = ((then) claimed.rest adds.rest).rest ∙ sym (ap (with_nodes last.nodes) w.puts.adds.rest.rest) }

          pub put-splitting : IsSplitting (node_map last) last.root a.id ids a
          put-splitting = splitting cmp laws w.put a.id w.off a (put-valid w.put w.puts) over ids last put-claims rest (count ∙ sym same-need)

          pub split-inserted : (new : TreeState K V) (b : Address) → old.root ≢ None → IsBelowLimit old → SplitsUpward last new a.id ids a b → (IsSome a.offset → IsSome b.offset)
              → InsertsExactly cmp old (record new { len = new.len + 1 }) a b x child
          split-inserted new b rooted below_limit s back =
              put-inserted w.put w.puts new b rooted below_limit w.off
              (is-split cmp laws w.put a.id w.off a (put-valid w.put w.puts) over ids last put-claims rest (count ∙ sym same-need) new b s back)
              (λ full. same-need ∙ needed-is)
