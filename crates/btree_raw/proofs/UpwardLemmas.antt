-- A split upward, from the node where it began to the node that it has reached.
use Rattle.btree_raw.proofs.Common.{◌≡◌, ◌≢◌, ◌↔◌, true, false, IsTrue, ℕ, suc, ◌+◌, ◌<◌, ◌≤◌, ◌^◌, ◌-◌, inl, inr, List, [], ◌∷◌, ◌++◌, Option, Some, None, IfSome, IsSome, if◌then◌else◌, length, length-append, option_map, slice_get, refl, sym, ap, subst, ◌∙◌, arith, Address, with_item, with_parent, View, NodeMap, children_in, children_of, internal, most_of, parent_of, size_of, MayOverflowAt, IsRepaired, one, times_listed, count_at, WritesNode, Splits, times_used, get-times, one-self, less-or, same-or, used-mapped, used-one, zero-or, AddsSeparator, HasCount, IsSplitting, Overflows}
use Rattle.std.proofs.Common.{◌⊎◌, All, is_some}
use Rattle.std.proofs.lemmas.List.{nil_from_length}
use Rattle.btree_view.specs.Edits.{IsOverflowing}
use Rattle.btree_laws.specs.Moved.{moved_by_split}
use Rattle.btree_laws.specs.Place.{IsBack}
use Rattle.btree_laws.specs.Focus.Subtree.{times_under, view_at}
use Rattle.btree_laws.specs.Step.{GrowsRoot}
use Rattle.btree_laws.specs.Focus.Path.{parent_above}
use Rattle.btree_laws.proofs.Places.Backs.{split-back}
use Rattle.btree_laws.proofs.Splits.Claims.{push-spare}
use Rattle.btree_laws.proofs.Splits.Upward.{UpTo, child-apart, child-used, overflow-done, overflow-node, overflow-spare, overflow-used, new-root, root-spare, spare-apart, spare-used, to-parent}
use Rattle.btree_laws.proofs.Trees.Numbers.{none-listed, times-has, used-low}
use Rattle.btree_laws.proofs.Trees.Sizes.{view-most, view-size}
use Rattle.btree_raw.specs.OverflowSplit.{CutsNode, OverflowSplit, goes_up, grows_root, rests}
use Rattle.btree_raw.specs.declared.node_changes.Cut.{Cut}
use Rattle.btree_raw.specs.Steps.{AreSplit, CanAddSeparator, CanCut, CanGrowRoot, CanSplitInto, MayCut}
use Rattle.btree_raw.proofs.SeparatorLemmas.{one-more}
use Rattle.btree_raw.proofs.OffsetLemmas.{overflow-low}

-- each of the numbers is one of the list's
all-listed : (P : ℕ → Type 0) (ids : List ℕ) → All P ids → (n : ℕ) → 0 < times_listed n ids → P n
all-listed P [] all n some = absurd (omega arith)
all-listed P (x ∷ ids) all n some = elim (same-or n x) [
  | inl e ↦ subst P (sym e) (all 0 x (omega arith))
  | inr ne ↦ all-listed P ids (λ k d low. all (suc k) d (omega arith)) n (let o : one n x ≡ 0 = grind arith in omega arith)
]

pub back-some : {A : Type 0} (node_at : NodeMap A) (o : Option ℕ) → IsSome o → IsBack node_at o
back-some node_at None is = absurd (cc)
back-some node_at (Some o) is = tt

-- the offset of a back address is one of an item or past the end
pub some-back : {A : Type 0} (node_at : NodeMap A) (o : Option ℕ) → IsBack node_at o → IsSome o
some-back node_at None is = absurd is
some-back node_at (Some o) is = refl

-- the numbers in use stay through a split, and under a new root
split-used : {A : Type 0} (node_at new : NodeMap A) (i j : ℕ) (x : A) → Splits node_at new i j x → 0 < times_used (node_at j) → (n : ℕ) → times_used (new n) ≡ times_used (node_at n)
split-used node_at new i j x s used n = elim (same-or n i) [
  | inl e ↦ let a = used-one (new i) s.left s.at_left in let b = used-one (node_at i) s.node s.here in rw e (omega arith)
  | inr ni ↦ elim (same-or n j) [
    | inl e ↦ let a = used-one (new j) s.right s.at_right in let b = used-low (node_at j) in rw e (omega arith)
    | inr nj ↦ elim (zero-or (times_listed n (children_of s.right))) [
      | inl z ↦ ap times_used (s.kept n ni nj z)
      | inr p ↦ ap times_used (s.moved n ni nj p) ∙ used-mapped (with_parent (Some j)) (node_at n)
    ]
  ]
]

-- a written node is as often in use as before
pub put-used : {A : Type 0} (node_at new : NodeMap A) (p : ℕ) (u v : View A) → node_at p ≡ Some u → WritesNode node_at new p v → (n : ℕ) → times_used (new n) ≡ times_used (node_at n)
put-used node_at new p u v was put n = elim (same-or n p) [
  | inl e ↦ let a = used-one (new p) v put.here in let b = used-one (node_at p) u was in rw e (omega arith)
  | inr ne ↦ ap times_used (put.others n ne)
]

grow_root-used : {A : Type 0} (node_at new : NodeMap A) (i j r : ℕ) (x : A) → GrowsRoot node_at new i j r x → 0 < times_used (node_at r) → (n : ℕ) → times_used (new n) ≡ times_used (node_at n)
grow_root-used node_at new i j r x s used n = elim (same-or n r) [
  | inl e ↦ let a = used-one (new r) (internal None i ((x, j) ∷ [])) s.root in let b = used-low (node_at r) in rw e (omega arith)
  | inr nr ↦ elim (same-or n i) [
    | inl e ↦ rw e (ap times_used s.at_left ∙ used-mapped (with_parent (Some r)) (node_at i))
    | inr ni ↦ elim (same-or n j) [
      | inl e ↦ rw e (ap times_used s.at_right ∙ used-mapped (with_parent (Some r)) (node_at j))
      | inr nj ↦ ap times_used (s.kept n nr ni nj)
    ]
  ]
]

module _ (A : Type 0) (old now : NodeMap A) (root : Option ℕ) (start id : ℕ) (spare rest : List ℕ) (a b : Address) where
  -- what held for the tree at the start holds at the node that the splits have reached, with as many nodes allocated as
  -- numbers used; and what the order of the cuts makes of the nodes from here on, it makes of those at the start
  pub record SplitUpTo : Type 0 where
    pub taken : ℕ
    pub counted : taken + length rest ≡ length spare
    pub next : (top : ℕ) (xs : List A) (expected : Option A) (place allocated bound : ℕ) → root ≡ Some top
        → MayOverflowAt A old top xs start spare expected a place allocated bound → MayOverflowAt A now top xs id rest expected b place (allocated + taken) bound
    pub used : (n : ℕ) → times_used (now n) ≡ times_used (old n)
    pub order : (top : ℕ) → root ≡ Some top → (new : NodeMap A) (new_root : Option ℕ) → OverflowSplit top new new_root now id rest → OverflowSplit top new new_root old start spare
    pub back : IsSome a.offset → IsSome b.offset
    pub low : (n : ℕ) → 0 < times_listed n rest → n < 2 ^ 64 - 1

-- before the first split nothing has moved
pub upward-start : (A : Type 0) (node_at : NodeMap A) (root : Option ℕ) (start : ℕ) (spare : List ℕ) (a : Address) → All (λ n. n < 2 ^ 64 - 1) spare → SplitUpTo A node_at node_at root start start spare spare a a
upward-start A node_at root start spare a low = record {
  taken = 0;
  counted = omega arith;
  next = λ top xs expected place allocated bound is g. let e : allocated ≡ allocated + 0 = omega arith in subst (λ n. MayOverflowAt A node_at top xs start spare expected a place n bound) e g;
  used = λ n. refl;
  order = λ top is new new_root cuts. cuts;
  back = λ x. x;
  low = all-listed (λ n. n < 2 ^ 64 - 1) spare low;
}

module _ (A : Type 0) (old now : NodeMap A) (root : Option ℕ) (start id : ℕ) (spare rest : List ℕ) (a b : Address) (s : IsSplitting old root start spare a) (c : SplitUpTo A old now root start id spare rest a b) where
  here : MayOverflowAt A now s.top s.xs id rest s.expected b s.place (s.allocated + c.taken) s.bound
  here = c.next s.top s.xs s.expected s.place s.allocated s.bound s.at_root s.overflow

  pub upward-used : 0 < times_used (now id)
  upward-used = overflow-used A now s.top s.xs id rest s.expected b s.place (s.allocated + c.taken) s.bound here

  -- the offset of the address is small
  pub upward-offset : IfSome b.offset (λ n. n + 1 < 2 ^ 64 - 1)
  upward-offset = overflow-low A now s.top s.xs id rest s.expected b s.place (s.allocated + c.taken) s.bound here

  module _ (v : View A) (e : now id ≡ Some v) where
    -- the splits end: no number is left
    none-left : size_of v ≤ most_of v → length rest ≡ 0
    none-left low =
        let at = overflow-node A now s.top s.xs id rest s.expected b s.place (s.allocated + c.taken) s.bound here in
        let is : v ≡ view_at A here.focus.height (parent_above here.focus.path) here.focus.subtree = cc in
        let z : size_of v ≡ count_at A here.focus.height here.focus.subtree = ap size_of is ∙ view-size A here.focus.height (parent_above here.focus.path) here.focus.subtree in
        let m = ap most_of is ∙ view-most A here.focus.height (parent_above here.focus.path) here.focus.subtree in
        here.none (omega arith)

    pub upward-none-left : size_of v ≤ most_of v → rest ≡ []
    upward-none-left low = nil_from_length rest (none-left low)

    -- the splits are done where a node has room
    pub upward-done : size_of v ≤ most_of v → AreSplit old now root root start spare a b
    upward-done low =
        let z = none-left low in
        let k = c.counted in
        let t : c.taken ≡ length spare = omega arith in
        record {
          top = s.top;
          at_root = s.at_root;
          repaired = λ top xs expected place allocated bound is g.
              let same : top ≡ s.top = (let w = s.at_root in cc) in
              subst (λ r. IsRepaired A now r xs expected b place (allocated + length spare) bound) same
              (subst (λ n. IsRepaired A now top xs expected b place (allocated + n) bound) t
              (overflow-done A now top xs id rest expected b place (allocated + c.taken) bound (c.next top xs expected place allocated bound is g) v e low));
          order = λ top is. c.order top is now root
              (rests now id rest (record { node = v; here = e; room = low; same = refl }) (nil_from_length rest z) is);
        }

    module _ (lt : most_of v < size_of v) where
      -- a node without room has a claimed number left for its split
      pub upward-left : 0 < length rest
      upward-left = overflow-spare A now s.top s.xs id rest s.expected b s.place (s.allocated + c.taken) s.bound here v e lt

      module _ (more : List ℕ) (j : ℕ) (is : rest ≡ more ++ j ∷ []) where
        ps : ((n : ℕ) → times_listed n rest ≡ one n j + times_listed n more) × (length rest ≡ suc (length more))
        ps = push-spare rest more j is

        j-used : 0 < times_used (now j)
        j-used = spare-used A now s.top s.xs id rest s.expected b s.place (s.allocated + c.taken) s.bound here v e lt more j ps.0 ps.1

        j-apart : j ≢ id
        j-apart = spare-apart A now s.top s.xs id rest s.expected b s.place (s.allocated + c.taken) s.bound here v e lt more j ps.0 ps.1

        pub upward-number-right : j < 2 ^ 64 - 1
        upward-number-right = c.low j (let q = ps.0 j in let o = one-self j in omega arith)

        pub upward-split : CanSplitInto now id j
        upward-split =
            let kids : children_in (now id) ≡ children_of v = ap children_in e in
            let ca = child-apart A now s.top s.xs id rest s.expected b s.place (s.allocated + c.taken) s.bound here v e lt more j ps.0 ps.1 in
            record {
              can = record { node = v; here = e; over = lt };
              right_used = j-used;
              apart = j-apart;
              children = λ n some. child-used A now s.top s.xs id rest s.expected b s.place (s.allocated + c.taken) s.bound here v e lt more j ps.0 ps.1 n (subst (λ ids. 0 < times_listed n ids) kids some);
              children_apart = rw kids ca;
            }

        module _ (mid : NodeMap A) (x : A) (kept : ℕ) (sp : Splits now mid id j x) (leaves : HasCount mid id kept) where
          kept-is : size_of sp.left ≡ kept
          kept-is = let q : Some (size_of sp.left) ≡ Some kept = sym (ap (option_map size_of) sp.at_left) ∙ leaves in cc

          mid-used : (n : ℕ) → times_used (mid n) ≡ times_used (now n)
          mid-used n = split-used now mid id j x sp j-used n

          v-over : IsOverflowing sp.node
          v-over = let w = sp.here in let same : v ≡ sp.node = cc in subst (λ u. IsOverflowing u) same lt

          -- the cut that was made
          the-cut : (o : Option ℕ) → parent_of v ≡ o → CutsNode now mid id rest more o kept x j
          the-cut o up = record { named = ap (option_map parent_of) e ∙ ap Some up; last = is; splits = sp; over = v-over; leaves = leaves }

          moved-back : (p k : ℕ) → IsSome b.offset → IsSome (moved_by_split id j p k kept b).offset
          moved-back p k is = some-back now (moved_by_split id j p k kept b).offset (split-back now id j p k kept b (back-some now b.offset is))

          module _ (p : ℕ) (up : parent_of v ≡ Some p) where
            to : UpTo A now s.top s.xs id rest s.expected b s.place (s.allocated + c.taken) s.bound here v e lt more j ps.0 ps.1 mid x sp p
            to = to-parent A now s.top s.xs id rest s.expected b s.place (s.allocated + c.taken) s.bound here v e lt more j ps.0 ps.1 mid x sp p up

            pub upward-insert_separator : CanAddSeparator mid p id
            upward-insert_separator = record {
              node = to.node;
              here = to.here;
              inner = to.inner;
              room = let r = to.room in let m = (one-more to.node to.inner).1 in omega arith;
              child = get-times (children_of to.node) to.index id to.child;
            }

            pub upward-next : (new : NodeMap A) (k : ℕ) → AddsSeparator mid new p id j k x → SplitUpTo A old new root start p spare more a (moved_by_split id j p k kept b)
            upward-next new k l = record {
              taken = suc c.taken;
              counted = let q = c.counted in let f = ps.1 in omega arith;
              next = λ top xs expected place allocated bound at g.
                  let g1 = c.next top xs expected place allocated bound at g in
                  let t = to-parent A now top xs id rest expected b place (allocated + c.taken) bound g1 v e lt more j ps.0 ps.1 mid x sp p up in
                  let same : l.node ≡ t.node = (let w1 = l.here in let w2 = t.here in cc) in
                  let n : suc (allocated + c.taken) ≡ allocated + suc c.taken = omega arith in
                  subst (λ m. MayOverflowAt A new top xs p more expected (moved_by_split id j p k kept b) place m bound) n
                  (subst (λ m. MayOverflowAt A new top xs p more expected (moved_by_split id j p k m b) place (suc (allocated + c.taken)) bound) kept-is
                  (t.next new k (subst (λ u. slice_get (children_of u) k ≡ Some id) same l.child) (subst (λ u. WritesNode mid new p (with_item k x (Some j) u)) same l.writes_node)));
              used = λ n. put-used mid new p l.node (with_item k x (Some j) l.node) l.here l.writes_node n ∙ (mid-used n ∙ c.used n);
              order = λ top at last last_root cuts. c.order top at last last_root (goes_up now mid new id p kept j k x rest more (the-cut (Some p) up) l cuts);
              back = λ is. moved-back p k (c.back is);
              low = λ n some. c.low n (let q = ps.0 n in omega arith);
            }

          -- the node is the root
          module _ (up : parent_of v ≡ None) where
            alone : length more ≡ 1
            alone = (root-spare A now s.top s.xs id rest s.expected b s.place (s.allocated + c.taken) s.bound here v e lt more j ps.0 ps.1 mid x sp up).1

            pub upward-left-root : 0 < length more
            upward-left-root = let q = alone in omega arith

            module _ (none : List ℕ) (r : ℕ) (is2 : more ≡ none ++ r ∷ []) where
              qs : ((n : ℕ) → times_listed n more ≡ one n r + times_listed n none) × (length more ≡ suc (length none))
              qs = push-spare more none r is2

              pub upward-none-left-root : none ≡ []
              upward-none-left-root = nil_from_length none (let y = qs.1 in let w = alone in omega arith)

              r-listed : times_listed r rest ≡ one r j + (1 + times_listed r none)
              r-listed = let x1 = ps.0 r in let x2 = qs.0 r in let x3 = one-self r in omega arith

              sum : times_under A here.focus.height r here.focus.subtree + times_listed r rest ≤ 1
              sum = let o = here.focus.whole.once r in let k = used-low (now r) in omega arith

              r-used : 0 < times_used (mid r)
              r-used = let o = here.focus.whole.once r in let l = r-listed in let m = mid-used r in omega arith

              pub upward-number : r < 2 ^ 64 - 1
              upward-number = c.low r (let l = r-listed in omega arith)

              pub upward-grow_root : CanGrowRoot mid id j r
              upward-grow_root = record {
                left_used = let u = used-one (mid id) sp.left sp.at_left in omega arith;
                right_used = let u = used-one (mid j) sp.right sp.at_right in omega arith;
                root_used = r-used;
                apart = (
                  (λ q. j-apart (sym q)),
                  (λ q.
                      let t : one r id ≤ times_under A here.focus.height r here.focus.subtree = subst (λ m. one r m ≤ times_under A here.focus.height r here.focus.subtree) here.focus.here (times-has A here.focus.height r here.focus.subtree) in
                      let o : one r id ≡ 1 = subst (λ m. one r m ≡ 1) (sym q) (one-self r) in
                      let l = r-listed in let m = sum in omega arith),
                  (λ q.
                      let o : one r j ≡ 1 = subst (λ m. one r m ≡ 1) (sym q) (one-self r) in
                      let l = r-listed in let m = sum in omega arith),
                );
              }

              module _ (new : NodeMap A) (ra : GrowsRoot mid new id j r x) where
                pub upward-used-end : (n : ℕ) → times_used (new n) ≡ times_used (old n)
                upward-used-end n = grow_root-used mid new id j r x ra r-used n ∙ (mid-used n ∙ c.used n)

                pub upward-root : AreSplit old new root (Some r) start spare a (moved_by_split id j r 0 kept b)
                upward-root = record {
                  top = r;
                  at_root = refl;
                  repaired = λ top xs expected place allocated bound at g.
                      let g1 = c.next top xs expected place allocated bound at g in
                      let only : (n : ℕ) → times_listed n more ≡ one n r = λ n. let q = qs.0 n in let z = none-listed none (let y = qs.1 in let w = alone in omega arith) n in omega arith in
                      let t = new-root A now top xs id rest expected b place (allocated + c.taken) bound g1 v e lt more j ps.0 ps.1 mid x sp up r only new ra in
                      let n : suc (suc (allocated + c.taken)) ≡ allocated + length spare = (let q1 = c.counted in let q2 = ps.1 in let q3 = alone in omega arith) in
                      subst (λ m. IsRepaired A new r xs expected (moved_by_split id j r 0 kept b) place m bound) n
                      (subst (λ m. IsRepaired A new r xs expected (moved_by_split id j r 0 m b) place (suc (suc (allocated + c.taken))) bound) kept-is t);
                  order = λ top at. c.order top at new (Some r) (grows_root now mid id kept j r x rest
                      (subst (λ l. CutsNode now mid id rest l None kept x j) (is2 ∙ ap (λ l. l ++ r ∷ []) upward-none-left-root) (the-cut None up)) ra refl);
                }

                pub upward-back-end : IsSome a.offset → IsSome (moved_by_split id j r 0 kept b).offset
                upward-back-end is = moved-back r 0 (c.back is)

-- what the test of a node returns
pub is-over : {A : Type 0} (v : View A) → (IsTrue true ↔ IsOverflowing v) → IsOverflowing v
is-over v e = e.0 refl

pub not-over : {A : Type 0} (v : View A) → (IsTrue false ↔ IsOverflowing v) → size_of v ≤ most_of v
not-over v e = elim (nat-or (size_of v) (most_of v)) [ inl low ↦ low | inr over ↦ let q : false ≡ true = e.1 over in absurd (cc) ]
  where
    nat-or : (m n : ℕ) → (m ≤ n) ⊎ (n < m)
    nat-or m n = elim (less-or m n) [ inl low ↦ inl (omega arith) | inr other ↦ elim other [ inl same ↦ inl (omega arith) | inr more ↦ inr more ] ]

-- a node that the splits have reached can be cut, if it has an item too many
pub can-cut : (A : Type 0) (old now : NodeMap A) (root : Option ℕ) (start id : ℕ) (spare rest : List ℕ) (a b : Address) → IsSplitting old root start spare a
    → SplitUpTo A old now root start id spare rest a b → Overflows now id → CanCut now id rest
can-cut A old now root start id spare rest a b s c over = record {
  some = upward-left A old now root start id spare rest a b s c over.node over.here over.over;
  into = upward-split A old now root start id spare rest a b s c over.node over.here over.over;
  low = upward-number-right A old now root start id spare rest a b s c over.node over.here over.over;
}

-- a cut uses one claimed number
pub cut-length : {K V : Type 0} (node_at new : NodeMap (K × V)) (id : ℕ) (spare rest : List ℕ) (cut : Option (Cut K V)) → MayCut node_at new id spare rest cut
    → length rest + (if is_some cut then 1 else 0) ≤ length spare
cut-length node_at new id spare rest (Some cut) may =
    let n = ap length may.last in let m = length-append rest (cut.right ∷ []) in omega arith
cut-length node_at new id spare rest None may = let n = ap length may.1 in omega arith

-- the state of the splits at a node that was cut, if it had an item too many
module _ {K V : Type 0} (old now : NodeMap (K × V)) (root : Option ℕ) (start id : ℕ) (spare rest : List ℕ) (a b : Address) (cut : Option (Cut K V)) where
  -- the splits have reached a node, which then was cut
  pub record ReachesCut : Type 0 where
    pub whole : NodeMap (K × V)
    pub before : List ℕ
    pub up_to : SplitUpTo (K × V) old whole root start id spare before a b
    pub cuts : MayCut whole now id before rest cut

-- the splits go on from a node that was cut
module _ {K V : Type 0} (old now : NodeMap (K × V)) (root : Option ℕ) (start id : ℕ) (spare rest : List ℕ) (a b : Address) (s : IsSplitting old root start spare a)
    (cut : Cut K V) (r : ReachesCut old now root start id spare rest a b (Some cut)) where
  named : parent_of r.cuts.splits.node ≡ cut.parent
  named = let q : Some (parent_of r.cuts.splits.node) ≡ Some cut.parent = sym (ap (option_map parent_of) r.cuts.splits.here) ∙ r.cuts.named in cc

  pub reached-offset : IfSome b.offset (λ n. n + 1 < 2 ^ 64 - 1)
  reached-offset = upward-offset (K × V) old r.whole root start id spare r.before a b s r.up_to

  -- below another node
  module _ (above : ℕ) (is : cut.parent ≡ Some above) where
    pub reached-separator : CanAddSeparator now above id
    reached-separator =
        upward-insert_separator (K × V) old r.whole root start id spare r.before a b s r.up_to r.cuts.splits.node r.cuts.splits.here r.cuts.over rest cut.right
        r.cuts.last now cut.median cut.kept r.cuts.splits r.cuts.leaves above (named ∙ is)

    pub reached-next : (new : NodeMap (K × V)) (k : ℕ) → AddsSeparator now new above id cut.right k cut.median
        → SplitUpTo (K × V) old new root start above spare rest a (moved_by_split id cut.right above k cut.kept b)
    reached-next =
        upward-next (K × V) old r.whole root start id spare r.before a b s r.up_to r.cuts.splits.node r.cuts.splits.here r.cuts.over rest cut.right
        r.cuts.last now cut.median cut.kept r.cuts.splits r.cuts.leaves above (named ∙ is)

    pub reached-cut : (new : NodeMap (K × V)) (k : ℕ) → AddsSeparator now new above id cut.right k cut.median → Overflows new above → CanCut new above rest
    reached-cut new k adds over =
        can-cut (K × V) old new root start above spare rest a (moved_by_split id cut.right above k cut.kept b) s (reached-next new k adds) over

  -- at the root
  module _ (is : cut.parent ≡ None) where
    pub reached-root-left : 0 < length rest
    reached-root-left =
        upward-left-root (K × V) old r.whole root start id spare r.before a b s r.up_to r.cuts.splits.node r.cuts.splits.here r.cuts.over rest cut.right
        r.cuts.last now cut.median cut.kept r.cuts.splits r.cuts.leaves (named ∙ is)

    module _ (more : List ℕ) (top : ℕ) (last : rest ≡ more ++ top ∷ []) where
      pub reached-none-left : more ≡ []
      reached-none-left =
          upward-none-left-root (K × V) old r.whole root start id spare r.before a b s r.up_to r.cuts.splits.node r.cuts.splits.here r.cuts.over rest cut.right
          r.cuts.last now cut.median cut.kept r.cuts.splits r.cuts.leaves (named ∙ is) more top last

      pub reached-number : top < 2 ^ 64 - 1
      reached-number =
          upward-number (K × V) old r.whole root start id spare r.before a b s r.up_to r.cuts.splits.node r.cuts.splits.here r.cuts.over rest cut.right
          r.cuts.last now cut.median cut.kept r.cuts.splits r.cuts.leaves (named ∙ is) more top last

      pub reached-grow_root : CanGrowRoot now id cut.right top
      reached-grow_root =
          upward-grow_root (K × V) old r.whole root start id spare r.before a b s r.up_to r.cuts.splits.node r.cuts.splits.here r.cuts.over rest cut.right
          r.cuts.last now cut.median cut.kept r.cuts.splits r.cuts.leaves (named ∙ is) more top last

      module _ (new : NodeMap (K × V)) (grows : GrowsRoot now new id cut.right top cut.median) where
        pub reached-used : (n : ℕ) → times_used (new n) ≡ times_used (old n)
        reached-used =
            upward-used-end (K × V) old r.whole root start id spare r.before a b s r.up_to r.cuts.splits.node r.cuts.splits.here r.cuts.over rest cut.right
            r.cuts.last now cut.median cut.kept r.cuts.splits r.cuts.leaves (named ∙ is) more top last new grows

        pub reached-root : AreSplit old new root (Some top) start spare a (moved_by_split id cut.right top 0 cut.kept b)
        reached-root =
            upward-root (K × V) old r.whole root start id spare r.before a b s r.up_to r.cuts.splits.node r.cuts.splits.here r.cuts.over rest cut.right
            r.cuts.last now cut.median cut.kept r.cuts.splits r.cuts.leaves (named ∙ is) more top last new grows

        pub reached-back : IsSome a.offset → IsSome (moved_by_split id cut.right top 0 cut.kept b).offset
        reached-back =
            upward-back-end (K × V) old r.whole root start id spare r.before a b s r.up_to r.cuts.splits.node r.cuts.splits.here r.cuts.over rest cut.right
            r.cuts.last now cut.median cut.kept r.cuts.splits r.cuts.leaves (named ∙ is) more top last new grows
