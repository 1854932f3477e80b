-- The children that the walk of the validator has passed make a part that suits.
use Rattle.btree_valid.proofs.Common.{◌≡◌, ◌≤◌, ◌<◌, ◌∷◌, ◌++◌, [], ◌-◌, ℕ, suc, inl, inr, List, length, map, Option, Some, None, Result, Ok, refl, sym, subst, arith, IsTotalOrder, AllByRecursion, keys_of, ⊤, IfSome, IsFalse, Ordering, Less, Fault, FirstFailed, IsNodeVerdict, PassesCheck, is_judged_as_root, node_faults, NodeMap, View, items_of, most_of, parent_of, size_of, Holds, IsFilled, Subtree, count_at, items_under, later_items, Rises, rises, AreBetween, Suits, least_between, AreSized, IsSizedNode, PassesNode, Exempt, IsFilledBelow, IsNearlySized, times_under, zero-or, same-or, one-other, leaf, internal, ◌∙◌}
use Rattle.std.proofs.Common.{append-nil}
use Rattle.std.proofs.lemmas.Map.Entries.{length-keys_of}
use Rattle.std.specs.Prelude.{IsTrue, slice_get}
use Rattle.btree_view.specs.Checks.{BeginsAbove, EndsBelow}
use Rattle.btree_laws.proofs.Paths.Frames.{AllByRecursion-append}
use Rattle.btree_valid.proofs.SuitsLemmas.{AreSizedRow}
use Rattle.btree_valid.proofs.VerdictLemmas.{least-one}

-- if the answer is Ok, each check passed
all-passed : (Passes : Fault → Type 0) (faults : List Fault) (answer : Result ⊤ Fault) → answer ≡ Ok tt → FirstFailed Passes faults answer → AllByRecursion Passes faults
all-passed Passes [] answer ok is = tt
all-passed Passes (fault ∷ later) answer ok (inl failed) = let err = failed.1 in absurd (cc)
all-passed Passes (fault ∷ later) answer ok (inr passed) = (passed.0, all-passed Passes later answer ok passed.1)

module _ {K : Type 0} where
  least-filled : (min max : Option K) (n : ℕ) → (IsFalse (is_judged_as_root min max) → 3 ≤ n) → (IsTrue (is_judged_as_root min max) → 0 < n) → least_between min max ≤ n
  least-filled None None n f g = g refl
  least-filled None (Some k) n f g = f refl
  least-filled (Some k) max n f g = f refl

module _ {K V : Type 0} (cmp : K → K → Ordering) (exempt : Option Exempt) (node_at : NodeMap (K × V)) (h : ℕ) (parent : Option ℕ) where
  -- each child suits between the keys around it
  abbrev pub RowSuits : (min max : Option K) (first : Subtree (K × V) h) (row : List ((K × V) × Subtree (K × V) h)) → Type 0
  RowSuits min max first [] = Suits exempt cmp min max node_at parent h first
  RowSuits min max first (b ∷ row) = Suits exempt cmp min (Some b.0.0) node_at parent h first × RowSuits (Some b.0.0) max b.1 row

module _ {K V : Type 0} (cmp : K → K → Ordering) (laws : IsTotalOrder cmp) where
  pub above-all : (m : K) (x : K × V) (xs : List (K × V)) → cmp m x.0 ≡ Less → AllByRecursion (λ y. cmp x.0 y.0 ≡ Less) xs → AllByRecursion (λ y. cmp m y.0 ≡ Less) xs
  above-all m x [] less all = tt
  above-all m x (y ∷ xs) less all = (laws.trans m x.0 y.0 less all.0, above-all m x xs less all.1)

  below-all : (m : K) (x : K × V) (xs : List (K × V)) → cmp x.0 m ≡ Less → AllByRecursion (λ y. cmp y.0 x.0 ≡ Less) xs → AllByRecursion (λ y. cmp y.0 m ≡ Less) xs
  below-all m x [] less all = tt
  below-all m x (y ∷ xs) less all = (laws.trans y.0 x.0 m all.0 less, below-all m x xs less all.1)

  -- rising pairs, a pair above them, and pairs above that one
  rises-join : (xs : List (K × V)) (x : K × V) (ys : List (K × V)) → Rises cmp xs → AllByRecursion (λ y. cmp y.0 x.0 ≡ Less) xs → Rises cmp (x ∷ ys) → Rises cmp (xs ++ x ∷ ys)
  rises-join [] x ys up below later = later
  rises-join (y ∷ xs) x ys up below later = (
    AllByRecursion-append (λ z. cmp y.0 z.0 ≡ Less) xs (x ∷ ys) up.0 (below.0, above-all y.0 x ys below.0 later.0),
    rises-join xs x ys up.1 below.1 later,
  )

  -- the first key decides for a lower bound, the last for an upper one
  begins-all : (min : Option K) (xs : List (K × V)) → Rises cmp xs → BeginsAbove cmp min (keys_of xs) → IfSome min (λ m. AllByRecursion (λ x. cmp m x.0 ≡ Less) xs)
  begins-all None xs up is = tt
  begins-all (Some m) [] up is = tt
  begins-all (Some m) (x ∷ xs) up is = (is, above-all m x xs is up.0)

  last-all : (m : K) (xs : List (K × V)) → Rises cmp xs → IfSome (slice_get (keys_of xs) (length (keys_of xs) - 1)) (λ k. cmp k m ≡ Less) → AllByRecursion (λ x. cmp x.0 m ≡ Less) xs
  last-all m [] up is = tt
  last-all m (x ∷ []) up is =
      let at : length (keys_of (x ∷ [])) - 1 ≡ 0 = omega arith in
      (subst (λ i. IfSome (slice_get (x.0 ∷ []) i) (λ k. cmp k m ≡ Less)) at is, tt)
  last-all m (x ∷ y ∷ xs) up is =
      let n : ℕ = length (keys_of xs) in
      let at : suc (suc n) - 1 ≡ suc (suc n - 1) = omega arith in
      let rest = last-all m (y ∷ xs) up.1 (subst (λ i. IfSome (slice_get (x.0 ∷ y.0 ∷ keys_of xs) i) (λ k. cmp k m ≡ Less)) at is) in
      (laws.trans x.0 y.0 m up.0.0 rest.0, rest)

  pub ends-all : (max : Option K) (xs : List (K × V)) → Rises cmp xs → EndsBelow cmp max (keys_of xs) → IfSome max (λ m. AllByRecursion (λ x. cmp x.0 m ≡ Less) xs)
  ends-all None xs up is = tt
  ends-all (Some m) xs up is = last-all m xs up is

  -- what the checks of a node say
  pub checked : (id : ℕ) (parent : Option ℕ) (min max : Option K) (v : View (K × V)) (answer : Result ⊤ Fault) → answer ≡ Ok tt → IsNodeVerdict cmp parent min max v answer → PassesNode cmp None id parent min max v
  checked id parent min max v answer ok verdict =
      let p = all-passed (PassesCheck cmp parent min max (parent_of v) (most_of v) (keys_of (items_of v))) node_faults answer ok verdict in
      let count = length-keys_of (items_of v) in
      let up = rises cmp (items_of v) p.1.1.1.1.0 in
      record {
        parent_is = p.0;
        sized = (
          least-filled min max (size_of v) (λ no. let three = p.1.1.0 no in omega arith) (λ yes. let some = p.1.1.1.0 yes in omega arith),
          let most = p.1.0 in omega arith,
        );
        ascends = p.1.1.1.1.0;
        between = record { above = begins-all min (items_of v) up p.1.1.1.1.1.0; below = ends-all max (items_of v) up p.1.1.1.1.1.1.0 };
      }

  module _ (exempt : Option Exempt) (node_at : NodeMap (K × V)) (h : ℕ) (parent : Option ℕ) where
    abbrev keys_in : List ((K × V) × Subtree (K × V) h) → List (K × V)
    keys_in row = map {B = K × V} (λ b. b.0) row

    -- so all of them are in order, and between the separators of the node
    pub record AreJoined (min max : Option K) (first : Subtree (K × V) h) (row : List ((K × V) × Subtree (K × V) h)) : Type 0 where
      pub rise : Rises cmp (items_under (K × V) h first ++ later_items (K × V) h row)
      pub between : AreBetween cmp min max (items_under (K × V) h first ++ later_items (K × V) h row)
      pub holds : Holds (K × V) node_at h parent first × AllByRecursion (λ b. Holds (K × V) node_at h parent b.1) row

    both-append : (P : K → K × V → Type 0) (m : Option K) (xs ys : List (K × V)) → IfSome m (λ k. AllByRecursion (P k) xs) → IfSome m (λ k. AllByRecursion (P k) ys) → IfSome m (λ k. AllByRecursion (P k) (xs ++ ys))
    both-append P None xs ys f g = tt
    both-append P (Some k) xs ys f g = AllByRecursion-append (P k) xs ys f g

    above-later : (min : Option K) (x : K × V) (xs more : List (K × V)) → IfSome min (λ m. AllByRecursion (λ y. cmp m y.0 ≡ Less) (x ∷ more)) → AllByRecursion (λ y. cmp x.0 y.0 ≡ Less) xs → IfSome min (λ m. AllByRecursion (λ y. cmp m y.0 ≡ Less) (x ∷ xs))
    above-later None x xs more f all = tt
    above-later (Some m) x xs more f all = (f.0, above-all m x xs f.0 all)

    below-earlier : (max : Option K) (x : K × V) (xs more : List (K × V)) → IfSome max (λ m. AllByRecursion (λ y. cmp y.0 m ≡ Less) (x ∷ more)) → AllByRecursion (λ y. cmp y.0 x.0 ≡ Less) xs → IfSome max (λ m. AllByRecursion (λ y. cmp y.0 m ≡ Less) xs)
    below-earlier None x xs more f all = tt
    below-earlier (Some m) x xs more f all = below-all m x xs f.0 all

    head-below : (max : Option K) (x : K × V) (more ys : List (K × V)) → IfSome max (λ m. AllByRecursion (λ y. cmp y.0 m ≡ Less) (x ∷ more)) → IfSome max (λ m. AllByRecursion (λ y. cmp y.0 m ≡ Less) ys) → IfSome max (λ m. AllByRecursion (λ y. cmp y.0 m ≡ Less) (x ∷ ys))
    head-below None x more ys f g = tt
    head-below (Some m) x more ys f g = (f.0, g)

    tail-below : (max : Option K) (x : K × V) (more : List (K × V)) → IfSome max (λ m. AllByRecursion (λ y. cmp y.0 m ≡ Less) (x ∷ more)) → IfSome max (λ m. AllByRecursion (λ y. cmp y.0 m ≡ Less) more)
    tail-below None x more f = tt
    tail-below (Some m) x more f = f.1

    pub join : (min max : Option K) (first : Subtree (K × V) h) (row : List ((K × V) × Subtree (K × V) h)) → Rises cmp (keys_in row) → AreBetween cmp min max (keys_in row) → RowSuits cmp exempt node_at h parent min max first row → AreJoined min max first row
    join min max first [] up between s =
        let same : items_under (K × V) h first ≡ items_under (K × V) h first ++ [] = sym (append-nil (items_under (K × V) h first)) in
        record {
          rise = subst (Rises cmp) same (rises cmp (items_under (K × V) h first) s.ascends);
          between = subst (AreBetween cmp min max) same s.between;
          holds = (s.holds, tt);
        }
    join min max first (b ∷ row) up between s =
        let rest = join (Some b.0.0) max b.1 row up.1 (record { above = up.0; below = tail-below max b.0 (keys_in row) between.below }) s.1 in
        let later : List (K × V) = items_under (K × V) h b.1 ++ later_items (K × V) h row in
        record {
          rise = rises-join (items_under (K × V) h first) b.0 later (rises cmp (items_under (K × V) h first) s.0.ascends) s.0.between.below (rest.between.above, rest.rise);
          between = record {
            above = both-append (λ m x. cmp m x.0 ≡ Less) min (items_under (K × V) h first) (b.0 ∷ later) s.0.between.above (above-later min b.0 later (keys_in row) between.above rest.between.above);
            below = both-append (λ m x. cmp x.0 m ≡ Less) max (items_under (K × V) h first) (b.0 ∷ later) (below-earlier max b.0 (items_under (K × V) h first) (keys_in row) between.below s.0.between.below)
                (head-below max b.0 (keys_in row) later between.below rest.between.below);
          };
          holds = (s.0.holds, rest.holds);
        }

module _ {K V : Type 0} (cmp : K → K → Ordering) (node_at : NodeMap (K × V)) (h : ℕ) (parent : Option ℕ) where
  -- after a key, each child has three items or more
  later-filled : (key : K) (max : Option K) (first : Subtree (K × V) h) (row : List ((K × V) × Subtree (K × V) h)) → RowSuits cmp None node_at h parent (Some key) max first row → AreSizedRow h node_at None first row
  later-filled key max first [] s = (s.sized.0, s.sized.1, tt)
  later-filled key max first (b ∷ row) s = let r = later-filled b.0.0 max b.1 row s.1 in (s.0.sized.0, s.0.sized.1, ((r.0, r.1), r.2))

  first-filled : (min : Option K) (key : K) (first : Subtree (K × V) h) → Suits None cmp min (Some key) node_at parent h first → IsFilled 3 h (count_at (K × V) h first) × IsFilledBelow (K × V) h first
  first-filled None key first s = s.sized
  first-filled (Some m) key first s = s.sized

  -- children that suit have their numbers of items, if there is a key, or a node is exempt
  pub row-sized : (exempt : Option Exempt) (min max : Option K) (first : Subtree (K × V) h) (row : List ((K × V) × Subtree (K × V) h)) → (exempt ≡ None → 0 < length row) → RowSuits cmp exempt node_at h parent min max first row → AreSizedRow h node_at exempt first row
  row-sized None min max first [] some s = let z = some refl in absurd (omega arith)
  row-sized None min max first (b ∷ row) some s = let f = first-filled min b.0.0 first s.0 in let r = later-filled b.0.0 max b.1 row s.1 in (f.0, f.1, ((r.0, r.1), r.2))
  row-sized (Some e) min max first [] some s = λ n v here at. s.sized n v (omega arith) at
  row-sized (Some e) min max first (b ∷ row) some s = λ n v here at. elim (zero-or (times_under (K × V) h n first)) [
    | inl none ↦ row-sized (Some e) (Some b.0.0) max b.1 row (λ no. absurd (cc)) s.1 n v (omega arith) at
    | inr listed ↦ s.0.sized n v listed at
  ]

-- the number of items of a node that is exempt, or is not
nearly-here : {A : Type 0} (node_at : NodeMap A) (root exempt id n : ℕ) (node v : View A) → node_at id ≡ Some node → IsNearlySized root exempt id node → n ≡ id → node_at n ≡ Some v → IsNearlySized root exempt n v
nearly-here node_at root exempt id n node v here own same at =
    let there : node_at id ≡ Some v = subst (λ m. node_at m ≡ Some v) same at in
    let is : node ≡ v = (let q : Some node ≡ Some v = sym here ∙ there in cc) in
    subst (λ m. IsNearlySized root exempt m v) (sym same) (subst (λ u. IsNearlySized root exempt id u) is own)

module _ {K V : Type 0} (node_at : NodeMap (K × V)) (min max : Option K) (id : ℕ) where
  -- the nodes of a leaf
  pub leaf-sized : (exempt : Option Exempt) (parent : Option ℕ) (xs : List (K × V)) → node_at id ≡ Some (leaf parent xs) → IsSizedNode exempt min max id (leaf parent xs) → AreSized exempt min max node_at 0 (id, xs)
  leaf-sized None parent xs here own = (own, tt)
  leaf-sized (Some e) parent xs here own = λ n v some at. elim (same-or n id) [
    | inl same ↦ nearly-here node_at e.root e.id id n (leaf parent xs) v here own same at
    | inr other ↦ let z = one-other n id other in absurd (omega arith)
  ]

  -- and those of an internal node and its children
  pub all-sized : (exempt : Option Exempt) (h : ℕ) (parent : Option ℕ) (child : ℕ) (bs : List ((K × V) × ℕ)) → node_at id ≡ Some (internal parent child bs) → IsSizedNode exempt min max id (internal parent child bs)
      → (first : Subtree (K × V) h) (row : List ((K × V) × Subtree (K × V) h)) → size_of (internal parent child bs) ≡ length row → ((exempt ≡ None → 0 < length row) → AreSizedRow h node_at exempt first row)
      → AreSized exempt min max node_at (suc h) (id, first, row)
  all-sized None h parent child bs here own first row count below =
      let one = least-one min max in
      let low = own.0 in
      let high = own.1 in
      ((omega arith, omega arith), below (λ no. omega arith))
  all-sized (Some e) h parent child bs here own first row count below = λ n v some at. elim (same-or n id) [
    | inl same ↦ nearly-here node_at e.root e.id id n (internal parent child bs) v here own same at
    | inr other ↦ let z = one-other n id other in below (λ no. absurd (cc)) n v (omega arith) at
  ]
