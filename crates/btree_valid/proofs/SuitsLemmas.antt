-- The children of a part that suits, one after another.
use Rattle.btree_valid.proofs.Common.{◌≡◌, ◌≤◌, ◌∷◌, ◌++◌, [], ◌+◌, ℕ, zero, suc, List, length, length-append, map, drop, Option, Some, None, refl, sym, ap, subst, arith, AllByRecursion, flat_map, IfSome, Ordering, Less, separator_after, separator_before, NodeMap, children_in, children_of, internal, total, Holds, IsFilled, Subtree, count_at, id_of, items_under, later_items, view_at, numbers_under, Rises, ascends, rises, rises-left, AllByRecursion-right, AreBetween, nearest_of, Suits, AreSized, IsFilledBelow, Exempt, IsNearlySized, View, times_under, ◌<◌, ⊤}
use Rattle.std.specs.Option.{option_map}
use Rattle.std.specs.Prelude.{slice_get}
use Rattle.btree_laws.proofs.LookUp.KeyInList.{rises-right}
use Rattle.btree_laws.proofs.Paths.Frames.{AllByRecursion-left}
use Rattle.btree_valid.proofs.VerdictLemmas.{least-most}

module _ {A : Type 0} (h : ℕ) where
  -- the parts under the root of a part
  abbrev pub parts_under : Subtree A (suc h) → List (Subtree A h)
  parts_under t = t.1 ∷ map (λ b. b.1) t.2

  -- as many as the node has children
  pub parts-count : (t : Subtree A (suc h)) → length (parts_under t) ≡ length (id_of A h t.1 ∷ map {B = ℕ} (λ b. b.1) (map {B = A × ℕ} (λ (b : A × Subtree A h). (b.0, id_of A h b.1)) t.2))
  parts-count t = ap suc (same t.2) where
    same : (bs : List (A × Subtree A h)) → length (map {B = Subtree A h} (λ b. b.1) bs) ≡ length (map {B = ℕ} (λ b. b.1) (map {B = A × ℕ} (λ (b : A × Subtree A h). (b.0, id_of A h b.1)) bs))
    same [] = refl
    same (b ∷ bs) = ap suc (same bs)

  later-total : (bs : List (A × Subtree A h)) → length (later_items A h bs) ≡ length bs + total (λ s. length (items_under A h s)) (map (λ b. b.1) bs)
  later-total [] = refl
  later-total (b ∷ bs) = let l = length-append (items_under A h b.1) (later_items A h bs) in let r = later-total bs in omega arith

  pub items-total : (t : Subtree A (suc h)) → length (items_under A (suc h) t) ≡ count_at A (suc h) t + total (λ s. length (items_under A h s)) (parts_under t)
  items-total t = let l = length-append (items_under A h t.1) (later_items A h t.2) in let r = later-total t.2 in omega arith

  module _ (node_at : NodeMap A) where
    abbrev pub numbers_in : Subtree A h → ℕ
    numbers_in s = length (numbers_under node_at h (id_of A h s))

    later-numbers : (bs : List (A × Subtree A h))
        → length (flat_map (numbers_under node_at h) (map {B = ℕ} (λ b. b.1) (map {B = A × ℕ} (λ (b : A × Subtree A h). (b.0, id_of A h b.1)) bs))) ≡ total numbers_in (map (λ b. b.1) bs)
    later-numbers [] = refl
    later-numbers (b ∷ bs) =
        let l = length-append (numbers_under node_at h (id_of A h b.1)) (flat_map (numbers_under node_at h) (map {B = ℕ} (λ b. b.1) (map {B = A × ℕ} (λ (b : A × Subtree A h). (b.0, id_of A h b.1)) bs))) in
        let r = later-numbers bs in
        omega arith

    pub numbers-total : (parent : Option ℕ) (t : Subtree A (suc h)) → node_at t.0 ≡ Some (view_at A (suc h) parent t)
        → length (numbers_under node_at (suc h) t.0) ≡ 1 + total numbers_in (parts_under t)
    numbers-total parent t here =
        let ns : List ℕ = map {B = ℕ} (λ b. b.1) (map {B = A × ℕ} (λ (b : A × Subtree A h). (b.0, id_of A h b.1)) t.2) in
        let e : length (flat_map (numbers_under node_at h) (children_in (node_at t.0))) ≡ length (flat_map (numbers_under node_at h) (id_of A h t.1 ∷ ns)) =
        ap (λ v. length (flat_map (numbers_under node_at h) (children_in v))) here in
        let l = length-append (numbers_under node_at h (id_of A h t.1)) (flat_map (numbers_under node_at h) ns) in
        let r = later-numbers t.2 in
        omega arith

-- without an exempt node a child has at least three items
abbrev pub IsFull : Option Exempt → ℕ → Type 0
IsFull None count = 3 ≤ count
IsFull (Some e) count = ⊤

module _ {K V : Type 0} (h : ℕ) (node_at : NodeMap (K × V)) where
  -- a first child, the children of the branches after it, and all nodes below have their numbers of items
  abbrev pub AreSizedRow : Option Exempt → (first : Subtree (K × V) h) (row : List ((K × V) × Subtree (K × V) h)) → Type 0
  AreSizedRow None first row =
      IsFilled 3 h (count_at (K × V) h first) × IsFilledBelow (K × V) h first
      × AllByRecursion (λ b. IsFilled 3 h (count_at (K × V) h b.1) × IsFilledBelow (K × V) h b.1) row
  AreSizedRow (Some e) first row =
      (n : ℕ) (v : View (K × V)) → 0 < times_under (K × V) h n first + total (λ b. times_under (K × V) h n b.1) row → node_at n ≡ Some v → IsNearlySized e.root e.id n v

  later-sized : (e : Option Exempt) (first : Subtree (K × V) h) (b : (K × V) × Subtree (K × V) h) (row : List ((K × V) × Subtree (K × V) h)) → AreSizedRow e first (b ∷ row) → AreSizedRow e b.1 row
  later-sized None first b row f = (f.2.0.0, f.2.0.1, f.2.1)
  later-sized (Some e) first b row f = λ n v some at. f n v (omega arith) at

  first-sized : (e : Option Exempt) (min max : Option K) (first : Subtree (K × V) h) (row : List ((K × V) × Subtree (K × V) h)) → AreSizedRow e first row → AreSized e min max node_at h first
  first-sized None min max first row f = ((let l = least-most min max in let g = f.0.0 in omega arith, f.0.1), f.1)
  first-sized (Some e) min max first row f = λ n v some at. f n v (omega arith) at

  first-full : (e : Option Exempt) (first : Subtree (K × V) h) (row : List ((K × V) × Subtree (K × V) h)) → AreSizedRow e first row → IsFull e (count_at (K × V) h first)
  first-full None first row f = f.0.0
  first-full (Some e) first row f = tt

  below-sized : (e : Option Exempt) (min max : Option K) (t : Subtree (K × V) (suc h)) → AreSized e min max node_at (suc h) t → AreSizedRow e t.1 t.2
  below-sized None min max t f = f.1
  below-sized (Some e) min max t f = λ n v some at. f n v (omega arith) at

module _ {K V : Type 0} (cmp : K → K → Ordering) where
  front-below : (xs : List (K × V)) (x : K × V) (ys : List (K × V)) → Rises cmp (xs ++ x ∷ ys) → AllByRecursion (λ y. cmp y.0 x.0 ≡ Less) xs
  front-below [] x ys up = tt
  front-below (y ∷ xs) x ys up = ((AllByRecursion-right (λ z. cmp y.0 z.0 ≡ Less) xs (x ∷ ys) up.0).0, front-below xs x ys up.1)

  if-left : (P : K → K × V → Type 0) (m : Option K) (xs ys : List (K × V)) → IfSome m (λ k. AllByRecursion (P k) (xs ++ ys)) → IfSome m (λ k. AllByRecursion (P k) xs)
  if-left P None xs ys f = tt
  if-left P (Some k) xs ys f = AllByRecursion-left (P k) xs ys f

  if-right : (P : K → K × V → Type 0) (m : Option K) (xs ys : List (K × V)) → IfSome m (λ k. AllByRecursion (P k) (xs ++ ys)) → IfSome m (λ k. AllByRecursion (P k) ys)
  if-right P None xs ys f = tt
  if-right P (Some k) xs ys f = AllByRecursion-right (P k) xs ys f

  module _ (exempt : Option Exempt) (node_at : NodeMap (K × V)) (h : ℕ) where
    abbrev pub Row : Type 0
    Row = List ((K × V) × Subtree (K × V) h)

    abbrev named : Row → List ((K × V) × ℕ)
    named bs = map {B = (K × V) × ℕ} (λ (b : (K × V) × Subtree (K × V) h). (b.0, id_of (K × V) h b.1)) bs

    -- the child at an index: it suits between the nearest separators, and the children after it come next
    pub record ChildAt (min max : Option K) (above parent : Option ℕ) (first : Subtree (K × V) h) (row : Row) (index child : ℕ) : Type 0 where
      pub part : Subtree (K × V) h
      pub here : id_of (K × V) h part ≡ child
      pub full : IsFull exempt (count_at (K × V) h part)
      pub suits : Suits exempt cmp (nearest_of (separator_before (internal above (id_of (K × V) h first) (named row)) index) min)
          (nearest_of (separator_after (internal above (id_of (K × V) h first) (named row)) index) max) node_at parent h part
      pub next : (f : Subtree (K × V) h → ℕ) → total f (drop index (first ∷ map (λ b. b.1) row)) ≡ f part + total f (drop (suc index) (first ∷ map (λ b. b.1) row))

    near-same : (row : Row) (k child : ℕ) → Some child ≡ slice_get (map {B = ℕ} (λ b. b.1) (named row)) k → (a b : Option K)
        → nearest_of (option_map (λ x. x.0) (slice_get (map {B = K × V} (λ b. b.0) (named row)) k)) a ≡ nearest_of (option_map (λ x. x.0) (slice_get (map {B = K × V} (λ b. b.0) (named row)) k)) b
    near-same [] k child e a b = absurd (cc)
    near-same (r ∷ row) zero child e a b = refl
    near-same (r ∷ row) (suc k) child e a b = near-same row k child e a b

    module _ (parent : Option ℕ) where
      -- what is known of a first child and the branches after it
      pub record AreSuiting (min max : Option K) (first : Subtree (K × V) h) (row : Row) : Type 0 where
        pub rise : Rises cmp (items_under (K × V) h first ++ later_items (K × V) h row)
        pub between : AreBetween cmp min max (items_under (K × V) h first ++ later_items (K × V) h row)
        pub holds : Holds (K × V) node_at h parent first × AllByRecursion (λ b. Holds (K × V) node_at h parent b.1) row
        pub sized : AreSizedRow h node_at exempt first row

      later-suit : (min max : Option K) (first : Subtree (K × V) h) (b : (K × V) × Subtree (K × V) h) (row : Row) → AreSuiting min max first (b ∷ row) → AreSuiting (Some b.0.0) max b.1 row
      later-suit min max first b row s =
          let up = rises-right cmp (items_under (K × V) h first) (later_items (K × V) h (b ∷ row)) s.rise in
          record {
            rise = up.1;
            between = record {
              above = up.0;
              below = if-right (λ k x. cmp x.0 k ≡ Less) max (b.0 ∷ []) (items_under (K × V) h b.1 ++ later_items (K × V) h row)
                  (if-right (λ k x. cmp x.0 k ≡ Less) max (items_under (K × V) h first) (later_items (K × V) h (b ∷ row)) s.between.below);
            };
            holds = (s.holds.1.0, s.holds.1.1);
            sized = later-sized h node_at exempt first b row s.sized;
          }

      first-suits : (min max : Option K) (first : Subtree (K × V) h) (row : Row) (above : Option ℕ) → AreSuiting min max first row
          → Suits exempt cmp min (nearest_of (separator_after (internal above (id_of (K × V) h first) (named row)) 0) max) node_at parent h first
      first-suits min max first row above s = record {
        holds = s.holds.0;
        sized = first-sized h node_at exempt min (nearest_of (separator_after (internal above (id_of (K × V) h first) (named row)) 0) max) first row s.sized;
        ascends = ascends cmp (items_under (K × V) h first) (rises-left cmp (items_under (K × V) h first) (later_items (K × V) h row) s.rise);
        between = record {
          above = if-left (λ k x. cmp k x.0 ≡ Less) min (items_under (K × V) h first) (later_items (K × V) h row) s.between.above;
          below = by row s;
        };
      }
        where
          by : (row : Row) → AreSuiting min max first row
              → IfSome (nearest_of (separator_after (internal above (id_of (K × V) h first) (named row)) 0) max) (λ m. AllByRecursion (λ x. cmp x.0 m ≡ Less) (items_under (K × V) h first))
          by [] s = if-left (λ k x. cmp x.0 k ≡ Less) max (items_under (K × V) h first) [] s.between.below
          by (b ∷ row) s = front-below (items_under (K × V) h first) b.0 (items_under (K × V) h b.1 ++ later_items (K × V) h row) s.rise

      pub child-at : (min max : Option K) (above : Option ℕ) (first : Subtree (K × V) h) (row : Row) → AreSuiting min max first row → (index child : ℕ)
          → Some child ≡ slice_get (children_of (internal above (id_of (K × V) h first) (named row))) index → ChildAt min max above parent first row index child
      child-at min max above first row s zero child e = record {
        part = first;
        here = (let is : child ≡ id_of (K × V) h first = cc in sym is);
        full = first-full h node_at exempt first row s.sized;
        suits = first-suits min max first row above s;
        next = λ f. refl;
      }
      child-at min max above first [] s (suc index) child e = absurd (cc)
      child-at min max above first (b ∷ row) s (suc zero) child e =
          let c = child-at (Some b.0.0) max above b.1 row (later-suit min max first b row s) zero child e in
          record { part = c.part; here = c.here; full = c.full; suits = c.suits; next = c.next }
      child-at min max above first (b ∷ row) s (suc (suc k)) child e =
          let c = child-at (Some b.0.0) max above b.1 row (later-suit min max first b row s) (suc k) child e in
          let after : Option K = separator_after (internal above (id_of (K × V) h b.1) (named row)) (suc k) in
          record {
            part = c.part;
            here = c.here;
            full = c.full;
            suits = subst (λ near. Suits exempt cmp near (nearest_of after max) node_at parent h c.part) (near-same row k child e (Some b.0.0) min) c.suits;
            next = c.next;
          }

    -- the children of a part that suits
    pub all-suit : (min max : Option K) (parent : Option ℕ) (t : Subtree (K × V) (suc h)) → Suits exempt cmp min max node_at parent (suc h) t → AreSuiting (Some t.0) min max t.1 t.2
    all-suit min max parent t s = record {
      rise = rises cmp (items_under (K × V) (suc h) t) s.ascends;
      between = s.between;
      holds = (s.holds.1, s.holds.2);
      sized = below-sized h node_at exempt min max t s.sized;
    }
