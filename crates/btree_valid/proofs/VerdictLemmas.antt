-- A node of a well formed tree passes each check that the arguments allow.
use Rattle.btree_valid.proofs.Common.{◌≡◌, ◌≤◌, ◌∷◌, [], ◌∙◌, ℕ, zero, suc, inl, inr, List, map, Option, Some, None, refl, subst, arith, AllByRecursion, keys_of, ⊤, IfSome, IsFalse, Ordering, Less, Fault, NoNode, WrongParent, Overflowing, Underflowing, EmptyRoot, Unsorted, BelowSeparator, AboveSeparator, TooDeep, NotBalanced, WrongLength, Unreachable, OverLimit, FirstFailed, IsNodeVerdict, PassesCheck, is_judged_as_root, node_faults, NodeMap, View, items_of, most_of, parent_of, Subtree, count_at, id_of, items_under, later_items, view_at, ascends, rises, AllByRecursion-right, view-parent, view-size, Allows, AreSized, IsSizedNode, PassesNode, Exempt, Suits, least_between, times_under, one-self, top-view, ◌<◌}
use Rattle.std.proofs.lemmas.Map.Entries.{length-keys_of}
use Rattle.std.specs.Prelude.{Result, Ok, Err, slice_get}
use Rattle.btree_view.specs.Checks.{BeginsAbove, EndsBelow}
use Rattle.btree_laws.proofs.Trees.Sizes.{view-most}
use Rattle.btree_laws.proofs.LookUp.Descent.{items-rise}

-- if each check passes, the answer is Ok
pub all-pass : (Passes : Fault → Type 0) → ((fault : Fault) → Passes fault) → (faults : List Fault) (answer : Result ⊤ Fault) → FirstFailed Passes faults answer → answer ≡ Ok tt
all-pass Passes pass [] answer is = is
all-pass Passes pass (fault ∷ later) answer (inl failed) = absurd (failed.0 (pass fault))
all-pass Passes pass (fault ∷ later) answer (inr passed) = all-pass Passes pass later answer passed.1

-- the check of an answered fault does not pass
not-passed : (Passes : Fault → Type 0) (faults : List Fault) (fault : Fault) (answer : Result ⊤ Fault) → answer ≡ Err fault → FirstFailed Passes faults answer → Passes fault → ⊥
not-passed Passes [] fault answer err is p = cc
not-passed Passes (one ∷ later) fault answer err (inl failed) p =
    let first = failed.1 in
    let same : fault ≡ one = cc in
    failed.0 (subst Passes same p)
not-passed Passes (one ∷ later) fault answer err (inr passed) p = not-passed Passes later fault answer err passed.1 p

module _ {K : Type 0} where
  least-three : (min max : Option K) → IsFalse (is_judged_as_root min max) → least_between min max ≡ 3
  least-three None None f = absurd (cc)
  least-three None (Some k) f = refl
  least-three (Some k) max f = refl

  pub least-one : (min max : Option K) → 1 ≤ least_between min max
  least-one None None = omega arith
  least-one None (Some k) = omega arith
  least-one (Some k) max = omega arith

  pub least-most : (min max : Option K) → least_between min max ≤ 3
  least-most None None = omega arith
  least-most None (Some k) = omega arith
  least-most (Some k) max = omega arith

module _ {K : Type 0} (V : Type 0) (cmp : K → K → Ordering) where
  branch-all : (P : K × V → Type 0) (h : ℕ) (bs : List ((K × V) × Subtree (K × V) h)) → AllByRecursion P (later_items (K × V) h bs)
      → AllByRecursion P (map {B = K × V} (λ b. b.0) (map {B = (K × V) × ℕ} (λ (b : (K × V) × Subtree (K × V) h). (b.0, id_of (K × V) h b.1)) bs))
  branch-all P h [] all = tt
  branch-all P h (b ∷ bs) all = (all.0, branch-all P h bs (AllByRecursion-right P (items_under (K × V) h b.1) (later_items (K × V) h bs) all.1))

  -- what holds of all items of a part holds of those of its root
  own-all : (P : K × V → Type 0) (h : ℕ) (parent : Option ℕ) (t : Subtree (K × V) h) → AllByRecursion P (items_under (K × V) h t) → AllByRecursion P (items_of (view_at (K × V) h parent t))
  own-all P zero parent t all = all
  own-all P (suc h) parent t all = branch-all P h t.2 (AllByRecursion-right P (items_under (K × V) h t.1) (later_items (K × V) h t.2) all)

  if-own : (P : K → K × V → Type 0) (m : Option K) (h : ℕ) (parent : Option ℕ) (t : Subtree (K × V) h) → IfSome m (λ k. AllByRecursion (P k) (items_under (K × V) h t)) → IfSome m (λ k. AllByRecursion (P k) (items_of (view_at (K × V) h parent t)))
  if-own P None h parent t f = tt
  if-own P (Some k) h parent t f = own-all (P k) h parent t f

  key-at : (P : K → Type 0) (xs : List (K × V)) (i : ℕ) → AllByRecursion (λ x. P x.0) xs → IfSome (slice_get (keys_of xs) i) P
  key-at P [] i all = tt
  key-at P (x ∷ xs) zero all = all.0
  key-at P (x ∷ xs) (suc i) all = key-at P xs i all.1

module _ (A : Type 0) where
  -- the root of a part is one of its nodes
  root-listed : (h : ℕ) (t : Subtree A h) → 0 < times_under A h (id_of A h t) t
  root-listed zero t = let s = one-self t.0 in omega arith
  root-listed (suc h) t = let s = one-self t.0 in omega arith

module _ {K V : Type 0} (cmp : K → K → Ordering) where
  -- keys that are all on one side of a separator
  key-begins : (m : Option K) (xs : List (K × V)) → IfSome m (λ k. AllByRecursion (λ x. cmp k x.0 ≡ Less) xs) → BeginsAbove cmp m (keys_of xs)
  key-begins None xs f = tt
  key-begins (Some k) xs f = key-at V cmp (λ y. cmp k y ≡ Less) xs 0 f

  pub key-ends : (m : Option K) (xs : List (K × V)) → IfSome m (λ k. AllByRecursion (λ x. cmp x.0 k ≡ Less) xs) → EndsBelow cmp m (keys_of xs)
  key-ends None xs f = tt
  key-ends (Some k) xs f = key-at V cmp (λ y. cmp y k ≡ Less) xs _ f

  -- a node that passes its checks
  module _ (min max : Option K) (parent : Option ℕ) (id : ℕ) (v : View (K × V)) (p : PassesNode cmp None id parent min max v) where
    node-passes : (fault : Fault) → PassesCheck cmp parent min max (parent_of v) (most_of v) (keys_of (items_of v)) fault
    node-passes WrongParent = p.parent_is
    node-passes Overflowing = let c = length-keys_of (items_of v) in let f = p.sized.1 in omega arith
    node-passes Underflowing = λ no. let c = length-keys_of (items_of v) in let l = least-three min max no in let f = p.sized.0 in omega arith
    node-passes EmptyRoot = λ yes. let c = length-keys_of (items_of v) in let l = least-one min max in let f = p.sized.0 in omega arith
    node-passes Unsorted = p.ascends
    node-passes BelowSeparator = key-begins min (items_of v) p.between.above
    node-passes AboveSeparator = key-ends max (items_of v) p.between.below
    node-passes NoNode = tt
    node-passes TooDeep = tt
    node-passes NotBalanced = tt
    node-passes WrongLength = tt
    node-passes Unreachable = tt
    node-passes OverLimit = tt

    -- has the answer Ok
    pub node-ok : (answer : Result ⊤ Fault) → IsNodeVerdict cmp parent min max v answer → answer ≡ Ok tt
    node-ok answer verdict = all-pass (PassesCheck cmp parent min max (parent_of v) (most_of v) (keys_of (items_of v))) node-passes node_faults answer verdict

  -- the root of a part that suits passes its checks
  pub own-node : (exempt : Option Exempt) (min max : Option K) (node_at : NodeMap (K × V)) (parent : Option ℕ) (h : ℕ) (t : Subtree (K × V) h) → Suits exempt cmp min max node_at parent h t
      → PassesNode cmp exempt (id_of (K × V) h t) parent min max (view_at (K × V) h parent t)
  own-node exempt min max node_at parent h t s = record {
    parent_is = view-parent (K × V) h parent t;
    sized = by exempt s.sized;
    ascends = ascends cmp (items_of (view_at (K × V) h parent t)) (items-rise V cmp h parent t (rises cmp (items_under (K × V) h t) s.ascends));
    between = record {
      above = if-own V cmp (λ k x. cmp k x.0 ≡ Less) min h parent t s.between.above;
      below = if-own V cmp (λ k x. cmp x.0 k ≡ Less) max h parent t s.between.below;
    };
  }
    where
      by : (e : Option Exempt) → AreSized e min max node_at h t → IsSizedNode e min max (id_of (K × V) h t) (view_at (K × V) h parent t)
      by None f =
          let c = view-size (K × V) h parent t in
          let m = view-most (K × V) h parent t in
          let low = f.0.0 in
          let high = f.0.1 in
          (omega arith, omega arith)
      by (Some e) f = f (id_of (K × V) h t) (view_at (K × V) h parent t) (root-listed (K × V) h t) (top-view (K × V) node_at h parent t s.holds)

  module _ (min max : Option K) (node_at : NodeMap (K × V)) (parent : Option ℕ) (h : ℕ) (t : Subtree (K × V) h) (s : Suits None cmp min max node_at parent h t) where
    abbrev own : View (K × V)
    own = view_at (K × V) h parent t

    pub passes : (fault : Fault) → PassesCheck cmp parent min max (parent_of own) (most_of own) (keys_of (items_of own)) fault
    passes = node-passes min max parent (id_of (K × V) h t) own (own-node None min max node_at parent h t s)

    module _ (asked : Option ℕ) (low high : Option K) where
      allowed : (fault : Fault) → Allows cmp parent (count_at (K × V) h t) (items_under (K × V) h t) asked low high fault → PassesCheck cmp asked low high (parent_of own) (most_of own) (keys_of (items_of own)) fault
      allowed WrongParent a = view-parent (K × V) h parent t ∙ a
      allowed Underflowing a = λ no. let c = length-keys_of (items_of own) ∙ view-size (K × V) h parent t in let l = a no in omega arith
      allowed BelowSeparator a = key-begins low (items_of own) (if-own V cmp (λ k x. cmp k x.0 ≡ Less) low h parent t a.above)
      allowed AboveSeparator a = key-ends high (items_of own) (if-own V cmp (λ k x. cmp x.0 k ≡ Less) high h parent t a.below)
      allowed Overflowing a = passes Overflowing
      allowed EmptyRoot a = λ yes. let c = length-keys_of (items_of own) ∙ view-size (K × V) h parent t in let l = least-one min max in let f = s.sized.0.0 in omega arith
      allowed Unsorted a = passes Unsorted
      allowed NoNode a = tt
      allowed TooDeep a = tt
      allowed NotBalanced a = tt
      allowed WrongLength a = tt
      allowed Unreachable a = tt
      allowed OverLimit a = tt

      -- so a fault of the root of a part is one of other arguments
      pub own-blamed : (v : View (K × V)) → v ≡ own → (answer : Result ⊤ Fault) → IsNodeVerdict cmp asked low high v answer → (fault : Fault) → answer ≡ Err fault
          → Allows cmp parent (count_at (K × V) h t) (items_under (K × V) h t) asked low high fault → ⊥
      own-blamed v is answer verdict fault err a =
          not-passed (PassesCheck cmp asked low high (parent_of own) (most_of own) (keys_of (items_of own))) node_faults fault answer err (subst (λ u. IsNodeVerdict cmp asked low high u answer) is verdict) (allowed fault a)
