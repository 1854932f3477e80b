-- Addresses that a step does not change, around the hole of a frame and all the way up the path.
use Rattle.btree_laws.proofs.Common.{◌≡◌, ◌≢◌, ◌<◌, ◌≤◌, ◌++◌, ◌∷◌, [], ◌∙◌, ◌+◌, ◌==◌, if◌then◌else◌, ℕ, zero, suc, true, false, List, length, Some, None, refl, sym, ap, arith, append_assoc, nat_tests, len, AllByRecursion, nat_lt, Address, one, total, Subtree, times_under, KeepsPositions, Position, branch_key, branch_positions, address_before, mark, over, passed, address_at, positions_from, positions_to, positions, positions_after, positions_before, path_after, path_before, Path, Frame, at_branch, at_first, fill, fill_two, frame_id, frame_index, times_above, times_in_siblings, top, under}
use Rattle.btree_laws.specs.Moved.{select_by_order}
use Rattle.btree_laws.specs.Focus.Positions.{branches_after}
use Rattle.btree_laws.proofs.Paths.Frames.{one-self, times_in-is}
use Rattle.btree_laws.proofs.Places.Lists.{keep-append, keep-mark, keep-none, keep-over, keep-positions_from, keep-positions_to, passed-append, positions_from-append}

lt-test : (n m : ℕ) → n < m → nat_lt n m ≡ true
lt-test n m h = grind (arith, nat_tests)

ge-test : (n m : ℕ) → m ≤ n → nat_lt n m ≡ false
ge-test n m h = grind (arith, nat_tests)

-- the test of two equal numbers is true
pub same-test : (n m : ℕ) → n ≡ m → (n == m) ≡ true
same-test n m h = grind (arith, nat_tests)

-- the test of two different numbers is false
pub other-test : (n m : ℕ) → n ≢ m → (n == m) ≡ false
other-test n m h = grind (arith, nat_tests)

module _ {X : Type 0} (l e g : X) where
  pub by-less : (n m : ℕ) → n < m → select_by_order n m l e g ≡ l
  by-less n m h = let t : nat_lt n m ≡ true = lt-test n m h in rw t refl

  pub by-equal : (n m : ℕ) → n ≡ m → select_by_order n m l e g ≡ e
  by-equal n m h =
      let t : nat_lt n m ≡ false = ge-test n m (omega arith) in
      let q : (n == m) ≡ true = same-test n m h in rw (t, q) refl

  pub by-more : (n m : ℕ) → m < n → select_by_order n m l e g ≡ g
  by-more n m h =
      let t : nat_lt n m ≡ false = ge-test n m (omega arith) in
      let q : (n == m) ≡ false = other-test n m (λ e. omega arith) in rw (t, q) refl

pub if-same : {X : Type 0} (n m : ℕ) (here there : X) → n ≡ m → (if n == m then here else there) ≡ here
if-same n m here there h = let q = same-test n m h in rw q refl

pub if-other : {X : Type 0} (n m : ℕ) (here there : X) → n ≢ m → (if n == m then here else there) ≡ there
if-other n m here there h = let q = other-test n m h in rw q refl

pub if-less : {X : Type 0} (n m : ℕ) (here there : X) → n < m → (if nat_lt n m then here else there) ≡ here
if-less n m here there h = let q = lt-test n m h in rw q refl

pub if-not-less : {X : Type 0} (n m : ℕ) (here there : X) → m ≤ n → (if nat_lt n m then here else there) ≡ there
if-not-less n m here there h = let q = ge-test n m h in rw q refl

-- a subtree that the step does not change
module _ (A : Type 0) (g : Address → Address) where
  pub each-nothing : (xs : List A) → AllByRecursion (λ x. KeepsPositions {A = A} g [] []) xs
  each-nothing [] = tt
  each-nothing (x ∷ xs) = (keep-none g, each-nothing xs)

  each-same : (h : ℕ)
      → ((t : Subtree A h) → ((v : Address) → 0 < times_under A h v.id t → g v ≡ v) → KeepsPositions g (positions A h t) (positions A h t))
      → (bs : List (A × Subtree A h)) → ((v : Address) → 0 < total (λ b. times_under A h v.id b.1) bs → g v ≡ v)
      → AllByRecursion (λ b. KeepsPositions g (positions A h b.1) (positions A h b.1)) bs
  each-same h below [] same = tt
  each-same h below (b ∷ bs) same =
      (below b.1 (λ v m. same v (omega arith)), each-same h below bs (λ v m. same v (omega arith)))

  pub positions-same : (h : ℕ) (t : Subtree A h) → ((v : Address) → 0 < times_under A h v.id t → g v ≡ v)
      → KeepsPositions g (positions A h t) (positions A h t)
  positions-same zero t same =
      let pos : 0 < one t.0 t.0 = let e = one-self t.0 in omega arith in
      keep-mark g (address_before t.0) (address_before t.0) None (positions_from {A = A} {X = A} (λ x. x) (λ x. []) t.0 0 t.1)
      (positions_from {A = A} {X = A} (λ x. x) (λ x. []) t.0 0 t.1) (same (address_before t.0) pos)
      (keep-positions_from {A = A} {X = A} (λ x. x) (λ x. []) g t.0 0 t.0 0 t.1 (λ k l. same (address_at t.0 (0 + k)) pos)
      (each-nothing t.1))
  positions-same (suc h) t same =
      let e = one-self t.0 in
      let pos : 0 < times_under A (suc h) t.0 t = omega arith in
      let rest : List (Position A) = positions_from (branch_key A h) (branch_positions A h) t.0 0 t.2 in
      keep-mark g (address_before t.0) (address_before t.0) None (positions A h t.1 ++ rest) (positions A h t.1 ++ rest) (same (address_before t.0) pos)
      (keep-append g (positions A h t.1) (positions A h t.1) rest rest refl (positions-same h t.1 (λ v m. same v (omega arith)))
      (keep-positions_from (branch_key A h) (branch_positions A h) g t.0 0 t.0 0 t.2 (λ k l. same (address_at t.0 (0 + k)) pos)
      (each-same h (positions-same h) t.2 (λ v m. same v (omega arith)))))

  pub entries-same : (h : ℕ) (bs : List (A × Subtree A h))
      → ((v : Address) → 0 < total (λ b. times_under A h v.id b.1) bs → g v ≡ v)
      → AllByRecursion (λ b. KeepsPositions g (branch_positions A h b) (branch_positions A h b)) bs
  entries-same h bs same = each-same h (positions-same h) bs same

  -- around the hole
  pub before-same : (h : ℕ) (f : Frame A h) → ((v : Address) → 0 < times_in_siblings v.id f → g v ≡ v)
      → g (address_before (frame_id f)) ≡ address_before (frame_id f)
      → ((k : ℕ) → k < frame_index f → g (address_at (frame_id f) k) ≡ address_at (frame_id f) k)
      → KeepsPositions g (positions_before A f) (positions_before A f)
  before-same h (at_first n back) siblings el ek = keep-mark g (address_before n) (address_before n) None [] [] el (keep-none g)
  before-same h (at_branch n first front y back) siblings el ek =
      let end : List (Position A) = mark (address_at n (length front)) (Some y) ∷ over ∷ [] in
      let mid : List (Position A) = positions_to (branch_key A h) (branch_positions A h) n 0 front in
      keep-mark g (address_before n) (address_before n) None (positions A h first ++ (mid ++ end)) (positions A h first ++ (mid ++ end)) el
      (keep-append g (positions A h first) (positions A h first) (mid ++ end) (mid ++ end) refl
      (positions-same h first (λ v m. siblings v (omega arith)))
      (keep-append g mid mid end end refl
      (keep-positions_to (branch_key A h) (branch_positions A h) g n 0 n 0 front (λ k l. ek (0 + k) (omega arith))
      (entries-same h front (λ v m. siblings v (omega arith))))
      (keep-mark g (address_at n (length front)) (address_at n (length front)) (Some y) (over ∷ []) (over ∷ [])
      (ek (length front) (omega arith)) (keep-over g [] [] (keep-none g)))))

  pub after-moved : (h : ℕ) (f : Frame A h) (o p : ℕ) → ((v : Address) → 0 < times_in_siblings v.id f → g v ≡ v)
      → ((k : ℕ) → g (address_at (frame_id f) (o + k)) ≡ address_at (frame_id f) (p + k))
      → KeepsPositions g (positions_after A f o) (positions_after A f p)
  after-moved h (at_first n back) o p siblings ek =
      keep-positions_from (branch_key A h) (branch_positions A h) g n o n p back (λ k l. ek k)
      (entries-same h back (λ v m. siblings v (omega arith)))
  after-moved h (at_branch n first front y back) o p siblings ek =
      keep-positions_from (branch_key A h) (branch_positions A h) g n o n p back (λ k l. ek k)
      (entries-same h back (λ v m. siblings v (omega arith)))

  pub path-before-same : (h : ℕ) (c : Path A h) → ((v : Address) → 0 < times_above v.id c → g v ≡ v)
      → KeepsPositions g (path_before A c) (path_before A c)
  path-before-same h top same = keep-none g
  path-before-same h (under f c) same =
      let pos : 0 < times_above (frame_id f) (under f c) = let e = one-self (frame_id f) in
      omega (arith, times_in-is A h (frame_id f) f) in
      keep-append g (path_before A c) (path_before A c) (positions_before A f) (positions_before A f) refl
      (path-before-same (suc h) c (λ v m. same v (omega arith)))
      (before-same h f (λ v m. same v (omega (arith, times_in-is A h v.id f))) (same (address_before (frame_id f)) pos)
      (λ k l. same (address_at (frame_id f) k) pos))

  pub path-after-same : (h : ℕ) (c : Path A h) → ((v : Address) → 0 < times_above v.id c → g v ≡ v)
      → KeepsPositions g (path_after A c) (path_after A c)
  path-after-same h top same = keep-none g
  path-after-same h (under f c) same =
      let pos : 0 < times_above (frame_id f) (under f c) = let e = one-self (frame_id f) in
      omega (arith, times_in-is A h (frame_id f) f) in
      keep-append g (positions_after A f (frame_index f)) (positions_after A f (frame_index f)) (path_after A c)
      (path_after A c) refl
      (after-moved h f (frame_index f) (frame_index f) (λ v m. same v (omega (arith, times_in-is A h v.id f)))
      (λ k. same (address_at (frame_id f) (frame_index f + k)) pos))
      (path-after-same (suc h) c (λ v m. same v (omega arith)))

  -- a step at the hole, where the later addresses of the parent move from o to p
  pub step-keeps : (h : ℕ) (f : Frame A h) (c : Path A (suc h)) (old new : List (Position A)) (o p : ℕ)
      → KeepsPositions g old new → passed old ≡ passed new
      → ((v : Address) → 0 < times_in_siblings v.id f + times_above v.id c → g v ≡ v)
      → g (address_before (frame_id f)) ≡ address_before (frame_id f)
      → ((k : ℕ) → k < frame_index f → g (address_at (frame_id f) k) ≡ address_at (frame_id f) k)
      → ((k : ℕ) → g (address_at (frame_id f) (o + k)) ≡ address_at (frame_id f) (p + k))
      → KeepsPositions g (path_before A c ++ ((positions_before A f ++ (old ++ positions_after A f o)) ++ path_after A c))
      (path_before A c ++ ((positions_before A f ++ (new ++ positions_after A f p)) ++ path_after A c))
  step-keeps h f c old new o p mid len same el ek em =
      keep-append g (path_before A c) (path_before A c) ((positions_before A f ++ (old ++ positions_after A f o)) ++ path_after A c)
      ((positions_before A f ++ (new ++ positions_after A f p)) ++ path_after A c) refl
      (path-before-same (suc h) c (λ v m. same v (omega arith)))
      (keep-append g (positions_before A f ++ (old ++ positions_after A f o)) (positions_before A f ++ (new ++ positions_after A f p))
      (path_after A c) (path_after A c) sums
      (keep-append g (positions_before A f) (positions_before A f) (old ++ positions_after A f o) (new ++ positions_after A f p) refl
      (before-same h f (λ v m. same v (omega arith)) el ek)
      (keep-append g old new (positions_after A f o) (positions_after A f p) len mid
      (after-moved h f o p (λ v m. same v (omega arith)) em)))
      (path-after-same (suc h) c (λ v m. same v (omega arith))))
    where
      shifted : (i o p : ℕ) (bs : List (A × Subtree A h))
          → passed (positions_from (branch_key A h) (branch_positions A h) i o bs) ≡ passed
          (positions_from (branch_key A h) (branch_positions A h) i p bs)
      shifted i o p [] = refl
      shifted i o p (b ∷ bs) =
          omega (
            arith,
            passed-append (branch_positions A h b) (positions_from (branch_key A h) (branch_positions A h) i (suc o) bs),
            passed-append (branch_positions A h b) (positions_from (branch_key A h) (branch_positions A h) i (suc p) bs),
            shifted i
                (suc o) (suc p) bs,
          )

      sums : passed (positions_before A f ++ (old ++ positions_after A f o)) ≡ passed
          (positions_before A f ++ (new ++ positions_after A f p))
      sums =
          omega (
            arith,
            passed-append (positions_before A f) (old ++ positions_after A f o),
            passed-append (positions_before A f) (new ++ positions_after A f p),
            passed-append old (positions_after A f o),
            passed-append new (positions_after A f p),
            shifted (frame_id f) o p (branches_after A f),
          )

module _ (A : Type 0) where
  -- the positions of a node with its child, or with two children
  pub positions-fill : (h : ℕ) (f : Frame A h) (t : Subtree A h)
      → positions A (suc h) (fill f t) ≡ positions_before A f ++ (positions A h t ++ positions_after A f (frame_index f))
  positions-fill h (at_first n back) t = refl
  positions-fill h (at_branch n first front y back) t =
      let K : A × Subtree A h → A = branch_key A h in
      let F : A × Subtree A h → List (Position A) = branch_positions A h in
      let end : List (Position A) = mark (address_at n (length front)) (Some y) ∷ over ∷ [] in
      let rest : List (Position A) = positions A h t ++ positions_from K F n (length front + 1) back in
      let e : positions_from K F n 0 (front ++ (y, t) ∷ back) ≡ positions_to K F n 0 front ++ (end ++ rest) =
      positions_from-append K F n 0 front ((y, t) ∷ back)
      ∙ ap (λ z. positions_to K F n 0 front ++ positions_from K F n z ((y, t) ∷ back))
      (let q : 0 + length front ≡ length front = omega arith in q)
      ∙ ap (λ z. positions_to K F n 0 front ++ (end ++ (positions A h t ++ positions_from K F n z back)))
      (let q : suc (length front) ≡ length front + 1 = omega arith in q) in
      ap (λ z. mark (address_before n) None ∷ (positions A h first ++ z)) (e ∙ sym (append_assoc (positions_to K F n 0 front) end rest))
      ∙ ap (λ z. mark (address_before n) None ∷ z) (sym (append_assoc (positions A h first) (positions_to K F n 0 front ++ end) rest))

  abbrev pub pair_positions : (h : ℕ) → Frame A h → Subtree A h → A → Subtree A h → List (Position A)
  pair_positions h f a x b = positions A h a ++ (mark (address_at (frame_id f) (frame_index f)) (Some x) ∷ over ∷ positions A h b)

  pub positions-fill_two : (h : ℕ) (f : Frame A h) (a : Subtree A h) (x : A) (b : Subtree A h)
      → positions A (suc h) (fill_two f a x b) ≡ positions_before A f ++ (pair_positions h f a x b ++ positions_after A f
      (suc (frame_index f)))
  positions-fill_two h (at_first n back) a x b =
      ap (λ z. mark (address_before n) None ∷ z)
      (sym (append_assoc (positions A h a) (mark (address_at n 0) (Some x) ∷ over ∷ positions A h b)
      (positions_from (branch_key A h) (branch_positions A h) n 1 back)))
  positions-fill_two h (at_branch n first front y back) a x b =
      positions-fill h (at_branch n first front y ((x, b) ∷ back)) a
      ∙ ap (λ z. positions_before A (at_branch n first front y back) ++ z)
      (sym (append_assoc (positions A h a) (mark (address_at n (length front + 1)) (Some x) ∷ over ∷ positions A h b)
      (positions_from (branch_key A h) (branch_positions A h) n (suc (length front + 1)) back)))
