-- Rows of a walk: lists, and what an internal node represents read from its last child backwards.
use Rattle.btree_walk.proofs.Common.{[], ◌≡◌, ℕ, zero, suc, ◌+◌, ◌-◌, ◌<◌, ◌≤◌, List, ◌∷◌, ◌++◌, length, map, drop, take, slice_get, Option, Some, None, refl, sym, ap, subst, ◌∙◌, arith, append_assoc, append-nil, length_push, Bor, AllByRecursion, NodeMap, internal, IsUnder, remaining_in, represented, under-internal, preceding_above, preceding_in, with_child_before}
use Rattle.std.specs.Iterator.{YieldsFirstRef, YieldsLastRef}

-- no elements of a list
pub take-none : {X : Type 0} (xs : List X) → take 0 xs ≡ []
take-none [] = refl
take-none (x ∷ xs) = refl

-- one element more
pub take-more : {X : Type 0} (xs : List X) (n : ℕ) (x : X) → slice_get xs n ≡ Some x → take (suc n) xs ≡ take n xs ++ x ∷ []
take-more [] n x e = absurd (cc)
take-more (y ∷ ys) zero x e = let same : y ≡ x = cc in rw same refl
take-more (y ∷ ys) (suc n) x e = ap (λ l. y ∷ l) (take-more ys n x e)

-- an ancestor more leaves fewer levels to go
pub pushed-smaller : {X : Type 0} (xs : List X) (x : X) (new : List X) → length xs < 32 → new ≡ xs ++ x ∷ [] → 32 - length new < 32 - length xs
pushed-smaller xs x new room is = let more = ap length is in let one = length_push xs x in omega arith

-- a list that ends in an element, without it
pub take-less : {X : Type 0} (xs : List X) (n : ℕ) (others : List X) (x : X) → take (suc n) xs ≡ others ++ x ∷ [] → suc n ≤ length xs → others ≡ take n xs
take-less [] n others x e low = absurd (omega arith)
take-less (y ∷ ys) zero [] x e low = refl
take-less (y ∷ ys) zero (z ∷ zs) x e low = let l = ap length e in let m = length_push zs x in absurd (omega arith)
take-less (y ∷ []) (suc n) others x e low = absurd (omega arith)
take-less (y ∷ w ∷ ys) (suc n) [] x e low = absurd (cc)
take-less (y ∷ w ∷ ys) (suc n) (z ∷ zs) x e low =
    let first : y ≡ z = cc in
    let rest : take (suc n) (w ∷ ys) ≡ zs ++ x ∷ [] = cc in
    rw (sym first) (ap (λ l. y ∷ l) (take-less (w ∷ ys) n zs x rest (omega arith)))

-- the same, if the element was yielded from the back
pub yields-less : {X : Type 0} (xs : List X) (n : ℕ) (run others : List X) (r : Option (Bor X)) → run ≡ take (suc n) xs → suc n ≤ length xs
    → YieldsLastRef (λ l. l) run r others → others ≡ take n xs
yields-less [] n run others r is low step = absurd (omega arith)
yields-less (y ∷ ys) n run others None is low step = let none : run ≡ [] = step.0 in absurd (cc)
yields-less (y ∷ ys) n run others (Some x) is low step = take-less (y ∷ ys) n others x.now (sym is ∙ step) low

-- after a step from the front one element more is dropped
drop-none : {X : Type 0} (xs : List X) (n : ℕ) → drop n xs ≡ [] → drop (suc n) xs ≡ []
drop-none [] n e = refl
drop-none (y ∷ ys) zero e = absurd (cc)
drop-none (y ∷ ys) (suc n) e = drop-none ys n e

drop-first : {X : Type 0} (xs : List X) (n : ℕ) (x : X) (others : List X) → drop n xs ≡ x ∷ others → others ≡ drop (suc n) xs
drop-first [] zero x others e = absurd (cc)
drop-first [] (suc n) x others e = absurd (cc)
drop-first (y ∷ ys) zero x others e = let rest : ys ≡ others = cc in sym rest
drop-first (y ∷ ys) (suc n) x others e = drop-first ys n x others e

pub yields-more : {X : Type 0} (xs : List X) (n : ℕ) (run others : List X) (r : Option (Bor X)) → run ≡ drop n xs
    → YieldsFirstRef (λ l. l) run r others → others ≡ drop (n + 1) xs
yields-more xs n run others r is step = let m : suc n ≡ n + 1 = omega arith in subst (λ k. others ≡ drop k xs) m (by r step)
  where
    by : (r : Option (Bor _)) → YieldsFirstRef (λ l. l) run r others → others ≡ drop (suc n) xs
    by None step = step.1 ∙ sym (drop-none xs n (sym is ∙ step.0))
    by (Some x) step = drop-first xs n x.now others (sym is ∙ step)

pub get-within : {X : Type 0} (xs : List X) (n : ℕ) → slice_get xs n ≡ None → n < length xs → ⊥
get-within [] n e low = absurd (omega arith)
get-within (y ∷ ys) zero e low = absurd (cc)
get-within (y ∷ ys) (suc n) e low = get-within ys n e (omega arith)

-- the last element, and the others
pub split-last : {X : Type 0} (xs : List X) (x : X) → Some x ≡ slice_get xs (length xs - 1) → xs ≡ take (length xs - 1) xs ++ x ∷ []
split-last [] x e = absurd (cc)
split-last (y ∷ []) x e = let same : x ≡ y = cc in rw same refl
split-last (y ∷ z ∷ zs) x e =
    let less : length (y ∷ z ∷ zs) - 1 ≡ suc (length (z ∷ zs) - 1) = omega arith in
    let at : Some x ≡ slice_get (y ∷ z ∷ zs) (suc (length (z ∷ zs) - 1)) = subst (λ n. Some x ≡ slice_get (y ∷ z ∷ zs) n) less e in
    rw less (ap (λ l. y ∷ l) (split-last (z ∷ zs) x at))

module _ {A : Type 0} where
  pub before-length : (child : ℕ) (bs : List (A × ℕ)) → length (with_child_before child bs) ≡ length bs
  before-length child [] = refl
  before-length child (b ∷ bs) = ap suc (before-length b.1 bs)

  pub before-get : (child : ℕ) (bs : List (A × ℕ)) (n : ℕ) (x : A) (c : ℕ) → slice_get (map (λ b. b.0) bs) n ≡ Some x
      → slice_get (child ∷ map (λ b. b.1) bs) n ≡ Some c → slice_get (with_child_before child bs) n ≡ Some (x, c)
  before-get child [] n x c e f = absurd (cc)
  before-get child (b ∷ bs) zero x c e f = let same : b.0 ≡ x = cc in let at : child ≡ c = cc in rw (same, at) refl
  before-get child (b ∷ bs) (suc n) x c e f = before-get b.1 bs n x c e f

  -- each item of the row with its child before it
  pub all-more : (P : ℕ → Type 0) (row : List (A × ℕ)) (b : A × ℕ) → AllByRecursion (λ (c : A × ℕ). P c.1) (row ++ b ∷ [])
      → P b.1 × AllByRecursion (λ (c : A × ℕ). P c.1) row
  all-more P [] b all = (all.0, tt)
  all-more P (c ∷ row) b all = let rest = all-more P row b all.1 in (rest.0, (all.0, rest.1))

module _ {A : Type 0} (node_at : NodeMap A) (levels : ℕ) where
  -- of the rows, the last one added is passed first
  pub preceding-push : (rows : List (List (A × ℕ))) (row : List (A × ℕ))
      → preceding_above node_at levels (rows ++ row ∷ []) ≡ preceding_above node_at levels rows ++ preceding_in node_at levels row
  preceding-push [] row = append-nil (preceding_in node_at levels row)
  preceding-push (r ∷ rows) row =
      ap (λ l. preceding_in node_at levels r ++ l) (preceding-push rows row)
      ∙ sym (append_assoc (preceding_in node_at levels r) (preceding_above node_at levels rows) (preceding_in node_at levels row))

  -- an item more in a row, with the child before it
  pub preceding-more : (row : List (A × ℕ)) (b : A × ℕ)
      → preceding_in node_at levels (row ++ b ∷ []) ≡ (preceding_in node_at levels row ++ represented node_at levels b.1) ++ b.0 ∷ []
  preceding-more [] b = append-nil (represented node_at levels b.1 ++ b.0 ∷ [])
  preceding-more (c ∷ row) b =
      ap (λ l. (represented node_at levels c.1 ++ c.0 ∷ []) ++ l) (preceding-more row b)
      ∙ sym (append_assoc (represented node_at levels c.1 ++ c.0 ∷ []) (preceding_in node_at levels row ++ represented node_at levels b.1) (b.0 ∷ []))
      ∙ ap (λ l. l ++ b.0 ∷ []) (sym (append_assoc (represented node_at levels c.1 ++ c.0 ∷ []) (preceding_in node_at levels row) (represented node_at levels b.1)))

  -- an internal node represents its row, and then the list of its last child
  pub record InsideBefore (depth id first last : ℕ) (bs : List (A × ℕ)) : Type 0 where
    pub last_under : IsUnder node_at levels (suc depth) last
    pub row_under : AllByRecursion (λ (b : A × ℕ). IsUnder node_at levels (suc depth) b.1) (with_child_before first bs)
    pub list : represented node_at levels id ≡ preceding_in node_at levels (with_child_before first bs) ++ represented node_at levels last

  pub turned : (first : ℕ) (bs : List (A × ℕ)) (last : ℕ) → slice_get (first ∷ map (λ b. b.1) bs) (length bs) ≡ Some last
      → represented node_at levels first ++ remaining_in node_at levels bs ≡ preceding_in node_at levels (with_child_before first bs) ++ represented node_at levels last
  turned first [] last e = let same : first ≡ last = cc in rw same (append-nil (represented node_at levels last))
  turned first (b ∷ bs) last e =
      let rest = turned b.1 bs last e in
      sym (append_assoc (represented node_at levels first) (b.0 ∷ []) (represented node_at levels b.1 ++ remaining_in node_at levels bs))
      ∙ ap (λ l. (represented node_at levels first ++ b.0 ∷ []) ++ l) rest
      ∙ sym (append_assoc (represented node_at levels first ++ b.0 ∷ []) (preceding_in node_at levels (with_child_before b.1 bs)) (represented node_at levels last))

  unders : (P : ℕ → Type 0) (first : ℕ) (bs : List (A × ℕ)) (last : ℕ) → slice_get (first ∷ map (λ b. b.1) bs) (length bs) ≡ Some last → P first
      → AllByRecursion (λ (b : A × ℕ). P b.1) bs → AllByRecursion (λ (b : A × ℕ). P b.1) (with_child_before first bs) × P last
  unders P first [] last e here all = let same : first ≡ last = cc in (tt, rw (← same) here)
  unders P first (b ∷ bs) last e here all = let rest = unders P b.1 bs last e all.0 all.1 in ((here, rest.0), rest.1)

  pub inside-before : (depth id : ℕ) (p : Option ℕ) (first : ℕ) (bs : List (A × ℕ)) (last : ℕ) → IsUnder node_at levels depth id → node_at id ≡ Some (internal p first bs)
      → slice_get (first ∷ map (λ b. b.1) bs) (length bs) ≡ Some last → InsideBefore depth id first last bs
  inside-before depth id p first bs last u e at =
      let i = under-internal node_at levels depth id p first bs u e in
      let all = unders (λ n. IsUnder node_at levels (suc depth) n) first bs last at i.first_under i.row_under in
      record { last_under = all.1; row_under = all.0; list = i.list ∙ turned first bs last at }
