-- How many numbers below one are used.
use Rattle.std.proofs.Common.{◌≡◌, ℕ, zero, suc, ◌+◌, ◌-◌, ◌<◌, ◌≤◌, Option, Some, None, IsSome, refl, ap, arith, inl, inr}
use Rattle.std.proofs.lemmas.Bool.{cases_lt}
use Rattle.std.specs.FinMap.{get, len, remove}
use Rattle.btree_store.specs.Content.{Content}
use Rattle.btree_store.specs.ContentLaws.{get-remove_other, len-remove_used}
use Rattle.btree_laws.specs.WellFormed.{times_used}

module _ {T : Type 0} where
  abbrev pub used_below : Content T → ℕ → ℕ
  used_below m zero = 0
  used_below m (suc n) = used_below m n + times_used (get m n)

  same-below : (m : Content T) (k n : ℕ) → n ≤ k → used_below (remove m k) n ≡ used_below m n
  same-below m k zero le = refl
  same-below m k (suc n) le =
      let here : times_used (get (remove m k) n) ≡ times_used (get m n) = ap times_used (get-remove_other m k n (λ e. omega arith)) in
      omega (arith, same-below m k n (omega arith), here)

  -- there are no more of them than numbers in use
  used-le : (n : ℕ) (m : Content T) → used_below m n ≤ len m
  used-le zero m = omega arith
  used-le (suc n) m = by_value (used-le n) (get m n) refl
    where
      by_value : ((k : Content T) → used_below k n ≤ len k) → (o : Option T) → get m n ≡ o → used_below m n + times_used (get m n) ≤ len m
      by_value below None is = let here : times_used (get m n) ≡ 0 = rw is refl in omega (arith, below m, here)
      by_value below (Some v) is =
          let here : times_used (get m n) ≡ 1 = rw is refl in
          omega (arith, below (remove m n), same-below m n n (omega arith), len-remove_used m n v is, here)

  -- and one fewer, if a number from there on is used
  used-more : (m : Content T) (n id : ℕ) (o : Option T) → get m id ≡ o → IsSome o → n ≤ id → used_below m n + 1 ≤ len m
  used-more m n id None is used le = absurd cc
  used-more m n id (Some v) is used le = omega (arith, used-le n (remove m id), same-below m id n le, len-remove_used m id v is)

  next-below : (m : Content T) (n : ℕ) → used_below m (n + 1) ≡ used_below m n + times_used (get m n)
  next-below m n = let more : n + 1 ≡ suc n = omega arith in ap (used_below m) more

  -- if all are below, no other is used
  pub all-below : (m : Content T) (n : ℕ) → used_below m n ≡ len m → (id : ℕ) → IsSome (get m id) → id < n
  all-below m n all id used = elim (cases_lt id n) [
    | inl lt ↦ lt
    | inr le ↦ absurd (let more = used-more m n id (get m id) refl used le in omega arith)
  ]

  pub step-used : (m : Content T) (n : ℕ) → IsSome (get m n) → used_below m (n + 1) ≡ used_below m n + 1
  step-used m n used = by_value (get m n) refl used
    where
      by_value : (o : Option T) → get m n ≡ o → IsSome o → used_below m (n + 1) ≡ used_below m n + 1
      by_value None is used = absurd cc
      by_value (Some v) is used =
          let here : times_used (get m n) ≡ 1 = rw is refl in
          omega (arith, next-below m n, here)

  pub step-unused : (m : Content T) (n : ℕ) → ¬ IsSome (get m n) → used_below m (n + 1) ≡ used_below m n
  step-unused m n unused = by_value (get m n) refl unused
    where
      by_value : (o : Option T) → get m n ≡ o → ¬ IsSome o → used_below m (n + 1) ≡ used_below m n
      by_value None is unused =
          let here : times_used (get m n) ≡ 0 = rw is refl in
          omega (arith, next-below m n, here)
      by_value (Some v) is unused = absurd (unused refl)

  -- what the count of places keeps: how many were found below `id`, and the number after the last of them
  pub record HasFound (m : Content T) (found end id : ℕ) : Type 0 where
    pub counted : found ≡ used_below m id
    pub few : found ≤ id
    pub within : end ≤ id
    pub all : (k : ℕ) → k < id → IsSome (get m k) → k < end
    pub last : 0 < end → IsSome (get m (end - 1))

  pub found-start : (m : Content T) → HasFound m 0 0 0
  found-start m = record { counted = refl; few = omega arith; within = omega arith; all = λ k h used. absurd (omega arith); last = λ h. absurd (omega arith) }

  pub found-more : (m : Content T) (found end id : ℕ) → IsSome (get m id) → HasFound m found end id → HasFound m (found + 1) (id + 1) (id + 1)
  found-more m found end id used before =
      let last : id + 1 - 1 ≡ id = omega arith in
      record {
        counted = omega (arith, before.counted, step-used m id used);
        few = omega (arith, before.few);
        within = omega arith;
        all = λ k h used. h;
        last = λ h. rw last used;
      }

  pub found-none : (m : Content T) (found end id : ℕ) → ¬ IsSome (get m id) → HasFound m found end id → HasFound m found end (id + 1)
  found-none m found end id unused before =
      record {
        counted = omega (arith, before.counted, step-unused m id unused);
        few = omega (arith, before.few);
        within = omega (arith, before.within);
        all = λ k h used. elim (cases_lt k id) [
          | inl lt ↦ before.all k lt used
          | inr le ↦ absurd (let same : k ≡ id = omega arith in unused (rw same at used))
        ];
        last = before.last;
      }

  -- all were found: the others are below
  pub found-all : (m : Content T) (found end id : ℕ) → found ≡ len m → HasFound m found end id → (k : ℕ) → IsSome (get m k) → k < end
  found-all m found end id all before k used = before.all k (all-below m id (omega (arith, before.counted)) k used) used
