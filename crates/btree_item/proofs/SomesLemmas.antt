-- What an edit of a list of options leaves of the values, if every option holds one.
use Rattle.btree_item.proofs.Common.{◌≡◌, ℕ, ◌+◌, ◌<◌, ◌≤◌, List, [], ◌∷◌, ◌++◌, Option, Some, map, length, take, drop, set, get_or, zero, suc, refl, sym, ◌∙◌, ap, arith, slice_get, IsSome, insert, remove, length-map, somes}
use Rattle.std.specs.Option.{option_map}
use Rattle.std.proofs.lemmas.List.{take-map, drop-map, map-append, length-take-le, map-set, set-get_or, take_more_set}
use Rattle.std.proofs.Math.Seq.{take-set-lt}
use Rattle.std.proofs.lemmas.Option.{slice_get-map}
use Rattle.btree_item.specs.Somes.{AreSome}

module _ {T : Type 0} where
  pub somes-map : (xs : List T) → somes (map Some xs) ≡ xs
  somes-map [] = refl
  somes-map (x ∷ xs) = ap (λ rest. x ∷ rest) (somes-map xs)

  pub somes_from_map : (slots : List (Option T)) (xs : List T) → slots ≡ map Some xs → somes slots ≡ xs
  somes_from_map slots xs are = ap somes are ∙ somes-map xs

  pub AreSome-from_map : (slots : List (Option T)) (xs : List T) → slots ≡ map Some xs → AreSome slots
  AreSome-from_map slots xs are = record { are = are ∙ sym (ap (map Some) (somes_from_map slots xs are)) }

  pub length-somes : (slots : List (Option T)) → AreSome slots → length (somes slots) ≡ length slots
  length-somes slots h = sym (length-map (somes slots) Some) ∙ sym (ap length h.are)

  push_maps : (slots : List (Option T)) (x : T) → AreSome slots → slots ++ Some x ∷ [] ≡ map Some (somes slots ++ x ∷ [])
  push_maps slots x h = ap (λ l. l ++ Some x ∷ []) h.are ∙ sym (map-append Some (somes slots) (x ∷ []))

  set_maps : (slots : List (Option T)) (i : ℕ) (x : T) → AreSome slots → set slots i (Some x) ≡ map Some (set (somes slots) i x)
  set_maps slots i x h = ap (λ l. set l i (Some x)) h.are ∙ sym (map-set Some (somes slots) i x)

  take_maps : (n : ℕ) (slots : List (Option T)) → AreSome slots → take n slots ≡ map Some (take n (somes slots))
  take_maps n slots h = ap (take n) h.are ∙ take-map Some n (somes slots)

  drop_maps : (n : ℕ) (slots : List (Option T)) → AreSome slots → drop n slots ≡ map Some (drop n (somes slots))
  drop_maps n slots h = ap (drop n) h.are ∙ drop-map Some n (somes slots)

  append_maps : (slots more : List (Option T)) → AreSome slots → AreSome more → slots ++ more ≡ map Some (somes slots ++ somes more)
  append_maps slots more h k =
      ap (λ l. l ++ more) h.are ∙ ap (λ l. map Some (somes slots) ++ l) k.are ∙ sym (map-append Some (somes slots) (somes more))

  insert_maps : (slots : List (Option T)) (i : ℕ) (x : T) → AreSome slots → insert slots i (Some x) ≡ map Some (insert (somes slots) i x)
  insert_maps slots i x h =
      ap (λ l. l ++ Some x ∷ drop i slots) (take_maps i slots h)
      ∙ ap (λ l. map Some (take i (somes slots)) ++ Some x ∷ l) (drop_maps i slots h)
      ∙ sym (map-append Some (take i (somes slots)) (x ∷ drop i (somes slots)))

  remove_maps : (slots : List (Option T)) (i : ℕ) → AreSome slots → remove slots i ≡ map Some (remove (somes slots) i)
  remove_maps slots i h =
      ap (λ l. l ++ drop (suc i) slots) (take_maps i slots h)
      ∙ ap (λ l. map Some (take i (somes slots)) ++ l) (drop_maps (suc i) slots h)
      ∙ sym (map-append Some (take i (somes slots)) (drop (suc i) (somes slots)))

  pub somes-push : (slots : List (Option T)) (x : T) → AreSome slots → somes (slots ++ Some x ∷ []) ≡ somes slots ++ x ∷ []
  somes-push slots x h = somes_from_map _ _ (push_maps slots x h)

  pub AreSome-push : (slots : List (Option T)) (x : T) → AreSome slots → AreSome (slots ++ Some x ∷ [])
  AreSome-push slots x h = AreSome-from_map _ _ (push_maps slots x h)

  pub somes-set : (slots : List (Option T)) (i : ℕ) (x : T) → AreSome slots → somes (set slots i (Some x)) ≡ set (somes slots) i x
  somes-set slots i x h = somes_from_map _ _ (set_maps slots i x h)

  pub AreSome-set : (slots : List (Option T)) (i : ℕ) (x : T) → AreSome slots → AreSome (set slots i (Some x))
  AreSome-set slots i x h = AreSome-from_map _ _ (set_maps slots i x h)

  pub somes-insert : (slots : List (Option T)) (i : ℕ) (x : T) → AreSome slots → somes (insert slots i (Some x)) ≡ insert (somes slots) i x
  somes-insert slots i x h = somes_from_map _ _ (insert_maps slots i x h)

  pub AreSome-insert : (slots : List (Option T)) (i : ℕ) (x : T) → AreSome slots → AreSome (insert slots i (Some x))
  AreSome-insert slots i x h = AreSome-from_map _ _ (insert_maps slots i x h)

  pub somes-remove : (slots : List (Option T)) (i : ℕ) → AreSome slots → somes (remove slots i) ≡ remove (somes slots) i
  somes-remove slots i h = somes_from_map _ _ (remove_maps slots i h)

  pub AreSome-remove : (slots : List (Option T)) (i : ℕ) → AreSome slots → AreSome (remove slots i)
  AreSome-remove slots i h = AreSome-from_map _ _ (remove_maps slots i h)

  pub somes-take : (slots : List (Option T)) (n : ℕ) → AreSome slots → somes (take n slots) ≡ take n (somes slots)
  somes-take slots n h = somes_from_map _ _ (take_maps n slots h)

  pub AreSome-take : (slots : List (Option T)) (n : ℕ) → AreSome slots → AreSome (take n slots)
  AreSome-take slots n h = AreSome-from_map _ _ (take_maps n slots h)

  pub somes-drop : (slots : List (Option T)) (n : ℕ) → AreSome slots → somes (drop n slots) ≡ drop n (somes slots)
  somes-drop slots n h = somes_from_map _ _ (drop_maps n slots h)

  pub AreSome-drop : (slots : List (Option T)) (n : ℕ) → AreSome slots → AreSome (drop n slots)
  AreSome-drop slots n h = AreSome-from_map _ _ (drop_maps n slots h)

  pub somes-append : (slots more : List (Option T)) → AreSome slots → AreSome more → somes (slots ++ more) ≡ somes slots ++ somes more
  somes-append slots more h k = somes_from_map _ _ (append_maps slots more h k)

  pub AreSome-append : (slots more : List (Option T)) → AreSome slots → AreSome more → AreSome (slots ++ more)
  AreSome-append slots more h k = AreSome-from_map _ _ (append_maps slots more h k)

  pub slice_get-somes : (slots : List (Option T)) (i : ℕ) → AreSome slots → slice_get slots i ≡ option_map Some (slice_get (somes slots) i)
  slice_get-somes slots i h = ap (λ l. slice_get l i) h.are ∙ slice_get-map Some (somes slots) i

  some_in_map : (xs : List T) (i : ℕ) (r : Option T) → i < length xs → r ≡ get_or (map Some xs) i r → IsSome r
  some_in_map [] i r within read = absurd (omega arith)
  some_in_map (x ∷ xs) zero r within read = rw read refl
  some_in_map (x ∷ xs) (suc i) r within read = some_in_map xs i r (omega arith) read

  pub IsSome-slot : (slots : List (Option T)) (i : ℕ) (r : Option T) → AreSome slots → i < length slots → r ≡ get_or slots i r → IsSome r
  IsSome-slot slots i r h within read =
      some_in_map (somes slots) i r (omega (arith, length-somes slots h)) (read ∙ ap (λ l. get_or l i r) h.are)

  read_in_map : (xs : List T) (i : ℕ) (r : Option T) → i < length xs → r ≡ get_or (map Some xs) i r → slice_get xs i ≡ r
  read_in_map [] i r within read = absurd (omega arith)
  read_in_map (x ∷ xs) zero r within read = sym read
  read_in_map (x ∷ xs) (suc i) r within read = read_in_map xs i r (omega arith) read

  pub slot_read : (slots : List (Option T)) (i : ℕ) (r : Option T) → AreSome slots → i < length slots → r ≡ get_or slots i r → slice_get (somes slots) i ≡ r
  slot_read slots i r h within read =
      read_in_map (somes slots) i r (omega (arith, length-somes slots h)) (read ∙ ap (λ l. get_or l i r) h.are)

  pub set-read : (slots : List (Option T)) (i : ℕ) (r : Option T) → r ≡ get_or slots i r → set slots i r ≡ slots
  set-read slots i r read = ap (set slots i) read ∙ set-get_or slots i r

  -- to write back what was read changes nothing
  pub AreSome-set_read : (slots : List (Option T)) (i : ℕ) (r : Option T) → AreSome slots → r ≡ get_or slots i r → AreSome (set slots i r)
  AreSome-set_read slots i r h read = rw (set-read slots i r read) h

  -- of a list whose first n options are in use
  pub length-held : (n : ℕ) (slots : List (Option T)) → AreSome (take n slots) → n ≤ length slots → length (somes (take n slots)) ≡ n
  length-held n slots h within = length-somes (take n slots) h ∙ length-take-le n slots within

  -- of a list in a fixed number of places: what is shown of it is as long as it is, and there is a place left if that is shorter than all
  pub shown-length : (n places : ℕ) (slots : List (Option T)) (shown : List T) → somes (take n slots) ≡ shown → (length slots ≡ places) × (n ≤ places) × AreSome (take n slots) → length shown ≡ n
  shown-length n places slots shown is kept =
      sym (ap length is) ∙ length-held n slots kept.2 (omega (arith, kept.0, kept.1))

  pub room-left : (n places : ℕ) (slots : List (Option T)) (shown : List T) → somes (take n slots) ≡ shown → (length slots ≡ places) × (n ≤ places) × AreSome (take n slots) → length shown < places → n < length slots
  room-left n places slots shown is kept room =
      let all = shown-length n places slots shown is kept in
      omega (arith, all, room, kept.0)

  pub AreSome-store : (slots : List (Option T)) (n : ℕ) (x : T) → AreSome (take n slots) → n < length slots → AreSome (take (n + 1) (set slots n (Some x)))
  AreSome-store slots n x h within = rw (take_more_set slots n (Some x) within) (AreSome-push (take n slots) x h)

  pub somes-store : (slots : List (Option T)) (n : ℕ) (x : T) → AreSome (take n slots) → n < length slots → somes (take (n + 1) (set slots n (Some x))) ≡ somes (take n slots) ++ x ∷ []
  somes-store slots n x h within = ap somes (take_more_set slots n (Some x) within) ∙ somes-push (take n slots) x h

  pub AreSome-lend : (slots : List (Option T)) (n i : ℕ) (x : T) → AreSome (take n slots) → i < n → AreSome (take n (set slots i (Some x)))
  AreSome-lend slots n i x h below = rw (take-set-lt n slots i (Some x) below) (AreSome-set (take n slots) i x h)

  pub somes-lend : (slots : List (Option T)) (n i : ℕ) (x : T) → AreSome (take n slots) → i < n → somes (take n (set slots i (Some x))) ≡ set (somes (take n slots)) i x
  somes-lend slots n i x h below = ap somes (take-set-lt n slots i (Some x) below) ∙ somes-set (take n slots) i x h

  read_in_use : (slots : List (Option T)) (n i : ℕ) (r : Option T) → i < n → r ≡ get_or slots i r → r ≡ get_or (take n slots) i r
  read_in_use slots zero i r below read = absurd (omega (arith, below))
  read_in_use [] (suc n) i r below read = read
  read_in_use (s ∷ slots) (suc n) zero r below read = read
  read_in_use (s ∷ slots) (suc n) (suc i) r below read = read_in_use slots n i r (omega (arith, below)) read

  pub slot_held : (slots : List (Option T)) (n i : ℕ) (r : Option T) → AreSome (take n slots) → n ≤ length slots → i < n → r ≡ get_or slots i r → slice_get (somes (take n slots)) i ≡ r
  slot_held slots n i r h within below read =
      slot_read (take n slots) i r h (omega (arith, length-take-le n slots within, below)) (read_in_use slots n i r below read)

pub ruleset slot_edits = (somes-map, IsSome-slot, slot_read, AreSome-set_read, length-somes, somes-push, AreSome-push, somes-set, AreSome-set, somes-insert, AreSome-insert, somes-remove, AreSome-remove, somes-take, AreSome-take, somes-drop, AreSome-drop, somes-append, AreSome-append, slice_get-somes)
