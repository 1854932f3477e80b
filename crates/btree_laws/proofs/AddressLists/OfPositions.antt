-- The lists of addresses of a tree are what is kept of its positions.
use Rattle.btree_laws.proofs.Common.{◌≡◌, ◌<◌, ◌++◌, ◌∷◌, [], ◌∙◌, ℕ, zero, suc, Bool, true, false, List, map, Option, Some, None, refl, sym, ap, arith, AllByRecursion, flat_map, is_some, Address, View, leaf, internal, NodeMap, Holds, Subtree, id_of, Position, branch_key, branch_positions, address_at, positions_from, positions}
use Rattle.btree_laws.specs.Addresses.{slots, slots_to_end, item_addresses, item_addresses_in, leaf_backs, leaf_backs_in, backs, backs_in, fronts, fronts_in}
use Rattle.btree_laws.proofs.AddressLists.Kept.{kept, kept-append, put}

-- which positions are kept: those at an item; the back ones in a leaf; the back ones; the front ones
abbrev pub keep_item : {A : Type 0} → Address → Option A → Bool
keep_item a item = is_some item

abbrev pub is_leaf_back : {A : Type 0} → Option (View A) → Option ℕ → Bool
is_leaf_back None offset = false
is_leaf_back (Some (leaf parent items)) offset = is_some offset
is_leaf_back (Some (internal parent first branches)) offset = false

abbrev pub keep_leaf_back : {A : Type 0} → NodeMap A → Address → Option A → Bool
keep_leaf_back node_at a item = is_leaf_back (node_at a.id) a.offset

abbrev pub keep_back : {A : Type 0} → Address → Option A → Bool
keep_back a item = is_some a.offset

abbrev pub is_front : {A : Type 0} → Option ℕ → Option A → Bool
is_front None item = true
is_front (Some offset) item = is_some item

abbrev pub keep_front : {A : Type 0} → Address → Option A → Bool
keep_front a item = is_front a.offset item

map-self : {A : Type 0} (xs : List A) → map {B = A} (λ (x : A). x) xs ≡ xs
map-self [] = refl
map-self (x ∷ xs) = ap (λ l. x ∷ l) (map-self xs)

module _ {A : Type 0} (keep : Address → Option A → Bool) where
  joined : (first more : List Address) (ts ss : List (Position A)) → first ≡ kept keep ts → more ≡ kept keep ss
      → first ++ more ≡ kept keep (ts ++ ss)
  joined first more ts ss e f = ap (λ z. z ++ more) e ∙ (ap (λ z. kept keep ts ++ z) f ∙ sym (kept-append keep ts ss))

  -- what is kept of a row of a node
  module _ {X Y : Type 0} (f : X → Y) (list : Y → List Address) (key : X → A) (below : X → List (Position A)) (id : ℕ) where
    node_positions-slots : (offset : ℕ) (xs : List X) → ((o : ℕ) (x : A) → keep (address_at id o) (Some x) ≡ true) → ((o : ℕ) → keep (address_at id o) None ≡ false)
        → AllByRecursion (λ x. list (f x) ≡ kept keep (below x)) xs
        → slots list id offset (map {B = Y} f xs) ≡ kept keep (positions_from key below id offset xs)
    node_positions-slots offset [] each last d = sym (ap (λ c. put c (address_at id offset) []) (last offset))
    node_positions-slots offset (x ∷ xs) each last d =
        ap (λ z. address_at id offset ∷ z)
        (joined (list (f x)) (slots list id (suc offset) (map {B = Y} f xs)) (below x) (positions_from key below id (suc offset) xs) d.0
        (node_positions-slots (suc offset) xs each last d.1))
        ∙ sym (ap (λ c. put c (address_at id offset) (kept keep (below x ++ positions_from key below id (suc offset) xs))) (each offset (key x)))

    node_positions-to-end : (offset : ℕ) (xs : List X) → ((o : ℕ) (item : Option A) → keep (address_at id o) item ≡ true)
        → AllByRecursion (λ x. list (f x) ≡ kept keep (below x)) xs
        → slots_to_end list id offset (map {B = Y} f xs) ≡ kept keep (positions_from key below id offset xs)
    node_positions-to-end offset [] each d = sym (ap (λ c. put c (address_at id offset) []) (each offset None))
    node_positions-to-end offset (x ∷ xs) each d =
        ap (λ z. address_at id offset ∷ z)
        (joined (list (f x)) (slots_to_end list id (suc offset) (map {B = Y} f xs)) (below x) (positions_from key below id (suc offset) xs) d.0
        (node_positions-to-end (suc offset) xs each d.1))
        ∙ sym (ap (λ c. put c (address_at id offset) (kept keep (below x ++ positions_from key below id (suc offset) xs))) (each offset (Some (key x))))

    node_positions-below : (offset : ℕ) (xs : List X) → ((o : ℕ) (item : Option A) → keep (address_at id o) item ≡ false)
        → AllByRecursion (λ x. list (f x) ≡ kept keep (below x)) xs
        → flat_map list (map {B = Y} f xs) ≡ kept keep (positions_from key below id offset xs)
    node_positions-below offset [] each d = sym (ap (λ c. put c (address_at id offset) []) (each offset None))
    node_positions-below offset (x ∷ xs) each d =
        joined (list (f x)) (flat_map list (map {B = Y} f xs)) (below x) (positions_from key below id (suc offset) xs) d.0
        (node_positions-below (suc offset) xs each d.1)
        ∙ sym (ap (λ c. put c (address_at id offset) (kept keep (below x ++ positions_from key below id (suc offset) xs))) (each offset (Some (key x))))

  -- an entry of a leaf has nothing below it
  none-below : (xs : List A) → AllByRecursion {X = A} (λ x. ◌≡◌ {A = List Address} [] (kept keep [])) xs
  none-below [] = tt
  none-below (x ∷ xs) = (refl, none-below xs)

  module _ (node_at : NodeMap A) (list : ℕ → List Address) (h : ℕ) (p : Option ℕ)
      (each : (t : Subtree A h) → Holds A node_at h p t → list (id_of A h t) ≡ kept keep (positions A h t)) where
    branches-below : (bs : List (A × Subtree A h)) → AllByRecursion (λ b. Holds A node_at h p b.1) bs
        → AllByRecursion (λ b. list (id_of A h b.1) ≡ kept keep (positions A h b.1)) bs
    branches-below [] d = tt
    branches-below (b ∷ bs) d = (each b.1 d.0, branches-below bs d.1)

-- each branch with the number of its child
abbrev named : {A : Type 0} (h : ℕ) → A × Subtree A h → A × ℕ
named {A} h b = (b.0, id_of A h b.1)

module _ {A : Type 0} (node_at : NodeMap A) where
  pub item-positions : (h levels : ℕ) (p : Option ℕ) (t : Subtree A h) → h < levels → Holds A node_at h p t
      → item_addresses node_at levels (id_of A h t) ≡ kept keep_item (positions A h t)
  item-positions h zero p t l d = absurd (omega arith)
  item-positions zero (suc levels) p t l d =
      ap (item_addresses_in (item_addresses node_at levels) t.0) d
      ∙ (ap (λ xs. slots {X = A} (λ x. []) t.0 0 xs) (sym (map-self t.1))
      ∙ node_positions-slots keep_item {X = A} {Y = A} (λ x. x) (λ x. []) (λ x. x) (λ x. []) t.0 0 t.1 (λ o x. refl) (λ o. refl)
      (none-below keep_item t.1))
  item-positions (suc h) (suc levels) p t l d =
      let below = λ (q : Option ℕ) (s : Subtree A h) (e : Holds A node_at h q s). item-positions h levels q s (omega arith) e in
      ap (item_addresses_in (item_addresses node_at levels) t.0) d.0
      ∙ joined keep_item (item_addresses node_at levels (id_of A h t.1))
      (slots {X = A × ℕ} (λ b. item_addresses node_at levels b.1) t.0 0 (map {B = A × ℕ} (named h) t.2)) (positions A h t.1)
      (positions_from (branch_key A h) (branch_positions A h) t.0 0 t.2) (below (Some t.0) t.1 d.1)
      (node_positions-slots keep_item (named h) (λ (b : A × ℕ). item_addresses node_at levels b.1) (branch_key A h) (branch_positions A h) t.0 0 t.2
      (λ o x. refl) (λ o. refl)
      (branches-below keep_item node_at (item_addresses node_at levels) h (Some t.0) (below (Some t.0)) t.2 d.2))

  pub leaf-back-positions : (h levels : ℕ) (p : Option ℕ) (t : Subtree A h) → h < levels → Holds A node_at h p t
      → leaf_backs node_at levels (id_of A h t) ≡ kept (keep_leaf_back node_at) (positions A h t)
  leaf-back-positions h zero p t l d = absurd (omega arith)
  leaf-back-positions zero (suc levels) p t l d =
      let node_positions : List (Position A) = positions_from {A = A} {X = A} (λ x. x) (λ x. []) t.0 0 t.1 in
      let is = λ (o : Option ℕ). ap (λ v. is_leaf_back {A = A} v o) d in
      ap (leaf_backs_in (leaf_backs node_at levels) t.0) d
      ∙ (ap (λ xs. slots_to_end {X = A} (λ x. []) t.0 0 xs) (sym (map-self t.1))
      ∙ (node_positions-to-end (keep_leaf_back node_at) {X = A} {Y = A} (λ x. x) (λ x. []) (λ x. x) (λ x. []) t.0 0 t.1 (λ o item. is (Some o))
      (none-below (keep_leaf_back node_at) t.1)
      ∙ sym (ap (λ c. put c (record { id = t.0; offset = None }) (kept (keep_leaf_back node_at) node_positions)) (is None))))
  leaf-back-positions (suc h) (suc levels) p t l d =
      let below = λ (q : Option ℕ) (s : Subtree A h) (e : Holds A node_at h q s). leaf-back-positions h levels q s (omega arith) e in
      let is = λ (o : Option ℕ). ap (λ v. is_leaf_back {A = A} v o) d.0 in
      ap (leaf_backs_in (leaf_backs node_at levels) t.0) d.0
      ∙ (joined (keep_leaf_back node_at) (leaf_backs node_at levels (id_of A h t.1))
      (flat_map (λ (b : A × ℕ). leaf_backs node_at levels b.1) (map {B = A × ℕ} (named h) t.2)) (positions A h t.1)
      (positions_from (branch_key A h) (branch_positions A h) t.0 0 t.2) (below (Some t.0) t.1 d.1)
      (node_positions-below (keep_leaf_back node_at) (named h) (λ (b : A × ℕ). leaf_backs node_at levels b.1) (branch_key A h) (branch_positions A h) t.0 0 t.2
      (λ o item. is (Some o))
      (branches-below (keep_leaf_back node_at) node_at (leaf_backs node_at levels) h (Some t.0) (below (Some t.0)) t.2 d.2))
      ∙ sym (ap (λ c. put c (record { id = t.0; offset = None })
      (kept (keep_leaf_back node_at) (positions A h t.1 ++ positions_from (branch_key A h) (branch_positions A h) t.0 0 t.2))) (is None)))

  pub back-positions : (h levels : ℕ) (p : Option ℕ) (t : Subtree A h) → h < levels → Holds A node_at h p t
      → backs node_at levels (id_of A h t) ≡ kept keep_back (positions A h t)
  back-positions h zero p t l d = absurd (omega arith)
  back-positions zero (suc levels) p t l d =
      ap (backs_in (backs node_at levels) t.0) d
      ∙ (ap (λ xs. slots_to_end {X = A} (λ x. []) t.0 0 xs) (sym (map-self t.1))
      ∙ node_positions-to-end keep_back {X = A} {Y = A} (λ x. x) (λ x. []) (λ x. x) (λ x. []) t.0 0 t.1 (λ o item. refl)
      (none-below keep_back t.1))
  back-positions (suc h) (suc levels) p t l d =
      let below = λ (q : Option ℕ) (s : Subtree A h) (e : Holds A node_at h q s). back-positions h levels q s (omega arith) e in
      ap (backs_in (backs node_at levels) t.0) d.0
      ∙ joined keep_back (backs node_at levels (id_of A h t.1))
      (slots_to_end {X = A × ℕ} (λ b. backs node_at levels b.1) t.0 0 (map {B = A × ℕ} (named h) t.2)) (positions A h t.1)
      (positions_from (branch_key A h) (branch_positions A h) t.0 0 t.2) (below (Some t.0) t.1 d.1)
      (node_positions-to-end keep_back (named h) (λ (b : A × ℕ). backs node_at levels b.1) (branch_key A h) (branch_positions A h) t.0 0 t.2
      (λ o item. refl)
      (branches-below keep_back node_at (backs node_at levels) h (Some t.0) (below (Some t.0)) t.2 d.2))

  pub front-positions : (h levels : ℕ) (p : Option ℕ) (t : Subtree A h) → h < levels → Holds A node_at h p t
      → fronts node_at levels (id_of A h t) ≡ kept keep_front (positions A h t)
  front-positions h zero p t l d = absurd (omega arith)
  front-positions zero (suc levels) p t l d =
      ap (fronts_in (fronts node_at levels) t.0) d
      ∙ ap (λ z. record { id = t.0; offset = None } ∷ z) (ap (λ xs. slots {X = A} (λ x. []) t.0 0 xs) (sym (map-self t.1))
      ∙ node_positions-slots keep_front {X = A} {Y = A} (λ x. x) (λ x. []) (λ x. x) (λ x. []) t.0 0 t.1 (λ o x. refl) (λ o. refl)
      (none-below keep_front t.1))
  front-positions (suc h) (suc levels) p t l d =
      let below = λ (q : Option ℕ) (s : Subtree A h) (e : Holds A node_at h q s). front-positions h levels q s (omega arith) e in
      ap (fronts_in (fronts node_at levels) t.0) d.0
      ∙ ap (λ z. record { id = t.0; offset = None } ∷ z) (joined keep_front (fronts node_at levels (id_of A h t.1))
      (slots {X = A × ℕ} (λ b. fronts node_at levels b.1) t.0 0 (map {B = A × ℕ} (named h) t.2)) (positions A h t.1)
      (positions_from (branch_key A h) (branch_positions A h) t.0 0 t.2) (below (Some t.0) t.1 d.1)
      (node_positions-slots keep_front (named h) (λ (b : A × ℕ). fronts node_at levels b.1) (branch_key A h) (branch_positions A h) t.0 0 t.2
      (λ o x. refl) (λ o. refl)
      (branches-below keep_front node_at (fronts node_at levels) h (Some t.0) (below (Some t.0)) t.2 d.2)))
