-- The branches of an internal node as pairs, items and children.
use Rattle.btree_internal.proofs.Common.{◌≡◌, ℕ, ◌+◌, ◌-◌, ◌<◌, List, [], ◌∷◌, Option, Some, Ok, Ordering, map, zero, suc, refl, sym, ◌∙◌, ap, arith, length, drop, ◌++◌, length-map, slice_get, place_of, internal_with_value_at, map-append, option_map, Branch, Internal, branch_pair, internal_view, internal, items_of, children_of}
use Rattle.std.proofs.Common.{set, take}
use Rattle.std.specs.Cmp.{IsTotalOrder}
use Rattle.std.specs.List.{insert, remove, zip}
use Rattle.btree_item.specs.Pairs.{Ascends}
use Rattle.btree_item.specs.KeyLaws.{cuts_of}
use Rattle.btree_item.proofs.PairLemmas.{set-from_Ok}
use Rattle.btree_internal.specs.InternalLends.{internal_with_item_at, internal_with_value, with_value_read}
use Rattle.std.specs.Map.{keys_of}
use Rattle.std.proofs.lemmas.List.{take-map, drop-map}
use Rattle.std.specs.Option.{option_and_then}
use Rattle.std.proofs.lemmas.Option.{slice_get-map}
use Rattle.btree_view.specs.Edits.{with_item_at, with_other_item, without}
use Rattle.btree_view.specs.View.{size_of}
use Rattle.btree_view.proofs.Cuts.{last_out}

pub map_insert : {A B : Type 0} (f : A → B) (xs : List A) (i : ℕ) (x : A) → map f (insert xs i x) ≡ insert (map f xs) i (f x)
map_insert f xs i x =
    map-append f (take i xs) (x ∷ drop i xs)
    ∙ ap (λ l. l ++ f x ∷ map f (drop i xs)) (sym (take-map f i xs))
    ∙ ap (λ l. take i (map f xs) ++ f x ∷ l) (sym (drop-map f i xs))

pub map_remove : {A B : Type 0} (f : A → B) (xs : List A) (i : ℕ) → map f (remove xs i) ≡ remove (map f xs) i
map_remove f xs i =
    map-append f (take i xs) (drop (suc i) xs)
    ∙ ap (λ l. l ++ map f (drop (suc i) xs)) (sym (take-map f i xs))
    ∙ ap (λ l. take i (map f xs) ++ l) (sym (drop-map f (suc i) xs))

first_out : {T : Type 0} (xs rest : List T) (x : T) → slice_get xs 0 ≡ Some x → rest ≡ remove xs 0 → xs ≡ x ∷ rest
first_out [] rest x at is = absurd (cc)
first_out (y ∷ ys) rest x at is = ap (λ z. z ∷ ys) (cc) ∙ ap (λ l. x ∷ l) (sym is)

module _ {K V : Type 0} where
  pub items-pairs : (bs : List (Branch K V)) → map (λ b. b.0) (map branch_pair bs) ≡ map (λ b. b.item) bs
  items-pairs [] = refl
  items-pairs (b ∷ bs) = ap (λ rest. b.item ∷ rest) (items-pairs bs)

  pub children-pairs : (bs : List (Branch K V)) → map (λ b. b.1) (map branch_pair bs) ≡ map (λ b. b.child) bs
  children-pairs [] = refl
  children-pairs (b ∷ bs) = ap (λ rest. b.child ∷ rest) (children-pairs bs)

  pub keys-branches : (bs : List (Branch K V)) → map (λ b. b.item.0) bs ≡ keys_of (map (λ b. b.item) bs)
  keys-branches [] = refl
  keys-branches (b ∷ bs) = ap (λ rest. b.item.0 ∷ rest) (keys-branches bs)

  -- the child at an index after the first is that of the branch before it
  pub child-after : (first i : ℕ) (bs : List (Branch K V)) (o : Option (Branch K V)) (children : List ℕ) → 0 < i → first ∷ map (λ b. b.child) bs ≡ children → o ≡ slice_get bs (i - 1) → option_map (λ b. b.child) o ≡ slice_get children i
  child-after first zero bs o children after are at = absurd (omega arith)
  child-after first (suc i) bs o children after are at =
      let same : suc i - 1 ≡ i = omega arith in
      ap (option_map (λ b. b.child)) (at ∙ ap (slice_get bs) same)
      ∙ sym (slice_get-map (λ b. b.child) bs i)
      ∙ ap (λ l. slice_get l (suc i)) are

  pub item-at : (bs : List (Branch K V)) (o : Option (Branch K V)) (i : ℕ) (items : List (K × V)) (offset : Option ℕ) → map (λ b. b.item) bs ≡ items → Some i ≡ offset → o ≡ slice_get bs i → option_map (λ b. b.item) o ≡ option_and_then (slice_get items) offset
  item-at bs o i items offset are is at =
      ap (option_map (λ b. b.item)) at
      ∙ sym (slice_get-map (λ b. b.item) bs i)
      ∙ ap (λ l. slice_get l i) are
      ∙ ap (option_and_then (slice_get items)) is

  zip-pairs : (bs : List (Branch K V)) → zip (map (λ b. b.item) bs) (map (λ b. b.1) (map branch_pair bs)) ≡ map branch_pair bs
  zip-pairs [] = refl
  zip-pairs (b ∷ bs) = ap (λ rest. branch_pair b ∷ rest) (zip-pairs bs)

  -- an item replaced in a branch
  set-pairs : (bs : List (Branch K V)) (i : ℕ) (b : Branch K V) (item : K × V) → slice_get bs i ≡ Some b → map branch_pair (set bs i (record b { item = item })) ≡ zip (set (map (λ c. c.item) bs) i item) (map (λ c. c.1) (map branch_pair bs))
  set-pairs [] i b item at = refl
  set-pairs (x ∷ bs) zero b item at =
      let same : x ≡ b = cc in
      ap (λ c. (item, c.child) ∷ map branch_pair bs) (sym same) ∙ ap (λ rest. (item, x.child) ∷ rest) (sym (zip-pairs bs))
  set-pairs (x ∷ bs) (suc i) b item at = ap (λ rest. branch_pair x ∷ rest) (set-pairs bs i b item at)

  module _ (node : Internal K V) (parent : Option ℕ) (first : ℕ) (bs : List (Branch K V)) (is : record { parent = parent; first = first; branches = map branch_pair bs } ≡ node) where
    pub branches_are : map branch_pair bs ≡ node.branches
    branches_are = ap (λ n. n.branches) is

    pub long_as_branches : length bs ≡ length node.branches
    long_as_branches = sym (length-map bs branch_pair) ∙ ap length branches_are

    pub items_are : map (λ b. b.item) bs ≡ items_of (internal_view node)
    items_are = sym (items-pairs bs) ∙ ap (map (λ b. b.0)) branches_are

    pub children_are : first ∷ map (λ b. b.child) bs ≡ children_of (internal_view node)
    children_are = ap (λ rest. first ∷ rest) (sym (children-pairs bs)) ∙ ap (λ n. n.first ∷ map (λ b. b.1) n.branches) is

    pub long_as_items : length bs ≡ size_of (internal_view node)
    long_as_items = sym (length-map bs (λ b. b.item)) ∙ ap length items_are

    pub insert-view : (b : Branch K V) (new : List (Branch K V)) (offset : Option ℕ) (i : ℕ) → offset ≡ Some i → new ≡ insert bs i b → internal parent first (map branch_pair new) ≡ with_item_at offset b.item (Some b.child) (internal_view node)
    insert-view b new offset i offset_is new_is =
        let put = ap (map branch_pair) new_is ∙ map_insert branch_pair bs i b ∙ ap (λ l. insert l i (branch_pair b)) branches_are in
        let at_index : internal parent first (map branch_pair new) ≡ with_item_at (Some i) b.item (Some b.child) (internal_view node) = λ j. internal ((ap (λ n. n.parent) is) j) ((ap (λ n. n.first) is) j) (put j) in
        at_index ∙ ap (λ o. with_item_at o b.item (Some b.child) (internal_view node)) (sym offset_is)

    pub there : (i : ℕ) (b : Branch K V) → slice_get bs i ≡ Some b → slice_get (items_of (internal_view node)) i ≡ Some b.item
    there i b at = ap (λ l. slice_get l i) (sym items_are) ∙ slice_get-map (λ c. c.item) bs i ∙ ap (option_map (λ c. c.item)) at

    pub child_behind : (i : ℕ) (b : Branch K V) → slice_get bs i ≡ Some b → slice_get (children_of (internal_view node)) (i + 1) ≡ Some b.child
    child_behind i b at =
        let next : i + 1 ≡ suc i = omega arith in
        ap (λ l. slice_get l (i + 1)) (sym children_are)
        ∙ ap (slice_get (first ∷ map (λ c. c.child) bs)) next
        ∙ slice_get-map (λ c. c.child) bs i
        ∙ ap (option_map (λ c. c.child)) at

    pub remove-view : (new : List (Branch K V)) (i : ℕ) → new ≡ remove bs i → internal parent first (map branch_pair new) ≡ without i (internal_view node)
    remove-view new i new_is =
        let gone = ap (map branch_pair) new_is ∙ map_remove branch_pair bs i ∙ ap (λ l. remove l i) branches_are in
        λ j. internal ((ap (λ n. n.parent) is) j) ((ap (λ n. n.first) is) j) (gone j)

    pub pop_left-view : (new : List (Branch K V)) (b : Branch K V) → slice_get bs 0 ≡ Some b → new ≡ remove bs 0 → internal_view node ≡ internal parent first (branch_pair b ∷ map branch_pair new)
    pop_left-view new b at new_is =
        sym (ap internal_view is) ∙ ap (λ l. internal parent first (map branch_pair l)) (first_out bs new b at new_is)

    pub pop_right-view : (new : List (Branch K V)) (b : Branch K V) → Some b ≡ slice_get bs (length bs - 1) → new ≡ take (length bs - 1) bs → internal_view node ≡ internal parent first (map branch_pair new ++ branch_pair b ∷ [])
    pop_right-view new b at new_is =
        sym (ap internal_view is)
        ∙ ap (λ l. internal parent first (map branch_pair l)) (last_out bs new b at new_is)
        ∙ ap (internal parent first) (map-append branch_pair new (b ∷ []))

    pub item-read : (i : ℕ) (o : Option (Branch K V)) (x : Option (K × V)) → o ≡ slice_get bs i → x ≡ option_map (λ b. b.item) o → x ≡ slice_get (items_of (internal_view node)) i
    item-read i o x at read =
        read ∙ ap (option_map (λ c. c.item)) at ∙ sym (slice_get-map (λ c. c.item) bs i) ∙ ap (λ l. slice_get l i) items_are

    pub item-written : (i : ℕ) (b : Branch K V) → slice_get bs i ≡ Some b → (x : K × V) → record { parent = parent; first = first; branches = map branch_pair (set bs i (record b { item = x })) } ≡ internal_with_item_at (Some i) node x
    unfolding internal_with_item_at
    item-written i b at x =
        let put = set-pairs bs i b x at ∙ ap (λ l. zip (set l i x) (map (λ c. c.1) (map branch_pair bs))) (sym (items-pairs bs)) in
        ap (λ bs. record { parent = parent; first = first; branches = bs }) put ∙ ap (λ n. internal_with_item_at (Some i) n x) is

    pub value-at : (i : ℕ) (b : Branch K V) → slice_get bs i ≡ Some b → (w : V) → record { parent = parent; first = first; branches = map branch_pair (set bs i (record b { item = (b.item.0, w) })) } ≡ internal_with_value_at i node w
    unfolding internal_with_value_at
    value-at i b at w =
        let items = items_of (internal_view node) in
        let read = ap (λ r. with_value_read r items i w) (there i b at) in
        let put = set-pairs bs i b (b.item.0, w) at
        ∙ ap (λ l. zip (set l i (b.item.0, w)) (map (λ c. c.1) (map branch_pair bs))) items_are
        ∙ ap (λ l. zip (set items i (b.item.0, w)) (map (λ c. c.1) l)) branches_are
        ∙ ap (λ l. zip l (map (λ c. c.1) node.branches)) (sym read) in
        λ j. record { parent = (ap (λ n. n.parent) is) j; first = (ap (λ n. n.first) is) j; branches = put j }

  pub replaced-view : (node : Internal K V) (i : ℕ) (x : K × V) → internal_view (internal_with_item_at (Some i) node x) ≡ with_other_item i x (internal_view node)
  unfolding internal_with_item_at
  replaced-view node i x = refl

  -- a value written at the place of its key
  pub with_value-from_at : (cmp : K → K → Ordering) → IsTotalOrder cmp → (node : Internal K V) (k : K) (i : ℕ) (x : K × V) → Ascends cmp (items_of (internal_view node)) → place_of cmp k (items_of (internal_view node)) ≡ Ok i → slice_get (items_of (internal_view node)) i ≡ Some x → (w : V) → internal_with_value_at i node w ≡ internal_with_value cmp k node w
  unfolding internal_with_value_at internal_with_value
  with_value-from_at cmp o node k i x up place at w =
      let items = items_of (internal_view node) in
      let written = ap (λ r. with_value_read r items i w) at ∙ set-from_Ok cmp (cuts_of o) k w items i x up place at in
      ap (λ l. record node { branches = zip l (map (λ c. c.1) node.branches) }) written
