-- What is written is read again: fields, places, and the whole.
use Rattle.std.proofs.Common.{◌≡◌, ℕ, suc, ◌+◌, ◌-◌, ◌^◌, ◌<◌, ◌≤◌, Bool, true, false, ltb, eqb, List, [], ◌∷◌, ◌++◌, length, take, Option, Some, None, IsSome, Ok, refl, sym, ap, ◌∙◌, append_assoc, arith}
use Rattle.std.specs.Prelude.{IfSome, slice_get}
use Rattle.std.specs.Int.{w64, from_be_bytes}
use Rattle.std.specs.List.{flat_map}
use Rattle.std.proofs.lemmas.Bool.{eqb-true, eq-eqb, le-ltb, ne_eqb}
use Rattle.std.proofs.lemmas.List.{append-nil, take_at, drop_at, length-append}
use Rattle.std.proofs.lemmas.List.Concat.{flat_map-cons}
use Rattle.btree_item.specs.declared.TheConstants.{INTERNAL_SLOTS, LEAF_SLOTS}
use Rattle.btree_view.specs.View.{View}
use Rattle.btree_view.specs.View.{leaf, internal}
use Rattle.btree_image.specs.declared.TheConstants.{MAGIC, VERSION}
use Rattle.btree_image.specs.declared.fault.BadImage.{BadImage}
use Rattle.btree_image.specs.declared.fault.BadImage.TheVariants.{Magic, Sum, Version}
use Rattle.btree_image.specs.declared.head.Head.{Head}
use Rattle.btree_image.specs.Image.{branch, check_sum, number, place, word}
use Rattle.btree_spelled.specs.NumberLaws.{wide64}
use Rattle.btree_spelled.specs.Pairs.{pair_bytes}
use Rattle.btree_image.specs.Reading.{body_at, branch_at, count_at, end_at, head_at, image_at, image_of, internal_at, internal_with, item_at, leaf_at, leaf_with, many, number_at, place_at, this_at, word_at}
use Rattle.btree_image.specs.Parse.{Parse}
use Rattle.btree_spelled.specs.Spelled.{Read}
use Rattle.btree_image.specs.Written.{AreBranchesRead, AreItemsRead, AreReadBy, IsItemRead, IsPlaceRead, IsReadBy}

-- ---- words

word_front : (front rest : List ℕ) → length front ≡ 8 → word_at (front ++ rest) ≡ Ok (from_be_bytes w64 front, rest)
unfolding word_at
word_front front rest len =
    let long : ltb (length (front ++ rest)) 8 ≡ false = le-ltb _ _ (omega (arith, length-append front rest)) in
    rw (long, take_at front rest 8 len, drop_at front rest 8 len) refl

pub word-again : (n : ℕ) (rest : List ℕ) → n < 2 ^ 64 → word_at (word n ++ rest) ≡ Ok (n, rest)
word-again n rest lt = word_front (word n) rest (wide64.len n) ∙ ap (λ (k : ℕ). Ok (k, rest)) (wide64.again n lt)

pub this-again : (wanted : ℕ) (fault : BadImage) (rest : List ℕ) → wanted < 2 ^ 64 → this_at wanted fault (word wanted ++ rest) ≡ Ok (wanted, rest)
unfolding this_at
this-again wanted fault rest lt = rw (word-again wanted rest lt, eq-eqb wanted wanted refl) refl

pub number-again : (o : Option ℕ) (rest : List ℕ) → IfSome o (λ n. n < 2 ^ 64 - 1) → number_at (number o ++ rest) ≡ Ok (o, rest)
unfolding number_at
number-again None rest h = rw (word-again (2 ^ 64 - 1) rest (omega arith)) refl
number-again (Some n) rest h =
    let differs : eqb n (2 ^ 64 - 1) ≡ false = ne_eqb n (2 ^ 64 - 1) (λ e. omega arith) in
    rw (word-again n rest (omega arith), differs) refl

pub count-again : (most n : ℕ) (rest : List ℕ) → 0 < n → n ≤ most → most < 2 ^ 64 → count_at most (word n ++ rest) ≡ Ok (n, rest)
unfolding count_at
count-again most n rest some fits lt =
    let none : eqb n 0 ≡ false = ne_eqb n 0 (λ e. omega arith) in
    let within : ltb most n ≡ false = le-ltb _ _ fits in
    rw (word-again n rest (omega arith), none, within) refl

-- ---- lists

pub many-again : {X : Type 0} (parse : Parse X) (spell : X → List ℕ) (xs : List X) (rest : List ℕ) → AreReadBy parse spell xs → many (λ left. parse) (length xs) (flat_map spell xs ++ rest) ≡ Ok (xs, rest)
unfolding many
many-again parse spell [] rest h = refl
many-again parse spell (x ∷ xs) rest h =
    let one : parse (spell x ++ (flat_map spell xs ++ rest)) ≡ Ok (x, flat_map spell xs ++ rest) = h 0 (flat_map spell xs ++ rest) in
    let others = many-again parse spell xs rest (λ k. h (suc k)) in
    rw (flat_map-cons spell x xs, append_assoc, one, others) refl

abbrev pub head_text : Head → List ℕ
head_text head = word MAGIC ++ word VERSION ++ number head.root ++ word head.len ++ word head.limit ++ word head.count

-- the numbers of a head are words
pub record FitsHead (head : Head) : Type 0 where
  pub root : IfSome head.root (λ n. n < 2 ^ 64 - 1)
  pub len : head.len < 2 ^ 64
  pub limit : head.limit < 2 ^ 64
  pub count : head.count < 2 ^ 64

head-again : (head : Head) (rest : List ℕ) → FitsHead head → head_at (head_text head ++ rest) ≡ Ok (head, rest)
unfolding head_at
head-again head rest fits =
    let count : List ℕ = word head.count ++ rest in
    let limit : List ℕ = word head.limit ++ count in
    let len : List ℕ = word head.len ++ limit in
    let root : List ℕ = number head.root ++ len in
    let version : List ℕ = word VERSION ++ root in
    let shape : head_text head ++ rest ≡ word MAGIC ++ version = simp append_assoc in
    rw (shape, this-again MAGIC Magic version (omega arith), this-again VERSION Version root (omega arith), number-again head.root len fits.root, word-again head.len limit fits.len, word-again head.limit count fits.limit, word-again head.count rest fits.count) refl

-- ---- nodes and places

module _ {K V : Type 0} (spell_key : K → List ℕ) (spell_value : V → List ℕ) (read_key : Read K) (read_value : Read V) where
  abbrev spell : K × V → List ℕ
  spell = pair_bytes spell_key spell_value

  abbrev item_read : K × V → Type 0
  item_read = IsItemRead spell_key spell_value read_key read_value

  pub item-again : (x : K × V) → ((rest : List ℕ) → read_key (spell_key x.0 ++ rest) ≡ Some (x.0, rest)) → ((rest : List ℕ) → read_value (spell_value x.1 ++ rest) ≡ Some (x.1, rest)) → item_read x
  unfolding item_at
  item-again x key value rest = rw (append_assoc (spell_key x.0) (spell_value x.1) rest, key, value) refl

  pub branch-again : (x : K × V) (child : ℕ) → item_read x → IsReadBy word_at word child → IsReadBy (branch_at read_key read_value) (branch spell) (x, child)
  unfolding branch_at
  branch-again x child h low rest = rw (append_assoc (spell x) (word child) rest, h, low rest) refl

  pub vacant-again : (is_last : Bool) (rest : List ℕ) → is_last ≡ false → place_at read_key read_value is_last (place spell None ++ rest) ≡ Ok (None, rest)
  unfolding place_at
  vacant-again true rest e = absurd cc
  vacant-again false rest e = rw (word-again 0 rest (omega arith)) refl

  leaf_read : (parent : Option ℕ) (items : List (K × V)) (rest : List ℕ) → IfSome parent (λ n. n < 2 ^ 64 - 1) → 0 < length items → length items ≤ LEAF_SLOTS → AreItemsRead spell_key spell_value read_key read_value items
      → leaf_at read_key read_value (number parent ++ (word (length items) ++ (flat_map spell items ++ rest))) ≡ Ok (leaf parent items, rest)
  unfolding leaf_at leaf_with
  leaf_read parent items rest bound some fits each =
      rw (number-again parent (word (length items) ++ (flat_map spell items ++ rest)) bound, count-again LEAF_SLOTS (length items) (flat_map spell items ++ rest) some fits (omega arith), many-again (item_at read_key read_value) spell items rest each) refl

  pub leaf-again : (parent : Option ℕ) (items : List (K × V)) → IfSome parent (λ n. n < 2 ^ 64 - 1) → 0 < length items → length items ≤ LEAF_SLOTS → AreItemsRead spell_key spell_value read_key read_value items
      → IsPlaceRead spell_key spell_value read_key read_value (Some (leaf parent items))
  unfolding place_at
  leaf-again parent items bound some fits each is_last last rest =
      let after : List ℕ = number parent ++ (word (length items) ++ (flat_map spell items ++ rest)) in
      let shape : place spell (Some (leaf parent items)) ++ rest ≡ word 1 ++ after = simp append_assoc in
      rw (shape, word-again 1 after (omega arith), leaf_read parent items rest bound some fits each) refl

  internal_read : (parent : Option ℕ) (first : ℕ) (branches : List ((K × V) × ℕ)) (rest : List ℕ) → IfSome parent (λ n. n < 2 ^ 64 - 1) → IsReadBy word_at word first → 0 < length branches → length branches ≤ INTERNAL_SLOTS
      → AreBranchesRead spell_key spell_value read_key read_value branches
      → internal_at read_key read_value (number parent ++ (word (length branches) ++ (word first ++ (flat_map (branch spell) branches ++ rest)))) ≡ Ok (internal parent first branches, rest)
  unfolding internal_at internal_with
  internal_read parent first branches rest bound low some fits each =
      rw (number-again parent (word (length branches) ++ (word first ++ (flat_map (branch spell) branches ++ rest))) bound, count-again INTERNAL_SLOTS (length branches) (word first ++ (flat_map (branch spell) branches ++ rest)) some fits (omega arith), low (flat_map (branch spell) branches ++ rest), many-again (branch_at read_key read_value) (branch spell) branches rest each) refl

  pub internal-again : (parent : Option ℕ) (first : ℕ) (branches : List ((K × V) × ℕ)) → IfSome parent (λ n. n < 2 ^ 64 - 1) → IsReadBy word_at word first → 0 < length branches → length branches ≤ INTERNAL_SLOTS
      → AreBranchesRead spell_key spell_value read_key read_value branches → IsPlaceRead spell_key spell_value read_key read_value (Some (internal parent first branches))
  unfolding place_at
  internal-again parent first branches bound low some fits each is_last last rest =
      let after : List ℕ = number parent ++ (word (length branches) ++ (word first ++ (flat_map (branch spell) branches ++ rest))) in
      let shape : place spell (Some (internal parent first branches)) ++ rest ≡ word 2 ++ after = simp append_assoc in
      rw (shape, word-again 2 after (omega arith), internal_read parent first branches rest bound low some fits each) refl

  -- each place is read, and the last has a node
  pub record ArePlacesRead (ps : List (Option (View (K × V)))) : Type 0 where
    pub each : (k : ℕ) → IfSome (slice_get ps k) (IsPlaceRead spell_key spell_value read_key read_value)
    pub last : (k : ℕ) → k + 1 ≡ length ps → IfSome (slice_get ps k) (λ p. IsSome p)

  abbrev pub read_place : ℕ → Parse (Option (View (K × V)))
  read_place left = place_at read_key read_value (eqb left 0)

  pub places-again : (ps : List (Option (View (K × V)))) (rest : List ℕ) → ArePlacesRead ps → many read_place (length ps) (flat_map (place spell) ps ++ rest) ≡ Ok (ps, rest)
  unfolding many
  places-again [] rest h = refl
  places-again (p ∷ ps) rest h =
      let after : List ℕ = flat_map (place spell) ps ++ rest in
      let ends : eqb (length ps) 0 ≡ true → IsSome p = λ e. h.last 0 (let none = eqb-true (length ps) 0 e in omega arith) in
      let one : read_place (length ps) (place spell p ++ after) ≡ Ok (p, after) = h.each 0 (eqb (length ps) 0) ends after in
      let others = places-again ps rest (record { each = λ k. h.each (suc k); last = λ k e. h.last (suc k) (omega arith) }) in
      rw (flat_map-cons (place spell) p ps, append_assoc, one, others) refl

  -- ---- the whole

  pub image-again : (head : Head) (ps : List (Option (View (K × V)))) → FitsHead head → length ps ≡ head.count → ArePlacesRead ps
      → (body : List ℕ) → body ≡ head_text head ++ flat_map (place spell) ps → check_sum body < 2 ^ 64
      → image_at read_key read_value (body ++ word (check_sum body)) ≡ Ok (image_of head ps)
  unfolding image_at body_at end_at
  image-again head ps fits long each body is lt =
      let tail : List ℕ = word (check_sum body) in
      let whole : body ++ tail ≡ head_text head ++ (flat_map (place spell) ps ++ tail) = ap (λ (t : List ℕ). t ++ tail) is ∙ append_assoc (head_text head) (flat_map (place spell) ps) tail in
      let first : head_at (body ++ tail) ≡ Ok (head, flat_map (place spell) ps ++ tail) = ap head_at whole ∙ head-again head (flat_map (place spell) ps ++ tail) fits in
      let then : many read_place head.count (flat_map (place spell) ps ++ tail) ≡ Ok (ps, tail) = rw (← long) (places-again ps tail each) in
      let front : take (length (body ++ tail) - length tail) (body ++ tail) ≡ body = take_at body tail (length (body ++ tail) - length tail) (omega (arith, length-append body tail)) in
      let sum : this_at (check_sum body) Sum tail ≡ Ok (check_sum body, []) = ap (this_at (check_sum body) Sum) (sym (append-nil tail)) ∙ this-again (check_sum body) Sum [] lt in
      rw (first, then, front, sum) refl
