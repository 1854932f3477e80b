-- A tree has one image and one spelling, since the last place of an image has a node.
use Rattle.std.proofs.Common.{◌≡◌, ℕ, zero, suc, ◌+◌, Bool, true, false, eqb, List, [], ◌∷◌, length, Option, Some, None, IsSome, Ok, refl, sym, ap, subst, ◌∙◌, arith}
use Rattle.std.specs.Prelude.{IfSome, slice_get, slice_index_or}
use Rattle.std.proofs.lemmas.Bool.{eq-eqb}
use Rattle.btree_laws.specs.TreeState.{TreeState}
use Rattle.btree_view.specs.View.{View}
use Rattle.btree_image.specs.Image.{Image, spelling}
use Rattle.btree_spelled.specs.Pairs.{pair_bytes}
use Rattle.btree_image.specs.Reading.{◌>>=◌, body_at, end_at, head_at, image_at, image_of, internal_at, leaf_at, many, node_at, place_at, places_at, word_at}
use Rattle.btree_image.specs.Saved.{AreOnlyBytesOf, IsImageOf}
use Rattle.btree_image.specs.Parse.{Parse}
use Rattle.btree_spelled.specs.Spelled.{Read, Takes}
use Rattle.btree_image.proofs.Spelling.{image-spelled, ok_is, parts}

module _ {X : Type 0} where
  -- the last of these has a value
  abbrev pub IsFull : List (Option X) → Type 0
  IsFull ps = (k : ℕ) → k + 1 ≡ length ps → IfSome (slice_get ps k) (λ p. IsSome p)

  tail_full : (p : Option X) (ps : List (Option X)) → IsFull (p ∷ ps) → IsFull ps
  tail_full p ps full = λ k e. full (suc k) (omega arith)

  cons_full : (p : Option X) (ps : List (Option X)) → (length ps ≡ 0 → IsSome p) → IsFull ps → IsFull (p ∷ ps)
  cons_full p ps one others zero e = one (omega arith)
  cons_full p ps one others (suc k) e = others k (omega arith)

  no_some : (p : Option X) → IsSome p → p ≡ None → ⊥
  no_some None has e = absurd cc
  no_some (Some x) has e = absurd cc

  not_vacant : (p : Option X) (ps : List (Option X)) → IsFull (p ∷ ps) → ((id : ℕ) → slice_index_or (p ∷ ps) id None ≡ None) → ⊥
  not_vacant p [] full none = no_some p (full 0 refl) (none 0)
  not_vacant p (q ∷ ps) full none = not_vacant q ps (tail_full p (q ∷ ps) full) (λ id. none (suc id))

  full_once : (ps qs : List (Option X)) → IsFull ps → IsFull qs → ((id : ℕ) → slice_index_or ps id None ≡ slice_index_or qs id None) → ps ≡ qs
  full_once [] [] f g alike = refl
  full_once [] (q ∷ qs) f g alike = absurd (not_vacant q qs g (λ id. sym (alike id)))
  full_once (p ∷ ps) [] f g alike = absurd (not_vacant p ps f alike)
  full_once (p ∷ ps) (q ∷ qs) f g alike =
      let first : p ≡ q = alike 0 in
      let others : ps ≡ qs = full_once ps qs (tail_full p ps f) (tail_full q qs g) (λ id. alike (suc id)) in
      λ i. first i ∷ others i

many_length : {X : Type 0} (parse : ℕ → Parse X) (count : ℕ) (bytes rest : List ℕ) (xs : List X) → many parse count bytes ≡ Ok (xs, rest) → length xs ≡ count
unfolding many
many_length {X} parse zero bytes rest xs e = ap (λ (z : List X × List ℕ). length z.0) (sym (ok_is ([], bytes) (xs, rest) e))
many_length {X} parse (suc n) bytes rest xs e =
    let p = parts (parse n bytes) (λ f. many parse n f.1 >>= λ o. Ok (f.0 ∷ o.0, o.1)) (xs, rest) e in
    let q = parts (many parse n p.first.1) (λ o. Ok (p.first.0 ∷ o.0, o.1)) (xs, rest) p.after in
    ap (λ (z : List X × List ℕ). length z.0) (sym (ok_is (p.first.0 ∷ q.first.0, q.first.1) (xs, rest) q.after)) ∙ ap suc (many_length parse n p.first.1 q.first.1 q.first.0 q.is)

module _ {K V : Type 0} (read_key : Read K) (read_value : Read V) where
  abbrev read_place : ℕ → Parse (Option (View (K × V)))
  read_place left = place_at read_key read_value (eqb left 0)

  node_some : (all : List ℕ) (kind : ℕ) (after rest : List ℕ) (p : Option (View (K × V))) → node_at read_key read_value true all kind after ≡ Ok (p, rest) → IsSome p
  node_some all zero after rest p e = absurd cc
  node_some all (suc zero) after rest p e =
      let node = parts (leaf_at read_key read_value after) (λ n. Ok (Some n.0, n.1)) (p, rest) e in
      subst (λ (z : Option (View (K × V)) × List ℕ). IsSome z.0) (ok_is (Some node.first.0, node.first.1) (p, rest) node.after) refl
  node_some all (suc (suc zero)) after rest p e =
      let node = parts (internal_at read_key read_value after) (λ n. Ok (Some n.0, n.1)) (p, rest) e in
      subst (λ (z : Option (View (K × V)) × List ℕ). IsSome z.0) (ok_is (Some node.first.0, node.first.1) (p, rest) node.after) refl
  node_some all (suc (suc (suc n))) after rest p e = absurd cc

  place_some : (is_last : Bool) (bytes rest : List ℕ) (p : Option (View (K × V))) → is_last ≡ true → place_at read_key read_value is_last bytes ≡ Ok (p, rest) → IsSome p
  unfolding place_at
  place_some false bytes rest p last e = absurd cc
  place_some true bytes rest p last e =
      let kind = parts (word_at bytes) _ (p, rest) e in
      node_some bytes kind.first.0 kind.first.1 rest p kind.after

  places_full : (count : ℕ) (bytes rest : List ℕ) (ps : List (Option (View (K × V)))) → many read_place count bytes ≡ Ok (ps, rest) → IsFull ps
  unfolding many
  places_full zero bytes rest ps e =
      subst (λ (z : List (Option (View (K × V))) × List ℕ). IsFull z.0) (ok_is ([], bytes) (ps, rest) e) (λ k none. absurd (omega arith))
  places_full (suc n) bytes rest ps e =
      let p = parts (read_place n bytes) (λ f. many read_place n f.1 >>= λ o. Ok (f.0 ∷ o.0, o.1)) (ps, rest) e in
      let q = parts (many read_place n p.first.1) (λ o. Ok (p.first.0 ∷ o.0, o.1)) (ps, rest) p.after in
      let long = many_length read_place n p.first.1 q.first.1 q.first.0 q.is in
      let last : length q.first.0 ≡ 0 → IsSome p.first.0 = λ none. place_some (eqb n 0) bytes p.first.1 p.first.0 (eq-eqb n 0 (omega arith)) p.is in
      let full = cons_full p.first.0 q.first.0 last (places_full n p.first.1 q.first.1 q.first.0 q.is) in
      subst (λ (z : List (Option (View (K × V))) × List ℕ). IsFull z.0) (ok_is (p.first.0 ∷ q.first.0, q.first.1) (ps, rest) q.after) full

  image_full : (bytes : List ℕ) (i : Image (K × V)) → image_at read_key read_value bytes ≡ Ok i → IsFull i.places
  unfolding image_at body_at
  image_full bytes i e =
      let read = parts (body_at read_key read_value bytes) _ i e in
      let end = parts (end_at bytes read.first.1) _ i read.after in
      let head = parts (head_at bytes) _ read.first read.is in
      let places = parts (places_at read_key read_value head.first.0.count head.first.1) _ read.first head.after in
      let full = places_full head.first.0.count head.first.1 places.first.1 places.first.0 places.is in
      let body : image_of head.first.0 places.first.0 ≡ read.first.0 = ap (λ (z : Image (K × V) × List ℕ). z.0) (ok_is _ _ places.after) in
      subst (λ (z : Image (K × V)). IsFull z.places) (body ∙ ok_is read.first.0 i end.after) full

  images_once : (s : TreeState K V) (i j : Image (K × V)) → IsImageOf s i → IsImageOf s j → IsFull i.places → IsFull j.places → i ≡ j
  images_once s i j of_i of_j full_i full_j =
      let root : i.root ≡ j.root = sym of_i.root ∙ of_j.root in
      let len : i.len ≡ j.len = sym of_i.len ∙ of_j.len in
      let limit : i.limit ≡ j.limit = sym of_i.limit ∙ of_j.limit in
      let places : i.places ≡ j.places = full_once i.places j.places full_i full_j (λ id. sym (of_i.nodes id) ∙ of_j.nodes id) in
      λ n. record { root = root n; len = len n; limit = limit n; places = places n }

  module _ (spell_key : K → List ℕ) (spell_value : V → List ℕ) (key_takes : Takes spell_key read_key) (value_takes : Takes spell_value read_value) where
    -- the spelling of a tree's image is all that says that it is this tree
    pub one-spelling : (s : TreeState K V) (i : Image (K × V)) → image_at read_key read_value (spelling (pair_bytes spell_key spell_value) i) ≡ Ok i → IsImageOf s i → AreOnlyBytesOf read_key read_value s (spelling (pair_bytes spell_key spell_value) i)
    one-spelling s i read of other fits again =
        let same : again.image ≡ i = images_once s again.image i again.of of (image_full other again.image again.read) (image_full (spelling (pair_bytes spell_key spell_value) i) i read) in
        image-spelled spell_key spell_value read_key read_value key_takes value_takes other again.image fits again.read ∙ ap (spelling (pair_bytes spell_key spell_value)) same
