-- A store that may have no room for bytes of a tree may have none for one of its nodes.
use Rattle.std.proofs.Common.{◌≡◌, ℕ, zero, suc, ◌<◌, ◌≤◌, false, eqb, List, ◌∷◌, get_or, Option, None, IsSome, Ok, sym, ap, ◌∙◌, arith}
use Rattle.std.specs.Prelude.{slice_index_or}
use Rattle.std.specs.FinMap as map
use Rattle.btree_node.specs.Node.{view_of}
use Rattle.btree_laws.specs.TreeState.{TreeState, node_map}
use Rattle.btree_view.specs.View.{View}
use Rattle.btree_image.specs.declared.head.Head.{Head}
use Rattle.btree_image.specs.Image.{Image}
use Rattle.btree_image.specs.Reading.{◌>>=◌, body_at, end_at, head_at, image_at, image_of, many, place_at, places_at}
use Rattle.btree_image.specs.Saved.{IsSavedAs, LacksNode, LacksRoom}
use Rattle.btree_image.specs.Parse.{Parse}
use Rattle.btree_spelled.specs.Spelled.{Read}
use Rattle.btree_image.proofs.PlaceLemmas.{used-of}
use Rattle.btree_image.proofs.RoomLemmas.{place-early}
use Rattle.btree_image.proofs.Spelling.{ok_is, parts}

alike : {X : Type 0} (x y : Option X) (xs ys : List (Option X)) (n : ℕ) → x ≡ y → ((k : ℕ) → k < n → get_or xs k None ≡ get_or ys k None) → (q : ℕ) → q < suc n → get_or (x ∷ xs) q None ≡ get_or (y ∷ ys) q None
alike x y xs ys n first others zero lt = first
alike x y xs ys n first others (suc q) lt = others q (omega arith)

module _ {K V : Type 0} (read_key : Read K) (read_value : Read V) where
  abbrev read_place : ℕ → Parse (Option (View (K × V)))
  read_place left = place_at read_key read_value (eqb left 0)

  abbrev early : ℕ → Parse (Option (View (K × V)))
  early left = place_at read_key read_value false

  -- the first places are the same, however many are read
  first-places : (count n : ℕ) (bytes rest after : List ℕ) (ps front : List (Option (View (K × V)))) → many read_place count bytes ≡ Ok (ps, rest) → many early n bytes ≡ Ok (front, after)
      → (q : ℕ) → q < n → n ≤ count → get_or front q None ≡ get_or ps q None
  unfolding many
  first-places zero n bytes rest after ps front all some q lt le = absurd (omega arith)
  first-places (suc count) zero bytes rest after ps front all some q lt le = absurd (omega arith)
  first-places (suc count) (suc n) bytes rest after ps front all some q lt le =
      let p = parts (read_place count bytes) (λ f. many read_place count f.1 >>= λ o. Ok (f.0 ∷ o.0, o.1)) (ps, rest) all in
      let others = parts (many read_place count p.first.1) (λ o. Ok (p.first.0 ∷ o.0, o.1)) (ps, rest) p.after in
      let e = parts (early n bytes) (λ f. many early n f.1 >>= λ o. Ok (f.0 ∷ o.0, o.1)) (front, after) some in
      let next = parts (many early n e.first.1) (λ o. Ok (e.first.0 ∷ o.0, o.1)) (front, after) e.after in
      let same : e.first ≡ p.first = ok_is _ _ (sym e.is ∙ place-early read_key read_value (eqb count 0) bytes p.first p.is) in
      let whole : p.first.0 ∷ others.first.0 ≡ ps = ap (λ (z : List (Option (View (K × V))) × List ℕ). z.0) (ok_is _ _ others.after) in
      let part : e.first.0 ∷ next.first.0 ≡ front = ap (λ (z : List (Option (View (K × V))) × List ℕ). z.0) (ok_is _ _ next.after) in
      let here : many early n p.first.1 ≡ Ok (next.first.0, next.first.1) = ap (λ (z : Option (View (K × V)) × List ℕ). many early n z.1) (sym same) ∙ next.is in
      let first : e.first.0 ≡ p.first.0 = ap (λ (z : Option (View (K × V)) × List ℕ). z.0) same in
      let rest_alike : (k : ℕ) → k < n → get_or next.first.0 k None ≡ get_or others.first.0 k None = λ k h. first-places count n p.first.1 others.first.1 next.first.1 others.first.0 next.first.0 others.is here k h (omega arith) in
      ap (λ (l : List (Option (View (K × V)))). get_or l q None) (sym part) ∙ alike e.first.0 p.first.0 next.first.0 others.first.0 n first rest_alike q lt ∙ ap (λ (l : List (Option (View (K × V)))). get_or l q None) whole

  -- the places that are read up to one without room are the image's
  image-place : (MayLack : ℕ → Type 0) (bytes : List ℕ) (i : Image (K × V)) → image_at read_key read_value bytes ≡ Ok i → (lacking : LacksRoom read_key read_value MayLack bytes)
      → slice_index_or lacking.place.places lacking.place.id None ≡ slice_index_or i.places lacking.place.id None
  unfolding image_at body_at
  image-place MayLack bytes i e lacking =
      let read = parts (body_at read_key read_value bytes) _ i e in
      let end = parts (end_at bytes read.first.1) _ i read.after in
      let head = parts (head_at bytes) _ read.first read.is in
      let places = parts (places_at read_key read_value head.first.0.count head.first.1) _ read.first head.after in
      let same : head.first ≡ (lacking.head, lacking.rest) = ok_is _ _ (sym head.is ∙ lacking.read) in
      let all : many read_place lacking.head.count lacking.rest ≡ Ok places.first = ap (λ (z : Head × List ℕ). many read_place z.0.count z.1) (sym same) ∙ places.is in
      let body : image_of head.first.0 places.first.0 ≡ read.first.0 = ap (λ (z : Image (K × V) × List ℕ). z.0) (ok_is _ _ places.after) in
      let found : places.first.0 ≡ i.places = ap (λ (z : Image (K × V)). z.places) (body ∙ ok_is read.first.0 i end.after) in
      let lack = lacking.place in
      first-places lacking.head.count (suc lack.id) lacking.rest places.first.1 lack.rest places.first.0 lack.places all lack.read lack.id (omega arith) (omega (arith, lack.within))
      ∙ ap (λ (l : List (Option (View (K × V)))). slice_index_or l lack.id None) found

  -- a store that may have no room for bytes of a tree may have none for a node of it
  pub lacks-node : (MayLack : ℕ → Type 0) (s : TreeState K V) (bytes : List ℕ) → LacksRoom read_key read_value MayLack bytes → IsSavedAs read_key read_value s bytes → LacksNode MayLack s
  lacks-node MayLack s bytes lacking saved =
      let id = lacking.place.id in
      let same : node_map s id ≡ slice_index_or lacking.place.places id None = saved.of.nodes id ∙ sym (image-place MayLack bytes saved.image saved.read lacking) in
      let node : IsSome (node_map s id) = rw same lacking.place.node in
      record { id = id; lacks = lacking.place.lacks; used = used-of view_of (map.get s.nodes id) node }
