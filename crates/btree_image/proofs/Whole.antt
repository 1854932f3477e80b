-- The bytes of a well formed tree are read as that tree.
use Rattle.std.proofs.Common.{◌≡◌, ℕ, zero, suc, ◌+◌, ◌-◌, ◌^◌, ◌<◌, true, false, List, [], ◌∷◌, ◌++◌, length, Option, Some, None, IsSome, Ok, refl, sym, ap, ◌∙◌, append_assoc, arith, inl, inr}
use Rattle.std.specs.Prelude.{IfSome}
use Rattle.std.specs.FinMap as map
use Rattle.std.specs.List.{flat_map}
use Rattle.std.specs.declared.cmp.Ordering.{Ordering}
use Rattle.std.proofs.lemmas.Bool.{cases_eq}
use Rattle.std.proofs.lemmas.Bool.Decides.{nat_tests}
use Rattle.std.proofs.lemmas.List.{append-nil}
use Rattle.std.proofs.lemmas.List.Concat.{flat_map-append, flat_map-cons}
use Rattle.btree_node.specs.Node.{view_of}
use Rattle.btree_laws.specs.Represents.{Represents}
use Rattle.btree_laws.specs.TreeState.{IsBTree, TreeState, node_map, pairs_of}
use Rattle.btree_laws.specs.WellFormed.{IsFormed}
use Rattle.btree_view.specs.View.{NodeMap, View}
use Rattle.btree_image.specs.declared.head.Head.{Head}
use Rattle.btree_image.specs.Image.{Image, body, check_sum, place, word}
use Rattle.btree_spelled.specs.Pairs.{pair_bytes}
use Rattle.btree_image.specs.Reading.{image_at, image_of}
use Rattle.btree_image.specs.Saved.{IsImageOf}
use Rattle.btree_spelled.specs.Spelled.{Read}
use Rattle.btree_image.specs.Written.{AreSized, IsPast, IsPlaceRead, head_bytes, places_of}
use Rattle.btree_image.proofs.Again.{ArePlacesRead, FitsHead, image-again, vacant-again}
use Rattle.btree_image.proofs.PlaceLemmas.{are-at, length-places, place-each, place-get, used-map, used-of}

module _ {A : Type 0} (node_at : NodeMap A) where
  -- a node that represents a list is used
  is_used : (height : ℕ) (parent : Option ℕ) (id : ℕ) (xs : List A) → Represents node_at height parent id xs → IsSome (node_at id)
  is_used zero parent id xs h = rw h refl
  is_used (suc height) parent id xs h = rw h.3 refl

  formed-root : (root : Option ℕ) (xs : List A) → IsFormed node_at root xs → IfSome root (λ r. IsSome (node_at r))
  formed-root None xs formed = tt
  formed-root (Some r) xs formed = is_used formed.height None r xs formed.represents

  formed-sized : (root : Option ℕ) (xs : List A) → IsFormed node_at root xs → AreSized node_at
  formed-sized None xs formed id node is = let none : Some node ≡ None = sym is ∙ formed.0 id in absurd (cc)
  formed-sized (Some r) xs formed id node is = let sized = formed.sized id node is in record { some = grind (arith, nat_tests); fits = sized.1 }

module _ {K V : Type 0} (cmp : K → K → Ordering) (s : TreeState K V) (formed : IsBTree cmp s) where
  pub tree-sized : AreSized (node_map s)
  tree-sized = formed-sized (node_map s) s.root (pairs_of s) formed.formed

  root_bound : (count : ℕ) → ((id : ℕ) → IsSome (node_map s id) → id < count) → count < 2 ^ 64 → (root : Option ℕ) → IfSome root (λ r. IsSome (node_map s r)) → IfSome root (λ r. r < 2 ^ 64 - 1)
  root_bound count past lt None used = tt
  root_bound count past lt (Some r) used = let low = past r used in omega arith

  module _ (spell_key : K → List ℕ) (spell_value : V → List ℕ) (read_key : Read K) (read_value : Read V) where
    abbrev spell : K × V → List ℕ
    spell = pair_bytes spell_key spell_value

    -- the image of the tree with so many places
    abbrev pub tree_head : ℕ → Head
    tree_head count = record { root = s.root; len = s.len; limit = s.kept.limit; count = count }

    abbrev pub tree_image : ℕ → Image (K × V)
    tree_image count = image_of (tree_head count) (places_of (node_map s) count)

    pub tree-of : (count : ℕ) → IsPast s count → IsImageOf s (tree_image count)
    tree-of count past =
        let all : (id : ℕ) → IsSome (node_map s id) → id < count = λ id used. past.all id (used-of view_of (map.get s.nodes id) used) in
        record { root = refl; len = refl; limit = refl; nodes = are-at (node_map s) count all }

    pub tree-read : (count : ℕ) → IsPast s count → count < 2 ^ 64 → s.len < 2 ^ 64 → s.kept.limit < 2 ^ 64
        → ((id : ℕ) → id < count → IsPlaceRead spell_key spell_value read_key read_value (node_map s id))
        → (body : List ℕ) → body ≡ head_bytes s count ++ flat_map (place spell) (places_of (node_map s) count) → check_sum body < 2 ^ 64
        → image_at read_key read_value (body ++ word (check_sum body)) ≡ Ok (tree_image count)
    tree-read count past lt len limit each body is sum =
        let all : (id : ℕ) → IsSome (node_map s id) → id < count = λ id used. past.all id (used-of view_of (map.get s.nodes id) used) in
        let fits : FitsHead (tree_head count) = record {
          root = root_bound count all lt s.root (formed-root (node_map s) s.root (pairs_of s) formed.formed);
          len = len;
          limit = limit;
          count = lt;
        } in
        let ps : List (Option (View (K × V))) = places_of (node_map s) count in
        let places : ArePlacesRead spell_key spell_value read_key read_value ps = record {
          each = place-each (node_map s) (IsPlaceRead spell_key spell_value read_key read_value) count each;
          last = λ k e.
              let long : length ps ≡ count = length-places (node_map s) count in
              let low : k < count = omega arith in
              let end : k ≡ count - 1 = omega arith in
              rw (place-get (node_map s) count k low, end) (used-map view_of (map.get s.nodes (count - 1)) (past.last (omega arith)));
        } in
        image-again spell_key spell_value read_key read_value (tree_head count) ps fits (length-places (node_map s) count) places body is sum

    -- what is written is the spelling of that image
    pub tree-text : (count : ℕ) (text : List ℕ) → text ≡ head_bytes s count ++ flat_map (place spell) (places_of (node_map s) count) → text ≡ body spell (tree_image count)
    tree-text count text is =
        let long : count ≡ length (places_of (node_map s) count) = sym (length-places (node_map s) count) in
        is ∙ ap (λ (n : ℕ). head_bytes s n ++ flat_map (place spell) (places_of (node_map s) count)) long

module _ {K V : Type 0} (spell_key : K → List ℕ) (spell_value : V → List ℕ) (read_key : Read K) (read_value : Read V) where
  -- a vacant place is read
  pub vacant-read : IsPlaceRead spell_key spell_value read_key read_value None
  vacant-read true last rest = absurd (let none : IsSome {T = View (K × V)} None = last refl in cc)
  vacant-read false last rest = vacant-again spell_key spell_value read_key read_value false rest refl

  module _ (node_at : NodeMap (K × V)) where
    -- the places below `id` are written, and are read again
    pub record HasPlaced (start out : List ℕ) (id : ℕ) : Type 0 where
      pub text : out ≡ start ++ flat_map (place (pair_bytes spell_key spell_value)) (places_of node_at id)
      pub read : (k : ℕ) → k < id → IsPlaceRead spell_key spell_value read_key read_value (node_at k)

    pub placed-none : (start : List ℕ) → HasPlaced start start 0
    placed-none start = record { text = sym (append-nil start); read = λ k h. absurd (omega arith) }

    pub placed-one : (start out : List ℕ) (id : ℕ) (p : Option (View (K × V))) (after : List ℕ) → node_at id ≡ p → after ≡ out ++ place (pair_bytes spell_key spell_value) p → IsPlaceRead spell_key spell_value read_key read_value p
        → HasPlaced start out id → HasPlaced start after (id + 1)
    placed-one start out id p after at is read before =
        let spell : Option (View (K × V)) → List ℕ = place (pair_bytes spell_key spell_value) in
        let next : places_of node_at (id + 1) ≡ places_of node_at id ++ node_at id ∷ [] = (let more : id + 1 ≡ suc id = omega arith in ap (places_of node_at) more) in
        let one : flat_map spell (node_at id ∷ []) ≡ spell p = flat_map-cons spell (node_at id) [] ∙ append-nil (spell (node_at id)) ∙ ap spell at in
        let both : flat_map spell (places_of node_at (id + 1)) ≡ flat_map spell (places_of node_at id) ++ spell p =
        ap (flat_map spell) next ∙ flat_map-append spell (places_of node_at id) (node_at id ∷ []) ∙ ap (λ (t : List ℕ). flat_map spell (places_of node_at id) ++ t) one in
        record {
          text = is ∙ ap (λ (t : List ℕ). t ++ spell p) before.text ∙ append_assoc start (flat_map spell (places_of node_at id)) (spell p) ∙ ap (λ (t : List ℕ). start ++ t) (sym both);
          read = λ k h. elim (cases_eq k id) [
            | inl same ↦ rw (same, at) read
            | inr other ↦ before.read k (omega arith)
          ];
        }
