-- Bytes are those of one tree: what is opened is what was saved, but for the count of refusals, which is not saved.
use Rattle.std.proofs.Common.{◌≡◌, ℕ, List, Option, Some, None, Ok, refl, sym, ap, subst, ◌∙◌}
use Rattle.std.specs.Prelude.{option_map}
use Rattle.std.specs.FinMap as map
use Rattle.btree_item.specs.Address.{Address}
use Rattle.btree_leaf.specs.Leaf.{Leaf as LeafOf, leaf_view}
use Rattle.btree_internal.specs.Internal.{Internal as InternalOf, internal_view}
use Rattle.btree_node.specs.declared.node.Node.{Node}
use Rattle.btree_node.specs.declared.node.Node.TheVariants.{Leaf, Internal}
use Rattle.btree_node.specs.Node.{view_of}
use Rattle.btree_laws.specs.TreeState.{IsPlaceIn, IsValidIn, TreeState, item_of, pairs_of, views}
use Rattle.btree_store.specs.Content.{Content}
use Rattle.btree_store.specs.ContentLaws.{same_content}
use Rattle.btree_image.specs.Image.{Image}
use Rattle.btree_image.specs.Saved.{IsImageOf, IsSavedAs}
use Rattle.btree_spelled.specs.Spelled.{Read}

module _ {K V : Type 0} where
  leaf-once : (l m : LeafOf K V) → leaf_view l ≡ leaf_view m → l ≡ m
  leaf-once l m e =
      let parent : l.parent ≡ m.parent = cc in
      let items : l.items ≡ m.items = cc in
      λ i. record { parent = parent i; items = items i }

  internal-once : (l m : InternalOf K V) → internal_view l ≡ internal_view m → l ≡ m
  internal-once l m e =
      let parent : l.parent ≡ m.parent = cc in
      let first : l.first ≡ m.first = cc in
      let branches : l.branches ≡ m.branches = cc in
      λ i. record { parent = parent i; first = first i; branches = branches i }

  node-once : (m n : Node K V) → view_of m ≡ view_of n → m ≡ n
  node-once (Leaf l) (Leaf m) e = ap Leaf (leaf-once l m e)
  node-once (Leaf l) (Internal m) e = absurd cc
  node-once (Internal l) (Leaf m) e = absurd cc
  node-once (Internal l) (Internal m) e = ap Internal (internal-once l m e)

  place-once : (o p : Option (Node K V)) → option_map view_of o ≡ option_map view_of p → o ≡ p
  place-once None None e = refl
  place-once None (Some n) e = absurd cc
  place-once (Some m) None e = absurd cc
  place-once (Some m) (Some n) e = let same : view_of m ≡ view_of n = cc in ap Some (node-once m n same)

  -- contents with the same nodes are equal
  nodes-once : (m n : Content (Node K V)) → ((id : ℕ) → views m id ≡ views n id) → m ≡ n
  nodes-once m n alike = same_content m n (λ id. place-once (map.get m id) (map.get n id) (alike id))

  -- the tree, with this count of refusals
  abbrev pub refused : TreeState K V → ℕ → TreeState K V
  refused s count = record s { kept = record s.kept { refusals = count } }

  image-once : (s t : TreeState K V) (i : Image (K × V)) → IsImageOf s i → IsImageOf t i → t ≡ refused s t.kept.refusals
  image-once s t i of_s of_t =
      let nodes : t.nodes ≡ s.nodes = nodes-once t.nodes s.nodes (λ id. of_t.nodes id ∙ sym (of_s.nodes id)) in
      let root : t.root ≡ s.root = of_t.root ∙ sym of_s.root in
      let len : t.len ≡ s.len = of_t.len ∙ sym of_s.len in
      let limit : t.kept.limit ≡ s.kept.limit = of_t.limit ∙ sym of_s.limit in
      λ j. record { nodes = nodes j; root = root j; len = len j; kept = record { refusals = t.kept.refusals; limit = limit j } }

  -- an address means the same in both trees, which have the same list
  pub record SameAddresses (s t : TreeState K V) : Type 0 where
    pub list : pairs_of t ≡ pairs_of s
    pub valid : (a : Address) → IsValidIn s a → IsValidIn t a
    pub place : (a : Address) (place : ℕ) → IsPlaceIn s a place → IsPlaceIn t a place
    pub item : (a : Address) → item_of t a ≡ item_of s a

  module _ (read_key : Read K) (read_value : Read V) where
    -- two trees of the same bytes are equal, but for the count of refusals
    pub saved-once : (s t : TreeState K V) (bytes : List ℕ) → IsSavedAs read_key read_value s bytes → IsSavedAs read_key read_value t bytes → t ≡ refused s t.kept.refusals
    saved-once s t bytes saved opened =
        let both : Ok saved.image ≡ Ok opened.image = sym saved.read ∙ opened.read in
        let same : opened.image ≡ saved.image = cc in
        image-once s t saved.image saved.of (subst (IsImageOf t) same opened.of)

    -- so addresses that were kept are as they were
    pub saved-addresses : (s t : TreeState K V) (bytes : List ℕ) → IsSavedAs read_key read_value s bytes → IsSavedAs read_key read_value t bytes → SameAddresses s t
    saved-addresses s t bytes saved opened =
        subst (SameAddresses s) (sym (saved-once s t bytes saved opened)) (record { list = refl; valid = λ a valid. valid; place = λ a place is. is; item = λ a. refl })
