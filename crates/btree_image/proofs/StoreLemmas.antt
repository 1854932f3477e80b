-- Places that are read into a store.
use Rattle.std.proofs.Common.{◌≡◌, ◌≢◌, ℕ, ◌+◌, ◌-◌, ◌<◌, ◌≤◌, List, [], ◌∷◌, ◌++◌, length, get_or, Option, Some, None, Ok, Err, refl, sym, ap, subst, ◌∙◌, inl, inr, arith, length-append}
use Rattle.std.specs.Prelude.{option_map}
use Rattle.std.specs.Ordering.{nat_cmp}
use Rattle.std.specs.FinMap.{empty, get, get-empty, insert}
use Rattle.std.proofs.lemmas.Bool.{cases_eq, cases_lt}
use Rattle.std.proofs.lemmas.List.{get_or_append_left, get_or_past, get_or_push}
use Rattle.btree_node.specs.declared.node.Node.{Node}
use Rattle.btree_node.specs.Node.{view_of}
use Rattle.btree_laws.specs.TreeState.{views}
use Rattle.btree_store.specs.Content.{Content}
use Rattle.btree_store.specs.ContentLaws.{get-insert_other, get-insert_same}
use Rattle.btree_view.specs.View.{View}
use Rattle.btree_image.specs.declared.fault.Stop.{Stop}
use Rattle.btree_image.specs.Saved.{AreAt, ReadsPlaces}
use Rattle.btree_image.specs.Stored.{with_place}
use Rattle.btree_image.specs.Parse.{Parse}
use Rattle.btree_image.specs.Reading.{many}
use Rattle.btree_image.proofs.Loop.{HasRead, begins, ends, goes_on, is_done}

module _ {X : Type 0} (front : List (Option X)) where
  other_place : (p : Option X) (q : ℕ) → q ≢ length front → get_or (front ++ p ∷ []) q None ≡ get_or front q None
  other_place p q differs = elim (cases_lt q (length front)) [
    | inl inside ↦ get_or_append_left front (p ∷ []) None q inside
    | inr past ↦
        let long : length (front ++ p ∷ []) ≡ length front + 1 = length-append front (p ∷ []) in
        get_or_past (front ++ p ∷ []) q None (omega arith) ∙ sym (get_or_past front q None past)
  ]

  last_place : (p : Option X) → get_or (front ++ p ∷ []) (length front) None ≡ p
  last_place p = get_or_push front p None (length front) refl

module _ {K V : Type 0} where
  -- the nodes of the first places are in the store, and the others begin these bytes
  pub record HasStored (parse : ℕ → Parse (Option (View (K × V)))) (count : ℕ) (start : List ℕ) (content : Content (Node K V)) (id : ℕ) (rest : List ℕ) : Type 0 where
    pub front : List (Option (View (K × V)))
    pub long : length front ≡ id
    pub read : HasRead parse count start front id rest
    pub nodes : AreAt (views content) front

  module _ (parse : ℕ → Parse (Option (View (K × V)))) (count : ℕ) (start : List ℕ) where
    pub stored-none : (content : Content (Node K V)) → content ≡ empty → HasStored parse count start content 0 start
    stored-none content is = record {
      front = [];
      long = refl;
      read = begins parse count start;
      nodes = λ id. ap (option_map view_of) (ap (λ (m : Content (Node K V)). get m id) is ∙ get-empty nat_cmp id);
    }

    -- a place without a node
    pub stored-vacant : (content : Content (Node K V)) (id : ℕ) (rest after : List ℕ) → id < count → parse (count - (id + 1)) rest ≡ Ok (None, after)
        → HasStored parse count start content id rest → HasStored parse count start content (id + 1) after
    stored-vacant content id rest after lt h before = record {
      front = before.front ++ None ∷ [];
      long = omega (arith, length-append before.front (None ∷ []), before.long);
      read = goes_on parse count start before.front id rest None after lt h before.read;
      nodes = λ q. before.nodes q ∙ (elim (cases_eq q (length before.front)) [
        | inl same ↦ get_or_past before.front q None (omega arith) ∙ sym (ap (λ (k : ℕ). get_or (before.front ++ None ∷ []) k None) same ∙ last_place before.front None)
        | inr other ↦ sym (other_place before.front None q other)
      ]);
    }

    -- a place with a node, which was stored under its number
    pub stored-node : (old new : Content (Node K V)) (id : ℕ) (node : Node K V) (rest after : List ℕ) → new ≡ insert old id node → id < count → parse (count - (id + 1)) rest ≡ Ok (Some (view_of node), after)
        → HasStored parse count start old id rest → HasStored parse count start new (id + 1) after
    stored-node old new id node rest after is lt h before = record {
      front = before.front ++ Some (view_of node) ∷ [];
      long = omega (arith, length-append before.front (Some (view_of node) ∷ []), before.long);
      read = goes_on parse count start before.front id rest (Some (view_of node)) after lt h before.read;
      nodes = λ q. elim (cases_eq q id) [
        | inl same ↦
            let here : get new q ≡ Some node = ap (λ (m : Content (Node K V)). get m q) is ∙ ap (get (insert old id node)) same ∙ get-insert_same old id node in
            let end : q ≡ length before.front = omega (arith, before.long) in
            ap (option_map view_of) here ∙ sym (ap (λ (k : ℕ). get_or (before.front ++ Some (view_of node) ∷ []) k None) end ∙ last_place before.front (Some (view_of node)))
        | inr other ↦
            let there : get new q ≡ get old q = ap (λ (m : Content (Node K V)). get m q) is ∙ get-insert_other old id node q other in
            ap (option_map view_of) there ∙ before.nodes q ∙ sym (other_place before.front (Some (view_of node)) q (λ e. other (omega (arith, before.long))))
      ];
    }

    -- a place, whatever it is
    pub stored-place : (old new : Content (Node K V)) (id : ℕ) (place : Option (Node K V)) (rest after : List ℕ) → new ≡ with_place old id place → id < count → parse (count - (id + 1)) rest ≡ Ok (option_map view_of place, after)
        → HasStored parse count start old id rest → HasStored parse count start new (id + 1) after
    stored-place old new id None rest after is lt h before = subst (λ (m : Content (Node K V)). HasStored parse count start m (id + 1) after) (sym is) (stored-vacant old id rest after lt h before)
    stored-place old new id (Some node) rest after is lt h before = stored-node old new id node rest after is lt h before

    -- a place that is not read
    pub stored-fault : (content : Content (Node K V)) (id : ℕ) (rest : List ℕ) (e : Stop) → id < count → parse (count - (id + 1)) rest ≡ Err e → HasStored parse count start content id rest → many parse count start ≡ Err e
    stored-fault content id rest e lt h before = ends parse count start before.front id rest e lt h before.read

    pub stored-all : (content : Content (Node K V)) (id : ℕ) (rest : List ℕ) → count ≤ id → HasStored parse count start content id rest → ReadsPlaces (views content) rest (many parse count start)
    stored-all content id rest le before = record { places = before.front; is = is_done parse count start before.front id rest le before.read; nodes = before.nodes }
