-- Places that are read without a fault, up to one for whose number a store may have no room.
use Rattle.std.proofs.Common.{◌≡◌, ℕ, zero, suc, ◌+◌, ◌<◌, ◌≤◌, ◌⊎◌, Bool, true, false, List, [], ◌∷◌, ◌++◌, length, get_or, Option, Some, None, IsSome, Result, Ok, refl, sym, ap, ◌∙◌, inl, inr, arith, length-append}
use Rattle.std.proofs.lemmas.List.{get_or_push}
use Rattle.btree_view.specs.View.{View}
use Rattle.btree_image.specs.declared.fault.Stop.{Stop}
use Rattle.btree_image.specs.Reading.{◌>>=◌, many, node_at, place_at, word_at}
use Rattle.btree_image.specs.Saved.{LacksPlace}
use Rattle.btree_image.specs.Parse.{Parse}
use Rattle.btree_spelled.specs.Spelled.{Read}
use Rattle.btree_image.specs.Stored.{reached_with}
use Rattle.btree_image.proofs.Spelling.{ok_is, parts}

-- what was used goes no further than past the new place
pub reached-within : {T : Type 0} (place : Option T) (reached new id : ℕ) → reached ≤ id → new ≡ reached_with reached id place → new ≤ id + 1
reached-within None reached new id le is = omega arith
reached-within (Some value) reached new id le is = omega arith

-- a number that is not below one that was used is refused only without room
pub only-lacks : {Lacks : Type 0} (reached id : ℕ) → reached ≤ id → (id < reached) ⊎ Lacks → Lacks
only-lacks reached id le (inl below) = absurd (omega arith)
only-lacks reached id le (inr lacks) = lacks

module _ {X : Type 0} (parse : Parse X) where
  -- one value before others that are read
  abbrev before : X → Result (List X × List ℕ) Stop → Result (List X × List ℕ) Stop
  before x read = read >>= λ others. Ok (x ∷ others.0, others.1)

  many-first : (n : ℕ) (start after : List ℕ) (x : X) → parse start ≡ Ok (x, after) → many (λ left. parse) (suc n) start ≡ before x (many (λ left. parse) n after)
  unfolding many
  many-first n start after x is = rw is refl

  many-none : (start : List ℕ) → many (λ left. parse) 0 start ≡ Ok ([], start)
  unfolding many
  many-none start = refl

  -- one value more
  many-last : (n : ℕ) (start rest after : List ℕ) (front : List X) (x : X) → many (λ left. parse) n start ≡ Ok (front, rest) → parse rest ≡ Ok (x, after)
      → many (λ left. parse) (suc n) start ≡ Ok (front ++ x ∷ [], after)
  unfolding many
  many-last zero start rest after front x all is =
      let same : ([], start) ≡ (front, rest) = ok_is _ _ (sym (many-none start) ∙ all) in
      let here : parse start ≡ Ok (x, after) = ap (λ (z : List X × List ℕ). parse z.1) same ∙ is in
      many-first 0 start after x here ∙ ap (before x) (many-none after) ∙ ap (λ (z : List X × List ℕ). Ok (z.0 ++ x ∷ [], after)) same
  many-last (suc n) start rest after front x all is =
      let p = parts (parse start) (λ f. many (λ left. parse) n f.1 >>= λ o. Ok (f.0 ∷ o.0, o.1)) (front, rest) all in
      let q = parts (many (λ left. parse) n p.first.1) (λ o. Ok (p.first.0 ∷ o.0, o.1)) (front, rest) p.after in
      let same : (p.first.0 ∷ q.first.0, q.first.1) ≡ (front, rest) = ok_is _ _ q.after in
      let here : parse q.first.1 ≡ Ok (x, after) = ap (λ (z : List X × List ℕ). parse z.1) same ∙ is in
      let others = many-last n p.first.1 q.first.1 after q.first.0 x q.is here in
      many-first (suc n) start p.first.1 p.first.0 p.is ∙ ap (before p.first.0) others ∙ ap (λ (z : List X × List ℕ). Ok (z.0 ++ x ∷ [], after)) same

  -- so many values are read without a fault, and these bytes are left
  pub record IsReadTo (start : List ℕ) (n : ℕ) (rest : List ℕ) : Type 0 where
    pub front : List X
    pub long : length front ≡ n
    pub read : many (λ left. parse) n start ≡ Ok (front, rest)

  pub read-none : (start : List ℕ) → IsReadTo start 0 start
  read-none start = record { front = []; long = refl; read = many-none start }

  pub read-more : (start : List ℕ) (n : ℕ) (rest after : List ℕ) (x : X) → IsReadTo start n rest → parse rest ≡ Ok (x, after) → IsReadTo start (n + 1) after
  read-more start n rest after x so_far is =
      let more : n + 1 ≡ suc n = omega arith in
      record {
        front = so_far.front ++ x ∷ [];
        long = omega (arith, length-append so_far.front (x ∷ []), so_far.long);
        read = ap (λ (k : ℕ). many (λ left. parse) k start) more ∙ many-last n start rest after so_far.front x so_far.read is;
      }

module _ {K V : Type 0} (read_key : Read K) (read_value : Read V) where
  node-early : (all : List ℕ) (kind : ℕ) (bytes : List ℕ) (x : Option (View (K × V)) × List ℕ) → node_at read_key read_value true all kind bytes ≡ Ok x → node_at read_key read_value false all kind bytes ≡ Ok x
  node-early all zero bytes x is = absurd cc
  node-early all (suc zero) bytes x is = is
  node-early all (suc (suc zero)) bytes x is = is
  node-early all (suc (suc (suc n))) bytes x is = is

  -- what is read as the last place is read so before others too
  pub place-early : (is_last : Bool) (bytes : List ℕ) (x : Option (View (K × V)) × List ℕ) → place_at read_key read_value is_last bytes ≡ Ok x → place_at read_key read_value false bytes ≡ Ok x
  unfolding place_at
  place-early false bytes x is = is
  place-early true bytes x is =
      let kind = parts (word_at bytes) _ x is in
      rw kind.is (node-early bytes kind.first.0 kind.first.1 x kind.after)

  -- a place with a node, after others, for whose number there may be no room
  pub lacks-place : (MayLack : ℕ → Type 0) (count id : ℕ) (start rest after : List ℕ) (place : Option (View (K × V))) → IsReadTo (place_at read_key read_value false) start id rest
      → place_at read_key read_value false rest ≡ Ok (place, after) → IsSome place → id < count → MayLack id → LacksPlace read_key read_value MayLack count start
  lacks-place MayLack count id start rest after place so_far is node lt lacks =
      let last : get_or (so_far.front ++ place ∷ []) id None ≡ place = get_or_push so_far.front place None id so_far.long in
      record {
        id = id;
        lacks = lacks;
        within = lt;
        places = so_far.front ++ place ∷ [];
        rest = after;
        read = many-last (place_at read_key read_value false) id start rest after so_far.front place so_far.read is;
        node = rw last node;
      }
