-- What the walk of the validator has found at a node, and after each of its children.
use Rattle.btree_valid.proofs.Common.{◌≡◌, ◌≤◌, ◌<◌, ◌∷◌, ◌++◌, [], ◌∙◌, ◌+◌, ℕ, zero, suc, inl, inr, List, length, length-append, map, is_some, true, false, Option, Some, Result, Ok, Err, option_copied, slice_get, refl, sym, ap, subst, arith, IsTotalOrder, IfSome, Ordering, Fault, Node, Content, separator_after, separator_before, View, children_of, internal, leaf, size_of, total, Subtree, id_of, items_under, views, Rises, ascends, AreBetween, nearest_of, CanMeet, FindsAt, Suits, Exempt, IsSizedNode, PassesNode, items_of, rises, Met, Spot}
use Rattle.std.proofs.lemmas.List.{length-map}
use Rattle.std.proofs.lemmas.Option.{slice_get_within}
use Rattle.std.specs.Option.{option_map}
use Rattle.std.specs.Prelude.{◌⊎◌, IfOk}
use Rattle.btree_laws.proofs.Paths.Frames.{total-append}
use Rattle.btree_valid.specs.Spots.{HasFoundPart, MeetsLeaf, WasMore}
use Rattle.btree_valid.proofs.FoundLemmas.{RowSuits, all-sized, join, leaf-sized, row-sized}
use Rattle.btree_valid.proofs.SuitsLemmas.{items-total, numbers-total, numbers_in, parts_under}

module _ {K V : Type 0} (content : Content (Node K V)) (cmp : K → K → Ordering) (exempt : Option Exempt) (h : ℕ) (parent : Option ℕ) where
  -- a part stands at an index among the children of a node, and suits there
  pub record ChildSuits (min max : Option K) (v : View (K × V)) (index : ℕ) (part : Subtree (K × V) h) : Type 0 where
    pub here : Some (id_of (K × V) h part) ≡ slice_get (children_of v) index
    pub suits : Suits exempt cmp (nearest_of (separator_before v index) min) (nearest_of (separator_after v index) max) (views content) parent h part

  -- so do these, from an index on
  abbrev pub AllSuit : (min max : Option K) (v : View (K × V)) (index : ℕ) → List (Subtree (K × V) h) → Type 0
  AllSuit min max v index [] = Unit {0}
  AllSuit min max v index (p ∷ ps) = ChildSuits min max v index p × AllSuit min max v (suc index) ps

  pub suit-snoc : (min max : Option K) (v : View (K × V)) (index : ℕ) (ps : List (Subtree (K × V) h)) (p : Subtree (K × V) h) → AllSuit min max v index ps → ChildSuits min max v (index + length ps) p → AllSuit min max v index (ps ++ p ∷ [])
  suit-snoc min max v index [] p all s = (subst (λ i. ChildSuits min max v i p) (omega arith) s, tt)
  suit-snoc min max v index (q ∷ ps) p all s = (all.0, suit-snoc min max v (suc index) ps p all.1 (subst (λ i. ChildSuits min max v i p) (omega arith) s))

  near-in : (bs : List ((K × V) × ℕ)) (k child : ℕ) → Some child ≡ slice_get (map {B = ℕ} (λ b. b.1) bs) k → (a b : Option K)
      → nearest_of (option_map (λ x. x.0) (slice_get (map {B = K × V} (λ b. b.0) bs) k)) a ≡ nearest_of (option_map (λ x. x.0) (slice_get (map {B = K × V} (λ b. b.0) bs) k)) b
  near-in [] k child e a b = absurd (cc)
  near-in (r ∷ bs) zero child e a b = refl
  near-in (r ∷ bs) (suc k) child e a b = near-in bs k child e a b

  module _ (min max : Option K) (above : Option ℕ) (first : ℕ) (b : (K × V) × ℕ) (bs : List ((K × V) × ℕ)) where
    -- without the first child, its item is the separator before the others
    shift : (k : ℕ) (ps : List (Subtree (K × V) h)) → AllSuit min max (internal above first (b ∷ bs)) (suc k) ps → AllSuit (Some b.0.0) max (internal above b.1 bs) k ps
    shift k [] all = tt
    shift zero (p ∷ ps) all = (record { here = all.0.here; suits = all.0.suits }, shift (suc zero) ps all.1)
    shift (suc k) (p ∷ ps) all = (
      record {
        here = all.0.here;
        suits = subst (λ near. Suits exempt cmp near (nearest_of (separator_after (internal above b.1 bs) (suc k)) max) (views content) parent h p) (near-in bs k (id_of (K × V) h p) all.0.here min (Some b.0.0)) all.0.suits;
      },
      shift (suc (suc k)) ps all.1,
    )

  abbrev pub row_of : List ((K × V) × ℕ) → List (Subtree (K × V) h) → List ((K × V) × Subtree (K × V) h)
  row_of [] ps = []
  row_of (b ∷ bs) [] = []
  row_of (b ∷ bs) (p ∷ ps) = (b.0, p) ∷ row_of bs ps

  row-parts : (bs : List ((K × V) × ℕ)) (ps : List (Subtree (K × V) h)) → length ps ≡ length bs → map {B = Subtree (K × V) h} (λ b. b.1) (row_of bs ps) ≡ ps
  row-parts [] [] same = refl
  row-parts [] (p ∷ ps) same = absurd (omega arith)
  row-parts (b ∷ bs) [] same = absurd (omega arith)
  row-parts (b ∷ bs) (p ∷ ps) same = ap (λ z. p ∷ z) (row-parts bs ps (omega arith))

  row-keys : (bs : List ((K × V) × ℕ)) (ps : List (Subtree (K × V) h)) → length ps ≡ length bs → map {B = K × V} (λ b. b.0) (row_of bs ps) ≡ map {B = K × V} (λ b. b.0) bs
  row-keys [] ps same = refl
  row-keys (b ∷ bs) [] same = absurd (omega arith)
  row-keys (b ∷ bs) (p ∷ ps) same = ap (λ z. b.0 ∷ z) (row-keys bs ps (omega arith))

  row-named : (min max : Option K) (above : Option ℕ) (first : ℕ) (bs : List ((K × V) × ℕ)) (ps : List (Subtree (K × V) h)) → length ps ≡ length bs → AllSuit min max (internal above first bs) 1 ps
      → map {B = (K × V) × ℕ} (λ (b : (K × V) × Subtree (K × V) h). (b.0, id_of (K × V) h b.1)) (row_of bs ps) ≡ bs
  row-named min max above first [] ps same all = refl
  row-named min max above first (b ∷ bs) [] same all = absurd (omega arith)
  row-named min max above first (b ∷ bs) (p ∷ ps) same all =
      let is : id_of (K × V) h p ≡ b.1 = (let e = all.0.here in cc) in
      let s = shift min max above first b bs zero (p ∷ ps) all in
      let rest = row-named (Some b.0.0) max above b.1 bs ps (omega arith) s.1 in
      ap (λ i. (b.0, i) ∷ map {B = (K × V) × ℕ} (λ (b : (K × V) × Subtree (K × V) h). (b.0, id_of (K × V) h b.1)) (row_of bs ps)) is ∙ ap (λ z. b ∷ z) rest

  row-suits : (min max : Option K) (above : Option ℕ) (first : ℕ) (bs : List ((K × V) × ℕ)) (p : Subtree (K × V) h) (ps : List (Subtree (K × V) h)) → length ps ≡ length bs → AllSuit min max (internal above first bs) 0 (p ∷ ps)
      → RowSuits cmp exempt (views content) h parent min max p (row_of bs ps)
  row-suits min max above first [] p ps same all = all.0.suits
  row-suits min max above first (b ∷ bs) p [] same all = absurd (omega arith)
  row-suits min max above first (b ∷ bs) p (q ∷ ps) same all = (all.0.suits, row-suits (Some b.0.0) max above b.1 bs q ps (omega arith) (shift min max above first b bs zero (q ∷ ps) all.1))

module _ {K V : Type 0} (content : Content (Node K V)) (cmp : K → K → Ordering) (laws : IsTotalOrder cmp) (exempt : Option Exempt) (id : ℕ) (parent : Option ℕ) (min max : Option K) where
  -- the children of a node that passes its checks make a part that suits
  pub assemble : (h : ℕ) (above : Option ℕ) (first : ℕ) (bs : List ((K × V) × ℕ)) → views content id ≡ Some (internal above first bs) → PassesNode cmp exempt id parent min max (internal above first bs)
      → (p : Subtree (K × V) h) (ps : List (Subtree (K × V) h)) → length ps ≡ length bs → AllSuit content cmp exempt h (Some id) min max (internal above first bs) 0 (p ∷ ps)
      → Suits exempt cmp min max (views content) parent (suc h) (id, p, row_of content cmp exempt h (Some id) bs ps)
  assemble h above first bs at chk p ps same all =
      let row : List ((K × V) × Subtree (K × V) h) = row_of content cmp exempt h (Some id) bs ps in
      let keys : map {B = K × V} (λ b. b.0) row ≡ map {B = K × V} (λ b. b.0) bs = row-keys content cmp exempt h (Some id) bs ps same in
      let suits = row-suits content cmp exempt h (Some id) min max above first bs p ps same all in
      let joined = join cmp laws exempt (views content) h (Some id) min max p row (subst (Rises cmp) (sym keys) (rises cmp (items_of (internal above first bs)) chk.ascends)) (subst (AreBetween cmp min max) (sym keys) chk.between) suits in
      let count : size_of (internal above first bs) ≡ length row = (let a = length-map bs (λ (b : (K × V) × ℕ). b.0) in let b = ap length keys in let c = length-map row (λ (b : (K × V) × Subtree (K × V) h). b.0) in omega arith) in
      let named = row-named content cmp exempt h (Some id) min max above first bs ps same all.1 in
      let is : id_of (K × V) h p ≡ first = (let e = all.0.here in cc) in
      record {
        holds = (
          at ∙ (ap (λ q. Some (internal q first bs)) chk.parent_is ∙ (ap (λ i. Some (internal parent i bs)) (sym is) ∙ ap (λ l. Some (internal parent (id_of (K × V) h p) l)) (sym named))),
          joined.holds.0,
          joined.holds.1,
        );
        sized = all-sized (views content) min max id exempt h above first bs at chk.sized p row count (λ some. row-sized cmp (views content) h (Some id) exempt min max p row some suits);
        ascends = ascends cmp (items_under (K × V) (suc h) (id, p, row)) joined.rise;
        between = joined.between;
      }

module _ {K V : Type 0} (content : Content (Node K V)) (cmp : K → K → Ordering) (laws : IsTotalOrder cmp) (exempt : Option Exempt) (spot : Spot K) (met : Met) (v : View (K × V)) where
  -- the node at the spot was counted, and none of its children passed
  pub record IsCounted (passed : Met) : Type 0 where
    pub leaves : passed.leaf_level ≡ met.leaf_level
    pub items : WasMore passed.items (size_of v) met.items
    pub nodes : WasMore passed.nodes 1 met.nodes

  -- so many of its children were passed, and suit it
  pub record AreFound (index : ℕ) (passed : Met) : Type 0 where
    pub height : ℕ
    pub parts : List (Subtree (K × V) height)
    pub all : length parts ≡ index
    pub some : 0 < index
    pub within : index ≤ length (children_of v)
    pub low : spot.level + suc height < 32
    pub can : CanMeet (spot.level + suc height) met
    pub leaves : passed.leaf_level ≡ Some (spot.level + suc height)
    pub suit : AllSuit content cmp exempt height (Some spot.id) (option_copied spot.min) (option_copied spot.max) v 0 parts
    pub items : WasMore passed.items (size_of v + total (λ s. length (items_under (K × V) height s)) parts) met.items
    pub nodes : WasMore passed.nodes (1 + total (numbers_in height (views content)) parts) met.nodes

  abbrev pub IsDone : (index : ℕ) (passed : Met) → Type 0
  IsDone index passed = ((index ≡ 0) × IsCounted passed) ⊎ AreFound index passed

  module _ (index : ℕ) (passed : Met) (child : ℕ) (found : Some child ≡ slice_get (children_of v) index) (below : Spot K) (level : below.level ≡ spot.level + 1) (parent : below.parent ≡ Some spot.id) (id : below.id ≡ child)
      (min : option_copied below.min ≡ nearest_of (separator_before v index) (option_copied spot.min)) (max : option_copied below.max ≡ nearest_of (separator_after v index) (option_copied spot.max)) where
    child-suits : (h : ℕ) (after : Met) (f : HasFoundPart content cmp exempt below passed after h) → ChildSuits content cmp exempt h (Some spot.id) (option_copied spot.min) (option_copied spot.max) v index f.part
    child-suits h after f = record {
      here = ap Some (f.begins.here ∙ id) ∙ found;
      suits = subst (λ p. Suits exempt cmp (nearest_of (separator_before v index) (option_copied spot.min)) (nearest_of (separator_after v index) (option_copied spot.max)) (views content) p h f.part) parent
          (subst (λ m. Suits exempt cmp m (nearest_of (separator_after v index) (option_copied spot.max)) (views content) below.parent h f.part) min
          (subst (λ m. Suits exempt cmp (option_copied below.min) m (views content) below.parent h f.part) max f.begins.suits));
    }

    first-found : index ≡ 0 → IsCounted passed → (h : ℕ) (after : Met) → HasFoundPart content cmp exempt below passed after h → AreFound (index + 1) after
    first-found none counted h after f =
        let deep : below.level + h ≡ spot.level + suc h = omega arith in
        let within = slice_get_within (children_of v) index child (sym found) in
        record {
          height = h;
          parts = f.part ∷ [];
          all = omega arith;
          some = omega arith;
          within = omega arith;
          low = let l = f.begins.low in omega arith;
          can = subst (λ d. CanMeet d met) deep (subst (λ l. IfSome l (λ first. first ≡ below.level + h)) counted.leaves f.can);
          leaves = f.leaves ∙ ap Some deep;
          suit = (subst (λ i. ChildSuits content cmp exempt h (Some spot.id) (option_copied spot.min) (option_copied spot.max) v i f.part) none (child-suits h after f), tt);
          items = λ n e.
              let more = f.items n e in
              let had = counted.items (length (items_under (K × V) h f.part) + n) more in
              let sum : size_of v + (length (items_under (K × V) h f.part) + n) ≡ size_of v + total (λ s. length (items_under (K × V) h s)) (f.part ∷ []) + n = omega arith in
              had ∙ ap Some sum;
          nodes = λ n e.
              let more = f.nodes n e in
              let had = counted.nodes (numbers_in h (views content) f.part + n) more in
              let sum : 1 + (numbers_in h (views content) f.part + n) ≡ 1 + total (numbers_in h (views content)) (f.part ∷ []) + n = omega arith in
              had ∙ ap Some sum;
        }

    later-found : (w : AreFound index passed) (after : Met) → HasFoundPart content cmp exempt below passed after w.height → AreFound (index + 1) after
    later-found w after f =
        let h : ℕ = w.height in
        let deep : below.level + h ≡ spot.level + suc h = omega arith in
        let within = slice_get_within (children_of v) index child (sym found) in
        let a = w.all in
        record {
          height = h;
          parts = w.parts ++ f.part ∷ [];
          all = let l = length-append w.parts (f.part ∷ []) in omega arith;
          some = omega arith;
          within = omega arith;
          low = w.low;
          can = w.can;
          leaves = f.leaves ∙ ap Some deep;
          suit = suit-snoc content cmp exempt h (Some spot.id) (option_copied spot.min) (option_copied spot.max) v 0 w.parts f.part w.suit
              (subst (λ i. ChildSuits content cmp exempt h (Some spot.id) (option_copied spot.min) (option_copied spot.max) v i f.part) (omega arith) (child-suits h after f));
          items = λ n e.
              let had = w.items (length (items_under (K × V) h f.part) + n) (f.items n e) in
              let sum = total-append (λ (s : Subtree (K × V) h). length (items_under (K × V) h s)) w.parts (f.part ∷ []) in
              had ∙ ap Some (omega arith);
          nodes = λ n e.
              let had = w.nodes (numbers_in h (views content) f.part + n) (f.nodes n e) in
              let sum = total-append (numbers_in h (views content)) w.parts (f.part ∷ []) in
              had ∙ ap Some (omega arith);
        }

    -- the next child is found at the height of the others
    pub done-next : IsDone index passed → (answer : Result Met Fault) → FindsAt content cmp exempt below passed answer → (after : Met) → answer ≡ Ok after → IsDone (index + 1) after
    done-next done answer finds after ok =
        let f = subst (λ a. FindsAt content cmp exempt below passed a) ok finds in
        elim done [
          | inl start ↦ inr (first-found start.0 start.1 f.0 after f.1)
          | inr w ↦
              let can : below.level + f.0 ≡ spot.level + suc w.height = (let c = subst (λ l. IfSome l (λ first. first ≡ below.level + f.0)) w.leaves f.1.can in sym c) in
              let same : f.0 ≡ w.height = omega arith in
              inr (later-found w after (subst (λ h. HasFoundPart content cmp exempt below passed after h) same f.1))
        ]

module _ {K V : Type 0} (content : Content (Node K V)) (cmp : K → K → Ordering) (laws : IsTotalOrder cmp) (exempt : Option Exempt) (spot : Spot K) (met : Met) where
  leaf-part : (u : View (K × V)) → views content spot.id ≡ Some u → PassesNode cmp exempt spot.id spot.parent (option_copied spot.min) (option_copied spot.max) u → is_some (slice_get (children_of u) 0) ≡ false → spot.level < 32
      → (counted : Met) → IsCounted content cmp laws exempt spot met u counted → (after : Met) → MeetsLeaf spot.level counted after → HasFoundPart content cmp exempt spot met after 0
  leaf-part (internal p first bs) there k none low counted c after f = absurd (cc)
  leaf-part (leaf p xs) there k none low counted c after f =
      let same : spot.level ≡ spot.level + 0 = omega arith in
      let left : after.items ≡ counted.items = ap (λ a. a.items) f.after_is in
      let more : after.nodes ≡ counted.nodes = ap (λ a. a.nodes) f.after_is in
      record {
        part = (spot.id, xs);
        begins = record {
          here = refl;
          low = omega arith;
          suits = record {
            holds = there ∙ ap (λ q. Some (leaf q xs)) k.parent_is;
            sized = leaf-sized (views content) (option_copied spot.min) (option_copied spot.max) spot.id exempt spot.parent xs (there ∙ ap (λ q. Some (leaf q xs)) k.parent_is) (subst (λ q. IsSizedNode exempt (option_copied spot.min) (option_copied spot.max) spot.id (leaf q xs)) k.parent_is k.sized);
            ascends = k.ascends;
            between = k.between;
          };
        };
        can = subst (λ d. CanMeet d met) same (subst (λ l. IfSome l (λ first. first ≡ spot.level)) c.leaves f.can);
        leaves = ap (λ a. a.leaf_level) f.after_is ∙ ap Some same;
        items = λ n e. c.items n (sym left ∙ e);
        nodes = λ n e. c.nodes n (sym more ∙ e);
      }

  inner-part : (u : View (K × V)) → views content spot.id ≡ Some u → PassesNode cmp exempt spot.id spot.parent (option_copied spot.min) (option_copied spot.max) u → is_some (slice_get (children_of u) 0) ≡ true
      → (index : ℕ) (passed : Met) → length (children_of u) ≤ index → (w : AreFound content cmp laws exempt spot met u index passed) → (parts : List (Subtree (K × V) w.height)) → w.parts ≡ parts → HasFoundPart content cmp exempt spot met passed (suc w.height)
  inner-part (leaf p xs) there k some index passed last w parts are = absurd (cc)
  inner-part (internal p first bs) there k some index passed last w [] are =
      let none : length w.parts ≡ 0 = ap length are in
      let a = w.all in
      absurd (omega arith)
  inner-part (internal p first bs) there k some index passed last w (q ∷ ps) are =
      let h : ℕ = w.height in
      let a = w.all in
      let b = w.within in
      let c : length w.parts ≡ suc (length ps) = ap length are in
      let d = length-map bs (λ (b : (K × V) × ℕ). b.1) in
      let same : length ps ≡ length bs = omega arith in
      let all = subst (AllSuit content cmp exempt h (Some spot.id) (option_copied spot.min) (option_copied spot.max) (internal p first bs) 0) are w.suit in
      let suits = assemble content cmp laws exempt spot.id spot.parent (option_copied spot.min) (option_copied spot.max) h p first bs there k q ps same all in
      let row : List ((K × V) × Subtree (K × V) h) = row_of content cmp exempt h (Some spot.id) bs ps in
      let part : Subtree (K × V) (suc h) = (spot.id, q, row) in
      let back = row-parts content cmp exempt h (Some spot.id) bs ps same in
      let keys = row-keys content cmp exempt h (Some spot.id) bs ps same in
      let size : size_of (internal p first bs) ≡ length row = (let a = length-map bs (λ (b : (K × V) × ℕ). b.0) in let b = ap length keys in let c = length-map row (λ (b : (K × V) × Subtree (K × V) h). b.0) in omega arith) in
      let items = items-total h part in
      let nodes = numbers-total h (views content) spot.parent part suits.holds.0 in
      let same_items : total (λ s. length (items_under (K × V) h s)) w.parts ≡ total (λ s. length (items_under (K × V) h s)) (parts_under h part) = ap (total (λ s. length (items_under (K × V) h s))) are ∙ ap (λ l. total (λ s. length (items_under (K × V) h s)) (q ∷ l)) (sym back) in
      let same_nodes : total (numbers_in h (views content)) w.parts ≡ total (numbers_in h (views content)) (parts_under h part) = ap (total (numbers_in h (views content))) are ∙ ap (λ l. total (numbers_in h (views content)) (q ∷ l)) (sym back) in
      record {
        part = part;
        begins = record { here = refl; low = w.low; suits = suits };
        can = w.can;
        leaves = w.leaves;
        items = λ n e. w.items n e ∙ ap Some (omega arith);
        nodes = λ n e. w.nodes n e ∙ ap Some (omega arith);
      }

  module _ (v : View (K × V)) (at : views content spot.id ≡ Some v) (chk : PassesNode cmp exempt spot.id spot.parent (option_copied spot.min) (option_copied spot.max) v) where
    -- a leaf
    pub leaf-found : is_some (slice_get (children_of v) 0) ≡ false → spot.level < 32 → (counted : Met) → IsCounted content cmp laws exempt spot met v counted → (result : Result Met Fault) → IfOk result (MeetsLeaf spot.level counted) → FindsAt content cmp exempt spot met result
    leaf-found none low counted c (Err fault) f = tt
    leaf-found none low counted c (Ok after) f = (0, leaf-part v at chk none low counted c after f)

    -- the whole node, after its last child
    pub done-all : is_some (slice_get (children_of v) 0) ≡ true → (index : ℕ) (passed : Met) → length (children_of v) ≤ index → IsDone content cmp laws exempt spot met v index passed → FindsAt content cmp exempt spot met (Ok passed)
    done-all inner index passed last (inl start) =
        let none : length (children_of v) ≡ 0 = (let s = start.0 in omega arith) in
        absurd (no-child (children_of v) none inner)
      where
        no-child : (ns : List ℕ) → length ns ≡ 0 → is_some (slice_get ns 0) ≡ true → ⊥
        no-child [] none some = cc
        no-child (n ∷ ns) none some = omega arith
    done-all inner index passed last (inr w) = (suc w.height, inner-part v at chk inner index passed last w w.parts refl)
