-- A walk down to a key: what one node passes on to the next.
use Rattle.btree_walk.proofs.Common.{◌≡◌, ℕ, zero, suc, ◌+◌, ◌≤◌, List, [], ◌∷◌, ◌++◌, length, map, drop, slice_get, Option, Some, None, Result, Ok, Err, IsSome, refl, sym, ap, subst, ◌∙◌, arith, append_assoc, length-map, IsTotalOrder, AllByRecursion, Ordering, Equal, Less, cuts_of, place_of, NodeMap, View, internal, items_of, leaf, IsUnder, remaining_in, represented, AreAbove, AreBelow, Rises, rises-right, searched, side, under-internal, under-leaf, AllByRecursion-append, AllByRecursion-right, preceding_in, with_child_before}
use Rattle.btree_view.specs.LookUp.{placed}
use Rattle.btree_laws.proofs.LookUp.Descent.{map-parts}
use Rattle.btree_laws.proofs.LookUp.KeyInList.{above-pivot, below-pivot}
use Rattle.btree_find.proofs.SearchLemmas.{placed-ok}
use Rattle.btree_walk.specs.AtKey.{below_place, up_to_place}
use Rattle.btree_walk.proofs.RowLemmas.{turned}

-- what a search in a node gives
pub below-ok : (r : Result ℕ ℕ) (children : List ℕ) (offset : Option ℕ) (index : ℕ) → Ok offset ≡ placed r children → offset ≡ Some index
    → (index, None) ≡ below_place r children
below-ok r children offset index e at =
    let p = placed-ok r children offset e in
    let same : index ≡ p.0 = let s = sym at ∙ p.2 in cc in
    rw (p.1, same) refl

pub below-err : (r : Result ℕ ℕ) (children : List ℕ) (gap : ℕ × Option ℕ) → Err gap ≡ placed r children → gap ≡ below_place r children
below-err (Ok i) children gap e = absurd (cc)
below-err (Err i) children gap e = cc

pub below-some : (r : Result ℕ ℕ) (children : List ℕ) (offset : Option ℕ) → Ok offset ≡ placed r children → IsSome offset
below-some r children offset e = let p = placed-ok r children offset e in rw p.2 refl

pub up_to-ok : (r : Result ℕ ℕ) (children : List ℕ) (offset : Option ℕ) (index : ℕ) → Ok offset ≡ placed r children → offset ≡ Some index
    → ◌≡◌ {A = ℕ × Option ℕ} (index + 1, None) (up_to_place r children)
up_to-ok r children offset index e at =
    let p = placed-ok r children offset e in
    let same : index ≡ p.0 = let s = sym at ∙ p.2 in cc in
    rw (p.1, same) refl

pub up_to-err : (r : Result ℕ ℕ) (children : List ℕ) (gap : ℕ × Option ℕ) → Err gap ≡ placed r children → gap ≡ up_to_place r children
up_to-err (Ok i) children gap e = absurd (cc)
up_to-err (Err i) children gap e = cc

-- the two parts of a pair
pub pair-left : {X Y : Type 0} (x u : X) (y v : Y) → ◌≡◌ {A = X × Y} (x, y) (u, v) → x ≡ u
pair-left {X} {Y} x u y v e = ap (λ (p : X × Y). p.0) e

pub pair-right : {X Y : Type 0} (x u : X) (y v : Y) → ◌≡◌ {A = X × Y} (x, y) (u, v) → y ≡ v
pair-right {X} {Y} x u y v e = ap (λ (p : X × Y). p.1) e

pub drop-front : {X : Type 0} (xs ys : List X) (n : ℕ) → n ≡ length xs → drop n (xs ++ ys) ≡ ys
drop-front [] ys zero e = refl
drop-front [] ys (suc n) e = absurd (omega arith)
drop-front (x ∷ xs) ys zero e = absurd (omega arith)
drop-front (x ∷ xs) ys (suc n) e = drop-front xs ys n (omega arith)

-- the child after a front of branches
pub child-at : {A : Type 0} (first : ℕ) (left right : List (A × ℕ))
    → slice_get (first ∷ map (λ b. b.1) (left ++ right)) (length left) ≡ slice_get (first ∷ map (λ b. b.1) left) (length left)
child-at first [] right = refl
child-at first (b ∷ left) right = child-at b.1 left right

pub child-under : {A : Type 0} (P : ℕ → Type 0) (first : ℕ) (left right : List (A × ℕ)) (child : ℕ)
    → slice_get (first ∷ map (λ b. b.1) (left ++ right)) (length left) ≡ Some child → P first → AllByRecursion (λ (b : A × ℕ). P b.1) (left ++ right) → P child
child-under P first [] right child e here all = let same : first ≡ child = cc in rw (← same) here
child-under P first (b ∷ left) right child e here all = child-under P b.1 left right child e all.0 all.1

-- an internal node has a child at each index up to the number of its items
pub gap-none : {A : Type 0} (first : ℕ) (bs : List (A × ℕ)) (index : ℕ) → index ≤ length bs → slice_get (first ∷ map (λ b. b.1) bs) index ≡ None → ⊥
gap-none first bs zero low e = absurd (cc)
gap-none first [] (suc index) low e = absurd (omega arith)
gap-none first (b ∷ bs) (suc index) low e = gap-none b.1 bs index (omega arith) e

module _ {A : Type 0} (node_at : NodeMap A) (levels : ℕ) where
  pub remaining-parts : (left right : List (A × ℕ)) → remaining_in node_at levels (left ++ right) ≡ remaining_in node_at levels left ++ remaining_in node_at levels right
  remaining-parts [] right = refl
  remaining-parts (b ∷ left) right =
      ap (λ l. b.0 ∷ (represented node_at levels b.1 ++ l)) (remaining-parts left right)
      ∙ ap (λ l. b.0 ∷ l) (sym (append_assoc (represented node_at levels b.1) (remaining_in node_at levels left) (remaining_in node_at levels right)))

  -- an internal node in two parts at a child: what comes before the child, and the child with what comes after it
  pub cut-list : (first : ℕ) (left right : List (A × ℕ)) (child : ℕ) → slice_get (first ∷ map (λ b. b.1) (left ++ right)) (length left) ≡ Some child
      → represented node_at levels first ++ remaining_in node_at levels (left ++ right)
      ≡ preceding_in node_at levels (with_child_before first left) ++ (represented node_at levels child ++ remaining_in node_at levels right)
  cut-list first left right child e =
      ap (λ l. represented node_at levels first ++ l) (remaining-parts left right)
      ∙ sym (append_assoc (represented node_at levels first) (remaining_in node_at levels left) (remaining_in node_at levels right))
      ∙ ap (λ l. l ++ remaining_in node_at levels right) (turned node_at levels first left child (sym (child-at first left right) ∙ e))
      ∙ append_assoc (preceding_in node_at levels (with_child_before first left)) (represented node_at levels child) (remaining_in node_at levels right)

  items-all : (P : A → Type 0) (bs : List (A × ℕ)) → AllByRecursion P (remaining_in node_at levels bs) → AllByRecursion P (map (λ b. b.0) bs)
  items-all P [] all = tt
  items-all P (b ∷ bs) all = (all.0, items-all P bs (AllByRecursion-right P (represented node_at levels b.1) (remaining_in node_at levels bs) all.1))

module _ {K V : Type 0} (cmp : K → K → Ordering) (node_at : NodeMap (K × V)) (levels : ℕ) where
  row-rises : (bs : List ((K × V) × ℕ)) → Rises cmp (remaining_in node_at levels bs) → Rises cmp (map (λ b. b.0) bs)
  row-rises [] up = tt
  row-rises (b ∷ bs) up = (
    items-all node_at levels (λ y. cmp b.0.0 y.0 ≡ Less) bs
        (AllByRecursion-right (λ y. cmp b.0.0 y.0 ≡ Less) (represented node_at levels b.1) (remaining_in node_at levels bs) up.0),
    row-rises bs (rises-right cmp (represented node_at levels b.1) (remaining_in node_at levels bs) up.1),
  )

  -- the items of a node ascend if the list that it represents does
  pub node-rises : (depth id : ℕ) (v : View (K × V)) → IsUnder node_at levels depth id → node_at id ≡ Some v → Rises cmp (represented node_at levels id)
      → Rises cmp (items_of v)
  node-rises depth id (leaf p ys) u e up = subst (λ l. Rises cmp l) (under-leaf node_at levels depth id p ys u e) up
  node-rises depth id (internal p first bs) u e up =
      let i = under-internal node_at levels depth id p first bs u e in
      row-rises bs (rises-right cmp (represented node_at levels first) (remaining_in node_at levels bs) (subst (λ l. Rises cmp l) i.list up))

  module _ (k : K) (laws : IsTotalOrder cmp) where
    -- the branches of a node in two parts at a key that is not in it
    pub record Gap (bs : List ((K × V) × ℕ)) (index : ℕ) : Type 0 where
      pub left : List ((K × V) × ℕ)
      pub right : List ((K × V) × ℕ)
      pub is : bs ≡ left ++ right
      pub counted : index ≡ length left
      pub low : AreBelow cmp k (map (λ b. b.0) left)
      pub high : AreAbove cmp k (map (λ b. b.0) right)

    pub gap-of : (bs : List ((K × V) × ℕ)) (index : ℕ) → Rises cmp (map (λ b. b.0) bs) → place_of cmp k (map (λ b. b.0) bs) ≡ Err index → Gap bs index
    gap-of bs index up place =
        let s = searched cmp k (cuts_of laws) (map (λ b. b.0) bs) (Err index) up place in
        let m = map-parts (λ (b : (K × V) × ℕ). b.0) bs s.0 s.1 s.2 in
        record {
          left = m.left;
          right = m.right;
          is = m.is;
          counted = let a = s.3 in let b = ap length m.first in let c = length-map m.left (λ (b : (K × V) × ℕ). b.0) in omega arith;
          low = subst (λ l. AreBelow cmp k l) (sym m.first) s.4;
          high = subst (λ l. AreAbove cmp k l) (sym m.second) s.5;
        }

    -- the branches of a node around the item with the key
    pub record Hit (bs : List ((K × V) × ℕ)) (index : ℕ) : Type 0 where
      pub left : List ((K × V) × ℕ)
      pub branch : (K × V) × ℕ
      pub right : List ((K × V) × ℕ)
      pub is : bs ≡ left ++ branch ∷ right
      pub counted : index ≡ length left
      pub same : side cmp k branch.0 ≡ Equal

    pub hit-of : (bs : List ((K × V) × ℕ)) (index : ℕ) → Rises cmp (map (λ b. b.0) bs) → place_of cmp k (map (λ b. b.0) bs) ≡ Ok index → Hit bs index
    hit-of bs index up place =
        let s = searched cmp k (cuts_of laws) (map (λ b. b.0) bs) (Ok index) up place in
        let m = map-parts (λ (b : (K × V) × ℕ). b.0) bs s.0 (s.1 ∷ s.2) s.3 in
        let c : index ≡ length m.left = let a = s.4 in let b = ap length m.first in let c = length-map m.left (λ (b : (K × V) × ℕ). b.0) in omega arith in
        parts m.left c s.1 s.2 s.6 m.right m.is m.second
      where
        parts : (left : List ((K × V) × ℕ)) → index ≡ length left → (x : K × V) (others : List (K × V)) → side cmp k x ≡ Equal → (right : List ((K × V) × ℕ))
            → bs ≡ left ++ right → map (λ b. b.0) right ≡ x ∷ others → Hit bs index
        parts left c x others same [] is e = absurd (cc)
        parts left c x others same (b ∷ right) is e =
            let here : b.0 ≡ x = cc in
            record { left = left; branch = b; right = right; is = is; counted = c; same = rw here same }

    pub cut-low : (first : ℕ) (left : List ((K × V) × ℕ)) → AreBelow cmp k (map (λ b. b.0) left)
        → Rises cmp (represented node_at levels first ++ remaining_in node_at levels left) → AreBelow cmp k (preceding_in node_at levels (with_child_before first left))
    cut-low first [] low up = tt
    cut-low first (b ∷ left) low up =
        let front : List (K × V) = represented node_at levels first in
        let rest : List (K × V) = represented node_at levels b.1 ++ remaining_in node_at levels left in
        AllByRecursion-append (λ y. side cmp k y ≡ Less) (front ++ b.0 ∷ []) (preceding_in node_at levels (with_child_before b.1 left))
        (AllByRecursion-append (λ y. side cmp k y ≡ Less) front (b.0 ∷ []) (below-pivot cmp k (cuts_of laws) front b.0 rest up low.0) (low.0, tt))
        (cut-low b.1 left low.1 (rises-right cmp front (b.0 ∷ rest) up).1)

    pub row-high : (right : List ((K × V) × ℕ)) → AreAbove cmp k (map (λ b. b.0) right) → Rises cmp (remaining_in node_at levels right)
        → AreAbove cmp k (remaining_in node_at levels right)
    row-high [] high up = tt
    row-high (b ∷ right) high up =
        above-pivot cmp k (cuts_of laws) b.0 (represented node_at levels b.1 ++ remaining_in node_at levels right) up high.0
