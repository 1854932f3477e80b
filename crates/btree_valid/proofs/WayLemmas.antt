-- Two positions with one number: that number is listed twice (`two-listed`).
use Rattle.btree_valid.proofs.Common.{◌≡◌, ◌∙◌, ◌+◌, ◌<◌, ◌≤◌, ◌∷◌, [], ℕ, zero, suc, inl, inr, List, Some, length, slice_get, sym, ap, subst, arith, flat_map, NodeMap, children_in, children_of, times_listed, numbers_under, one-self, Leads, Spotted, step_down}
use Rattle.btree_laws.specs.Lists.{one}
use Rattle.btree_laws.proofs.Trees.Numbers.{listed-append}
use Rattle.btree_valid.proofs.ListedLaws.{met-listed}
use Rattle.btree_valid.specs.PositionLaws.{one-first}
use Rattle.btree_valid.specs.Positions.{Precedes}

module _ (f : ℕ → List ℕ) (n : ℕ) where
  -- what one child lists is a part of what all list
  one-child : (ids : List ℕ) (i c : ℕ) → slice_get ids i ≡ Some c → times_listed n (f c) ≤ times_listed n (flat_map f ids)
  one-child [] i c found = absurd (cc)
  one-child (id ∷ ids) zero c found =
      let is : times_listed n (f id) ≡ times_listed n (f c) = ap (λ k. times_listed n (f k)) (let e : id ≡ c = cc in e) in
      let l = listed-append n (f id) (flat_map f ids) in
      omega arith
  one-child (id ∷ ids) (suc i) c found =
      let rest = one-child ids i c found in
      let l = listed-append n (f id) (flat_map f ids) in
      omega arith

  -- so is what two of them list
  two-children : (ids : List ℕ) (i j c d : ℕ) → i < j → slice_get ids i ≡ Some c → slice_get ids j ≡ Some d
      → times_listed n (f c) + times_listed n (f d) ≤ times_listed n (flat_map f ids)
  two-children [] i j c d before first last = absurd (cc)
  two-children (id ∷ ids) i zero c d before first last = absurd (omega arith)
  two-children (id ∷ ids) zero (suc j) c d before first last =
      let is : times_listed n (f id) ≡ times_listed n (f c) = ap (λ k. times_listed n (f k)) (let e : id ≡ c = cc in e) in
      let rest = one-child ids j d last in
      let l = listed-append n (f id) (flat_map f ids) in
      omega arith
  two-children (id ∷ ids) (suc i) (suc j) c d before first last =
      let rest = two-children ids i j c d (omega arith) first last in
      let l = listed-append n (f id) (flat_map f ids) in
      omega arith

module _ {K V : Type 0} (node_at : NodeMap (K × V)) (n : ℕ) where
  abbrev Below : ℕ → ℕ → List ℕ
  Below height = numbers_under node_at height

  -- what a position leads to is listed under the node that its first index is of
  listed-below : (height : ℕ) (from : Spotted K) (i : ℕ) (way : List ℕ) (to : Spotted K) → length way ≤ height → Leads node_at from (i ∷ way) to → to.id ≡ n
      → 0 < times_listed n (flat_map (Below height) (children_in (node_at from.id)))
  listed-below height from i way to low l is =
      let rest = met-listed node_at height (step_down from l.0 i l.1) way to low l.4 in
      let here : 0 < times_listed n (Below height l.1) = subst (λ k. 0 < times_listed k (Below height l.1)) is rest in
      let part = one-child (Below height) n (children_of l.0) i l.1 l.3 in
      let kids : times_listed n (flat_map (Below height) (children_in (node_at from.id))) ≡ times_listed n (flat_map (Below height) (children_of l.0)) = ap (λ v. times_listed n (flat_map (Below height) (children_in v))) l.2 in
      omega arith

  pub two-listed : (height : ℕ) (from : Spotted K) (way other : List ℕ) (a b : Spotted K) → Precedes way other → length way ≤ height → length other ≤ height
      → Leads node_at from way a → Leads node_at from other b → a.id ≡ n → b.id ≡ n → 2 ≤ times_listed n (numbers_under node_at height from.id)
  two-listed height from way [] a b before low high f g is same = absurd before
  two-listed zero from way (j ∷ other) a b before low high f g is same = absurd (omega arith)
  two-listed (suc height) from [] (j ∷ other) a b before low high f g is same =
      let here : one n from.id ≡ 1 = subst (λ k. one n k ≡ 1) (sym is ∙ ap (λ s. s.id) (sym f)) (one-self n) in
      let rest = listed-below height from j other b (omega arith) g same in
      omega arith
  two-listed (suc height) from (i ∷ way) (j ∷ other) a b (inl before) low high f g is same =
      let node : f.0 ≡ g.0 = (let x = f.2 in let y = g.2 in cc) in
      let later : slice_get (children_of f.0) j ≡ Some g.1 = ap (λ v. slice_get (children_of v) j) node ∙ g.3 in
      let first = met-listed node_at height (step_down from f.0 i f.1) way a (omega arith) f.4 in
      let last = met-listed node_at height (step_down from g.0 j g.1) other b (omega arith) g.4 in
      let one_here : 0 < times_listed n (Below height f.1) = subst (λ k. 0 < times_listed k (Below height f.1)) is first in
      let one_there : 0 < times_listed n (Below height g.1) = subst (λ k. 0 < times_listed k (Below height g.1)) same last in
      let both = two-children (Below height) n (children_of f.0) i j f.1 g.1 before f.3 later in
      let kids : times_listed n (flat_map (Below height) (children_in (node_at from.id))) ≡ times_listed n (flat_map (Below height) (children_of f.0)) = ap (λ v. times_listed n (flat_map (Below height) (children_in v))) f.2 in
      omega arith
  two-listed (suc height) from (i ∷ way) (j ∷ other) a b (inr before) low high f g is same =
      let node : f.0 ≡ g.0 = (let x = f.2 in let y = g.2 in cc) in
      let there : slice_get (children_of f.0) i ≡ Some g.1 = ap (λ v. slice_get (children_of v) i) node ∙ (ap (slice_get (children_of g.0)) before.0 ∙ g.3) in
      let child : f.1 ≡ g.1 = (let x = f.3 in cc) in
      let down : step_down from f.0 i f.1 ≡ step_down from g.0 j g.1 = ap (λ v. step_down from v i f.1) node ∙ (ap (λ k. step_down from g.0 k f.1) before.0 ∙ ap (step_down from g.0 j) child) in
      let twice = two-listed height (step_down from g.0 j g.1) way other a b before.1 (omega arith) (omega arith) (subst (λ s. Leads node_at s way a) down f.4) g.4 is same in
      let part = one-child (Below height) n (children_of g.0) j g.1 g.3 in
      let kids : times_listed n (flat_map (Below height) (children_in (node_at from.id))) ≡ times_listed n (flat_map (Below height) (children_of g.0)) = ap (λ v. times_listed n (flat_map (Below height) (children_in v))) g.2 in
      omega arith

  -- two positions with a number that is listed once are the same
  pub same-way : (height : ℕ) (from : Spotted K) (way other : List ℕ) (a b : Spotted K) → length way ≤ height → length other ≤ height
      → Leads node_at from way a → Leads node_at from other b → a.id ≡ n → b.id ≡ n → times_listed n (numbers_under node_at height from.id) ≤ 1 → way ≡ other
  same-way height from way other a b low high f g is same once = elim (one-first way other) [
    | inl first ↦ let two = two-listed height from way other a b first low high f g is same in absurd (omega arith)
    | inr rest ↦ elim rest [
      | inl equal ↦ equal
      | inr last ↦ let two = two-listed height from other way b a last high low g f same is in absurd (omega arith)
    ]
  ]
