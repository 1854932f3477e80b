-- The numbers under a number, level by level, are those that positions lead to, on any content.
-- So `numbers_met`, which `validate` compares with the store at the end, lists the numbers that were met and no other.
use Rattle.std.proofs.Common.{◌≡◌, ◌+◌, ◌<◌, ◌≤◌, ◌∷◌, [], ℕ, zero, suc, inl, inr, List, length, Option, Some, None, slice_get, refl, sym, ap, subst, arith}
use Rattle.std.specs.List.{flat_map}
use Rattle.btree_view.specs.View.{NodeMap, View, children_in, children_of}
use Rattle.btree_laws.specs.Lists.{one, times_listed}
use Rattle.btree_laws.specs.Represents.{numbers_under}
use Rattle.btree_laws.proofs.Paths.Frames.{one-other, one-self}
use Rattle.btree_laws.proofs.Trees.Numbers.{listed-append, same-or, zero-or}
use Rattle.btree_valid.specs.Positions.{IsMetUnder, Leads, Spotted, root_spot, step_down}
use Rattle.btree_valid.specs.Verdicts.{numbers_met}
use Rattle.std.specs.Prelude.{◌↔◌}

module _ {K V : Type 0} (node_at : NodeMap (K × V)) where
  -- one of several children
  listed-child : (f : ℕ → List ℕ) (n : ℕ) (ids : List ℕ) (index child : ℕ) → slice_get ids index ≡ Some child → 0 < times_listed n (f child) → 0 < times_listed n (flat_map f ids)
  listed-child f n [] index child found some = absurd (cc)
  listed-child f n (id ∷ ids) zero child found some =
      let is : id ≡ child = cc in
      let here = subst (λ c. 0 < times_listed n (f c)) (sym is) some in
      let l = listed-append n (f id) (flat_map f ids) in
      omega arith
  listed-child f n (id ∷ ids) (suc index) child found some =
      let rest = listed-child f n ids index child found some in
      let l = listed-append n (f id) (flat_map f ids) in
      omega arith

  -- a position leads to a number that is listed
  pub met-listed : (height : ℕ) (from : Spotted K) (way : List ℕ) (to : Spotted K) → length way ≤ height → Leads node_at from way to → 0 < times_listed to.id (numbers_under node_at height from.id)
  met-listed zero from [] to low l = let s = one-self to.id in let e : one to.id from.id ≡ 1 = subst (λ t. one to.id t ≡ 1) (sym (ap (λ t. t.id) l)) s in omega arith
  met-listed (suc height) from [] to low l = let s = one-self to.id in let e : one to.id from.id ≡ 1 = subst (λ t. one to.id t ≡ 1) (sym (ap (λ t. t.id) l)) s in omega arith
  met-listed zero from (i ∷ way) to low l = absurd (omega arith)
  met-listed (suc height) from (i ∷ way) to low l =
      let rest = met-listed height (step_down from l.0 i l.1) way to (omega arith) l.4 in
      let kids : children_in (node_at from.id) ≡ children_of l.0 = ap children_in l.2 in
      let some = listed-child (numbers_under node_at height) to.id (children_of l.0) i l.1 l.3 rest in
      let here : 0 < times_listed to.id (flat_map (numbers_under node_at height) (children_in (node_at from.id))) = subst (λ ids. 0 < times_listed to.id (flat_map (numbers_under node_at height) ids)) (sym kids) some in
      omega arith

  pub record IsReached (from : Spotted K) (height n : ℕ) : Type 0 where
    pub way : List ℕ
    pub to : Spotted K
    pub leads : Leads node_at from way to
    pub low : length way ≤ height
    pub is : to.id ≡ n

  -- which of several children
  pub record IsListedAt (f : ℕ → List ℕ) (n : ℕ) (ids : List ℕ) : Type 0 where
    pub index : ℕ
    pub child : ℕ
    pub found : slice_get ids index ≡ Some child
    pub some : 0 < times_listed n (f child)

  child-listed : (f : ℕ → List ℕ) (n : ℕ) (ids : List ℕ) → 0 < times_listed n (flat_map f ids) → IsListedAt f n ids
  child-listed f n [] some = absurd (omega arith)
  child-listed f n (id ∷ ids) some = elim (zero-or (times_listed n (f id))) [
    | inl none ↦
        let l = listed-append n (f id) (flat_map f ids) in
        let r = child-listed f n ids (omega arith) in
        record { index = suc r.index; child = r.child; found = r.found; some = r.some }
    | inr here ↦ record { index = 0; child = id; found = refl; some = here }
  ]

  deeper : (height : ℕ) (from : Spotted K) (n : ℕ) → ((to : Spotted K) → 0 < times_listed n (numbers_under node_at height to.id) → IsReached to height n)
      → (o : Option (View (K × V))) → node_at from.id ≡ o → 0 < times_listed n (numbers_under node_at (suc height) from.id) → one n from.id ≡ 0 → IsReached from (suc height) n
  deeper height from n below None at some none =
      let gone : times_listed n (flat_map (numbers_under node_at height) (children_in (node_at from.id))) ≡ 0 = ap (λ v. times_listed n (flat_map (numbers_under node_at height) (children_in v))) at in
      absurd (omega arith)
  deeper height from n below (Some node) at some none =
      let kids : times_listed n (flat_map (numbers_under node_at height) (children_in (node_at from.id))) ≡ times_listed n (flat_map (numbers_under node_at height) (children_of node)) = ap (λ v. times_listed n (flat_map (numbers_under node_at height) (children_in v))) at in
      let c = child-listed (numbers_under node_at height) n (children_of node) (omega arith) in
      let r = below (step_down from node c.index c.child) c.some in
      record { way = c.index ∷ r.way; to = r.to; leads = (node, c.child, at, c.found, r.leads); low = (let l = r.low in omega arith); is = r.is }

  -- and a listed number is one that a position leads to
  pub listed-met : (height : ℕ) (from : Spotted K) (n : ℕ) → 0 < times_listed n (numbers_under node_at height from.id) → IsReached from height n
  listed-met zero from n some = elim (same-or n from.id) [
    | inl same ↦ record { way = []; to = from; leads = refl; low = omega arith; is = sym same }
    | inr other ↦ let z = one-other n from.id other in absurd (omega arith)
  ]
  listed-met (suc height) from n some = elim (same-or n from.id) [
    | inl same ↦ record { way = []; to = from; leads = refl; low = omega arith; is = sym same }
    | inr other ↦ deeper height from n (λ to s. listed-met height to n s) (node_at from.id) refl some (one-other n from.id other)
  ]

  pub leads-depth : (from : Spotted K) (way : List ℕ) (to : Spotted K) → Leads node_at from way to → to.depth ≡ from.depth + length way
  leads-depth from [] to l = let e : from.depth ≡ to.depth = ap (λ s. s.depth) l in omega arith
  leads-depth from (i ∷ way) to l = let d = leads-depth (step_down from l.0 i l.1) way to l.4 in omega arith

  -- a number is met, under a root
  pub record IsMetNumber (root : Option ℕ) (n : ℕ) : Type 0 where
    pub way : List ℕ
    pub at : Spotted K
    pub met : IsMetUnder node_at root way at
    pub is : at.id ≡ n

  -- the numbers met are those that met positions lead to
  pub numbers-met : (root : Option ℕ) (n : ℕ) → (0 < times_listed n (numbers_met node_at root)) ↔ IsMetNumber root n
  unfolding numbers_met
  numbers-met None n = (λ some. absurd (omega arith), λ m. absurd m.met)
  numbers-met (Some root) n = (
    λ some.
        let r = listed-met 32 (root_spot root) n some in
        let d = leads-depth (root_spot root) r.way r.to r.leads in
        record { way = r.way; at = r.to; met = record { leads = r.leads; low = (let l = r.low in omega arith) }; is = r.is },
    λ m.
        let d = leads-depth (root_spot root) m.way m.at m.met.leads in
        let low = m.met.low in
        subst (λ k. 0 < times_listed k (numbers_under node_at 32 root)) m.is (met-listed 32 (root_spot root) m.way m.at (omega arith) m.met.leads),
  )
