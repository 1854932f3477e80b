-- The text of a well formed tree.
use Rattle.btree_session.proofs.Common.{◌≡◌, ℕ, zero, suc, ◌<◌, ◌≤◌, List, [], ◌∷◌, map, Option, Some, None, refl, ap, arith, flat_map, TreeState, IsBTree, pairs_of, shape_under}
use Rattle.std.proofs.lemmas.Bool.Decides.{nat_tests}
use Rattle.std.specs.List.{AllByRecursion}
use Rattle.std.specs.Fmt.{decimal}
use Rattle.std.specs.declared.cmp.Ordering.{Ordering}
use Rattle.btree_view.specs.View.{NodeMap, size_of}
use Rattle.btree_laws.specs.Represents.{Represents}
use Rattle.btree_laws.specs.TreeState.{node_map}
use Rattle.btree_laws.specs.WellFormed.{IsWellFormed, least_of}
use Rattle.btree_laws.proofs.Trees.Represented.{height_below}
use Rattle.btree_session.specs.Answer.{shape_text, IsWritten, IsShapeOf, IsAnswer, answer_text}
use Rattle.btree_session.specs.declared.question.Question.{Question}
use Rattle.btree_session.specs.declared.question.Question.TheVariants as questions

module _ (node_at : NodeMap (ℕ × ℕ)) where
  -- each child with its text
  abbrev written_rest : (levels : ℕ) → List ((ℕ × ℕ) × ℕ × List (ℕ × ℕ)) → List ((ℕ × ℕ) × ℕ × List ℕ)
  written_rest levels rest = map {B = (ℕ × ℕ) × ℕ × List ℕ} (λ r. (r.0, r.1, shape_under node_at levels r.1)) rest

  same-row : (levels : ℕ) (rest : List ((ℕ × ℕ) × ℕ × List (ℕ × ℕ)))
      → map {B = (ℕ × ℕ) × ℕ} (λ r. (r.0, r.1)) rest ≡ map {B = (ℕ × ℕ) × ℕ} (λ r. (r.0, r.1)) (written_rest levels rest)
  same-row levels [] = refl
  same-row levels (r ∷ rest) = ap (λ l. (r.0, r.1) ∷ l) (same-row levels rest)

  same-texts : (levels : ℕ) (rest : List ((ℕ × ℕ) × ℕ × List (ℕ × ℕ)))
      → flat_map (λ b. decimal b.0.0 ∷ shape_under node_at levels b.1 ∷ []) (map {B = (ℕ × ℕ) × ℕ} (λ r. (r.0, r.1)) rest)
      ≡ flat_map (λ r. decimal r.0.0 ∷ r.2 ∷ []) (written_rest levels rest)
  same-texts levels [] = refl
  same-texts levels (r ∷ rest) = ap (λ l. decimal r.0.0 ∷ shape_under node_at levels r.1 ∷ l) (same-texts levels rest)

  rest-written : (height levels : ℕ) (parent : Option ℕ)
      → ((id : ℕ) (ys : List (ℕ × ℕ)) → Represents node_at height parent id ys → IsWritten node_at height id (shape_under node_at levels id))
      → (rest : List ((ℕ × ℕ) × ℕ × List (ℕ × ℕ))) → AllByRecursion (λ r. Represents node_at height parent r.1 r.2) rest
      → AllByRecursion (λ r. IsWritten node_at height r.1 r.2) (written_rest levels rest)
  rest-written height levels parent each [] all = tt
  rest-written height levels parent each (r ∷ rest) all = (each r.1 r.2 all.0, rest-written height levels parent each rest all.1)

  -- a bound on the levels that is above the height loses nothing
  pub written : (height levels : ℕ) (parent : Option ℕ) (id : ℕ) (xs : List (ℕ × ℕ)) → height < levels → Represents node_at height parent id xs → IsWritten node_at height id (shape_under node_at levels id)
  written height zero parent id xs low h = absurd (omega arith)
  written zero (suc levels) parent id xs low h = (parent, xs, h, rw h refl)
  written (suc height) (suc levels) parent id xs low h =
      let front = written height levels (Some id) h.0 h.1 (omega arith) h.4 in
      let rest = rest-written height levels (Some id) (λ i ys s. written height levels (Some id) i ys (omega arith) s) h.2 h.5 in
      (parent, h.0, shape_under node_at levels h.0, written_rest levels h.2, rw (← same-row levels h.2) h.3, front, rest, rw (h.3, same-texts levels h.2) refl)

some_item : (root id size : ℕ) → least_of root id ≤ size → 0 < size
some_item root id size low = grind (arith, nat_tests)

module _ (cmp : ℕ → ℕ → Ordering) (m : TreeState ℕ ℕ) where
  shape : (root : Option ℕ) → IsWellFormed cmp (node_map m) root m.len (pairs_of m) → IsShapeOf (node_map m) root (shape_text (node_map m) root m.len)
  shape None w = refl
  shape (Some root) w =
      let r = w.formed in
      let low = height_below (node_map m) r.height None root (pairs_of m) (λ i node e. some_item root i (size_of node) (r.sized i node e).0) r.represents in
      (r.height, written (node_map m) r.height m.len None root (pairs_of m) (rw w.counted low) r.represents)

  -- what is printed is the answer
  pub is-answer : (question : Question) → IsBTree cmp m → IsAnswer m question (answer_text m question)
  is-answer questions.List w = refl
  is-answer questions.Len w = refl
  is-answer questions.Nodes w = refl
  is-answer questions.Shape w = shape m.root w
