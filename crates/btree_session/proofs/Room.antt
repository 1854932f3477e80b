-- Texts without room for what is printed piece by piece.
use Rattle.btree_session.proofs.Common.{◌≡◌, ℕ, ◌+◌, ◌-◌, ◌<◌, ◌≤◌, List, [], ◌∷◌, ◌++◌, length, Some, option_map, vec_len, vec_capacity, refl, sym, ap, ◌∙◌, arith, append_assoc, append-nil, length-append, decimal, flat_map, Content, Node, views, shape_under}
use Rattle.std.proofs.Common.{Vec}
use Rattle.std.specs.FinMap as finite
use Rattle.std.specs.Prelude.{Result, Ok, Err, OnErr}
use Rattle.std.specs.declared.alloc.AllocError.{AllocError}
use Rattle.std.specs.List.{join_with_byte}
use Rattle.btree_internal.specs.Internal.{Internal as InternalParts}
use Rattle.btree_node.specs.Node.{view_of}
use Rattle.btree_node.specs.declared.node.Node.TheVariants.{Internal}
use Rattle.btree_session.specs.Answer.{shape_in}
use Rattle.btree_session.specs.Text.{LacksCapacityFor, LacksRoomFor}
use Rattle.btree_session.proofs.Printing.{Printed, shape_under-suc}

-- an error says this too
pub OnErr-map : {P Q : Type 0} (result : Result (Unit {0}) AllocError) → OnErr result P → (P → Q) → OnErr result Q
OnErr-map (Ok _) p then = tt
OnErr-map (Err _) p then = then p

module _ {Z : Type 0} (start now : Vec ℕ Z) (left whole : List ℕ) (so_far : Printed start.items now.items left whole) (grown : vec_capacity start ≤ vec_capacity now) where
  len-left : vec_len now + length left ≡ vec_len start + length whole
  len-left =
      let done : length now.items ≡ length start.items + length so_far.done = ap length so_far.grown ∙ length-append start.items so_far.done in
      let all : length so_far.done + length left ≡ length whole = sym (length-append so_far.done left) ∙ ap length so_far.rest in
      omega (arith, start.ok.0, now.ok.0, done, all)

  -- there is no room for a short piece
  pub lacks_short : (count : ℕ) → count ≤ 47 → LacksCapacityFor now count → LacksRoomFor start whole
  lacks_short count small lacks = omega (arith, len-left)

  -- there is none for a piece that comes first
  pub lacks_first : (piece rest : List ℕ) → left ≡ piece ++ rest → LacksRoomFor now piece → LacksRoomFor start whole
  lacks_first piece rest is lacks =
      let longer : length left ≡ length piece + length rest = ap length is ∙ length-append piece rest in
      omega (arith, len-left, longer)

-- a joined text begins with its first piece
join-first : (first : List ℕ) (texts : List (List ℕ)) → (rest : List ℕ) × (join_with_byte 32 (first ∷ texts) ≡ first ++ rest)
join-first first [] = ([], sym (append-nil first))
join-first first (text ∷ texts) = (32 ∷ join_with_byte 32 (text ∷ texts), refl)

-- the text of an internal node begins with that of its first child
pub first_child_text : (nodes : Content (Node ℕ ℕ)) (levels id child : ℕ) (node : InternalParts ℕ ℕ) → 0 < levels → finite.get nodes id ≡ Some (Internal node) → child ≡ node.first
    → (rest : List ℕ) × (shape_under (views nodes) levels id ≡ (40 ∷ []) ++ (shape_under (views nodes) (levels - 1) child ++ rest))
first_child_text nodes levels id child node some here is =
    let below : List ℕ = shape_under (views nodes) (levels - 1) child in
    let others : List (List ℕ) = flat_map (λ b. decimal b.0.0 ∷ shape_under (views nodes) (levels - 1) b.1 ∷ []) node.branches in
    let joined : (rest : List ℕ) × (join_with_byte 32 (below ∷ others) ≡ below ++ rest) = join-first below others in (
      joined.0 ++ 41 ∷ [],
      shape_under-suc (views nodes) levels id some
          ∙ ap (λ n. shape_in (shape_under (views nodes) (levels - 1)) (option_map view_of n)) here
          ∙ ap (λ c. (40 ∷ join_with_byte 32 (shape_under (views nodes) (levels - 1) c ∷ others)) ++ 41 ∷ []) (sym is)
          ∙ ap (λ t. (40 ∷ t) ++ 41 ∷ []) joined.1
          ∙ ap (λ t. 40 ∷ t) (append_assoc below joined.0 (41 ∷ [])),
    )
