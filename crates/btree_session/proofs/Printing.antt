-- Texts that are appended piece by piece.
use Rattle.btree_session.proofs.Common.{◌≡◌, ℕ, zero, suc, ◌-◌, ◌<◌, List, [], ◌∷◌, ◌++◌, map, Some, option_map, refl, sym, ap, ◌∙◌, arith, append_assoc, append-nil, decimal, flat_map, Content, Node, views, pair_text, shape_under}
use Rattle.std.proofs.Common.{◌≢◌}
use Rattle.std.specs.FinMap as finite
use Rattle.std.specs.Prelude.{Result, Ok, Err, OnOk, OnErr}
use Rattle.std.specs.declared.alloc.AllocError.{AllocError}
use Rattle.std.specs.List.{join_with_byte}
use Rattle.btree_internal.specs.Internal.{Internal as InternalParts, branch_pair}
use Rattle.btree_node.specs.Node.{view_of}
use Rattle.btree_view.specs.View.{NodeMap}
use Rattle.btree_internal.specs.declared.internal.Branch.{Branch}
use Rattle.btree_node.specs.declared.node.Node.TheVariants.{Internal}
use Rattle.btree_session.specs.Answer.{list_text, bracketed, shape_in}
use Rattle.btree_session.specs.Text.{Grows}

-- this much of a text is after the start, and this is left of it
pub record Printed (start now left whole : List ℕ) : Type 0 where
  pub done : List ℕ
  pub grown : now ≡ start ++ done
  pub rest : done ++ left ≡ whole

pub to_print : (start whole : List ℕ) → Printed start start whole whole
to_print start whole = record { done = []; grown = sym (append-nil start); rest = refl }

-- the same by equations
pub to_print-as : (start left whole : List ℕ) → left ≡ whole → Printed start start left whole
to_print-as start left whole same = record { done = []; grown = sym (append-nil start); rest = same }

-- the next piece is appended
pub next_piece : (start now new left whole piece rest : List ℕ) → Printed start now left whole → left ≡ piece ++ rest → new ≡ now ++ piece → Printed start new rest whole
next_piece start now new left whole piece rest so_far is_left is_new = record {
  done = so_far.done ++ piece;
  grown = is_new ∙ ap (λ t. t ++ piece) so_far.grown ∙ append_assoc start so_far.done piece;
  rest = append_assoc so_far.done piece rest ∙ ap (λ t. so_far.done ++ t) (sym is_left) ∙ so_far.rest;
}

-- all that is left is appended
pub last_piece : (start now new left whole : List ℕ) → Printed start now left whole → new ≡ now ++ left → new ≡ start ++ whole
last_piece start now new left whole so_far is_new = is_new ∙ ap (λ t. t ++ left) so_far.grown ∙ append_assoc start so_far.done left ∙ ap (λ t. start ++ t) so_far.rest

-- nothing is left
pub all_put : (start now left whole : List ℕ) → Printed start now left whole → left ≡ [] → now ≡ start ++ whole
all_put start now left whole so_far none = last_piece start now now left whole so_far (sym (ap (λ t. now ++ t) none ∙ append-nil now))

pub Grows-same : (now new : List ℕ) → new ≡ now → Grows now new
Grows-same now new same = ([], same ∙ sym (append-nil now))

pub Grows-by : (start mid new more : List ℕ) → Grows start mid → new ≡ mid ++ more → Grows start new
Grows-by start mid new more first is_new = (first.0 ++ more, is_new ∙ ap (λ t. t ++ more) first.1 ∙ append_assoc start first.0 more)

-- it stops before the end
pub given_up : (start now new left whole : List ℕ) → Printed start now left whole → Grows now new → Grows start new
given_up start now new left whole so_far more = Grows-by start now new more.0 (so_far.done, so_far.grown) more.1

-- what holds in any case
pub on_err : {P : Type 0} (result : Result (Unit {0}) AllocError) → P → OnErr result P
on_err (Ok _) p = tt
on_err (Err _) p = p

module _ (start now new left whole : List ℕ) (result : Result (Unit {0}) AllocError) (so_far : Printed start now left whole) where
  -- what an error leaves
  pub at_error : Grows now new → OnErr result (Grows start new)
  at_error more = on_err result (given_up start now new left whole so_far more)

  -- the last piece is appended, or not
  pub at_end : (last : List ℕ) → left ≡ last → OnOk result (new ≡ now ++ last) → OnOk result (new ≡ start ++ whole)
  at_end last is_last is_new = by result is_new where
    by : (r : Result (Unit {0}) AllocError) → OnOk r (new ≡ now ++ last) → OnOk r (new ≡ start ++ whole)
    by (Ok _) is = last_piece start now new left whole so_far (is ∙ ap (λ t. now ++ t) (sym is_last))
    by (Err _) is = tt

  pub not_at_end : OnErr result (new ≡ now) → OnErr result (Grows start new)
  not_at_end same = by result same where
    by : (r : Result (Unit {0}) AllocError) → OnErr r (new ≡ now) → OnErr r (Grows start new)
    by (Ok _) is = tt
    by (Err _) is = given_up start now new left whole so_far (Grows-same now new is)

-- texts, each after a space, but the first, which is after `before`
abbrev pub behind : (before : List ℕ) → List (List ℕ) → List ℕ
behind before [] = []
behind before (text ∷ texts) = (before ++ text) ++ behind (32 ∷ []) texts

pub join-behind : (texts : List (List ℕ)) → join_with_byte 32 texts ≡ behind [] texts
join-behind [] = refl
join-behind (text ∷ []) = sym (append-nil text)
join-behind (text ∷ next ∷ texts) = ap (λ t. text ++ (32 ∷ t)) (join-behind (next ∷ texts))

-- what is printed for the branches of a node
abbrev pub branches_text : NodeMap (ℕ × ℕ) → (levels : ℕ) → List (Branch ℕ ℕ) → List ℕ
branches_text node_at levels [] = []
branches_text node_at levels (b ∷ bs) = ((32 ∷ []) ++ decimal b.item.0 ++ 32 ∷ []) ++ (shape_under node_at levels b.child ++ branches_text node_at levels bs)

between : (key rest : List ℕ) → key ++ 32 ∷ rest ≡ (key ++ 32 ∷ []) ++ rest
between key rest = sym (append_assoc key (32 ∷ []) rest)

pub join-branches : (node_at : NodeMap (ℕ × ℕ)) (levels : ℕ) (first : List ℕ) (bs : List (Branch ℕ ℕ)) →
    join_with_byte 32 (first ∷ flat_map (λ b. decimal b.0.0 ∷ shape_under node_at levels b.1 ∷ []) (map branch_pair bs)) ≡ first ++ branches_text node_at levels bs
join-branches node_at levels first [] = sym (append-nil first)
join-branches node_at levels first (b ∷ bs) =
    ap (λ t. first ++ (32 ∷ (decimal b.item.0 ++ (32 ∷ t)))) (join-branches node_at levels (shape_under node_at levels b.child) bs)
    ∙ ap (λ t. first ++ (32 ∷ t)) (between (decimal b.item.0) (shape_under node_at levels b.child ++ branches_text node_at levels bs))

-- the text of the tree under a node, by its levels
pub shape_under-suc : (node_at : NodeMap (ℕ × ℕ)) (levels id : ℕ) → 0 < levels → shape_under node_at levels id ≡ shape_in (shape_under node_at (levels - 1)) (node_at id)
shape_under-suc node_at zero id some = absurd (omega arith)
shape_under-suc node_at (suc levels) id some =
    let less : levels ≡ suc levels - 1 = omega arith in ap (λ n. shape_in (shape_under node_at n) (node_at id)) less

module _ (nodes : Content (Node ℕ ℕ)) (levels id : ℕ) where
  pub at_internal : (node : InternalParts ℕ ℕ) (bs : List (Branch ℕ ℕ)) → 0 < levels → finite.get nodes id ≡ Some (Internal node) → map branch_pair bs ≡ node.branches
      → shape_under (views nodes) levels id ≡ (40 ∷ []) ++ (shape_under (views nodes) (levels - 1) node.first ++ branches_text (views nodes) (levels - 1) bs) ++ 41 ∷ []
  at_internal node bs some here are =
      shape_under-suc (views nodes) levels id some
      ∙ ap (λ n. shape_in (shape_under (views nodes) (levels - 1)) (option_map view_of n)) here
      ∙ ap (λ branches. bracketed (shape_under (views nodes) (levels - 1) node.first ∷ flat_map (λ b. decimal b.0.0 ∷ shape_under (views nodes) (levels - 1) b.1 ∷ []) branches)) (sym are)
      ∙ ap (λ t. (40 ∷ t) ++ 41 ∷ []) (join-branches (views nodes) (levels - 1) (shape_under (views nodes) (levels - 1) node.first) bs)

-- texts in brackets, after the first bracket
pub bracket_open : (before : List ℕ) (texts all : List (List ℕ)) → before ≡ [] → texts ≡ all → bracketed all ≡ (40 ∷ []) ++ (behind before texts ++ 41 ∷ [])
bracket_open before texts all first same = ap (λ t. (40 ∷ t) ++ 41 ∷ []) (join-behind all ∙ ap (λ b. behind b all) (sym first) ∙ ap (behind before) (sym same))

-- the next text and what is before it
pub behind-next : (before after text piece tail : List ℕ) (texts rest : List (List ℕ)) → texts ≡ text ∷ rest → after ≡ 32 ∷ [] → piece ≡ before ++ text
    → behind before texts ++ tail ≡ piece ++ (behind after rest ++ tail)
behind-next before after text piece tail texts rest is_next is_after is_piece =
    ap (λ ts. behind before ts ++ tail) is_next
    ∙ append_assoc (before ++ text) (behind (32 ∷ []) rest) tail
    ∙ ap (λ p. p ++ (behind (32 ∷ []) rest ++ tail)) (sym is_piece)
    ∙ ap (λ b. piece ++ (behind b rest ++ tail)) (sym is_after)

-- no text is next
pub behind-none : (before tail : List ℕ) (texts : List (List ℕ)) → texts ≡ [] → behind before texts ++ tail ≡ tail
behind-none before tail texts none = ap (λ ts. behind before ts ++ tail) none

-- a list with a pair
pub list_open : (before : List ℕ) (left pairs : List (ℕ × ℕ)) → before ≡ [] → left ≡ pairs → pairs ≢ [] → behind before (map pair_text left) ++ [] ≡ list_text pairs
list_open before left pairs first same some =
    append-nil (behind before (map pair_text left)) ∙ ap (λ b. behind b (map pair_text left)) first ∙ ap (λ l. behind [] (map pair_text l)) same ∙ sym (as_joined pairs some) where
      as_joined : (pairs : List (ℕ × ℕ)) → pairs ≢ [] → list_text pairs ≡ behind [] (map pair_text pairs)
      as_joined [] some = absurd (some refl)
      as_joined (pair ∷ pairs) some = join-behind (map pair_text (pair ∷ pairs))

-- the branches of a node, one after another
module _ (node_at : NodeMap (ℕ × ℕ)) (levels : ℕ) (start : List ℕ) (whole : List ℕ) (tail : List ℕ) where
  -- the key of the next branch is appended, with a space on either side
  pub key_put : (now new : List ℕ) (left bs : List (Branch ℕ ℕ)) (b : Branch ℕ ℕ) (key : ℕ) → Printed start now (branches_text node_at levels left ++ tail) whole
      → left ≡ b ∷ bs → key ≡ b.item.0 → new ≡ now ++ ((32 ∷ []) ++ decimal key ++ 32 ∷ [])
      → Printed start new ((shape_under node_at levels b.child ++ branches_text node_at levels bs) ++ tail) whole
  key_put now new left bs b key so_far is_next is_key is_new =
      next_piece start now new _ whole ((32 ∷ []) ++ decimal key ++ 32 ∷ []) _ so_far
      (ap (λ l. branches_text node_at levels l ++ tail) is_next
      ∙ append_assoc ((32 ∷ []) ++ decimal b.item.0 ++ 32 ∷ []) (shape_under node_at levels b.child ++ branches_text node_at levels bs) tail
      ∙ ap (λ k. ((32 ∷ []) ++ decimal k ++ 32 ∷ []) ++ ((shape_under node_at levels b.child ++ branches_text node_at levels bs) ++ tail)) (sym is_key))
      is_new

  -- a child is appended
  pub child_put : (now new : List ℕ) (child : ℕ) (bs : List (Branch ℕ ℕ)) → Printed start now ((shape_under node_at levels child ++ branches_text node_at levels bs) ++ tail) whole
      → new ≡ now ++ shape_under node_at levels child → Printed start new (branches_text node_at levels bs ++ tail) whole
  child_put now new child bs so_far is_new =
      next_piece start now new _ whole (shape_under node_at levels child) _ so_far (append_assoc (shape_under node_at levels child) (branches_text node_at levels bs) tail) is_new

-- the bracket before the first child
pub internal_open : (nodes : Content (Node ℕ ℕ)) (levels id : ℕ) (node : InternalParts ℕ ℕ) (bs left : List (Branch ℕ ℕ)) (child : ℕ) (start now : List ℕ) → 0 < levels
    → finite.get nodes id ≡ Some (Internal node) → map branch_pair bs ≡ node.branches → left ≡ bs → child ≡ node.first → now ≡ start ++ 40 ∷ []
    → Printed start now ((shape_under (views nodes) (levels - 1) child ++ branches_text (views nodes) (levels - 1) left) ++ 41 ∷ []) (shape_under (views nodes) levels id)
internal_open nodes levels id node bs left child start now some here are same is_child is_now =
    next_piece start start now (shape_under (views nodes) levels id) (shape_under (views nodes) levels id) (40 ∷ []) _ (to_print start (shape_under (views nodes) levels id))
    (at_internal nodes levels id node bs some here are
    ∙ ap (λ c. (40 ∷ []) ++ (shape_under (views nodes) (levels - 1) c ++ branches_text (views nodes) (levels - 1) bs) ++ 41 ∷ []) (sym is_child)
    ∙ ap (λ l. (40 ∷ []) ++ (shape_under (views nodes) (levels - 1) child ++ branches_text (views nodes) (levels - 1) l) ++ 41 ∷ []) (sym same))
    is_now
