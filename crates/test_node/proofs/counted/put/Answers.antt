use Rattle.std.proofs.Common.{◌≡◌, ℕ, List, Option, Ok, Err, Result, ap, sym, ◌∙◌, subst}
use Rattle.btree_item.specs.Pairs.{Ascends, place_of}
use Rattle.btree_item.proofs.PairLemmas.{inserted-from_Err}
use Rattle.btree_item.proofs.PairEdits.{Ascends-inserted}
use Rattle.btree_view.specs.LookUp.{placed}
use Rattle.btree_internal.specs.Internal.{internal_view}
use Rattle.btree_view.specs.View.{items_of, children_of}
use Rattle.btree_internal.proofs.BranchLemmas.{map_insert}
use Rattle.test_node.proofs.counted.put.Goals as goal

gap_of : Result (Option ℕ) (ℕ × Option ℕ) → ℕ
gap_of (Ok o) = 0
gap_of (Err gap) = gap.0

Err-from_placed : (r : Result ℕ ℕ) (children : List ℕ) (i : ℕ) (o : Option ℕ) → Err (i, o) ≡ placed r children → r ≡ Err i
unfolding gap_of
Err-from_placed (Ok j) children i o is = absurd (cc)
Err-from_placed (Err j) children i o is = ap (λ k. Err k) (sym (ap gap_of is))

pub returns-then-item_count-lt8 : goal.returns-then-item_count-lt8
returns-then-item_count-lt8 g c =
    let node = internal_view c.args.node.now in
    let place = Err-from_placed (place_of g.K.Ord.cmp c.args.key (items_of node)) (children_of node) _ _ c.in-Err.ensures.value in
    let put = rw (c.at.ensures, c.new.ensures) at c.insert.ensures in
    let items = ap items_of put ∙ map_insert (λ b. b.0) c.args.node.now.branches _ _ in
    let P : List (g.row.K.Denot × g.row.V.Denot) → Type 0 = λ xs. Ascends g.K.Ord.cmp xs in
    subst P (sym (items ∙ sym (inserted-from_Err g.K.Ord.cmp c.args.key c.args.value (items_of node) _ place))) (Ascends-inserted g.K.Ord.cmp g.met.K.Ord.total c.args.key c.args.value _ c.requires)
