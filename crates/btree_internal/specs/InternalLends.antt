-- An internal node after a `&mut` into it has ended.
use Rattle.std.specs.Prelude.{ℕ, List, map, set, slice_get, Option, Some, None, Result}
use Rattle.std.specs.Borrow.{Lends, LendsIf, LendsIfOk, Fml, RattleType, MutBor}
use Rattle.std.specs.List.{zip}
use Rattle.std.specs.declared.cmp.Ordering.{Ordering}
use Rattle.btree_item.specs.Pairs.{with_value}
use Rattle.btree_item.specs.contracts.item.Item.{the_row as item_row}
use Rattle.btree_view.specs.Kept.{set_at}
use Rattle.btree_internal.specs.declared.internal.Branch.{Branch}
use Rattle.btree_internal.specs.contracts.internal.Branch.{the_row as branch_row}
use Rattle.btree_internal.specs.Internal.{Internal}
use Rattle.btree_internal.specs.contracts.internal.InternalNode.{the_row}

-- the pairs with w as the value of the i-th
abbrev pub with_value_read : {K V : Type 0} → Option (K × V) → List (K × V) → ℕ → V → List (K × V)
with_value_read None xs i w = xs
with_value_read (Some x) xs i w = set xs i (x.0, w)

module _ {K V : Type 0} where
  unfoldable pub internal_with_value_at : ℕ → Internal K V → V → Internal K V
  internal_with_value_at i n w =
      record n { branches = zip (with_value_read (slice_get (map (λ b. b.0) n.branches) i) (map (λ b. b.0) n.branches) i w) (map (λ b. b.1) n.branches) }

  -- with w as the value at a key equal to k, if there is one
  unfoldable pub internal_with_value : (K → K → Ordering) → K → Internal K V → V → Internal K V
  internal_with_value cmp k n w =
      record n { branches = zip (with_value cmp k w (map (λ b. b.0) n.branches)) (map (λ b. b.1) n.branches) }

  -- with x as the item at an offset, if there is one; the children stay
  unfoldable pub internal_with_item_at : Option ℕ → Internal K V → K × V → Internal K V
  internal_with_item_at offset n x =
      record n { branches = zip (set_at offset (map (λ b. b.0) n.branches) x) (map (λ b. b.1) n.branches) }

module _ (K V : RattleType) where
  -- once the borrow r ends, the value of the branch's item is the last one that r pointed to
  abbrev pub branch_lends : MutBor (Branch K.Denot V.Denot) → MutBor V.Denot → Fml
  branch_lends b r = Lends (branch_row K V) V b r (λ w. record b.now { item = (b.now.item.0, w) })

  -- once the borrow r ends, the value at an index is the last one that r pointed to; at `None` nothing changes
  abbrev pub internal_lends_at : MutBor (Internal K.Denot V.Denot) → ℕ → Option (MutBor V.Denot) → Fml
  internal_lends_at n index r = LendsIf (the_row K V) V n r (internal_with_value_at index n.now) n.now

  -- once the borrow r ends, the value at the key is the last one that r pointed to; at `Err` nothing changes
  abbrev pub internal_lends : (K.Denot → K.Denot → Ordering) → MutBor (Internal K.Denot V.Denot) → K.Denot → Result (MutBor V.Denot) ℕ → Fml
  internal_lends cmp n key r = LendsIfOk (the_row K V) V n r (internal_with_value cmp key n.now) n.now

  -- once the borrow r ends, the branch's item is the last one that r pointed to
  abbrev pub branch_lends_item : MutBor (Branch K.Denot V.Denot) → MutBor (K.Denot × V.Denot) → Fml
  branch_lends_item b r = Lends (branch_row K V) (item_row K V) b r (λ x. record b.now { item = x })

  -- once the borrow r ends, the item at an offset is the last one that r pointed to; at `None` nothing changes
  abbrev pub internal_lends_item : MutBor (Internal K.Denot V.Denot) → Option ℕ → Option (MutBor (K.Denot × V.Denot)) → Fml
  internal_lends_item n offset r = LendsIf (the_row K V) (item_row K V) n r (internal_with_item_at offset n.now) n.now
