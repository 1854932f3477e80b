-- A back address stays one: no step moves an offset other than -1 to -1.
use Rattle.btree_laws.proofs.Common.{◌+◌, ◌-◌, ◌==◌, if◌then◌else◌, ℕ, zero, suc, Bool, true, false, Option, Some, None, nat_lt, Address, NodeMap, at_separator, moved_by_merge, moved_by_rotate_left, moved_by_rotate_right, moved_by_split, IsBack, address_at}
use Rattle.btree_laws.specs.Moved.{select_by_order, left_after_lending, right_after_merge, right_after_lending, right_after_borrowing, node_after_split, parent_after_merge, parent_after_split}

by-all : {X : Type 0} (P : X → Type 0) (b : Bool) (here there : X) → P here → P there → P (if b then here else there)
by-all P true here there h t = h
by-all P false here there h t = t

by-order : {X : Type 0} (P : X → Type 0) (n m : ℕ) (below equal above : X) → P below → P equal → P above
    → P (select_by_order n m below equal above)
by-order P n m below equal above b e a =
    by-all P (nat_lt n m) below (if n == m then equal else above) b (by-all P (n == m) equal above e a)

module _ {A : Type 0} (node_at : NodeMap A) where
  abbrev Back : Address → Type 0
  Back a = IsBack node_at a.offset

  same-back : (n m : ℕ) (here there : Address) → Back here → Back there → Back (if n == m then here else there)
  same-back n m here there b c = by-all Back (n == m) here there b c

  module _ (i j p s n : ℕ) where
    back-in-split : (o : Option ℕ) → IsBack node_at o → Back (node_after_split i j p s n o)
    back-in-split None h = absurd h
    back-in-split (Some o) h = by-order Back o n (address_at i o) (address_at p s) (address_at j (o - suc n)) tt tt tt

    back-over-split : (o : Option ℕ) → IsBack node_at o → Back (parent_after_split p s o)
    back-over-split None h = absurd h
    back-over-split (Some o) h = by-all Back (nat_lt o s) (address_at p o) (address_at p (o + 1)) tt tt

    -- a back address stays one where a split moves it
    pub split-back : (v : Address) → Back v → Back (moved_by_split i j p s n v)
    split-back v h =
        same-back v.id i (node_after_split i j p s n v.offset) (if v.id == p then (parent_after_split p s v.offset) else v)
        (back-in-split v.offset h)
        (same-back v.id p (parent_after_split p s v.offset) v (back-over-split v.offset h) h)

    module _ (c : Option ℕ) where
      back-at-separator : (to : Address) (o : Option ℕ) → Back to → IsBack node_at o → Back (at_separator p s to o)
      back-at-separator to None b h = absurd h
      back-at-separator to (Some o) b h = same-back o s to (address_at p o) b tt

      back-right-giver : (o : Option ℕ) → IsBack node_at o → Back (right_after_lending j p s c o)
      back-right-giver None h = absurd h
      back-right-giver (Some zero) h = tt
      back-right-giver (Some (suc o)) h = tt

      -- a back address stays one where a rotation to the left moves it
      pub rotate-left-back : (v : Address) → Back v → Back (moved_by_rotate_left i j p s n c v)
      rotate-left-back v h =
          same-back v.id j (right_after_lending j p s c v.offset)
          (if v.id == p then (at_separator p s (address_at i n) v.offset) else v) (back-right-giver v.offset h)
          (same-back v.id p (at_separator p s (address_at i n) v.offset) v (back-at-separator (address_at i n) v.offset tt h) h)

      back-left-giver : (o : Option ℕ) → IsBack node_at o → Back (left_after_lending i j p s n o)
      back-left-giver None h = absurd h
      back-left-giver (Some o) h = by-order Back (suc o) n (address_at i o) (address_at p s) (address_at j 0) tt tt tt

      back-right-taker : (o : Option ℕ) → IsBack node_at o → Back (right_after_borrowing j c o)
      back-right-taker None h = absurd h
      back-right-taker (Some o) h = tt

      -- a back address stays one where a rotation to the right moves it
      pub rotate-right-back : (v : Address) → Back v → Back (moved_by_rotate_right i j p s n c v)
      rotate-right-back v h =
          let rest : Address = if v.id == p then (at_separator p s (address_at j 0) v.offset) else v in
          same-back v.id i (left_after_lending i j p s n v.offset)
          (if v.id == j then (right_after_borrowing j c v.offset) else rest) (back-left-giver v.offset h)
          (same-back v.id j (right_after_borrowing j c v.offset) rest (back-right-taker v.offset h)
          (same-back v.id p (at_separator p s (address_at j 0) v.offset) v (back-at-separator (address_at j 0) v.offset tt h) h))

      back-in-merged : (o : Option ℕ) → IsBack node_at o → Back (right_after_merge i n c o)
      back-in-merged None h = absurd h
      back-in-merged (Some o) h = tt

      back-over-merged : (o : Option ℕ) → IsBack node_at o → Back (parent_after_merge i p s n o)
      back-over-merged None h = absurd h
      back-over-merged (Some o) h = by-order Back o s (address_at p o) (address_at i n) (address_at p (o - 1)) tt tt tt

      -- a back address stays one where a merge moves it
      pub merge-back : (v : Address) → Back v → Back (moved_by_merge i j p s n c v)
      merge-back v h =
          same-back v.id j (right_after_merge i n c v.offset) (if v.id == p then (parent_after_merge i p s n v.offset) else v)
          (back-in-merged v.offset h)
          (same-back v.id p (parent_after_merge i p s n v.offset) v (back-over-merged v.offset h) h)
