-- A set of ranges as contracts see it: its ranges in order, and what is kept beside them: how often its store has
-- refused, and the greatest number of ranges.
use Rattle.std.specs.Prelude.{◌≡◌, ℕ, ◌<◌, ◌≤◌, List, length, refl}
use Rattle.std.specs.Coded.{Coded, code_by, coded_ℕ, coded_list, coded×}
use Rattle.std.specs.Ordering.{nat_cmp}
use Rattle.btree_item.specs.declared.refused.Cause.{Cause}
use Rattle.btree_item.specs.declared.refused.Cause.TheVariants.{Store, Count}
use Rattle.btree_store.specs.Content.{Content}
use Rattle.btree_node.specs.declared.node.Node.{Node}
use Rattle.btree_laws.specs.TreeState.{IsBTree, Kept, TreeState, coded_kept, pairs_of, refused_once}

-- a set of ranges as contracts see it: its ranges in order, its limit and its count of refusals
pub record RangeState : Type 0 where
  pub ranges : List (ℕ × ℕ)
  pub kept : Kept

abbrev pub range_code : Coded RangeState
range_code =
    code_by
    (List (ℕ × ℕ) × Kept)
    (coded× (coded_list (coded× coded_ℕ coded_ℕ)) coded_kept)
    (λ s. (s.ranges, s.kept))
    (λ p. record { ranges = p.0; kept = p.1 })
    (λ _. refl)

-- the set of ranges that a map from the start of each range to its end stands for
abbrev pub ranges_of : TreeState ℕ ℕ → RangeState
ranges_of map = record { ranges = pairs_of map; kept = map.kept }

-- the nodes are those of a map from the start of each range to its end
abbrev pub HoldsRanges : Content (Node ℕ ℕ) → RangeState → Type 0
HoldsRanges nodes s = (map : TreeState ℕ ℕ) × IsBTree nat_cmp map × (ranges_of map ≡ s) × (nodes ≡ map.nodes)

-- a clone may fail, of a store with nodes that hold the ranges
abbrev pub FailsOver : (MayFail : Content (Node ℕ ℕ) → Type 0) → RangeState → Type 0
FailsOver MayFail s = (nodes : Content (Node ℕ ℕ)) × HoldsRanges nodes s × MayFail nodes

module _ (old new : RangeState) where
  -- with the cause `Store` one more refusal is counted, and there are fewer ranges than there may be; with the cause
  -- `Count` there are as many as there may be
  abbrev pub CountsRefusal : Cause → Type 0
  CountsRefusal Store = (new.kept ≡ refused_once old.kept) × (length old.ranges < old.kept.limit)
  CountsRefusal Count = (new.kept ≡ old.kept) × (old.kept.limit ≤ length old.ranges)

  -- numbers were refused, and every range stays
  pub record IsRefused (cause : Cause) : Type 0 where
    pub ranges : new.ranges ≡ old.ranges
    pub counts : CountsRefusal cause

  -- there are more ranges than before only if there may be as many
  abbrev pub GrowsWithinLimit : Type 0
  GrowsWithinLimit = length old.ranges < length new.ranges → length new.ranges ≤ old.kept.limit
