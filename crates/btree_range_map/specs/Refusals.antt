-- The cause of a refused call on ranges: that of a refused node, and the printed text.
use Rattle.std.specs.Prelude.{ℕ, List, codes}
use Rattle.btree_item.specs.declared.refused.Cause.{Cause}
use Rattle.btree_item.specs.declared.refused.Cause.TheVariants.{Store as NodeStore, Count as NodeCount}
use Rattle.btree_range_map.specs.declared.refused.RangeCause.{RangeCause}
use Rattle.btree_range_map.specs.declared.refused.RangeCause.TheVariants.{Store, Count, Clone}

-- the same cause, where a node was refused
abbrev pub by_node : Cause → RangeCause
by_node NodeStore = Store
by_node NodeCount = Count

-- why a call was refused
abbrev pub refusal_text : RangeCause → List ℕ
refusal_text Store = codes "no node could be allocated"
refusal_text Count = codes "the number of ranges has reached its limit"
refusal_text Clone = codes "a value could not be cloned"
