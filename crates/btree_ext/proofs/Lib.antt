-- Edits of a tree. A file cites those before it. Main theorems: `put-inserted_by_key` in InsertLemmas, an insertion by key; `removed-by` in
-- RemoveLemmas, any removal; `room-needed` in RoomLemmas, the nodes that an insertion wants.
pub mod Common
pub mod FirstLemmas
pub mod MoreLemmas
pub mod LevelLemmas
pub mod RoomLemmas
pub mod WrittenLaws
pub mod ExchangeLemmas
pub mod InsertLemmas
pub mod KeyWrittenLemmas
pub mod InsertAtLemmas
pub mod ReplaceLemmas
pub mod RemoveLemmas
pub mod InnerLemmas
pub mod RemoveAtLemmas
pub mod RemoveInnerLemmas
pub mod RemoveByKeyLemmas
pub mod UpdateLeafLemmas
pub mod UpdateInnerLemmas
pub mod UpdateKeyLemmas
pub mod ReplaceByKeyLemmas
pub mod RefusalLemmas
pub mod AbsentLemmas
pub mod LimitLemmas
pub mod TreeLimitLemmas
pub mod Crossing
