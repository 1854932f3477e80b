-- The printed texts of a refusal and of a fault.
use Rattle.std.specs.Prelude.{ℕ, List, codes}
use Rattle.btree_item.specs.declared.refused.Cause.{Cause}
use Rattle.btree_item.specs.declared.refused.Cause.TheVariants.{Store, Count}
use Rattle.btree_item.specs.declared.fault.Fault.{Fault}
use Rattle.btree_item.specs.declared.fault.Fault.TheVariants.{NoNode, WrongParent, Overflowing, Underflowing, EmptyRoot, Unsorted, BelowSeparator, AboveSeparator, TooDeep, NotBalanced, WrongLength, Unreachable, OverLimit}

-- why an insertion was refused
abbrev pub cause_text : Cause → List ℕ
cause_text Store = codes "no node could be allocated"
cause_text Count = codes "the length has reached its limit"

-- what is wrong with a node or a tree
abbrev pub fault_text : Fault → List ℕ
fault_text NoNode = codes "a node's number is not used"
fault_text WrongParent = codes "a node's parent is not the node above it"
fault_text Overflowing = codes "a node has too many items"
fault_text Underflowing = codes "a node has too few items"
fault_text EmptyRoot = codes "the root has no item"
fault_text Unsorted = codes "the keys of a node do not ascend"
fault_text BelowSeparator = codes "a key is not greater than the separator before it"
fault_text AboveSeparator = codes "a key is not less than the separator after it"
fault_text TooDeep = codes "there are too many levels"
fault_text NotBalanced = codes "two leaves are on different levels"
fault_text WrongLength = codes "the length is not the number of items"
fault_text Unreachable = codes "a node is not in the tree"
fault_text OverLimit = codes "the length is greater than its limit"
