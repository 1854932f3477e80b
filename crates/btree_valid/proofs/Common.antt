-- The names that the proofs of this crate cite everywhere, passed on from one place. Declares nothing.
pub use Rattle.std.proofs.Common.{◌≡◌, ◌∙◌, ◌+◌, ◌<◌, ◌≤◌, ◌∷◌, ◌++◌, [], ℕ, zero, suc, inl, inr, List, Option, Some, None, Ok, Err, length, slice_get, refl, sym, ap, subst, arith, drop, is_some, true, false, Result, option_copied, ◌-◌, map, IsTrue, option_map, length-append, rules}
pub use Rattle.std.proofs.lemmas.Bool.Decides.{nat_tests}
pub use Rattle.std.proofs.lemmas.Grind.{common_steps}
pub use Rattle.std.proofs.lemmas.Result.{err_from_is_err_and}
pub use Rattle.std.specs.Cmp.{IsTotalOrder}
pub use Rattle.std.specs.List.{AllByRecursion, flat_map}
pub use Rattle.std.specs.Map.{keys_of}
pub use Rattle.std.specs.Prelude.{⊤, IfSome, IsFalse}
pub use Rattle.std.specs.declared.cmp.Ordering.{Ordering}
pub use Rattle.std.specs.declared.cmp.Ordering.TheVariants.{Less}
pub use Rattle.btree_item.specs.Pairs.{Ascends}
pub use Rattle.btree_item.specs.declared.fault.Fault.{Fault}
pub use Rattle.btree_item.specs.declared.fault.Fault.TheVariants.{NoNode, WrongParent, Overflowing, Underflowing, EmptyRoot, Unsorted, BelowSeparator, AboveSeparator, TooDeep, NotBalanced, WrongLength, Unreachable, OverLimit}
pub use Rattle.btree_laws.proofs.LookUp.KeyInList.{ascends, rises, Rises, rises-left}
pub use Rattle.btree_laws.proofs.Paths.Frames.{top-view, one-self, one-other, AllByRecursion-right}
pub use Rattle.btree_laws.proofs.Trees.Numbers.{numbers-subtree, zero-or, same-or, used-one}
pub use Rattle.btree_laws.proofs.Trees.Represented.{represented-is}
pub use Rattle.btree_laws.proofs.Trees.Sizes.{view-size, view-parent}
pub use Rattle.btree_laws.proofs.Trees.Subtrees.{represents-of}
pub use Rattle.btree_laws.specs.Focus.Subtree.{Holds, Subtree, id_of, items_under, times_under, count_at, view_at, IsFilled, IsFilledBelow, later_items}
pub use Rattle.btree_laws.specs.Lists.{times_listed, total}
pub use Rattle.btree_laws.specs.Represents.{numbers_under, Represents, represented}
pub use Rattle.btree_laws.specs.TreeState.{pairs_under, views}
pub use Rattle.btree_laws.specs.WellFormed.{IsNearlySized, least_allowed, times_used}
pub use Rattle.btree_node.specs.Node.{view_of}
pub use Rattle.btree_node.specs.declared.node.Node.{Node}
pub use Rattle.btree_store.specs.Content.{Content}
pub use Rattle.btree_valid.specs.Faults.{AreBetween, Allows}
pub use Rattle.btree_valid.specs.Positions.{IsFirstLeaf, IsLeafDepth, IsMetBelow, PassesAt, Spotted, root_spot, step_down, nearest_of, Leads}
pub use Rattle.btree_valid.specs.Sizes.{AreSized, IsSizedNode, PassesNode, least_between}
pub use Rattle.btree_valid.specs.Spots.{Suits, BeginsAt, CanMeet, MeetsAt, BlamesAt, FindsAt}
unfoldable pub use Rattle.btree_valid.specs.Verdicts.{numbers_met}
pub use Rattle.btree_valid.specs.Verdicts.{NamesTree}
pub use Rattle.btree_valid.specs.declared.faults.Met.{Met}
pub use Rattle.btree_valid.specs.declared.faults.Spot.{Spot}
pub use Rattle.btree_valid.specs.declared.off_by_one.Exempt.{Exempt}
pub use Rattle.btree_view.specs.Checks.{FirstFailed, IsNodeVerdict, node_faults, is_judged_as_root, PassesCheck}
pub use Rattle.btree_view.specs.Separators.{separator_after, separator_before}
pub use Rattle.btree_view.specs.View.{NodeMap, View, children_of, internal, items_of, leaf, size_of, branches_of, parent_of, children_in, most_of}
