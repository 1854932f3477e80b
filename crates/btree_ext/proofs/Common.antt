-- The names that the proofs of this crate cite everywhere, passed on from one place. Declares nothing.
pub use Rattle.std.proofs.Common.{unwrap_or, ◌<◌, ◌≤◌, ◌+◌, ℕ, inl, inr, List, [], Option, Some, None, arith, ◌≡◌, length, ap, sym, subst, Result, Ok, Err, ◌≢◌, ◌∙◌, ◌^◌, ◌-◌, ◌∷◌, IfSome, IsSome, refl, is_some, if◌then◌else◌, option_map, zero, suc, set, option_and_then, slice_get, IsTrue, IsSomeAnd, rules}
pub use Rattle.std.proofs.lemmas.Grind.{common_steps}
pub use Rattle.std.proofs.lemmas.Option.{slice_get_within}
pub use Rattle.std.proofs.lemmas.Result.{IfErr-weaker, IfOk-weaker}
pub use Rattle.std.specs.Cmp.{IsTotalOrder}
pub use Rattle.std.specs.List.{insert, remove}
pub use Rattle.std.specs.declared.cmp.Ordering.{Ordering}
pub use Rattle.btree_ext.specs.Exchange.{IsExchanged, IsKeyExchanged, IsValueExchanged}
pub use Rattle.btree_ext.specs.Insert.{IsInserted, IsGapFor}
pub use Rattle.btree_ext.specs.KeyWritten.{address_at_key}
pub use Rattle.btree_ext.specs.Remove.{IsRemoved, IsInnerAt, LeadsBehind, HasChildBehind}
pub use Rattle.btree_ext.specs.Update.{RunsAt}
pub use Rattle.btree_ext.specs.ValueWritten.{value_written}
pub use Rattle.btree_find.proofs.LeafLemmas.{leaf-same}
pub use Rattle.btree_find.proofs.PlaceLemmas.{has-place}
pub use Rattle.btree_find.specs.Answers.{IsFoundAt, IsGapAt}
pub use Rattle.btree_item.proofs.PairLemmas.{found-from_Err, before-from_Ok}
pub use Rattle.btree_item.specs.Address.{Address}
pub use Rattle.btree_item.specs.Pairs.{before, found, found_value}
pub use Rattle.btree_item.specs.declared.address.Address.TheView.{view}
pub use Rattle.btree_item.specs.declared.refused.Cause.{Cause}
pub use Rattle.btree_laws.proofs.Options.{else-none, then-some}
pub use Rattle.btree_laws.proofs.Places.OfTree.{positions-addressed}
pub use Rattle.btree_laws.proofs.Places.Words.{item-within}
pub use Rattle.btree_laws.proofs.Trees.Numbers.{same-or}
pub use Rattle.btree_laws.proofs.Trees.States.{height_held, is-tree, pairs-tree}
pub use Rattle.btree_laws.proofs.Trees.Stores.{used-view, len-views, writes_node}
pub use Rattle.btree_laws.specs.Focus.Positions.{address_at}
pub use Rattle.btree_laws.specs.Lists.{times_listed}
pub use Rattle.btree_laws.specs.Need.{need}
pub use Rattle.btree_laws.specs.Place.{IsLeaf, IsPlace, IsValid}
pub use Rattle.btree_laws.specs.Represents.{numbers_under}
pub use Rattle.btree_laws.specs.Step.{HasItems, WritesNode}
pub use Rattle.btree_laws.specs.Strain.{IsStrain, strain_under}
pub use Rattle.btree_laws.specs.TreeState.{TreeState, IsBTree, IsLeafAddressIn, node_map, nodes_needed, pairs_of, Kept, with_limit, IsUsed, item_of, Changes, IsPlaceIn, IsValidIn, IsOffByOneAt}
pub use Rattle.btree_laws.specs.WellFormed.{IsSized, IsWellFormed, times_used}
pub use Rattle.btree_node.specs.Node.{view_of}
pub use Rattle.btree_node.specs.declared.node.Node.{Node}
pub use Rattle.btree_raw.proofs.StateLemmas.{same-len, same-kept}
pub use Rattle.btree_raw.specs.Claimed.{EMPTY}
pub use Rattle.btree_raw.specs.Insertion.{IsRefused}
pub use Rattle.btree_raw.specs.LastItem.{TakesLast}
pub use Rattle.btree_raw.specs.Raw.{with_node}
pub use Rattle.btree_raw.specs.Rebalance.{HasRoom, IsRebalanced}
pub use Rattle.btree_raw.specs.Steps.{HasCount, HasParent}
pub use Rattle.btree_store.specs.Content.{Content}
pub use Rattle.btree_store.specs.ContentLaws.{get-insert_same}
pub use Rattle.btree_view.specs.Edits.{is_internal, with_other_item, with_other_item_at}
pub use Rattle.btree_view.specs.View.{View, NodeMap, leaf, internal, item_in, items_of, most_of, size_of, children_of}
