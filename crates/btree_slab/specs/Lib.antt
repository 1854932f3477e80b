-- The words that the contracts of the public functions cite, so that a crate that names this library alone can import each
-- of them, as `Rattle.btree_slab.specs.TreeState.{pairs_of}`.
pub use Rattle.btree_ext.specs.ByKey
pub use Rattle.btree_ext.specs.Exchange
pub use Rattle.btree_ext.specs.Insert
pub use Rattle.btree_ext.specs.InsertAbsent
pub use Rattle.btree_ext.specs.InsertAt
pub use Rattle.btree_ext.specs.KeyWritten
pub use Rattle.btree_ext.specs.Outcomes
pub use Rattle.btree_ext.specs.Remove
pub use Rattle.btree_ext.specs.Replace
pub use Rattle.btree_ext.specs.Update
pub use Rattle.btree_ext.specs.ValueWritten
pub use Rattle.btree_ext.specs.Changes
pub use Rattle.btree_ext.specs.TreeLent
pub use Rattle.btree_find.specs.Answers
pub use Rattle.btree_find.specs.Ends
pub use Rattle.btree_find.specs.Fits
pub use Rattle.btree_find.specs.Levels
pub use Rattle.btree_find.specs.Navigation
pub use Rattle.btree_find.specs.Visits
pub use Rattle.btree_internal.specs.Children
pub use Rattle.btree_internal.specs.ChildrenLeft
pub use Rattle.btree_internal.specs.Insertion as InternalInsertion
pub use Rattle.btree_internal.specs.Internal
pub use Rattle.btree_internal.specs.InternalLends
pub use Rattle.btree_item.specs.Address
pub use Rattle.btree_item.specs.Comparisons
pub use Rattle.btree_item.specs.Item
pub use Rattle.btree_item.specs.KeyLaws
pub use Rattle.btree_item.specs.Keys
pub use Rattle.btree_item.specs.Offset
pub use Rattle.btree_item.specs.Pairs
pub use Rattle.btree_item.specs.Refusals
pub use Rattle.btree_item.specs.Slots
pub use Rattle.btree_leaf.specs.Leaf
pub use Rattle.btree_leaf.specs.LeafLends
pub use Rattle.btree_map.specs.Ascending
pub use Rattle.btree_map.specs.Comparison
pub use Rattle.btree_map.specs.Cursor
pub use Rattle.btree_map.specs.CursorLent
pub use Rattle.btree_map.specs.Drain
pub use Rattle.btree_map.specs.DrainSteps
pub use Rattle.btree_map.specs.Editing
pub use Rattle.btree_map.specs.Entry
pub use Rattle.btree_map.specs.Extension
pub use Rattle.btree_map.specs.Lent
pub use Rattle.btree_map.specs.Lists
pub use Rattle.btree_map.specs.Queries
pub use Rattle.btree_map.specs.RangeCursor
pub use Rattle.btree_map.specs.Removal
pub use Rattle.btree_map.specs.Spans
pub use Rattle.btree_map.specs.Splitting
pub use Rattle.btree_map.specs.Written
pub use Rattle.btree_node.specs.Node
pub use Rattle.btree_node.specs.NodeLends
pub use Rattle.btree_node.specs.StoreLends
pub use Rattle.btree_owned_walk.specs.Leaving
pub use Rattle.btree_range_map.specs.Counts as RangeMapCounts
pub use Rattle.btree_range_map.specs.Gaps as RangeMapGaps
pub use Rattle.btree_range_map.specs.Places as RangeMapPlaces
pub use Rattle.btree_range_map.specs.Ranges as RangeMapRanges
pub use Rattle.btree_range_map.specs.Refusals as RangeMapRefusals
pub use Rattle.btree_range_map.specs.SameRanges as RangeMapSame
pub use Rattle.btree_range_map.specs.Series as RangeMapSeries
pub use Rattle.btree_range_map.specs.State as RangeMapState
pub use Rattle.btree_range_map.specs.Updates as RangeMapUpdates
pub use Rattle.btree_range_set.specs.Counts
pub use Rattle.btree_range_set.specs.FirstFit
pub use Rattle.btree_range_set.specs.Gaps
pub use Rattle.btree_range_set.specs.Places
pub use Rattle.btree_range_set.specs.Ranges
pub use Rattle.btree_range_set.specs.SameRanges
pub use Rattle.btree_range_set.specs.Series
pub use Rattle.btree_range_set.specs.State
pub use Rattle.btree_range_set.specs.TwoSets
pub use Rattle.btree_raw.specs.Claimed
pub use Rattle.btree_raw.specs.Insertion
pub use Rattle.btree_raw.specs.LastItem
pub use Rattle.btree_raw.specs.Lent as RawLent
pub use Rattle.btree_raw.specs.Limit
pub use Rattle.btree_raw.specs.Raw
pub use Rattle.btree_raw.specs.Rebalance
pub use Rattle.btree_raw.specs.Steps
pub use Rattle.btree_raw.specs.TreeSteps
pub use Rattle.btree_raw.specs.Underflow
pub use Rattle.btree_session.specs.Arguments
pub use Rattle.btree_session.specs.CursorMachine
pub use Rattle.btree_session.specs.Line
pub use Rattle.btree_session.specs.Machine
pub use Rattle.btree_session.specs.Script
pub use Rattle.btree_session.specs.Text
pub use Rattle.btree_set.specs.Drain as SetDrain
pub use Rattle.btree_set.specs.Elements
pub use Rattle.btree_set.specs.Extension as SetExtension
pub use Rattle.btree_set.specs.Merges
pub use Rattle.btree_set.specs.Splitting as SetSplitting
pub use Rattle.btree_laws.specs.Step
pub use Rattle.btree_laws.specs.TreeAddresses
pub use Rattle.btree_laws.specs.TreeState
pub use Rattle.btree_store.specs.Content
pub use Rattle.btree_store.specs.SlotLaws
pub use Rattle.btree_more_stores.specs.Filled
pub use Rattle.btree_more_stores.specs.Gated
pub use Rattle.btree_more_stores.specs.Odd
pub use Rattle.btree_more_stores.specs.OddLaws
pub use Rattle.btree_more_stores.specs.Table
pub use Rattle.btree_fixed.specs.Capacity
pub use Rattle.btree_fixed.specs.From
pub use Rattle.btree_valid.specs.Faults
pub use Rattle.btree_valid.specs.Reading
pub use Rattle.btree_valid.specs.Verdicts
pub use Rattle.btree_view.specs.Checks
pub use Rattle.btree_view.specs.Edits
pub use Rattle.btree_view.specs.Insertion as ViewInsertion
pub use Rattle.btree_view.specs.Kept
pub use Rattle.btree_view.specs.LookUp
pub use Rattle.btree_view.specs.Removal as ViewRemoval
pub use Rattle.btree_view.specs.Separators
pub use Rattle.btree_view.specs.View
pub use Rattle.btree_walk.specs.Bounds
pub use Rattle.btree_walk.specs.Given
pub use Rattle.btree_walk.specs.Preceding
pub use Rattle.btree_walk.specs.Ranges as WalkRanges
pub use Rattle.btree_walk.specs.Rows
-- what callers conclude from them
pub use Rattle.btree_find.specs.CallerLaws as FindLaws
pub use Rattle.btree_ext.specs.CallerLaws as EditLaws
pub use Rattle.btree_map.specs.CallerLaws as MapLaws
pub use Rattle.btree_map.proofs.LookUpLaws
pub mod FoundLaws
pub mod BetweenLaws
pub use Rattle.btree_set.proofs.SetLaws
pub use Rattle.btree_range_set.specs.CallerLaws as RangeLaws
pub use Rattle.btree_range_set.specs.CountLaws
pub use Rattle.btree_range_map.specs.CallerLaws as RangeMapLaws
pub use Rattle.btree_range_map.proofs.UpdateLaws
pub use Rattle.btree_valid.proofs.ReadLaws
pub mod Laws
