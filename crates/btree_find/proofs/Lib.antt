-- Look-up and navigation. A file cites those before it. Main theorems: `found-at` and `gap-at` in SearchLemmas, a search ends at
-- the key's address or at its gap; `next-at` in NextLemmas, the next item is the one behind the place.
pub mod Common
pub mod PlaceLemmas
pub mod ParentLemmas
pub mod WalkLemmas
pub mod BesideLemmas
pub mod ReplacesLemmas
pub mod UnderLemmas
pub mod PreviousLemmas
pub mod EndsLemmas
pub mod SearchLemmas
pub mod HeightLemmas
pub mod NextLemmas
pub mod LeafLemmas
pub mod OrBackLemmas
pub mod FitsLemmas
pub mod VisitsLemmas
pub mod CountLemmas
