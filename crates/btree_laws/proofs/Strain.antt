-- The strain of a tree, a potential. Main theorem: `split-strain` in Splits and `merge-strain` in Siblings, for each
-- node that a split uses or a merge frees the strain falls by at least one; a rotation does not raise it. An insertion
-- into a leaf raises it by at most one (`put-strain`), so insertions use at most one node each, amortized.
-- Order: one item more, and splits (Splits); one item fewer, merges, rotations and a shrunk root (Siblings); and the
-- strain by parts of a tree as the sum over its nodes, as contracts see it (`strain-unsized` in Sums), which is the
-- same for every list of their numbers (OneStrain).
pub mod Splits
pub mod Siblings
pub mod Sums
pub mod OneStrain
