use Rattle.std.proofs.Common.{arith}
use Rattle.btree_image.proofs.reading.read_internal.Goals as goal

pub read_branches-requires : goal.read_branches-requires
read_branches-requires g c =
    let fits = c.well_formed in
    (omega arith, (c.in_ok-parent.ensures.kept, (c.in_ok-count.ensures.some, c.in_ok-count.ensures.fits)))
