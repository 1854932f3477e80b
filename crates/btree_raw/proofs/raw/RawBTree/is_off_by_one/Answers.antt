use Rattle.btree_raw.proofs.RawLemmas.{off-found, no-root-off}
use Rattle.btree_raw.proofs.raw.RawBTree.is_off_by_one.Goals as goal
use Rattle.btree_raw.proofs.Common.{rules}

pub returns-in-Some : goal.returns-in-Some
returns-in-Some g c = rw (← c.self.view_is) (off-found g.K.Ord.cmp _ c.args.id c.in-Some.root c.in-Some.is c.is_off_by_one.result c.is_off_by_one.ensures)

pub returns-in-None : goal.returns-in-None
returns-in-None g c = rw (← c.self.view_is) (no-root-off g.K.Ord.cmp _ c.args.id c.in-None.is)

pub tell_fits-requires : goal.tell_fits-requires
tell_fits-requires g c κs = search rules steps 200000

pub is_off_by_one-requires : goal.is_off_by_one-requires
is_off_by_one-requires g c = c.tell_fits.ensures
