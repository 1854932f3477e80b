use Rattle.std.proofs.Common.{◌≡◌, true, eqb, length, rules}
use Rattle.btree_image.specs.Reading.{end_at}
use Rattle.btree_image.proofs.head.read_end.Goals as goal

-- the bytes end with the check sum
pub returns : goal.returns
unfolding end_at
returns c = let none_left : eqb (length c.in_ok-after.after.now) 0 ≡ true = cc in search rules
