use Rattle.btree_map.proofs.Common.{arith, length-drop, pairs_of, entry_front}
use Rattle.btree_map.proofs.cursor.editing.EntriesMut.count_left.Goals as goal

pub returns-in_default : goal.returns-in_default
returns-in_default g c =
    let now = c.args.self.now in
    omega (arith, c.count_from.ensures, length-drop (entry_front now) (pairs_of now.map.now))

pub returns : goal.returns
returns g c =
    let now = c.args.self.now in
    let known = now.counted c.in-Some.passed c.in-Some.is in
    omega (arith, known, c.len.ensures, c.saturating_sub.ensures, length-drop (entry_front now) (pairs_of now.map.now))
