use Rattle.btree_map.proofs.Common.{◌∙◌, ◌-◌, drop, take, sym, arith, length-take, pairs_of}
use Rattle.std.proofs.lemmas.List.{length-drop, length-map}
use Rattle.btree_map.proofs.ListedItems.{counted}
use Rattle.btree_map.proofs.cursor.ValuesMut.len.Goals as goal

pub returns-clause-left : goal.returns-clause-left
returns-clause-left g c =
    let now = c.args.self.now in
    let long = counted now.map.now in
    let rest = drop now.front (pairs_of now.map.now) in
    let left = take (now.back - now.front) rest in
    omega (arith, c.saturating_sub.ensures, now.within, long, length-take (now.back - now.front) rest, length-drop now.front (pairs_of now.map.now))
    ∙ sym (length-map left (λ x. x.1))
