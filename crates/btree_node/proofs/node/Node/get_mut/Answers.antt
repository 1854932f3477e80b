use Rattle.btree_node.proofs.Common.{Some, None, Ok, Err, view_of}
use Rattle.btree_node.proofs.LookUpLemmas.{look_up-from_find}
use Rattle.btree_node.proofs.node.Node.get_mut.Goals as goal

pub returns-in-Ok : goal.returns-in-Ok
returns-in-Ok g c = look_up-from_find g.K.Ord.cmp c.args.key.now (view_of c.args.self.now) (Ok c.in-Ok.value.now) c.in-Ok.ensures.value

pub returns-in-Err-None : goal.returns-in-Err-None
returns-in-Err-None g c =
    let value = rw c.in-Err-None.field-0-is at c.in-Err-None.ensures.value in
    look_up-from_find g.K.Ord.cmp c.args.key.now (view_of c.args.self.now) (Err None) value

pub returns-in-Err-Some : goal.returns-in-Err-Some
returns-in-Err-Some g c =
    let value = rw c.in-Err-Some.field-0-is at c.in-Err-Some.ensures.value in
    look_up-from_find g.K.Ord.cmp c.args.key.now (view_of c.args.self.now) (Err (Some c.in-Err-Some.id)) value
