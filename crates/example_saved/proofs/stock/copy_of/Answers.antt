use Rattle.btree_save.specs.SavedLaws.{saved-addresses}
use Rattle.example_saved.proofs.stock.copy_of.Goals as goal

pub returns : goal.returns
returns c =
    let opened = rw c.deref.ensures.value at c.in_ok-copy.ensures.saved in
    record { same = saved-addresses _ _ c.args.stock.now c.in_ok-copy.copy c.in_ok-bytes.bytes.items c.in_ok-bytes.ensures.saved opened }
