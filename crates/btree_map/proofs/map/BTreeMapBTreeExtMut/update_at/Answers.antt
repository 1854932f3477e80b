use Rattle.btree_map.proofs.map.BTreeMapBTreeExtMut.update_at.Goals as goal

pub returns : goal.returns
returns g c = rw (← c.self.view_is) c.update_at.ensures
