use Rattle.btree_raw.proofs.raw.RawBTree.validate.Goals as goal

pub returns-clause-exact : goal.returns-clause-exact
returns-clause-exact g c = rw (← c.self.view_is) (λ ok. (c.validate.ensures.only ok, c.validate.ensures.limited ok), λ tree. c.validate.ensures.accepts tree.0 tree.1)

pub returns-clause-verdict : goal.returns-clause-verdict
returns-clause-verdict g c = rw (← c.self.view_is) c.validate.ensures.verdict

pub validate-requires : goal.validate-requires
validate-requires g c = c.tell_fits.ensures
