use Rattle.btree_raw.proofs.Common.{ap, arith, refl, sym}
use Rattle.btree_raw.proofs.raw.RawBTree.validate_node.Goals as goal

pub returns-clause-accepts : goal.returns-clause-accepts
returns-clause-accepts g c = rw (← c.self.view_is) (λ tree suits. c.validate_node.ensures.accepts _ refl (omega (arith, ap (λ s. s.len) c.self.view_is, c.len-len.ensures, c.len-len.type_inv)) tree suits)

pub returns-clause-only : goal.returns-clause-only
returns-clause-only g c = rw (← c.self.view_is) (λ tree. c.validate_node.ensures.only _ refl tree)

pub returns-clause-blames : goal.returns-clause-blames
returns-clause-blames g c = c.validate_node.ensures.blames c.args.self.now (ap (λ s. s.nodes) (sym c.self.view_is)) (omega (arith, ap (λ s. s.len) c.self.view_is, c.len-len.ensures, c.len-len.type_inv))

pub returns-clause-verdict : goal.returns-clause-verdict
returns-clause-verdict g c = rw (← c.self.view_is) c.validate_node.ensures.verdict

pub validate_node-requires : goal.validate_node-requires
validate_node-requires g c = c.tell_fits.ensures

pub returns-clause-unused : goal.returns-clause-unused
returns-clause-unused g c = rw (← c.self.view_is) c.validate_node.ensures.unused
