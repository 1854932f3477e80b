use Rattle.btree_set.proofs.Common.{◌≡◌, ◌∙◌, ap, sym, pairs_of, is_some, keys_of, stored}
use Rattle.btree_set.proofs.KeyLemmas.{removed-keys, taken-nodes-by, there-keys}
use Rattle.btree_set.proofs.set.BTreeSet.remove_by.Goals as goal

pub returns-clause-there : goal.returns-clause-there
returns-clause-there g c = rw (← c.self.view_is) (let same : is_some (stored g.Q.Query.compare c.args.query.now (keys_of (pairs_of c.self.inside.map))) ≡ c.is_some.result = (let a = there-keys g.Q.Query.compare c.args.query.now (pairs_of c.self.inside.map) in let b = ap is_some c.remove_entry_by.ensures.entry in let e = c.is_some.ensures in cc) in ((λ t. same ∙ t), (λ t. sym same ∙ t)))

pub returns-clause-removed : goal.returns-clause-removed
returns-clause-removed g c = rw (← c.self.view_is) (ap keys_of c.remove_entry_by.ensures.removed ∙ removed-keys g.Q.Query.compare c.args.query.now (pairs_of c.self.inside.map))

pub returns-clause-nodes : goal.returns-clause-nodes
returns-clause-nodes g c = rw (← c.self.view_is) (taken-nodes-by g.T.Ord.cmp g.Q.Query.compare c.args.query.now c.remove_entry_by.result c.self.inside.map c.remove_entry_by.new.self c.remove_entry_by.ensures.entry c.remove_entry_by.ensures.removed_by c.remove_entry_by.ensures.unchanged)
