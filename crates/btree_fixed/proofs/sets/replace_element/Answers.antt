use Rattle.btree_fixed.proofs.SetLaws.{replace_element-exact, taken-element}
use Rattle.btree_fixed.proofs.sets.replace_element.Goals as goal

pub returns-clause-exact : goal.returns-clause-exact
returns-clause-exact g c = replace_element-exact _ _ _ _ _ (λ e. e.cause) c.node_count-before.ensures.in_tree _ c.replace-result.ensures.cause c.replace-result.ensures.nodes c.node_count-count.ensures.can_hold

pub returns-clause-few : goal.returns-clause-few
returns-clause-few g c = taken-element _ _ _ _ _ (λ e. e.cause) c.node_count-before.ensures.in_tree _ c.replace-result.ensures.cause c.node_count-count.ensures.in_tree
