use Rattle.btree_set.proofs.Common.{◌≡◌, [], subst}
use Rattle.std.proofs.Common.{◌↔◌, IsTrue}
use Rattle.btree_set.specs.Merges.{difference}
use Rattle.btree_set.proofs.PeekLemmas.{none-yields}
use Rattle.btree_set.proofs.set.BTreeSet.is_subset.Goals as goal

pub returns : goal.returns
returns g c =
    subst (λ p. IsTrue c.is_none.result ↔ (difference g.T.Ord.cmp p.0 p.1 ≡ [])) c.difference.ensures
    (none-yields _ _ c.next.result c.next.ensures.steps c.is_none.result c.is_none.ensures)
