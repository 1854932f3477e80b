use Rattle.std.proofs.lemmas.Bool.Decides.{nat_tests}
use Rattle.btree_valid.proofs.Common.{◌≡◌, ◌≤◌, ℕ, arith, refl}
use Rattle.btree_laws.specs.WellFormed.{excess_allowed}
use Rattle.btree_valid.proofs.off_by_one.most_items.Goals as goal

-- one node alone may have an item more
one_more : (exempt id more : ℕ) → more ≡ excess_allowed exempt id → more ≤ 1
one_more exempt id more e = grind (arith, nat_tests)

pub overflow_add-result : goal.overflow_add-result
overflow_add-result g c = let one = one_more _ _ _ c.excess-more.ensures in omega arith

pub returns-in-Leaf : goal.returns-in-Leaf
returns-in-Leaf g c = rw (c.in-Leaf.is, ← c.excess-more.ensures) refl

pub overflow_add-result-in-Internal : goal.overflow_add-result-in-Internal
overflow_add-result-in-Internal g c = let one = one_more _ _ _ c.excess-more.ensures in omega arith

pub returns-in-Internal : goal.returns-in-Internal
returns-in-Internal g c = rw (c.in-Internal.is, ← c.excess-more.ensures) refl
