-- Choices by a test on two numbers; and a node of the tree is used.
use Rattle.btree_laws.proofs.Common.{◌≡◌, ◌≢◌, ◌<◌, ◌≤◌, ◌==◌, if◌then◌else◌, ℕ, List, Some, subst, arith, nat_tests, nat_lt, NodeMap, IsNode, view_at, parent_above, times_used}
use Rattle.btree_laws.proofs.Paths.Frames.{top-view}
use Rattle.btree_laws.proofs.Trees.Numbers.{used-one}

-- of equal numbers the first alternative is taken
pub full-yes : (m n x y : ℕ) → m ≡ n → (if m == n then x else y) ≡ x
full-yes m n x y e = grind (arith, nat_tests)

pub full-no : (m n x y : ℕ) → m ≢ n → (if m == n then x else y) ≡ y
full-no m n x y e = grind (arith, nat_tests)

-- of a lower number the first alternative is taken
pub less-yes : (m n x y : ℕ) → m < n → (if nat_lt m n then x else y) ≡ x
less-yes m n x y l = grind (arith, nat_tests)

-- of a number that is no lower the second alternative is taken
pub less-no : (m n x y : ℕ) → n ≤ m → (if nat_lt m n then x else y) ≡ y
less-no m n x y l = grind (arith, nat_tests)

module _ (A : Type 0) (node_at : NodeMap A) (root : ℕ) (xs : List A) where
  -- the number of a node of the tree is used
  pub focus-used : (id : ℕ) → IsNode A node_at root xs id → 0 < times_used (node_at id)
  focus-used id n =
      let v = top-view A node_at n.focus.height (parent_above n.focus.path) n.focus.subtree n.focus.whole.inner in
      let w : node_at id ≡ Some (view_at A n.focus.height (parent_above n.focus.path) n.focus.subtree) =
      subst (λ z. node_at z ≡ Some (view_at A n.focus.height (parent_above n.focus.path) n.focus.subtree)) n.focus.here v in
      let u = used-one (node_at id) (view_at A n.focus.height (parent_above n.focus.path) n.focus.subtree) w in
      omega arith
