-- The strain of a tree seen from one of its nodes, as a sum over the parts of the focus. `strain-unsized` in
-- `proofs/Strain/Sums.antt` says that it is the strain of `specs/Strain.antt`.
use Rattle.std.specs.Prelude.{ℕ, zero, suc, ◌+◌, ◌-◌, length}
use Rattle.btree_laws.specs.Lists.{total}
use Rattle.btree_laws.specs.Strain.{UNSTRAINED_LEAF_ITEMS, UNSTRAINED_INTERNAL_ITEMS, UNSTRAINED_MIN_ITEMS}
use Rattle.btree_laws.specs.Focus.Subtree.{Subtree, count_at}
use Rattle.btree_laws.specs.Focus.Path.{Frame, at_first, at_branch, Path, top, under, frame_count}

-- the surplus of a node, by its height and number of items
abbrev pub surplus : (height count : ℕ) → ℕ
surplus zero count = count - UNSTRAINED_LEAF_ITEMS
surplus (suc height) count = count - UNSTRAINED_INTERNAL_ITEMS

module _ (A : Type 0) where
  -- of a subtree that is not at the root; and of the nodes below its root
  abbrev pub strain : (height : ℕ) → Subtree A height → ℕ
  strain zero subtree = surplus zero (length subtree.1) + (UNSTRAINED_MIN_ITEMS - length subtree.1)
  strain (suc height) subtree =
      surplus (suc height) (length subtree.2) + (UNSTRAINED_MIN_ITEMS - length subtree.2)
      + (strain height subtree.1 + total (λ b. strain height b.1) subtree.2)

  abbrev pub strain_below : (height : ℕ) → Subtree A height → ℕ
  strain_below zero subtree = 0
  strain_below (suc height) subtree = strain height subtree.1 + total (λ b. strain height b.1) subtree.2

  -- of a node with this path above it
  abbrev pub own_strain : {height : ℕ} → Path A height → (count : ℕ) → ℕ
  own_strain {height} top count = surplus height count
  own_strain {height} (under frame path) count = surplus height count + (UNSTRAINED_MIN_ITEMS - count)

  abbrev pub strain_of_siblings : {height : ℕ} → Frame A height → ℕ
  strain_of_siblings {height} (at_first id back) = total (λ b. strain height b.1) back
  strain_of_siblings {height} (at_branch id first front x back) =
      strain height first + total (λ b. strain height b.1) front + total (λ b. strain height b.1) back

  abbrev pub strain_above : {height : ℕ} → Path A height → ℕ
  strain_above {height} top = 0
  strain_above {height} (under frame path) = own_strain path (frame_count frame) + strain_of_siblings frame + strain_above path

  -- of the whole tree, given as a focus
  abbrev pub strain_of : (height : ℕ) → Path A height → Subtree A height → ℕ
  strain_of height path subtree = strain_above path + (own_strain path (count_at A height subtree) + strain_below height subtree)
