-- A node's parent as it is stored, and branches that are appended.
use Rattle.btree_internal.proofs.Common.{◌≡◌, ℕ, ◌-◌, List, [], ◌∷◌, ◌++◌, Option, Some, None, map, ◌∙◌, ap, length-map, map-append, Branch, branch_pair}
use Rattle.std.proofs.Common.{◌^◌}
use Rattle.std.specs.Prelude.{length, unwrap_or}
use Rattle.btree_item.specs.declared.item.Item.{Item}
use Rattle.btree_view.specs.Kept.{kept_parent, node_of}
use Rattle.btree_view.proofs.Cuts.{joined_behind}

pub kept : (parent : Option ℕ) (stored : ℕ) → stored ≡ unwrap_or parent (2 ^ 64 - 1) → node_of stored ≡ kept_parent parent
kept None stored is = ap node_of is
kept (Some id) stored is = ap node_of is

module _ {K V : Type 0} where
  abbrev pub pairs : List (Branch K V) → List (Item K V × ℕ)
  pairs branches = map branch_pair branches

  -- the other node's branches are appended behind one branch
  pub pairs-joined : (xs ys front all : List (Branch K V)) (b : Branch K V) → front ≡ xs ++ b ∷ [] → all ≡ front ++ ys
      → pairs all ≡ pairs xs ++ branch_pair b ∷ pairs ys
  pairs-joined xs ys front all b front_is all_is = ap pairs (joined_behind xs ys front all b front_is all_is) ∙ map-append branch_pair xs (b ∷ ys)

  pub length-pairs : (xs : List (Branch K V)) → length (pairs xs) ≡ length xs
  length-pairs xs = length-map xs branch_pair
