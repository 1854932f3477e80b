-- Where a key fits: at the place of an address (`FitsAt`, which an insertion there asks), in the place of the item at an
-- address (`ReplacesAt`, which a replacement of its key asks), and under a node (`FitsIn`).
use Rattle.std.specs.Prelude.{◌≡◌, ◌+◌, ℕ, ◌<◌, suc, List, Some, length, slice_get}
use Rattle.std.specs.FinMap as map
use Rattle.std.specs.declared.cmp.Ordering.{Ordering}
use Rattle.std.specs.declared.cmp.Ordering.TheVariants.{Less}
use Rattle.btree_item.specs.Pairs.{KeyFits}
use Rattle.btree_item.specs.Address.{Address}
use Rattle.btree_laws.specs.Focus.Positions.{address_before}
use Rattle.btree_laws.specs.Represents.{represented}
use Rattle.btree_laws.specs.TreeState.{TreeState, IsOccupiedIn, node_map, pairs_of}
use Rattle.btree_find.specs.Navigation.{HasPlace}

-- the pairs under a node: those of its subtree
abbrev pub pairs_below : {K V : Type 0} → TreeState K V → (id : ℕ) → List (K × V)
pairs_below s id = represented (node_map s) (map.len s.nodes) id

module _ {K V : Type 0} (cmp : K → K → Ordering) (k : K) where
  -- a key may replace that of the pair at p: it is above the key before it and below the key after it
  pub record KeyReplaces (p : ℕ) (xs : List (K × V)) : Type 0 where
    pub within : p < length xs
    pub above : (q : ℕ) (x : K × V) → suc q ≡ p → slice_get xs q ≡ Some x → cmp x.0 k ≡ Less
    pub below : (x : K × V) → slice_get xs (suc p) ≡ Some x → cmp k x.0 ≡ Less

  module _ (s : TreeState K V) (a : Address) where
    -- the key fits at the place of the address
    pub record FitsAt : Type 0 where
      pub place : ℕ
      pub has : HasPlace s a place
      pub fits : KeyFits cmp k place (pairs_of s)

    -- an item is at the address, and the key may replace its key
    pub record ReplacesAt : Type 0 where
      pub occupied : IsOccupiedIn s a
      pub place : ℕ
      pub has : HasPlace s a place
      pub replaces : KeyReplaces place (pairs_of s)

  -- the key is between the separators of a node: above the pair before those under it, and below the pair after them
  pub record FitsIn (s : TreeState K V) (id : ℕ) : Type 0 where
    pub start : ℕ
    pub begins : HasPlace s (address_before id) start
    pub above : (q : ℕ) (x : K × V) → suc q ≡ start → slice_get (pairs_of s) q ≡ Some x → cmp x.0 k ≡ Less
    pub below : (x : K × V) → slice_get (pairs_of s) (start + length (pairs_below s id)) ≡ Some x → cmp k x.0 ≡ Less
