-- Numbers that are claimed from a store before a change, and freed again if one of them is refused.
-- `claim` ensures `AreClaimed` (numbers allocated as empty leaves); `UndoesClaims` says that freeing them leaves the
-- tree from which they were claimed. `MayRefuseOneOf` is the condition under which public calls may be refused.
use Rattle.std.specs.Prelude.{◌≡◌, ℕ, ◌<◌, ◌^◌, ◌-◌, List, [], ◌∷◌, length, None}
use Rattle.std.specs.FinMap as map
use Rattle.btree_store.specs.Content.{Content}
use Rattle.btree_node.specs.declared.node.Node.{Node}
use Rattle.btree_node.specs.declared.node.Node.TheVariants.{Leaf}
use Rattle.btree_laws.specs.TreeState.{TreeState, KeepsRest}

-- a leaf with no item and no parent
abbrev pub EMPTY : {K V : Type 0} → Node K V
EMPTY = Leaf (record { parent = None; items = [] })

module _ {N : Type 0} (empty : N) where
  -- the nodes with `empty` under each number, inserted from the first on
  abbrev pub with_claims : Content N → List ℕ → Content N
  with_claims nodes [] = nodes
  with_claims nodes (id ∷ ids) = with_claims (map.insert nodes id empty) ids

  -- each number is below `usize::MAX` and was unused when it was claimed
  abbrev pub AreClaims : Content N → List ℕ → Type 0
  AreClaims nodes [] = Unit {0}
  AreClaims nodes (id ∷ ids) = (map.get nodes id ≡ None) × (id < 2 ^ 64 - 1) × AreClaims (map.insert nodes id empty) ids

  -- the old nodes became the new ones when these numbers were claimed
  pub record IsClaimed (old new : Content N) (ids : List ℕ) : Type 0 where
    pub claims : AreClaims old ids
    pub after : new ≡ with_claims old ids

  -- one of `count` claims may be refused: the store may refuse in a content with fewer than `count` claims added
  pub record MayRefuseOneOf (MayRefuse : Content N → Type 0) (nodes : Content N) (count : ℕ) : Type 0 where
    pub ids : List ℕ
    pub fewer : length ids < count
    pub claims : AreClaims nodes ids
    pub may : MayRefuse (with_claims nodes ids)

  -- `count` claims can be granted: the store can have a content with so many claims added
  pub record CanHoldMore (CanHold : Content N → Type 0) (nodes : Content N) (count : ℕ) : Type 0 where
    pub ids : List ℕ
    pub all : length ids ≡ count
    pub claims : AreClaims nodes ids
    pub can : CanHold (with_claims nodes ids)

-- these numbers were not used, and are those of empty leaves now; nothing else has changed
pub record AreClaimed {K V : Type 0} (old new : TreeState K V) (ids : List ℕ) : Type 0 where
  pub claimed : IsClaimed EMPTY old.nodes new.nodes ids
  pub rest : KeepsRest old new

-- whatever tree these numbers were claimed from, the new tree is that tree
abbrev pub UndoesClaims : {K V : Type 0} → (old new : TreeState K V) → List ℕ → Type 0
UndoesClaims {K} {V} old new ids = (base : TreeState K V) → AreClaimed base old ids → new ≡ base
