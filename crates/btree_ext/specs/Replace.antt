-- What a replacement by key leaves of a tree: an equal key is replaced with its value, and an absent one is inserted.
use Rattle.std.specs.Prelude.{◌≡◌, List, None, IsSome, is_some, set, if◌then◌else◌}
use Rattle.std.specs.List.{insert}
use Rattle.std.specs.declared.cmp.Ordering.{Ordering}
use Rattle.btree_item.specs.Pairs.{before, found}
use Rattle.btree_item.specs.Address.{Address}
use Rattle.btree_laws.specs.TreeState.{TreeState, pairs_of}
use Rattle.btree_find.specs.Answers.{IsFoundAt}
use Rattle.btree_ext.specs.Exchange.{IsExchanged}
use Rattle.btree_ext.specs.Insert.{InsertsByKey}

module _ {K V : Type 0} (cmp : K → K → Ordering) (k : K) where
  -- the pair is in the place of that with an equal key, or inserted at its place
  abbrev pub replaced : V → List (K × V) → List (K × V)
  replaced w xs = if is_some (found cmp k xs) then set xs (before cmp k xs) (k, w) else insert xs (before cmp k xs) (k, w)

  -- what a replacement by key does to the nodes: for an absent key what an insertion does; for a present one it
  -- exchanges the pair at its address, and every address stays
  pub record ReplacesByKey (old new : TreeState K V) (value : V) : Type 0 where
    pub absent : found cmp k (pairs_of old) ≡ None → InsertsByKey cmp k old new value
    pub present : IsSome (found cmp k (pairs_of old)) → (a : Address) × IsFoundAt cmp k old a × IsExchanged old new a cmp (k, value)
