-- What calls of this crate leave, in the words that `btree_ext` cites too.
use Rattle.std.specs.Prelude.{◌≡◌, ℕ, List, Option}
use Rattle.std.specs.Borrow.{MutBor}
use Rattle.std.specs.declared.cmp.Ordering.{Ordering}
use Rattle.btree_item.specs.Pairs.{found, found_value, with_value}
use Rattle.btree_item.specs.Address.{Address}
use Rattle.btree_laws.specs.TreeState.{TreeState, pairs_of}
use Rattle.btree_find.specs.Fits.{pairs_below}
use Rattle.btree_ext.specs.Exchange.{IsValueExchanged}
use Rattle.btree_ext.specs.Insert.{IsInserted}
use Rattle.btree_ext.specs.KeyWritten.{ExchangesValue, ExchangesValueBy, key_written}
use Rattle.btree_ext.specs.Update.{ClaimsNeeded}
use Rattle.btree_ext.specs.ValueWritten.{value_written}

module _ {K V : Type 0} (cmp : K → K → Ordering) where
  -- whatever is written at a key replaces the value that was lent
  abbrev pub ExchangesLent : (k : K) → TreeState K V → (lent : MutBor V) → Type 0
  ExchangesLent k tree lent = (w : V) → ExchangesValue cmp k tree (key_written cmp k tree w) lent.now w

  -- so it does at the key that a query is equal to
  abbrev pub ExchangesLentBy : {Q : Type 0} → (K → Q → Ordering) → (query : Q) → TreeState K V → (lent : MutBor V) → Type 0
  ExchangesLentBy compare query tree lent = (w : V) → ExchangesValueBy cmp compare query tree (key_written compare query tree w) lent.now w

  -- whatever is written at an address replaces the value that was lent
  abbrev pub ExchangesLentAt : Address → TreeState K V → (lent : MutBor V) → Type 0
  ExchangesLentAt a tree lent = (w : V) → IsValueExchanged tree (value_written tree a w) a cmp lent.now w

  -- from whatever tree nodes for the pair were claimed, the pair was inserted into that tree
  abbrev pub InsertsClaimed : (claimed new : TreeState K V) → List ℕ → (a b : Address) → K × V → Type 0
  InsertsClaimed claimed new ids a b x = (base : TreeState K V) → ClaimsNeeded cmp x.0 base claimed a ids → IsInserted cmp base new a b x

  -- the list has another value at a key that is there
  abbrev pub WritesAtKey : (k : K) → V → (old new : TreeState K V) → Type 0
  WritesAtKey k w old new = pairs_of new ≡ with_value cmp k w (pairs_of old)

  -- the value at a key under a node
  abbrev pub value_below : (k : K) → TreeState K V → (id : ℕ) → Option V
  value_below k tree id = found_value cmp k (pairs_below tree id)

  -- what is found at a key under a node is what is found in the tree
  abbrev pub FindsSameBelow : (k : K) → TreeState K V → (id : ℕ) → Type 0
  FindsSameBelow k tree id = found cmp k (pairs_below tree id) ≡ found cmp k (pairs_of tree)
