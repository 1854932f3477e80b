-- What a tree is once a value was written through a borrow.
use Rattle.std.specs.Borrow.{MutBor}
use Rattle.std.specs.declared.cmp.Ordering.{Ordering}
use Rattle.btree_item.specs.Address.{Address}
use Rattle.btree_laws.specs.TreeState.{TreeState}
use Rattle.btree_ext.specs.Exchange.{IsValueExchanged}
use Rattle.btree_ext.specs.KeyWritten.{ExchangesValue, address_at_key}

module _ {K V : Type 0} (cmp : K → K → Ordering) where
  -- for trees seen as `state`, in which `with_value` writes at an address
  module _ {S : Type 0} (state : S → TreeState K V) (with_value : S → Address → V → S) where
    -- whatever is written at an address replaces the value that was lent
    abbrev pub ExchangesAt : Address → (tree : S) → (lent : MutBor V) → Type 0
    ExchangesAt a tree lent = (w : V) → IsValueExchanged (state tree) (state (with_value tree a w)) a cmp lent.now w

    module _ (k : K) (tree : S) where
      -- the tree with w as the value at a key that is there
      abbrev pub with_value_at_key : V → S
      with_value_at_key w = with_value tree (address_at_key cmp k (state tree)) w

      -- whatever is written at the key replaces the value that was lent
      abbrev pub ExchangesAtKey : (lent : MutBor V) → Type 0
      ExchangesAtKey lent = (w : V) → ExchangesValue cmp k (state tree) (state (with_value_at_key w)) lent.now w
