-- What callers conclude from the words of edits: the list after another value was written at an address.
use Rattle.std.proofs.Common.{◌≡◌, ◌∙◌, ℕ, Some, ap, set, slice_get, sym}
use Rattle.std.proofs.lemmas.Option.{same_Some}
use Rattle.std.specs.declared.cmp.Ordering.{Ordering}
use Rattle.btree_item.specs.Address.{Address}
use Rattle.btree_laws.specs.TreeState.{TreeState, pairs_of}
use Rattle.btree_find.specs.Navigation.{IsItemAddress}
use Rattle.btree_ext.specs.Exchange.{IsValueExchanged}

module _ {K V : Type 0} (cmp : K → K → Ordering) (s new : TreeState K V) (a : Address) (place : ℕ) (was is : V) (x : K × V) where
  -- the list has the new value at the place of the address, and the key that was there
  pub value-list : IsItemAddress s place a → slice_get (pairs_of s) place ≡ Some x → IsValueExchanged s new a cmp was is
      → pairs_of new ≡ set (pairs_of s) place (x.0, is)
  value-list item listed e =
      let same : e.exchanged.place ≡ place = item.has.only e.exchanged.place e.exchanged.here.has.at in
      let pair : (e.key, was) ≡ x = same_Some _ _ (sym e.listed ∙ ap (slice_get (pairs_of s)) same ∙ listed) in
      let key : e.key ≡ x.0 = ap (λ (z : K × V). z.0) pair in
      e.exchanged.pairs ∙ ap (λ p. set (pairs_of s) p (e.key, is)) same ∙ ap (λ k. set (pairs_of s) place (k, is)) key

pub ruleset edit_laws = (value-list)
