-- A value that was written after its key was inserted, and one that was written at the address of a key that is there.
use Rattle.btree_map.proofs.Common.{◌≡◌, ◌∙◌, List, Option, Some, None, set, refl, sym, ap, option_map, same_Some, IsTotalOrder, Ordering, before, Address, TreeState, IsBTree, item_of, pairs_of, value_written}
use Rattle.btree_item.proofs.PairEdits.{before-le-length}
use Rattle.btree_ext.specs.Exchange.{IsValueExchanged}
use Rattle.btree_ext.specs.InsertAbsent.{InsertsAbsent}
use Rattle.btree_ext.proofs.WrittenLaws.{written-item}
use Rattle.btree_map.specs.Written.{IsInsertedWith, WritesValueAt, list_written, with_value_of}
use Rattle.btree_map.proofs.ListLemmas.{set-inserted, set-stored, with_value-twice}

module _ {K V : Type 0} (cmp : K → K → Ordering) (k : K) (old mid : TreeState K V) (value : V) (b : Address)
    (inserted : InsertsAbsent cmp k old mid value b) where
  pub inserted-with : (was w : V) → IsValueExchanged mid (value_written mid b w) b cmp was w → IsInsertedWith cmp k old (value_written mid b w) value w
  inserted-with was w e =
      let place = before cmp k (pairs_of old) in
      let same : e.exchanged.place ≡ place = inserted.there.only e.exchanged.place e.exchanged.here.has.at in
      let pair : (k, value) ≡ (e.key, was) = same_Some (k, value) (e.key, was) (sym inserted.item ∙ e.had) in
      let key : e.key ≡ k = ap (λ p. p.0) (sym pair) in
      record {
        mid = mid;
        at = b;
        inserted = inserted;
        written = refl;
        pairs =
            e.exchanged.pairs
            ∙ (λ i. set (inserted.pairs i) (same i) (key i, w))
            ∙ set-inserted (pairs_of old) place (k, value) (k, w) (before-le-length cmp k (pairs_of old));
      }

  pub inserted-value : (k' : K) (v : V) → item_of mid b ≡ Some (k', v) → v ≡ value
  inserted-value k' v is = ap (λ p. p.1) (same_Some (k', v) (k, value) (sym is ∙ inserted.item))

module _ {K V : Type 0} (cmp : K → K → Ordering) (laws : IsTotalOrder cmp) (s : TreeState K V) (tree : IsBTree cmp s) (a : Address) where
  pub writes-value : (new : TreeState K V) (was w : V) → IsValueExchanged s new a cmp was w → WritesValueAt cmp s new a was w
  writes-value new was w x =
      record {
        exchanged = x;
        pairs =
            x.exchanged.pairs
            ∙ set-stored cmp laws w (pairs_of s) x.exchanged.place (x.key, was) tree.ascends x.listed
            ∙ sym (ap (λ o. with_value_of cmp o w (pairs_of s)) x.had);
      }

module _ {K V : Type 0} (cmp : K → K → Ordering) (laws : IsTotalOrder cmp) (w : V) where
  of-twice : (v : V) (o : Option (K × V)) (xs : List (K × V))
      → with_value_of cmp (option_map (λ x. (x.0, v)) o) w (with_value_of cmp o v xs) ≡ with_value_of cmp o w xs
  of-twice v None xs = refl
  of-twice v (Some x) xs = with_value-twice cmp laws w x.0 v xs

  -- of two values written at an address one after the other the second stays
  pub written-twice : (s : TreeState K V) (a : Address) (was v : V) → WritesValueAt cmp s (value_written s a v) a was v
      → list_written cmp (value_written s a v) a w ≡ list_written cmp s a w
  written-twice s a was v x =
      (λ i. with_value_of cmp (written-item v s a i) w (x.pairs i)) ∙ of-twice v (item_of s a) (pairs_of s)

-- the value at the address is the one that was written
pub written-value : {K V : Type 0} (s : TreeState K V) (a : Address) (v w : V) → option_map {T = K × V} (λ x. x.1) (item_of s a) ≡ Some v
    → option_map {T = K × V} (λ x. x.1) (item_of (value_written s a w) a) ≡ Some w
written-value {K} {V} s a v w is = ap (option_map {T = K × V} (λ x. x.1)) (written-item w s a) ∙ by (item_of s a) is
  where
    by : (o : Option (K × V)) → option_map {T = K × V} (λ x. x.1) o ≡ Some v → option_map {T = K × V} (λ x. x.1) (option_map {T = K × V} (λ x. (x.0, w)) o) ≡ Some w
    by None e = absurd (cc)
    by (Some x) e = refl
