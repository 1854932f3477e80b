-- A replacement by key: at a key that is there, and at the gap of one that is not.
use Rattle.btree_ext.proofs.Common.{◌≡◌, ◌∙◌, List, Option, Some, None, sym, ap, set, IsTotalOrder, insert, Ordering, before-from_Ok, before, found, Address, TreeState, IsBTree, item_of, pairs_of, else-none, then-some, IsFoundAt, IsGapAt, IsExchanged, IsInserted}
use Rattle.btree_item.proofs.PairLemmas.{before-from_Err}
use Rattle.btree_laws.proofs.Options.{some-none}
use Rattle.btree_ext.specs.Replace.{ReplacesByKey, replaced}
use Rattle.btree_ext.proofs.InsertLemmas.{absent, put-inserted_by_key}

not-both : {X : Type 0} (o : Option X) (x : X) → o ≡ Some x → o ≡ None → ⊥
not-both None x some none = absurd (cc)
not-both (Some y) x some none = absurd (cc)

module _ {K V : Type 0} (cmp : K → K → Ordering) (laws : IsTotalOrder cmp) (old : TreeState K V) (tree : IsBTree cmp old) (k : K) (w : V)
    (new : TreeState K V) where
  abbrev xs : List (K × V)
  xs = pairs_of old

  module _ (a : Address) (f : IsFoundAt cmp k old a) (was : K × V) (had : item_of old a ≡ Some was) (e : IsExchanged old new a cmp (k, w)) where
    pub old-pair : Some was ≡ found cmp k xs
    old-pair = sym had ∙ f.item

    pub exchanged-pairs : pairs_of new ≡ replaced cmp k w xs
    exchanged-pairs =
        let same : e.place ≡ before cmp k xs = f.here.has.only e.place e.here.has.at ∙ sym (before-from_Ok cmp k xs f.replaces.place f.is) in
        e.pairs ∙ (ap (λ n. set xs n (k, w)) same ∙ sym (then-some (found cmp k xs) was _ _ (sym old-pair)))

    pub exchanged-by_key : ReplacesByKey cmp k old new w
    exchanged-by_key = record {
      absent = λ none. absurd (not-both (found cmp k xs) was (sym old-pair) none);
      present = λ some. (a, f, e);
    }

  module _ (a : Address) (gap : IsGapAt cmp k old a) (b : Address) (is : IsInserted cmp old new a b (k, w)) where
    none : found cmp k xs ≡ None
    none = absent cmp laws old k w tree a gap

    pub nothing-old : None ≡ found cmp k xs
    nothing-old = sym none

    pub put-pairs : pairs_of new ≡ replaced cmp k w xs
    put-pairs =
        (is.pairs gap.fits.place gap.fits.has.at).0
        ∙ (ap (λ n. insert xs n (k, w)) (sym (before-from_Err cmp k xs gap.fits.place gap.is)) ∙ sym (else-none (found cmp k xs) (set xs (before cmp k xs) (k, w)) (insert xs (before cmp k xs) (k, w)) none))

    pub put-by_key : ReplacesByKey cmp k old new w
    put-by_key = record {
      absent = λ n. put-inserted_by_key cmp laws old k w tree a gap new b is;
      present = λ some. absurd (some-none (found cmp k xs) some none);
    }
