-- A removal by key or by another query: at the address of a key that is there, and the list of it, where the key is there or not.
use Rattle.btree_ext.proofs.Common.{◌≡◌, ◌∙◌, List, Option, Some, None, IfSome, sym, subst, ap, slice_get, IsTotalOrder, remove, Ordering, before, found, Address, before-from_Ok, TreeState, IsBTree, pairs_of, else-none, then-some, IsFoundAt, IsRemoved}
use Rattle.btree_item.specs.Keys.{Cuts}
use Rattle.btree_item.proofs.PairLemmas.{slice_get-from_Ok}
use Rattle.btree_find.specs.Answers.{IsFoundBy, IsGapBy}
use Rattle.btree_find.proofs.SearchLemmas.{found-at}
use Rattle.btree_ext.specs.Remove.{RemovesBy, RemovesByKey, removed}

-- a key that is not there
pub removed-absent : {K Q V : Type 0} (compare : K → Q → Ordering) (old : TreeState K V) (k : Q) (a : Address) → IsGapBy compare k old a
    → pairs_of old ≡ removed compare k (pairs_of old)
removed-absent compare old k a g =
    let xs = pairs_of old in
    sym (else-none (found compare k xs) (remove xs (before compare k xs)) xs g.absent)

module _ {K Q V : Type 0} (cmp : K → K → Ordering) (compare : K → Q → Ordering) (cut : Cuts cmp compare) (old : TreeState K V) (tree : IsBTree cmp old) (k : Q)
    (a : Address) (f : IsFoundBy compare k old a) (new : TreeState K V) (x : K × V) (b : Address) (r : IsRemoved old new cmp a x b) where
  abbrev xs : List (K × V)
  xs = pairs_of old

  place-is : r.place ≡ f.place
  place-is = f.here.has.only r.place r.has.at

  pub entry-found : Some x ≡ found compare k xs
  entry-found =
      sym (subst (λ p. slice_get xs p ≡ Some x) place-is r.listed) ∙ slice_get-from_Ok compare cut k xs f.place tree.ascends f.is

  pub removed-by : RemovesBy old new cmp compare k x
  removed-by = record {
    at = a;
    found_by = f;
    after = b;
    removed = r;
    pairs = r.pairs ∙ ap (remove xs) (place-is ∙ sym (before-from_Ok compare k xs f.place f.is));
  }

  pub removed-list : pairs_of new ≡ removed compare k xs
  removed-list = removed-by.pairs ∙ sym (then-some (found compare k xs) x (remove xs (before compare k xs)) xs (sym entry-found))

module _ {K V : Type 0} (cmp : K → K → Ordering) (laws : IsTotalOrder cmp) (old : TreeState K V) (tree : IsBTree cmp old) (k : K) where
  -- at an address that a search for the key found
  pub removed-by-key : (a : Address) → IsFoundAt cmp k old a → (new : TreeState K V) (x : K × V) (b : Address) → IsRemoved old new cmp a x b
      → RemovesByKey old new cmp k x
  removed-by-key a f new x b r = record {
    at = a;
    found_at = f;
    after = b;
    removed = r;
    pairs =
        r.pairs
        ∙ ap (remove (pairs_of old)) (f.here.has.only r.place r.has.at ∙ sym (before-from_Ok cmp k (pairs_of old) f.replaces.place f.is));
  }

  -- a key as a query
  pub by-key : (new : TreeState K V) (x : K × V) → RemovesBy old new cmp cmp k x → RemovesByKey old new cmp k x
  by-key new x r = record {
    at = r.at;
    found_at = found-at cmp k laws old tree r.at r.found_by;
    after = r.after;
    removed = r.removed;
    pairs = r.pairs;
  }

  pub if-by-key : (new : TreeState K V) (o : Option (K × V)) → IfSome o (λ x. RemovesBy old new cmp cmp k x)
      → IfSome o (λ x. RemovesByKey old new cmp k x)
  if-by-key new None r = tt
  if-by-key new (Some x) r = by-key new x r
