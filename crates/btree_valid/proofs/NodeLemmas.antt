-- The checks of a node in a tree that may be off by one.
use Rattle.btree_valid.proofs.Common.{◌≡◌, ◌∷◌, [], ◌+◌, ℕ, List, drop, Option, Some, None, slice_get, sym, subst, IsTotalOrder, AllByRecursion, keys_of, IfSome, Ordering, Less, Exempt, PassesNode, IsNearlySized, View, items_of, parent_of, Rises, ascends, rises}
use Rattle.btree_node.proofs.RoomLemmas.{drop-next, drop-none}
use Rattle.btree_view.specs.Checks.{EndsBelow}
use Rattle.btree_valid.specs.Sizes.{AscendsFrom, IsAbove}
use Rattle.btree_valid.proofs.FoundLemmas.{above-all, ends-all}
use Rattle.btree_valid.proofs.VerdictLemmas.{key-ends}

module _ {K V : Type 0} (cmp : K → K → Ordering) where
  -- keys of which each is above the one before it are in order, and above the first
  from-order : IsTotalOrder cmp → (last : Option K) (xs : List (K × V)) → AscendsFrom cmp last xs → IfSome last (λ m. AllByRecursion (λ x. cmp m x.0 ≡ Less) xs) × Rises cmp xs
  from-order laws None [] f = (tt, tt)
  from-order laws (Some m) [] f = (tt, tt)
  from-order laws None (x ∷ xs) f = let r = from-order laws (Some x.0) xs f.1 in (tt, r)
  from-order laws (Some m) (x ∷ xs) f = let r = from-order laws (Some x.0) xs f.1 in ((f.0, above-all cmp laws m x xs f.0 r.0), r)

  to-order : (last : Option K) (xs : List (K × V)) → IfSome last (λ m. AllByRecursion (λ x. cmp m x.0 ≡ Less) xs) → Rises cmp xs → AscendsFrom cmp last xs
  to-order last [] above up = tt
  to-order None (x ∷ xs) above up = (tt, to-order (Some x.0) xs up.0 up.1)
  to-order (Some m) (x ∷ xs) above up = (above.0, to-order (Some x.0) xs up.0 up.1)

  -- the items from an index on come next
  pub record IsOnWay (all : List (K × V)) (start : Option K) (index : ℕ) (last : Option K) : Type 0 where
    pub only : AscendsFrom cmp last (drop index all) → AscendsFrom cmp start all
    pub always : AscendsFrom cmp start all → AscendsFrom cmp last (drop index all)

  module _ (all : List (K × V)) (start : Option K) where
    pub way-start : IsOnWay all start 0 start
    way-start = record { only = λ f. f; always = λ f. f }

    module _ (index : ℕ) (last : Option K) (w : IsOnWay all start index last) where
      pub way-end : slice_get all index ≡ None → AscendsFrom cmp start all
      way-end none = w.only (subst (AscendsFrom cmp last) (sym (drop-none all index none)) tt)

      module _ (x : K × V) (found : slice_get all index ≡ Some x) where
        next : AscendsFrom cmp start all → AscendsFrom cmp last (x ∷ drop (index + 1) all)
        next f = subst (AscendsFrom cmp last) (drop-next all index x found) (w.always f)

        pub way-above : AscendsFrom cmp start all → IsAbove cmp last x.0
        way-above f = (next f).0

        pub way-next : IsAbove cmp last x.0 → IsOnWay all start (index + 1) (Some x.0)
        way-next up = record {
          only = λ f. w.only (subst (AscendsFrom cmp last) (sym (drop-next all index x found)) (up, f));
          always = λ f. (next f).1;
        }

module _ {K V : Type 0} (cmp : K → K → Ordering) (exempt : Exempt) (id : ℕ) (parent : Option ℕ) (min max : Option K) (v : View (K × V)) where
  -- a node passes its checks exactly if its keys are in order, and the rest is right
  pub nearly-passes : IsTotalOrder cmp → parent_of v ≡ parent → IsNearlySized exempt.root exempt.id id v → AscendsFrom cmp min (items_of v) → EndsBelow cmp max (keys_of (items_of v)) → PassesNode cmp (Some exempt) id parent min max v
  nearly-passes laws up sized from below =
      let o = from-order cmp laws min (items_of v) from in
      record {
        parent_is = up;
        sized = sized;
        ascends = ascends cmp (items_of v) o.1;
        between = record { above = o.0; below = ends-all cmp laws max (items_of v) o.1 below };
      }

  module _ (p : PassesNode cmp (Some exempt) id parent min max v) where
    pub nearly-from : AscendsFrom cmp min (items_of v)
    nearly-from = to-order cmp min (items_of v) p.between.above (rises cmp (items_of v) p.ascends)

    pub nearly-below : EndsBelow cmp max (keys_of (items_of v))
    nearly-below = key-ends cmp max (items_of v) p.between.below
