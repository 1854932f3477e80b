-- The laws of the exact refusal for sets, for callers of the set itself. The premises are clauses of `insert` or `replace`,
-- and of `node_count`: `in_tree` of the set before, and a bound on the nodes that are held afterwards, which is `can_hold`.
-- `insert_element-exact`, `replace_element-exact`: an element that is not there is refused exactly if its nodes do not fit.
-- `taken-element`: an insertion that leaves few elements is taken.
use Rattle.std.proofs.Common.{◌≡◌, ◌<◌, ◌≤◌, ◌∙◌, ℕ, length, Option, Some, None, Result, Ok, Err, IfErr, OnOk, option_map, refl, sym, ap, arith}
use Rattle.std.proofs.lemmas.Map.Entries.{length-keys_of}
use Rattle.std.specs.FinMap as map
use Rattle.std.specs.declared.cmp.Ordering.{Ordering}
use Rattle.btree_item.specs.Pairs.{found}
use Rattle.btree_item.specs.declared.refused.Cause.{Cause}
use Rattle.btree_laws.specs.TreeState.{pairs_of}
use Rattle.btree_raw.specs.Limit.{IsBelowLimit}
use Rattle.btree_ext.specs.Insert.{InsertsByKey}
use Rattle.btree_ext.specs.Replace.{ReplacesByKey}
use Rattle.btree_set.specs.Elements.{IsInTree, IsRefused, SetState, stored}
use Rattle.btree_set.proofs.KeyLemmas.{stored-keys}
use Rattle.btree_fixed.specs.Capacity.{HoldsAll, RefusesElementExactly, TakesFewElements}
use Rattle.btree_fixed.proofs.CapacityLaws.{RefusedByKey, insert-exact, replace-exact, taken}

none-by : {A B : Type 0} (f : A → B) (o : Option A) → option_map f o ≡ None → o ≡ None
none-by f None is = refl
none-by f (Some x) is = absurd (cc)

module _ {T : Type 0} (cmp : T → T → Ordering) (s : SetState T) (there : IsInTree cmp s) where
  -- an element that is not there is no key of the tree
  absent-key : (x : T) → stored cmp x s.elements ≡ None → found cmp x (pairs_of s.tree) ≡ None
  absent-key x none =
      none-by (λ p. p.0) (found cmp x (pairs_of s.tree))
      (sym (stored-keys cmp x (pairs_of s.tree)) ∙ sym (ap (λ (t : SetState T). stored cmp x t.elements) there.same) ∙ none)

  -- there are as many pairs in the tree as elements, with the same limit
  same-length : length s.elements ≡ length (pairs_of s.tree)
  same-length = ap (λ (t : SetState T). length t.elements) there.same ∙ length-keys_of (pairs_of s.tree)

  same-limit : s.kept.limit ≡ s.tree.kept.limit
  same-limit = ap (λ (t : SetState T). t.kept.limit) there.same

  tree-below : length s.elements < s.kept.limit → IsBelowLimit s.tree
  tree-below below =
      let counted = there.tree.counted in
      let same = same-length in
      let limit = same-limit in
      omega arith

module _ {T X E : Type 0} (cmp : T → T → Ordering) (x : T) (old new : SetState T) (capacity : ℕ) (cause_of : E → Cause) where
  -- the refusal of an element, by the cause in the error
  abbrev pub RefusedElement : Result X E → Type 0
  RefusedElement result = IfErr result (λ e. IsRefused cmp (HoldsAll capacity) x old new (cause_of e))

  -- it is that of a key of the tree
  refused-key : (result : Result X E) → RefusedElement result → RefusedByKey cmp x old.tree new.tree capacity cause_of result
  refused-key (Ok y) refused = tt
  refused-key (Err e) refused = refused.at_gap

  module _ (there : IsInTree cmp old) (result : Result X E) (refused : RefusedElement result) where
    -- `insert`
    pub insert_element-exact : OnOk result (InsertsByKey cmp x old.tree new.tree tt) → map.len new.tree.nodes ≤ capacity
        → RefusesElementExactly cmp x old capacity result
    insert_element-exact inserted held = λ absent below.
        insert-exact cmp x old.tree new.tree capacity cause_of result (refused-key result refused) tt inserted held
        (absent-key cmp old there x absent) (tree-below cmp old there below)

    -- `replace`
    pub replace_element-exact : OnOk result (ReplacesByKey cmp x old.tree new.tree tt) → map.len new.tree.nodes ≤ capacity
        → RefusesElementExactly cmp x old capacity result
    replace_element-exact replaced held = λ absent below.
        replace-exact cmp x old.tree new.tree capacity cause_of result (refused-key result refused) tt replaced held
        (absent-key cmp old there x absent) (tree-below cmp old there below)

    -- an insertion that leaves few elements is taken
    pub taken-element : IsInTree cmp new → TakesFewElements old capacity result
    taken-element after = λ few below.
        let same = same-length cmp old there in
        let limit = same-limit cmp old there in
        taken cmp x old.tree new.tree capacity cause_of after.tree result (refused-key result refused) (omega arith) (omega arith)
