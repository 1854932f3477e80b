-- What the calls by key return and leave, granted or refused: `insert`, `replace`, `update` and `update_in` of this crate,
-- and those of `btree_ext` over them. The map has the fields as clauses of their own.
use Rattle.std.specs.Prelude.{◌≡◌, Option, None, Result, IfErr, IfOk, OnErr, OnOk}
use Rattle.std.specs.declared.cmp.Ordering.{Ordering}
use Rattle.btree_store.specs.Content.{Content}
use Rattle.btree_item.specs.Pairs.{found, found_value, inserted}
use Rattle.btree_item.specs.declared.refused.Refused.{Refused}
use Rattle.btree_item.specs.declared.refused.UpdateRefused.{UpdateRefused}
use Rattle.btree_node.specs.declared.node.Node.{Node}
use Rattle.btree_laws.specs.TreeState.{TreeState, pairs_of}
use Rattle.btree_ext.specs.Insert.{InsertsByKey, IsGrantedIfAbsent, IsRefusedAtGap}
use Rattle.btree_ext.specs.Replace.{ReplacesByKey, replaced}
use Rattle.btree_ext.specs.Update.{RunsByKey}

module _ {K V : Type 0} (cmp : K → K → Ordering) (k : K) (old new : TreeState K V) (MayRefuse : Content (Node K V) → Type 0) where
  -- an insertion returned the old value, and the list has the new one at the key; a refused one returned the pair
  pub record InsertOutcome (value : V) (result : Result (Option V) (Refused K V)) : Type 0 where
    pub was : IfOk result (λ was. was ≡ found_value cmp k (pairs_of old))
    pub inserted : OnOk result (pairs_of new ≡ inserted cmp k value (pairs_of old))
    pub by_key : OnOk result (InsertsByKey cmp k old new value)
    pub uncounted : OnOk result (new.kept ≡ old.kept)
    pub returned : IfErr result (λ r. (r.key ≡ k) × (r.value ≡ value))
    pub absent : OnErr result (found cmp k (pairs_of old) ≡ None)
    pub cause : IfErr result (λ r. IsRefusedAtGap cmp k old new MayRefuse r.cause)

  -- a replacement returned the old pair, and the list has the new one in its place
  pub record ReplaceOutcome (value : V) (result : Result (Option (K × V)) (Refused K V)) : Type 0 where
    pub was : IfOk result (λ was. was ≡ found cmp k (pairs_of old))
    pub replaced : OnOk result (pairs_of new ≡ replaced cmp k value (pairs_of old))
    pub by_key : OnOk result (ReplacesByKey cmp k old new value)
    pub uncounted : OnOk result (new.kept ≡ old.kept)
    pub returned : IfErr result (λ r. (r.key ≡ k) × (r.value ≡ value))
    pub absent : OnErr result (found cmp k (pairs_of old) ≡ None)
    pub cause : IfErr result (λ r. IsRefusedAtGap cmp k old new MayRefuse r.cause)

  -- an update returned the answer of its action, and the list has what it gave; a refused one returned the action
  pub record UpdateOutcome {T F : Type 0} (CanHold : Content (Node K V) → Type 0) (post : Option V → Option V × T → Type 0) (action : F)
      (result : Result T (UpdateRefused K F)) : Type 0 where
    pub updated : IfOk result (λ t. RunsByKey cmp old new post k t)
    pub uncounted : OnOk result (new.kept ≡ old.kept)
    pub granted : OnOk result (IsGrantedIfAbsent cmp k old CanHold)
    pub returned : IfErr result (λ r. (r.key ≡ k) × (r.action ≡ action))
    pub absent : OnErr result (found cmp k (pairs_of old) ≡ None)
    pub cause : IfErr result (λ r. IsRefusedAtGap cmp k old new MayRefuse r.cause)
