-- An editing cursor after an insertion: it has the same map, whose list is what was passed and what is left.
use Rattle.std.proofs.Common.{◌≡◌, ◌∙◌, [], ◌∷◌, ◌++◌, IfErr, OnErr, OnOk, Result, Ok, Err, sym}
use Rattle.std.proofs.lemmas.List.{append_assoc}
use Rattle.std.specs.declared.cmp.Ord as ord
use Rattle.std.specs.declared.cmp.PartialEq as eq
use Rattle.std.specs.declared.cmp.PartialOrd as partial
use Rattle.btree_item.specs.declared.refused.Cause.{Cause}
use Rattle.btree_node.specs.declared.node_stores.Nodes as nodes
use Rattle.btree_node.specs.declared.node_stores.NodesMut as nodes_mut
use Rattle.btree_laws.specs.TreeState.{pairs_of}
use Rattle.btree_map.specs.Editing.{InsertsEntry, RefusesEntry, entry_front, left_of, passed_of}
use Rattle.btree_map.specs.declared.cursor.editing.EntriesMut.{EntriesMut}
use Rattle.btree_fixed.proofs.CursorLaws.{whole}

module _ {K V C O : Type 0} {g : ord.Ghosts K} {g' : eq.Ghosts K} {g'' : partial.Ghosts K} {s : nodes_mut.Ghosts C K V O} {s' : nodes.Ghosts C K V}
    (old new : EntriesMut K V C O g g' g'' s s') where
  pub same-map : {X E : Type 0} (cause_of : E → Cause) (x : K × V) (result : Result X E) → OnOk result (InsertsEntry old new x)
      → IfErr result (λ e. RefusesEntry old new (cause_of e)) → new.map.ghost_name ≡ old.map.ghost_name
  same-map cause_of x (Ok y) inserted refused = inserted.same_map
  same-map cause_of x (Err e) inserted refused = refused.same_map

  list-of : pairs_of new.map.now ≡ passed_of new ++ left_of new
  list-of = sym (whole (entry_front new) (pairs_of new.map.now))

  -- a pair put between what was passed and what is left
  pub cursor-inserted : (x : K × V) → InsertsEntry old new x → pairs_of new.map.now ≡ passed_of old ++ (x ∷ left_of old)
  cursor-inserted x i = list-of ∙ (λ j. i.passed j ++ i.left j) ∙ append_assoc (passed_of old) (x ∷ []) (left_of old)

  pub none-inserted : {X E : Type 0} (cause_of : E → Cause) (result : Result X E) → IfErr result (λ e. RefusesEntry old new (cause_of e))
      → OnErr result (pairs_of new.map.now ≡ pairs_of old.map.now)
  none-inserted cause_of (Ok y) refused = tt
  none-inserted cause_of (Err e) refused = list-of ∙ (λ j. refused.passed j ++ refused.left j) ∙ whole (entry_front old) (pairs_of old.map.now)
