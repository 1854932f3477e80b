-- Steps of the machine of an editing cursor, by the contracts of the cursor.
use Rattle.btree_session.proofs.Common.{◌≡◌, ℕ, ◌+◌, List, [], ◌∷◌, Some, None, length, drop, refl, sym, ap, arith, nat_cmp, Cause, pairs_of, Nothing, Pair, Refused}
use Rattle.std.proofs.Common.{slice_get}
use Rattle.std.proofs.lemmas.List.{length-drop, length-take}
use Rattle.std.proofs.lemmas.Option.{same_Some}
use Rattle.std.specs.declared.cmp.Ord as ord
use Rattle.std.specs.declared.cmp.PartialEq as eq
use Rattle.std.specs.declared.cmp.PartialOrd as partial
use Rattle.btree_item.specs.declared.refused.Cause.TheVariants.{Store, Count}
use Rattle.btree_node.specs.declared.node_stores.Nodes as nodes
use Rattle.btree_node.specs.declared.node_stores.NodesMut as nodes_mut
use Rattle.btree_raw.specs.Insertion.{IsRefused}
use Rattle.btree_find.specs.CallerLaws.{none-first}
use Rattle.btree_map.specs.Cursor.{or_nowhere}
use Rattle.btree_map.specs.Editing.{FitsBetween, InsertsEntry, RefusesEntry, RemovesEntry, WritesPassed, entry_front, left_of, passed_of, past_first}
use Rattle.btree_map.specs.declared.cursor.editing.EntriesMut.{EntriesMut}
use Rattle.btree_session.specs.declared.command.Reply.TheVariants.{Done}
use Rattle.btree_session.specs.declared.cursor.CursorStep.TheVariants.{Peek, Next, Insert, Remove}
use Rattle.btree_session.specs.CursorMachine.{IsCursorStep, IsRefusable, after_refusal, spot_of, state_at}

module _ {X : Type 0} where
  first-rest : (xs : List X) (x : X) → Some x ≡ slice_get xs 0 → xs ≡ x ∷ drop 1 xs
  first-rest [] x e = absurd (cc)
  first-rest (y ∷ ys) x e = ap (λ z. z ∷ ys) (sym (same_Some x y e))

-- the cursor's keys are numbers, in their order
abbrev by_number : ord.Ghosts ℕ
by_number = record { cmp = nat_cmp }

module _ {C O : Type 0} {g' : eq.Ghosts ℕ} {g'' : partial.Ghosts ℕ} {s : nodes_mut.Ghosts C ℕ ℕ O} {s' : nodes.Ghosts C ℕ ℕ} where
  module _ (c : EntriesMut ℕ ℕ C O by_number g' g'' s s') where
    -- ---- nothing is left
    module _ (none : left_of c ≡ []) where
      pub peeks-none : IsCursorStep s.MayRefuse (spot_of c) Peek Nothing (spot_of c)
      peeks-none = record { move = (none, refl); nodes = refl }

      pub removes-none : IsCursorStep s.MayRefuse (spot_of c) Remove Nothing (spot_of c)
      removes-none = record { move = (none, refl); nodes = refl }

    -- ---- the first pair that is left
    pub peeks-first : (x : ℕ × ℕ) → Some x ≡ slice_get (left_of c) 0 → IsCursorStep s.MayRefuse (spot_of c) Peek (Pair x.0 x.1) (spot_of c)
    peeks-first x here = record { move = (drop 1 (left_of c), first-rest (left_of c) x here, refl); nodes = refl }

    pub peeks-past : None ≡ slice_get (left_of c) 0 → IsCursorStep s.MayRefuse (spot_of c) Peek Nothing (spot_of c)
    peeks-past past = peeks-none (none-first (left_of c) past)

    pub passes-first : (k v : ℕ) → WritesPassed c k v v → IsCursorStep s.MayRefuse (spot_of c) Next (Pair k v) (spot_of (past_first c v))
    passes-first k v w = record {
      move = (
        left_of (past_first c v),
        w.left,
        λ i. record { passed = w.passed i; left = left_of (past_first c v); kept = w.writes.exchanged.exchanged.uncounted i },
      );
      nodes = (or_nowhere c.first, w.writes);
    }

  module _ (old new : EntriesMut ℕ ℕ C O by_number g' g'' s s') where
    pub removes-first : (x : ℕ × ℕ) → RemovesEntry old new x → IsCursorStep s.MayRefuse (spot_of old) Remove (Pair x.0 x.1) (spot_of new)
    removes-first x r = record {
      move = (left_of new, r.left, λ i. record { passed = r.passed i; left = left_of new; kept = r.removed.uncounted i });
      nodes = (r.at, r.after, r.removed);
    }

    module _ (k v : ℕ) (fits : FitsBetween nat_cmp k (passed_of old) (left_of old)) where
      pub inserts-pair : InsertsEntry old new (k, v) → IsCursorStep s.MayRefuse (spot_of old) (Insert k v) Done (spot_of new)
      inserts-pair i = record {
        move = (fits, λ j. record { passed = i.passed j; left = i.left j; kept = i.inserts.inserted.uncounted j });
        nodes = (i.gap, i.at, i.inserts);
      }

      refused-state : (cause : Cause) (leaf : ℕ) → RefusesEntry old new cause → IsRefused s.MayRefuse leaf old.map.now new.map.now cause
          → IsRefusable (state_at (spot_of old)) cause × (state_at (spot_of new) ≡ after_refusal (state_at (spot_of old)) cause)
      refused-state Store leaf r is = (tt, λ i. record { passed = r.passed i; left = r.left i; kept = (ap (λ t. t.kept) is.0) i })
      refused-state Count leaf r is =
          let all = r.tree.counted in
          let within = r.within in
          let same = ap (λ t. t.len) is.0 in
          let limit = ap (λ t. t.kept.limit) is.0 in
          let pairs = ap (λ t. length (pairs_of t)) is.0 in
          let long : length (passed_of old) + length (left_of old) ≡ length (pairs_of old.map.now) =
          omega (arith, length-take (entry_front old) (pairs_of old.map.now), length-drop (entry_front old) (pairs_of old.map.now)) in
          (omega (arith, is.1), λ i. record { passed = r.passed i; left = r.left i; kept = (ap (λ t. t.kept) is.0) i })

      pub refuses-pair : (cause : Cause) → RefusesEntry old new cause → IsCursorStep s.MayRefuse (spot_of old) (Insert k v) (Refused cause) (spot_of new)
      refuses-pair cause r =
          let state = refused-state cause r.refused.leaf.id r r.refused.refused in
          record { move = (fits, state.0, state.1); nodes = (r.gap, r.has, r.refused) }
