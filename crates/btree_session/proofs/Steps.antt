-- Steps of a session, by the contracts of its map.
use Rattle.btree_session.proofs.Common.{◌≡◌, ℕ, List, Option, Some, None, refl, sym, ap, ◌∙◌, option_map, subst, arith, nat_cmp_total, nat_cmp, found, Address, Cause, Content, Node, TreeState, IsBTree, pairs_of, HasPlace, has-place, Command, Reply, Nothing, Refused, Held, HoldsBack, IsHeldPlace, IsStep}
use Rattle.std.specs.List.{insert}
use Rattle.btree_item.specs.Pairs.{before, found_value, inserted, with_value}
use Rattle.btree_item.specs.declared.refused.Cause.TheVariants.{Store, Count}
use Rattle.btree_laws.specs.TreeState.{Kept, refused_once}
use Rattle.btree_find.proofs.PlaceLemmas.{place-there}
use Rattle.btree_raw.specs.Insertion.{IsRefused}
use Rattle.btree_raw.specs.Limit.{IsWithinLimit}
use Rattle.btree_ext.specs.Insert.{IsRefusedAtGap, InsertsByKey}
use Rattle.btree_session.specs.declared.command.Command.TheVariants.{Insert, Get}
use Rattle.btree_session.specs.declared.command.Reply.TheVariants.{Value}
use Rattle.btree_session.specs.Machine.{SessionState, after_refusal, let_go, IsRefusable, MachineStep, value_reply, Handles}

-- the state of a session whose address has this place
abbrev pub state_at : Held ℕ ℕ → Option ℕ → SessionState
state_at s place = record { pairs = pairs_of s.map; place = place; kept = s.map.kept }

-- the address that is held in a well formed tree has a place
pub held_place : (map : TreeState ℕ ℕ) (held : Option Address) → IsBTree nat_cmp map → HoldsBack map held → (place : Option ℕ) × IsHeldPlace map held place
held_place map None tree holds = (None, refl)
held_place map (Some a) tree holds =
    let there = place-there nat_cmp nat_cmp_total map tree a holds.valid in
    (Some there.0, (there.0, refl, has-place nat_cmp nat_cmp_total map tree a there.0 there.1))

pub here : (s : Held ℕ ℕ) → IsBTree nat_cmp s.map → HoldsBack s.map s.held → (place : Option ℕ) × IsHeldPlace s.map s.held place
here s tree holds = held_place s.map s.held tree holds

-- ---- the held address where only what is kept changes
has_place-kept : (map : TreeState ℕ ℕ) (kept : Kept) (a : Address) (place : ℕ) → HasPlace map a place → HasPlace (record map { kept = kept }) a place
has_place-kept map kept a place has = record { at = has.at; only = has.only }

held_place-kept : (map : TreeState ℕ ℕ) (kept : Kept) (held : Option Address) (place : Option ℕ) → IsHeldPlace map held place → IsHeldPlace (record map { kept = kept }) held place
held_place-kept map kept None place is = is
held_place-kept map kept (Some a) place is = (is.0, is.1, has_place-kept map kept a is.0 is.2)

module _ (may_refuse : Content (Node ℕ ℕ) → Type 0) (leaf : ℕ) (old new : TreeState ℕ ℕ) (held : Option Address) where
  -- after a refusal the address that is held has its place still
  pub held_place-refused : (cause : Cause) (place : Option ℕ) → IsRefused may_refuse leaf old new cause → IsHeldPlace old held place → IsHeldPlace new held place
  held_place-refused Store place refused is = subst (λ m. IsHeldPlace m held place) (sym refused.0) (held_place-kept old (refused_once old.kept) held place is)
  held_place-refused Count place refused is = subst (λ m. IsHeldPlace m held place) (sym refused.0) is

  pub state-refused : (cause : Cause) (place : Option ℕ) → IsRefused may_refuse leaf old new cause
      → state_at (record { map = new; held = held }) place ≡ after_refusal (state_at (record { map = old; held = held }) place) cause
  state-refused Store place refused = ap (λ m. state_at (record { map = m; held = held }) place) refused.0
  state-refused Count place refused = ap (λ m. state_at (record { map = m; held = held }) place) refused.0

  pub refusable : (cause : Cause) (place : Option ℕ) → IsBTree nat_cmp old → IsWithinLimit old → IsRefused may_refuse leaf old new cause
      → IsRefusable (state_at (record { map = old; held = held }) place) cause
  refusable Store place tree within refused = tt
  refusable Count place tree within refused = omega (arith, tree.counted, within, refused.1)

module _ (may_refuse : Content (Node ℕ ℕ) → Type 0) (old new : Held ℕ ℕ) where
  -- a step between states whose addresses have these places
  pub a_step : (command : Command) (reply : Reply) (p q : Option ℕ) → IsHeldPlace old.map old.held p → IsHeldPlace new.map new.held q
      → MachineStep (state_at old p) command reply (state_at new q) → Handles may_refuse old command reply new → IsBTree nat_cmp new.map
      → IsStep may_refuse old command reply new
  a_step command reply p q at there step nodes tree = record {
    before = state_at old p;
    after = state_at new q;
    stands_before = record { pairs = refl; place = at; kept = refl };
    stands_after = record { pairs = refl; place = there; kept = refl };
    step = step;
    nodes = nodes;
    tree = tree;
  }

  module _ (was_tree : IsBTree nat_cmp old.map) (holds : HoldsBack old.map old.held) (tree : IsBTree nat_cmp new.map) where
    -- a pair is inserted, or its value replaced
    module _ (key value : ℕ) (pairs : pairs_of new.map ≡ inserted nat_cmp key value (pairs_of old.map)) (nodes : InsertsByKey nat_cmp key old.map new.map value)
        (uncounted : new.map.kept ≡ old.map.kept) (none : new.held ≡ None) where
      let_go-there : (list : List (ℕ × ℕ)) → pairs_of new.map ≡ list → state_at new None ≡ let_go (state_at old (here old was_tree holds).0) list
      let_go-there list is = rw (is, uncounted) refl

      inserted-by : (was : Option (ℕ × ℕ)) → found nat_cmp key (pairs_of old.map) ≡ was
          → IsStep may_refuse old (Insert key value) (value_reply (option_map (λ x. x.1) was)) new
      inserted-by None absent =
          a_step (Insert key value) Nothing (here old was_tree holds).0 None (here old was_tree holds).1 (rw none refl)
          (absent, let_go-there (insert (pairs_of old.map) (before nat_cmp key (pairs_of old.map)) (key, value)) (pairs ∙ rw absent refl)) nodes tree
      inserted-by (Some x) present =
          a_step (Insert key value) (Value x.1) (here old was_tree holds).0 None (here old was_tree holds).1 (rw none refl)
          (ap (option_map (λ x. x.1)) present, let_go-there (with_value nat_cmp key value (pairs_of old.map)) (pairs ∙ rw present refl)) nodes tree

      pub insert-done : (was : Option ℕ) → was ≡ found_value nat_cmp key (pairs_of old.map) → IsStep may_refuse old (Insert key value) (value_reply was) new
      insert-done was is =
          subst (λ o. IsStep may_refuse old (Insert key value) (value_reply o) new) (sym is) (inserted-by (found nat_cmp key (pairs_of old.map)) refl)

    -- an insertion is refused
    module _ (within : IsWithinLimit old.map) (key value : ℕ) (kept : new.held ≡ old.held) where
      pub insert-refused : (cause : Cause) → found nat_cmp key (pairs_of old.map) ≡ None → IsRefusedAtGap nat_cmp key old.map new.map may_refuse cause
          → IsStep may_refuse old (Insert key value) (Refused cause) new
      insert-refused cause absent refused =
          let p = (here old was_tree holds).0 in
          a_step (Insert key value) (Refused cause) p p (here old was_tree holds).1
          (rw kept (held_place-refused may_refuse refused.gap.id old.map new.map old.held cause p refused.refused (here old was_tree holds).1)) (
            absent,
            refusable may_refuse refused.gap.id old.map new.map old.held cause p was_tree within refused.refused,
            state-refused may_refuse refused.gap.id old.map new.map old.held cause p refused.refused,
          ) (refused, kept) tree

-- a look-up
module _ (may_refuse : Content (Node ℕ ℕ) → Type 0) (s : Held ℕ ℕ) (tree : IsBTree nat_cmp s.map) (holds : HoldsBack s.map s.held) (key : ℕ) where
  get-by : (value : Option (ℕ × ℕ)) → found nat_cmp key (pairs_of s.map) ≡ value → IsStep may_refuse s (Get key) (value_reply (option_map (λ x. x.1) value)) s
  get-by None absent = a_step may_refuse s s (Get key) Nothing (here s tree holds).0 (here s tree holds).0 (here s tree holds).1 (here s tree holds).1 (absent, refl) refl tree
  get-by (Some x) present =
      a_step may_refuse s s (Get key) (Value x.1) (here s tree holds).0 (here s tree holds).0 (here s tree holds).1 (here s tree holds).1 (ap (option_map (λ x. x.1)) present, refl) refl tree

  pub get-done : (value : Option ℕ) → value ≡ found_value nat_cmp key (pairs_of s.map) → IsStep may_refuse s (Get key) (value_reply value) s
  get-done value is =
      subst (λ o. IsStep may_refuse s (Get key) (value_reply o) s) (sym is) (get-by (found nat_cmp key (pairs_of s.map)) refl)
