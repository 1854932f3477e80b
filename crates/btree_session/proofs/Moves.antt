-- Steps of a session that find an address and hold it, or go from the held one to the next or the previous item.
use Rattle.btree_session.proofs.Common.{◌≡◌, ◌≤◌, ◌∙◌, ℕ, zero, suc, List, length, Option, Some, None, refl, sym, ap, subst, arith, option_map, nat_cmp_total, nat_cmp, found, Address, Content, Node, TreeState, IsBTree, pairs_of, HasPlace, has-place, Command, Reply, Nothing, Pair, Held, HoldsBack, IsHeldPlace, IsStep}
use Rattle.std.proofs.Common.{slice_get}
use Rattle.std.proofs.lemmas.Option.{slice_get_past}
use Rattle.btree_item.specs.Pairs.{before}
use Rattle.btree_item.proofs.PairLemmas.{before-from_Ok, before-from_Err, found-from_Err}
use Rattle.btree_laws.specs.TreeState.{IsPlaceIn, item_of, node_map}
use Rattle.btree_find.specs.Answers.{IsFoundAt, IsGapAt}
use Rattle.btree_find.specs.Navigation.{IsItemAddress, IsItemAt, IsItemBefore, IsNext, IsNormalized, IsPrevious}
use Rattle.btree_find.proofs.FitsLemmas.{place-low}
use Rattle.btree_session.specs.declared.command.Command.TheVariants.{Seek, Next, Prev}
use Rattle.btree_session.specs.declared.command.Reply.TheVariants.{Found, Gap, NoPlace}
use Rattle.btree_session.proofs.Steps.{a_step, held_place}

module _ (may_refuse : Content (Node ℕ ℕ) → Type 0) (map : TreeState ℕ ℕ) (tree : IsBTree nat_cmp map) where
  -- the session over this map that holds this address
  abbrev pub holding_at : Option Address → Held ℕ ℕ
  holding_at held = record { map = map; held = held }

  abbrev pairs : List (ℕ × ℕ)
  pairs = pairs_of map

  module _ (held : Option Address) (a : Address) (is : held ≡ Some a) (command : Command) (reply : Reply) where
    -- from the address that is held
    pub from_held : (now : Held ℕ ℕ) → IsStep may_refuse (holding_at (Some a)) command reply now → IsStep may_refuse (holding_at held) command reply now
    from_held now step = subst (λ h. IsStep may_refuse (holding_at h) command reply now) (sym is) step

    -- the same, and it stays held
    pub at_held : IsStep may_refuse (holding_at (Some a)) command reply (holding_at (Some a)) → IsStep may_refuse (holding_at held) command reply (holding_at held)
    at_held step = subst (λ h. IsStep may_refuse (holding_at h) command reply (holding_at h)) (sym is) step

  -- ---- `seek`
  module _ (held : Option Address) (holds : HoldsBack map held) (key : ℕ) (a : Address) where
    p : (place : Option ℕ) × IsHeldPlace map held place
    p = held_place map held tree holds

    at_before : (place : ℕ) → IsPlaceIn map a place → before nat_cmp key pairs ≡ place → IsHeldPlace map (Some a) (Some (before nat_cmp key pairs))
    at_before place at is = (before nat_cmp key pairs, refl, has-place nat_cmp nat_cmp_total map tree a (before nat_cmp key pairs) (subst (λ n. IsPlaceIn map a n) (sym is) at))

    pub seek-found : IsFoundAt nat_cmp key map a → (x : ℕ × ℕ) → Some x ≡ item_of map a → IsStep may_refuse (holding_at held) (Seek key) (Found x.1) (holding_at (Some a))
    seek-found there x item =
        let finds = sym there.item ∙ sym item in
        a_step may_refuse (holding_at held) (holding_at (Some a)) (Seek key) (Found x.1) p.0 (Some (before nat_cmp key pairs)) p.1
        (at_before there.replaces.place there.here.has.at (before-from_Ok nat_cmp key pairs there.replaces.place there.is))
        (ap (option_map (λ x. x.1)) finds, refl) (a, there, refl, refl) tree

    pub seek-gap : IsGapAt nat_cmp key map a → IsStep may_refuse (holding_at held) (Seek key) Gap (holding_at (Some a))
    seek-gap there =
        a_step may_refuse (holding_at held) (holding_at (Some a)) (Seek key) Gap p.0 (Some (before nat_cmp key pairs)) p.1
        (at_before there.fits.place there.fits.has.at (before-from_Err nat_cmp key pairs there.fits.place there.is))
        (found-from_Err nat_cmp key pairs there.fits.place there.is, refl) (a, there, refl, refl) tree

  -- an item is at the address
  module _ (place : ℕ) (a : Address) (there : IsItemAddress map place a) where
    held_item : IsHeldPlace map (Some a) (Some place)
    held_item = (place, refl, there.has)

    listed : (x : ℕ × ℕ) → Some x ≡ item_of map a → slice_get pairs place ≡ Some x
    listed x item = sym there.item ∙ sym item

  past : (place : ℕ) → length pairs ≤ place → slice_get pairs place ≡ None
  past place low = slice_get_past pairs place low

  -- ---- `next`
  module _ (held : Address) where
    pub next-past : IsNormalized map held None → IsStep may_refuse (holding_at (Some held)) Next Nothing (holding_at (Some held))
    next-past is =
        let p : IsHeldPlace map (Some held) (Some is.place) = (is.place, refl, is.has) in
        a_step may_refuse (holding_at (Some held)) (holding_at (Some held)) Next Nothing (Some is.place) (Some is.place) p p
        (is.place, refl, past (suc is.place) (let l = is.item.past refl in omega (arith, l)), refl) refl tree

    module _ (at : Address) (is : IsNormalized map held (Some at)) where
      at_place : IsHeldPlace map (Some held) (Some is.place)
      at_place = (is.place, refl, is.has)

      after : (found : Option Address) → IsNext map at found → IsItemAt map (suc is.place) found
      after found next =
          let same : next.place ≡ is.place = is.item.here.has.only next.place next.has.at in
          subst (λ n. IsItemAt map (suc n) found) same (next.after is.item.here.occupied)

      pub next-none : IsNext map at None → IsStep may_refuse (holding_at (Some held)) Next Nothing (holding_at (Some held))
      next-none next =
          a_step may_refuse (holding_at (Some held)) (holding_at (Some held)) Next Nothing (Some is.place) (Some is.place) at_place at_place
          (is.place, refl, past (suc is.place) ((after None next).past refl), refl) refl tree

      pub next-some : (b : Address) (x : ℕ × ℕ) → IsNext map at (Some b) → Some x ≡ item_of map b
          → IsStep may_refuse (holding_at (Some held)) Next (Pair x.0 x.1) (holding_at (Some b))
      next-some b x next item =
          let there = (after (Some b) next).here in
          a_step may_refuse (holding_at (Some held)) (holding_at (Some b)) Next (Pair x.0 x.1) (Some is.place) (Some (suc is.place)) at_place
          (held_item (suc is.place) b there) (is.place, refl, (listed (suc is.place) b there x item, refl)) (b, refl, there.occupied, refl) tree

  -- ---- `prev`
  module _ (held : Address) where
    prev-none-by : (place : ℕ) → HasPlace map held place → IsItemBefore map place None → place ≡ 0
    prev-none-by zero has is = refl
    prev-none-by (suc q) has is =
        let low = place-low (node_map map) pairs map.root held.id held.offset (suc q) has.at in
        let past = is.past refl in
        absurd (omega arith)

    pub prev-none : IsPrevious map held None → IsStep may_refuse (holding_at (Some held)) Prev Nothing (holding_at (Some held))
    prev-none is =
        let p : IsHeldPlace map (Some held) (Some is.place) = (is.place, refl, is.has) in
        a_step may_refuse (holding_at (Some held)) (holding_at (Some held)) Prev Nothing (Some is.place) (Some is.place) p p
        (ap (λ n. Some n) (prev-none-by is.place is.has is.item), refl) refl tree

    prev-some-by : (place : ℕ) (b : Address) → IsItemBefore map place (Some b) → (q : ℕ) × (place ≡ suc q) × IsItemAddress map q b
    prev-some-by zero b is = absurd (cc)
    prev-some-by (suc q) b is = (q, refl, is.here)

    pub prev-some : (b : Address) (x : ℕ × ℕ) → IsPrevious map held (Some b) → Some x ≡ item_of map b
        → IsStep may_refuse (holding_at (Some held)) Prev (Pair x.0 x.1) (holding_at (Some b))
    prev-some b x is item =
        let there = prev-some-by is.place b is.item in
        a_step may_refuse (holding_at (Some held)) (holding_at (Some b)) Prev (Pair x.0 x.1) (Some is.place) (Some there.0) (is.place, refl, is.has)
        (held_item there.0 b there.2) (there.0, ap (λ n. Some n) there.1, (listed there.0 b there.2 x item, refl)) (b, refl, there.2.occupied, refl) tree

  -- ---- no place is held
  module _ (held : Option Address) (none : held ≡ None) where
    pub next-nowhere : IsStep may_refuse (holding_at held) Next NoPlace (holding_at held)
    next-nowhere = rw none (a_step may_refuse (holding_at None) (holding_at None) Next NoPlace None None refl refl (refl, refl) refl tree)

    pub prev-nowhere : IsStep may_refuse (holding_at held) Prev NoPlace (holding_at held)
    prev-nowhere = rw none (a_step may_refuse (holding_at None) (holding_at None) Prev NoPlace None None refl refl (refl, refl) refl tree)
