-- Steps of a session that remove pairs, or edit the map at the address that is held.
use Rattle.btree_session.proofs.Common.{◌≡◌, ℕ, [], Option, Some, None, refl, sym, ap, subst, option_map, nat_cmp_total, nat_cmp, found, Address, Cause, Content, Node, TreeState, IsBTree, pairs_of, HasPlace, has-place, Nothing, Pair, Refused, Held, HoldsBack, IsHeldPlace, IsStep}
use Rattle.std.proofs.Common.{IfSome, IfNone}
use Rattle.std.proofs.lemmas.Option.{slice_get_past}
use Rattle.std.specs.FinMap as finite
use Rattle.btree_item.specs.Pairs.{KeyFits, found_value}
use Rattle.btree_laws.specs.TreeState.{IsValidIn, rootless}
use Rattle.btree_find.specs.Fits.{FitsAt}
use Rattle.btree_find.specs.Navigation.{IsNormalized}
use Rattle.btree_find.proofs.PlaceLemmas.{place-there}
use Rattle.btree_raw.specs.Limit.{IsWithinLimit}
use Rattle.btree_ext.specs.InsertAt.{InsertsAt, IsRefusedAt}
use Rattle.btree_ext.specs.Remove.{IsRemoved, RemovesByKey}
use Rattle.btree_session.specs.declared.command.Command.TheVariants.{Remove, Clear, Put, Take}
use Rattle.btree_session.specs.declared.command.Reply.TheVariants.{Value, Done, NoPlace, Unfit}
use Rattle.btree_session.specs.Machine.{value_reply}
use Rattle.btree_session.proofs.Steps.{a_step, held_place, held_place-refused, refusable, state-refused, state_at}

module _ (may_refuse : Content (Node ℕ ℕ) → Type 0) (old new : TreeState ℕ ℕ) (tree : IsBTree nat_cmp old) where
  -- a session over one of the maps
  abbrev before_with : Option Address → Held ℕ ℕ
  before_with held = record { map = old; held = held }

  abbrev after_with : Option Address → Held ℕ ℕ
  after_with held = record { map = new; held = held }

  -- ---- removal by key, and of all
  module _ (held : Option Address) (holds : HoldsBack old held) (new_tree : IsBTree nat_cmp new) where
    was : (place : Option ℕ) × IsHeldPlace old held place
    was = held_place old held tree holds

    pub remove-value : (key value : ℕ) → Some value ≡ found_value nat_cmp key (pairs_of old) → (stored : ℕ) → RemovesByKey old new nat_cmp key (stored, value)
        → IsStep may_refuse (before_with held) (Remove key) (Value value) (after_with None)
    remove-value key value finds stored removes =
        let pairs = removes.pairs in
        let kept = removes.removed.uncounted in
        a_step may_refuse (before_with held) (after_with None) (Remove key) (Value value) was.0 None was.1 refl
        (sym finds, rw (pairs, kept) refl) (stored, removes) new_tree

    none_found : (o : Option (ℕ × ℕ)) → None ≡ option_map (λ x. x.1) o → o ≡ None
    none_found None is = refl
    none_found (Some x) is = absurd (cc)

    pub remove-none : (key : ℕ) → None ≡ found_value nat_cmp key (pairs_of old) → new ≡ old
        → IsStep may_refuse (before_with held) (Remove key) Nothing (after_with None)
    remove-none key finds same =
        a_step may_refuse (before_with held) (after_with None) (Remove key) Nothing was.0 None was.1 refl
        (none_found (found nat_cmp key (pairs_of old)) finds, ap (λ m. state_at (record { map = m; held = None }) None) same) same new_tree

    pub remove-done : (key : ℕ) (value : Option ℕ) → value ≡ found_value nat_cmp key (pairs_of old)
        → IfSome value (λ v. (stored : ℕ) × RemovesByKey old new nat_cmp key (stored, v)) → IfNone value (new ≡ old)
        → IsStep may_refuse (before_with held) (Remove key) (value_reply value) (after_with None)
    remove-done key None finds removes same = remove-none key finds same
    remove-done key (Some value) finds removes same = remove-value key value finds removes.0 removes.1

    pub clear-done : pairs_of new ≡ [] → new ≡ rootless finite.empty old.kept
        → IsStep may_refuse (before_with held) Clear Done (after_with None)
    clear-done empty is =
        let kept : new.kept ≡ old.kept = ap (λ m. m.kept) is in
        a_step may_refuse (before_with held) (after_with None) Clear Done was.0 None was.1 refl (rw (empty, kept) refl) is new_tree

  module _ (held : Option Address) (a : Address) (is : held ≡ Some a) where
    -- ---- `put`
    module _ (key value : ℕ) where
      pub put-unfit : IsValidIn old a → (FitsAt nat_cmp key old a → ⊥) → IsStep may_refuse (before_with held) (Put key value) Unfit (before_with held)
      put-unfit valid unfit =
          let there = place-there nat_cmp nat_cmp_total old tree a valid in
          let has = has-place nat_cmp nat_cmp_total old tree a there.0 there.1 in
          let at : IsHeldPlace old held (Some there.0) = rw is (there.0, refl, has) in
          a_step may_refuse (before_with held) (before_with held) (Put key value) Unfit (Some there.0) (Some there.0) at at
          (there.0, refl, (λ fits. unfit (record { place = there.0; has = has; fits = fits })), refl) refl tree

      module _ (fits : FitsAt nat_cmp key old a) (new_tree : IsBTree nat_cmp new) where
        fits-there : (place : ℕ) → HasPlace old a place → KeyFits nat_cmp key place (pairs_of old)
        fits-there place has = subst (λ p. KeyFits nat_cmp key p (pairs_of old)) (has.only fits.place fits.has.at) fits.fits

        pub put-done : (b : Address) → InsertsAt old new a nat_cmp b (key, value) → IsStep may_refuse (before_with held) (Put key value) Done (after_with (Some b))
        put-done b inserts =
            let place = inserts.place in
            let pairs = inserts.pairs in
            let kept = inserts.inserted.uncounted in
            a_step may_refuse (before_with held) (after_with (Some b)) (Put key value) Done (Some place) (Some place)
            (rw is (place, refl, inserts.has)) (place, refl, inserts.there)
            (place, refl, fits-there place inserts.has, rw (pairs, kept) refl) (a, b, is, refl, inserts) new_tree

        pub put-refused : (cause : Cause) → IsWithinLimit old → IsRefusedAt old new a may_refuse cause → IsStep may_refuse (before_with held) (Put key value) (Refused cause) (after_with held)
        put-refused cause within refused =
            let place = refused.leaf_for.place in
            let at : IsHeldPlace old held (Some place) = rw is (place, refl, refused.leaf_for.has) in
            a_step may_refuse (before_with held) (after_with held) (Put key value) (Refused cause) (Some place) (Some place) at
            (held_place-refused may_refuse refused.leaf.id old new held cause (Some place) refused.refused at) (
              place,
              refl,
              fits-there place refused.leaf_for.has,
              refusable may_refuse refused.leaf.id old new held cause (Some place) tree within refused.refused,
              state-refused may_refuse refused.leaf.id old new held cause (Some place) refused.refused,
            ) (a, is, refused, refl) new_tree

    -- ---- `take`
    pub take-past : IsNormalized old a None → IsStep may_refuse (before_with held) Take Nothing (before_with held)
    take-past normal =
        let place = normal.place in
        let at : IsHeldPlace old held (Some place) = rw is (place, refl, normal.has) in
        a_step may_refuse (before_with held) (before_with held) Take Nothing (Some place) (Some place) at at
        (place, refl, slice_get_past (pairs_of old) place (normal.item.past refl), refl) refl tree

    pub take-pair : (at : Address) → IsNormalized old a (Some at) → (x : ℕ × ℕ) (b : Address) → IsRemoved old new nat_cmp at x b
        → IsStep may_refuse (before_with held) Take (Pair x.0 x.1) (after_with (Some b))
    take-pair at normal x b removed =
        let place = removed.place in
        let same : place ≡ normal.place = normal.item.here.has.only place removed.has.at in
        let has : HasPlace old a place = subst (λ p. HasPlace old a p) (sym same) normal.has in
        let pairs = removed.pairs in
        let kept = removed.uncounted in
        a_step may_refuse (before_with held) (after_with (Some b)) Take (Pair x.0 x.1) (Some place) (Some place)
        (rw is (place, refl, has)) (place, refl, removed.there)
        (place, refl, removed.listed, rw (pairs, kept) refl) (a, at, b, is, normal, removed, refl) removed.tree

  -- ---- no place is held
  module _ (held : Option Address) (none : held ≡ None) where
    pub put-nowhere : (key value : ℕ) → IsStep may_refuse (before_with held) (Put key value) NoPlace (before_with held)
    put-nowhere key value =
        rw none (a_step may_refuse (before_with None) (before_with None) (Put key value) NoPlace None None refl refl (refl, refl) refl tree)

    pub take-nowhere : IsStep may_refuse (before_with held) Take NoPlace (before_with held)
    take-nowhere = rw none (a_step may_refuse (before_with None) (before_with None) Take NoPlace None None refl refl (refl, refl) refl tree)
