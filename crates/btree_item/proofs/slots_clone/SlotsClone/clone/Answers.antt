use Rattle.btree_item.proofs.Common.{◌≡◌, ◌<◌, ◌++◌, ◌+◌, [], ◌∷◌, List, ℕ, refl, Ok, Err, Option, None, Some, sym, ◌∙◌, ap, subst, arith, length, take, slice_get_within, IsSome}
use Rattle.std.proofs.Common.{Result, Bor, slice_get, length-append}
use Rattle.std.proofs.lemmas.List.{take_all}
use Rattle.std.proofs.lemmas.List.Elements.{all_zip_more}
use Rattle.std.proofs.lemmas.Option.{get_or_from_slice_get, slice_get-get_or}
use Rattle.std.specs.List.{All, AllZip}
use Rattle.std.specs.Prelude.{IsErr, MatchResult}
use Rattle.std.specs.Option.{option_copied}
use Rattle.btree_item.proofs.slots_clone.SlotsClone.clone.Goals as goal

failed : {A E : Type 0} (P : A → Type 0) (Q : Type 0) (r : Result A E) → IsErr r → Q → MatchResult r P (λ _. Q)
failed P Q (Ok x) is q = absurd (cc)
failed P Q (Err e) is q = q

all-at : {X : Type 0} (P : X → Type 0) (xs : List X) (i : ℕ) (x : X) → slice_get xs i ≡ Some x → All P xs → P x
all-at P xs i x at all = subst P (get_or_from_slice_get xs i x x at) (all i x (slice_get_within xs i x at))

cloned-more : {X : Type 0} (R : X → X → Type 0) (xs ys more : List X) (i : ℕ) (x y : X) → slice_get xs i ≡ Some x
    → AllZip R (take i xs) ys → R x y → more ≡ ys ++ y ∷ [] → AllZip R (take (i + 1) xs) more
cloned-more R xs ys more i x y at so r is =
    rw is (all_zip_more R xs ys i x y (slice_get_within xs i x at) (sym (get_or_from_slice_get xs i x x at)) so r)

is-there : {X : Type 0} (xs : List X) (i : ℕ) (o : Option (Bor X)) → option_copied o ≡ slice_get xs i → i < length xs → IsSome o
is-there [] i None is low = absurd (omega arith)
is-there (y ∷ ys) i None is low = let e = slice_get-get_or (y ∷ ys) i y low in absurd (cc)
is-there xs i (Some x) is low = refl

pub loop-index-init : goal.loop-index-init
loop-index-init g c = record {
  reached = rw c.new-copy.ensures refl;
  within = omega arith;
  cloned = rw c.new-copy.ensures tt;
}

pub unwrap-requires : goal.unwrap-requires
unwrap-requires g c =
    let n = c.len-index-end.ensures.value in
    let l = c.loop-index-test.true in
    is-there c.args.self.now c.loop-index.index c.get.result c.get.ensures (omega arith)

pub returns-in_err-clone : goal.returns-in_err-clone
returns-in_err-clone g c =
    let at : slice_get c.args.self.now c.loop-index.index ≡ Some c.unwrap.result.now =
    sym c.get.ensures ∙ ap option_copied (c.unwrap.ensures) in
    record {
      cases = failed _ _ c.from_residual.result c.from_residual.ensures.0 (λ all.
          c.in_err-clone.ensures.cases (all-at g.T.Clone.is_infallible c.args.self.now c.loop-index.index c.unwrap.result.now at all));
    }

pub push-requires : goal.push-requires
push-requires g c =
    let fits = c.well_formed in
    let n = c.len-index-end.ensures.fits in
    let i = c.loop-index.invariant.reached in
    let l = c.loop-index-test.true in
    (omega arith, omega arith)

pub loop-index-preserved : goal.loop-index-preserved
loop-index-preserved g c =
    let at : slice_get c.args.self.now c.loop-index.index ≡ Some c.unwrap.result.now =
    sym c.get.ensures ∙ ap option_copied (c.unwrap.ensures) in
    let more = ap length c.push.ensures in
    let one = length-append c.loop-index.copy (c.in_ok-clone.field-0 ∷ []) in
    let i = c.loop-index.invariant.reached in
    record {
      reached = omega arith;
      within = omega arith;
      cloned = cloned-more g.T.Clone.is_clone c.args.self.now c.loop-index.copy c.push.new.self c.loop-index.index c.unwrap.result.now
          c.in_ok-clone.field-0 at c.loop-index.invariant.cloned c.in_ok-clone.ensures.cases c.push.ensures;
    }

pub returns : goal.returns
returns g c =
    let n = c.len-index-end.ensures.value in
    let w = c.loop-index.invariant.within in
    let f = c.loop-index-test.false in
    record {
      cases = subst (λ l. AllZip g.T.Clone.is_clone l c.loop-index.copy) (take_all c.loop-index.index c.args.self.now (omega arith))
          c.loop-index.invariant.cloned;
    }
