-- No edit leads beyond the limit of the length: an insertion is granted below it alone, and the other edits add no pair.
use Rattle.btree_ext.proofs.Common.{◌≡◌, ℕ, Option, Some, None, Result, Ok, Err, ap, arith, Ordering, Content, Address, Cause, Node, Kept, TreeState, IsRefused, IsExchanged, IsInserted, IsRemoved, RunsAt}
use Rattle.std.proofs.Common.{IfErr, IfOk}
use Rattle.btree_item.specs.declared.refused.Cause.TheVariants.{Store, Count}
use Rattle.btree_raw.specs.Limit.{IsWithinLimit}
use Rattle.btree_ext.specs.Update.{RunsAtGap, UpdatesAt, UpdatesGap}

module _ {K V : Type 0} (cmp : K → K → Ordering) (old new : TreeState K V) where
  same-limit : new.kept ≡ old.kept → new.kept.limit ≡ old.kept.limit
  same-limit kept = ap (λ (k : Kept). k.limit) kept

  pub inserted-within : (a b : Address) (x : K × V) → IsInserted cmp old new a b x → IsWithinLimit new
  inserted-within a b x is = let below = is.below_limit in let more = is.longer in let limit = same-limit is.uncounted in omega arith

  pub exchanged-within : (a : Address) (x : K × V) → IsExchanged old new a cmp x → IsWithinLimit old → IsWithinLimit new
  exchanged-within a x is within = let same = is.keeps.len in let limit = same-limit is.uncounted in omega arith

  pub removed-within : (a b : Address) (x : K × V) → IsRemoved old new cmp a x b → IsWithinLimit old → IsWithinLimit new
  removed-within a b x is within = let fewer = is.shorter in let limit = same-limit is.uncounted in omega arith

  pub unchanged-within : new ≡ old → IsWithinLimit old → IsWithinLimit new
  unchanged-within same within =
      let len = ap (λ (s : TreeState K V). s.len) same in
      let limit = ap (λ (s : TreeState K V). s.kept.limit) same in
      omega arith

  pub refused-within : (MayRefuse : Content (Node K V) → Type 0) (id : ℕ) (cause : Cause) → IsRefused MayRefuse id old new cause
      → IsWithinLimit old → IsWithinLimit new
  refused-within MayRefuse id Store r within =
      let len = ap (λ (s : TreeState K V). s.len) r.0 in
      let limit = ap (λ (s : TreeState K V). s.kept.limit) r.0 in
      omega arith
  refused-within MayRefuse id Count r within = unchanged-within r.0 within

  -- an update at an address
  pub ran-within : {T : Type 0} (post : V → Option V × T → Type 0) (a : Address) (answer : T) → RunsAt cmp old new post a answer
      → IsWithinLimit old → IsWithinLimit new
  ran-within post a answer r within = by r.given r.updates
    where
      by : (given : Option V) → UpdatesAt cmp old new a r.item given → IsWithinLimit new
      by None u = removed-within a u.0 r.item u.1 within
      by (Some w) u = exchanged-within a (u.key, w) u.exchanged within

  -- an update at a gap
  pub ran-gap-within : {T : Type 0} (post : Option V → Option V × T → Type 0) (k : K) (a : Address) (answer : T)
      → RunsAtGap cmp old new post k a answer → IsWithinLimit old → IsWithinLimit new
  ran-gap-within post k a answer r within = by r.given r.updates
    where
      by : (given : Option V) → UpdatesGap cmp old new k a given → IsWithinLimit new
      by None u = unchanged-within u within
      by (Some w) u = inserted-within a u.0 (k, w) u.1

  -- whichever of two outcomes a call has, both of which stay within the limit
  pub either-within : {T E : Type 0} (result : Result T E) {P : T → Type 0} {Q : E → Type 0} → IfOk result P → IfErr result Q
      → ((t : T) → P t → IsWithinLimit old → IsWithinLimit new) → ((e : E) → Q e → IsWithinLimit old → IsWithinLimit new)
      → IsWithinLimit old → IsWithinLimit new
  either-within (Ok t) ok err if_ok if_err within = if_ok t ok within
  either-within (Err e) ok err if_ok if_err within = if_err e err within
