use Rattle.std.proofs.Common.{Fits, w64}
use Rattle.btree_valid.proofs.Common.{◌∙◌, ◌+◌, ◌<◌, ℕ, ap, arith, nearest_of, option_copied, refl, view_of}
use Rattle.btree_valid.proofs.ChildLemmas.{child-within}
use Rattle.btree_valid.proofs.faults.below.Goals as goal

-- the level of a child
next_fits : (n : ℕ) → n < 32 → Fits w64 (n + 1)
next_fits n low = omega arith

pub separators-requires : goal.separators-requires
separators-requires g c = (c.requires.size, child-within (view_of c.args.node.now) c.args.index c.args.child c.requires.within)

pub overflow_add-result : goal.overflow_add-result
overflow_add-result g c = next_fits _ c.requires.low

pub returns-clause-level : goal.returns-clause-level
returns-clause-level g c = refl

pub returns-clause-parent : goal.returns-clause-parent
returns-clause-parent g c = refl

pub returns-clause-id : goal.returns-clause-id
returns-clause-id g c = refl

pub returns-clause-min : goal.returns-clause-min
returns-clause-min g c = c.nearest.ensures ∙ ap (λ o. nearest_of o (option_copied c.args.spot.now.min)) c.separators.ensures.before

pub returns-clause-max : goal.returns-clause-max
returns-clause-max g c = c.nearest-2.ensures ∙ ap (λ o. nearest_of o (option_copied c.args.spot.now.max)) c.separators.ensures.after
