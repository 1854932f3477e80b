-- Runs of a machine, one after another.
use Rattle.btree_session.proofs.Common.{◌≡◌, ℕ, ◌+◌, ◌<◌, List, [], ◌∷◌, ◌++◌, take, length, get_or, refl, ap, ◌∙◌, append_assoc, Reply}
use Rattle.std.proofs.lemmas.List.{take_more}
use Rattle.btree_session.specs.Run.{IsRunBy}

module _ {S X : Type 0} (Step : S → X → Reply → S → Type 0) where
  -- a run continues with another
  pub IsRunBy-append : (old mid new : S) (cs ds : List X) (rs ss : List Reply) → IsRunBy Step old cs rs mid → IsRunBy Step mid ds ss new
      → IsRunBy Step old (cs ++ ds) (rs ++ ss) new
  IsRunBy-append old mid new [] ds [] ss first second = let same : mid ≡ old = first in rw same at second
  IsRunBy-append old mid new (c ∷ cs) ds (r ∷ rs) ss first second = (first.0, first.1, IsRunBy-append first.0 mid new cs ds rs ss first.2 second)
  IsRunBy-append old mid new [] ds (r ∷ rs) ss first second = absurd first
  IsRunBy-append old mid new (c ∷ cs) ds [] ss first second = absurd first

  -- the replies to a run are after those that were there before
  abbrev pub HasAnswered : S → List X → List Reply → List Reply → S → Type 0
  HasAnswered old commands before after new = (given : List Reply) × (after ≡ before ++ given) × IsRunBy Step old commands given new

  -- the next command is answered too
  pub one_more : (old mid new : S) (commands : List X) (i : ℕ) (d : X) (before between after : List Reply) (reply : Reply)
      → HasAnswered old (take i commands) before between mid → i < length commands → Step mid (get_or commands i d) reply new → after ≡ between ++ reply ∷ []
      → HasAnswered old (take (i + 1) commands) before after new
  one_more old mid new commands i d before between after reply so_far within step more =
      rw (take_more commands i d within) (
        so_far.0 ++ reply ∷ [],
        more ∙ ap (λ replies. replies ++ reply ∷ []) so_far.1 ∙ append_assoc before so_far.0 (reply ∷ []),
        IsRunBy-append old mid new (take i commands) (get_or commands i d ∷ []) so_far.0 (reply ∷ []) so_far.2 (new, step, refl),
      )
