-- Runs of a machine: commands that were run one after another, with a reply to each.
-- `IsRunBy` is such a list of steps, and `RunsBy` the same with the replies appended to a vector. A session (`Runs` in
-- `Machine.antt`) and an editing cursor (`RunsCursor` in `CursorMachine.antt`) have steps of their own.
use Rattle.std.specs.Prelude.{◌≡◌, List, [], ◌∷◌, Vec}
use Rattle.btree_session.specs.declared.command.Reply.{Reply}
use Rattle.btree_session.specs.Text.{Pushes}

-- over states and commands, with the steps from one state to another
module _ {S X : Type 0} (Step : S → X → Reply → S → Type 0) where
  -- these replies may be given to these commands, one step after another
  abbrev pub IsRunBy : (old : S) → List X → List Reply → (new : S) → Type 0
  IsRunBy old [] [] new = new ≡ old
  IsRunBy old (command ∷ commands) (reply ∷ replies) new = (mid : S) × Step old command reply mid × IsRunBy mid commands replies new
  IsRunBy old [] (reply ∷ replies) new = ⊥
  IsRunBy old (command ∷ commands) [] new = ⊥

  -- the commands were run one after another, and their replies appended to those that were there
  abbrev pub RunsBy : {Z : Type 0} → (old : S) → List X → (new : S) → (replies more : Vec Reply Z) → Type 0
  RunsBy old commands new replies more = (given : List Reply) × Pushes replies more given × IsRunBy old commands given new
