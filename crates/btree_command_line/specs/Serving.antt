-- What serving lines from the start does.
use Rattle.std.specs.Prelude.{◌≡◌, ◌⊎◌, ℕ, IsFalse, IsTrue, List, Option, None, Result, Ok, Err}
use Rattle.std.specs.FinMap as map
use Rattle.btree_store.specs.Content.{Content}
use Rattle.btree_node.specs.declared.node.Node.{Node}
use Rattle.btree_laws.specs.TreeState.{limited_to, rootless}
use Rattle.btree_session.specs.Held.{Held}
use Rattle.btree_session.specs.Script.{Drives}
use Rattle.btree_session.specs.declared.options.Setup.{Setup}
use Rattle.btree_session.specs.declared.driver.Stop.{Stop}
use Rattle.btree_command_line.specs.declared.Ending.{Ending}
use Rattle.btree_command_line.specs.declared.Ending.TheVariants.{Stopped, WrongArguments}
use Rattle.btree_command_line.specs.Ending.{status_after}

-- a session over an empty map with this limit, which holds no place, was driven, over stores that may refuse a node in these
-- contents
pub record ServesAnew {A R W : Type 0} (limit : ℕ) (MayRefuse : Content (Node ℕ ℕ) → Type 0) (remaining : R → Option (List ℕ)) (contents : W → Option (List ℕ)) (input : R) (output : W) (result : Result A Stop) (new_output : W) : Type 0 where
  pub old : Held ℕ ℕ
  pub empty : old.map ≡ rootless map.empty (limited_to limit)
  pub free : old.held ≡ None
  pub new : Held ℕ ℕ
  pub drives : Drives MayRefuse remaining contents old input output result new_output new

-- so was one over a table of eleven nodes, which may refuse a node only if it holds that many
abbrev pub ServesTable : {A R W : Type 0} → (limit : ℕ) → (R → Option (List ℕ)) → (W → Option (List ℕ)) → R → W → Result A Stop → W → Type 0
ServesTable limit remaining contents input output result new_output = ServesAnew limit (λ nodes. map.len nodes ≡ 11) remaining contents input output result new_output

-- and one over a slab, which may refuse any
abbrev pub ServesSlab : {A R W : Type 0} → (limit : ℕ) → (R → Option (List ℕ)) → (W → Option (List ℕ)) → R → W → Result A Stop → W → Type 0
ServesSlab limit remaining contents input output result new_output = ServesAnew limit (λ nodes. Unit {0}) remaining contents input output result new_output

-- how a run ended in which lines were served
abbrev pub ended : {A : Type 0} → Result A Stop → Result A Ending
ended (Ok x) = Ok x
ended (Err stop) = Err (Stopped stop)

-- lines were served as is asked for here, and the result says how that ended
pub record ServesAsked {A R W : Type 0} (asked : Setup) (remaining : R → Option (List ℕ)) (contents : W → Option (List ℕ)) (input : R) (output : W) (result : Result A Ending) (new_output : W) : Type 0 where
  pub end : Result A Stop
  pub told : result ≡ ended end
  pub table : IsTrue asked.table → ServesTable asked.limit remaining contents input output end new_output
  pub slab : IsFalse asked.table → ServesSlab asked.limit remaining contents input output end new_output

-- there were arguments that the program does not have, or lines were served as some arguments ask
abbrev pub ServesArguments : {A R W : Type 0} → (R → Option (List ℕ)) → (W → Option (List ℕ)) → R → W → Result A Ending → W → Type 0
ServesArguments remaining contents input output result new_output =
    (result ≡ Err WrongArguments) ⊎ (asked : Setup) × ServesAsked asked remaining contents input output result new_output

-- the same of a run that returns this exit status
abbrev pub ReportsRun : {R W : Type 0} → (R → Option (List ℕ)) → (W → Option (List ℕ)) → R → W → (status : ℕ) → W → Type 0
ReportsRun remaining contents input output status new_output =
    (end : Result (Unit {0}) Ending) × (status ≡ status_after end) × ServesArguments remaining contents input output end new_output
