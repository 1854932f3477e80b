-- The exit status and the message of a run that did not reach the end of its input.
use Rattle.std.specs.Prelude.{ℕ, List, ◌++◌, Result, Ok, Err, codes, decimal}
use Rattle.btree_session.specs.declared.driver.Stop.TheVariants.{NotACommand, Memory, Input, Output}
use Rattle.btree_command_line.specs.declared.Ending.{Ending}
use Rattle.btree_command_line.specs.declared.Ending.TheVariants.{WrongArguments, Stopped}

-- the exit status
abbrev pub status_of : Ending → ℕ
status_of WrongArguments = 1
status_of (Stopped (NotACommand number)) = 1
status_of (Stopped Memory) = 2
status_of (Stopped Input) = 3
status_of (Stopped Output) = 3

-- that of a run, which is 0 if it reached the end
abbrev pub status_after : {A : Type 0} → Result A Ending → ℕ
status_after (Ok _) = 0
status_after (Err ending) = status_of ending

-- the line on standard error
abbrev pub text_of : Ending → List ℕ
text_of WrongArguments = codes "usage: btree_script [table] [limit n]"
text_of (Stopped (NotACommand number)) = codes "line " ++ decimal number ++ codes ": not a command"
text_of (Stopped Memory) = codes "out of memory"
text_of (Stopped Input) = codes "input failed"
text_of (Stopped Output) = codes "output failed"
