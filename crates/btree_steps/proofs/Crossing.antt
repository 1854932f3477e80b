-- A counter may cross threads: it has no bytes, and it owns nothing.
use denote.Param.Send.{IsSend, IsSync, owning_send, part_keyless, sendable}
use Rattle.btree_steps.specs.contracts.Steps as Steps

pub Steps-send : IsSend Steps.the_row
Steps-send = owning_send Steps.the_type (search sendable, tt) (λ d. tt) (λ k x w. tt)

pub Steps-sync : IsSync Steps.the_row
Steps-sync = record { shared = λ d b o κ q. part_keyless Steps.the_row Steps-send q d b o }
