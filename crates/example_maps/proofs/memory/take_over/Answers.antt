use Rattle.std.proofs.Common.{rules, arith, ◌≡◌, ◌∙◌, min, sym}
use Rattle.btree_slab.specs.UpdateLaws.{stopped-as, updated-as, updated-keeps}
use Rattle.example_maps.specs.contracts.memory.fn.take_over.count_and_take as closure
use Rattle.example_maps.proofs.memory.take_over.Goals as goal

pub returns-in-Ok-clause-taken : goal.returns-in-Ok-clause-taken
returns-in-Ok-clause-taken g c =
    updated-as (λ owner. c.args.to) _ (λ p. (closure.captures p).to ≡ c.args.to) (λ p q v w holds step. search rules) c.args.start c.args.end
    (search rules) c.update.ensures.runs c.in-Ok.ensures.updated

pub returns-in-Err-clause-stopped : goal.returns-in-Err-clause-stopped
returns-in-Err-clause-stopped g c =
    stopped-as (λ owner. c.args.to) _ (λ p. (closure.captures p).to ≡ c.args.to) (λ p q v w holds step. search rules) c.args.start c.args.end
    (search rules) c.update.ensures.runs _ c.in-Err.ensures.stopped

-- after so many calls the count is that number, and it is still the variable's
pub returns-in-Ok-clause-counted : goal.returns-in-Ok-clause-counted
returns-in-Ok-clause-counted g c =
    let is =
    updated-keeps _ (λ f k q. ((closure.captures q).regions ≡ min k 4294967295) × (q.0.ghost_name ≡ c.regions-1.given.0))
    (λ f k p q v w holds step. (search (rules, arith), search rules)) c.in-Ok.ensures.updated (search rules, search rules)
    in
    c.regions-2-1.given.1 (sym is.1) ∙ is.0
