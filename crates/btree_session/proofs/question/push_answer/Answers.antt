use Rattle.btree_session.proofs.Shapes.{is-answer}
use Rattle.btree_session.proofs.question.push_answer.Goals as goal

pub returns-in-Some-clause-answer : goal.returns-in-Some-clause-answer
returns-in-Some-clause-answer g c = is-answer _ c.args.map.now c.args.question c.root_id-root.ensures.well_formed
