use Rattle.btree_session.specs.Script.{input_of, output_of}
use Rattle.btree_session.proofs.Serving.{Progress}
use Rattle.btree_session.proofs.driver.serve.Given as goal

abbrev pub invariant-loop-number : goal.invariant-loop-number
invariant-loop-number g l = Progress
    g.C.NodesMut.MayRefuse
    l.initial.session
    (input_of g.R.Read.remaining l.initial.reader)
    (output_of g.W.Write.contents l.initial.output l.initial.text)
    (input_of g.R.Read.remaining l.reader)
    (output_of g.W.Write.contents l.output l.text)
    l.session
    l.number
