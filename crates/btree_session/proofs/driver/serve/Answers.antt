use Rattle.std.proofs.lemmas.Result.{err_from_is_err_and}
use Rattle.btree_session.specs.declared.driver.Stop.TheVariants.{Input}
use Rattle.btree_session.proofs.Common.{arith}
use Rattle.btree_session.proofs.Serving.{begun, most, written, stopped, between_lines, at_line, goes_on, append_known-grows}
use Rattle.btree_session.proofs.driver.serve.Goals as goal

pub loop-number-init : goal.loop-number-init
loop-number-init g c = begun _ _ _ _

pub returns-in_err-said : goal.returns-in_err-said
returns-in_err-said g c =
    let exit = err_from_is_err_and c.from_residual.result c.from_residual.ensures.1 in
    rw (exit.1, exit.2) (between_lines _ _ _ _ _ _ c.loop-number.reader _ _ _ _ c.loop-number.invariant c.in_err-said.ensures.stop c.in_err-said.ensures.text c.in_err-said.ensures.asked)

pub returns-in_err-serve_line : goal.returns-in_err-serve_line
returns-in_err-serve_line g c =
    let exit = err_from_is_err_and c.from_residual-in_err-serve_line.result c.from_residual-in_err-serve_line.ensures.1 in
    rw (exit.1, exit.2, c.in_err-serve_line.ensures.session_kept, c.in_err-serve_line.ensures.text_kept)
    (at_line _ _ _ _ _ _ _ _ _ _ _ _ _ (written _ _ _ _ _ _ _ _ _ c.loop-number.invariant c.in_ok-said.ensures.text)
    (rw c.in-Some.is at c.in_ok-said.ensures.line) c.in_err-serve_line.ensures.stop)

pub loop-number-preserved : goal.loop-number-preserved
loop-number-preserved g c =
    let reads = rw c.in-Some.is at c.in_ok-said.ensures.line in
    let served = c.in_ok-serve_line.ensures.served in
    goes_on _ _ _ _ _ _ _ _ _ _ _ _ reads served.0 (written _ _ _ _ _ _ _ _ _ c.loop-number.invariant c.in_ok-said.ensures.text) served.1 (append_known-grows _ _ _ _ served.2)

pub returns : goal.returns
returns g c = stopped _ _ _ _ _ _ _ _ _ Input c.loop-number.invariant tt (most _ _ _ (omega (arith, c.loop-number.invariant.count, c.loop-number-test.false)))
