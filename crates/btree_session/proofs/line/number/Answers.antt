use Rattle.btree_session.proofs.Common.{arith, rules}
use Rattle.btree_session.proofs.Numerals.{more_digits, all_digits, no_digit, too_large}
use Rattle.btree_session.proofs.line.number.Goals as goal

pub returns-then-not-is_ascii_digit : goal.returns-then-not-is_ascii_digit
returns-then-not-is_ascii_digit c = λ n. no_digit c.args.word.now c.loop-byte.byte-index n c.loop-byte-test.true (search rules)

pub returns-in_err-checked_mul : goal.returns-in_err-checked_mul
returns-in_err-checked_mul c = rw c.from_residual.ensures
    (λ n. too_large c.args.word.now c.loop-byte.byte-index c.loop-byte.number n c.loop-byte.invariant.so_far c.loop-byte-test.true c.if-not-is_ascii_digit.ensures.cases (omega (arith, c.in_err-checked_mul.ensures, c.if-not-is_ascii_digit.ensures.cases)))

pub returns-in_err-number : goal.returns-in_err-number
returns-in_err-number c = rw c.from_residual-in_err-number.ensures
    (λ n. too_large c.args.word.now c.loop-byte.byte-index c.loop-byte.number n c.loop-byte.invariant.so_far c.loop-byte-test.true c.if-not-is_ascii_digit.ensures.cases (omega (arith, c.in_err-number.ensures, c.in_ok-checked_mul.ensures, c.if-not-is_ascii_digit.ensures.cases)))

pub loop-byte-preserved : goal.loop-byte-preserved
loop-byte-preserved c = record {
  so_far = more_digits c.args.word.now c.loop-byte.byte-index c.loop-byte.number c.in_ok-number.number c.loop-byte.invariant.so_far c.loop-byte-test.true c.if-not-is_ascii_digit.ensures.cases
      (omega (arith, c.in_ok-number.ensures, c.in_ok-checked_mul.ensures, c.if-not-is_ascii_digit.ensures.cases));
  fits = omega (arith, c.in_ok-number.ensures);
  not_empty = c.loop-byte.invariant.not_empty;
}

pub returns : goal.returns
returns c = all_digits c.args.word.now c.loop-byte.byte-index c.loop-byte.number c.loop-byte.invariant.so_far (omega arith) c.loop-byte.invariant.not_empty (omega arith)
