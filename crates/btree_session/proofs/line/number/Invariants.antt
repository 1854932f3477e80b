use Rattle.btree_session.proofs.Common.{◌^◌, ◌<◌, length}
use Rattle.btree_session.proofs.Numerals.{AreDigits}
use Rattle.btree_session.proofs.line.number.Given as goal

abbrev pub invariant-loop-byte : goal.invariant-loop-byte
invariant-loop-byte l = record {
  so_far : AreDigits l.word l.byte-index l.number;
  fits : l.number < 2 ^ 64;
  not_empty : 0 < length l.word;
}
