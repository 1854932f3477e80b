use Rattle.btree_session.proofs.Common.{arith, common_steps}
use Rattle.btree_session.proofs.Words.{no_word, word_behind}
use Rattle.btree_session.proofs.line.next_word.Goals as goal

pub returns-then-is_empty-clause-none : goal.returns-then-is_empty-clause-none
returns-then-is_empty-clause-none c =
    no_word c.args.text.now c.unwrap_or-spaces.result (rw c.first_byte_of_word.ensures at c.unwrap_or-spaces.ensures)
    (grind (arith, common_steps))

pub returns-clause-some : goal.returns-clause-some
returns-clause-some c =
    rw (c.split_at-2.ensures.front, c.split_at-2.ensures.back, c.split_at.ensures.back)
    (word_behind c.args.text.now c.unwrap_or-spaces.result c.unwrap_or-len.result (rw c.first_byte_of_word.ensures at c.unwrap_or-spaces.ensures)
    (grind (arith, common_steps)) (rw (← c.split_at.ensures.back) (rw c.first_space.ensures at c.unwrap_or-len.ensures)))
