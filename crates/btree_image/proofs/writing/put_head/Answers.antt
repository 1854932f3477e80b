use Rattle.std.proofs.Common.{◌≡◌, ◌++◌, arith}
use Rattle.std.proofs.lemmas.Result.{on_ok_weaker}
use Rattle.btree_image.specs.declared.TheConstants.{MAGIC, VERSION}
use Rattle.btree_image.specs.Image.{number, word}
use Rattle.btree_image.specs.Written.{head_bytes}
use Rattle.btree_image.proofs.Put.{on_ok, put-two}
use Rattle.btree_image.proofs.writing.put_head.Goals as goal

pub returns-clause-words : goal.returns-clause-words
returns-clause-words g c =
    on_ok c.put_word-5.result (record { len = rw (← c.len.ensures) (omega (arith, c.len.type_inv)); limit = rw (← c.limit.ensures) (omega (arith, c.limit.type_inv)) })

pub returns-clause-appends : goal.returns-clause-appends
returns-clause-appends g c =
    let tree = c.args.tree.now in
    let start = c.args.out.now.items in
    let root : c.put_number.new.out.items ≡ c.put_word-2.new.out.items ++ number tree.root = rw c.root_id.ensures at c.in_ok-put_number.ensures in
    let len : c.put_word-3.new.out.items ≡ c.put_number.new.out.items ++ word tree.len = rw c.len.ensures at c.in_ok-put_word-3.ensures.appends in
    let limit : c.put_word-4.new.out.items ≡ c.put_word-3.new.out.items ++ word tree.kept.limit = rw c.limit.ensures at c.in_ok-put_word-4.ensures.appends in
    let two = put-two start (word MAGIC) (word VERSION) c.put_word.new.out.items c.put_word-2.new.out.items c.in_ok-put_word.ensures.appends c.in_ok-put_word-2.ensures.appends in
    let three = put-two start (word MAGIC ++ word VERSION) (number tree.root) c.put_word-2.new.out.items c.put_number.new.out.items two root in
    let four = put-two start (word MAGIC ++ word VERSION ++ number tree.root) (word tree.len) c.put_number.new.out.items c.put_word-3.new.out.items three len in
    let five = put-two start (word MAGIC ++ word VERSION ++ number tree.root ++ word tree.len) (word tree.kept.limit) c.put_word-3.new.out.items c.put_word-4.new.out.items four limit in
    on_ok_weaker {P = c.put_word-5.new.out.items ≡ c.put_word-4.new.out.items ++ word c.args.count} {Q = c.put_word-5.new.out.items ≡ start ++ head_bytes tree c.args.count} c.put_word-5.result
    (λ count. put-two start (word MAGIC ++ word VERSION ++ number tree.root ++ word tree.len ++ word tree.kept.limit) (word c.args.count) c.put_word-4.new.out.items c.put_word-5.new.out.items five count)
    c.put_word-5.ensures.appends
