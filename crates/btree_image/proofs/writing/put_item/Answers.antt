use Rattle.std.proofs.Common.{◌≡◌, ◌++◌, ℕ, List, Some}
use Rattle.std.proofs.lemmas.Result.{on_ok_weaker}
use Rattle.btree_image.specs.Written.{IsItemRead}
use Rattle.btree_image.proofs.Again.{item-again}
use Rattle.btree_image.proofs.writing.put_item.Goals as goal

pub returns-clause-is_read : goal.returns-clause-is_read
returns-clause-is_read g c =
    let pair = c.args.pair.now in
    let key : (rest : List ℕ) → g.K.Spelled.read (g.K.Spelled.spelling pair.0 ++ rest) ≡ Some (pair.0, rest) = rw c.key.ensures at c.in_ok-put.ensures.reads_back in
    on_ok_weaker {P = (rest : List ℕ) → g.V.Spelled.read (g.V.Spelled.spelling pair.1 ++ rest) ≡ Some (pair.1, rest)} {Q = IsItemRead g.K.Spelled.spelling g.V.Spelled.spelling g.K.Spelled.read g.V.Spelled.read pair} c.put-2.result
    (λ value. item-again g.K.Spelled.spelling g.V.Spelled.spelling g.K.Spelled.read g.V.Spelled.read pair key value)
    (rw c.value.ensures at c.put-2.ensures.reads_back)
