use Rattle.std.proofs.Common.{◌≡◌, ◌∙◌, ap, refl, rules, to_z, of_z, to_z-of_z}
use Rattle.std.specs.Int.{w128, cast_unsigned}
use Rattle.btree_spelled.proofs.WiderLemmas.{on_ok_with}
use Rattle.btree_spelled.proofs.signed.I128Spelled.put.Goals as goal

pub returns-clause-reads_back : goal.returns-clause-reads_back
returns-clause-reads_back g c =
    let same : to_z w128 (of_z w128 c.args.self.now) ≡ c.args.self.now = to_z-of_z {w = w128} (search rules) in
    let bits : c.cast_unsigned.result ≡ cast_unsigned w128 c.args.self.now = c.cast_unsigned.ensures ∙ ap (cast_unsigned w128) same in
    on_ok_with c.put.result (λ back rest. rw (back rest, same) refl) (rw bits at c.put.ensures.reads_back)
