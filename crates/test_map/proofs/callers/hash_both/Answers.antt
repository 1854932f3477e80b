use Rattle.std.proofs.Common.{◌∙◌, sym}
use Rattle.std.specs.Hash.{and-Alike, on_Alike}
use Rattle.std.specs.List.{fold}
use Rattle.btree_laws.specs.TreeState.{pairs_of}
use Rattle.btree_map.specs.Comparison.{writes-same}
use Rattle.test_map.proofs.callers.hash_both.Goals as goal

pub returns : goal.returns
returns g c t e =
    let alike = and-Alike (on_Alike (λ p. p.0) (record { fed = g.met.K.Hash.respects_eq })) (on_Alike (λ p. p.1) (record { fed = g.met.V.Hash.respects_eq })) in
    let writes = writes-same alike (pairs_of c.args.left.now) (pairs_of c.args.right.now) (sym c.same_items.ensures ∙ t) in
    c.hash.ensures ∙ (λ i. fold g.H.Hasher.write (e i) (writes i)) ∙ sym c.hash-2.ensures
