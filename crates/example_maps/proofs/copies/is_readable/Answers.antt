use Rattle.std.proofs.Common.{Ok, Err, refl}
use Rattle.btree_slab.specs.ReadLaws.{no-fault-after, readable-after}
use Rattle.example_maps.proofs.copies.is_readable.Goals as goal

pub returns-in-Ok-clause-faults : goal.returns-in-Ok-clause-faults
returns-in-Ok-clause-faults g c =
    let v = no-fault-after g.K.Ord.cmp c.args.raw.now.nodes c.args.raw.now.root c.args.raw.now.len c.args.raw.now.kept.limit (Ok tt) c.in-Ok.ensures.verdict in
    (λ is. v.0 tt, λ none. refl)

pub returns-in-Ok-clause-read : goal.returns-in-Ok-clause-read
returns-in-Ok-clause-read g c = λ is. readable-after g.K.Ord.cmp c.args.raw.now.nodes g.met.K.Ord.total c.args.raw.now.root c.args.raw.now.len c.args.raw.now.kept.limit (Ok tt) tt c.in-Ok.ensures.verdict

pub returns-in-Err-clause-faults : goal.returns-in-Err-clause-faults
returns-in-Err-clause-faults g c =
    let v = no-fault-after g.K.Ord.cmp c.args.raw.now.nodes c.args.raw.now.root c.args.raw.now.len c.args.raw.now.kept.limit (Err c.in-Err.fault) c.in-Err.ensures.verdict in
    (λ is. v.0 (c.is_of_whole.ensures.0 is), λ none. c.is_of_whole.ensures.1 (v.1 none))

pub returns-in-Err-clause-read : goal.returns-in-Err-clause-read
returns-in-Err-clause-read g c = λ is.
    readable-after g.K.Ord.cmp c.args.raw.now.nodes g.met.K.Ord.total c.args.raw.now.root c.args.raw.now.len c.args.raw.now.kept.limit (Err c.in-Err.fault) (c.is_of_whole.ensures.0 is) c.in-Err.ensures.verdict
