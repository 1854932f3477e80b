use Rattle.bench_maps.proofs.BeginsLemmas.{begins-before}
use Rattle.bench_maps.proofs.descent.put_before.Goals as goal

pub returns : goal.returns
returns g c =
    begins-before c.args.map.now c.insert_at.new.self c.args.at c.in_ok-insert_at.field-0 c.args.key c.args.key
    (rw c.new.ensures at c.in_ok-insert_at.ensures.inserted) c.args.first c.requires.begins
