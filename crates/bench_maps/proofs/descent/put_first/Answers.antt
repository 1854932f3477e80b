use Rattle.bench_maps.proofs.BeginsLemmas.{begins-empty}
use Rattle.bench_maps.proofs.descent.put_first.Goals as goal

pub returns : goal.returns
returns g c =
    begins-empty c.args.map.now c.insert_at.new.self c.in-Err.gap c.in_ok-insert_at.field-0 c.args.key c.args.key
    (rw c.new.ensures at c.in_ok-insert_at.ensures.inserted) c.requires c.in-Err.ensures.fits
