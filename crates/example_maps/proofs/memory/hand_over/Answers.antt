use Rattle.std.proofs.Common.{rules}
use Rattle.std.proofs.lemmas.Result.{IfErr-weaker, on_ok_weaker}
use Rattle.btree_slab.specs.UpdateLaws.{stopped-by, updated-by}
use Rattle.example_maps.specs.Memory.{handed}
use Rattle.example_maps.proofs.memory.hand_over.Goals as goal

pub returns-clause-handed : goal.returns-clause-handed
returns-clause-handed g c =
    on_ok_weaker _ (updated-by (handed c.args.from c.args.to) _ (λ v w q step. search rules) _ _ c.update.ensures.runs) c.update.ensures.updated

pub returns-clause-stopped : goal.returns-clause-stopped
returns-clause-stopped g c =
    IfErr-weaker _ _ _ (stopped-by (handed c.args.from c.args.to) _ (λ v w q step. search rules) _ _ c.update.ensures.runs) c.update.ensures.stopped
