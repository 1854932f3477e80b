-- The law of a store that holds at most so many values: it refuses a value exactly if it holds that many. The premises are clauses of
-- `insert`.
use Rattle.std.proofs.Common.{◌≡◌, ◌≤◌, ◌↔◌, ℕ, None, Result, Ok, Err, IsErr, IfOk, OnOk, OnErr, refl, ap, arith}
use Rattle.std.proofs.lemmas.Bool.{false≢true}
use Rattle.std.specs.FinMap.{get, len}
use Rattle.btree_store.specs.Content.{Content, Gains}
use Rattle.btree_store.specs.ContentLaws.{len-insert_unused}

module _ {T E : Type 0} (places : ℕ) (old new : Content T) (value : T) where
  -- a full store refuses: with one value more it would hold too many
  pub full-refuses : (result : Result ℕ E) → IfOk result (λ id. get old id ≡ None) → IfOk result (Gains old new value) → OnOk result (len new ≤ places) → len old ≡ places → IsErr result
  full-refuses (Ok id) unused stored can_hold full =
      let more = len-insert_unused old id value unused in
      let same = ap len stored in
      absurd (omega arith)
  full-refuses (Err back) unused stored can_hold full = refl

  refused-full : (result : Result ℕ E) → OnErr result (len old ≡ places) → IsErr result → len old ≡ places
  refused-full (Ok id) may_refuse refused = absurd (false≢true refused)
  refused-full (Err back) may_refuse refused = may_refuse

  -- a store of so many places refuses exactly if they are all used
  pub refuses-exactly : (result : Result ℕ E) → IfOk result (λ id. get old id ≡ None) → IfOk result (Gains old new value) → OnOk result (len new ≤ places) → OnErr result (len old ≡ places) → IsErr result ↔ (len old ≡ places)
  refuses-exactly result unused stored can_hold may_refuse = (refused-full result may_refuse, full-refuses result unused stored can_hold)
