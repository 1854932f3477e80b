-- What each number finds in a stock, once a part was inserted under another number and taken out under its own.
use Rattle.std.proofs.Common.{◌≡◌, ◌∙◌, ℕ, List, Some, ap, sym}
use Rattle.std.specs.Cmp.{nat_cmp_total}
use Rattle.std.specs.Ordering.{nat_cmp}
use Rattle.btree_slab.specs.Pairs.{Ascends, found_value, inserted}
use Rattle.btree_slab.specs.Remove.{removed}
use Rattle.btree_slab.specs.LookUpLaws.{inserted-key, inserted-other, number-apart, removed-key, removed-other}
use Rattle.example_maps.specs.Stock.{IsRenumbered}

module _ (part number count : ℕ) (old put new : List (ℕ × ℕ)) (differ : part ≡ number → ⊥) (was : found_value nat_cmp part old ≡ Some count)
    (inserts : put ≡ inserted nat_cmp number count old) (removes : new ≡ removed nat_cmp part put) (up : Ascends nat_cmp put) where
  pub renumbered : IsRenumbered part number old new
  renumbered = record {
    count =
        ap (found_value nat_cmp number) removes ∙ removed-other nat_cmp_total part put number (number-apart part number differ) up
        ∙ ap (found_value nat_cmp number) inserts ∙ inserted-key nat_cmp_total number old count
        ∙ sym was;
    gone = ap (found_value nat_cmp part) removes ∙ removed-key nat_cmp_total part put up;
    others = λ other apart beside.
        ap (found_value nat_cmp other) removes ∙ removed-other nat_cmp_total part put other (number-apart part other (λ e. apart (sym e))) up
        ∙ ap (found_value nat_cmp other) inserts ∙ inserted-other nat_cmp_total number old count other (number-apart number other (λ e. beside (sym e)));
  }
