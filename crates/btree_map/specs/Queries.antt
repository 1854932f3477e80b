-- On which side of a text a string is; the pairs between two queries, and the law of the queries before and after all keys.
use Rattle.std.proofs.Common.{◌&&◌, ℕ, List, String, not, refl}
use Rattle.std.specs.Cmp.Lexicographic.{slice_cmp}
use Rattle.std.specs.List.{filter}
use Rattle.std.specs.Ordering.{is_lt, nat_cmp}
use Rattle.std.specs.Prelude.{string_bytes}
use Rattle.std.specs.declared.cmp.Ordering.{Ordering}
use Rattle.std.specs.declared.cmp.Ordering.TheVariants.{Greater, Less}
use Rattle.btree_item.specs.Keys.{Cuts}

-- on which side of a text a string is
abbrev pub by_text : {A : Type 0} → String A → List ℕ → Ordering
by_text word text = slice_cmp nat_cmp (string_bytes word) text

-- the pairs whose keys are not below one query, and are below another: `low x q` and `high x r` say on which sides of them a key x is
abbrev pub pairs_from_to : {K Q R V : Type 0} → (K → Q → Ordering) → Q → (K → R → Ordering) → R → List (K × V) → List (K × V)
pairs_from_to low start high end xs = filter (λ x. not (is_lt (low x.0 start)) && is_lt (high x.0 end)) xs

-- every key is above the place before all keys, and below the one after them
pub all_above : {K Q : Type 0} {ord : K → K → Ordering} → Cuts {K = K} {Q = Q} ord (λ _ _. Greater)
all_above = record { above = λ q x y stop up. refl }

pub all_below : {K Q : Type 0} {ord : K → K → Ordering} → Cuts {K = K} {Q = Q} ord (λ _ _. Less)
all_below = record { above = λ q x y stop up. absurd (cc) }
