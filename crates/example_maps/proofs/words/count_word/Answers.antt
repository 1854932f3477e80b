use Rattle.std.proofs.Common.{◌≡◌, ◌∙◌, ◌+◌, Option, Some, None, ap, min, unwrap_or, option_map}
use Rattle.std.specs.Option.{UnwrapsOrElse}
use Rattle.example_maps.proofs.words.count_word.Goals as goal

unwraps : {V : Type 0} (o : Option V) (d v : V) → UnwrapsOrElse o (λ w. w ≡ d) v → v ≡ unwrap_or o d
unwraps None d v is = is
unwraps (Some x) d v is = is

pub returns-clause-counted : goal.returns-clause-counted
returns-clause-counted g c =
    let was = unwraps _ _ _ c.in_ok-count.ensures.value ∙ ap (λ o. unwrap_or (option_map (λ x. x.1) o) 0) c.entry.ensures.pair in
    c.saturating_add.ensures ∙ ap (λ n. min (n + 1) 18446744073709551615) was
