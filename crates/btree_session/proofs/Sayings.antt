-- What a name says with numbers after it.
use Rattle.btree_session.proofs.Common.{◌≡◌, ℕ, List, [], ◌∷◌, refl, sym, ap, ◌∙◌, subst, Command, MeansLine}
use Rattle.btree_session.specs.declared.command.Command.TheVariants.{Insert, Get, Remove, Clear, Seek, Next, Prev, Put, Take}
use Rattle.btree_session.specs.declared.line.Line.{Line}
use Rattle.btree_session.specs.declared.line.Line.TheVariants as lines
use Rattle.btree_session.specs.declared.line.Numbers.{Numbers}
use Rattle.btree_session.specs.declared.line.Numbers.TheVariants.{Zero, One, Two}
use Rattle.btree_session.specs.Line.{AreNumbers, Says, command_numbers, number_list}

-- words are at most one list of numbers
pub one_list : (ms ns : List ℕ) (words : List (List ℕ)) → AreNumbers ms words → AreNumbers ns words → ms ≡ ns
one_list [] [] words first second = refl
one_list [] (n ∷ ns) [] first second = absurd second
one_list [] (n ∷ ns) (w ∷ words) first second = absurd first
one_list (m ∷ ms) [] [] first second = absurd first
one_list (m ∷ ms) [] (w ∷ words) first second = absurd second
one_list (m ∷ ms) (n ∷ ns) [] first second = absurd first
one_list (m ∷ ms) (n ∷ ns) (w ∷ words) first second =
    let head : m ≡ n = sym first.0.value ∙ second.0.value in
    let tail = one_list ms ns words first.1 second.1 in
    ap (λ x. x ∷ ms) head ∙ ap (λ xs. n ∷ xs) tail

no_words : (ns : List ℕ) (words : List (List ℕ)) → words ≡ [] → AreNumbers ns words → ns ≡ []
no_words ns words none are = one_list ns [] [] (subst (λ ws. AreNumbers ns ws) none are) tt

none_words : (words : List (List ℕ)) → AreNumbers [] words → words ≡ []
none_words [] are = refl
none_words (w ∷ words) are = absurd are

-- the words after a name are these numbers
pub means : (name : List ℕ) (ns : List ℕ) (words : List (List ℕ)) (line : Line) → AreNumbers ns words → Says name ns line → MeansLine (name ∷ words) line
means name ns words lines.Empty are says = absurd says
means name ns words (lines.Command said) are says = (says.0, subst (λ xs. AreNumbers xs words) says.1 are)
means name ns words (lines.Question asked) are says =
    let none = none_words words (subst (λ xs. AreNumbers xs words) says.1 are) in
    let name_is = says.0 in
    rw (none, name_is) refl
means name ns words lines.Other are says = (
  λ empty. cc,
  λ said means. says.0 said means.0 (one_list ns (command_numbers said) words are means.1),
  λ asked asks. says.1 asked (cc) (no_words ns words (cc) are),
)

as_numbers : (said : Command) → (ns : Numbers) × (number_list ns ≡ command_numbers said)
as_numbers (Insert key value) = (Two key value, refl)
as_numbers (Get key) = (One key, refl)
as_numbers (Remove key) = (One key, refl)
as_numbers Clear = (Zero, refl)
as_numbers (Seek key) = (One key, refl)
as_numbers Next = (Zero, refl)
as_numbers Prev = (Zero, refl)
as_numbers (Put key value) = (Two key value, refl)
as_numbers Take = (Zero, refl)

-- the words after a name are not at most two numbers
pub means_nothing : (name : List ℕ) (words : List (List ℕ)) → ((ns : Numbers) → AreNumbers (number_list ns) words → ⊥) → MeansLine (name ∷ words) lines.Other
means_nothing name words none = (
  λ empty. cc,
  λ said means. let ns = as_numbers said in none ns.0 (subst (λ xs. AreNumbers xs words) (sym ns.1) means.1),
  λ asked asks. let empty : words ≡ [] = cc in none Zero (subst (λ ws. AreNumbers [] ws) (sym empty) tt),
)
