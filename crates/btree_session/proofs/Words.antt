-- The words of a text, one after another.
use Rattle.btree_session.proofs.Common.{◌≡◌, ℕ, ◌+◌, ◌<◌, ◌≤◌, Bool, true, false, cond, List, [], ◌∷◌, take, drop, length, get_or, refl, sym, ap, ◌∙◌, inl, inr, arith, take_all, common_steps}
use Rattle.std.proofs.Common.{not, length-drop}
use Rattle.std.specs.Prelude.{filter, nat_lt, position, unwrap_or}
use Rattle.std.specs.List.{slice_split, position_or_len, before_first, after_first}
use Rattle.std.proofs.lemmas.List.{drop_all, drop_more}
use Rattle.std.proofs.lemmas.List.Splits.{slice_split_none, slice_split_first, slice_split-cons_yes}
use Rattle.std.proofs.lemmas.List.Sums.{passes_at_first, fails_before_first, prefix_len-le-length}
use Rattle.std.proofs.lemmas.Bool.{cases_lt}
use Rattle.btree_session.specs.Line.{is_space, words_of}

-- the index of the first element that passes, or the length
unwrap_or-position : {X : Type 0} (p : X → Bool) (xs : List X) → unwrap_or (position p xs) (length xs) ≡ position_or_len p xs
unwrap_or-position p xs = grind (arith, prefix_len-le-length (λ x. not (p x)) xs)

-- a space at the front changes no word
words_of-space : (byte : ℕ) (text : List ℕ) → is_space byte ≡ true → words_of (byte ∷ text) ≡ words_of text
words_of-space byte text space = ap (filter (λ word. nat_lt 0 (length word))) (slice_split-cons_yes is_space byte text space)

drop-space : (b : Bool) (byte n : ℕ) (text : List ℕ) → is_space byte ≡ b → words_of (drop n text) ≡ words_of text → words_of (drop (cond (not (not b)) (1 + n) 0) (byte ∷ text)) ≡ words_of (byte ∷ text)
drop-space true byte n text space rest =
    let one : drop (1 + n) (byte ∷ text) ≡ drop n text = grind (arith, common_steps) in ap words_of one ∙ rest ∙ sym (words_of-space byte text space)
drop-space false byte n text space rest = refl

-- nor do several
words_of-drop : (text : List ℕ) → words_of (drop (position_or_len (λ byte. not (is_space byte)) text) text) ≡ words_of text
words_of-drop [] = refl
words_of-drop (byte ∷ text) = drop-space (is_space byte) byte (position_or_len (λ byte. not (is_space byte)) text) text refl (words_of-drop text)

is_kept : (part : List ℕ) (parts : List (List ℕ)) → 0 < length part → filter (λ word. nat_lt 0 (length word)) (part ∷ parts) ≡ part ∷ filter (λ word. nat_lt 0 (length word)) parts
is_kept part parts long = grind arith

long_enough : (text : List ℕ) (n : ℕ) → 0 < n → n ≤ length text → 0 < length (take n text)
long_enough text n long within = grind (arith, common_steps)

at_space : (text : List ℕ) → position_or_len is_space text < length text → words_of (drop (position_or_len is_space text) text) ≡ words_of (after_first is_space text)
at_space text within =
    ap words_of (drop_more text (position_or_len is_space text) 0 within)
    ∙ words_of-space (get_or text (position_or_len is_space text) 0) (after_first is_space text) (passes_at_first is_space text 0 within)

-- a word ends at the first space
word_before : (text : List ℕ) → 0 < position_or_len is_space text → position_or_len is_space text < length text
    → words_of text ≡ before_first is_space text ∷ words_of (drop (position_or_len is_space text) text)
word_before text long within =
    ap (filter (λ word. nat_lt 0 (length word))) (slice_split_first is_space text 0 within)
    ∙ is_kept (before_first is_space text) (slice_split is_space (after_first is_space text)) (long_enough text (position_or_len is_space text) long (omega arith))
    ∙ ap (λ rest. before_first is_space text ∷ rest) (sym (at_space text within))

-- or at the end of the text
last_word : (text : List ℕ) → 0 < position_or_len is_space text → length text ≤ position_or_len is_space text
    → words_of text ≡ before_first is_space text ∷ words_of (drop (position_or_len is_space text) text)
last_word text long past =
    let same : position_or_len is_space text ≡ length text = omega (arith, prefix_len-le-length (λ byte. not (is_space byte)) text) in
    let one_part = slice_split_none is_space text (λ k d inside. fails_before_first is_space text k d (omega arith)) in
    let rest : words_of (drop (position_or_len is_space text) text) ≡ [] = ap words_of (drop_all (position_or_len is_space text) text past) in
    ap (filter (λ word. nat_lt 0 (length word))) one_part
    ∙ is_kept text [] (omega arith)
    ∙ ap (λ word. word ∷ []) (sym (take_all (position_or_len is_space text) text past))
    ∙ ap (λ words. before_first is_space text ∷ words) (sym rest)

word_at : (text : List ℕ) → 0 < position_or_len is_space text → words_of text ≡ before_first is_space text ∷ words_of (drop (position_or_len is_space text) text)
word_at text long = elim (cases_lt (position_or_len is_space text) (length text)) [
  | inl within ↦ word_before text long within
  | inr past ↦ last_word text long past
]

-- the text from its first word on
from_word : (text : List ℕ) (spaces : ℕ) → spaces ≡ unwrap_or (position (λ byte. not (is_space byte)) text) (length text) → words_of text ≡ words_of (drop spaces text)
from_word text spaces is_spaces =
    let place : spaces ≡ position_or_len (λ byte. not (is_space byte)) text = is_spaces ∙ unwrap_or-position (λ byte. not (is_space byte)) text in
    sym (words_of-drop text) ∙ ap (λ n. words_of (drop n text)) (sym place)

begins_word : (byte : ℕ) (text : List ℕ) → not (is_space byte) ≡ true → 0 < position_or_len is_space (byte ∷ text)
begins_word byte text word = rw word (omega arith)

at_word : (text : List ℕ) (spaces : ℕ) → spaces ≡ unwrap_or (position (λ byte. not (is_space byte)) text) (length text)
    → 0 < length (drop spaces text) → 0 < position_or_len is_space (drop spaces text)
at_word text spaces is_spaces some =
    let place : spaces ≡ position_or_len (λ byte. not (is_space byte)) text = is_spaces ∙ unwrap_or-position (λ byte. not (is_space byte)) text in
    let within : spaces < length text = omega (arith, length-drop spaces text) in
    let word : not (is_space (get_or text spaces 0)) ≡ true = rw place (passes_at_first (λ byte. not (is_space byte)) text 0 (omega arith)) in
    rw (drop_more text spaces 0 within) (begins_word (get_or text spaces 0) (drop (spaces + 1) text) word)

-- nothing but spaces
pub no_word : (text : List ℕ) (spaces : ℕ) → spaces ≡ unwrap_or (position (λ byte. not (is_space byte)) text) (length text)
    → length (drop spaces text) ≡ 0 → words_of text ≡ []
no_word text spaces is_spaces none =
    from_word text spaces is_spaces ∙ ap words_of (drop_all spaces text (omega (arith, length-drop spaces text)))

-- a word after spaces
pub word_behind : (text : List ℕ) (spaces len : ℕ) → spaces ≡ unwrap_or (position (λ byte. not (is_space byte)) text) (length text)
    → 0 < length (drop spaces text) → len ≡ unwrap_or (position is_space (drop spaces text)) (length (drop spaces text))
    → words_of text ≡ take len (drop spaces text) ∷ words_of (drop len (drop spaces text))
word_behind text spaces len is_spaces some is_len =
    let place : len ≡ position_or_len is_space (drop spaces text) = is_len ∙ unwrap_or-position is_space (drop spaces text) in
    from_word text spaces is_spaces ∙ word_at (drop spaces text) (at_word text spaces is_spaces some)
    ∙ ap (λ n. take n (drop spaces text) ∷ words_of (drop n (drop spaces text))) (sym place)
