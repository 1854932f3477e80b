-- The lines of a text, one after another.
use Rattle.btree_session.proofs.Common.{◌≡◌, ℕ, ◌<◌, Bool, true, false, cond, List, [], ◌∷◌, ◌++◌, length, length-append, get_or, take, drop, zero, suc, refl, sym, ap, ◌∙◌, inl, inr, arith, common_steps}
use Rattle.std.specs.Prelude.{◌==◌}
use Rattle.std.specs.List.{slice_split, onto_first}
use Rattle.std.specs.Io.BufRead.{take_through, drop_through, strip_last}
use Rattle.std.proofs.lemmas.Bool.{cases_Bool}
use Rattle.std.proofs.lemmas.List.Splits.{length-slice_split}
use Rattle.btree_session.specs.Script.{is_newline, lines_among, lines_of}

lines_among-cons : (part : List ℕ) (parts : List (List ℕ)) → 0 < length parts → lines_among (part ∷ parts) ≡ part ∷ lines_among parts
lines_among-cons part [] some = absurd (omega arith)
lines_among-cons part (next ∷ parts) some = refl

-- one more byte before the first line
lines_among-onto : (byte : ℕ) (parts : List (List ℕ)) (line : List ℕ) (lines : List (List ℕ)) → lines_among parts ≡ line ∷ lines → lines_among (onto_first byte parts) ≡ (byte ∷ line) ∷ lines
lines_among-onto byte [] line lines is = cc
lines_among-onto byte ([] ∷ []) line lines is = cc
lines_among-onto byte ((c ∷ part) ∷ []) line lines is = cc
lines_among-onto byte (part ∷ next ∷ parts) line lines is = cc

strip_last-next : (byte c d : ℕ) (cs : List ℕ) → strip_last byte (c ∷ d ∷ cs) ≡ c ∷ strip_last byte (d ∷ cs)
strip_last-next byte c d cs = grind (arith, common_steps)

strip_last-cons : (byte c : ℕ) (cs : List ℕ) → 0 < length cs → strip_last byte (c ∷ cs) ≡ c ∷ strip_last byte cs
strip_last-cons byte c [] some = absurd (omega arith)
strip_last-cons byte c (d ∷ cs) some = strip_last-next byte c d cs

strip_last-same : (byte : ℕ) → strip_last byte (byte ∷ []) ≡ []
strip_last-same byte = grind arith

strip_last-other : (byte c : ℕ) → (c == byte) ≡ false → strip_last byte (c ∷ []) ≡ c ∷ []
strip_last-other byte c other = grind arith

-- the line that a newline ends
newline_first : (byte : ℕ) (text : List ℕ) → is_newline byte ≡ true → lines_of (byte ∷ text) ≡ strip_last 10 (take_through 10 (byte ∷ text)) ∷ lines_of (drop_through 10 (byte ∷ text))
newline_first byte text newline =
    let taken : take_through 10 (byte ∷ text) ≡ byte ∷ [] = rw newline refl in
    let dropped : drop_through 10 (byte ∷ text) ≡ text = rw newline refl in
    let parts : slice_split is_newline (byte ∷ text) ≡ [] ∷ slice_split is_newline text = rw newline refl in
    let ten : byte ≡ 10 = grind arith in
    ap lines_among parts ∙ lines_among-cons [] (slice_split is_newline text) (omega (arith, length-slice_split is_newline text))
    ∙ ap (λ line. line ∷ lines_of text) (sym (strip_last-same 10) ∙ ap (λ c. strip_last 10 (c ∷ [])) (sym ten) ∙ ap (strip_last 10) (sym taken))
    ∙ ap (λ rest. strip_last 10 (take_through 10 (byte ∷ text)) ∷ lines_of rest) (sym dropped)

some_taken : (b : Bool) (byte : ℕ) (taken : List ℕ) → 0 < length (cond b (byte ∷ []) (byte ∷ taken))
some_taken true byte taken = omega arith
some_taken false byte taken = omega arith

-- a byte before a line
other_first : (byte : ℕ) (text : List ℕ) → is_newline byte ≡ false → (0 < length text → lines_of text ≡ strip_last 10 (take_through 10 text) ∷ lines_of (drop_through 10 text))
    → lines_of (byte ∷ text) ≡ strip_last 10 (take_through 10 (byte ∷ text)) ∷ lines_of (drop_through 10 (byte ∷ text))
other_first byte [] other rest =
    let taken : take_through 10 (byte ∷ []) ≡ byte ∷ [] = rw other refl in
    let dropped : drop_through 10 (byte ∷ []) ≡ [] = rw other refl in
    let parts : slice_split is_newline (byte ∷ []) ≡ (byte ∷ []) ∷ [] = rw other refl in
    ap lines_among parts
    ∙ ap (λ line. line ∷ []) (sym (strip_last-other 10 byte other) ∙ ap (strip_last 10) (sym taken))
    ∙ ap (λ left. strip_last 10 (take_through 10 (byte ∷ [])) ∷ lines_of left) (sym dropped)
other_first byte (next ∷ text) other rest =
    let taken : take_through 10 (byte ∷ next ∷ text) ≡ byte ∷ take_through 10 (next ∷ text) = rw other refl in
    let dropped : drop_through 10 (byte ∷ next ∷ text) ≡ drop_through 10 (next ∷ text) = rw other refl in
    let parts : slice_split is_newline (byte ∷ next ∷ text) ≡ onto_first byte (slice_split is_newline (next ∷ text)) = rw other refl in
    ap lines_among parts
    ∙ lines_among-onto byte (slice_split is_newline (next ∷ text)) (strip_last 10 (take_through 10 (next ∷ text))) (lines_of (drop_through 10 (next ∷ text))) (rest (omega arith))
    ∙ ap (λ line. line ∷ lines_of (drop_through 10 (next ∷ text)))
    (sym (strip_last-cons 10 byte (take_through 10 (next ∷ text)) (some_taken (is_newline next) next (take_through 10 text))) ∙ ap (strip_last 10) (sym taken))
    ∙ ap (λ left. strip_last 10 (take_through 10 (byte ∷ next ∷ text)) ∷ lines_of left) (sym dropped)

-- a text with a byte begins with a line
pub lines_of-cons : (text : List ℕ) → 0 < length text → lines_of text ≡ strip_last 10 (take_through 10 text) ∷ lines_of (drop_through 10 text)
lines_of-cons [] some = absurd (omega arith)
lines_of-cons (byte ∷ text) some = elim (cases_Bool (is_newline byte)) [
  | inl newline ↦ newline_first byte text newline
  | inr other ↦ other_first byte text other (lines_of-cons text)
]

some_through : (text : List ℕ) → 0 < length text → 0 < length (take_through 10 text)
some_through [] some = some
some_through (byte ∷ text) some = some_taken (is_newline byte) byte (take_through 10 text)

-- the first newline of a front ends the first line
pub cut_at_newline : (front behind : List ℕ) (len : ℕ) → len < length front → is_newline (get_or front len 0) ≡ true → ((k : ℕ) → k < len → is_newline (get_or front k 0) ≡ false)
    → (take len front ≡ strip_last 10 (take_through 10 (front ++ behind))) × (drop (suc len) (front ++ behind) ≡ drop_through 10 (front ++ behind))
cut_at_newline [] behind len within newline before = absurd (omega arith)
cut_at_newline (byte ∷ front) behind zero within newline before =
    let taken : take_through 10 (byte ∷ (front ++ behind)) ≡ byte ∷ [] = rw newline refl in
    let dropped : drop_through 10 (byte ∷ (front ++ behind)) ≡ front ++ behind = rw newline refl in
    let ten : byte ≡ 10 = grind arith in
    (sym (strip_last-same 10) ∙ ap (λ c. strip_last 10 (c ∷ [])) (sym ten) ∙ ap (strip_last 10) (sym taken), sym dropped)
cut_at_newline (byte ∷ front) behind (suc len) within newline before =
    let other : is_newline byte ≡ false = before zero (omega arith) in
    let taken : take_through 10 (byte ∷ (front ++ behind)) ≡ byte ∷ take_through 10 (front ++ behind) = rw other refl in
    let dropped : drop_through 10 (byte ∷ (front ++ behind)) ≡ drop_through 10 (front ++ behind) = rw other refl in
    let rest = cut_at_newline front behind len (omega arith) newline (λ k below. before (suc k) (omega arith)) in
    let some : 0 < length (take_through 10 (front ++ behind)) = some_through (front ++ behind) (omega (arith, length-append front behind)) in
    (ap (λ line. byte ∷ line) rest.0 ∙ sym (strip_last-cons 10 byte (take_through 10 (front ++ behind)) some) ∙ ap (strip_last 10) (sym taken), rest.1 ∙ sym dropped)
