-- The arguments of the program.
use Rattle.std.specs.Prelude.{◌≡◌, ◌-◌, ◌^◌, ℕ, Bool, true, false, List, [], ◌∷◌, map, codes}
use Rattle.std.specs.Borrow.{Bor}
use Rattle.btree_session.specs.Line.{IsNumber}

-- the texts that references lead to
abbrev pub texts : List (Bor (List ℕ)) → List (List ℕ)
texts words = map (λ word. word.now) words

-- the words ask for this limit: the word `limit` and a number, or no words for the greatest number
abbrev pub AsksLimit : (limit : ℕ) → List (List ℕ) → Type 0
AsksLimit limit [] = limit ≡ 2 ^ 64 - 1
AsksLimit limit (word ∷ []) = ⊥
AsksLimit limit (word ∷ digits ∷ []) = (word ≡ codes "limit") × IsNumber limit digits
AsksLimit limit (word ∷ digits ∷ other ∷ words) = ⊥

-- the words ask for a table or not, and for this limit
abbrev pub Asks : (table : Bool) (limit : ℕ) → List (List ℕ) → Type 0
Asks false limit words = AsksLimit limit words
Asks true limit [] = ⊥
Asks true limit (word ∷ words) = (word ≡ codes "table") × AsksLimit limit words
