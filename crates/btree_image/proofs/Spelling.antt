-- What is read is spelled so: bytes that are read as an image are its spelling.
use Rattle.std.proofs.Common.{◌≡◌, ℕ, zero, suc, ◌-◌, ◌^◌, ◌≤◌, Bool, true, false, cond, ltb, eqb, List, [], ◌∷◌, ◌++◌, length, take, drop, Option, Some, None, Result, Ok, Err, refl, sym, ap, subst, ◌∙◌, append_assoc, arith}
use Rattle.std.specs.Prelude.{⊤, ◌||◌}
use Rattle.std.specs.Int.{w64, from_be_bytes}
use Rattle.std.specs.List.{flat_map}
use Rattle.std.proofs.lemmas.Bool.{eqb-true, ltb-false}
use Rattle.std.proofs.lemmas.List.{append-nil, length-append, length-take, take-append-drop, take_at}
use Rattle.btree_item.specs.declared.TheConstants.{INTERNAL_SLOTS, LEAF_SLOTS}
use Rattle.btree_view.specs.Kept.{node_of}
use Rattle.btree_view.specs.View.{View}
use Rattle.btree_view.specs.View.{leaf, internal}
use Rattle.btree_image.specs.declared.TheConstants.{MAGIC, VERSION}
use Rattle.btree_image.specs.declared.fault.BadImage.{BadImage}
use Rattle.btree_image.specs.declared.fault.BadImage.TheVariants.{Count, Magic, Short, Sum, Trailing, Version}
use Rattle.btree_image.specs.declared.fault.Stop.{Stop}
use Rattle.btree_image.specs.declared.head.Head.{Head}
use Rattle.btree_image.specs.Image.{Image, body, branch, check_sum, number, place, spelling, word}
use Rattle.btree_spelled.specs.NumberLaws.{AreBytes-rest, AreBytes-take, wide64}
use Rattle.btree_spelled.specs.Pairs.{pair_bytes}
use Rattle.btree_image.specs.Reading.{◌>>=◌, body_at, branch_at, count_at, end_at, found, head_at, image_at, image_of, internal_at, internal_with, item_at, leaf_at, leaf_with, many, node_at, number_at, place_at, places_at, this_at, value_at, word_at}
use Rattle.btree_image.specs.Parse.{Parse}
use Rattle.btree_spelled.specs.Spelled.{AreBytes, Read, Takes}
use Rattle.btree_image.proofs.Again.{head_text}

-- what is read is spelled so
abbrev pub IsSpelledBy : {X : Type 0} → (X → List ℕ) → Parse X → Type 0
IsSpelledBy {X} spell parse = (bytes rest : List ℕ) (x : X) → AreBytes bytes → parse bytes ≡ Ok (x, rest) → bytes ≡ spell x ++ rest

-- what was read first, and what was read after it
pub record Parts {X Y : Type 0} (read : Result X Stop) (next : X → Result Y Stop) (y : Y) : Type 0 where
  pub first : X
  pub is : read ≡ Ok first
  pub after : next first ≡ Ok y

pub parts : {X Y : Type 0} (read : Result X Stop) (next : X → Result Y Stop) (y : Y) → (read >>= next) ≡ Ok y → Parts read next y
parts (Ok x) next y e = record { first = x; is = refl; after = e }
parts (Err s) next y e = absurd cc

abbrev ok : {X : Type 0} → X → Result X Stop
ok x = Ok x

pub ok_is : {X : Type 0} (x y : X) → ok x ≡ ok y → x ≡ y
ok_is x y e = cc

-- a test that stops where it holds
passed : {X : Type 0} (b : Bool) (s : Stop) (x y : X) → cond b (Err s) (Ok x) ≡ Ok y → (b ≡ false) × (x ≡ y)
passed true s x y e = absurd cc
passed false s x y e = (refl, cc)

-- a test that goes on where it holds
held : {X : Type 0} (b : Bool) (s : Stop) (x y : X) → cond b (Ok x) (Err s) ≡ Ok y → (b ≡ true) × (x ≡ y)
held true s x y e = (refl, cc)
held false s x y e = absurd cc

-- one piece after the other
joined : (bytes a middle b rest : List ℕ) → bytes ≡ a ++ middle → middle ≡ b ++ rest → bytes ≡ (a ++ b) ++ rest
joined bytes a middle b rest is next = is ∙ ap (λ (t : List ℕ). a ++ t) next ∙ sym (append_assoc a b rest)

left_bytes : (bytes a rest : List ℕ) → AreBytes bytes → bytes ≡ a ++ rest → AreBytes rest
left_bytes bytes a rest fits is = AreBytes-rest a rest (subst AreBytes is fits)

-- what was read is this
moved : {X : Type 0} (spell : X → List ℕ) (bytes : List ℕ) (x y : X × List ℕ) → bytes ≡ spell x.0 ++ x.1 → x ≡ y → bytes ≡ spell y.0 ++ y.1
moved {X} spell bytes x y is same = is ∙ ap (λ (z : X × List ℕ). spell z.0 ++ z.1) same

-- ---- words

pub word-spelled : IsSpelledBy word word_at
unfolding word_at
word-spelled bytes rest n fits e =
    let g = passed (ltb (length bytes) 8) (record { fault = Short; left = length bytes }) (from_be_bytes w64 (take 8 bytes), drop 8 bytes) (n, rest) e in
    let long : 8 ≤ length bytes = ltb-false _ _ g.0 in
    let back : word (from_be_bytes w64 (take 8 bytes)) ≡ take 8 bytes = wide64.back (take 8 bytes) (omega (arith, length-take 8 bytes)) (AreBytes-take 8 bytes fits) in
    let whole : bytes ≡ word (from_be_bytes w64 (take 8 bytes)) ++ drop 8 bytes = sym (take-append-drop 8 bytes) ∙ ap (λ (t : List ℕ). t ++ drop 8 bytes) (sym back) in
    moved word bytes (from_be_bytes w64 (take 8 bytes), drop 8 bytes) (n, rest) whole g.1

pub this-spelled : (wanted : ℕ) (fault : BadImage) → (bytes rest : List ℕ) (n : ℕ) → AreBytes bytes → this_at wanted fault bytes ≡ Ok (n, rest) → bytes ≡ word wanted ++ rest
unfolding this_at
this-spelled wanted fault bytes rest n fits e =
    let p = parts (word_at bytes) (λ m. cond (eqb m.0 wanted) (Ok m) (Err (record { fault = fault; left = length bytes }))) (n, rest) e in
    let g = held (eqb p.first.0 wanted) (record { fault = fault; left = length bytes }) p.first (n, rest) p.after in
    let same : p.first.0 ≡ wanted = eqb-true p.first.0 wanted g.0 in
    let after : p.first.1 ≡ rest = ap (λ (x : ℕ × List ℕ). x.1) g.1 in
    word-spelled bytes p.first.1 p.first.0 fits p.is ∙ ap (λ (m : ℕ). word m ++ p.first.1) same ∙ ap (λ (t : List ℕ). word wanted ++ t) after

number_is : (n : ℕ) (b : Bool) → eqb n (2 ^ 64 - 1) ≡ b → number (node_of n) ≡ word n
number_is n true e = rw e (ap word (sym (eqb-true n (2 ^ 64 - 1) e)))
number_is n false e = rw e refl

pub number-spelled : IsSpelledBy number number_at
unfolding number_at
number-spelled bytes rest o fits e =
    let p = parts (word_at bytes) (λ m. Ok (node_of m.0, m.1)) (o, rest) e in
    let text : bytes ≡ number (node_of p.first.0) ++ p.first.1 = word-spelled bytes p.first.1 p.first.0 fits p.is ∙ ap (λ (t : List ℕ). t ++ p.first.1) (sym (number_is p.first.0 (eqb p.first.0 (2 ^ 64 - 1)) refl)) in
    moved number bytes (node_of p.first.0, p.first.1) (o, rest) text (ok_is _ _ p.after)

pub count-spelled : (most : ℕ) → IsSpelledBy word (count_at most)
unfolding count_at
count-spelled most bytes rest n fits e =
    let p = parts (word_at bytes) (λ m. cond (eqb m.0 0 || ltb most m.0) (Err (record { fault = Count; left = length bytes })) (Ok m)) (n, rest) e in
    let g = passed (eqb p.first.0 0 || ltb most p.first.0) (record { fault = Count; left = length bytes }) p.first (n, rest) p.after in
    moved word bytes p.first (n, rest) (word-spelled bytes p.first.1 p.first.0 fits p.is) g.1

-- ---- values and lists

found_ok : {X : Type 0} (bytes : List ℕ) (o : Option (X × List ℕ)) (y : X × List ℕ) → found bytes o ≡ Ok y → o ≡ Some y
found_ok bytes None y e = absurd cc
found_ok bytes (Some x) y e = ap Some (ok_is x y e)

value-spelled : {X : Type 0} (spell : X → List ℕ) (read : Read X) → Takes spell read → IsSpelledBy spell (value_at read)
value-spelled spell read takes bytes rest x fits e = takes bytes rest x fits (found_ok bytes (read bytes) (x, rest) e)

many-spelled : {X : Type 0} (spell : X → List ℕ) (parse : ℕ → Parse X) → ((left : ℕ) → IsSpelledBy spell (parse left)) → (count : ℕ) (bytes rest : List ℕ) (xs : List X) → AreBytes bytes → many parse count bytes ≡ Ok (xs, rest)
    → (bytes ≡ flat_map spell xs ++ rest) × (length xs ≡ count)
unfolding many
many-spelled {X} spell parse one zero bytes rest xs fits e =
    let same : ([], bytes) ≡ (xs, rest) = ok_is _ _ e in
    (moved (flat_map spell) bytes ([], bytes) (xs, rest) refl same, ap (λ (z : List X × List ℕ). length z.0) (sym same))
many-spelled {X} spell parse one (suc n) bytes rest xs fits e =
    let p = parts (parse n bytes) (λ f. many parse n f.1 >>= λ o. Ok (f.0 ∷ o.0, o.1)) (xs, rest) e in
    let q = parts (many parse n p.first.1) (λ o. Ok (p.first.0 ∷ o.0, o.1)) (xs, rest) p.after in
    let is = one n bytes p.first.1 p.first.0 fits p.is in
    let others = many-spelled spell parse one n p.first.1 q.first.1 q.first.0 (left_bytes bytes (spell p.first.0) p.first.1 fits is) q.is in
    let same : (p.first.0 ∷ q.first.0, q.first.1) ≡ (xs, rest) = ok_is _ _ q.after in
    let text : bytes ≡ flat_map spell (p.first.0 ∷ q.first.0) ++ q.first.1 = joined bytes (spell p.first.0) p.first.1 (flat_map spell q.first.0) q.first.1 is others.0 in
    (moved (flat_map spell) bytes (p.first.0 ∷ q.first.0, q.first.1) (xs, rest) text same, ap (λ (z : List X × List ℕ). length z.0) (sym same) ∙ ap suc others.1)

-- ---- heads

pub head-spelled : IsSpelledBy head_text head_at
unfolding head_at
head-spelled bytes rest head fits e =
    let magic = parts (this_at MAGIC Magic bytes) _ (head, rest) e in
    let version = parts (this_at VERSION Version magic.first.1) _ (head, rest) magic.after in
    let root = parts (number_at version.first.1) _ (head, rest) version.after in
    let len = parts (word_at root.first.1) _ (head, rest) root.after in
    let limit = parts (word_at len.first.1) _ (head, rest) len.after in
    let count = parts (word_at limit.first.1) _ (head, rest) limit.after in
    let same = ok_is _ _ count.after in
    let a : bytes ≡ word MAGIC ++ magic.first.1 = this-spelled MAGIC Magic bytes magic.first.1 magic.first.0 fits magic.is in
    let a_left = left_bytes bytes (word MAGIC) magic.first.1 fits a in
    let b : magic.first.1 ≡ word VERSION ++ version.first.1 = this-spelled VERSION Version magic.first.1 version.first.1 version.first.0 a_left version.is in
    let b_left = left_bytes magic.first.1 (word VERSION) version.first.1 a_left b in
    let c : version.first.1 ≡ number root.first.0 ++ root.first.1 = number-spelled version.first.1 root.first.1 root.first.0 b_left root.is in
    let c_left = left_bytes version.first.1 (number root.first.0) root.first.1 b_left c in
    let d : root.first.1 ≡ word len.first.0 ++ len.first.1 = word-spelled root.first.1 len.first.1 len.first.0 c_left len.is in
    let d_left = left_bytes root.first.1 (word len.first.0) len.first.1 c_left d in
    let f : len.first.1 ≡ word limit.first.0 ++ limit.first.1 = word-spelled len.first.1 limit.first.1 limit.first.0 d_left limit.is in
    let f_left = left_bytes len.first.1 (word limit.first.0) limit.first.1 d_left f in
    let g : limit.first.1 ≡ word count.first.0 ++ count.first.1 = word-spelled limit.first.1 count.first.1 count.first.0 f_left count.is in
    let t1 = joined bytes (word MAGIC) magic.first.1 (word VERSION) version.first.1 a b in
    let t2 = joined bytes (word MAGIC ++ word VERSION) version.first.1 (number root.first.0) root.first.1 t1 c in
    let t3 = joined bytes (word MAGIC ++ word VERSION ++ number root.first.0) root.first.1 (word len.first.0) len.first.1 t2 d in
    let t4 = joined bytes (word MAGIC ++ word VERSION ++ number root.first.0 ++ word len.first.0) len.first.1 (word limit.first.0) limit.first.1 t3 f in
    let text = joined bytes (word MAGIC ++ word VERSION ++ number root.first.0 ++ word len.first.0 ++ word limit.first.0) limit.first.1 (word count.first.0) count.first.1 t4 g in
    moved head_text bytes (record { root = root.first.0; len = len.first.0; limit = limit.first.0; count = count.first.0 }, count.first.1) (head, rest) text same

-- ---- nodes and places

module _ {K V : Type 0} (spell_key : K → List ℕ) (spell_value : V → List ℕ) (read_key : Read K) (read_value : Read V) (key_takes : Takes spell_key read_key) (value_takes : Takes spell_value read_value) where
  abbrev spell : K × V → List ℕ
  spell = pair_bytes spell_key spell_value

  item-spelled : IsSpelledBy spell (item_at read_key read_value)
  unfolding item_at
  item-spelled bytes rest x fits e =
      let key = parts (value_at read_key bytes) _ (x, rest) e in
      let value = parts (value_at read_value key.first.1) _ (x, rest) key.after in
      let a = value-spelled spell_key read_key key_takes bytes key.first.1 key.first.0 fits key.is in
      let b = value-spelled spell_value read_value value_takes key.first.1 value.first.1 value.first.0 (left_bytes bytes (spell_key key.first.0) key.first.1 fits a) value.is in
      moved spell bytes ((key.first.0, value.first.0), value.first.1) (x, rest) (joined bytes (spell_key key.first.0) key.first.1 (spell_value value.first.0) value.first.1 a b) (ok_is _ _ value.after)

  branch-spelled : IsSpelledBy (branch spell) (branch_at read_key read_value)
  unfolding branch_at
  branch-spelled bytes rest x fits e =
      let item = parts (item_at read_key read_value bytes) _ (x, rest) e in
      let child = parts (word_at item.first.1) _ (x, rest) item.after in
      let a = item-spelled bytes item.first.1 item.first.0 fits item.is in
      let b = word-spelled item.first.1 child.first.1 child.first.0 (left_bytes bytes (spell item.first.0) item.first.1 fits a) child.is in
      moved (branch spell) bytes ((item.first.0, child.first.0), child.first.1) (x, rest) (joined bytes (spell item.first.0) item.first.1 (word child.first.0) child.first.1 a b) (ok_is _ _ child.after)

  -- a kind and what follows it are the bytes of a leaf
  leaf-spelled : (after rest : List ℕ) (node : View (K × V)) → AreBytes after → leaf_at read_key read_value after ≡ Ok (node, rest) → word 1 ++ after ≡ place spell (Some node) ++ rest
  unfolding leaf_at leaf_with
  leaf-spelled after rest node fits e =
      let parent = parts (number_at after) _ (node, rest) e in
      let count = parts (count_at LEAF_SLOTS parent.first.1) _ (node, rest) parent.after in
      let items = parts (many (λ left. item_at read_key read_value) count.first.0 count.first.1) _ (node, rest) count.after in
      let a = number-spelled after parent.first.1 parent.first.0 fits parent.is in
      let a_left = left_bytes after (number parent.first.0) parent.first.1 fits a in
      let b = count-spelled LEAF_SLOTS parent.first.1 count.first.1 count.first.0 a_left count.is in
      let c = many-spelled spell (λ left. item_at read_key read_value) (λ left. item-spelled) count.first.0 count.first.1 items.first.1 items.first.0 (left_bytes parent.first.1 (word count.first.0) count.first.1 a_left b) items.is in
      let b_long : parent.first.1 ≡ word (length items.first.0) ++ count.first.1 = b ∙ ap (λ (n : ℕ). word n ++ count.first.1) (sym c.1) in
      let t1 = joined after (number parent.first.0) parent.first.1 (word (length items.first.0)) count.first.1 a b_long in
      let text = joined after (number parent.first.0 ++ word (length items.first.0)) count.first.1 (flat_map spell items.first.0) items.first.1 t1 c.0 in
      moved (λ v. place spell (Some v)) (word 1 ++ after) (leaf parent.first.0 items.first.0, items.first.1) (node, rest) (ap (λ (t : List ℕ). word 1 ++ t) text) (ok_is _ _ items.after)

  internal-spelled : (after rest : List ℕ) (node : View (K × V)) → AreBytes after → internal_at read_key read_value after ≡ Ok (node, rest) → word 2 ++ after ≡ place spell (Some node) ++ rest
  unfolding internal_at internal_with
  internal-spelled after rest node fits e =
      let parent = parts (number_at after) _ (node, rest) e in
      let count = parts (count_at INTERNAL_SLOTS parent.first.1) _ (node, rest) parent.after in
      let first = parts (word_at count.first.1) _ (node, rest) count.after in
      let branches = parts (many (λ left. branch_at read_key read_value) count.first.0 first.first.1) _ (node, rest) first.after in
      let a = number-spelled after parent.first.1 parent.first.0 fits parent.is in
      let a_left = left_bytes after (number parent.first.0) parent.first.1 fits a in
      let b = count-spelled INTERNAL_SLOTS parent.first.1 count.first.1 count.first.0 a_left count.is in
      let b_left = left_bytes parent.first.1 (word count.first.0) count.first.1 a_left b in
      let c = word-spelled count.first.1 first.first.1 first.first.0 b_left first.is in
      let d = many-spelled (branch spell) (λ left. branch_at read_key read_value) (λ left. branch-spelled) count.first.0 first.first.1 branches.first.1 branches.first.0 (left_bytes count.first.1 (word first.first.0) first.first.1 b_left c) branches.is in
      let b_long : parent.first.1 ≡ word (length branches.first.0) ++ count.first.1 = b ∙ ap (λ (n : ℕ). word n ++ count.first.1) (sym d.1) in
      let t1 = joined after (number parent.first.0) parent.first.1 (word (length branches.first.0)) count.first.1 a b_long in
      let t2 = joined after (number parent.first.0 ++ word (length branches.first.0)) count.first.1 (word first.first.0) first.first.1 t1 c in
      let text = joined after (number parent.first.0 ++ word (length branches.first.0) ++ word first.first.0) first.first.1 (flat_map (branch spell) branches.first.0) branches.first.1 t2 d.0 in
      moved (λ v. place spell (Some v)) (word 2 ++ after) (internal parent.first.0 first.first.0 branches.first.0, branches.first.1) (node, rest) (ap (λ (t : List ℕ). word 2 ++ t) text) (ok_is _ _ branches.after)

  node-spelled : (is_last : Bool) (all : List ℕ) (kind : ℕ) (after rest : List ℕ) (p : Option (View (K × V))) → AreBytes after → all ≡ word kind ++ after → node_at read_key read_value is_last all kind after ≡ Ok (p, rest) → all ≡ place spell p ++ rest
  node-spelled true all zero after rest p fits is e = absurd cc
  node-spelled false all zero after rest p fits is e = moved (place spell) all (None, after) (p, rest) is (ok_is _ _ e)
  node-spelled is_last all (suc zero) after rest p fits is e =
      let node = parts (leaf_at read_key read_value after) (λ n. Ok (Some n.0, n.1)) (p, rest) e in
      moved (place spell) all (Some node.first.0, node.first.1) (p, rest) (is ∙ leaf-spelled after node.first.1 node.first.0 fits node.is) (ok_is _ _ node.after)
  node-spelled is_last all (suc (suc zero)) after rest p fits is e =
      let node = parts (internal_at read_key read_value after) (λ n. Ok (Some n.0, n.1)) (p, rest) e in
      moved (place spell) all (Some node.first.0, node.first.1) (p, rest) (is ∙ internal-spelled after node.first.1 node.first.0 fits node.is) (ok_is _ _ node.after)
  node-spelled is_last all (suc (suc (suc n))) after rest p fits is e = absurd cc

  place-spelled : (is_last : Bool) → IsSpelledBy (place spell) (place_at read_key read_value is_last)
  unfolding place_at
  place-spelled is_last bytes rest p fits e =
      let kind = parts (word_at bytes) _ (p, rest) e in
      let a = word-spelled bytes kind.first.1 kind.first.0 fits kind.is in
      node-spelled is_last bytes kind.first.0 kind.first.1 rest p (left_bytes bytes (word kind.first.0) kind.first.1 fits a) a kind.after

  -- ---- the whole

  body_is : (head : Head) (ps : List (Option (View (K × V)))) → length ps ≡ head.count → head_text head ++ flat_map (place spell) ps ≡ body spell (image_of head ps)
  body_is head ps long = ap (λ (n : ℕ). word MAGIC ++ word VERSION ++ number head.root ++ word head.len ++ word head.limit ++ word n ++ flat_map (place spell) ps) (sym long)

  body-spelled : IsSpelledBy (body spell) (body_at read_key read_value)
  unfolding body_at
  body-spelled bytes rest i fits e =
      let head = parts (head_at bytes) _ (i, rest) e in
      let places = parts (places_at read_key read_value head.first.0.count head.first.1) _ (i, rest) head.after in
      let a = head-spelled bytes head.first.1 head.first.0 fits head.is in
      let b = many-spelled (place spell) (λ left. place_at read_key read_value (eqb left 0)) (λ left. place-spelled (eqb left 0)) head.first.0.count head.first.1 places.first.1 places.first.0 (left_bytes bytes (head_text head.first.0) head.first.1 fits a) places.is in
      let text = joined bytes (head_text head.first.0) head.first.1 (flat_map (place spell) places.first.0) places.first.1 a b.0 ∙ ap (λ (t : List ℕ). t ++ places.first.1) (body_is head.first.0 places.first.0 b.1) in
      moved (body spell) bytes (image_of head.first.0 places.first.0, places.first.1) (i, rest) text (ok_is _ _ places.after)

  no_length : (xs : List ℕ) → length xs ≡ 0 → xs ≡ []
  no_length [] e = refl
  no_length (x ∷ xs) e = absurd (omega arith)

  end-spelled : (bytes text tail : List ℕ) (x : ⊤) → AreBytes tail → bytes ≡ text ++ tail → end_at bytes tail ≡ Ok x → bytes ≡ text ++ word (check_sum text)
  unfolding end_at
  end-spelled bytes text tail x fits is e =
      let front : take (length bytes - length tail) bytes ≡ text = ap (λ (b : List ℕ). take (length b - length tail) b) is ∙ take_at text tail (length (text ++ tail) - length tail) (omega (arith, length-append text tail)) in
      let sum = parts (this_at (check_sum (take (length bytes - length tail) bytes)) Sum tail) _ x e in
      let g = held (eqb (length sum.first.1) 0) (record { fault = Trailing; left = length sum.first.1 }) tt x sum.after in
      let none : sum.first.1 ≡ [] = no_length sum.first.1 (eqb-true (length sum.first.1) 0 g.0) in
      let read = this-spelled (check_sum (take (length bytes - length tail) bytes)) Sum tail sum.first.1 sum.first.0 fits sum.is in
      let alone : tail ≡ word (check_sum text) = read ∙ ap (λ (r : List ℕ). word (check_sum (take (length bytes - length tail) bytes)) ++ r) none ∙ append-nil _ ∙ ap (λ (t : List ℕ). word (check_sum t)) front in
      is ∙ ap (λ (t : List ℕ). text ++ t) alone

  -- bytes that are read as an image are its spelling
  pub image-spelled : (bytes : List ℕ) (i : Image (K × V)) → AreBytes bytes → image_at read_key read_value bytes ≡ Ok i → bytes ≡ spelling spell i
  unfolding image_at
  image-spelled bytes i fits e =
      let read = parts (body_at read_key read_value bytes) _ i e in
      let end = parts (end_at bytes read.first.1) _ i read.after in
      let a = body-spelled bytes read.first.1 read.first.0 fits read.is in
      end-spelled bytes (body spell read.first.0) read.first.1 end.first (left_bytes bytes (body spell read.first.0) read.first.1 fits a) a end.is ∙ ap (spelling spell) (ok_is read.first.0 i end.after)
