-- Runs of a test over the pairs that a cursor has left, call by call.
use Rattle.btree_map.proofs.Common.{◌≡◌, ◌∙◌, ℕ, zero, suc, ◌+◌, ◌<◌, Bool, true, false, not, List, [], ◌∷◌, ◌++◌, Some, length, ◌≤◌, slice_get, refl, sym, ap, subst, arith, drop, take, append_assoc, item_addresses_of, TreeState, pairs_of, Ends, entry_front, left_of, passed_of, EntriesMut}
use Rattle.std.proofs.Common.{append-nil}
use mathlib.Core.Bool.{beq}
use Rattle.std.specs.Map.Calls.{CallableOnEachPair}
use Rattle.std.specs.declared.cmp.Ord as ord
use Rattle.std.specs.declared.cmp.PartialEq as eq
use Rattle.std.specs.declared.cmp.PartialOrd as partial
use Rattle.btree_node.specs.declared.node_stores.Nodes as nodes
use Rattle.btree_node.specs.declared.node_stores.NodesMut as nodes_mut
use Rattle.btree_map.specs.Drain.{Asks, AsksFirst, KeepsAddresses, RunsOut, RunsTest, Selects, if_same, picked}
use Rattle.btree_map.specs.Editing.{PassesEntry, RemovesEntry}

pub same-answer : (a b : Bool) → beq a b ≡ true → a ≡ b
same-answer true true e = refl
same-answer true false e = sym e
same-answer false true e = e
same-answer false false e = refl

pub other-answer : (a b : Bool) → beq a b ≡ false → a ≡ not b
other-answer true true e = e
other-answer true false e = refl
other-answer false true e = refl
other-answer false false e = sym e

module _ {X : Type 0} where
  pub cons-head : {x y : X} {xs ys : List X} → x ∷ xs ≡ y ∷ ys → Some x ≡ Some y
  cons-head e = cc

  pub cons-tail : {x y : X} {xs ys : List X} → x ∷ xs ≡ y ∷ ys → xs ≡ ys
  cons-tail e = cc

  same-one : {x y : X} → Some x ≡ Some y → x ≡ y
  same-one e = cc

  pub head-is : (xs : List X) (x : X) → slice_get xs 0 ≡ Some x → (rest : List X) × (xs ≡ x ∷ rest)
  head-is [] x is = absurd (cc)
  head-is (y ∷ xs) x is = (xs, ap (λ z. z ∷ xs) (same-one is))

  pub none-left : (xs : List X) → length xs ≤ 0 → xs ≡ []
  none-left [] low = refl
  none-left (x ∷ xs) low = absurd (omega arith)

module _ {K V : Type 0} where
  picked-one : (answer b : Bool) (x : K × V) (xs ys : List (K × V)) → if_same answer b x (xs ++ ys) ≡ if_same answer b x xs ++ ys
  picked-one true true x xs ys = refl
  picked-one true false x xs ys = refl
  picked-one false true x xs ys = refl
  picked-one false false x xs ys = refl

  pub picked-more : (answer : Bool) (asked more : List (Bool × (K × V))) → picked answer (asked ++ more) ≡ picked answer asked ++ picked answer more
  picked-more answer [] more = refl
  picked-more answer ((b, x) ∷ asked) more = ap (if_same answer b x) (picked-more answer asked more) ∙ picked-one answer b x (picked answer asked) (picked answer more)

  picked-same : (answer : Bool) (x : K × V) → picked answer ((answer, x) ∷ []) ≡ x ∷ []
  picked-same true x = refl
  picked-same false x = refl

  picked-not : (answer : Bool) (x : K × V) → picked (not answer) ((answer, x) ∷ []) ≡ []
  picked-not true x = refl
  picked-not false x = refl

  picked-other : (answer : Bool) (x : K × V) → picked answer ((not answer, x) ∷ []) ≡ []
  picked-other true x = refl
  picked-other false x = refl

  pub still-none : (asked : List (Bool × (K × V))) (x : K × V) → picked true asked ≡ [] → picked true (asked ++ (false, x) ∷ []) ≡ []
  still-none asked x none = picked-more true asked ((false, x) ∷ []) ∙ append-nil _ ∙ none

  -- each pair that was asked has one of the two answers
  pub answers : (asked : List (Bool × (K × V))) → length (picked true asked) + length (picked false asked) ≡ length asked
  answers [] = refl
  answers ((true, x) ∷ asked) = let more = answers asked in omega (arith, more)
  answers ((false, x) ∷ asked) = let more = answers asked in omega (arith, more)

  more-than-none : (xs : List (K × V)) (x : K × V) → xs ++ x ∷ [] ≡ [] → ⊥
  more-than-none [] x e = cc
  more-than-none (y ∷ xs) x e = cc

module _ {F K V : Type 0} (Step : F → K → V → Bool → V → F → Type 0) where
  asks-more : (f f1 f2 : F) (es : List (K × V)) (asked : List (Bool × (K × V))) (k : K) (v w : V) (b : Bool)
      → Asks Step f es asked f1 → Step f1 k v b w f2 → Asks Step f (es ++ (k, v) ∷ []) (asked ++ (b, (k, w)) ∷ []) f2
  asks-more f f1 f2 [] asked k v w b run step =
      (b, w, f2, [], subst (λ z. Step z k v b w f2) run.1 step, (refl, refl), ap (λ (l : List (Bool × (K × V))). l ++ (b, (k, w)) ∷ []) run.0)
  asks-more f f1 f2 (e ∷ es) asked k v w b (b', u, f3, more, first, rest, is) step =
      (b', u, f3, more ++ (b, (k, w)) ∷ [], first, asks-more f3 f1 f2 es more k v w b rest step, ap (λ (l : List (Bool × (K × V))). l ++ (b, (k, w)) ∷ []) is)

  asked-each : (f f' : F) (es : List (K × V)) (asked : List (Bool × (K × V))) → Asks Step f es asked f' → length asked ≡ length es
  asked-each f f' [] asked run = ap length run.0
  asked-each f f' (e ∷ es) asked (b, w, f1, more, first, rest, is) =
      let whole = ap length is in
      let each = asked-each f1 f' es more rest in
      omega (arith, whole, each)

  pub runs-start : (takes : Bool) (f : F) (t : TreeState K V) (n : ℕ) → RunsTest Step takes f f t n t n []
  runs-start takes f t n = record {
    here = [];
    left = refl;
    calls = (refl, refl);
    passed = sym (append-nil _);
    uncounted = refl;
    addresses = λ none. refl;
  }

  module _ {Accepts : F → K → V → Type 0} where
    pub first-accepts : (f : F) (es : List (K × V)) (k : K) (v : V) (rest : List (K × V)) → CallableOnEachPair Step Accepts f es → es ≡ (k, v) ∷ rest → Accepts f k v
    first-accepts f es k v rest can is = can.at [] rest f k v is refl

    pub still-callable : (f f1 : F) (es : List (K × V)) (k : K) (v w : V) (b : Bool) (rest : List (K × V))
        → CallableOnEachPair Step Accepts f es → es ≡ (k, v) ∷ rest → Step f k v b w f1 → CallableOnEachPair Step Accepts f1 rest
    still-callable f f1 es k v w b rest can is step = record {
      at = λ before after f' k' v' e calls. can.at ((k, v) ∷ before) after f' k' v' (is ∙ ap (λ (l : List (K × V)). (k, v) ∷ l) e) (f1, (b, w, step), calls);
    }

  module _ {C O : Type 0} {g : ord.Ghosts K} {g' : eq.Ghosts K} {g'' : partial.Ghosts K} {s : nodes_mut.Ghosts C K V O} {s' : nodes.Ghosts C K V} where
    module _ (takes : Bool) (f f1 f2 : F) (old mid lent : EntriesMut K V C O g g' g'' s s') (asked : List (Bool × (K × V)))
        (run : RunsTest Step takes f f1 old.map.now (entry_front old) mid.map.now (entry_front mid) asked) where
      -- the pair that was asked, and what is left behind it
      module _ (b : Bool) (first : AsksFirst Step f1 f2 mid lent b) (x : K × V) (rest : List (K × V)) (left : left_of lent ≡ x ∷ rest) where
        written : left_of lent ≡ (first.key, first.is) ∷ first.writes.rest
        written = ap left_of first.written ∙ first.writes.written

        is-first : x ≡ (first.key, first.is)
        is-first = same-one (cons-head (sym left ∙ written))

        is-rest : rest ≡ first.writes.rest
        is-rest = cons-tail (sym left ∙ written)

        pub left-more : left_of old ≡ (run.here ++ (first.key, first.was) ∷ []) ++ rest
        left-more =
            run.left
            ∙ ap (λ (l : List (K × V)). run.here ++ l) (first.writes.left ∙ ap (λ (l : List (K × V)). (first.key, first.was) ∷ l) (sym is-rest))
            ∙ sym (append_assoc run.here ((first.key, first.was) ∷ []) rest)

        pub calls-more : Asks Step f (run.here ++ (first.key, first.was) ∷ []) (asked ++ (b, x) ∷ []) f2
        calls-more =
            subst (λ (y : K × V). Asks Step f (run.here ++ (first.key, first.was) ∷ []) (asked ++ (b, y) ∷ []) f2) (sym is-first)
            (asks-more f f1 f2 run.here asked first.key first.was first.is b run.calls first.step)

        pub fewer-left : length rest < length (left_of mid)
        fewer-left =
            let whole = ap length first.writes.left in
            let same = ap length is-rest in
            omega (arith, whole, same)

        pub passed-before : passed_of lent ≡ passed_of old ++ picked (not takes) asked
        passed-before = ap passed_of first.written ∙ first.writes.passed ∙ run.passed

        pub same-lent : lent.map.ghost_name ≡ mid.map.ghost_name
        same-lent = ap (λ (c : EntriesMut K V C O g g' g'' s s'). c.map.ghost_name) first.written

        pub uncounted-before : lent.map.now.kept ≡ old.map.now.kept
        uncounted-before =
            ap (λ (c : EntriesMut K V C O g g' g'' s s'). c.map.now.kept) first.written
            ∙ first.writes.writes.exchanged.exchanged.uncounted ∙ run.uncounted

        pub addresses-before : picked takes asked ≡ [] → item_addresses_of lent.map.now ≡ item_addresses_of old.map.now
        addresses-before none =
            ap (λ (c : EntriesMut K V C O g g' g'' s s'). item_addresses_of c.map.now) first.written
            ∙ first.writes.writes.addresses ∙ run.addresses none

        pub callable-behind : {Accepts : F → K → V → Type 0} → CallableOnEachPair Step Accepts f1 (left_of mid) → CallableOnEachPair Step Accepts f2 rest
        callable-behind can =
            subst (λ (l : List (K × V)). CallableOnEachPair Step _ f2 l) (sym is-rest)
            (still-callable f1 f2 (left_of mid) first.key first.was first.is b first.writes.rest can first.writes.left first.step)

      module _ (new : EntriesMut K V C O g g' g'' s s') (x : K × V) where
        pub runs-passed : AsksFirst Step f1 f2 mid lent (not takes) → PassesEntry lent new x → RunsTest Step takes f f2 old.map.now (entry_front old) new.map.now (entry_front new) (asked ++ (not takes, x) ∷ [])
        runs-passed first passes = record {
          here = _;
          left = left-more (not takes) first x _ passes.left;
          calls = calls-more (not takes) first x _ passes.left;
          passed =
              passes.passed
              ∙ ap (λ (l : List (K × V)). l ++ x ∷ []) (passed-before (not takes) first x _ passes.left)
              ∙ append_assoc (passed_of old) (picked (not takes) asked) (x ∷ [])
              ∙ ap (λ (l : List (K × V)). passed_of old ++ l)
              (ap (λ (l : List (K × V)). picked (not takes) asked ++ l) (sym (picked-same (not takes) x))
              ∙ sym (picked-more (not takes) asked ((not takes, x) ∷ [])));
          uncounted = ap (λ t. t.kept) passes.unchanged ∙ uncounted-before (not takes) first x _ passes.left;
          addresses = λ none. ap item_addresses_of passes.unchanged
              ∙ addresses-before (not takes) first x _ passes.left
              (sym (append-nil _) ∙ ap (λ (l : List (K × V)). picked takes asked ++ l) (sym (picked-other takes x))
              ∙ sym (picked-more takes asked ((not takes, x) ∷ [])) ∙ none);
        }

        pub runs-taken : AsksFirst Step f1 f2 mid lent takes → RemovesEntry lent new x → RunsTest Step takes f f2 old.map.now (entry_front old) new.map.now (entry_front new) (asked ++ (takes, x) ∷ [])
        runs-taken first removes = record {
          here = _;
          left = left-more takes first x _ removes.left;
          calls = calls-more takes first x _ removes.left;
          passed =
              removes.passed ∙ passed-before takes first x _ removes.left
              ∙ ap (λ (l : List (K × V)). passed_of old ++ l)
              (sym (append-nil _) ∙ ap (λ (l : List (K × V)). picked (not takes) asked ++ l) (sym (picked-not takes x))
              ∙ sym (picked-more (not takes) asked ((takes, x) ∷ [])));
          uncounted = removes.removed.uncounted ∙ uncounted-before takes first x _ removes.left;
          addresses = λ none. absurd (more-than-none (picked takes asked) x
              (ap (λ (l : List (K × V)). picked takes asked ++ l) (sym (picked-same takes x)) ∙ sym (picked-more takes asked ((takes, x) ∷ [])) ∙ none));
        }

        pub runs-callable : {Accepts : F → K → V → Type 0} (b : Bool) → AsksFirst Step f1 f2 mid lent b → (rest : left_of lent ≡ x ∷ left_of new)
            → CallableOnEachPair Step Accepts f1 (left_of mid) → CallableOnEachPair Step Accepts f2 (left_of new)
        runs-callable b first left can = callable-behind b first x _ left can

    -- calls at the first pairs that were left, none with the answer b, and more may follow
    pub record IsSeeking (Accepts : F → K → V → Type 0) (f f' : F) (old new : EntriesMut K V C O g g' g'' s s') : Type 0 where
      pub asked : List (Bool × (K × V))
      pub none : picked true asked ≡ []
      pub same_map : new.map.ghost_name ≡ old.map.ghost_name
      pub run : RunsTest Step true f f' old.map.now (entry_front old) new.map.now (entry_front new) asked
      pub callable : CallableOnEachPair Step Accepts f' (left_of new)

    -- calls at the first pairs that were left, and more may follow
    pub record IsRunning (Accepts : F → K → V → Type 0) (takes : Bool) (f f' : F) (old new : EntriesMut K V C O g g' g'' s s') : Type 0 where
      pub asked : List (Bool × (K × V))
      pub same_map : new.map.ghost_name ≡ old.map.ghost_name
      pub run : RunsTest Step takes f f' old.map.now (entry_front old) new.map.now (entry_front new) asked
      pub callable : CallableOnEachPair Step Accepts f' (left_of new)

  -- a run to the end is all that a drain does
  module _ (f f' : F) (old : TreeState K V) (front : ℕ) (new : TreeState K V) (front' : ℕ) where
    all-left : drop front' (pairs_of new) ≡ [] → take front' (pairs_of new) ≡ pairs_of new
    all-left none = all front' (pairs_of new) none
      where
        all : (n : ℕ) (xs : List (K × V)) → drop n xs ≡ [] → take n xs ≡ xs
        all zero xs e = sym e
        all (suc n) [] e = refl
        all (suc n) (x ∷ xs) e = ap (λ (l : List (K × V)). x ∷ l) (all n xs e)

    pub runs-out : Ends Step true f f' old front new front' → RunsOut Step f front old new
    runs-out (asked, run, none) = record {
      asked = asked;
      last = f';
      calls = subst (λ (l : List (K × V)). Asks Step f l asked f')
          (sym (run.left ∙ ap (λ (l : List (K × V)). run.here ++ l) none ∙ append-nil run.here)) run.calls;
      pairs = sym (all-left none) ∙ run.passed;
      uncounted = run.uncounted;
      addresses = run.addresses;
    }

  pub keeps-addresses : (f f' : F) (old new : TreeState K V) (front' : ℕ) → Ends Step false f f' old 0 new front' → KeepsAddresses old new
  keeps-addresses f f' old new front' (asked, run, none) all =
      let here = ap length (run.left ∙ ap (λ (l : List (K × V)). run.here ++ l) none ∙ append-nil run.here) in
      let kept = ap length (sym (all-left f f' old 0 new front' none) ∙ run.passed) in
      let each = asked-each f f' run.here asked run.calls in
      let both = answers asked in
      run.addresses (none-left _ (omega (arith, all, here, kept, each, both)))

  pub all-selected : (f f' : F) (old new : TreeState K V) (front' : ℕ) → Ends Step false f f' old 0 new front' → Selects Step true f (pairs_of old) (pairs_of new)
  all-selected f f' old new front' (asked, run, none) =
      let here = run.left ∙ ap (λ (l : List (K × V)). run.here ++ l) none ∙ append-nil run.here in
      (asked, f', subst (λ (l : List (K × V)). Asks Step f l asked f') (sym here) run.calls, sym (all-left f f' old 0 new front' none) ∙ run.passed)

  pub all-uncounted : (f f' : F) (old new : TreeState K V) (front' : ℕ) → Ends Step false f f' old 0 new front' → new.kept ≡ old.kept
  all-uncounted f f' old new front' (asked, run, none) = run.uncounted
