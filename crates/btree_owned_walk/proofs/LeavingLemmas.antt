-- The steps of a walk that takes the pairs of a tree out, and how many nodes it holds.
use Rattle.std.specs.Prelude.{unwrap_or}
use Rattle.btree_owned_walk.proofs.Common.{◌≡◌, ◌<◌, ◌≤◌, ◌⊎◌, inl, inr, ℕ, zero, suc, ◌+◌, ◌-◌, List, [], ◌∷◌, ◌++◌, length, Option, Some, None, refl, sym, ap, subst, ◌∙◌, arith, Content, Node, NodeMap, Subtree, id_of, items_under, times_under, TreeState, node_map, views, HasAny, init_of, tail_of, AtFirst, AtLast, IsRest, without_first, without_last, StandsAtBack, StandsAtFront, TakesFirst, TakesLast, met}
use Rattle.std.proofs.Common.{◌^◌, take, drop}
use Rattle.std.proofs.lemmas.List.{length-take-le, length-drop}
use Rattle.std.specs.FinMap as fin
use Rattle.std.specs.declared.cmp.Ordering.{Ordering}
use Rattle.btree_laws.specs.Focus.Focus.{IsTree}
use Rattle.btree_laws.specs.TreeState.{IsBTree, pairs_of}
use Rattle.btree_laws.specs.WellFormed.{IsFormed, IsRooted, IsSized, times_used}
use Rattle.btree_laws.proofs.Paths.FromRoot.{rooted-subtree}
use Rattle.btree_laws.proofs.Trees.Density.{height-low}
use Rattle.btree_laws.proofs.Trees.States.{height_held}
use Rattle.btree_laws.proofs.Trees.Stores.{len-views}
use Rattle.btree_owned_walk.specs.NodesLeft.{nodes_under}
use Rattle.btree_owned_walk.specs.Leaving.{HoldsLeft, IsLeaving, Remains, nodes_of}
use Rattle.btree_owned_walk.proofs.LeavingLaws.{none-of}
use Rattle.btree_owned_walk.proofs.RestLemmas.{root-at-first, gone-none}
use Rattle.btree_owned_walk.proofs.LastLemmas.{first-keeps-last, init-snoc, last-keeps-first}
use Rattle.btree_owned_walk.proofs.CountLemmas.{counted, counts-first, counts-last, counts-start}
use Rattle.btree_owned_walk.proofs.StartLemmas.{filled-any, nodes-met, root-at-last, tree-rest}

module _ {X : Type 0} where
  drop-suc : (p : ℕ) (xs : List X) → drop (suc p) xs ≡ tail_of (drop p xs)
  drop-suc zero [] = refl
  drop-suc zero (x ∷ xs) = refl
  drop-suc (suc p) [] = refl
  drop-suc (suc p) (x ∷ xs) = drop-suc p xs

  take-first : (l : ℕ) (xs ys : List X) (x : X) → take (suc l) xs ≡ x ∷ ys → take l (tail_of xs) ≡ ys
  take-first l [] ys x e = absurd (cc)
  take-first l (z ∷ zs) ys x e = cc

  pub slice-first : (l p : ℕ) (xs ys : List X) (x : X) → take (suc l) (drop p xs) ≡ x ∷ ys → take l (drop (suc p) xs) ≡ ys
  slice-first l p xs ys x e = ap (take l) (drop-suc p xs) ∙ take-first l (drop p xs) ys x e

  take-init : (l : ℕ) (xs : List X) → suc l ≤ length xs → init_of (take (suc l) xs) ≡ take l xs
  take-init l [] e = absurd (omega arith)
  take-init zero (x ∷ xs) e = refl
  take-init (suc l) (x ∷ []) e = absurd (omega arith)
  take-init (suc l) (x ∷ (y ∷ ys)) e = ap (λ z. x ∷ z) (take-init l (y ∷ ys) (omega arith))

  pub slice-last : (l p : ℕ) (xs ys : List X) (x : X) → suc l ≤ length (drop p xs) → take (suc l) (drop p xs) ≡ ys ++ x ∷ []
      → take l (drop p xs) ≡ ys
  slice-last l p xs ys x n e = sym (take-init l (drop p xs) n) ∙ ap init_of e ∙ init-snoc ys x

  pub slice-length : (l p : ℕ) (xs : List X) → p + l ≤ length xs → length (take l (drop p xs)) ≡ l
  slice-length l p xs e = let d = length-drop p xs in length-take-le l (drop p xs) (omega arith)

module _ {K V : Type 0} (start : TreeState K V) (now : NodeMap (K × V)) (passed left front back : ℕ) (r : Remains start now passed (suc left) front back) where
  pub stands-front : StandsAtFront now front
  stands-front = record { height = r.height; t = r.t; rest = r.rest; at = r.first; low = r.low }

  pub stands-back : StandsAtBack now back
  stands-back = record { height = r.height; t = r.t; rest = r.rest; at = r.last; low = r.low }

  all-none : (m : NodeMap (K × V)) (h : ℕ) (t : Subtree (K × V) h) → IsRest (K × V) m h t → items_under (K × V) h t ≡ [] → (n : ℕ) → m n ≡ None
  all-none m h t q e n = elim (zero-or-more (times n)) [
    | inl none ↦ q.only n none
    | inr some ↦ gone-none (K × V) m h None t q.holds e n some
  ]
    where
      times : ℕ → ℕ
      times n = times_under (K × V) h n t

      zero-or-more : (k : ℕ) → (k ≡ 0) ⊎ (0 < k)
      zero-or-more zero = inl refl
      zero-or-more (suc k) = inr (omega arith)

  -- a step at the front
  module _ (new : NodeMap (K × V)) (x : K × V) (top : ℕ) (step : TakesFirst now new front x top) where
    pub first-pair : take (suc left) (drop passed (pairs_of start)) ≡ x ∷ take left (drop (suc passed) (pairs_of start))
    first-pair =
        let s = step r.height r.t r.rest r.first in
        let e = sym r.list ∙ s.items in
        e ∙ ap (λ l. x ∷ l) (sym (slice-first left passed (pairs_of start) _ x e))

    pub leaving-first : IsLeaving start new (suc passed) left top back
    leaving-first = of left r step
      where
        of : (left : ℕ) (r : Remains start now passed (suc left) front back) → TakesFirst now new front x top → IsLeaving start new (suc passed) left top back
        of zero r step =
            let s = step r.height r.t r.rest r.first in
            let e = sym r.list ∙ s.items in
            all-none new r.height (without_first (K × V) r.height r.t) s.rest (sym (slice-first zero passed (pairs_of start) _ x e))
        of (suc left) r step =
            let s = step r.height r.t r.rest r.first in
            let e = sym r.list ∙ s.items in
            let list = sym (slice-first (suc left) passed (pairs_of start) _ x e) in
            let within = r.within in
            let n = slice-length (suc left) (suc passed) (pairs_of start) (omega arith) in
            let some : HasAny (items_under (K × V) r.height (without_first (K × V) r.height r.t)) = (let m = ap length list in omega arith) in
            let had : HasAny (items_under (K × V) r.height r.t) = (let m = ap length s.items in omega arith) in
            record {
              root = r.root;
              at_root = r.at_root;
              tree = r.tree;
              deep = r.deep;
              height = r.height;
              t = without_first (K × V) r.height r.t;
              rest = s.rest;
              low = r.low;
              list = list;
              within = omega arith;
              first = s.front some;
              last = first-keeps-last (K × V) back r.height r.t r.last some;
              counts = counts-first (K × V) r.tree.height r.tree.subtree r.height r.t passed had r.counts;
            }

  -- a step at the back
  module _ (new : NodeMap (K × V)) (x : K × V) (top : ℕ) (step : TakesLast now new back x top) where
    room : suc left ≤ length (drop passed (pairs_of start))
    room = let d = length-drop passed (pairs_of start) in let w = r.within in omega arith

    pub last-pair : take (suc left) (drop passed (pairs_of start)) ≡ take left (drop passed (pairs_of start)) ++ x ∷ []
    last-pair =
        let s = step r.height r.t r.rest r.last in
        let e = sym r.list ∙ s.items in
        e ∙ ap (λ l. l ++ x ∷ []) (sym (slice-last left passed (pairs_of start) _ x room e))

    pub leaving-last : IsLeaving start new passed left front top
    leaving-last = of left r step room
      where
        of : (left : ℕ) (r : Remains start now passed (suc left) front back) → TakesLast now new back x top
            → suc left ≤ length (drop passed (pairs_of start)) → IsLeaving start new passed left front top
        of zero r step room =
            let s = step r.height r.t r.rest r.last in
            let e = sym r.list ∙ s.items in
            all-none new r.height (without_last (K × V) r.height r.t) s.rest (sym (slice-last zero passed (pairs_of start) _ x room e))
        of (suc left) r step room =
            let s = step r.height r.t r.rest r.last in
            let e = sym r.list ∙ s.items in
            let list = sym (slice-last (suc left) passed (pairs_of start) _ x room e) in
            let within = r.within in
            let n = slice-length (suc left) passed (pairs_of start) (omega arith) in
            let some : HasAny (items_under (K × V) r.height (without_last (K × V) r.height r.t)) = (let m = ap length list in omega arith) in
            let n2 = slice-length (suc (suc left)) passed (pairs_of start) (omega arith) in
            let had : HasAny (items_under (K × V) r.height r.t) = (let m = ap length r.list in omega arith) in
            record {
              root = r.root;
              at_root = r.at_root;
              tree = r.tree;
              deep = r.deep;
              height = r.height;
              t = without_last (K × V) r.height r.t;
              rest = s.rest;
              low = r.low;
              list = list;
              within = omega arith;
              first = last-keeps-first (K × V) front r.height r.t r.first some;
              last = s.back some;
              counts = counts-last (K × V) r.tree.height r.tree.subtree r.height r.t passed had r.counts;
            }

module _ {K V : Type 0} where
  -- the store holds as many nodes as the tree had at the start with a pair left
  pub leaving-count : (start : TreeState K V) (nodes : Content (Node K V)) (passed left front back : ℕ)
      → IsLeaving start (views nodes) passed left front back → fin.len nodes ≡ nodes_of start start.root passed (passed + left)
  leaving-count start nodes passed zero front back r =
      len-views nodes [] (λ n. ap times_used (sym (r n))) ∙ sym (none-of start passed (passed + zero) (omega arith))
  leaving-count start nodes passed (suc left) front back r =
      let c = counted nodes r.tree.height r.tree.subtree r.height r.t passed r.rest r.counts in
      let n = ap length r.list ∙ slice-length (suc left) passed (pairs_of start) r.within in
      let under = nodes-met (K × V) passed (passed + suc left) (node_map start) r.tree.height None (fin.len start.nodes) r.deep 0 r.tree.subtree r.tree.holds in
      c ∙ ap (λ l. met (K × V) passed (passed + l) r.tree.height 0 r.tree.subtree) n ∙ sym under
      ∙ ap (nodes_under (K × V) passed (passed + suc left) (node_map start) (fin.len start.nodes) 0) r.tree.at_root
      ∙ ap (λ o. nodes_of start o passed (passed + suc left)) (sym r.at_root)

module _ {K V : Type 0} (s : TreeState K V) where
  some-long : (h : ℕ) (t : Subtree (K × V) h) (xs : List (K × V)) → items_under (K × V) h t ≡ xs → HasAny (items_under (K × V) h t) → 0 < length xs
  some-long h t xs e a = let n = ap length e in omega arith

  whole : (l : ℕ) (xs : List (K × V)) → l ≡ length xs → xs ≡ take l (drop 0 xs)
  whole zero [] e = refl
  whole zero (x ∷ xs) e = absurd (omega arith)
  whole (suc l) [] e = absurd (omega arith)
  whole (suc l) (x ∷ xs) e = ap (λ z. x ∷ z) (whole l xs (omega arith))

  start-rooted : (id root : ℕ) → id ≡ root → (l : ℕ) → s.root ≡ Some root → l ≡ length (pairs_of s) → length (pairs_of s) < 2 ^ 64
      → IsRooted (IsSized root) (node_map s) root (pairs_of s) → IsLeaving s (node_map s) 0 l id id
  start-rooted id root same l e n few r =
      let t = rooted-subtree (K × V) (node_map s) root (pairs_of s) r in
      of (record { height = r.height; subtree = t.subtree; at_root = t.at_root; holds = t.holds; once = t.once; sized = t.sized; below = t.below; represents = t.represents })
      (height_held s (IsSized root) root (pairs_of s) r) (height-low (K × V) (node_map s) root (pairs_of s) r few) l n
    where
      of : (tree : IsTree (K × V) (node_map s) root (pairs_of s)) → tree.height < fin.len s.nodes → tree.height < 32 → (l : ℕ) → l ≡ length (pairs_of s)
          → IsLeaving s (node_map s) 0 l id id
      of tree deep low zero n =
          absurd (let a = some-long tree.height tree.subtree (pairs_of s) tree.represents (filled-any (K × V) tree.height tree.subtree tree.sized.0) in omega arith)
      of tree deep low (suc l) n =
          let any = filled-any (K × V) tree.height tree.subtree tree.sized.0 in
          let here : id_of (K × V) tree.height tree.subtree ≡ id = tree.at_root ∙ sym same in
          record {
            root = root;
            at_root = e;
            tree = tree;
            deep = deep;
            height = tree.height;
            t = tree.subtree;
            rest = tree-rest (K × V) (node_map s) root (pairs_of s) tree;
            low = low;
            list = tree.represents ∙ whole (suc l) (pairs_of s) n;
            within = omega arith;
            first = subst (λ i. AtFirst (K × V) i tree.height tree.subtree) here (root-at-first (K × V) tree.height tree.subtree any);
            last = subst (λ i. AtLast (K × V) i tree.height tree.subtree) here (root-at-last (K × V) tree.height tree.subtree any);
            counts = counts-start (K × V) tree.height tree.subtree;
          }

  -- a walk at its start
  pub leaving-start : (cmp : K → K → Ordering) → IsBTree cmp s → (id : ℕ) → ((root : ℕ) → s.root ≡ Some root → id ≡ root)
      → length (pairs_of s) < 2 ^ 64 → IsLeaving s (node_map s) 0 s.len id id
  leaving-start cmp well id at few = of s.root refl s.len well.counted well.formed
    where
      of : (o : Option ℕ) → s.root ≡ o → (len : ℕ) → len ≡ length (pairs_of s) → IsFormed (node_map s) o (pairs_of s) → IsLeaving s (node_map s) 0 len id id
      of None e zero n f = f.0
      of None e (suc len) n f = absurd (let z = ap length f.1 in omega arith)
      of (Some root) e len n f = start-rooted id root (at root e) len e n few f

-- the same steps, for a number that is left as code has it
module _ {K V : Type 0} (start : TreeState K V) (now : NodeMap (K × V)) (passed left front back : ℕ) (r : IsLeaving start now passed left front back) (some : 0 < left) where
  pub front-stands : StandsAtFront now front
  front-stands = of left r some
    where
      of : (left : ℕ) → IsLeaving start now passed left front back → 0 < left → StandsAtFront now front
      of zero r some = absurd (omega arith)
      of (suc left) r some = stands-front start now passed left front back r

  pub back-stands : StandsAtBack now back
  back-stands = of left r some
    where
      of : (left : ℕ) → IsLeaving start now passed left front back → 0 < left → StandsAtBack now back
      of zero r some = absurd (omega arith)
      of (suc left) r some = stands-back start now passed left front back r

  module _ (new : NodeMap (K × V)) (x : K × V) (top p l : ℕ) (fewer : l ≡ left - 1) where
    pub next-leaving : p ≡ passed + 1 → TakesFirst now new front x top → IsLeaving start new p l top back
    next-leaving more step = of left r some l fewer
      where
        of : (left : ℕ) → IsLeaving start now passed left front back → 0 < left → (l : ℕ) → l ≡ left - 1 → IsLeaving start new p l top back
        of zero r some l fewer = absurd (omega arith)
        of (suc left) r some l fewer =
            let e : l ≡ left = omega arith in
            let f : p ≡ suc passed = omega arith in
            subst (λ k. IsLeaving start new p k top back) (sym e) (subst (λ k. IsLeaving start new k left top back) (sym f)
            (leaving-first start now passed left front back r new x top step))

    pub next-pair : p ≡ passed + 1 → TakesFirst now new front x top → take left (drop passed (pairs_of start)) ≡ x ∷ take l (drop p (pairs_of start))
    next-pair more step = of left r some l fewer
      where
        of : (left : ℕ) → IsLeaving start now passed left front back → 0 < left → (l : ℕ) → l ≡ left - 1
            → take left (drop passed (pairs_of start)) ≡ x ∷ take l (drop p (pairs_of start))
        of zero r some l fewer = absurd (omega arith)
        of (suc left) r some l fewer =
            let e : l ≡ left = omega arith in
            let f : p ≡ suc passed = omega arith in
            first-pair start now passed left front back r new x top step ∙ ap (λ k. x ∷ take k (drop (suc passed) (pairs_of start))) (sym e)
            ∙ ap (λ k. x ∷ take l (drop k (pairs_of start))) (sym f)

    pub back-leaving : TakesLast now new back x top → IsLeaving start new passed l front top
    back-leaving step = of left r some l fewer
      where
        of : (left : ℕ) → IsLeaving start now passed left front back → 0 < left → (l : ℕ) → l ≡ left - 1 → IsLeaving start new passed l front top
        of zero r some l fewer = absurd (omega arith)
        of (suc left) r some l fewer =
            let e : l ≡ left = omega arith in
            subst (λ k. IsLeaving start new passed k front top) (sym e) (leaving-last start now passed left front back r new x top step)

    pub back-pair : TakesLast now new back x top → take left (drop passed (pairs_of start)) ≡ take l (drop passed (pairs_of start)) ++ x ∷ []
    back-pair step = of left r some l fewer
      where
        of : (left : ℕ) → IsLeaving start now passed left front back → 0 < left → (l : ℕ) → l ≡ left - 1
            → take left (drop passed (pairs_of start)) ≡ take l (drop passed (pairs_of start)) ++ x ∷ []
        of zero r some l fewer = absurd (omega arith)
        of (suc left) r some l fewer =
            let e : l ≡ left = omega arith in
            last-pair start now passed left front back r new x top step ∙ ap (λ k. take k (drop passed (pairs_of start)) ++ x ∷ []) (sym e)

module _ {K V : Type 0} where
  pub new-leaving : (cmp : K → K → Ordering) (s : TreeState K V) → IsBTree cmp s → (s' : TreeState K V) → s' ≡ s → (p : ℕ) → p ≡ 0 → (l : ℕ) → l ≡ s.len
      → (o : Option ℕ) → o ≡ s.root → (id : ℕ) → id ≡ unwrap_or o 0 → l < 2 ^ 64 → IsLeaving s' (node_map s) p l id id
  new-leaving cmp s well s' same p none l len o root id is few =
      let whole = leaving-start s cmp well id (λ r e. is ∙ ap (λ q. unwrap_or q 0) (root ∙ e)) (let c = well.counted in omega arith) in
      subst (λ q. IsLeaving q (node_map s) p l id id) (sym same) (subst (λ k. IsLeaving s (node_map s) k l id id) (sym none)
      (subst (λ k. IsLeaving s (node_map s) 0 k id id) (sym len) whole))

-- the nodes that are held are those of what is left
pub holds-left : {K V : Type 0} (start now : TreeState K V) (passed left front back : ℕ) → IsLeaving start (node_map now) passed left front back
    → HoldsLeft (record { start = start; passed = passed; left = left; now = now })
holds-left start now passed zero front back r = ((λ none. r), (λ some. absurd (omega arith)))
holds-left start now passed (suc left) front back r = (
  (λ none. absurd (omega arith)),
  (λ some. record { height = r.height; t = r.t; rest = r.rest; list = r.list }),
)
