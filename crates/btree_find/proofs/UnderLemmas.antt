-- The pairs under a node of a well formed tree: where they begin and end in the list.
use Rattle.btree_find.proofs.Common.{[], ◌∷◌, ◌++◌, ◌∙◌, ◌≡◌, ◌+◌, ◌<◌, ℕ, zero, suc, inl, inr, List, length, slice_get, length-append, Some, None, Ok, Err, refl, sym, ap, subst, arith, option_map, IsTotalOrder, Ordering, Less, Ascends, place_of, before-from_Err, found-from_Err, Node, view_of, View, size_of, address_at, address_before, IsEnd, IsSubtreeAt, TreeState, IsBTree, IsPlaceIn, IsUsed, IsValidIn, node_map, pairs_of, IsWellFormed, rises, searched, used-one, place-valid, pairs_below, HasPlace}
use Rattle.std.proofs.Common.{append_assoc}
use Rattle.std.proofs.lemmas.Bool.Decides.{leb_tells}
use Rattle.std.specs.FinMap as finite
use Rattle.btree_item.specs.Keys.{Cuts}
use Rattle.btree_item.specs.Pairs.{KeyFits}
use Rattle.btree_item.proofs.PairEdits.{KeyFits-before}
use Rattle.btree_laws.specs.Focus.Node.{IsNode}
use Rattle.btree_laws.specs.Focus.Path.{items_after, items_before, parent_above}
use Rattle.btree_laws.specs.Focus.Search.{IsSearching}
use Rattle.btree_laws.specs.Focus.Subtree.{items_under}
use Rattle.btree_laws.specs.Represents.{Represents}
use Rattle.btree_laws.proofs.LookUp.Descent.{search-start}
use Rattle.btree_laws.proofs.LookUp.KeyInList.{Rises, ascends, equal-back, equal-front, place-hit, rises-left, rises-right}
use Rattle.btree_laws.proofs.Paths.FromRoot.{node-at}
use Rattle.btree_laws.proofs.Paths.Levels.{levels-rooted}
use Rattle.btree_laws.proofs.Paths.UnsizedFocus.{focus-unsized}
use Rattle.btree_laws.proofs.Trees.Represented.{represented-is}
use Rattle.btree_laws.proofs.Trees.States.{height_held}
use Rattle.btree_laws.proofs.Trees.Subtrees.{represents-of}
use Rattle.btree_laws.proofs.Options.{some-of}
use Rattle.btree_find.specs.Fits.{FitsIn}
use Rattle.btree_find.proofs.PlaceLemmas.{has-place, in-state, root-there}

-- a key among some pairs of an ascending list has its place in the whole list
pub place-in_whole : {K Q V : Type 0} (cmp : K → Q → Ordering) {ord : K → K → Ordering} (cut : Cuts ord cmp) (k : Q) (xs front ys back : List (K × V)) (index : ℕ)
    → Ascends ord xs → xs ≡ front ++ (ys ++ back) → place_of cmp k ys ≡ Ok index → place_of cmp k xs ≡ Ok (length front + index)
place-in_whole {K} {Q} {V} cmp {ord} cut k xs front ys back index up split place =
    let r : Rises ord (front ++ (ys ++ back)) = subst (Rises ord) split (rises ord xs up) in
    let s = searched cmp k cut ys (Ok index) (rises-left ord ys back (rises-right ord front (ys ++ back) r)) place in
    let joined : xs ≡ (front ++ s.0) ++ s.1 ∷ (s.2 ++ back) =
    split
    ∙ (ap (λ l. front ++ (l ++ back)) s.3
    ∙ (ap (λ l. front ++ l) (append_assoc s.0 (s.1 ∷ s.2) back) ∙ sym (append_assoc front s.0 (s.1 ∷ (s.2 ++ back))))) in
    let whole : Rises ord ((front ++ s.0) ++ s.1 ∷ (s.2 ++ back)) = subst (Rises ord) joined (rises ord xs up) in
    let count : length (front ++ s.0) ≡ length front + index = length-append front s.0 ∙ ap (λ n. length front + n) s.4 in
    (place-hit cmp k xs (length front + index) (
      front ++ s.0,
      s.1,
      s.2 ++ back,
      joined,
      count,
      equal-front cmp k cut (front ++ s.0) s.1 (s.2 ++ back) whole s.6,
      s.6,
      equal-back cmp k cut s.1 (s.2 ++ back) (rises-right ord (front ++ s.0) (s.1 ∷ (s.2 ++ back)) whole).0 s.6,
    )).0

-- what is at an index after a front, and in the first of two parts
get-skip : {X : Type 0} (front rest : List X) (i : ℕ) → slice_get (front ++ rest) (length front + i) ≡ slice_get rest i
get-skip [] rest i = let e : 0 + i ≡ i = omega arith in ap (slice_get rest) e
get-skip (x ∷ front) rest i =
    let e : suc (length front) + i ≡ suc (length front + i) = omega arith in
    ap (slice_get (x ∷ (front ++ rest))) e ∙ get-skip front rest i

get-left : {X : Type 0} (ys back : List X) (i : ℕ) → i < length ys → slice_get (ys ++ back) i ≡ slice_get ys i
get-left [] back i low = absurd (omega arith)
get-left (y ∷ ys) back zero low = refl
get-left (y ∷ ys) back (suc i) low = get-left ys back i (omega arith)

-- a key that is not among some pairs of an ascending list fits at its place in the whole list if it is above the pair
-- before them and below the one after them
module _ {K V : Type 0} (cmp : K → K → Ordering) (laws : IsTotalOrder cmp) (k : K) (xs front ys back : List (K × V)) (index : ℕ)
    (up : Ascends cmp xs) (split : xs ≡ front ++ (ys ++ back)) (place : place_of cmp k ys ≡ Err index) where
  inside : KeyFits cmp k index ys
  inside =
      let r : Rises cmp (front ++ (ys ++ back)) = subst (Rises cmp) split (rises cmp xs up) in
      let asc : Ascends cmp ys = ascends cmp ys (rises-left cmp ys back (rises-right cmp front (ys ++ back) r)) in
      subst (λ p. KeyFits cmp k p ys) (before-from_Err cmp k ys index place)
      (KeyFits-before cmp laws k ys asc (found-from_Err cmp k ys index place))

  there : (i : ℕ) → i < length ys → slice_get xs (length front + i) ≡ slice_get ys i
  there i low = ap (λ l. slice_get l (length front + i)) split ∙ (get-skip front (ys ++ back) i ∙ get-left ys back i low)

  pub fits-in_whole : ((q : ℕ) (x : K × V) → suc q ≡ length front → slice_get xs q ≡ Some x → cmp x.0 k ≡ Less)
      → ((x : K × V) → slice_get xs (length front + length ys) ≡ Some x → cmp k x.0 ≡ Less)
      → KeyFits cmp k (length front + index) xs
  fits-in_whole first last =
      let all = ap length split in
      let parts = length-append front (ys ++ back) in
      let rest = length-append ys back in
      let w = inside.within in
      record { within = omega arith; above = λ q x e at. above-by index refl q x e at; below = λ x at. below-by x at }
    where
      above-by : (i : ℕ) → i ≡ index → (q : ℕ) (x : K × V) → suc q ≡ length front + index → slice_get xs q ≡ Some x → cmp x.0 k ≡ Less
      above-by zero is q x e at = first q x (omega arith) at
      above-by (suc i) is q x e at =
          let w = inside.within in
          let same : q ≡ length front + i = omega arith in
          inside.above i x is (sym (there i (omega arith)) ∙ (ap (slice_get xs) (sym same) ∙ at))

      below-by : (x : K × V) → slice_get xs (length front + index) ≡ Some x → cmp k x.0 ≡ Less
      below-by x at = elim (leb_tells (length ys) index) [
        | inl past ↦
            let w = inside.within in
            let low = past.1 in
            let same : index ≡ length ys = omega arith in
            last x (subst (λ n. slice_get xs (length front + n) ≡ Some x) same at)
        | inr low ↦ inside.below x (sym (there index low.1) ∙ at)
      ]

module _ {K V : Type 0} (cmp : K → K → Ordering) (laws : IsTotalOrder cmp) (s : TreeState K V) (tree : IsBTree cmp s)
    (id : ℕ) (used : IsUsed s id) where
  -- the node at the end of its path
  record Under : Type 0 where
    root : ℕ
    is : s.root ≡ Some root
    view : View (K × V)
    here : node_map s id ≡ Some view
    node : IsNode (K × V) (node_map s) root (pairs_of s) id

  under : Under
  under =
      let n = some-of (finite.get s.nodes id) used in
      let here : node_map s id ≡ Some (view_of n.0) = ap (option_map view_of) n.1 in
      let r = root-there cmp laws s tree id (view_of n.0) here in
      let w : IsWellFormed cmp (node_map s) (Some r.0) s.len (pairs_of s) =
      subst (λ t. IsWellFormed cmp (node_map s) t s.len (pairs_of s)) r.1 tree in
      let u = used-one (node_map s id) (view_of n.0) here in
      record {
        root = r.0;
        is = r.1;
        view = view_of n.0;
        here = here;
        node = node-at (K × V) (node_map s) r.0 (pairs_of s) w.formed id (omega arith);
      }

  -- its subtree in the list
  record Part : Type 0 where
    root : ℕ
    is : s.root ≡ Some root
    view : View (K × V)
    here : node_map s id ≡ Some view
    start : ℕ
    at : IsSubtreeAt (node_map s) (pairs_of s) id (pairs_below s id) start
    node : IsNode (K × V) (node_map s) root (pairs_of s) id
    same : pairs_below s id ≡ items_under (K × V) node.focus.height node.focus.subtree
    started : start ≡ length (items_before node.focus.path)

  part : Part
  part =
      let u = under in
      let f = u.node.focus in
      let list : List (K × V) = items_under (K × V) f.height f.subtree in
      let represents : Represents (node_map s) f.height (parent_above f.path) id list =
      subst (λ n. Represents (node_map s) f.height (parent_above f.path) n list) f.here
      (represents-of (K × V) (node_map s) f.height (parent_above f.path) f.subtree f.whole.inner) in
      let w : IsWellFormed cmp (node_map s) (Some u.root) s.len (pairs_of s) =
      subst (λ t. IsWellFormed cmp (node_map s) t s.len (pairs_of s)) u.is tree in
      let l = levels-rooted (K × V) (node_map s) u.root (pairs_of s) _ w.formed f.height f.path f.subtree
      (focus-unsized (K × V) (node_map s) [] u.root (pairs_of s) f.height f.path f.subtree f.whole) in
      let m = height_held s _ u.root (pairs_of s) w.formed in
      let low : f.height < finite.len s.nodes = omega arith in
      let same : pairs_below s id ≡ list =
      represented-is (node_map s) f.height (finite.len s.nodes) (parent_above f.path) id list low represents in
      record {
        root = u.root;
        is = u.is;
        view = u.view;
        here = u.here;
        start = length (items_before f.path);
        at =
            subst (λ ys. IsSubtreeAt (node_map s) (pairs_of s) id ys (length (items_before f.path))) (sym same)
            (record {
              front = items_before f.path;
              back = items_after f.path;
              subtree = record { height = f.height; parent = parent_above f.path; represents = represents };
              split = f.whole.list ∙ sym (append_assoc (items_before f.path) list (items_after f.path));
              counted = refl;
            });
        node = u.node;
        same = same;
        started = refl;
      }

  -- a search among the pairs under the node begins at the node
  pub record Begins {Q : Type 0} (compare : K → Q → Ordering) (k : Q) : Type 0 where
    pub root : ℕ
    pub is : s.root ≡ Some root
    pub start : ℕ
    pub begins : HasPlace s (address_before id) start
    pub searching : IsSearching compare k (node_map s) root (pairs_of s) (pairs_below s id) start id

  before-place : (p : Part) → IsPlaceIn s (address_before id) p.start
  before-place p = in-state cmp laws s tree p.root p.is id None p.start (pairs_below s id, p.at)

  pub begins-here : {Q : Type 0} (compare : K → Q → Ordering) (k : Q) → Begins compare k
  begins-here compare k =
      let p = part in
      record {
        root = p.root;
        is = p.is;
        start = p.start;
        begins = has-place cmp laws s tree (address_before id) p.start (before-place p);
        searching =
            subst (λ n. IsSearching compare k (node_map s) p.root (pairs_of s) (pairs_below s id) n id) (sym p.started)
            (subst (λ ys. IsSearching compare k (node_map s) p.root (pairs_of s) ys (length (items_before p.node.focus.path)) id) (sym p.same)
            (search-start compare k (node_map s) p.root (pairs_of s) id p.node));
      }

  -- a key that is not among the pairs under the node, and fits under it, fits at its place among all pairs
  pub fits-whole : (k : K) (start index : ℕ) → HasPlace s (address_before id) start → place_of cmp k (pairs_below s id) ≡ Err index
      → FitsIn cmp k s id → KeyFits cmp k (start + index) (pairs_of s)
  fits-whole k start index begins is f =
      let p = part in
      let at = p.at in
      let counted : start ≡ length at.front = sym (begins.only p.start (before-place p)) ∙ at.counted in
      let first : f.start ≡ length at.front = begins.only f.start f.begins.at ∙ counted in
      subst (λ n. KeyFits cmp k (n + index) (pairs_of s)) (sym counted)
      (fits-in_whole cmp laws k (pairs_of s) at.front (pairs_below s id) at.back index tree.ascends (at.split ∙ append_assoc at.front (pairs_below s id) at.back) is
      (λ n x e here. f.above n x (e ∙ sym first) here)
      (λ x here. f.below x (subst (λ n. slice_get (pairs_of s) (n + length (pairs_below s id)) ≡ Some x) (sym first) here)))

  -- where the pairs under the node begin and end: the places of its first offset and of its last one
  pub record Spans (size : ℕ) : Type 0 where
    pub start : ℕ
    pub begins : HasPlace s (address_before id) start
    pub ends : HasPlace s (address_at id size) (start + length (pairs_below s id))
    pub first : IsValidIn s (address_before id)
    pub last : IsValidIn s (address_at id size)

  pub spans : (node : Node K V) → finite.get s.nodes id ≡ Some node → Spans (size_of (view_of node))
  spans node at =
      let p = part in
      let size : ℕ = size_of (view_of node) in
      let here : node_map s id ≡ Some (view_of node) = ap (option_map view_of) at in
      let first = before-place p in
      let end : IsEnd (node_map s) (node_map s id) size = subst (λ v. IsEnd (node_map s) v size) (sym here) refl in
      let last : IsPlaceIn s (address_at id size) (p.start + length (pairs_below s id)) =
      in-state cmp laws s tree p.root p.is id (Some size) (p.start + length (pairs_below s id))
      (inr (end, (pairs_below s id, p.start, p.at, refl))) in
      record {
        start = p.start;
        begins = has-place cmp laws s tree (address_before id) p.start first;
        ends = has-place cmp laws s tree (address_at id size) (p.start + length (pairs_below s id)) last;
        first = place-valid (node_map s) s.root (pairs_of s) id None p.start first;
        last = place-valid (node_map s) s.root (pairs_of s) id (Some size) (p.start + length (pairs_below s id)) last;
      }
