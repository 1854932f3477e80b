-- A pair inserted into a leaf of a tree that is not empty: what the steps require, and what they leave.
use Rattle.btree_ext.proofs.Common.{◌≡◌, ◌≢◌, ℕ, suc, ◌+◌, ◌≤◌, inl, inr, List, [], length, Option, Some, None, IsSome, refl, sym, ap, subst, ◌∙◌, option_map, option_and_then, slice_get, arith, slice_get_within, IsTotalOrder, insert, Ordering, Address, View, NodeMap, leaf, internal, item_in, most_of, size_of, need, IsPlace, IsLeaf, times_listed, numbers_under, WritesNode, IsStrain, strain_under, address_at, TreeState, Changes, IsBTree, IsPlaceIn, IsUsed, node_map, nodes_needed, pairs_of, IsSized, IsWellFormed, times_used, same-or, used-view, len-views, height_held, is-tree, pairs-tree, same-len, same-kept, IsGapFor, IsInserted}
use Rattle.std.proofs.Common.{◌++◌, length-append}
use Rattle.std.specs.FinMap as map
use Rattle.btree_view.specs.Edits.{with_item}
use Rattle.btree_laws.specs.Focus.Overflow.{MayOverflowAt, IsRepaired}
use Rattle.btree_laws.specs.Place.{IsPlaceOf, IsEnd}
use Rattle.btree_laws.specs.Step.{Claims}
use Rattle.btree_laws.specs.TreeState.{views}
use Rattle.btree_laws.proofs.Trees.Numbers.{less-or, listed-append, used-low, used-one}
use Rattle.btree_laws.proofs.Places.OnePlace.{one_place-well}
use Rattle.btree_laws.proofs.Splits.Insertion.{leaf-overflow, repaired-well, repaired-address, repaired-within, repaired-rooted}
use Rattle.btree_raw.proofs.ClaimLemmas.{claims-low, claims-focus}
use Rattle.btree_raw.proofs.UpwardLemmas.{upward-done, upward-left, upward-start}
use Rattle.btree_raw.proofs.StateLemmas.{same-root}
use Rattle.btree_raw.specs.Claimed.{AreClaimed}
use Rattle.btree_raw.specs.Steps.{AddsItem, AreSplit, CanAddItem, IsSplitting, SplitsUpward}
use Rattle.btree_raw.specs.Limit.{IsBelowLimit}
use Rattle.btree_ext.specs.Insert.{IsWithinStrain}

module _ {K V : Type 0} where
  leaf-there : (o : Option (View (K × V))) → IsLeaf (λ n. o) o → (p : Option ℕ) × (ys : List (K × V)) × (o ≡ Some (leaf p ys))
  leaf-there None is = absurd is
  leaf-there (Some (leaf p ys)) is = (p, ys, refl)
  leaf-there (Some (internal p first bs)) is = absurd is

pub some-root : (top : Option ℕ) → top ≢ None → (root : ℕ) × (top ≡ Some root)
some-root None some = absurd (some refl)
some-root (Some root) some = (root, refl)

-- an offset that is not -1
back-some : (o : Option ℕ) → IsSome o → (n : ℕ) × (o ≡ Some n)
back-some None is = absurd (cc)
back-some (Some n) is = (n, refl)

module _ {K V : Type 0} (cmp : K → K → Ordering) (laws : IsTotalOrder cmp) (old : TreeState K V) (some : old.root ≢ None) (tree : IsBTree cmp old)
    (k : K) (w : V) (a : Address) (gap : IsGapFor cmp k old a) where
  abbrev node_at : NodeMap (K × V)
  node_at = node_map old

  abbrev pairs : List (K × V)
  pairs = pairs_of old

  abbrev root : ℕ
  root = (some-root old.root some).0

  is : old.root ≡ Some root
  is = (some-root old.root some).1

  well : IsWellFormed cmp node_at (Some root) old.len pairs
  well = subst (λ t. IsWellFormed cmp node_at t old.len pairs) is tree

  at-root : IsPlace node_at (Some root) pairs a.id a.offset gap.place
  at-root = subst (λ t. IsPlace node_at t pairs a.id a.offset gap.place) is gap.at

  -- the leaf and the offset in it
  pub record LeafAt : Type 0 where
    pub parent : Option ℕ
    pub items : List (K × V)
    pub here : node_at a.id ≡ Some (leaf parent items)
    pub index : ℕ
    pub offset : a.offset ≡ Some index
    pub within : index ≤ length items
    pub few : length items ≤ 8
    pub place : IsPlace node_at (Some root) pairs a.id (Some index) gap.place

  pub the-leaf : LeafAt
  the-leaf = elim gap.in_leaf [
    | inl in_leaf ↦
        let l = leaf-there (node_at a.id) in_leaf in
        let o = back-some a.offset gap.back in
        let at : IsPlace node_at (Some root) pairs a.id (Some o.0) gap.place = subst (λ q. IsPlace node_at (Some root) pairs a.id q gap.place) o.1 at-root in
        let size = (well.formed.sized a.id (leaf l.0 l.1) l.2).1 in
        record { parent = l.0; items = l.1; here = l.2; index = o.0; offset = o.1; within = low l.0 l.1 o.0 l.2 at; few = size; place = at }
    | inr nowhere ↦ absurd (some nowhere.0)
  ]
    where
      low : (p : Option ℕ) (ys : List (K × V)) (n : ℕ) → node_at a.id ≡ Some (leaf p ys) → IsPlace node_at (Some root) pairs a.id (Some n) gap.place → n ≤ length ys
      low p ys n here at = elim at [
        | inl there ↦ by (item_in (node_at a.id) n) refl there
        | inr end ↦ let e : n ≡ length ys = subst (λ v. IsEnd node_at v n) here end.0 in omega arith
      ]
        where
          by : (o : Option (K × V)) → item_in (node_at a.id) n ≡ o → IsPlaceOf node_at pairs o gap.place → n ≤ length ys
          by None e t = absurd t
          by (Some x) e t = let g : slice_get ys n ≡ Some x = ap (λ v. item_in v n) (sym here) ∙ e in omega (arith, slice_get_within ys n x g)

  pub leaf-used : IsUsed old a.id
  leaf-used = used-view old.nodes a.id (let u = used-one (node_at a.id) (leaf the-leaf.parent the-leaf.items) the-leaf.here in omega arith)

  pub index-is : (n : ℕ) → Some n ≡ a.offset → the-leaf.index ≡ n
  index-is n e = let o = the-leaf.offset in let both : Some n ≡ Some the-leaf.index = e ∙ o in cc

  -- the leaf has room for an item in passing
  pub can-add-first : (index : ℕ) → Some index ≡ a.offset → CanAddItem node_at a.id index None
  can-add-first index at = subst (λ n. CanAddItem node_at a.id n None) (index-is index at)
      (record { node = leaf the-leaf.parent the-leaf.items; here = the-leaf.here; room = the-leaf.few; within = the-leaf.within; kind = refl })

  -- after the claims, and with the pair in the leaf
  module _ (ids : List ℕ) (mid : TreeState K V) (claimed : AreClaimed old mid ids) (count : length ids ≡ nodes_needed old a.id) where
    claims : Claims node_at (node_map mid) ids
    claims = subst (λ m. Claims node_at (views m) ids) (sym claimed.claimed.after) (claims-focus old.nodes ids claimed.claimed.claims)

    leaf-kept : node_map mid a.id ≡ Some (leaf the-leaf.parent the-leaf.items)
    leaf-kept =
        let u = used-one (node_at a.id) (leaf the-leaf.parent the-leaf.items) the-leaf.here in
        let v = used-low (node_map mid a.id) in
        let c = claims.counted a.id in
        claims.kept a.id (omega arith) ∙ the-leaf.here

    same-top : mid.root ≡ Some root
    same-top = same-root claimed.rest ∙ is

    pub can-add : (index : ℕ) → Some index ≡ a.offset → CanAddItem (node_map mid) a.id index None
    can-add index at = subst (λ n. CanAddItem (node_map mid) a.id n None) (index-is index at)
        (record { node = leaf the-leaf.parent the-leaf.items; here = leaf-kept; room = the-leaf.few; within = the-leaf.within; kind = refl })

    module _ (put : TreeState K V) (index : ℕ) (offset : Some index ≡ a.offset) (adds : Changes (λ p q. AddsItem p q a.id index (k, w) None) mid put) where
      added : AddsItem (node_map mid) (node_map put) a.id the-leaf.index (k, w) None
      added = subst (λ n. AddsItem (node_map mid) (node_map put) a.id n (k, w) None) (sym (index-is index offset)) adds.nodes

      writes_node : WritesNode (node_map mid) (node_map put) a.id (with_item the-leaf.index (k, w) None (leaf the-leaf.parent the-leaf.items))
      writes_node = record { here = added.here ∙ ap (option_map (with_item the-leaf.index (k, w) None)) leaf-kept; others = added.others }

      abbrev bound : ℕ
      bound = suc (strain_under node_at root (numbers_under node_at well.formed.height root))

      overflow : MayOverflowAt (K × V) (node_map put) root (insert pairs gap.place (k, w)) a.id ids (Some (k, w)) a gap.place 0 bound
      overflow =
          let slot_is : address_at a.id the-leaf.index ≡ a = ap (λ o. record { id = a.id; offset = o }) (sym the-leaf.offset) in
          let enough : length ids ≡ need node_at (Some root) (map.len old.nodes) a.id = count ∙ ap (λ t. need node_at t (map.len old.nodes) a.id) is in
          subst (λ b. MayOverflowAt (K × V) (node_map put) root (insert pairs gap.place (k, w)) a.id ids (Some (k, w)) b gap.place 0 bound) slot_is
          (leaf-overflow cmp laws node_at root old.len pairs well (node_map mid) (node_map put) a.id the-leaf.parent the-leaf.items the-leaf.index gap.place (k, w) ids the-leaf.here the-leaf.within the-leaf.place
          (map.len old.nodes) (height_held old (IsSized root) root pairs well.formed) claims enough writes_node)

      put-top : put.root ≡ Some root
      put-top = same-root adds.rest ∙ same-top

      pub splitting : IsSplitting (node_map put) put.root a.id ids a
      splitting = record { top = root; at_root = put-top; xs = insert pairs gap.place (k, w); expected = Some (k, w); place = gap.place; allocated = 0; bound = bound; overflow = overflow }

      abbrev repaired-leaf : View (K × V)
      repaired-leaf = with_item the-leaf.index (k, w) None (leaf the-leaf.parent the-leaf.items)

      -- if no node is needed, none is split
      pub unsplit : length ids ≡ 0 → SplitsUpward put put a.id ids a a
      unsplit none = record { split = still; used = λ n. refl; len = refl; uncounted = refl }
        where
          still : AreSplit (node_map put) (node_map put) put.root put.root a.id ids a a
          still =
              let start = upward-start (K × V) (node_map put) put.root a.id ids a (claims-low old.nodes ids claimed.claimed.claims) in
              elim (less-or (most_of repaired-leaf) (size_of repaired-leaf)) [
                | inl over ↦ let left = upward-left (K × V) (node_map put) (node_map put) put.root a.id a.id ids ids a a splitting start repaired-leaf writes_node.here over in absurd (omega arith)
                | inr room ↦ upward-done (K × V) (node_map put) (node_map put) put.root a.id a.id ids ids a a splitting start repaired-leaf writes_node.here (elim room [ inl same ↦ omega arith | inr less ↦ omega arith ])
              ]

      module _ (new : TreeState K V) (b : Address) (s : SplitsUpward put new a.id ids a b) where
        repaired : IsRepaired (K × V) (node_map new) s.split.top (insert pairs gap.place (k, w)) (Some (k, w)) b gap.place (0 + length ids) bound
        repaired = s.split.repaired root (insert pairs gap.place (k, w)) (Some (k, w)) gap.place 0 bound put-top overflow

        new-well : IsWellFormed cmp (node_map new) (Some s.split.top) (old.len + 1) (insert pairs gap.place (k, w))
        new-well = repaired-well cmp laws node_at root old.len pairs well k w gap.place gap.fits (node_map new) s.split.top (Some (k, w)) b (0 + length ids) bound repaired

        listed : (n : ℕ) → times_listed n (numbers_under node_at well.formed.height root ++ ids) ≡ times_used (node_map new n)
        listed n =
            let a1 = listed-append n (numbers_under node_at well.formed.height root) ids in
            let a3 = well.formed.once n in
            let a4 = claims.counted n in
            let a5 = s.used n in
            let a6 = put-used n in
            omega arith
          where
            put-used : (n : ℕ) → times_used (node_map put n) ≡ times_used (node_map mid n)
            put-used n = elim (same-or n a.id) [
              | inl same ↦
                  let x = used-one (node_map put a.id) (with_item the-leaf.index (k, w) None (leaf the-leaf.parent the-leaf.items)) writes_node.here in
                  let y = used-one (node_map mid a.id) (leaf the-leaf.parent the-leaf.items) leaf-kept in
                  rw same (omega arith)
              | inr ne ↦ ap times_used (writes_node.others n ne)
            ]

        was-listed : (n : ℕ) → times_listed n (numbers_under node_at well.formed.height root) ≡ times_used (node_at n)
        was-listed n = well.formed.once n

        -- the length is one more at the end
        abbrev ended : TreeState K V
        ended = record new { len = new.len + 1 }

        end-well : IsWellFormed cmp (node_map ended) ended.root ended.len (insert pairs gap.place (k, w))
        end-well =
            let longer : new.len + 1 ≡ old.len + 1 = ap (λ n. n + 1) (s.len ∙ (same-len adds.rest ∙ same-len claimed.rest)) in
            subst (λ t. IsWellFormed cmp (node_map new) t (new.len + 1) (insert pairs gap.place (k, w))) (sym s.split.at_root)
            (subst (λ n. IsWellFormed cmp (node_map new) (Some s.split.top) n (insert pairs gap.place (k, w))) (sym longer) new-well)

        end-pairs : pairs_of ended ≡ insert pairs gap.place (k, w)
        end-pairs = pairs-tree cmp ended ended.len (insert pairs gap.place (k, w)) end-well

        is-within : IsWithinStrain old ended
        is-within =
            let rooted = repaired-rooted (K × V) (node_map new) s.split.top (insert pairs gap.place (k, w)) (Some (k, w)) b gap.place (0 + length ids) bound repaired in
            let all : List ℕ = numbers_under (node_map new) rooted.height s.split.top in
            let each : (n : ℕ) → times_listed n all ≡ times_used (node_map new n) = rooted.once in
            let within_strain = repaired-within (K × V) (node_map new) s.split.top (insert pairs gap.place (k, w)) (Some (k, w)) b gap.place (0 + length ids) bound repaired in
            let l1 = len-views new.nodes (numbers_under node_at well.formed.height root ++ ids) listed in
            let l2 = len-views old.nodes (numbers_under node_at well.formed.height root) was-listed in
            let l3 = length-append (numbers_under node_at well.formed.height root) ids in
            record {
              before = strain_under node_at root (numbers_under node_at well.formed.height root);
              after = strain_under (node_map new) s.split.top all;
              strain_before = subst (λ t. IsStrain node_at t (strain_under node_at root (numbers_under node_at well.formed.height root))) (sym is) (numbers_under node_at well.formed.height root, was-listed, refl);
              strain_after = subst (λ t. IsStrain (node_map new) t (strain_under (node_map new) s.split.top all)) (sym s.split.at_root) (all, each, refl);
              within_strain = omega arith;
            }

        pub more-inserted : IsBelowLimit old → IsInserted cmp old ended a b (k, w)
        more-inserted below_limit =
            let at = repaired-address (K × V) (node_map new) s.split.top (insert pairs gap.place (k, w)) (Some (k, w)) b gap.place (0 + length ids) bound repaired in
            let l1 = len-views new.nodes (numbers_under node_at well.formed.height root ++ ids) listed in
            let l2 = len-views old.nodes (numbers_under node_at well.formed.height root) was-listed in
            let l3 = length-append (numbers_under node_at well.formed.height root) ids in
            let i = at.item (k, w) refl in
            let there : IsPlaceIn ended b gap.place =
            subst (λ l. IsPlace (node_map new) new.root l b.id b.offset gap.place) (sym end-pairs)
            (subst (λ t. IsPlace (node_map new) t (insert pairs gap.place (k, w)) b.id b.offset gap.place) (sym s.split.at_root) at.place) in
            record {
              below_limit = below_limit;
              tree = is-tree cmp ended (insert pairs gap.place (k, w)) end-well;
              pairs = λ place has.
                  let same = one_place-well cmp laws node_at pairs old.len (Some root) well a.id a.offset gap.place place at-root (subst (λ t. IsPlace node_at t pairs a.id a.offset place) is has) in (
                    end-pairs ∙ ap (λ p. insert pairs p (k, w)) same,
                    subst (λ p. IsPlaceIn ended b p) same there,
                  );
              item = ap (option_and_then (item_in (node_map new b.id))) i.1 ∙ i.2;
              longer = ap (λ n. n + 1) (s.len ∙ (same-len adds.rest ∙ same-len claimed.rest));
              nodes = omega arith;
              split = λ top at. record {
                spare = ids;
                claimed = node_map mid;
                claims = claims;
                index = index;
                offset = sym offset;
                put = node_map put;
                adds = adds.nodes;
                splits = s.split.order top (same-root adds.rest ∙ (same-root claimed.rest ∙ at));
              };
              strain = is-within;
              uncounted = s.uncounted ∙ (same-kept adds.rest ∙ same-kept claimed.rest);
            }

-- no node is claimed
pub none-claimed : {K V : Type 0} (s : TreeState K V) → AreClaimed s s []
none-claimed s = record { claimed = record { claims = tt; after = refl }; rest = record { rest = refl } }
