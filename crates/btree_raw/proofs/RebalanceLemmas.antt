-- Rebalancing: where its splits or underflow fixes begin, and how they end.
use Rattle.btree_raw.proofs.Common.{◌≡◌, ◌∙◌, ◌+◌, ◌<◌, ◌≤◌, ◌++◌, [], ℕ, suc, inl, inr, List, length, length-append, Option, Some, None, IsSome, refl, sym, ap, subst, arith, slice_get, IsTotalOrder, Ordering, Content, Address, Store, Node, View, NodeMap, item_in, items_of, most_of, size_of, MayOverflowAt, IsRepaired, split_need, IsPlace, times_listed, MayUnderflowAt, Claims, TreeState, KeepsRest, IsOffByOneAt, IsUsed, node_map, nodes_for_splits, pairs_of, views, IsWellFormed, times_used, listed-append, EMPTY, IsCountingSplits, AreClaimed, Refuses, IsFit, AreFixed, IsSplitting, Overflows, height_held, used-view, len-views, slice_get_within}
use Rattle.std.specs.FinMap as map
use Rattle.btree_laws.specs.UnderflowFix.{IsUnderflowFixed}
use Rattle.btree_laws.specs.Focus.TreePositions.{IsAddressed}
use Rattle.btree_laws.specs.Place.{IsEnd, IsPlaceOf, IsValid}
use Rattle.btree_laws.specs.Strain.{debt_of}
use Rattle.btree_laws.specs.Represents.{Represents, numbers_under}
use Rattle.btree_laws.specs.Strain.{IsStrain, strain_under}
use Rattle.btree_laws.specs.Focus.Positions.{IsExpected}
use Rattle.btree_laws.specs.TreeState.{HasLevels, HasLevelsUnder, IsValidIn}
use Rattle.btree_laws.specs.WellFormed.{IsNearlySized}
use Rattle.btree_laws.proofs.Underflow.Order.{underflow-levels}
use Rattle.btree_laws.proofs.Underflow.OffByOne.{emptied-well, fixed-well, off-need, off-overflow, off-underflow}
use Rattle.btree_laws.proofs.Places.OfTree.{positions-addressed, valid-on}
use Rattle.btree_laws.proofs.Splits.Insertion.{repaired-within, repaired-rooted}
use Rattle.btree_laws.proofs.Places.Steps.{repaired-addressed}
use Rattle.btree_laws.specs.Place.{item_at}
use Rattle.btree_raw.specs.Claimed.{MayRefuseOneOf}
use Rattle.btree_raw.specs.OverflowSplit.{IsOverflowSplit}
use Rattle.btree_raw.specs.Rebalance.{FreesNodes, HasRoom, AllocatesForSplits, IsRebalanced, IsRefusal, StaysAsIs}
use Rattle.btree_raw.specs.Underflow.{IsFixingOf, FixesUnderflowUpward, IsRepairedOrEmpty}
use Rattle.btree_raw.specs.Steps.{SplitsUpward}
use Rattle.btree_raw.proofs.LevelLemmas.{split_need-few}
use Rattle.btree_raw.proofs.FixedLemmas.{fix-done, fix-start}
use Rattle.btree_laws.proofs.Trees.States.{is-tree-but-length, pairs-tree}
use Rattle.btree_laws.proofs.Options.{some-of}
use Rattle.btree_raw.proofs.ClaimLemmas.{claims-focus}
use Rattle.btree_raw.proofs.StateLemmas.{same-len, same-kept, same-root}

module _ {A : Type 0} where
  -- the numbers of nodes, with those that were allocated or freed
  listed-both : (node_at new : NodeMap A) (ids more : List ℕ) → ((n : ℕ) → times_listed n ids ≡ times_used (new n)) → ((n : ℕ) → times_used (node_at n) ≡ times_used (new n) + times_listed n more)
      → (n : ℕ) → times_listed n (ids ++ more) ≡ times_used (node_at n)
  listed-both node_at new ids more each both n = let a = listed-append n ids more in let b = each n in let c = both n in omega arith

-- no item is at an address of the empty list
nothing-there : {A : Type 0} (node_at : NodeMap A) (root : ℕ) (id : ℕ) (o : Option ℕ) (place : ℕ) (x : A) → IsAddressed A node_at root [] (Some x) (record { id = id; offset = o }) place → ⊥
nothing-there node_at root id None place x d = let e = d.item in absurd (cc)
nothing-there {A} node_at root id (Some o) place x d = elim d.at_place [
  | inl at ↦ let q : IsPlaceOf node_at [] (Some x) place = subst (λ i. IsPlaceOf node_at [] i place) d.item at in none place q
  | inr end ↦ past (node_at id) d.item end.0
]
  where
    none : (p : ℕ) → slice_get [] p ≡ Some x → ⊥
    none p e = absurd (cc)

    past : (v : Option (View A)) → item_in v o ≡ Some x → IsEnd node_at v o → ⊥
    past None e end = absurd end
    past (Some v) e end = let l = slice_get_within (items_of v) o x e in absurd (omega arith)

module _ {K V : Type 0} (cmp : K → K → Ordering) (node_at new : NodeMap (K × V)) (root : ℕ) (xs : List (K × V)) (a b : Address) where
  -- the address at the end: valid, at the place, and at the item that is required
  pub record Follows (t : Option ℕ) (expected : Option (K × V)) (place : ℕ) : Type 0 where
    pub valid : IsValid new t b.id b.offset
    pub at_place : IsPlace new t xs b.id b.offset place
    pub item : (x : K × V) → expected ≡ Some x → item_at new b ≡ Some x

  -- what holds for the tree under root t at the end of the steps
  pub record Ends (t : Option ℕ) (allocated bound : ℕ) : Type 0 where
    pub well : IsWellFormed cmp new t (length xs) xs
    pub ids : List ℕ
    pub each : (n : ℕ) → times_listed n ids ≡ times_used (new n)
    pub after : ℕ
    pub strain : IsStrain new t after
    pub within_strain : allocated + after ≤ bound
    pub follow : (expected : Option (K × V)) (place : ℕ) → IsAddressed (K × V) node_at root xs expected a place → Follows t expected place

  repaired-follows : (t place : ℕ) (expected : Option (K × V)) → IsAddressed (K × V) new t xs expected b place → Follows (Some t) expected place
  repaired-follows t place expected d = record {
    valid = d.valid;
    at_place = d.at_place;
    item = λ x q. subst (λ o. IsExpected o (item_at new b)) q d.item;
  }

  pub repaired-ends : (t place allocated bound : ℕ) → IsWellFormed cmp new (Some t) (length xs) xs → IsRepaired (K × V) new t xs None b place allocated bound
      → ((expected : Option (K × V)) (q : ℕ) → IsAddressed (K × V) node_at root xs expected a q → IsRepaired (K × V) new t xs expected b q allocated bound) → Ends (Some t) allocated bound
  repaired-ends t place allocated bound well g all =
      let rooted = repaired-rooted (K × V) new t xs None b place allocated bound g in
      let ids : List ℕ = numbers_under new rooted.height t in
      let each : (n : ℕ) → times_listed n ids ≡ times_used (new n) = rooted.once in
      record {
        well = well;
        ids = ids;
        each = each;
        after = strain_under new t ids;
        strain = (ids, each, refl);
        within_strain = repaired-within (K × V) new t xs None b place allocated bound g;
        follow = λ expected q d. repaired-follows t q expected (repaired-addressed (K × V) new t xs expected b q allocated bound (all expected q d));
      }

module _ {K V : Type 0} (cmp : K → K → Ordering) (laws : IsTotalOrder cmp) (old : TreeState K V) (id : ℕ) (o : IsOffByOneAt cmp old id) where
  abbrev node_at : NodeMap (K × V)
  node_at = node_map old

  abbrev xs : List (K × V)
  xs = pairs_of old

  abbrev numbers : List ℕ
  numbers = numbers_under node_at o.off.rooted.height o.root

  abbrev strain : ℕ
  strain = strain_under node_at o.root numbers

  listed : (n : ℕ) → times_listed n numbers ≡ times_used (node_at n)
  listed n = o.off.rooted.once n

  pub off-node : (v : View (K × V)) × (node_at id ≡ Some v)
  off-node = some-of (node_at id) o.off.used

  pub off-used : IsUsed old id
  off-used = used-view old.nodes id (rw off-node.1 (omega arith))

  module _ (a : Address) (valid : IsValidIn old a) where
    valid-root : IsValid node_at (Some o.root) a.id a.offset
    valid-root = subst (λ t. IsValid node_at t a.id a.offset) o.at_root valid

    place-of : (expected : Option (K × V)) → IsExpected expected (item_at node_at a) → (place : ℕ) × IsAddressed (K × V) node_at o.root xs expected a place
    place-of expected m =
        let n = valid-on (K × V) node_at o.root xs expected a (IsNearlySized o.root id) o.off.rooted valid-root m in
        (n.place, positions-addressed (K × V) node_at o.root xs expected a (IsNearlySized o.root id) n.place o.off.rooted n.on)

    at-some : (place : ℕ) × IsAddressed (K × V) node_at o.root xs None a place
    at-some = place-of None tt

    module _ (new : TreeState K V) (b : Address) (same_len : new.len ≡ old.len) (uncounted : new.kept ≡ old.kept)
        (back : IsSome a.offset → IsSome b.offset) (allocated bound : ℕ) (e : Ends cmp node_at (node_map new) o.root xs a b new.root allocated bound) where
      same-pairs : pairs_of new ≡ xs
      same-pairs = pairs-tree cmp new (length xs) xs e.well

      rebalanced : (Overflows node_at id → AllocatesForSplits old new id strain e.after) → ((room : HasRoom node_at id) → FreesNodes old new id room.node strain e.after)
          → (HasRoom node_at id → (t : ℕ) → old.root ≡ Some t → IsUnderflowFixed node_at (node_map new) t new.root id)
          → (IsFit node_at old.root id → StaysAsIs old new a b)
          → (Overflows node_at id → (t : ℕ) → old.root ≡ Some t → IsOverflowSplit node_at (node_map new) t new.root id)
          → IsRebalanced old new id cmp a b
      rebalanced taken freed steps stays cuts = record {
        well = is-tree-but-length cmp new xs e.well;
        pairs = same-pairs;
        len = same_len;
        uncounted = uncounted;
        valid = (e.follow None at-some.0 at-some.1).valid;
        place = λ q at.
            subst (λ l. IsPlace (node_map new) new.root l b.id b.offset q) (sym same-pairs)
            (e.follow None q (record { valid = valid-root; at_place = subst (λ t. IsPlace node_at t xs a.id a.offset q) o.at_root at; item = tt })).at_place;
        item = λ x q. let p = place-of (Some x) q in (e.follow (Some x) p.0 p.1).item x refl;
        back = back;
        settled = stays;
        fixed = steps;
        split = cuts;
        before = strain;
        after = e.after;
        strain_before = subst (λ t. IsStrain node_at t strain) (sym o.at_root) (numbers, listed, refl);
        strain_after = e.strain;
        allocated = taken;
        freed = freed;
      }

    same-node : (v node : View (K × V)) → node_at id ≡ Some v → node_at id ≡ Some node → v ≡ node
    same-node v node here q = cc

    -- no item too many
    module _ (fits : HasRoom node_at id) where
      abbrev low-bound : ℕ
      low-bound = strain + debt_of fits.node

      shrinks : (expected : Option (K × V)) (place : ℕ) → IsAddressed (K × V) node_at o.root xs expected a place → MayUnderflowAt (K × V) node_at o.root xs id expected a place 0 low-bound
      shrinks expected place d = off-underflow cmp laws node_at o.root id xs o.off fits.node fits.here fits.room expected a place d

      pub fixing : IsFixingOf node_at old.root id a (length xs)
      fixing = record {
        fixing = record {
          followed = record {
            root = o.root;
            xs = xs;
            expected = None;
            place = at-some.0;
            freed = 0;
            bound = low-bound;
            underflow = shrinks None at-some.0 at-some.1;
          };
          at_root = o.at_root;
        };
        items = refl;
      }

      module _ (new : TreeState K V) (b : Address) (u : FixesUnderflowUpward old new id a b) where
        abbrev m : AreFixed node_at (node_map new) old.root new.root id a b
        m = u.fixed

        abbrev Rest : Option ℕ → Type 0
        Rest t = (expected : Option (K × V)) (place : ℕ) → IsAddressed (K × V) node_at o.root xs expected a place → IsRepairedOrEmpty (node_map new) t xs expected b place (0 + length m.removed) low-bound

        fixed-ends : (t : Option ℕ) → Rest t → Ends cmp node_at (node_map new) o.root xs a b t (0 + length m.removed) low-bound
        fixed-ends (Some t) f =
            let g = f None at-some.0 at-some.1 in
            repaired-ends cmp node_at (node_map new) o.root xs a b t at-some.0 (0 + length m.removed) low-bound
            (fixed-well cmp laws node_at o.root id xs o.off fits.node fits.here (node_map new) t None b at-some.0 (0 + length m.removed) low-bound g) g f
        fixed-ends None f =
            let g = f None at-some.0 at-some.1 in
            let p = g.3 in
            record {
              well = emptied-well cmp laws node_at o.root id xs o.off fits.node fits.here (node_map new) g.0;
              ids = [];
              each = λ n. sym (ap times_used (g.0.0 n));
              after = 0;
              strain = refl;
              within_strain = omega arith;
              follow = λ expected place d.
                  let f2 = f expected place d in
                  record {
                    valid = f2.1;
                    at_place = f2.2;
                    item = λ x q.
                        let d2 : IsAddressed (K × V) node_at o.root xs (Some x) a place = subst (λ r. IsAddressed (K × V) node_at o.root xs r a place) q d in
                        absurd (nothing-there node_at o.root a.id a.offset place x (subst (λ l. IsAddressed (K × V) node_at o.root l (Some x) a place) g.0.1 d2));
                  };
            }

        ends : Ends cmp node_at (node_map new) o.root xs a b new.root (0 + length m.removed) low-bound
        ends = fixed-ends new.root (λ expected place d. m.fixed o.root xs expected place 0 low-bound o.at_root (shrinks expected place d))

        fewer : map.len old.nodes ≡ map.len new.nodes + length m.removed
        fewer =
            let l1 = len-views old.nodes (ends.ids ++ m.removed) (listed-both node_at (node_map new) ends.ids m.removed ends.each m.counted) in
            let l2 = len-views new.nodes ends.ids ends.each in
            let l3 = length-append ends.ids m.removed in
            omega arith

        within-root : (height : ℕ) → Represents node_at height None o.root xs → length m.removed ≤ suc height
        within-root height represents =
            let g = shrinks None at-some.0 at-some.1 in
            let f = m.few o.root xs None at-some.0 0 low-bound o.at_root g in
            let l = underflow-levels (K × V) node_at o.root xs id None a at-some.0 0 low-bound g (IsNearlySized o.root id) o.off.rooted height represents in
            omega arith

        within : (levels : ℕ) → HasLevels old levels → length m.removed ≤ levels
        within levels has =
            let h : HasLevelsUnder old (Some o.root) levels = subst (λ t. HasLevelsUnder old t levels) o.at_root has in
            let e = h.2 in
            let w = within-root h.0 h.1 in
            omega arith

        pub fixed : (IsSome a.offset → IsSome b.offset) → (IsFit node_at old.root id → StaysAsIs old new a b) → IsRebalanced old new id cmp a b
        fixed back stays =
            rebalanced new b u.len u.uncounted back (0 + length m.removed) low-bound ends
            (λ over. let s = same-node over.node fits.node over.here fits.here in let z = ap size_of s in let y = ap most_of s in let f = fits.room in let g = over.over in absurd (omega arith))
            (λ room.
            subst (λ n. FreesNodes old new id n strain ends.after) (same-node fits.node room.node fits.here room.here)
            (record { freed = length m.removed; fewer = fewer; within = within; within_strain = (let p = ends.within_strain in omega arith) }))
            (λ room t same. m.steps t same)
            stays
            (λ over t same. let s = same-node over.node fits.node over.here fits.here in let z = ap size_of s in let y = ap most_of s in let f = fits.room in let g = over.over in absurd (omega arith))

      -- where the node has enough items nothing changes
      pub enough-rebalanced : 2 < size_of fits.node → IsRebalanced old old id cmp a a
      enough-rebalanced enough =
          fixed old a
          (record {
            fixed = fix-done node_at node_at old.root id id a a fixing.fixing (fix-start (K × V) node_at old.root id a) fits.node fits.here enough;
            len = refl;
            uncounted = refl;
          })
          (λ is. is)
          (λ fit. record { same_tree = refl; same_address = refl })

    -- an item too many
    module _ (over : Overflows node_at id) where
      abbrev most : ℕ
      most = map.len old.nodes

      high : o.off.rooted.height < most
      high = height_held old (IsNearlySized o.root id) o.root xs o.off.rooted

      pub counting : IsCountingSplits node_at most id id 0
      counting =
          let s = off-need cmp laws node_at o.root id xs o.off over.node over.here most high in
          record { tree = node_at; alike = λ n. refl; root = o.root; xs = xs; upward = s; few = split_need-few cmp node_at o.root id most id (split_need node_at most id) xs o.off s }

      pub refusal : (MayRefuse : Content (Node K V) → Type 0) (new : TreeState K V) (count : ℕ) → count ≡ nodes_for_splits old id → Refuses old new
          → MayRefuseOneOf EMPTY MayRefuse old.nodes count → IsRefusal old new id MayRefuse Store
      refusal MayRefuse new count count_is refuses may = record {
        store = refl;
        unchanged = refuses;
        over = over;
        may = subst (λ n. MayRefuseOneOf EMPTY MayRefuse old.nodes n) count_is may;
      }

      -- what claims in the tree leave
      pub are-claims : (ids : List ℕ) (mid : TreeState K V) → AreClaimed old mid ids → Claims node_at (node_map mid) ids
      are-claims ids mid claimed =
          subst (λ n. Claims node_at (views n) ids) (sym claimed.claimed.after) (claims-focus old.nodes ids claimed.claimed.claims)

      module _ (ids : List ℕ) (mid : TreeState K V) (claims : Claims node_at (node_map mid) ids) (rest : KeepsRest old mid)
          (count : length ids ≡ nodes_for_splits old id) where
        grows : (expected : Option (K × V)) (place : ℕ) → IsAddressed (K × V) node_at o.root xs expected a place → MayOverflowAt (K × V) (node_map mid) o.root xs id ids expected a place 0 strain
        grows expected place d = off-overflow cmp laws node_at o.root id xs o.off over.node over.here over.over most high (node_map mid) ids claims count expected a place d

        same-top : mid.root ≡ Some o.root
        same-top = same-root rest ∙ o.at_root

        pub splitting : IsSplitting (node_map mid) mid.root id ids a
        splitting = record {
          top = o.root;
          at_root = same-top;
          xs = xs;
          expected = None;
          place = at-some.0;
          allocated = 0;
          bound = strain;
          overflow = grows None at-some.0 at-some.1;
        }

        module _ (new : TreeState K V) (b : Address) (s : SplitsUpward mid new id ids a b) where
          repaired : (expected : Option (K × V)) (place : ℕ) → IsAddressed (K × V) node_at o.root xs expected a place → IsRepaired (K × V) (node_map new) s.split.top xs expected b place (0 + length ids) strain
          repaired expected place d = s.split.repaired o.root xs expected place 0 strain same-top (grows expected place d)

          split-ends : Ends cmp node_at (node_map new) o.root xs a b new.root (0 + length ids) strain
          split-ends =
              let g = repaired None at-some.0 at-some.1 in
              subst (λ t. Ends cmp node_at (node_map new) o.root xs a b t (0 + length ids) strain) (sym s.split.at_root)
              (repaired-ends cmp node_at (node_map new) o.root xs a b s.split.top at-some.0 (0 + length ids) strain
              (fixed-well cmp laws node_at o.root id xs o.off over.node over.here (node_map new) s.split.top None b at-some.0 (0 + length ids) strain g) g repaired)

          more : map.len new.nodes ≡ map.len old.nodes + length ids
          more =
              let l1 = len-views new.nodes (numbers ++ ids)
              (λ n. let x = listed-append n numbers ids in let y = listed n in let z = claims.counted n in let u = s.used n in omega arith) in
              let l2 = len-views old.nodes numbers listed in
              let l3 = length-append numbers ids in
              omega arith

          pub is-split : (IsSome a.offset → IsSome b.offset) → IsRebalanced old new id cmp a b
          is-split back =
              rebalanced new b (s.len ∙ same-len rest) (s.uncounted ∙ same-kept rest) back (0 + length ids) strain split-ends
              (λ full. record { more = (let m = more in omega arith); within_strain = (let p = split-ends.within_strain in omega arith) })
              (λ room. let t = same-node over.node room.node over.here room.here in let z = ap size_of t in let y = ap most_of t in let f = room.room in let g = over.over in absurd (omega arith))
              (λ room t same. let q = same-node over.node room.node over.here room.here in let z = ap size_of q in let y = ap most_of q in let f = room.room in let g = over.over in absurd (omega arith))
              (λ fit. let q = same-node over.node fit.node over.here fit.here in let z = ap size_of q in let y = ap most_of q in let f = fit.sized.1 in let g = over.over in absurd (omega arith))
              (λ full t same. record { spare = ids; claimed = node_map mid; claims = claims; splits = s.split.order t (same-root rest ∙ same) })
