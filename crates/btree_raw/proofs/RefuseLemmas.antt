-- Claims in a loop: one more, one freed, all freed.
use Rattle.btree_raw.proofs.Common.{◌≡◌, ℕ, ◌<◌, ◌^◌, ◌-◌, List, [], ◌∷◌, ◌++◌, IsSome, None, ap, sym, subst, TreeState, AreClaimed, EMPTY, Refuses}
use Rattle.std.specs.FinMap as map
use Rattle.btree_laws.specs.TreeState.{refused_once}
use Rattle.btree_raw.specs.Claimed.{IsClaimed}
use Rattle.btree_raw.proofs.ClaimLemmas.{claims-undone, one-more}
use Rattle.btree_raw.proofs.StateLemmas.{with_nodes}

module _ {K V : Type 0} where
  abbrev counted : TreeState K V → TreeState K V
  counted s = record s { kept = refused_once s.kept }

  -- a refusal is counted in the state that is left when the claims are freed
  pub refused-claims : (base now mid : TreeState K V) (ids : List ℕ) → AreClaimed base now ids → Refuses now mid → AreClaimed (record base { kept = refused_once base.kept }) mid ids
  refused-claims base now mid ids c r = subst (λ s. AreClaimed (record base { kept = refused_once base.kept }) s ids) (sym r) (record { claimed = c.claimed; rest = record { rest = ap counted c.rest.rest } })

  pub more-claims : (base now mid : TreeState K V) (ids all : List ℕ) (id : ℕ) → AreClaimed base now ids → map.get now.nodes id ≡ None → id < 2 ^ 64 - 1
      → mid ≡ record now { nodes = map.insert now.nodes id EMPTY } → all ≡ ids ++ id ∷ [] → AreClaimed base mid all
  more-claims base now mid ids all id c unused low is e =
      subst (λ s. AreClaimed base s all) (sym is) (record {
        claimed = subst (λ l. IsClaimed EMPTY base.nodes (map.insert now.nodes id EMPTY) l) (sym e) (one-more EMPTY base.nodes now.nodes ids id c.claimed unused low);
        rest = record { rest = ap (with_nodes (map.insert now.nodes id EMPTY)) c.rest.rest };
      })

  pub claim-used : (base now : TreeState K V) (all ids : List ℕ) (id : ℕ) → all ≡ ids ++ id ∷ [] → AreClaimed base now all → IsSome (map.get now.nodes id)
  claim-used base now all ids id e c = (claims-undone EMPTY base.nodes now.nodes all ids id e c.claimed).used

  pub less-claims : (base now mid : TreeState K V) (all ids : List ℕ) (id : ℕ) → all ≡ ids ++ id ∷ [] → mid ≡ record now { nodes = map.remove now.nodes id }
      → AreClaimed base now all → AreClaimed base mid ids
  less-claims base now mid all ids id e is c = subst (λ s. AreClaimed base s ids) (sym is) (record {
    claimed = (claims-undone EMPTY base.nodes now.nodes all ids id e c.claimed).less;
    rest = record { rest = ap (with_nodes (map.remove now.nodes id)) c.rest.rest };
  })
