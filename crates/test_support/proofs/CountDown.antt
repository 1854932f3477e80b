-- `count_down` at a call: what it is given, and what the caller has of it. Assumes `Logic`.
use Rattle.std.proofs.Common.{◌≡◌, ℕ, Bool, List, [], ◌∷◌, refl, ap}
use seplogic.Ra.Ura.{Ura}
use mir.Val.{Val, vbool, vptr}
use base.Logic.{SProp, ent, sep, ex, guard, id⊢}
use base.Fml.{Lft, Share, ftrue, fsep, flft}
use prog.Memory.{Memory}
use prog.Routine.{Routine}
use types.Logic.{Logic, sem}
use contract.Monad.{Fun}
use types.Kit.{‵, raw, ◌⊛◌, some, later, ◌$◌, ◌∵◌, !, qed, move, keep, use1, split, join, pick, fjoin, feq_i, feq_l, check, show, await, updating, now as at_once, done}
use denote.Memory.{hidden_shr}
use denote.Builtin.{bool}
use denote.Steps.{nothing, only}
use denote.Triple.Statement.{Contract}
use denote.Triple.Spec.{triple_of}
use Rattle.test_support.proofs.Inside.{Counter}
use Rattle.test_support.specs.contracts.refusing.count_down as count_down

module _ {M : Type 1} {𝓤 : Ura M} (𝓛 : Logic 𝓤) (at_mem : Memory → SProp 𝓤) (run : Routine → Fun 𝓤) where
  -- its contract
  abbrev pub Counts : Contract 𝓤
  Counts = triple_of 𝓛 count_down.signature (count_down.spec 𝓛 at_mem run)

  -- the call with the cell at this place
  abbrev pub counts_at : Lft → Share → ℕ × ℕ → Counts.Ghost
  counts_at borrow share place =
      (((borrow, tt), (share, tt), tt, (record { ref_ptr = place; now = record { value = tt } }, tt), (vptr place.0 place.1 ∷ [], tt)), tt)

  module _ (borrow : Lft) (share : Share) (place : ℕ × ℕ) where
    open 𝓛 use {H, A}

    pub Counts-goes : ent 𝓤 (sep 𝓤 (sem 𝓛 (hidden_shr Counter borrow (record { value = tt }) place.0 place.1)) (A.lft borrow share)) (Counts.pre (counts_at borrow share place))
    Counts-goes =
        qed 𝓛 (‵ (hidden_shr Counter borrow (record { value = tt }) place.0 place.1) ∷ ‵ (flft borrow share) ∷ []) ∵
        feq_i ! (List Val) (vptr place.0 place.1 ∷ []) (vptr place.0 place.1 ∷ []) refl $ fjoin ! $
        nothing ! $ move ! (1 ∷ []) $ fjoin ! $ nothing ! $ move ! (2 ∷ []) $ join ! $ join ! $ nothing ! $ move ! (1 ∷ []) $ done !

    pub Counts-gives : (v : Val) → ent 𝓤 (Counts.post (counts_at borrow share place) v) (H.⇛ (ex 𝓤 (λ (due : Bool). guard 𝓤 (v ≡ vbool due) (A.lft borrow share))))
    Counts-gives v =
        qed 𝓛 (raw (Counts.post (counts_at borrow share place) v) ∷ []) ∵ updating ! $
        use1 𝓛 (later (some (λ (due : Bool). ((‵ (flft borrow share) ⊛ ‵ ftrue) ⊛ ‵ (bool.own_val due (v ∷ []))) ⊛ some (λ (ws : Unit {0} × Unit {0}). ‵ (fsep ftrue ftrue) ⊛ ‵ ftrue)))) (id⊢ 𝓤 _) $
        await ! tt $ pick ! (λ due. split ! $ split ! $ move ! (1 ∷ []) $ feq_l ! (λ is_due. split ! $ at_once ! $
        show ! (λ (due : Bool). guard 𝓤 (v ≡ vbool due) (A.lft borrow share)) due $ check ! (ap only is_due) $ keep ! (0 ∷ []) $ done !))
