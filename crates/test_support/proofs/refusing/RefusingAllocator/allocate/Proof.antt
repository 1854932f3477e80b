-- `allocate` counts the call, and returns an error or what the inner allocator returns. Assumes `Logic`.
use Rattle.std.proofs.Common.{◌≡◌, ℕ, ◌^◌, ◌<◌, Bool, true, false, List, [], ◌∷◌, Ok, Err, refl, w64, Bor}
use seplogic.Ra.Ura.{Ura}
use mir.Syntax.{Ty, Fn}
use mir.Val.{Val, vbool, vint, vptr}
use mir.MapTy.{inst_fn}
use base.Logic.{SProp, ent}
use base.Fml.{Lft, Share, ftrue, flft}
use prog.Memory.{Memory, size, align, capped}
use prog.Routine.{Routine}
use prog.Wp.{Env, WpFn, Tables}
use types.Logic.{Logic}
use types.Kit.{‵, raw, ◌⊛◌, some, later, given, prop, at_ret, Sq, learn, pick, ◌$◌, ◌∵◌, !, qed, move, keep, use0, use1, use2, split, join, fsplit, fjoin, suffices, await, done}
use types.Run.{stop, fld, addr, lit, no_more, and_then, first, skips, branches, exec, returns, returns_within, enter}
use types.Part.{agg}
use types.ByLocal.{alloc_all, pass_all, free_all, look_at, get, through, sets, lands_as, env}
use contract.BorrowLft.{◌⊑◌, ⊑_trans}
use contract.Monad.{Fun, fact}
use contract.Running.{tables, tables_of}
use sound.WpLaws.{fm_of, WpFn-mono}
use denote.Builtin.{usize}
use denote.Exit.{yes}
use denote.Memory.{hidden_shr}
use denote.Plain.{uint_vals, uint_Tells}
use denote.RattleType.{owns}
use denote.RawPtr.{block_ptr}
use denote.Ref.{shr_vals}
use denote.Signature.{plain, types_at}
use denote.Steps.{heard, nothing}
use denote.Triple.Call.{calls_at}
use denote.Triple.Clauses.{Ended, Clauses}
use denote.Triple.Spec.{triple_of}
use denote.Triple.Statement.{Triple}
use denote.Triple.Table.{entered, cited}
use denote.Triple.Walked.{Stays, stay_dropped, walk_of, ends_at, walked, Goes-dropped, walk_Meets}
use Rattle.std.proofs.alloc.Calls.{Al, seen, token, got, Answer, answer_val, Answer-typed, Answer-Ok, Answer-err, takes_key, Takes, at_takes, Answered, Takes-goes, Takes-gives, answers}
use Rattle.std.proofs.alloc.Shapes.{after}
use Rattle.test_support.proofs.CountDown.{Counts, counts_at, Counts-goes, Counts-gives}
use Rattle.test_support.proofs.Inside.{Counter, Outer, type_args, self_slot, inner_place, cell_place, self_parts}
use Rattle.test_support.proofs.refusing.count_down.Met.{met as counts_met}
use Rattle.test_support.proofs.refusing.count_down.Symbol as counts_symbol
use Rattle.test_support.specs.contracts.refusing.RefusingAllocator.allocate as allocate
use Rattle.test_support.proofs.refusing.RefusingAllocator.allocate.Code as code
use Rattle.test_support.proofs.refusing.RefusingAllocator.allocate.Statement.{statement}

module _ (inner : Al) where
  abbrev function : Fn
  function = inst_fn (type_args inner) code.function

  abbrev ended : Ended
  ended = allocate.ended inner.row inner.g inner.d inner.drops

  abbrev stayed : Stays ended.signature.params ended.kept
  stayed = (stay_dropped (self_slot inner) yes, (stay_dropped (plain (λ _. usize)) yes, (stay_dropped (plain (λ _. usize)) yes, tt)))

module _ (inner : Al) {M : Type 1} {𝓤 : Ura M} (𝓛 : Logic 𝓤) (at_mem : Memory → SProp 𝓤) (run : Routine → Fun 𝓤) (𝓣 : Tables 𝓤 𝓛.H)
    (takes : Triple 𝓤 (𝓣.C (takes_key inner)) (Takes inner 𝓛 at_mem run)) (counts : Triple 𝓤 (𝓣.C counts_symbol.name) (Counts 𝓛 at_mem run)) where
  open 𝓛 use {H}

  abbrev clauses : Clauses 𝓤 (ended inner)
  clauses = allocate.clauses inner.row inner.g inner.d inner.drops 𝓛 at_mem run

  -- one call, by its lifetimes, their shares and its arguments
  module _ (borrow lives : Lft) (q q' : Share) (within : borrow ⊑ lives) (self : Bor (Outer inner).Denot) (bytes alignment : ℕ) (τ : Ty) where
    abbrev entry : (walk_of 𝓛 (ended inner) (stayed inner) clauses).Ghost
    entry = (((borrow, (lives, tt)), (q, (q', tt)), (within, tt), (self, (bytes, (alignment, tt))), (shr_vals self, (vint w64 bytes ∷ [], (vint w64 alignment ∷ [], tt)))), τ)

    abbrev args : List Val
    args = vptr self.ref_ptr.0 self.ref_ptr.1 ∷ vint w64 bytes ∷ vint w64 alignment ∷ []

    abbrev Post : Val → SProp 𝓤
    Post = (walk_of 𝓛 (ended inner) (stayed inner) clauses).post entry

    -- what is left at a return is what the contract requires there
    ends : (found : Bool) (b o : ℕ) → Sq 𝓛 (‵ (got (token inner self.now.inner) τ found b o) ∷ ‵ (flft borrow q) ∷ (‵ (flft lives q') ⊛ ‵ ftrue) ∷ []) (prop (Post (answer_val found b o)))
    ends true b o =
        suffices ! _ (ends_at 𝓛 (ended inner) (stayed inner) clauses entry (answer_val true b o) (Ok (block_ptr b o)) (tt, (tt, (tt, tt))) (tt, (tt, (tt, tt)))) $
        use0 𝓛 (‵ (Answer.own_val (Ok (block_ptr b o)) (answer_val true b o ∷ []))) (Answer-Ok 𝓛 b o) $
        nothing ! $ nothing ! $ fjoin ! $ nothing ! $ fjoin ! $ nothing ! $ fjoin ! $ join ! $ move ! (2 ∷ 3 ∷ []) $ join ! $ join ! $ done !
    ends false b o =
        suffices ! _ (ends_at 𝓛 (ended inner) (stayed inner) clauses entry (answer_val false b o) (Err (record {})) (tt, (tt, (tt, tt))) (tt, (tt, (tt, tt)))) $
        use0 𝓛 (‵ (Answer.own_val (Err (record {})) (answer_val false 0 0 ∷ []))) (Answer-err 𝓛) $
        nothing ! $ nothing ! $ fjoin ! $ nothing ! $ fjoin ! $ nothing ! $ fjoin ! $ join ! $ move ! (2 ∷ 3 ∷ []) $ join ! $ join ! $ done !

    walk : bytes < 2 ^ 64 → alignment < 2 ^ 64 → ent 𝓤 ((walk_of 𝓛 (ended inner) (stayed inner) clauses).pre entry) (WpFn 𝓤 H 𝓣.C 𝓣.Λ (function inner) args Post)
    walk bytes_fit alignment_fits =
        let heap : inner.row.Denot = self.now.inner in
        let at_inner : ℕ × ℕ = inner_place inner self in
        let at_cell : ℕ × ℕ = cell_place inner self in
        let HasLayout : Type 0 = (capped (size τ) ≡ bytes) × (capped (align τ) ≡ alignment) in
        let inside : (Takes inner 𝓛 at_mem run).Ghost = at_takes inner 𝓛 at_mem run borrow q at_inner heap bytes alignment τ in
        let counted : (Counts 𝓛 at_mem run).Ghost = counts_at 𝓛 at_mem run borrow q at_cell in
        qed 𝓛 (((‵ (flft borrow q) ⊛ ‵ (flft lives q') ⊛ ‵ ftrue) ⊛ ‵ (owns (types_at (ended inner).signature.params entry.0.0) entry.0.3 entry.0.4))
        ∷ (raw (fact 𝓤 (lives ⊑ inner.row.lives)) ⊛ raw (fact 𝓤 HasLayout)) ∷ []) ∵
        move ! (1 ∷ []) $ split ! $ heard ! (lives ⊑ inner.row.lives) (λ outlives. heard ! HasLayout (λ layout.
        -- [the cell; the borrow; the allocator inside; the other lifetime]
        split ! $ split ! $ move ! (2 ∷ []) $ fsplit ! $
        use1 𝓛 (‵ (seen inner borrow at_inner heap) ⊛ ‵ (hidden_shr Counter borrow (record { value = tt }) at_cell.0 at_cell.1)) (self_parts inner 𝓛 borrow self (lives, tt)) $ split ! $
        keep ! (1 ∷ 3 ∷ 0 ∷ 4 ∷ []) $
        enter ! 𝓣.C 𝓣.Λ (function inner) args _ $ alloc_all ! (λ l.
        let locals : Env 𝓤 H = env (function inner).locals l in
        pass_all ! refl ((tt, tt), ((tt, record { fits = bytes_fit }), ((tt, record { fits = alignment_fits }), tt))) $
        sets ! (addr ! (through ! refl (fld ! refl (stop !)))) refl (tt, tt) $
        use2 𝓛 (raw ((Counts 𝓛 at_mem run).pre counted)) (Counts-goes 𝓛 at_mem run borrow q at_cell) $
        calls_at ! (fm_of 𝓤 H 𝓛.laws 𝓣) (Counts 𝓛 at_mem run) counts counted (and_then ! (get ! refl) (no_more !)) (λ v.
        use1 𝓛 (later (some (λ (due : Bool). given (v ≡ vbool due) (‵ (flft borrow q))))) (Counts-gives 𝓛 at_mem run borrow q at_cell v) $
        await ! tt $ pick ! (λ due. learn ! (λ is_due. lands_as ! is_due refl (tt, tt) $
        first ! $ branches ! (get ! refl)
        (λ refused. sets ! (agg ! (no_more !)) refl (tt, tt) $
        sets ! (agg ! (and_then ! (lit ! tt) (and_then ! (get ! refl) (no_more !)))) refl (Answer-typed false 0 0) $
        returns_within ! Post refl (look_at ! 0 refl) $ free_all ! refl $ keep ! (0 ∷ 2 ∷ []) $ nothing ! $ ends false 0 0)
        (λ passed. skips ! $ exec ! 𝓣.C 𝓣.Λ locals (after 3 (function inner).body) (at_ret locals Post) $ move ! (1 ∷ []) $
        sets ! (addr ! (through ! refl (fld ! refl (stop !)))) refl (tt, tt) $
        use2 𝓛 (raw ((Takes inner 𝓛 at_mem run).pre inside))
        (Takes-goes inner 𝓛 at_mem run borrow q at_inner heap (⊑_trans borrow lives inner.row.lives within outlives) bytes alignment τ layout.0 layout.1 bytes_fit alignment_fits) $
        calls_at ! (fm_of 𝓤 H 𝓛.laws 𝓣) (Takes inner 𝓛 at_mem run) takes inside (and_then ! (get ! refl) (and_then ! (get ! refl) (and_then ! (get ! refl) (no_more !)))) (λ answer.
        use1 𝓛 (later (raw (Answered inner 𝓛 at_mem run heap τ answer) ⊛ ‵ (flft borrow q))) (Takes-gives inner 𝓛 at_mem run borrow q at_inner heap bytes alignment τ answer) $
        await ! tt $ split ! $ answers inner ! at_mem run heap τ answer
        (λ b o is. fjoin ! $ lands_as ! is refl (Answer-typed true b o) $ returns ! (look_at ! 0 refl) $ free_all ! refl $ ends true b o)
        (λ is. nothing ! $ lands_as ! is refl (Answer-typed false 0 0) $ returns ! (look_at ! 0 refl) $ free_all ! refl $ ends false 0 0)))))))))

pub allocate_spec : {M : Type 1} → statement M
unfolding tables_of
allocate_spec 𝓤 𝓛 𝓜 𝓡 wired row laws g dict drops met _ =
    let inner : Al = record { row = row; laws = laws; g = g; d = dict; drops = drops } in
    let 𝓣 : Tables 𝓤 𝓛.H = tables_of 𝓤 𝓛.H 𝓜 (tables 𝓤 𝓛.H 𝓜 𝓡 𝓡.env) in
    let held = allocate.clauses row g dict drops 𝓛 𝓜.mem 𝓡.returns in
    let counts = cited 𝓤 𝓛.H _ 𝓜 𝓡 𝓡.env counts_symbol.name (𝓡.env counts_symbol.name) refl (counts_met 𝓤 𝓛 𝓜 𝓡 (code.calls-test_support::refusing::count_down 𝓡.env wired)) in
    let number = Goes-dropped 𝓛 2 (plain (λ _. usize)) yes (λ κs x f. refl) in
    entered 𝓤 𝓛.H (triple_of 𝓛 (allocate.signature row) (allocate.spec row g dict drops 𝓛 𝓜.mem 𝓡.returns)) 𝓣.C 𝓣.Λ (allocate.Key.name (type_args inner)) (function inner) (code.unfolded 𝓤 𝓛.H 𝓜 𝓡 wired (row, tt) dict drops)
    (walk_Meets 𝓛 (ended inner) (stayed inner) (Goes-dropped 𝓛 2 (self_slot inner) yes (λ κs x f. refl), (number, (number, tt))) held (WpFn 𝓤 𝓛.H 𝓣.C 𝓣.Λ (function inner)) (WpFn-mono 𝓤 𝓛.H 𝓛.laws 𝓣 (function inner))
    (walked 𝓛 (ended inner) (stayed inner) held (WpFn 𝓤 𝓛.H 𝓣.C 𝓣.Λ (function inner)) (λ κs. (shr_vals, (uint_vals w64, (uint_vals w64, tt)))) (λ κs. ((λ self vs shown. shown.0), (uint_Tells w64, (uint_Tells w64, tt))))
    (λ κs qs bounds a τ are. walk inner 𝓛 𝓜.mem 𝓡.returns 𝓣 (met.allocate drops) counts κs.0 κs.1.0 qs.0 qs.1.0 bounds.0 a.0 a.1.0 a.1.1.0 τ are.1.0.1 are.1.1.0.1)))
