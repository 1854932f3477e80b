-- `deallocate` passes the block to the inner allocator. Assumes `Logic`.
use Rattle.std.proofs.Common.{◌≡◌, ℕ, ◌^◌, ◌<◌, List, [], ◌∷◌, refl, w64, Bor}
use seplogic.Ra.Ura.{Ura}
use mir.Syntax.{Ty, Fn}
use mir.Val.{Val, vunit, vint, vptr}
use mir.MapTy.{inst_fn}
use base.Logic.{SProp, ent, never_e}
use base.Fml.{Lft, Share, ftrue, ffalse, fsep, froom, flft}
use prog.Memory.{Memory, size, align, capped}
use prog.Routine.{Routine}
use prog.Wp.{WpFn, Tables}
use types.Logic.{Logic}
use types.Kit.{Item, ‵, raw, ◌⊛◌, later, given, ◌$◌, ◌∵◌, !, qed, by, move, keep, use1, split, split3, join, learn, fsplit, fjoin, feq_i, suffices, await, done}
use types.Run.{stop, fld, addr, no_more, and_then, of_opd, unit_lit, returns, enter}
use types.ByLocal.{alloc_all, pass_all, free_all, look_at, get, through, sets, lands_as}
use contract.BorrowLft.{◌⊑◌, ⊑_trans}
use contract.Monad.{Fun, fact}
use contract.Running.{tables, tables_of}
use sound.WpLaws.{fm_of, WpFn-mono}
use denote.Builtin.{usize, RawPtr}
use denote.Exit.{yes}
use denote.Memory.{hidden_shr}
use denote.Plain.{uint_vals, uint_Tells}
use denote.RattleType.{owns}
use denote.RawPtr.{Ptr, block_ptr, null_ptr, ptr_val, rawptr_vals, rawptr_Tells}
use denote.Ref.{shr_vals}
use denote.Signature.{plain, types_at}
use denote.Steps.{heard, nothing}
use denote.Triple.Call.{calls_at}
use denote.Triple.Clauses.{Ended, Clauses}
use denote.Triple.Spec.{triple_of}
use denote.Triple.Statement.{Triple}
use denote.Triple.Table.{entered}
use denote.Triple.Walked.{Stays, stay_dropped, walk_of, ends_at, walked, Goes-dropped, walk_Meets}
use Rattle.std.proofs.alloc.Calls.{Al, seen, token, gives_key, Gives, at_gives, Gives-goes, Gives-Gives}
use Rattle.test_support.proofs.Inside.{Counter, Outer, type_args, self_slot, inner_place, cell_place, self_parts}
use Rattle.test_support.specs.contracts.refusing.RefusingAllocator.deallocate as deallocate
use Rattle.test_support.proofs.refusing.RefusingAllocator.deallocate.Code as code
use Rattle.test_support.proofs.refusing.RefusingAllocator.deallocate.Statement.{statement}

module _ (inner : Al) where
  abbrev function : Fn
  function = inst_fn (type_args inner) code.function

  abbrev ended : Ended
  ended = deallocate.ended inner.row inner.g inner.d inner.drops

  abbrev stayed : Stays ended.signature.params ended.kept
  stayed =
      let number = stay_dropped (plain (λ _. usize)) yes in
      (stay_dropped (self_slot inner) yes, (stay_dropped (plain (λ _. RawPtr)) yes, (number, (number, tt))))

module _ (inner : Al) {M : Type 1} {𝓤 : Ura M} (𝓛 : Logic 𝓤) (at_mem : Memory → SProp 𝓤) (run : Routine → Fun 𝓤) (𝓣 : Tables 𝓤 𝓛.H)
    (gives : Triple 𝓤 (𝓣.C (gives_key inner)) (Gives inner 𝓛 at_mem run)) where
  open 𝓛 use {H}

  abbrev clauses : Clauses 𝓤 (ended inner)
  clauses = deallocate.clauses inner.row inner.g inner.d inner.drops 𝓛 at_mem run

  -- one call, by its lifetimes, their shares and its arguments
  module _ (borrow lives : Lft) (q q' : Share) (within : borrow ⊑ lives) (self : Bor (Outer inner).Denot) (bytes alignment : ℕ) (τ : Ty) where
    abbrev entry : Ptr → (walk_of 𝓛 (ended inner) (stayed inner) clauses).Ghost
    entry block = (
      (
        (borrow, (lives, tt)),
        (q, (q', tt)),
        (within, tt),
        (self, (block, (bytes, (alignment, tt)))),
        (shr_vals self, (rawptr_vals block, (vint w64 bytes ∷ [], (vint w64 alignment ∷ [], tt)))),
      ),
      τ,
    )

    abbrev args : Ptr → List Val
    args block = vptr self.ref_ptr.0 self.ref_ptr.1 ∷ ptr_val block ∷ vint w64 bytes ∷ vint w64 alignment ∷ []

    abbrev Post : Ptr → Val → SProp 𝓤
    Post block = (walk_of 𝓛 (ended inner) (stayed inner) clauses).post (entry block)

    abbrev HasLayout : Type 0
    HasLayout = (capped (size τ) ≡ bytes) × (capped (align τ) ≡ alignment)

    -- the lifetimes' tokens, and what the arguments own
    abbrev owned : Ptr → Item 𝓤
    owned block = (‵ (flft borrow q) ⊛ ‵ (flft lives q') ⊛ ‵ ftrue) ⊛ ‵ (owns (types_at (ended inner).signature.params (entry block).0.0) (entry block).0.3 (entry block).0.4)

    walk : bytes < 2 ^ 64 → alignment < 2 ^ 64 → (block : Ptr) → ent 𝓤 ((walk_of 𝓛 (ended inner) (stayed inner) clauses).pre (entry block)) (WpFn 𝓤 H 𝓣.C 𝓣.Λ (function inner) (args block) (Post block))
    walk bytes_fit alignment_fits null_ptr =
        -- no block lies at null
        qed 𝓛 (owned null_ptr ∷ (raw (fact 𝓤 (lives ⊑ inner.row.lives)) ⊛ raw (fact 𝓤 HasLayout) ⊛ ‵ (fsep ffalse (token inner self.now.inner τ null_ptr))) ∷ []) ∵
        move ! (1 ∷ []) $ split3 ! $ move ! (2 ∷ []) $ fsplit ! $ keep ! (0 ∷ []) $ by ! (never_e 𝓤 _)
    walk bytes_fit alignment_fits (block_ptr b o) =
        let heap : inner.row.Denot = self.now.inner in
        let at_inner : ℕ × ℕ = inner_place inner self in
        let at_cell : ℕ × ℕ = cell_place inner self in
        let block : Ptr = block_ptr b o in
        let inside : (Gives inner 𝓛 at_mem run).Ghost = at_gives inner 𝓛 at_mem run borrow q at_inner heap b o bytes alignment τ in
        qed 𝓛 (owned block ∷ (raw (fact 𝓤 (lives ⊑ inner.row.lives)) ⊛ raw (fact 𝓤 HasLayout) ⊛ ‵ (fsep (froom τ b o) (token inner heap τ block))) ∷ []) ∵
        move ! (1 ∷ []) $ split3 ! $ heard ! (lives ⊑ inner.row.lives) (λ outlives. heard ! HasLayout (λ layout.
        -- [the block's room and token; the allocator inside; the borrow; the other lifetime]
        move ! (1 ∷ []) $ split ! $ split ! $ move ! (2 ∷ []) $ fsplit ! $
        use1 𝓛 (‵ (seen inner borrow at_inner heap) ⊛ ‵ (hidden_shr Counter borrow (record { value = tt }) at_cell.0 at_cell.1)) (self_parts inner 𝓛 borrow self (lives, tt)) $ split ! $
        keep ! (5 ∷ 0 ∷ 3 ∷ 4 ∷ []) $
        enter ! 𝓣.C 𝓣.Λ (function inner) (args block) _ $ alloc_all ! (λ l.
        pass_all ! refl ((tt, tt), ((tt, tt), ((tt, record { fits = bytes_fit }), ((tt, record { fits = alignment_fits }), tt)))) $
        sets ! (addr ! (through ! refl (fld ! refl (stop !)))) refl (tt, tt) $
        fsplit ! $ move ! (2 ∷ 3 ∷ []) $ join ! $ move ! (2 ∷ 0 ∷ []) $ join ! $ move ! (1 ∷ 0 ∷ []) $ join ! $
        use1 𝓛 (raw ((Gives inner 𝓛 at_mem run).pre inside))
        (Gives-goes inner 𝓛 at_mem run borrow q at_inner heap (⊑_trans borrow lives inner.row.lives within outlives) b o bytes alignment τ layout.0 layout.1 bytes_fit alignment_fits) $
        calls_at ! (fm_of 𝓤 H 𝓛.laws 𝓣) (Gives inner 𝓛 at_mem run) gives inside (and_then ! (get ! refl) (and_then ! (get ! refl) (and_then ! (get ! refl) (and_then ! (get ! refl) (no_more !))))) (λ answer.
        use1 𝓛 (later (given (answer ≡ vunit) (‵ (flft borrow q)))) (Gives-Gives inner 𝓛 at_mem run borrow q at_inner heap b o bytes alignment τ answer) $
        await ! tt $ learn ! (λ is. lands_as ! is refl (tt, tt) $ sets ! (of_opd ! (unit_lit !)) refl (tt, tt) $ returns ! (look_at ! 0 refl) $ free_all ! refl $
        suffices ! _ (ends_at 𝓛 (ended inner) (stayed inner) clauses (entry block) vunit tt (tt, (tt, (tt, (tt, tt)))) (tt, (tt, (tt, (tt, tt))))) $
        nothing ! $ feq_i ! (List Val) (vunit ∷ []) (vunit ∷ []) refl $
        nothing ! $ nothing ! $ fjoin ! $ nothing ! $ fjoin ! $ nothing ! $ fjoin ! $ nothing ! $ fjoin ! $ join ! $ move ! (2 ∷ 3 ∷ []) $ join ! $ join ! $ done !)))))

pub deallocate_spec : {M : Type 1} → statement M
unfolding tables_of
deallocate_spec 𝓤 𝓛 𝓜 𝓡 wired row laws g dict drops met _ =
    let inner : Al = record { row = row; laws = laws; g = g; d = dict; drops = drops } in
    let 𝓣 : Tables 𝓤 𝓛.H = tables_of 𝓤 𝓛.H 𝓜 (tables 𝓤 𝓛.H 𝓜 𝓡 𝓡.env) in
    let held = deallocate.clauses row g dict drops 𝓛 𝓜.mem 𝓡.returns in
    let number = Goes-dropped 𝓛 2 (plain (λ _. usize)) yes (λ κs x f. refl) in
    let pointer = Goes-dropped 𝓛 2 (plain (λ _. RawPtr)) yes (λ κs x f. refl) in
    entered 𝓤 𝓛.H (triple_of 𝓛 (deallocate.signature row) (deallocate.spec row g dict drops 𝓛 𝓜.mem 𝓡.returns)) 𝓣.C 𝓣.Λ (deallocate.Key.name (type_args inner)) (function inner) (code.unfolded 𝓤 𝓛.H 𝓜 𝓡 wired (row, tt) dict drops)
    (walk_Meets 𝓛 (ended inner) (stayed inner) (Goes-dropped 𝓛 2 (self_slot inner) yes (λ κs x f. refl), (pointer, (number, (number, tt)))) held (WpFn 𝓤 𝓛.H 𝓣.C 𝓣.Λ (function inner)) (WpFn-mono 𝓤 𝓛.H 𝓛.laws 𝓣 (function inner))
    (walked 𝓛 (ended inner) (stayed inner) held (WpFn 𝓤 𝓛.H 𝓣.C 𝓣.Λ (function inner)) (λ κs. (shr_vals, (rawptr_vals, (uint_vals w64, (uint_vals w64, tt))))) (λ κs. ((λ self vs shown. shown.0), (rawptr_Tells, (uint_Tells w64, (uint_Tells w64, tt)))))
    (λ κs qs bounds a τ are. walk inner 𝓛 𝓜.mem 𝓡.returns 𝓣 (met.deallocate drops) κs.0 κs.1.0 qs.0 qs.1.0 bounds.0 a.0 a.1.1.0 a.1.1.1.0 τ are.1.1.0.1 are.1.1.1.0.1 a.1.0)))
