-- The two fields of a shared `Refusing`: the inner allocator, and the cell that counts. Assumes `Logic`.
use Rattle.std.proofs.Common.{ℕ, ◌+◌, [], ◌∷◌, Bor}
use seplogic.Ra.Ura.{Ura}
use mir.Syntax.{Args, a_type, dnil, dcons}
use base.Logic.{ent, sep, id⊢}
use base.Fml.{Lft}
use prog.Memory.{size, align, up}
use types.Logic.{Logic, sem}
use types.Kit.{‵, ◌$◌, ◌∵◌, !, qed, move, keep, use1, fsplit, join, done}
use denote.Builtin.{u64, RefOf}
use denote.Memory.{hidden_shr}
use denote.Opens.{unhide}
use denote.Param.{bounded, param}
use denote.RattleType.{RattleType}
use denote.Ref.{shr_vals}
use denote.Signature.{Slot, plain}
use Rattle.std.proofs.alloc.Calls.{Al, α, seen}
use Rattle.std.specs.contracts.cell.Cell as cell
use Rattle.test_support.specs.contracts.refusing.Refusing as refusing

-- a `Cell<u64>`
abbrev pub Counter : RattleType
Counter = cell.the_row u64

module _ (inner : Al) where
  -- a `Refusing` over this allocator
  abbrev pub Outer : RattleType
  Outer = refusing.the_row inner.row

  abbrev pub type_args : Args
  type_args = bounded (a_type ∷ []) (inner.row, tt) (dcons inner.d (dcons inner.drops dnil))

  abbrev pub self_slot : Slot 2
  self_slot = RefOf (0 ∷ []) tt (plain (λ _. refusing.the_row (param 0 inner.row))) (λ _. tt)

  -- the place of the inner allocator
  abbrev pub inner_place : Bor Outer.Denot → ℕ × ℕ
  inner_place self = (self.ref_ptr.0, self.ref_ptr.1 + up (align (α inner)) 0)

  -- the place of the cell
  abbrev pub cell_place : Bor Outer.Denot → ℕ × ℕ
  cell_place self = (self.ref_ptr.0, self.ref_ptr.1 + up 8 (up (align (α inner)) 0 + size (α inner)))

  module _ {M : Type 1} {𝓤 : Ura M} (𝓛 : Logic 𝓤) (borrow : Lft) (self : Bor Outer.Denot) where
    -- a reader of the whole may read both fields
    pub self_parts : (others : Lft × Unit {0}) → ent 𝓤 (sem 𝓛 ((self_slot.row (borrow, others)).own_val self (shr_vals self)))
        (sep 𝓤 (sem 𝓛 (seen inner borrow (inner_place self) self.now.inner)) (sem 𝓛 (hidden_shr Counter borrow (record { value = tt }) (cell_place self).0 (cell_place self).1)))
    self_parts others =
        qed 𝓛 (‵ ((self_slot.row (borrow, others)).own_val self (shr_vals self)) ∷ []) ∵
        fsplit ! $ move ! (1 ∷ []) $ unhide ! $ fsplit ! $ fsplit ! $ use1 𝓛 (‵ (seen inner borrow (inner_place self) self.now.inner)) (id⊢ 𝓤 _) $
        move ! (1 ∷ []) $ fsplit ! $ keep ! (2 ∷ 0 ∷ []) $ join ! $ done !
