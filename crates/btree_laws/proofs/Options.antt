-- What a test of an option says, and which of two values it chooses.
use Rattle.btree_laws.proofs.Common.{◌≡◌, Option, Some, None, refl, is_some}
use Rattle.std.specs.Prelude.{IsSome, if◌then◌else◌}

-- an option with a value is not empty
pub some-none : {X : Type 0} (o : Option X) → IsSome o → o ≡ None → ⊥
some-none None some none = absurd (cc)
some-none (Some x) some none = absurd (cc)

-- an empty option has no value
pub none-some : {X : Type 0} (o : Option X) → o ≡ None → IsSome o → ⊥
none-some o none some = some-none o some none

-- an option that is not empty has a value
pub some-of : {X : Type 0} (o : Option X) → IsSome o → (x : X) × (o ≡ Some x)
some-of None is = absurd (cc)
some-of (Some x) is = (x, refl)

-- with a value the first of two alternatives is taken
pub then-some : {X Y : Type 0} (o : Option X) (x : X) (a b : Y) → o ≡ Some x → (if is_some o then a else b) ≡ a
then-some None x a b is = absurd (cc)
then-some (Some y) x a b is = refl

-- without a value the second of two alternatives is taken
pub else-none : {X Y : Type 0} (o : Option X) (a b : Y) → o ≡ None → (if is_some o then a else b) ≡ b
else-none None a b is = refl
else-none (Some y) a b is = absurd (cc)
