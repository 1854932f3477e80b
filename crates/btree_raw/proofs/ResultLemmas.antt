-- What is known of a result, and what follows for it.
use Rattle.std.specs.Prelude.{Err, IfNone, IfOk, IfSome, Ok, OnErr, OnOk, Result}
use Rattle.std.specs.Result.{result_ok}

module _ {A B : Type 0} {P Q R : A → Type 0} where
  pub ok-both : (r : Result A B) → ((x : A) → P x → Q x → R x) → IfOk r P → IfOk r Q → IfOk r R
  ok-both (Ok x) f p q = f x p q
  ok-both (Err e) f p q = tt

module _ {A B C : Type 0} {P : A → Type 0} where
  pub ok-on : (r : Result A B) → ((x : A) → P x → C) → IfOk r P → OnOk r C
  ok-on (Ok x) f p = f x p
  ok-on (Err e) f p = tt

module _ {A B C D : Type 0} where
  pub err-on : (r : Result A B) → (C → D) → OnErr r C → OnErr r D
  err-on (Ok x) f c = tt
  err-on (Err e) f c = f c

module _ {A B C D E : Type 0} where
  pub err-both : (r : Result A B) → (C → D → E) → OnErr r C → OnErr r D → OnErr r E
  err-both (Ok x) f c d = tt
  err-both (Err e) f c d = f c d

module _ {A B : Type 0} where
  pub some-ok : (P : A → Type 0) (r : Result A B) → IfOk r P → IfSome (result_ok r) P
  some-ok P (Ok x) p = p
  some-ok P (Err e) p = tt

  pub none-err : (C : Type 0) (r : Result A B) → OnErr r C → IfNone (result_ok r) C
  none-err C (Ok x) c = tt
  none-err C (Err e) c = c
