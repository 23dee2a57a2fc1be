-- What a choice gave.
use Rattle.std.proofs.Common.{◌≡◌, Bool, true, false, cond, Option, Some, None, refl}

pub some_in : {A : Type 0} (test : Bool) (o : Option A) (x : A) → cond test o None ≡ Some x → (test ≡ true) × (o ≡ Some x)
some_in true o x some = (refl, some)
some_in false o x some = absurd (cc)

pub some_out : {A : Type 0} (test : Bool) (o : Option A) (x : A) → cond test None o ≡ Some x → (test ≡ false) × (o ≡ Some x)
some_out true o x some = absurd (cc)
some_out false o x some = (refl, some)

pub no_choice : {A : Type 0} (b : Bool) → let none : Option A = None in cond b none none ≡ none
no_choice true = refl
no_choice false = refl
