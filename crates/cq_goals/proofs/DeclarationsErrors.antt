-- Errors that are looked for in turn.
use Rattle.std.proofs.Common.{◌≡◌, Bool, true, false, [], ◌∷◌, Option, Some, None, is_some, refl}
use Rattle.std.specs.Prelude.{is_none, if◌then◌else◌}
use Rattle.spec_syntax.specs.Trees.{Tree}
use Rattle.spec_builtins.specs.Errors.{or_error}
use Rattle.spec_builtins.specs.Clauses.{first_error}

-- three in turn, of which two belong together
pub three_errors : (a b c : Option Tree) → first_error (a ∷ b ∷ c ∷ []) ≡ or_error (or_error a b) c
three_errors None None None = refl
three_errors None None (Some e) = refl
three_errors None (Some e) c = refl
three_errors (Some e) b c = refl

-- eight in turn, of which some belong together
pub eight_errors : (a b c d e f g h : Option Tree) →
    first_error (a ∷ b ∷ c ∷ d ∷ e ∷ f ∷ g ∷ h ∷ []) ≡ or_error (or_error a (or_error (or_error b c) (or_error (or_error d e) f))) (or_error g h)
eight_errors (Some x) b c d e f g h = refl
eight_errors None (Some x) c d e f g h = refl
eight_errors None None (Some x) d e f g h = refl
eight_errors None None None (Some x) e f g h = refl
eight_errors None None None None (Some x) f g h = refl
eight_errors None None None None None (Some x) g h = refl
eight_errors None None None None None None (Some x) h = refl
eight_errors None None None None None None None (Some x) = refl
eight_errors None None None None None None None None = refl

pub is_none-if : {A : Type 0} (o : Option A) (b : Bool) → is_some o ≡ b → is_none o ≡ (if b then false else true)
is_none-if None true e = cc
is_none-if None false e = refl
is_none-if (Some x) true e = refl
is_none-if (Some x) false e = cc
