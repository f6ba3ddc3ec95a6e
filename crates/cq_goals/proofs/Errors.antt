-- Errors that are looked for in turn.
use Rattle.std.proofs.Common.{◌≡◌, Option, Some, None, refl}
use Rattle.spec_syntax.specs.Trees.{Tree}
use Rattle.spec_builtins.specs.Errors.{or_error}

pub or_error-assoc : (a b c : Option Tree) → or_error (or_error a b) c ≡ or_error a (or_error b c)
or_error-assoc None b c = refl
or_error-assoc (Some e) b c = refl

pub or_error-none : (a : Option Tree) → or_error a None ≡ a
or_error-none None = refl
or_error-none (Some e) = refl
