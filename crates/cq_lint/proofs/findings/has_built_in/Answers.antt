use Rattle.std.proofs.Common.{◌≡◌, ◌∙◌, Option, Some, None, is_some, refl, ap}
use Rattle.std.specs.Prelude.{option_map}
use Rattle.cq_predicates.specs.TableNames.{as_builtin}
use Rattle.cq_lint.proofs.findings.has_built_in.Goals as goal

still_there : {T U : Type 0} (f : T → U) (o : Option T) → is_some o ≡ is_some (option_map f o)
still_there f None = refl
still_there f (Some x) = refl

pub returns : goal.returns
returns c = c.is_some.ensures ∙ still_there as_builtin c.named.result ∙ ap is_some c.named.ensures
