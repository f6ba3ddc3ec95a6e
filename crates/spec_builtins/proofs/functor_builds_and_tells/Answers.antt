use Rattle.std.proofs.Common.{refl}
use Rattle.spec_builtins.proofs.Rebuilt.{functor_builds, functor_back}
use Rattle.spec_builtins.proofs.functor_builds_and_tells.Goals as goal

pub returns : goal.returns
returns c = record { built = functor_builds; back = functor_back; compound = λ fresh f ts k a. refl }
