-- Terms that differ in the choice of their variables alone.
use Rattle.std.specs.Prelude.{◌≡◌}
use Rattle.spec_terms.specs.Term.{Term, Subst, apply}

-- some substitution makes the term of the other one
abbrev pub IsInstance : {A : Type 0} → Term A → Term A → Type 0
IsInstance {A} t u = (s : Subst A) × (apply s u ≡ t)

-- each is an instance of the other
abbrev pub AreVariants : {A : Type 0} → Term A → Term A → Type 0
AreVariants t u = IsInstance t u × IsInstance u t
