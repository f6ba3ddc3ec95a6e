-- Names stay below a count where a variable is bound to a term that was made for it.
use Rattle.std.proofs.Common.{◌≡◌, ℕ, List, [], ◌++◌, length, ◌∷◌, map, ap, arith, length-append}
use Rattle.std.specs.Prelude.{All}
use Rattle.spec_terms.specs.Term.{apply, single}
use Rattle.cq_term.specs.Meaning.{HeapTerm, at}
use Rattle.cq_term.specs.Names.{HasNamesBelow}
use Rattle.cq_unify.proofs.Named.{names_bind}
use Rattle.cq_resolve.proofs.StoredNamed.{named_push}

pub names_bind_new : (n v : ℕ) (ts us ws : List HeapTerm) (t : HeapTerm) (id : ℕ) → us ≡ ts ++ t ∷ [] → id ≡ length ts → ws ≡ map (apply (single v (at us id))) us → HasNamesBelow n t → All (HasNamesBelow n) ts → All (HasNamesBelow n) ws
names_bind_new n v ts us ws t id longer last e h all =
    names_bind n v us ws id e (omega (arith, last, ap length longer, length-append ts (t ∷ []))) (named_push n ts us t longer h all)
