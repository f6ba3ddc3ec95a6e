use Rattle.spec_terms.proofs.Renamed.{same_terms, unifier_by_texts, none_by_texts}
use Rattle.spec_terms.proofs.numbered_names.Goals as goal

pub returns : goal.returns
returns c = record {
  same = λ n f t u d. same_terms f n d t u;
  unifier = λ n f es s d. unifier_by_texts f n d es s;
  no_unifier = λ n f es d. none_by_texts f n d es;
}
