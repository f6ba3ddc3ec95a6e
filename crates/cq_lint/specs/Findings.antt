-- What is found in the sentences of a text.
use Rattle.std.specs.Prelude.{ℕ, List, [], ◌∷◌, ◌++◌, Bool, false, not, ◌&&◌, ◌==◌, if◌then◌else◌, Option, Some, None, filter, flat_map, fold, bytes_eq, length}
use Rattle.spec_numbers.specs.Texts.{Text}
use Rattle.spec_builtins.specs.Built.{Indicator, same_indicator}
use Rattle.spec_search.specs.Builtins.{is_built_in}
use Rattle.cq_lint.specs.Predicates.{has, with, with_some}
use Rattle.cq_lint.specs.Knowledge.{Knowledge, Heads, nothing_passed}
use Rattle.cq_lint.specs.declared.sentences.Clause.{Clause}
use Rattle.cq_lint.specs.Named.{Named}
use Rattle.cq_lint.specs.declared.findings.Finding.{Finding}
use Rattle.cq_lint.specs.declared.findings.Finding.TheVariants.{NoClause, Lone, Undefined, Apart}
use Rattle.cq_lint.specs.declared.sentences.Sentence.{Sentence}
use Rattle.cq_lint.specs.declared.sentences.Sentence.TheVariants as sentence

-- ---- what all texts define and declare

-- what is known with a clause more
abbrev pub known_by : Knowledge → Clause → Knowledge
known_by k c = record {
  defined = fold with (with_some k.defined c.head) c.dynamic.items;
  scattered = fold with k.scattered c.scattered.items;
}

-- what is known with a sentence more
abbrev pub known_with : Knowledge → Sentence → Knowledge
known_with k (sentence.Fault at) = k
known_with k (sentence.Clause c) = known_by k c

-- what is known with the sentences of a text more
abbrev pub known_with_all : Knowledge → List Sentence → Knowledge
known_with_all k ss = fold known_with k ss

-- ---- variables that stand once

-- the name begins with `_`
abbrev pub is_marked : Text → Bool
is_marked [] = false
is_marked (b ∷ bs) = b == 95

-- how many of the variables have the name
abbrev pub occurrences : Text → List Named → List Named
occurrences name vs = filter (λ v. bytes_eq v.name name) vs

-- a variable of these has a name that no other has, and that is not marked
abbrev pub is_lone : List Named → Named → Bool
is_lone vs v = not (is_marked v.name) && (length (occurrences v.name vs) == 1)

abbrev pub lone_if : List Named → Named → List Finding
lone_if vs v = if is_lone vs v then Lone v ∷ [] else []

-- those of a clause; a query asks for its variables
abbrev pub lone_in : Clause → List Finding
lone_in c = if c.is_query then [] else flat_map (lone_if c.variables.items) c.variables.items

-- ---- predicates that are nowhere defined

abbrev pub is_undefined : Knowledge → Indicator → Bool
is_undefined k i = not (is_built_in i) && not (has k.defined i)

abbrev pub undefined_if : Knowledge → ℕ → Indicator → List Finding
undefined_if k at i = if is_undefined k i then Undefined at i ∷ [] else []

-- those that a clause calls
abbrev pub undefined_in : Knowledge → Clause → List Finding
undefined_in k c = flat_map (undefined_if k c.at) c.calls.items

-- ---- clauses that stand apart

abbrev pub is_same : Option Indicator → Indicator → Bool
is_same None i = false
is_same (Some j) i = same_indicator j i

-- the last clause is of the predicate
abbrev pub is_last : Heads → Indicator → Bool
is_last p i = is_same p.last i

-- a clause of the predicate came before, and then one of another
abbrev pub is_apart : Knowledge → Heads → Indicator → Bool
is_apart k p i = not (is_last p i) && has p.predicates i && not (has k.scattered i)

abbrev pub apart_at : Knowledge → Heads → ℕ → Option Indicator → List Finding
apart_at k p at None = []
apart_at k p at (Some i) = if is_apart k p i then Apart at i ∷ [] else []

-- a directive and a query are passed over
abbrev pub passed_with : Heads → Option Indicator → Heads
passed_with p None = p
passed_with p (Some i) = record { predicates = with p.predicates i; last = Some i }

-- ---- all of a text

abbrev pub clause_findings : Knowledge → Heads → Clause → List Finding
clause_findings k p c = apart_at k p c.at c.head ++ undefined_in k c ++ lone_in c

-- those of a sentence
abbrev pub findings_in : Knowledge → Heads → Sentence → List Finding
findings_in k p (sentence.Fault at) = NoClause at ∷ []
findings_in k p (sentence.Clause c) = clause_findings k p c

abbrev pub passed_by : Heads → Sentence → Heads
passed_by p (sentence.Fault at) = p
passed_by p (sentence.Clause c) = passed_with p c.head

-- those of sentences behind others
abbrev pub findings_behind : Knowledge → Heads → List Sentence → List Finding
findings_behind k p [] = []
findings_behind k p (s ∷ ss) = findings_in k p s ++ findings_behind k (passed_by p s) ss

abbrev pub findings_of : Knowledge → List Sentence → List Finding
findings_of k ss = findings_behind k nothing_passed ss
