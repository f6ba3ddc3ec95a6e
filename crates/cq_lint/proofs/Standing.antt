-- What was read at a place of a text, and what stands from there on.
use Rattle.std.proofs.Common.{◌≡◌, ℕ, ◌+◌, ◌<◌, ◌≤◌, List, [], ◌∷◌, ◌++◌, length, map, refl, sym, ap, subst, ◌∙◌, arith, append-nil}
use Rattle.spec_terms.specs.Term.{Var, identity}
use Rattle.spec_terms.proofs.Substitution.{apply_agree, apply-identity}
use Rattle.spec_syntax.specs.Operators.{Ops}
use Rattle.spec_syntax.specs.TextTokens.{VariableName, Variables}
use Rattle.spec_syntax.specs.Trees.{Tree}
use Rattle.spec_text.specs.Later.{tree_later, name_later, variables_later, read_later}
use Rattle.spec_text.specs.Readings as readings
use Rattle.spec_text.specs.Readings.{Read, Ended, Syntax, Reads}
use Rattle.cq_read.specs.Shown.{IsReadOf}
use Rattle.cq_lint.specs.Clauses.{operators_behind}
use Rattle.cq_lint.specs.Sentences.{IsClause, Stand, ends, fault, clause, Leads}
use Rattle.cq_lint.specs.declared.sentences.Clause.{Clause}
use Rattle.cq_lint.specs.declared.sentences.Sentence.{Sentence}
use Rattle.cq_lint.specs.declared.sentences.Sentence.TheVariants as sentence

-- ---- readings whose variables are counted on from 0

zero_more : (n : ℕ) → 0 + n ≡ n
zero_more n = omega arith

tree_none : (t : Tree) → tree_later 0 t ≡ t
tree_none t = apply_agree (λ v. Var (0 + v)) identity t (λ v o. ap (λ k. Var k) (zero_more v)) ∙ apply-identity t

names_none : (names : List VariableName) → map (name_later 0) names ≡ names
names_none [] = refl
names_none (n ∷ names) = λ i. record { name = n.name; number = zero_more n.number i } ∷ names_none names i

variables_none : (vs : Variables) → variables_later 0 vs ≡ vs
variables_none vs = λ i. record { names = names_none vs.names i; count = zero_more vs.count i }

read_none : (r : Read) → read_later 0 r ≡ r
read_none (readings.Clause t vs next) = λ i. readings.Clause (tree_none t i) (variables_none vs i) next
read_none Ended = refl
read_none (Syntax error resume) = refl

-- what is read with a heap that has no variables and with other names of the operators
pub reads_here : (old new : Ops) (text : List ℕ) (at n : ℕ) (r : Read) → IsReadOf new text at n r → n ≡ 0 → new ≡ old → Reads old text at r
reads_here old new text at n r h e same =
    subst (λ ops. Reads ops text at r) same (subst (Reads new text at) (sym (h.2 ∙ ap (λ k. read_later k h.0) e ∙ read_none h.0)) h.1)

-- ---- one sentence

module _ (text : List ℕ) (ops : Ops) (at : ℕ) where
  pub leads_fault : (new : Ops) (error resume : ℕ) → Reads ops text at (Syntax error resume) → new ≡ ops → at < resume → resume ≤ length text
      → Leads text ops at new (sentence.Fault error) resume
  leads_fault new error resume r e lt le =
      record { further = lt; within = le; leads = λ rest last s. fault r (subst (λ o. Stand text o resume rest last) e s) }

  pub leads_clause : (new mid : Ops) (t : Tree) (vs : Variables) (next : ℕ) (c : Clause) → Reads ops text at (readings.Clause t vs next) → IsClause text at next t c
      → new ≡ operators_behind t mid → mid ≡ ops → at < next → next ≤ length text → Leads text ops at new (sentence.Clause c) next
  leads_clause new mid t vs next c r h e same lt le = record {
    further = lt;
    within = le;
    leads = λ rest last s. clause r h (subst (λ o. Stand text o next rest last) (e ∙ ap (operators_behind t) same) s);
  }

-- ---- one behind another

-- what was found so far stands from the start up to a place, and leaves these operators
pub record IsPassed (text : List ℕ) (first ops : Ops) (place : ℕ) (found : List Sentence) : Type 0 where
  pub within : place ≤ length text
  pub leads : (rest : List Sentence) (last : Ops) → Stand text ops place rest last → Stand text first 0 (found ++ rest) last

pub all_passed : (text : List ℕ) (first ops new : Ops) (place : ℕ) (found : List Sentence) → IsPassed text first ops place found → Reads ops text place Ended → new ≡ ops
    → Stand text first 0 found new
all_passed text first ops new place found p r e =
    subst (Stand text first 0 found) (sym e) (subst (λ xs. Stand text first 0 xs ops) (append-nil found) (p.leads [] ops (ends r)))
