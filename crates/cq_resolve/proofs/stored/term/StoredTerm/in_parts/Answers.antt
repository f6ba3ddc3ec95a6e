use Rattle.std.proofs.Common.{◌≡◌, ◌∙◌, ℕ, List, map, ap, sym, subst, arith}
use Rattle.std.specs.Prelude.{Contains}
use Rattle.spec_terms.specs.Term.{Occurs, apply}
use Rattle.spec_terms.specs.Variables.{variables, variables_after, numbered_from, renamed_from}
use Rattle.spec_terms.proofs.Listed.{occurs_listed}
use Rattle.cq_frac.specs.declared.VarId.{VarId}
use Rattle.cq_term.specs.Meaning.{HeapTerm, at}
use Rattle.cq_term.specs.Names.{HasNamesBelow}
use Rattle.cq_term.proofs.Known.{names_substituted}
use Rattle.cq_term.specs.Places.{numbers_of}
use Rattle.cq_resolve.specs.Pattern.{term_of}
use Rattle.cq_resolve.specs.Marks.{shown}
use Rattle.cq_resolve.proofs.Reading.{term_of-heads}
use Rattle.cq_resolve.proofs.Numbering.{numbered_pattern}
use Rattle.cq_resolve.proofs.stored.term.StoredTerm.in_parts.Goals as goal
use Rattle.cq_resolve.proofs.stored.term.StoredTerm.in_parts.Goals.{In_ok-pattern}

module _ (c : In_ok-pattern) where
  abbrev original : HeapTerm
  original = at c.args.heap.now.now.terms c.args.term

  abbrev all : List VarId
  all = c.pattern_of.new.originals.keys

  all_are : numbers_of all ≡ variables original
  all_are = c.in_ok-pattern.ensures.originals ∙ ap (λ ks. variables_after (numbers_of ks) original) c.new-originals.ensures.empty

  known : (v : ℕ) → Occurs v original → Contains (numbers_of all) v
  known v o = subst (λ vs. Contains vs v) (sym all_are) (occurs_listed original v o)

  term_is : term_of (map shown c.in_ok-pattern.pattern.items) ≡ renamed_from 0 original
  term_is =
      ap term_of c.in_ok-pattern.ensures.pattern ∙ term_of-heads (apply (numbered_from 0 (numbers_of all)) original)
      ∙ ap (λ vs. apply (numbered_from 0 vs) original) all_are

pub invariant_of-result : goal.invariant_of-result
invariant_of-result c =
    let k = (goal.at.invariant_of-result c).In_ok-pattern in
    numbered_pattern (original k) (all k) c.len.result (map shown c.in_ok-pattern.pattern.items) (known k) (omega (arith, c.len.ensures.len)) c.in_ok-pattern.ensures.pattern

pub returns-clause-renamed : goal.returns-clause-renamed
returns-clause-renamed c = term_is (goal.at.returns-clause-renamed c).In_ok-pattern

pub returns-clause-names : goal.returns-clause-names
returns-clause-names c =
    let k = (goal.at.returns-clause-names c).In_ok-pattern in
    λ n h. subst (HasNamesBelow n) (sym (term_is k)) (names_substituted n (numbered_from 0 (variables (original k))) (original k) h (λ v o. tt))
