use Rattle.std.proofs.Common.{◌≡◌, ◌≤◌, ◌++◌, ◌∙◌, ℕ, List, ap, sym, subst, length, map, length-append, arith}
use Rattle.std.specs.Prelude.{Contains}
use Rattle.std.proofs.lemmas.List.{length-map}
use Rattle.spec_terms.specs.Term.{Compound, one, more, Occurs, apply}
use Rattle.spec_terms.specs.Variables.{variables, variables_after, numbered_from}
use Rattle.spec_terms.proofs.Listed.{occurs_listed, listed_here, member_contains}
use Rattle.cq_frac.specs.declared.VarId.{VarId}
use Rattle.cq_term.specs.Meaning.{HeapTerm, at}
use Rattle.cq_term.specs.Names.{HasNamesBelow}
use Rattle.cq_term.proofs.Known.{names_substituted}
use Rattle.cq_term.specs.Places.{numbers_of}
use Rattle.cq_resolve.specs.declared.stored.part.Part.{Part}
use Rattle.cq_resolve.specs.Pattern.{term_of}
use Rattle.cq_resolve.specs.Marks.{shown, AreMet}
use Rattle.cq_resolve.proofs.Reading.{term_of-heads}
use Rattle.cq_resolve.proofs.Numbering.{after_more, numbered_more, numbered_pattern}
use Rattle.cq_resolve.proofs.stored.clause.Clause.of.Goals as goal
use Rattle.cq_resolve.proofs.stored.clause.Clause.of.Goals.{In_ok-body}

module _ (c : In_ok-body) where
  abbrev first : HeapTerm
  first = at c.args.heap.now.now.terms c.args.head

  abbrev second : HeapTerm
  second = at c.args.heap.now.now.terms c.args.body

  abbrev older : List VarId
  older = c.pattern_of.new.originals.keys

  abbrev all : List VarId
  all = c.pattern_of-2.new.originals.keys

  older_are : numbers_of older ≡ variables first
  older_are = c.in_ok-head.ensures.originals ∙ ap (λ ks. variables_after (numbers_of ks) first) c.new-originals.ensures.empty

  all_are : numbers_of all ≡ variables_after (variables first) second
  all_are = c.in_ok-body.ensures.originals ∙ ap (λ vs. variables_after vs second) older_are

  grown : (us : List ℕ) × (variables_after (variables first) second ≡ variables first ++ us)
  grown = after_more (variables first) second

  fewer : length older ≤ length all
  fewer = omega (arith, length-map older (λ (w : VarId). w.0), ap length older_are, length-map all (λ (w : VarId). w.0), ap length all_are, ap length grown.1, length-append (variables first) grown.0)

  known_first : (v : ℕ) → Occurs v first → Contains (numbers_of older) v
  known_first v o = subst (λ vs. Contains vs v) (sym older_are) (occurs_listed first v o)

  known_second : (v : ℕ) → Occurs v second → Contains (numbers_of all) v
  known_second v o = subst (λ vs. Contains vs v) (sym all_are) (member_contains (variables_after (variables first) second) v (listed_here (variables first) second v o))

  head_is : (parts : List Part) → map shown parts ≡ map shown c.in_ok-head.head.items → term_of (map shown parts) ≡ apply (numbered_from 0 (variables_after (variables first) second)) first
  head_is parts same =
      ap term_of same ∙ ap term_of c.in_ok-head.ensures.pattern ∙ term_of-heads (apply (numbered_from 0 (numbers_of older)) first)
      ∙ ap (λ vs. apply (numbered_from 0 vs) first) older_are
      ∙ numbered_more first (variables first) (variables_after (variables first) second) grown.0 (occurs_listed first) grown.1

  body_is : term_of (map shown c.in_ok-body.body.items) ≡ apply (numbered_from 0 (variables_after (variables first) second)) second
  body_is =
      ap term_of c.in_ok-body.ensures.pattern ∙ term_of-heads (apply (numbered_from 0 (numbers_of all)) second)
      ∙ ap (λ vs. apply (numbered_from 0 vs) second) all_are

pub invariant_of-result : goal.invariant_of-result
invariant_of-result c =
    let k = (goal.at.invariant_of-result c).In_ok-body in
    record {
      head = numbered_pattern (first k) (older k) c.len-variables.result (map shown c.mark.new.parts.items) (known_first k) (omega (arith, fewer k, c.len-variables.ensures.len)) (c.mark.ensures.shown ∙ c.in_ok-head.ensures.pattern);
      body = numbered_pattern (second k) (all k) c.len-variables.result (map shown c.in_ok-body.body.items) (known_second k) (omega (arith, c.len-variables.ensures.len)) c.in_ok-body.ensures.pattern;
      marks = record {
        met = c.mark.ensures.met 0 (subst (λ n. AreMet n c.in_ok-head.head.items) (ap length c.new-originals.ensures.empty) c.in_ok-head.ensures.met.are);
        sized = c.in_ok-mark.ensures.sized;
      };
    }

pub returns-clause-renamed : goal.returns-clause-renamed
returns-clause-renamed c =
    let k = (goal.at.returns-clause-renamed c).In_ok-body in
    λ i. Compound 0 (more (head_is k c.mark.new.parts.items c.mark.ensures.shown i) (one (body_is k i)))

pub returns-clause-names : goal.returns-clause-names
returns-clause-names c =
    let k = (goal.at.returns-clause-names c).In_ok-body in
    let s = numbered_from 0 (variables_after (variables (first k)) (second k)) in
    λ n h b. record {
      head = subst (HasNamesBelow n) (sym (head_is k c.mark.new.parts.items c.mark.ensures.shown)) (names_substituted n s (first k) h (λ v o. tt));
      body = subst (HasNamesBelow n) (sym (body_is k)) (names_substituted n s (second k) b (λ v o. tt));
    }

pub mark-requires : goal.mark-requires
mark-requires c =
    let k = (goal.at.mark-requires c).In_ok-body in (
      c.len-variables.result,
      omega arith,
      (numbered_pattern (first k) (older k) c.len-variables.result (map shown c.in_ok-head.head.items) (known_first k) (omega (arith, fewer k, c.len-variables.ensures.len)) c.in_ok-head.ensures.pattern).fits,
    )
