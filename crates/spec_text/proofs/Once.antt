-- The machine reads one thing.
use Rattle.std.proofs.Common.{◌≡◌, ◌≢◌, ℕ, suc, List, length, Option, Some, None, Result, Ok, Err, refl, sym, ap, ◌∙◌, subst}
use Rattle.spec_syntax.specs.Operators.{Ops}
use Rattle.spec_syntax.specs.declared.grammar.Kind.{Kind}
use Rattle.spec_syntax.specs.declared.grammar.Kind.TheVariants as kind
use Rattle.spec_syntax.specs.declared.grammar.LexFault.{LexFault}
use Rattle.spec_syntax.specs.Gaps.{place}
use Rattle.spec_syntax.specs.GrammarTokens as lexical
use Rattle.spec_syntax.specs.GrammarTokens.{next_token}
use Rattle.spec_syntax.specs.Tokens.{Token}
use Rattle.spec_syntax.specs.TextTokens.{Variables, variables_after, seen}
use Rattle.spec_syntax.specs.Machine.{State, Whole, IsOpen, step}
use Rattle.spec_text.specs.Readings.{Read, Clause, Syntax, Resumes, behind, at_the_end, over, past}
use Rattle.spec_text.specs.Runs.{ReadsOn, whole, onward, stuck, faulty, cut_off}
use Rattle.spec_text.proofs.ReadingSeen.{end_unseen}

-- ---- where reading goes on

-- where reading goes on at a token of a kind
abbrev ByKind : List ℕ → lexical.Token → Kind → ℕ → Type 0
ByKind text t kind.End to = to ≡ t.span.end
ByKind text t kind.Eof to = to ≡ length text
ByKind text t k to = Resumes text t.span.end to

-- where it goes on at a token or a fault
abbrev pub ResumesAt : List ℕ → Result lexical.Token LexFault → ℕ → Type 0
ResumesAt text (Ok t) to = ByKind text t t.kind to
ResumesAt text (Err f) to = Resumes text (suc (place f)) to

other_kind : (text : List ℕ) (t : lexical.Token) (k : Kind) (to : ℕ) → k ≢ kind.End → k ≢ kind.Eof → Resumes text t.span.end to → ByKind text t k to
other_kind text t kind.End to n m r = absurd (n refl)
other_kind text t kind.Eof to n m r = absurd (m refl)
other_kind text t kind.Name to n m r = r
other_kind text t kind.Quoted to n m r = r
other_kind text t kind.Codes to n m r = r
other_kind text t kind.Variable to n m r = r
other_kind text t kind.Numeral to n m r = r
other_kind text t kind.Punctuation to n m r = r

same_kind : (text : List ℕ) (t : lexical.Token) (k : Kind) (to : ℕ) → k ≢ kind.End → k ≢ kind.Eof → ByKind text t k to → Resumes text t.span.end to
same_kind text t kind.End to n m r = absurd (n refl)
same_kind text t kind.Eof to n m r = absurd (m refl)
same_kind text t kind.Name to n m r = r
same_kind text t kind.Quoted to n m r = r
same_kind text t kind.Codes to n m r = r
same_kind text t kind.Variable to n m r = r
same_kind text t kind.Numeral to n m r = r
same_kind text t kind.Punctuation to n m r = r

pub resumes_at : (text : List ℕ) (at to : ℕ) → Resumes text at to → ResumesAt text (next_token text at) to
resumes_at text at to (behind {t = t} e k) = subst (λ n. ResumesAt text n t.span.end) (sym e) (subst (λ x. ByKind text t x t.span.end) (sym k) refl)
resumes_at text at to (at_the_end {t = t} e k) = subst (λ n. ResumesAt text n (length text)) (sym e) (subst (λ x. ByKind text t x (length text)) (sym k) refl)
resumes_at text at to (over {t = t} e n m r) = subst (λ x. ResumesAt text x to) (sym e) (other_kind text t t.kind to n m r)
resumes_at text at to (past e r) = subst (λ x. ResumesAt text x to) (sym e) r

resumes_by : (text : List ℕ) (at to on : ℕ) → Resumes text at to → ResumesAt text (next_token text at) on → to ≡ on
resumes_by text at to on (behind {t = t} e k) g = sym (subst (λ x. ByKind text t x on) k (subst (λ n. ResumesAt text n on) e g))
resumes_by text at to on (at_the_end {t = t} e k) g = sym (subst (λ x. ByKind text t x on) k (subst (λ n. ResumesAt text n on) e g))
resumes_by text at to on (over {t = t} e n m r) g =
    resumes_by text t.span.end to on r (resumes_at text t.span.end on (same_kind text t t.kind on n m (subst (λ x. ResumesAt text x on) e g)))
resumes_by text at to on (past {f = f} e r) g = resumes_by text (suc (place f)) to on r (resumes_at text (suc (place f)) on (subst (λ x. ResumesAt text x on) e g))

pub resumes_once : (text : List ℕ) (at to on : ℕ) → Resumes text at to → Resumes text at on → to ≡ on
resumes_once text at to on r s = resumes_by text at to on r (resumes_at text at on s)

-- ---- what is read

module _ (ops : Ops) (text : List ℕ) where
  -- an error at a place
  abbrev Fails : ℕ → Read → Type 0
  Fails at r = (resume : ℕ) × Resumes text at resume × (r ≡ Syntax at resume)

  -- what is read behind a token, in the state that the step leads to
  abbrev ByState : lexical.Token → Variables → Option State → Read → Type 0
  ByState t variables None r = Fails t.span.start r
  ByState t variables (Some s) r = ReadsOn ops text s t.span.end (variables_after text variables t) r

  -- what is read at a token, as the grammar sees it
  abbrev ByToken : State → lexical.Token → Variables → Option Token → Read → Type 0
  ByToken s t variables None r = r ≡ Syntax (length text) (length text)
  ByToken s t variables (Some tok) r = ByState t variables (step ops s tok) r

  abbrev ByResult : State → Variables → Result lexical.Token LexFault → Read → Type 0
  ByResult s variables (Ok t) r = ByToken s t variables (seen text variables t) r
  ByResult s variables (Err f) r = Fails (place f) r

  -- a state behind a whole clause needs no token
  abbrev InState : State → ℕ → Variables → Read → Type 0
  InState (Whole tree) at variables r = r ≡ Clause tree variables at
  InState s at variables r = ByResult s variables (next_token text at) r

  in_open : (s : State) (at : ℕ) (variables : Variables) (r : Read) → IsOpen s → ByResult s variables (next_token text at) r → InState s at variables r
  in_open (Whole tree) at variables r is g = elim is [ ]
  in_open s at variables r is g = g

  from_open : (s : State) (at : ℕ) (variables : Variables) (r : Read) → IsOpen s → InState s at variables r → ByResult s variables (next_token text at) r
  from_open (Whole tree) at variables r is g = elim is [ ]
  from_open s at variables r is g = g

  -- only an open state has a step
  pub steps_are_open : (s s' : State) (tok : Token) → step ops s tok ≡ Some s' → IsOpen s
  steps_are_open (Whole tree) s' tok e = cc
  steps_are_open s s' tok e = tt

  pub in_state : (s : State) (at : ℕ) (variables : Variables) (r : Read) → ReadsOn ops text s at variables r → InState s at variables r
  in_state s at variables r whole = refl
  in_state s at variables r (onward {s' = s'} {t = t} {tok = tok} e seen steps reads) =
      in_open s at variables r (steps_are_open s s' tok steps) (rw (e, seen, steps) reads)
  in_state s at variables r (stuck {resume = resume} is e seen none on) = in_open s at variables r is (rw (e, seen, none) (resume, on, refl))
  in_state s at variables r (faulty {resume = resume} is e on) = in_open s at variables r is (rw e (resume, on, refl))
  in_state s at variables r (cut_off {t = t} is e k) = in_open s at variables r is (rw (e, end_unseen text variables t k) refl)

  error_once : (at resume : ℕ) (r : Read) → Resumes text at resume → Fails at r → Syntax at resume ≡ r
  error_once at resume r on (other, next, same) = ap (Syntax at) (resumes_once text at resume other on next) ∙ sym same

  once_by : (s : State) (at : ℕ) (variables : Variables) (r q : Read) → ReadsOn ops text s at variables r → InState s at variables q → r ≡ q
  once_by s at variables r q whole g = sym g
  once_by s at variables r q (onward {s' = s'} {t = t} {tok = tok} e seen steps reads) g =
      once_by s' t.span.end (variables_after text variables t) r q reads
      (in_state s' t.span.end (variables_after text variables t) q (rw (e, seen, steps) at (from_open s at variables q (steps_are_open s s' tok steps) g)))
  once_by s at variables r q (stuck {resume = resume} {t = t} is e seen none on) g =
      error_once t.span.start resume q on (rw (e, seen, none) at (from_open s at variables q is g))
  once_by s at variables r q (faulty {resume = resume} {f = f} is e on) g = error_once (place f) resume q on (rw e at (from_open s at variables q is g))
  once_by s at variables r q (cut_off {t = t} is e k) g = sym (rw (e, end_unseen text variables t k) at (from_open s at variables q is g))

  pub reads_once : (s : State) (at : ℕ) (variables : Variables) (r q : Read) → ReadsOn ops text s at variables r → ReadsOn ops text s at variables q → r ≡ q
  reads_once s at variables r q a b = once_by s at variables r q a (in_state s at variables q b)
