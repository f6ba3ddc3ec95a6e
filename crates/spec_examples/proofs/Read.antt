-- What stands at a place of a text, found within so many steps, with its proof.
use Rattle.std.proofs.Common.{◌≡◌, ◌≢◌, ℕ, zero, suc, List, length, Option, Some, None, Result, Ok, Err, refl, sym, ◌∙◌, subst}
use Rattle.spec_syntax.specs.Operators.{Ops}
use Rattle.spec_syntax.specs.declared.grammar.Kind.{Kind}
use Rattle.spec_syntax.specs.declared.grammar.Kind.TheVariants as kind
use Rattle.spec_syntax.specs.declared.grammar.LexFault.{LexFault}
use Rattle.spec_syntax.specs.Gaps.{place}
use Rattle.spec_syntax.specs.GrammarTokens as lexical
use Rattle.spec_syntax.specs.GrammarTokens.{next_token}
use Rattle.spec_syntax.specs.Tokens.{Token}
use Rattle.spec_syntax.specs.Trees.{Tree}
use Rattle.spec_syntax.specs.TextTokens.{Variables, no_variables, variables_after, seen}
use Rattle.spec_syntax.specs.Machine.{State, BeforeTerm, AfterOperand, AfterName, AfterFunctor, AfterMinus, AfterOpenList, AfterOpenCurly, Whole, IsOpen, start, step}
use Rattle.spec_text.specs.Readings.{Read, Clause, Ended, Syntax, Resumes, behind, at_the_end, over, past, Reads, ended}
use Rattle.spec_text.specs.Runs.{ReadsOn, whole, onward, stuck, faulty, cut_off}
use Rattle.spec_text.proofs.ByMachine.{reads_there, fails_there}

-- the clause is whole, or not yet
pub data Wholeness (s : State) : Type 0 where
  is_whole : (tree : Tree) → s ≡ Whole tree → Wholeness s
  is_open : IsOpen s → Wholeness s

abbrev pub wholeness : (s : State) → Wholeness s
wholeness (BeforeTerm m k) = is_open tt
wholeness (AfterOperand m l a k) = is_open tt
wholeness (AfterName f m k) = is_open tt
wholeness (AfterFunctor f m k) = is_open tt
wholeness (AfterMinus m k) = is_open tt
wholeness (AfterOpenList m k) = is_open tt
wholeness (AfterOpenCurly m k) = is_open tt
wholeness (Whole tree) = is_whole tree refl

module _ (text : List ℕ) where
  pub data ResumesTo (at : ℕ) : Type 0 where
    goes_on : (to : ℕ) → Resumes text at to → ResumesTo at
    lost_on : ResumesTo at

  abbrev pub passed : (at : ℕ) (f : LexFault) → next_token text at ≡ Err f → ResumesTo (suc (place f)) → ResumesTo at
  passed at f e (goes_on to h) = goes_on to (past e h)
  passed at f e lost_on = lost_on

  abbrev pub skipped : (at : ℕ) (t : lexical.Token) → next_token text at ≡ Ok t → t.kind ≢ kind.End → t.kind ≢ kind.Eof → ResumesTo t.span.end → ResumesTo at
  skipped at t e n m (goes_on to h) = goes_on to (over e n m h)
  skipped at t e n m lost_on = lost_on

  abbrev pub by_kind : (at : ℕ) (t : lexical.Token) → next_token text at ≡ Ok t → ResumesTo t.span.end → (k : Kind) → t.kind ≡ k → ResumesTo at
  by_kind at t e rest kind.Name h = skipped at t e (λ g. let c : kind.Name ≡ kind.End = sym h ∙ g in cc) (λ g. let c : kind.Name ≡ kind.Eof = sym h ∙ g in cc) rest
  by_kind at t e rest kind.Quoted h = skipped at t e (λ g. let c : kind.Quoted ≡ kind.End = sym h ∙ g in cc) (λ g. let c : kind.Quoted ≡ kind.Eof = sym h ∙ g in cc) rest
  by_kind at t e rest kind.Codes h = skipped at t e (λ g. let c : kind.Codes ≡ kind.End = sym h ∙ g in cc) (λ g. let c : kind.Codes ≡ kind.Eof = sym h ∙ g in cc) rest
  by_kind at t e rest kind.Variable h = skipped at t e (λ g. let c : kind.Variable ≡ kind.End = sym h ∙ g in cc) (λ g. let c : kind.Variable ≡ kind.Eof = sym h ∙ g in cc) rest
  by_kind at t e rest kind.Numeral h = skipped at t e (λ g. let c : kind.Numeral ≡ kind.End = sym h ∙ g in cc) (λ g. let c : kind.Numeral ≡ kind.Eof = sym h ∙ g in cc) rest
  by_kind at t e rest kind.Punctuation h = skipped at t e (λ g. let c : kind.Punctuation ≡ kind.End = sym h ∙ g in cc) (λ g. let c : kind.Punctuation ≡ kind.Eof = sym h ∙ g in cc) rest
  by_kind at t e rest kind.End h = goes_on t.span.end (behind e h)
  by_kind at t e rest kind.Eof h = goes_on (length text) (at_the_end e h)

  abbrev pub resume_at : (at : ℕ) → (on : (to : ℕ) → ResumesTo to) → (r : Result lexical.Token LexFault) → next_token text at ≡ r → ResumesTo at
  resume_at at on (Ok t) e = by_kind at t e (on t.span.end) t.kind refl
  resume_at at on (Err f) e = passed at f e (on (suc (place f)))

  abbrev pub resume : ℕ → (at : ℕ) → ResumesTo at
  resume zero at = lost_on
  resume (suc n) at = resume_at at (λ to. resume n to) (next_token text at) refl

  module _ (ops : Ops) where
    pub data On (s : State) (at : ℕ) (vs : Variables) : Type 0 where
      on : (r : Read) → ReadsOn ops text s at vs r → On s at vs
      lost : On s at vs

    abbrev pub faulted : (s : State) (at : ℕ) (vs : Variables) → IsOpen s → (f : LexFault) → next_token text at ≡ Err f → ResumesTo (place f) → On s at vs
    faulted s at vs o f e (goes_on to h) = on (Syntax (place f) to) (faulty o e h)
    faulted s at vs o f e lost_on = lost

    abbrev pub longer : (s s' : State) (at : ℕ) (vs : Variables) (t : lexical.Token) (tok : Token) → next_token text at ≡ Ok t → seen text vs t ≡ Some tok → step ops s tok ≡ Some s'
        → On s' t.span.end (variables_after text vs t) → On s at vs
    longer s s' at vs t tok e h k (on r reads) = on r (onward e h k reads)
    longer s s' at vs t tok e h k lost = lost

    abbrev pub refused_there : (s : State) (at : ℕ) (vs : Variables) → IsOpen s → (t : lexical.Token) (tok : Token) → next_token text at ≡ Ok t → seen text vs t ≡ Some tok → step ops s tok ≡ None
        → ResumesTo t.span.start → On s at vs
    refused_there s at vs o t tok e h k (goes_on to g) = on (Syntax t.span.start to) (stuck o e h k g)
    refused_there s at vs o t tok e h k lost_on = lost

    abbrev pub cut_there : (s : State) (at : ℕ) (vs : Variables) → IsOpen s → (t : lexical.Token) → next_token text at ≡ Ok t → (k : Kind) → t.kind ≡ k → On s at vs
    cut_there s at vs o t e kind.Eof k = on (Syntax (length text) (length text)) (cut_off o e k)
    cut_there s at vs o t e other k = lost

    -- the next steps, and where reading goes on
    module _ (machine : (s : State) (at : ℕ) (vs : Variables) → On s at vs) (resumed : (at : ℕ) → ResumesTo at) where
      abbrev pub by_step : (s : State) (at : ℕ) (vs : Variables) → IsOpen s → (t : lexical.Token) (tok : Token) → next_token text at ≡ Ok t → seen text vs t ≡ Some tok
          → (r : Option State) → step ops s tok ≡ r → On s at vs
      by_step s at vs o t tok e h (Some s') k = longer s s' at vs t tok e h k (machine s' t.span.end (variables_after text vs t))
      by_step s at vs o t tok e h None k = refused_there s at vs o t tok e h k (resumed t.span.start)

      abbrev pub by_seen : (s : State) (at : ℕ) (vs : Variables) → IsOpen s → (t : lexical.Token) → next_token text at ≡ Ok t → (r : Option Token) → seen text vs t ≡ r → On s at vs
      by_seen s at vs o t e (Some tok) h = by_step s at vs o t tok e h (step ops s tok) refl
      by_seen s at vs o t e None h = cut_there s at vs o t e t.kind refl

      abbrev pub by_token : (s : State) (at : ℕ) (vs : Variables) → IsOpen s → (r : Result lexical.Token LexFault) → next_token text at ≡ r → On s at vs
      by_token s at vs o (Ok t) e = by_seen s at vs o t e (seen text vs t) refl
      by_token s at vs o (Err f) e = faulted s at vs o f e (resumed (place f))

      abbrev pub by_wholeness : (s : State) (at : ℕ) (vs : Variables) → Wholeness s → On s at vs
      by_wholeness s at vs (is_whole tree e) = on (Clause tree vs at) (subst (λ x. ReadsOn ops text x at vs (Clause tree vs at)) (sym e) whole)
      by_wholeness s at vs (is_open o) = by_token s at vs o (next_token text at) refl

    abbrev pub machine : ℕ → (s : State) (at : ℕ) (vs : Variables) → On s at vs
    machine zero s at vs = lost
    machine (suc n) s at vs = by_wholeness (machine n) (λ to. resume n to) s at vs (wholeness s)

    -- ---- a place

    pub data At (at : ℕ) : Type 0 where
      found : (r : Read) → Reads ops text at r → At at
      not_found : At at

    abbrev pub from_token : (at : ℕ) (t : lexical.Token) (tok : Token) → next_token text at ≡ Ok t → seen text no_variables t ≡ Some tok → On start at no_variables → At at
    from_token at t tok e h (on r reads) = found r (reads_there ops text at r e h reads)
    from_token at t tok e h lost = not_found

    abbrev pub from_fault : (at : ℕ) (f : LexFault) → next_token text at ≡ Err f → On start at no_variables → At at
    from_fault at f e (on r reads) = found r (fails_there ops text at r e reads)
    from_fault at f e lost = not_found

    abbrev pub at_end : (at : ℕ) (t : lexical.Token) → next_token text at ≡ Ok t → (k : Kind) → t.kind ≡ k → At at
    at_end at t e kind.Eof k = found Ended (ended e k)
    at_end at t e other k = not_found

    abbrev pub by_first : (at : ℕ) (t : lexical.Token) → next_token text at ≡ Ok t → On start at no_variables → (r : Option Token) → seen text no_variables t ≡ r → At at
    by_first at t e reads (Some tok) h = from_token at t tok e h reads
    by_first at t e reads None h = at_end at t e t.kind refl

    abbrev pub by_result : (at : ℕ) → On start at no_variables → (r : Result lexical.Token LexFault) → next_token text at ≡ r → At at
    by_result at reads (Ok t) e = by_first at t e reads (seen text no_variables t) refl
    by_result at reads (Err f) e = from_fault at f e reads

    -- what stands at the place, within so many tokens
    abbrev pub read_at : ℕ → (at : ℕ) → At at
    read_at n at = by_result at (machine n start at no_variables) (next_token text at) refl
