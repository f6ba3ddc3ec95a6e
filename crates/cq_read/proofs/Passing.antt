-- A token or a fault more behind an error.
use Rattle.std.proofs.Common.{◌≡◌, ◌≢◌, ℕ, suc, ◌+◌, ◌<◌, ◌≤◌, List, length, Result, Ok, Err, ◌⊎◌, inl, inr, refl, sym, ap, ◌∙◌, subst, arith}
use Rattle.spec_syntax.specs.declared.grammar.Kind.TheVariants as kind
use Rattle.spec_syntax.specs.declared.grammar.LexFault.{LexFault}
use Rattle.spec_syntax.specs.Gaps.{place}
use Rattle.spec_syntax.specs.GrammarTokens as lexical
use Rattle.spec_syntax.specs.GrammarTokens.{next_token}
use Rattle.spec_syntax.specs.Operators.{Ops}
use Rattle.spec_text.specs.Readings.{Read, Reads, Resumes, behind, at_the_end, over, past}
use Rattle.spec_text.specs.Decided.{IsClosed, FaultComes, here, later, MayGoOn}
use Rattle.spec_text.proofs.Once.{resumes_once}
use Rattle.spec_text.proofs.Anywhere.{may_go_on}
use Rattle.spec_text.proofs.Onward.{end_there, next_there, fault_there}

module _ (text : List ℕ) (from at : ℕ) where
  -- where reading goes on is the same
  abbrev pub Same : ℕ → Type 0
  Same place = (to : ℕ) → Resumes text place to → Resumes text from to

  module _ (t : lexical.Token) (found : Ok t ≡ next_token text at) (same : Same at) where
    pub at_stop : t.kind ≡ kind.End → Resumes text from t.span.end
    at_stop k = same t.span.end (behind (sym found) k)

    pub at_last : t.kind ≡ kind.Eof → Resumes text from (length text)
    at_last k = same (length text) (at_the_end (sym found) k)

    pub over_token : at ≤ length text → t.kind ≢ kind.End → t.kind ≢ kind.Eof → (at < t.span.end) × (t.span.end ≤ length text) × Same t.span.end
    over_token fits n m =
        let there = next_there text at t fits (sym found) in
        (omega (arith, there.behind, there.takes m), there.within, λ to r. same to (over (sym found) n m r))

  module _ (f : LexFault) (found : Err f ≡ next_token text at) (same : Same at) where
    one : place f + 1 ≡ suc (place f)
    one = omega arith

    pub past_last : at ≤ length text → length text ≤ place f → Resumes text from (place f)
    past_last fits far =
        let there = fault_there text at f fits (sym found) in
        let e : place f ≡ length text = omega (arith, there.1, far) in
        let end : Resumes text (suc (place f)) (length text) = at_the_end (end_there text (suc (place f)) (omega (arith, far))) refl in
        subst (Resumes text from) (sym e) (same (length text) (past (sym found) end))

    pub past_fault : at ≤ length text → place f < length text → (at < place f + 1) × (place f + 1 ≤ length text) × Same (place f + 1)
    past_fault fits near =
        let there = fault_there text at f fits (sym found) in
        (omega (arith, there.0), omega (arith, near), λ to r. same to (past (sym found) (subst (λ x. Resumes text x to) one r)))

-- ---- the first fault

module _ (text : List ℕ) (from at : ℕ) where
  -- the first fault is the same
  abbrev pub SameFault : ℕ → Type 0
  SameFault place = (p : ℕ) → FaultComes text from p → FaultComes text place p

  same_token : (t u : lexical.Token) (n : Result lexical.Token LexFault) → n ≡ Ok t → n ≡ Ok u → t ≡ u
  same_token t u n e g = cc

  same_fault : (f g : LexFault) (n : Result lexical.Token LexFault) → n ≡ Err f → n ≡ Err g → f ≡ g
  same_fault f g n e h = cc

  clash : (f : LexFault) (t : lexical.Token) (n : Result lexical.Token LexFault) → n ≡ Err f → n ≡ Ok t → ⊥
  clash f t n e g = cc

  pub fault_here : (f : LexFault) → Err f ≡ next_token text at → (p : ℕ) → FaultComes text at p → p ≡ place f
  fault_here f found p (here {f = g} e) = ap place (same_fault g f (next_token text at) e (sym found))
  fault_here f found p (later {t = t} e n m rest) = absurd (clash f t (next_token text at) (sym found) e)

  module _ (t : lexical.Token) (found : Ok t ≡ next_token text at) where
    pub no_fault_at_end : t.kind ≡ kind.End → (p : ℕ) → FaultComes text at p → ⊥
    no_fault_at_end k p (here {f = f} e) = clash f t (next_token text at) e (sym found)
    no_fault_at_end k p (later {t = u} e n m rest) = n (ap (λ (x : lexical.Token). x.kind) (same_token u t (next_token text at) e (sym found)) ∙ k)

    pub no_fault_at_eof : t.kind ≡ kind.Eof → (p : ℕ) → FaultComes text at p → ⊥
    no_fault_at_eof k p (here {f = f} e) = clash f t (next_token text at) e (sym found)
    no_fault_at_eof k p (later {t = u} e n m rest) = m (ap (λ (x : lexical.Token). x.kind) (same_token u t (next_token text at) e (sym found)) ∙ k)

    pub fault_behind : (p : ℕ) → FaultComes text at p → FaultComes text t.span.end p
    fault_behind p (here {f = f} e) = absurd (clash f t (next_token text at) e (sym found))
    fault_behind p (later {t = u} e n m rest) = subst (λ (x : lexical.Token). FaultComes text x.span.end p) (same_token u t (next_token text at) e (sym found)) rest

-- where reading can't go on before the text's end
pub stays : (ops : Ops) (text : List ℕ) (from to : ℕ) (r : Read) → from ≤ length text → Resumes text from to → length text ≤ to →
    ((p : ℕ) → FaultComes text from p → (q : ℕ) × Resumes text p q × (length text ≤ q)) → Reads ops text from r → IsClosed r (length text) → ⊥
stays ops text from to r fits on far faults reads closed = by (may_go_on ops text from r fits reads closed)
  where
    by : (q : ℕ) × (q < length text) × MayGoOn text from q → ⊥
    by (q, inside, inl other) = omega (arith, resumes_once text from q to other on, inside, far)
    by (q, inside, inr (p, comes, other)) = let (next, on, end) = faults p comes in omega (arith, resumes_once text p q next other on, inside, end)
