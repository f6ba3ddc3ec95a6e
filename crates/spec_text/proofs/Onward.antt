-- Readings move on, and every place has one.
use Rattle.std.proofs.Common.{◌≡◌, ◌≢◌, Bool, true, false, nat_lt, ℕ, zero, suc, ◌+◌, ◌<◌, ◌≤◌, List, [], ◌∷◌, drop, length, length-drop, Option, Some, None, Result, Ok, Err, ◌⊎◌, inl, inr, refl, sym, ap, ◌∙◌, subst, arith}
use Rattle.std.proofs.lemmas.Bool.Decides.{nat_tests}
use Rattle.spec_syntax.specs.Operators.{Ops}
use Rattle.spec_syntax.specs.declared.grammar.Kind.{Kind}
use Rattle.spec_syntax.specs.declared.grammar.Kind.TheVariants as kind
use Rattle.spec_syntax.specs.declared.grammar.LexFault.{LexFault}
use Rattle.spec_syntax.specs.declared.grammar.Gap.TheVariants.{Between}
use Rattle.spec_syntax.specs.Gaps.{place, gap}
use Rattle.spec_syntax.specs.Laws.{Stands, IsNext}
use Rattle.spec_syntax.specs.GrammarTokens as lexical
use Rattle.spec_syntax.specs.GrammarTokens.{token, token_at, token_behind, next_token}
use Rattle.spec_syntax.proofs.Tiles.{stands}
use Rattle.spec_syntax.specs.Tokens.{Token}
use Rattle.spec_syntax.specs.Trees.{Tree}
use Rattle.spec_syntax.specs.TextTokens.{Variables, no_variables, variables_after, seen}
use Rattle.spec_syntax.specs.Machine.{State, Whole, IsOpen, start, step}
use Rattle.spec_text.specs.Readings.{Read, Clause, Ended, Syntax, Resumes, behind, at_the_end, over, past, Reads}
use Rattle.spec_text.specs.Runs.{ReadsOn, whole, onward, stuck, faulty, cut_off, IsBefore, MachineReads}
use Rattle.spec_text.specs.Laws.{MovesOn}
use Rattle.spec_text.proofs.ReadingSeen.{end_or_seen, seen_before_end}
use Rattle.spec_text.proofs.Once.{ResumesAt, resumes_at}
use Rattle.spec_text.proofs.ByMachine.{by_machine, from_machine}

module _ (text : List ℕ) where
  none_left : (bs : List ℕ) → length bs ≡ 0 → bs ≡ []
  none_left [] e = refl
  none_left (b ∷ bs) e = absurd (omega arith)

  -- at the text's end and behind it stands its end
  pub end_there : (at : ℕ) → length text ≤ at → next_token text at ≡ Ok (token kind.Eof at at)
  end_there at far =
      let empty : drop at text ≡ [] = none_left (drop at text) (omega (arith, length-drop at text, far)) in
      ap (λ bs. token_behind text (gap Between bs at)) empty ∙ ap (λ bs. token_at bs at) empty

  pub next_there : (at : ℕ) (t : lexical.Token) → at ≤ length text → next_token text at ≡ Ok t → IsNext text at t
  next_there at t fits e = subst (Stands text at) e (stands text at fits)

  pub fault_there : (at : ℕ) (f : LexFault) → at ≤ length text → next_token text at ≡ Err f → (at ≤ place f) × (place f ≤ length text)
  fault_there at f fits e = subst (Stands text at) e (stands text at fits)

  -- where reading goes on lies behind the place, or is the text's end
  IsOnward : ℕ → ℕ → Type 0
  IsOnward at to = (at < to) × (to ≤ length text)

  pub resumes_at_end : (at to : ℕ) → length text ≤ at → Resumes text at to → to ≡ length text
  resumes_at_end at to far r = subst (λ n. ResumesAt text n to) (end_there at far) (resumes_at text at to r)

  pub far_or_not : (n : ℕ) → (length text ≤ n) ⊎ (n < length text)
  far_or_not n = by (nat_lt n (length text)) refl
    where
      by : (b : Bool) → nat_lt n (length text) ≡ b → (length text ≤ n) ⊎ (n < length text)
      by true e = inr (grind (arith, nat_tests))
      by false e = inl (grind (arith, nat_tests))

  -- from a place further on
  onward_from : (at mid to : ℕ) → at < length text → at < mid → (length text ≤ mid → to ≡ length text) → (mid < length text → IsOnward mid to) → IsOnward at to
  unfolding IsOnward
  onward_from at mid to inside less far close = elim (far_or_not mid) [
    | inl h ↦ (omega (arith, far h, inside), omega (arith, far h))
    | inr h ↦ (omega (arith, (close h).0, less), (close h).1)
  ]

  end_is_no_eof : (t : lexical.Token) → t.kind ≡ kind.End → t.kind ≢ kind.Eof
  end_is_no_eof t k m = let clash : kind.End ≡ kind.Eof = sym k ∙ m in cc

  resumes_on : (at to : ℕ) → at < length text → Resumes text at to → IsOnward at to
  unfolding IsOnward
  resumes_on at to inside (behind {t = t} e k) = let n = next_there at t (omega (arith, inside)) e in (omega (arith, n.behind, n.takes (end_is_no_eof t k)), n.within)
  resumes_on at to inside (at_the_end e k) = (inside, omega arith)
  resumes_on at to inside (over {t = t} e m k r) =
      let n = next_there at t (omega (arith, inside)) e in
      onward_from at t.span.end to inside (omega (arith, n.behind, n.takes k)) (λ h. resumes_at_end t.span.end to h r) (λ h. resumes_on t.span.end to h r)
  resumes_on at to inside (past {f = f} e r) =
      let n = fault_there at f (omega (arith, inside)) e in
      onward_from at (suc (place f)) to inside (omega (arith, n.0)) (λ h. resumes_at_end (suc (place f)) to h r) (λ h. resumes_on (suc (place f)) to h r)

  pub resumes_past : (at to : ℕ) → at < length text → Resumes text at to → (at < to) × (to ≤ length text)
  unfolding IsOnward
  resumes_past at to inside r = resumes_on at to inside r

  -- an error at a place, where reading goes on behind it or at the text's end
  fails_on : (at error resume : ℕ) → at < length text → at ≤ error → error ≤ length text → Resumes text error resume → MovesOn text at (Syntax error resume)
  unfolding IsOnward
  fails_on at error resume inside less within r = elim (far_or_not error) [
    | inl h ↦ let same = resumes_at_end error resume h r in (less, omega (arith, same, within), omega (arith, same, inside), omega (arith, same))
    | inr h ↦ let on = resumes_on error resume h r in (less, omega (arith, on.0), omega (arith, on.0, less), on.1)
  ]

  pub eof_or_not : (k : Kind) → (k ≡ kind.Eof) ⊎ (k ≢ kind.Eof)
  eof_or_not kind.Eof = inl refl
  eof_or_not kind.End = inr (λ e. cc)
  eof_or_not kind.Name = inr (λ e. cc)
  eof_or_not kind.Quoted = inr (λ e. cc)
  eof_or_not kind.Codes = inr (λ e. cc)
  eof_or_not kind.Variable = inr (λ e. cc)
  eof_or_not kind.Numeral = inr (λ e. cc)
  eof_or_not kind.Punctuation = inr (λ e. cc)

  pub end_or_not : (k : Kind) → (k ≡ kind.End) ⊎ (k ≢ kind.End)
  end_or_not kind.End = inl refl
  end_or_not kind.Eof = inr (λ e. cc)
  end_or_not kind.Name = inr (λ e. cc)
  end_or_not kind.Quoted = inr (λ e. cc)
  end_or_not kind.Codes = inr (λ e. cc)
  end_or_not kind.Variable = inr (λ e. cc)
  end_or_not kind.Numeral = inr (λ e. cc)
  end_or_not kind.Punctuation = inr (λ e. cc)

  Resumed : ℕ → Type 0
  Resumed at = (to : ℕ) × Resumes text at to

  resumed_by : (at : ℕ) (t : lexical.Token) → next_token text at ≡ Ok t → (t.kind ≢ kind.Eof → Resumed t.span.end) → Resumed at
  unfolding Resumed
  resumed_by at t e later = elim (eof_or_not t.kind) [
    | inl k ↦ (length text, at_the_end e k)
    | inr k ↦ elim (end_or_not t.kind) [
      | inl m ↦ (t.span.end, behind e m)
      | inr m ↦ let (to, r) = later k in (to, over e m k r)
    ]
  ]

  -- of a place within the text, at a token or a fault
  resumed_at : (at : ℕ) → at < length text → ((mid : ℕ) → at < mid → Resumed mid) → (n : Result lexical.Token LexFault) → next_token text at ≡ n → Resumed at
  unfolding Resumed
  resumed_at at inside later (Ok t) e = let n = next_there at t (omega (arith, inside)) e in resumed_by at t e (λ k. later t.span.end (omega (arith, n.behind, n.takes k)))
  resumed_at at inside later (Err f) e =
      let n = fault_there at f (omega (arith, inside)) e in
      let (to, r) = later (suc (place f)) (omega (arith, n.0)) in (to, past e r)

  resumed_far : (at : ℕ) → length text ≤ at → Resumed at
  unfolding Resumed
  resumed_far at far = (length text, at_the_end (end_there at far) refl)

  resumed_within : (n at : ℕ) → length text ≤ at + n → Resumed at
  resumed_within zero at enough = resumed_far at (omega arith)
  resumed_within (suc n) at enough = elim (far_or_not at) [
    | inl h ↦ resumed_far at h
    | inr h ↦ resumed_at at h (λ mid less. resumed_within n mid (omega (arith, less, enough))) (next_token text at) refl
  ]

  -- reading goes on somewhere
  pub resumed : (at : ℕ) → (to : ℕ) × Resumes text at to
  unfolding Resumed
  resumed at = resumed_within (length text) at (omega arith)

module _ (ops : Ops) (text : List ℕ) where
  -- what is read from a place on that is past another, or at it where no clause is whole
  moves : (from at : ℕ) (s : State) (variables : Variables) (r : Read) → from < length text → at ≤ length text → from ≤ at → IsOpen s ⊎ (from < at) → ReadsOn ops text s at variables r → MovesOn text from r
  moves from at s variables r inside fits less past_it whole = elim past_it [ inl is_open ↦ absurd is_open | inr past_it ↦ (past_it, fits) ]
  moves from at s variables r inside fits less past_it (onward {s' = s'} {t = t} {tok = tok} e is steps reads) =
      let n = next_there text at t fits e in
      let takes = n.takes (seen_before_end text variables t tok is) in
      moves from t.span.end s' (variables_after text variables t) r inside n.within (omega (arith, less, n.behind, takes)) (inr (omega (arith, less, n.behind, takes))) reads
  moves from at s variables r inside fits less past_it (stuck {resume = resume} {t = t} {tok = tok} is_open e is none on) =
      let n = next_there text at t fits e in
      let takes = n.takes (seen_before_end text variables t tok is) in
      fails_on text from t.span.start resume inside (omega (arith, less, n.behind)) (omega (arith, takes, n.within)) on
  moves from at s variables r inside fits less past_it (faulty {resume = resume} {f = f} is_open e on) =
      let n = fault_there text at f fits e in
      fails_on text from (place f) resume inside (omega (arith, less, n.0)) n.1 on
  moves from at s variables r inside fits less past_it (cut_off is_open e k) = (omega (arith, inside), omega arith, inside, omega arith)

  inside_by : (at : ℕ) → at ≤ length text → IsBefore text at → at < length text
  inside_by at fits before = elim (far_or_not text at) [ inl h ↦ absurd (before (token kind.Eof at at) (end_there text at h) refl) | inr h ↦ h ]

  pub moves_on : (at : ℕ) (r : Read) → at ≤ length text → Reads ops text at r → MovesOn text at r
  moves_on at r fits reads = elim (by_machine ops text at r reads) [
    | inl (t, e, k, same) ↦ subst (MovesOn text at) (sym same) tt
    | inr (before, on) ↦ moves at at start no_variables r (inside_by at fits before) fits (omega arith) (inl tt) on
  ]

  pub open_or_whole : (s : State) → IsOpen s ⊎ ((tree : Tree) × (s ≡ Whole tree))
  open_or_whole (Whole tree) = inr (tree, refl)
  open_or_whole s = inl tt

  HasReading : State → ℕ → Variables → Type 0
  HasReading s at variables = (r : Read) × ReadsOn ops text s at variables r

  on_step : (s : State) (at : ℕ) (variables : Variables) (t : lexical.Token) (tok : Token) (o : Option State) → IsOpen s → next_token text at ≡ Ok t → seen text variables t ≡ Some tok → step ops s tok ≡ o →
      ((s' : State) → HasReading s' t.span.end (variables_after text variables t)) → HasReading s at variables
  unfolding HasReading
  on_step s at variables t tok None is_open e is steps later = let (resume, on) = resumed text t.span.start in (Syntax t.span.start resume, stuck is_open e is steps on)
  on_step s at variables t tok (Some s') is_open e is steps later = let (r, reads) = later s' in (r, onward e is steps reads)

  on_token : (s : State) (at : ℕ) (variables : Variables) (n : Result lexical.Token LexFault) → IsOpen s → at ≤ length text → next_token text at ≡ n →
      ((s' : State) (mid : ℕ) (more : Variables) → at < mid → mid ≤ length text → HasReading s' mid more) → HasReading s at variables
  unfolding HasReading
  on_token s at variables (Err f) is_open fits e later = let (resume, on) = resumed text (place f) in (Syntax (place f) resume, faulty is_open e on)
  on_token s at variables (Ok t) is_open fits e later = elim (end_or_seen text at variables t e) [
    | inl k ↦ (Syntax (length text) (length text), cut_off is_open e k)
    | inr (tok, is) ↦
        let n = next_there text at t fits e in
        let takes = n.takes (seen_before_end text variables t tok is) in
        on_step s at variables t tok (step ops s tok) is_open e is refl (λ s'. later s' t.span.end (variables_after text variables t) (omega (arith, n.behind, takes)) n.within)
  ]

  read_within : (n : ℕ) (s : State) (at : ℕ) (variables : Variables) → at ≤ length text → length text < at + n → HasReading s at variables
  unfolding HasReading
  read_within zero s at variables fits enough = absurd (omega arith)
  read_within (suc n) s at variables fits enough = elim (open_or_whole s) [
    | inl is_open ↦ on_token s at variables (next_token text at) is_open fits refl (λ s' mid more less within. read_within n s' mid more within (omega (arith, less, enough)))
    | inr (tree, same) ↦ subst (λ x. HasReading x at variables) (sym same) (Clause tree variables at, whole)
  ]

  read_there : (at : ℕ) → at ≤ length text → (n : Result lexical.Token LexFault) → next_token text at ≡ n → (r : Read) × MachineReads ops text at r
  unfolding HasReading
  read_there at fits (Ok t) e = elim (eof_or_not text t.kind) [
    | inl k ↦ (Ended, inl (t, e, k, refl))
    | inr k ↦ let (r, on) = read_within (suc (length text)) start at no_variables fits (omega arith) in (r, inr (λ u g m. k (ap (λ (x : lexical.Token). x.kind) (same u g) ∙ m), on))
  ]
    where
      same : (u : lexical.Token) → next_token text at ≡ Ok u → t ≡ u
      same u g = let both : (let r : Result lexical.Token LexFault = Ok t in r ≡ Ok u) = sym e ∙ g in cc
  read_there at fits (Err f) e = let (r, on) = read_within (suc (length text)) start at no_variables fits (omega arith) in (r, inr (λ u g m. clash u g, on))
    where
      clash : (u : lexical.Token) → next_token text at ≡ Ok u → ⊥
      clash u g = let both : (let r : Result lexical.Token LexFault = Err f in r ≡ Ok u) = sym e ∙ g in cc

  pub some_reading : (at : ℕ) → at ≤ length text → (r : Read) × Reads ops text at r
  some_reading at fits = let (r, reads) = read_there at fits (next_token text at) refl in (r, from_machine ops text at r reads)
