-- A reading that goes on before the text's end is that of every text that goes on from it, and no other is.
use Rattle.std.proofs.Common.{◌≡◌, ◌≢◌, ℕ, zero, suc, ◌+◌, ◌-◌, ◌<◌, ◌≤◌, Bool, true, false, List, [], ◌∷◌, ◌++◌, take, drop, length, length-drop, length-append, length-take, append_assoc, Option, Some, None, Result, Ok, Err, ◌⊎◌, inl, inr, refl, sym, ap, subst, ◌∙◌, arith}
use Rattle.std.specs.Prelude.{◌↔◌, ◌==◌, ◌||◌, if◌then◌else◌}
use Rattle.std.specs.Char.{is_ascii_digit}
use Rattle.std.proofs.lemmas.Bool.Decides.{nat_tests}
use Rattle.std.proofs.Math.Seq.{drop-cons}
use Rattle.std.specs.Prelude.{get_or, nat_le, codes, bytes_eq, option_map, ◌&&◌}
use Rattle.std.proofs.lemmas.List.{append-nil, drop-append-le, drop_at, take-append-le, take-append-drop}
use Rattle.spec_numbers.specs.Rational.{ℚ}
use Rattle.spec_numbers.specs.Texts.{Text}
use Rattle.spec_syntax.specs.declared.operators.OpDef.{OpDef}
use Rattle.spec_syntax.specs.Operators.{Ops, right_most}
use Rattle.spec_terms.specs.Term.{Name}
use Rattle.spec_syntax.specs.declared.grammar.Kind.{Kind}
use Rattle.spec_syntax.specs.declared.grammar.Kind.TheVariants as kind
use Rattle.spec_syntax.specs.declared.grammar.LexFault.{LexFault}
use Rattle.spec_syntax.specs.Characters.{is_layout, begins_with}
use Rattle.spec_syntax.specs.Gaps.{place}
use Rattle.spec_syntax.specs.Laws.{settles, behind}
use Rattle.spec_syntax.specs.GrammarTokens as lexical
use Rattle.spec_syntax.specs.GrammarTokens.{next_token, ends_clause, bytes_of, opens_directly, digit_directly, quotes_at, meant}
use Rattle.spec_syntax.proofs.Settled.{all_settled, held_settled, directly}
use Rattle.spec_syntax.specs.Tokens.{Token, Numeral, Named, Functor, Minus, Open, Close, CloseList, CloseCurly, End}
use Rattle.spec_syntax.specs.Trees.{Tree, unary, binary}
use Rattle.spec_syntax.specs.Grammar.{Use, AsInfix, AsPostfix, Outside, use_of, applied_as}
use Rattle.spec_syntax.specs.TextTokens.{Variables, no_variables, with_variable, next_number, variables_after, bare_name, quoted_name, quoted_text, mark, seen}
use Rattle.spec_syntax.specs.Machine.{Frame, RightOf, OperandOf, InGroup, InCurly, InArguments, InElements, InTail, State, BeforeTerm, AfterOperand, AfterName, AfterFunctor, AfterMinus, AfterOpenList, AfterOpenCurly, Whole, IsOpen, start, end_clause, end_group, end_curly, end_argument, end_element, end_tail, after_operand, before_term, apply_if, after_name, after_functor, after_minus, after_open_list, after_open_curly, step}
use Rattle.spec_text.specs.Readings as readings
use Rattle.spec_text.specs.Readings.{Read, Clause, Ended, Syntax, Resumes, at_the_end, over, past, Reads, ended}
use Rattle.spec_text.specs.Runs.{ReadsOn, whole, onward, stuck, faulty, cut_off, IsBefore}
use Rattle.spec_text.specs.Decided.{Decided, IsClosed, IsFullStop}
use Rattle.spec_text.specs.Laws.{MovesOn}
use Rattle.spec_text.proofs.ReadingSeen.{seen_before_end}
use Rattle.spec_text.proofs.Once.{in_state}
use Rattle.spec_text.proofs.Onward.{end_there, next_there, fault_there, resumes_at_end, far_or_not, resumes_past, moves_on, open_or_whole}
use Rattle.spec_text.proofs.ByMachine.{by_machine, from_machine, read_once}
use Rattle.spec_text.proofs.Ends.{EndsThere, end_stands, found_again, stop_behind}

-- where reading goes on
abbrev pub final : Read → ℕ
final (Clause tree variables next) = next
final Ended = 0
final (Syntax error resume) = resume

-- ---- places only grow

module _ (text : List ℕ) where
  resumes_reach : (at to : ℕ) → at ≤ length text → Resumes text at to → at ≤ to
  resumes_reach at to fits r = elim (far_or_not text at) [
    | inl h ↦ omega (arith, resumes_at_end text at to h r, fits)
    | inr h ↦ omega (arith, (resumes_past text at to h r).0)
  ]

  -- a place before which reading goes on lies before it, if that is not the text's end
  resumes_before : (at to : ℕ) → to < length text → Resumes text at to → at < to
  resumes_before at to inside r = elim (far_or_not text at) [
    | inl h ↦ absurd (omega (arith, resumes_at_end text at to h r, inside))
    | inr h ↦ (resumes_past text at to h r).0
  ]

  reads_reach : (ops : Ops) (s : State) (at : ℕ) (variables : Variables) (r : Read) → at ≤ length text → ReadsOn ops text s at variables r → at ≤ final r
  reads_reach ops s at variables r fits whole = omega arith
  reads_reach ops s at variables r fits (onward {s' = s'} {t = t} e is steps reads) =
      let n = next_there text at t fits e in
      omega (arith, n.behind, n.takes (seen_before_end text variables t _ is), reads_reach ops s' t.span.end (variables_after text variables t) r n.within reads)
  reads_reach ops s at variables r fits (stuck {resume = resume} {t = t} is_open e is none on) =
      let n = next_there text at t fits e in
      omega (arith, n.behind, resumes_reach t.span.start resume (omega (arith, n.takes (seen_before_end text variables t _ is), n.within)) on)
  reads_reach ops s at variables r fits (faulty {resume = resume} {f = f} is_open e on) =
      let n = fault_there text at f fits e in
      omega (arith, n.0, resumes_reach (place f) resume n.1 on)
  reads_reach ops s at variables r fits (cut_off is_open e k) = fits

-- ---- the same before another end

module _ (pre rest other : List ℕ) (c : ℕ) (settled : settles c ≡ true) where
  abbrev mine : List ℕ
  mine = pre ++ c ∷ rest

  abbrev theirs : List ℕ
  theirs = pre ++ c ∷ other

  longer : length pre < length mine
  longer = omega (arith, length-append pre (c ∷ rest))

  token_same : (at : ℕ) (t : lexical.Token) → next_token mine at ≡ Ok t → t.span.end ≤ length pre → next_token theirs at ≡ Ok t
  token_same at t e fits = all_settled pre rest other at c settled (subst (λ r. behind r ≤ length pre) (sym e) fits) ∙ e

  fault_same : (at : ℕ) (f : LexFault) → next_token mine at ≡ Err f → place f < length pre → next_token theirs at ≡ Err f
  fault_same at f e fits = all_settled pre rest other at c settled (subst (λ r. behind r ≤ length pre) (sym e) (omega arith)) ∙ e

  bytes_same : (t : lexical.Token) → t.span.start ≤ t.span.end → t.span.end ≤ length pre → bytes_of theirs t.span ≡ bytes_of mine t.span
  bytes_same t forward fits =
      let size : t.span.end - t.span.start ≤ length (drop t.span.start pre) = omega (arith, length-drop t.span.start pre) in
      ap (take (t.span.end - t.span.start)) (drop-append-le t.span.start pre (c ∷ other) (omega arith)) ∙ take-append-le (t.span.end - t.span.start) (drop t.span.start pre) (c ∷ other) size
      ∙ sym (ap (take (t.span.end - t.span.start)) (drop-append-le t.span.start pre (c ∷ rest) (omega arith)) ∙ take-append-le (t.span.end - t.span.start) (drop t.span.start pre) (c ∷ rest) size)

  opens_same : (t : lexical.Token) → t.span.end ≤ length pre → opens_directly theirs t ≡ opens_directly mine t
  opens_same t fits = directly (λ x. x == 40) pre rest other c t fits

  digit_same : (t : lexical.Token) → t.span.end ≤ length pre → digit_directly theirs t ≡ digit_directly mine t
  digit_same t fits = directly is_ascii_digit pre rest other c t fits

  held_same : (at : ℕ) (t : lexical.Token) → next_token mine at ≡ Ok t → (t.kind ≡ kind.Quoted) ⊎ (t.kind ≡ kind.Codes) → t.span.end ≤ length pre → quoted_text theirs t ≡ quoted_text mine t
  held_same at t e quoting fits = ap meant (held_settled pre rest other at c t settled e quoting fits)

  bare_same : (t : lexical.Token) → t.span.start ≤ t.span.end → t.span.end ≤ length pre → bare_name theirs t (bytes_of theirs t.span) ≡ bare_name mine t (bytes_of mine t.span)
  bare_same t forward fits = rw (bytes_same t forward fits, opens_same t fits, digit_same t fits) refl

  seen_same : (at : ℕ) (variables : Variables) (t : lexical.Token) (k : Kind) → t.kind ≡ k → next_token mine at ≡ Ok t → t.span.start ≤ t.span.end → t.span.end ≤ length pre → seen theirs variables t ≡ seen mine variables t
  seen_same at variables t kind.Name k e forward fits = rw k (ap Some (bare_same t forward fits))
  seen_same at variables t kind.Quoted k e forward fits = rw (k, held_same at t e (inl k) fits, opens_same t fits) refl
  seen_same at variables t kind.Codes k e forward fits = rw (k, held_same at t e (inr k) fits) refl
  seen_same at variables t kind.Variable k e forward fits = rw (k, bytes_same t forward fits) refl
  seen_same at variables t kind.Numeral k e forward fits = rw k refl
  seen_same at variables t kind.Punctuation k e forward fits = rw (k, bytes_same t forward fits) refl
  seen_same at variables t kind.End k e forward fits = rw k refl
  seen_same at variables t kind.Eof k e forward fits = rw k refl

  variables_same : (variables : Variables) (t : lexical.Token) (k : Kind) → t.kind ≡ k → t.span.start ≤ t.span.end → t.span.end ≤ length pre → variables_after theirs variables t ≡ variables_after mine variables t
  variables_same variables t kind.Name k forward fits = rw k refl
  variables_same variables t kind.Quoted k forward fits = rw k refl
  variables_same variables t kind.Codes k forward fits = rw k refl
  variables_same variables t kind.Variable k forward fits = rw (k, bytes_same t forward fits) refl
  variables_same variables t kind.Numeral k forward fits = rw k refl
  variables_same variables t kind.Punctuation k forward fits = rw k refl
  variables_same variables t kind.End k forward fits = rw k refl
  variables_same variables t kind.Eof k forward fits = rw k refl

  resumes_same : (at to : ℕ) → to ≤ length pre → Resumes mine at to → Resumes theirs at to
  resumes_same at to fits (readings.behind {t = t} e k) = readings.behind (token_same at t e fits) k
  resumes_same at to fits (at_the_end e k) = absurd (omega (arith, longer, fits))
  resumes_same at to fits (over {t = t} e n m r) = over (token_same at t e (omega (arith, fits, resumes_before mine t.span.end to (omega (arith, longer, fits)) r))) n m (resumes_same t.span.end to fits r)
  resumes_same at to fits (past {f = f} e r) = past (fault_same at f e (omega (arith, fits, resumes_before mine (suc (place f)) to (omega (arith, longer, fits)) r))) (resumes_same (suc (place f)) to fits r)

  same_end : (t u : lexical.Token) (n : Result lexical.Token LexFault) → n ≡ Ok t → n ≡ Ok u → t.span.end ≡ u.span.end
  same_end t u n e g = let same : t ≡ u = cc in ap (λ (x : lexical.Token). x.span.end) same

  clash : (f : LexFault) (t : lexical.Token) (n : Result lexical.Token LexFault) → n ≡ Err f → n ≡ Ok t → ⊥
  clash f t n e g = cc

  ends_by : (at resume : ℕ) (t : lexical.Token) → next_token mine at ≡ Ok t → resume ≤ length pre → Resumes mine at resume → t.span.end ≤ length pre
  ends_by at resume t e inside (readings.behind {t = u} g k) = omega (arith, same_end t u (next_token mine at) e g, inside)
  ends_by at resume t e inside (at_the_end g k) = absurd (omega (arith, longer, inside))
  ends_by at resume t e inside (over {t = u} g n m r) =
      omega (arith, same_end t u (next_token mine at) e g, inside, resumes_before mine u.span.end resume (omega (arith, longer, inside)) r)
  ends_by at resume t e inside (past {f = f} g r) = absurd (clash f t (next_token mine at) g e)

  -- a refused token, which is found again where reading goes on
  refused_ends : (at resume : ℕ) (t : lexical.Token) → at ≤ length mine → next_token mine at ≡ Ok t → resume ≤ length pre → Resumes mine t.span.start resume → t.span.end ≤ length pre
  refused_ends at resume t fits e inside on = ends_by t.span.start resume t (found_again mine at t fits e) inside on

  reads_same : (ops : Ops) (s : State) (at : ℕ) (variables : Variables) (r : Read) → at ≤ length mine → final r ≤ length pre → ReadsOn ops mine s at variables r → ReadsOn ops theirs s at variables r
  reads_same ops s at variables r fits inside whole = whole
  reads_same ops s at variables r fits inside (onward {s' = s'} {t = t} {tok = tok} e is steps reads) =
      let n = next_there mine at t fits e in
      let takes = n.takes (seen_before_end mine variables t tok is) in
      let ends : t.span.end ≤ length pre = omega (arith, inside, reads_reach mine ops s' t.span.end (variables_after mine variables t) r n.within reads) in
      onward (token_same at t e ends) (seen_same at variables t t.kind refl e (omega (arith, takes)) ends ∙ is) steps
      (subst (λ vs. ReadsOn ops theirs s' t.span.end vs r) (sym (variables_same variables t t.kind refl (omega (arith, takes)) ends)) (reads_same ops s' t.span.end (variables_after mine variables t) r n.within inside reads))
  reads_same ops s at variables r fits inside (stuck {resume = resume} {t = t} {tok = tok} is_open e is none on) =
      let n = next_there mine at t fits e in
      let there = seen_before_end mine variables t tok is in
      let ends = refused_ends at resume t fits e inside on in
      stuck is_open (token_same at t e ends) (seen_same at variables t t.kind refl e (omega (arith, n.takes there)) ends ∙ is) none (resumes_same t.span.start resume inside on)
  reads_same ops s at variables r fits inside (faulty {resume = resume} {f = f} is_open e on) =
      let before = resumes_before mine (place f) resume (omega (arith, longer, inside)) on in
      faulty is_open (fault_same at f e (omega (arith, before, inside))) (resumes_same (place f) resume inside on)
  reads_same ops s at variables r fits inside (cut_off is_open e k) = absurd (omega (arith, longer, inside))

  -- the first token too
  first_same : (ops : Ops) (s : State) (at : ℕ) (variables : Variables) (r : Read) → IsOpen s → at ≤ length mine → final r ≤ length pre → ReadsOn ops mine s at variables r → next_token theirs at ≡ next_token mine at
  first_same ops s at variables r is fits inside whole = absurd is
  first_same ops s at variables r is fits inside (onward {s' = s'} {t = t} e seen steps reads) =
      let n = next_there mine at t fits e in
      token_same at t e (omega (arith, inside, reads_reach mine ops s' t.span.end (variables_after mine variables t) r n.within reads)) ∙ sym e
  first_same ops s at variables r is fits inside (stuck {resume = resume} {t = t} is_open e seen none on) = token_same at t e (refused_ends at resume t fits e inside on) ∙ sym e
  first_same ops s at variables r is fits inside (faulty {resume = resume} {f = f} is_open e on) =
      fault_same at f e (omega (arith, inside, resumes_before mine (place f) resume (omega (arith, longer, inside)) on)) ∙ sym e
  first_same ops s at variables r is fits inside (cut_off is_open e k) = absurd (omega (arith, longer, inside))

  pub machine_same : (ops : Ops) (at : ℕ) (r : Read) → at ≤ length mine → r ≢ Ended → final r ≤ length pre → Reads ops mine at r → Reads ops theirs at r
  machine_same ops at r fits not_end inside reads = elim (by_machine ops mine at r reads) [
    | inl (t, e, k, same) ↦ absurd (not_end same)
    | inr (before, on) ↦
        let same = first_same ops start at no_variables r tt fits inside on in
        from_machine ops theirs at r (inr (λ t e. before t (sym same ∙ e), reads_same ops start at no_variables r fits inside on))
  ]

-- ---- a reading ends with an end token

-- the machine is behind a whole clause at an end token alone
abbrev OnlyEnd : Token → Option State → Type 0
OnlyEnd tok None = Unit {0}
OnlyEnd tok (Some (Whole tree)) = tok ≡ End
OnlyEnd tok (Some s) = Unit {0}

module _ (ops : Ops) where
  clause_only : (a : Tree) (tok : Token) → OnlyEnd tok (end_clause ops a tok)
  clause_only a End = refl
  clause_only a tok = tt

  group_only : (m : ℕ) (a : Tree) (k : List Frame) (tok : Token) → OnlyEnd tok (end_group ops m a k tok)
  group_only m a k Close = tt
  group_only m a k tok = tt

  curly_only : (m : ℕ) (a : Tree) (k : List Frame) (tok : Token) → OnlyEnd tok (end_curly ops m a k tok)
  curly_only m a k CloseCurly = tt
  curly_only m a k tok = tt

  argument_only : (f : Text) (before : List Tree) (m : ℕ) (a : Tree) (k : List Frame) (tok : Token) → OnlyEnd tok (end_argument ops f before m a k tok)
  argument_only f before m a k Close = tt
  argument_only f before m a k tok = tt

  element_only : (before : List Tree) (m : ℕ) (a : Tree) (k : List Frame) (tok : Token) → OnlyEnd tok (end_element ops before m a k tok)
  element_only before m a k CloseList = tt
  element_only before m a k tok = tt

  tail_only : (before : List Tree) (m : ℕ) (a : Tree) (k : List Frame) (tok : Token) → OnlyEnd tok (end_tail ops before m a k tok)
  tail_only before m a k CloseList = tt
  tail_only before m a k tok = tt

  operand_only : (k : List Frame) (m : ℕ) (a : Tree) (tok : Token) (u : Use) → OnlyEnd tok (after_operand ops k m a tok u)
  operand_only k m a tok (AsInfix f op) = tt
  operand_only k m a tok (AsPostfix f op) = tt
  operand_only [] m a tok Outside = clause_only a tok
  operand_only (RightOf f b op n ∷ k) m a tok Outside = operand_only k n (binary f b a) tok (use_of ops n op.priority tok)
  operand_only (OperandOf f op n ∷ k) m a tok Outside = operand_only k n (unary f a) tok (use_of ops n op.priority tok)
  operand_only (InGroup n ∷ k) m a tok Outside = group_only n a k tok
  operand_only (InCurly n ∷ k) m a tok Outside = curly_only n a k tok
  operand_only (InArguments f before n ∷ k) m a tok Outside = argument_only f before n a k tok
  operand_only (InElements before n ∷ k) m a tok Outside = element_only before n a k tok
  operand_only (InTail before n ∷ k) m a tok Outside = tail_only before n a k tok

  before_only : (m : ℕ) (k : List Frame) (tok : Token) → OnlyEnd tok (before_term ops m k tok)
  before_only m k End = tt
  before_only m k tok = tt

  applied_only : (low : Bool) (f : Text) (op : OpDef) (m : ℕ) (k : List Frame) (tok : Token) → OnlyEnd tok (apply_if ops low f op m k tok)
  applied_only true f op m k tok = before_only (right_most op) (OperandOf f op m ∷ k) tok
  applied_only false f op m k tok = tt

  name_only : (f : Text) (m : ℕ) (k : List Frame) (tok : Token) (applied : Option OpDef) → OnlyEnd tok (after_name ops f m k tok applied)
  name_only f m k tok (Some op) = applied_only (nat_le op.priority m) f op m k tok
  name_only f m k tok None = operand_only k m (Name f) tok (use_of ops m 0 tok)

  functor_only : (f : Text) (m : ℕ) (k : List Frame) (tok : Token) → OnlyEnd tok (after_functor ops f m k tok)
  functor_only f m k Open = tt
  functor_only f m k tok = tt

  minus_only : (m : ℕ) (k : List Frame) (tok : Token) → OnlyEnd tok (after_minus ops m k tok)
  minus_only m k (Numeral q) = tt
  minus_only m k tok = tt

  list_only : (m : ℕ) (k : List Frame) (tok : Token) → OnlyEnd tok (after_open_list ops m k tok)
  list_only m k CloseList = tt
  list_only m k tok = before_only 999 (InElements [] m ∷ k) tok

  braces_only : (m : ℕ) (k : List Frame) (tok : Token) → OnlyEnd tok (after_open_curly ops m k tok)
  braces_only m k CloseCurly = tt
  braces_only m k tok = before_only 1200 (InCurly m ∷ k) tok

  step_only : (s : State) (tok : Token) → OnlyEnd tok (step ops s tok)
  step_only (BeforeTerm m k) tok = before_only m k tok
  step_only (AfterOperand m l a k) tok = operand_only k m a tok (use_of ops m l tok)
  step_only (AfterName f m k) tok = name_only f m k tok (applied_as ops f (tok ∷ []))
  step_only (AfterFunctor f m k) tok = functor_only f m k tok
  step_only (AfterMinus m k) tok = minus_only m k tok
  step_only (AfterOpenList m k) tok = list_only m k tok
  step_only (AfterOpenCurly m k) tok = braces_only m k tok
  step_only (Whole a) tok = tt

  pub step_whole : (s : State) (tok : Token) (tree : Tree) → step ops s tok ≡ Some (Whole tree) → tok ≡ End
  step_whole s tok tree e = subst (OnlyEnd tok) e (step_only s tok)

-- the grammar's end token is the text's
abbrev NoEnd : Option Token → Type 0
NoEnd (Some End) = ⊥
NoEnd o = Unit {0}

no_end : (b : Bool) (x y : Option Token) → NoEnd x → NoEnd y → NoEnd (if b then x else y)
no_end true x y h k = h
no_end false x y h k = k

bare_no_end : (opens minus : Bool) (name : Text) → NoEnd (Some (if opens then Functor name else if minus then Minus else Named name false))
bare_no_end true minus name = tt
bare_no_end false true name = tt
bare_no_end false false name = tt

quoted_no_end : (opens : Bool) (name : Text) → NoEnd (Some (if opens then Functor name else Named name true))
quoted_no_end true name = tt
quoted_no_end false name = tt

number_no_end : (number : Option ℚ) → NoEnd (option_map Numeral number)
number_no_end None = tt
number_no_end (Some q) = tt

mark_no_end : (bs : Text) → NoEnd (mark bs)
mark_no_end [] = tt
mark_no_end (b ∷ bs) =
    no_end (b == 40) _ _ tt (no_end (b == 41) _ _ tt (no_end (b == 91) _ _ tt (no_end (b == 93) _ _ tt
    (no_end (b == 123) _ _ tt (no_end (b == 125) _ _ tt (no_end (b == 44) _ _ tt (no_end (b == 124) _ _ tt tt)))))))

pub seen_end : (text : List ℕ) (variables : Variables) (t : lexical.Token) (k : Kind) → t.kind ≡ k → seen text variables t ≡ Some End → t.kind ≡ kind.End
seen_end text variables t kind.Name k e =
    absurd (subst NoEnd (rw k at e) (bare_no_end (opens_directly text t) (bytes_eq (bytes_of text t.span) (codes "-") && digit_directly text t) (bytes_of text t.span)))
seen_end text variables t kind.Quoted k e = absurd (subst NoEnd (rw k at e) (quoted_no_end (opens_directly text t) (quoted_text text t)))
seen_end text variables t kind.Codes k e = absurd (subst NoEnd (rw k at e) tt)
seen_end text variables t kind.Variable k e = absurd (subst NoEnd (rw k at e) tt)
seen_end text variables t kind.Numeral k e = absurd (subst NoEnd (rw k at e) (number_no_end t.number))
seen_end text variables t kind.Punctuation k e = absurd (subst NoEnd (rw k at e) (mark_no_end (bytes_of text t.span)))
seen_end text variables t kind.End k e = k
seen_end text variables t kind.Eof k e = absurd (subst NoEnd (rw k at e) tt)

module _ (ops : Ops) (text : List ℕ) where
  -- a clause that ends there, or reading that goes on there
  Stop : ℕ → ℕ → Type 0
  Stop at next = (stop : ℕ) × (at ≤ stop) × (next ≡ suc stop) × (begins_with 46 (drop stop text) ≡ true) × (ends_clause (drop next text) ≡ true)

  stops : (at from : ℕ) (t : lexical.Token) → at ≤ from → from ≤ length text → next_token text from ≡ Ok t → t.kind ≡ kind.End → Stop at t.span.end
  unfolding Stop
  stops at from t less fits e k =
      let n = next_there text from t fits e in
      let there = end_stands text from t e k in
      (t.span.start, omega (arith, less, n.behind), there.one, there.stop, there.ends)

  resumes_stop : (at from to : ℕ) → at ≤ from → from ≤ length text → to < length text → Resumes text from to → Stop at to
  resumes_stop at from to less fits inside (readings.behind {t = t} e k) = stops at from t less fits e k
  resumes_stop at from to less fits inside (at_the_end e k) = absurd (omega arith)
  resumes_stop at from to less fits inside (over {t = t} e n m r) =
      let next = next_there text from t fits e in
      resumes_stop at t.span.end to (omega (arith, less, next.behind, next.takes m)) next.within inside r
  resumes_stop at from to less fits inside (past {f = f} e r) =
      let there = fault_there text from f fits e in
      resumes_stop at (suc (place f)) to (omega (arith, less, there.0)) (omega (arith, resumes_before text (suc (place f)) to inside r, inside)) inside r

  reads_stop : (s : State) (at from : ℕ) (variables : Variables) (r : Read) → IsOpen s → at ≤ from → from ≤ length text → IsClosed r (length text) → ReadsOn ops text s from variables r → Stop at (final r)
  reads_stop s at from variables r is less fits inside whole = absurd is
  reads_stop s at from variables r is less fits inside (onward {s' = s'} {t = t} {tok = tok} e is_seen steps reads) = elim (open_or_whole ops text s') [
    | inl still ↦
        let n = next_there text from t fits e in
        reads_stop s' at t.span.end (variables_after text variables t) r still (omega (arith, less, n.behind, n.takes (seen_before_end text variables t tok is_seen))) n.within inside reads
    | inr (tree, same) ↦
        let read : r ≡ Clause tree (variables_after text variables t) t.span.end = in_state ops text (Whole tree) t.span.end (variables_after text variables t) r (subst (λ x. ReadsOn ops text x t.span.end (variables_after text variables t) r) same reads) in
        let end : tok ≡ End = step_whole ops s tok tree (steps ∙ ap (λ x. Some x) same) in
        subst (Stop at) (sym (ap final read)) (stops at from t less fits e (seen_end text variables t t.kind refl (is_seen ∙ ap (λ x. Some x) end)))
  ]
  reads_stop s at from variables r is less fits inside (stuck {resume = resume} {t = t} is_open e seen none on) =
      let n = next_there text from t fits e in
      resumes_stop at t.span.start resume (omega (arith, less, n.behind)) (omega (arith, n.within, n.takes (seen_before_end text variables t _ seen))) inside on
  reads_stop s at from variables r is less fits inside (faulty {resume = resume} {f = f} is_open e on) =
      let there = fault_there text from f fits e in
      resumes_stop at (place f) resume (omega (arith, less, there.0)) there.1 inside on
  reads_stop s at from variables r is less fits inside (cut_off is_open e k) = absurd (omega (arith, inside))

  machine_stop : (at : ℕ) (r : Read) → at ≤ length text → IsClosed r (length text) → Reads ops text at r → Stop at (final r)
  machine_stop at r fits inside reads = elim (by_machine ops text at r reads) [
    | inl (t, e, k, same) ↦ absurd (subst (λ q. IsClosed q (length text)) same inside)
    | inr (before, on) ↦ reads_stop start at at no_variables r tt (omega arith) fits inside on
  ]

pub closed_final : (r : Read) (n : ℕ) → IsClosed r n → (final r < n) × (r ≢ Ended)
closed_final (Clause tree variables next) n h = (h, λ e. cc)
closed_final Ended n h = absurd h
closed_final (Syntax error resume) n h = (h, λ e. cc)

pub final_closed : (r : Read) (n : ℕ) → r ≢ Ended → final r < n → IsClosed r n
final_closed (Clause tree variables next) n m h = h
final_closed Ended n m h = absurd (m refl)
final_closed (Syntax error resume) n m h = h

-- the full stop before the place where reading goes on
pub stop_there : (ops : Ops) (text : List ℕ) (at : ℕ) (r : Read) → at ≤ length text → Reads ops text at r → IsClosed r (length text) → (stop : ℕ) × (at ≤ stop) × (final r ≡ suc stop) × IsFullStop text stop
unfolding Stop
stop_there ops text at r fits reads closed =
    let (stop, less, next, stands, ends) = machine_stop ops text at r fits closed reads in
    (stop, less, next, record { stop = stands; ends = subst (λ n. ends_clause (drop n text) ≡ true) next ends; inside = omega (arith, next, (closed_final r (length text) closed).0) })

-- layout or a comment stands where reading goes on
pub ends_clause_there : (ops : Ops) (text : List ℕ) (at : ℕ) (r : Read) → at ≤ length text → IsClosed r (length text) → Reads ops text at r → ends_clause (drop (final r) text) ≡ true
unfolding Stop
ends_clause_there ops text at r fits closed reads = (machine_stop ops text at r fits closed reads).4

pub full_stop_there : (ops : Ops) (text : List ℕ) (at : ℕ) (r : Read) → at ≤ length text → Reads ops text at r → IsClosed r (length text) → (stop : ℕ) × (at ≤ stop) × IsFullStop text stop
full_stop_there ops text at r fits reads closed = let (stop, less, next, stands) = stop_there ops text at r fits reads closed in (stop, less, stands)

-- ---- what is decided

pub layout_settles : (c : ℕ) → (is_layout c || (c == 37)) ≡ true → settles c ≡ true
layout_settles c e = by (c == 32) (c == 9) (c == 10) (c == 11) (c == 12) (c == 13) (c == 37) refl refl refl refl refl refl refl e
  where
    is : (n : ℕ) → (c == n) ≡ true → settles n ≡ true → settles c ≡ true
    is n same settled = let equal : n ≡ c = grind (arith, nat_tests) in subst (λ m. settles m ≡ true) equal settled

    by : (a b d f g h k : Bool) → (c == 32) ≡ a → (c == 9) ≡ b → (c == 10) ≡ d → (c == 11) ≡ f → (c == 12) ≡ g → (c == 13) ≡ h → (c == 37) ≡ k → ((a || b || d || f || g || h) || k) ≡ true → settles c ≡ true
    by true b d f g h k p1 p2 p3 p4 p5 p6 p7 e = is 32 p1 refl
    by false true d f g h k p1 p2 p3 p4 p5 p6 p7 e = is 9 p2 refl
    by false false true f g h k p1 p2 p3 p4 p5 p6 p7 e = is 10 p3 refl
    by false false false true g h k p1 p2 p3 p4 p5 p6 p7 e = is 11 p4 refl
    by false false false false true h k p1 p2 p3 p4 p5 p6 p7 e = is 12 p5 refl
    by false false false false false true k p1 p2 p3 p4 p5 p6 p7 e = is 13 p6 refl
    by false false false false false false true p1 p2 p3 p4 p5 p6 p7 e = is 37 p7 refl
    by false false false false false false false p1 p2 p3 p4 p5 p6 p7 e = absurd (cc)

module _ (ops : Ops) (text : List ℕ) (at : ℕ) (r : Read) (fits : at ≤ length text) (reads : Reads ops text at r) where
  closed_decides : IsClosed r (length text) → Decided ops text at
  unfolding Stop
  closed_decides closed = (r, later)
    where
      next : ℕ
      next = final r

      inside : next < length text
      inside = (closed_final r (length text) closed).0

      c : ℕ
      c = get_or text next 0

      pre : List ℕ
      pre = take next text

      rest : List ℕ
      rest = drop (suc next) text

      behind_it : drop next text ≡ c ∷ rest
      behind_it = drop-cons text next 0 inside

      split : text ≡ pre ++ c ∷ rest
      split = sym (take-append-drop next text) ∙ ap (λ bs. pre ++ bs) behind_it

      settled : settles c ≡ true
      settled = layout_settles c (subst (λ bs. ends_clause bs ≡ true) behind_it (machine_stop ops text at r fits closed reads).4)

      size : length pre ≡ next
      size = omega (arith, length-take next text, inside)

      later : (more : List ℕ) → Reads ops (text ++ more) at r
      later more =
          let mine : Reads ops (pre ++ c ∷ rest) at r = subst (λ x. Reads ops x at r) split reads in
          let theirs = machine_same pre rest (rest ++ more) c settled ops at r (subst (λ x. at ≤ length x) split fits) (closed_final r (length text) closed).1 (omega (arith, size)) mine in
          subst (λ x. Reads ops x at r) (sym (ap (λ x. x ++ more) split ∙ append_assoc pre (c ∷ rest) more)) theirs

  -- no reading of the text ends where another byte stands that ends no clause
  not_at_the_end : r ≢ Ended → Reads ops (text ++ 97 ∷ []) at r → final r ≡ length text → ⊥
  unfolding Stop
  not_at_the_end not_end again e =
      let longer : length (text ++ 97 ∷ []) ≡ length text + 1 = length-append text (97 ∷ []) in
      let stop = machine_stop ops (text ++ 97 ∷ []) at r (omega (arith, longer, fits)) (final_closed r (length (text ++ 97 ∷ [])) not_end (omega (arith, longer, e))) again in
      let left : drop (final r) (text ++ 97 ∷ []) ≡ 97 ∷ [] = drop_at text (97 ∷ []) (final r) (sym e) in
      no_stop (subst (λ bs. ends_clause bs ≡ true) left stop.4)
    where
      no_stop : ends_clause (97 ∷ []) ≡ true → ⊥
      no_stop e = cc

  no_token : (t u : lexical.Token) (n : Result lexical.Token LexFault) → n ≡ Ok t → n ≡ Ok u → t.kind ≡ kind.End → u.kind ≡ kind.Eof → ⊥
  no_token t u n e g k m = let same : t ≡ u = cc in let both : kind.End ≡ kind.Eof = sym k ∙ ap (λ (x : lexical.Token). x.kind) same ∙ m in cc

  not_ended : Reads ops text at Ended → Reads ops (text ++ 10 ∷ 46 ∷ []) at Ended → ⊥
  not_ended (ended {t = t} e k) (ended {t = u} g m) =
      no_token _ u (next_token (text ++ 10 ∷ 46 ∷ []) at) (stop_behind text at t fits e k) g refl m

  moved : (q : Read) → q ≢ Ended → MovesOn text at q → final q ≤ length text
  moved (Clause tree variables next) n h = h.1
  moved Ended n h = absurd (n refl)
  moved (Syntax error resume) n h = h.3

  ended_or_not : (q : Read) → (q ≡ Ended) ⊎ (q ≢ Ended)
  ended_or_not (Clause tree variables next) = inr (λ e. cc)
  ended_or_not Ended = inl refl
  ended_or_not (Syntax error resume) = inr (λ e. cc)

  decided_closes : Decided ops text at → IsClosed r (length text)
  decided_closes (q, all) = elim (ended_or_not r) [
    | inl same ↦ absurd (not_ended (subst (Reads ops text at) same reads) (subst (Reads ops (text ++ 10 ∷ 46 ∷ []) at) same (each (10 ∷ 46 ∷ []))))
    | inr not_end ↦ final_closed r (length text) not_end (elim (far_or_not text (final r)) [
      | inl far ↦ absurd (not_at_the_end not_end (each (97 ∷ [])) (omega (arith, far, moved r not_end (moves_on ops text at r fits reads))))
      | inr near ↦ near
    ])
  ]
    where
      this : q ≡ r
      this = read_once ops text at q r (subst (λ x. Reads ops x at q) (append-nil text) (all [])) reads

      each : (more : List ℕ) → Reads ops (text ++ more) at r
      each more = subst (Reads ops (text ++ more) at) this (all more)

  pub decided_when_closed : Decided ops text at ↔ IsClosed r (length text)
  decided_when_closed = (decided_closes, closed_decides)
