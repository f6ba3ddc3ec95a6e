-- Where reading may go on, whatever the operators are.
use Rattle.std.proofs.Common.{◌≡◌, ◌≢◌, ℕ, suc, ◌+◌, ◌<◌, ◌≤◌, List, [], ◌∷◌, ◌++◌, take, drop, length, length-take, length-append, append_assoc, Bool, true, false, Option, Some, None, Result, Ok, Err, ◌⊎◌, inl, inr, refl, sym, ap, subst, ◌∙◌, arith}
use Rattle.std.proofs.Math.Seq.{drop-cons}
use Rattle.std.proofs.lemmas.List.{take-append-drop, drop-append-le}
use Rattle.std.specs.Prelude.{get_or}
use Rattle.spec_syntax.specs.Operators.{Ops}
use Rattle.spec_syntax.specs.declared.grammar.Kind.{Kind}
use Rattle.spec_syntax.specs.declared.grammar.Kind.TheVariants as kind
use Rattle.spec_syntax.specs.declared.grammar.LexFault.{LexFault}
use Rattle.spec_syntax.specs.Gaps.{place}
use Rattle.spec_syntax.specs.GrammarTokens as lexical
use Rattle.spec_syntax.specs.GrammarTokens.{next_token, ends_clause}
use Rattle.spec_syntax.specs.Tokens.{Token, End}
use Rattle.spec_syntax.specs.Trees.{Tree, unary, binary}
use Rattle.spec_syntax.specs.Grammar.{Use, AsInfix, AsPostfix, Outside, use_of, begins_term}
use Rattle.spec_terms.specs.Term.{Name}
use Rattle.spec_syntax.specs.TextTokens.{Variables, no_variables, variables_after, seen}
use Rattle.spec_syntax.specs.Machine.{Frame, RightOf, OperandOf, InGroup, InCurly, InArguments, InElements, InTail, State, BeforeTerm, AfterOperand, AfterName, AfterFunctor, AfterMinus, AfterOpenList, AfterOpenCurly, Whole, IsOpen, start, after_operand, step}
use Rattle.spec_text.specs.Readings as readings
use Rattle.spec_text.specs.Readings.{Read, Clause, Ended, Syntax, Resumes, at_the_end, over, past, Reads}
use Rattle.spec_text.specs.Runs.{ReadsOn, whole, onward, stuck, faulty, cut_off, IsBefore}
use Rattle.spec_text.specs.Decided.{IsClosed, here, later, MayGoOn}
use Rattle.spec_text.proofs.ReadingSeen.{seen_before_end}
use Rattle.spec_text.proofs.Once.{in_state}
use Rattle.spec_text.proofs.Onward.{next_there, open_or_whole}
use Rattle.spec_text.proofs.ByMachine.{by_machine}
use Rattle.spec_text.proofs.Ends.{found_again}
use Rattle.spec_text.proofs.Decides.{final, closed_final, final_closed, ends_clause_there, layout_settles, machine_same, seen_end, step_whole}

-- the machine is whole behind an end token, if it goes on
abbrev EndsOnly : Option State → Type 0
EndsOnly None = Unit {0}
EndsOnly (Some (Whole tree)) = Unit {0}
EndsOnly (Some s) = ⊥

use_end : (ops : Ops) (m l : ℕ) → use_of ops m l End ≡ Outside
unfolding use_of
use_end ops m l = refl

module _ (ops : Ops) where
  operand_end : (k : List Frame) (m : ℕ) (a : Tree) (u : Use) → u ≡ Outside → EndsOnly (after_operand ops k m a End u)
  operand_end k m a (AsInfix f op) e = cc
  operand_end k m a (AsPostfix f op) e = cc
  operand_end [] m a Outside e = tt
  operand_end (RightOf f b op n ∷ k) m a Outside e = operand_end k n (binary f b a) (use_of ops n op.priority End) (use_end ops n op.priority)
  operand_end (OperandOf f op n ∷ k) m a Outside e = operand_end k n (unary f a) (use_of ops n op.priority End) (use_end ops n op.priority)
  operand_end (InGroup n ∷ k) m a Outside e = tt
  operand_end (InCurly n ∷ k) m a Outside e = tt
  operand_end (InArguments f before n ∷ k) m a Outside e = tt
  operand_end (InElements before n ∷ k) m a Outside e = tt
  operand_end (InTail before n ∷ k) m a Outside e = tt

  step_end : (s : State) → EndsOnly (step ops s End)
  unfolding begins_term
  step_end (BeforeTerm m k) = tt
  step_end (AfterOperand m l a k) = operand_end k m a (use_of ops m l End) (use_end ops m l)
  step_end (AfterName f m k) = operand_end k m (Name f) (use_of ops m 0 End) (use_end ops m 0)
  step_end (AfterFunctor f m k) = tt
  step_end (AfterMinus m k) = tt
  step_end (AfterOpenList m k) = tt
  step_end (AfterOpenCurly m k) = tt
  step_end (Whole a) = tt

  only_whole : (s : State) → EndsOnly (Some s) → IsOpen s → ⊥
  only_whole (Whole tree) e is = is
  only_whole (BeforeTerm m k) e is = e
  only_whole (AfterOperand m l a k) e is = e
  only_whole (AfterName f m k) e is = e
  only_whole (AfterFunctor f m k) e is = e
  only_whole (AfterMinus m k) e is = e
  only_whole (AfterOpenList m k) e is = e
  only_whole (AfterOpenCurly m k) e is = e

  -- no clause goes on behind an end token
  not_on : (text : List ℕ) (variables : Variables) (t : lexical.Token) (tok : Token) (s s' : State) → seen text variables t ≡ Some tok → step ops s tok ≡ Some s' → IsOpen s' → t.kind ≢ kind.End
  not_on text variables t tok s s' is steps open_still k =
      let both : Some End ≡ Some tok = sym (let e : seen text variables t ≡ Some End = rw k refl in e) ∙ is in
      let same : End ≡ tok = cc in
      only_whole s' (subst EndsOnly (subst (λ x. step ops s x ≡ Some s') (sym same) steps) (step_end s)) open_still

module _ (ops : Ops) (text : List ℕ) where
  same_next : (a b to : ℕ) → next_token text a ≡ next_token text b → Resumes text a to → Resumes text b to
  same_next a b to e (readings.behind found k) = readings.behind (sym e ∙ found) k
  same_next a b to e (at_the_end found k) = at_the_end (sym e ∙ found) k
  same_next a b to e (over found n m r) = over (sym e ∙ found) n m r
  same_next a b to e (past found r) = past (sym e ∙ found) r

  over_too : (at to : ℕ) (t : lexical.Token) → next_token text at ≡ Ok t → t.kind ≢ kind.End → t.kind ≢ kind.Eof → MayGoOn text t.span.end to → MayGoOn text at to
  over_too at to t e n m (inl r) = inl (over e n m r)
  over_too at to t e n m (inr (p, comes, r)) = inr (p, later e n m comes, r)

  goes_on : (s : State) (at : ℕ) (variables : Variables) (r : Read) → IsOpen s → at ≤ length text → ReadsOn ops text s at variables r → MayGoOn text at (final r)
  goes_on s at variables r is fits whole = absurd is
  goes_on s at variables r is fits (onward {s' = s'} {t = t} {tok = tok} e is_seen steps reads) = elim (open_or_whole ops text s') [
    | inl still ↦
        let n = next_there text at t fits e in
        over_too at (final r) t e (not_on ops text variables t tok s s' is_seen steps still) (seen_before_end text variables t tok is_seen)
        (goes_on s' t.span.end (variables_after text variables t) r still n.within reads)
    | inr (tree, same) ↦
        let read : r ≡ Clause tree (variables_after text variables t) t.span.end = in_state ops text (Whole tree) t.span.end (variables_after text variables t) r (subst (λ x. ReadsOn ops text x t.span.end (variables_after text variables t) r) same reads) in
        let end : tok ≡ End = step_whole ops s tok tree (steps ∙ ap (λ x. Some x) same) in
        inl (subst (Resumes text at) (sym (ap final read)) (readings.behind e (seen_end text variables t t.kind refl (is_seen ∙ ap (λ x. Some x) end))))
  ]
  goes_on s at variables r is fits (stuck {resume = resume} {t = t} is_open e is_seen none on) = inl (same_next t.span.start at resume (found_again text at t fits e ∙ sym e) on)
  goes_on s at variables r is fits (faulty {f = f} is_open e on) = inr (place f, here e, on)
  goes_on s at variables r is fits (cut_off is_open e k) = inl (at_the_end e k)

  pub may_go_on : (at : ℕ) (r : Read) → at ≤ length text → Reads ops text at r → IsClosed r (length text) → (to : ℕ) × (to < length text) × MayGoOn text at to
  may_go_on at r fits reads closed = elim (by_machine ops text at r reads) [
    | inl (t, e, k, same) ↦ absurd (subst (λ q. IsClosed q (length text)) same closed)
    | inr (before, on) ↦ (final r, (closed_final r (length text) closed).0, goes_on start at no_variables r tt fits on)
  ]

-- a reading that goes on before a shorter text's end is that of the shorter text
pub read_earlier : (ops : Ops) (text more : List ℕ) (at : ℕ) (r : Read) → at ≤ length text → Reads ops (text ++ more) at r → IsClosed r (length text) → Reads ops text at r
read_earlier ops text more at r fits reads closed =
    let next = final r in
    let inside : next < length text = (closed_final r (length text) closed).0 in
    let c = get_or text next 0 in
    let pre = take next text in
    let rest = drop (suc next) text in
    let behind_it : drop next text ≡ c ∷ rest = drop-cons text next 0 inside in
    let split : text ≡ pre ++ c ∷ rest = sym (take-append-drop next text) ∙ ap (λ bs. pre ++ bs) behind_it in
    let longer : text ++ more ≡ pre ++ c ∷ (rest ++ more) = ap (λ x. x ++ more) split ∙ append_assoc pre (c ∷ rest) more in
    let size : length (text ++ more) ≡ length text + length more = length-append text more in
    let there : drop next (text ++ more) ≡ c ∷ (rest ++ more) = drop-append-le next text more (omega (arith, inside)) ∙ ap (λ x. x ++ more) behind_it in
    let not_end = (closed_final r (length text) closed).1 in
    let stop = ends_clause_there ops (text ++ more) at r (omega (arith, size, fits)) (final_closed r (length (text ++ more)) not_end (omega (arith, size, inside))) reads in
    let settled = layout_settles c (subst (λ bs. ends_clause bs ≡ true) there stop) in
    subst (λ x. Reads ops x at r) (sym split)
    (machine_same pre (rest ++ more) rest c settled ops at r (omega (arith, ap length (sym longer), size, fits)) not_end (omega (arith, length-take next text, inside)) (subst (λ x. Reads ops x at r) longer reads))
