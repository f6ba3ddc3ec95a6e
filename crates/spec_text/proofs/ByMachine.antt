-- What stands at a place is what the machine reads there.
use Rattle.std.proofs.Common.{◌≡◌, ℕ, List, [], ◌∷◌, ◌++◌, length, Option, Some, None, Result, Ok, Err, inl, inr, refl, sym, ap, ◌∙◌, subst}
use Rattle.spec_syntax.specs.Operators.{Ops}
use Rattle.spec_syntax.specs.declared.grammar.Kind.TheVariants as kind
use Rattle.spec_syntax.specs.declared.grammar.LexFault.{LexFault}
use Rattle.spec_syntax.specs.GrammarTokens as lexical
use Rattle.spec_syntax.specs.GrammarTokens.{next_token}
use Rattle.spec_syntax.specs.Tokens.{Token}
use Rattle.spec_syntax.specs.Trees.{Tree}
use Rattle.spec_syntax.specs.TextTokens.{Variables, no_variables, variables_after, seen}
use Rattle.spec_syntax.specs.Machine.{State, Whole, IsOpen, start, step, run_from, run}
use Rattle.spec_syntax.proofs.Runs.{clause_runs, run_parses, begun_runs, run_begins, refused_runs, run_refuses, run_onward}
use Rattle.spec_text.specs.Readings.{Read, Syntax, AreTokens, none, next, Reads, ended, clause, refused, fault, cut}
use Rattle.spec_text.specs.Runs.{ReadsOn, whole, onward, stuck, faulty, cut_off, IsBefore, MachineReads}
use Rattle.spec_text.proofs.ReadingSeen.{seen_before_end}
use Rattle.spec_text.proofs.Once.{reads_once}

module _ (ops : Ops) (text : List ℕ) where
  same_state : (s r : State) → Some s ≡ Some r → s ≡ r
  same_state s r e = cc

  nowhere : (toks : List Token) (s : State) → run_from ops None toks ≡ Some s → ⊥
  nowhere [] s e = cc
  nowhere (tok ∷ toks) s e = cc

  by_step : (at : ℕ) (variables : Variables) (t : lexical.Token) (tok : Token) (rest : List Token) (s s' : State) (r : Read) (o : Option State) → step ops s tok ≡ o →
      next_token text at ≡ Ok t → seen text variables t ≡ Some tok → run_from ops o rest ≡ Some s' →
      ((s1 : State) → run_from ops (Some s1) rest ≡ Some s' → ReadsOn ops text s1 t.span.end (variables_after text variables t) r) → ReadsOn ops text s at variables r
  by_step at variables t tok rest s s' r None steps found is e reads = absurd (nowhere rest s' e)
  by_step at variables t tok rest s s' r (Some s1) steps found is e reads = onward found is steps (reads s1 e)

  -- what is read behind tokens is read before them
  walk : (at to : ℕ) (variables later : Variables) (toks : List Token) (s s' : State) (r : Read) → AreTokens text at variables toks to later → run_from ops (Some s) toks ≡ Some s' →
      ReadsOn ops text s' to later r → ReadsOn ops text s at variables r
  walk at to variables later toks s s' r none e reads = subst (λ x. ReadsOn ops text x at variables r) (sym (same_state s s' e)) reads
  walk at to variables later toks s s' r (next {t = t} {tok = tok} {toks = rest} found is tokens) e reads =
      by_step at variables t tok rest s s' r (step ops s tok) refl found is e (λ s1 e. walk t.span.end to (variables_after text variables t) later rest s1 s' r tokens e reads)

  same_token : (t u : lexical.Token) (r : Result lexical.Token LexFault) → r ≡ Ok t → r ≡ Ok u → t ≡ u
  same_token t u r e g = cc

  no_token : (f : LexFault) (t : lexical.Token) (r : Result lexical.Token LexFault) → r ≡ Err f → r ≡ Ok t → ⊥
  no_token f t r e g = cc

  seen_there : (at : ℕ) (variables : Variables) (t : lexical.Token) (tok : Token) → next_token text at ≡ Ok t → seen text variables t ≡ Some tok → IsBefore text at
  seen_there at variables t tok found is u e k =
      seen_before_end text variables t tok is (ap (λ (x : lexical.Token). x.kind) (same_token t u (next_token text at) found e) ∙ k)

  -- tokens stand before the text's end
  tokens_there : (at to : ℕ) (variables later : Variables) (tok : Token) (toks : List Token) → AreTokens text at variables (tok ∷ toks) to later → IsBefore text at
  tokens_there at to variables later tok toks (next {t = t} found is tokens) = seen_there at variables t tok found is

  before : (at to : ℕ) (variables later : Variables) (toks : List Token) → AreTokens text at variables toks to later → IsBefore text to → IsBefore text at
  before at to variables later toks none there = there
  before at to variables later toks (next {t = t} {tok = tok} found is tokens) there = seen_there at variables t tok found is

  start_not_whole : (tree : Tree) → start ≡ Whole tree → ⊥
  start_not_whole tree e = cc

  clause_there : (at to : ℕ) (later : Variables) (toks : List Token) (tree : Tree) → AreTokens text at no_variables toks to later → run ops toks ≡ Some (Whole tree) → IsBefore text at
  clause_there at to later [] tree tokens e = absurd (start_not_whole tree (same_state start (Whole tree) e))
  clause_there at to later (tok ∷ toks) tree tokens e = tokens_there at to no_variables later tok toks tokens

  pub by_machine : (at : ℕ) (r : Read) → Reads ops text at r → MachineReads ops text at r
  by_machine at r (ended {t = t} found k) = inl (t, found, k, refl)
  by_machine at r (clause {toks = toks} {to = to} {variables = later} {tree = tree} tokens parses) =
      let e = clause_runs ops toks tree parses in
      inr (clause_there at to later toks tree tokens e, walk at to no_variables later toks start (Whole tree) r tokens e whole)
  by_machine at r (refused {toks = toks} {to = to} {variables = later} {t = t} {tok = tok} tokens found is refuses on) =
      let (s, e, is_open, stops) = refused_runs ops toks tok refuses in
      inr (before at to no_variables later toks tokens (seen_there to later t tok found is), walk at to no_variables later toks start s r tokens e (stuck is_open found is stops on))
  by_machine at r (fault {toks = toks} {to = to} {variables = later} {f = f} tokens begins found on) =
      let (s, e, is_open) = begun_runs ops toks begins in
      inr (before at to no_variables later toks tokens (λ t g. absurd (no_token f t (next_token text to) found g)), walk at to no_variables later toks start s r tokens e (faulty is_open found on))
  by_machine at r (cut {first = first} {toks = toks} {to = to} {variables = later} tokens begins found k) =
      let (s, e, is_open) = begun_runs ops (first ∷ toks) begins in
      inr (tokens_there at to no_variables later first toks tokens, walk at to no_variables later (first ∷ toks) start s r tokens e (cut_off is_open found k))

  -- one token more
  longer : (at to : ℕ) (variables later : Variables) (toks : List Token) (t : lexical.Token) (tok : Token) → AreTokens text at variables toks to later → next_token text to ≡ Ok t →
      seen text later t ≡ Some tok → AreTokens text at variables (toks ++ tok ∷ []) t.span.end (variables_after text later t)
  longer at to variables later toks t tok none found is = next found is none
  longer at to variables later toks t tok (next {t = u} {toks = rest} first first_is tokens) found is =
      next first first_is (longer u.span.end to (variables_after text variables u) later rest t tok tokens found is)

  cut_behind : (at to : ℕ) (later : Variables) (toks : List Token) (s : State) (t : lexical.Token) → AreTokens text at no_variables toks to later → run ops toks ≡ Some s → IsOpen s →
      next_token text to ≡ Ok t → t.kind ≡ kind.Eof → IsBefore text at → Reads ops text at (Syntax (length text) (length text))
  cut_behind at to later [] s t none e is_open found k there = absurd (there t found k)
  cut_behind at to later (first ∷ toks) s t tokens e is_open found k there = cut tokens (run_begins ops (first ∷ toks) (s, e, is_open)) found k

  -- what the machine reads on behind tokens stands there
  stands : (start_at at : ℕ) (variables : Variables) (toks : List Token) (s : State) (r : Read) → IsBefore text start_at → AreTokens text start_at no_variables toks at variables →
      run ops toks ≡ Some s → ReadsOn ops text s at variables r → Reads ops text start_at r
  stands start_at at variables toks s r there tokens e (whole {tree = tree}) = clause tokens (run_parses ops toks tree e)
  stands start_at at variables toks s r there tokens e (onward {s' = s'} {t = t} {tok = tok} found is steps reads) =
      stands start_at t.span.end (variables_after text variables t) (toks ++ tok ∷ []) s' r there (longer start_at at no_variables variables toks t tok tokens found is)
      (run_onward ops toks (Some start) s tok e ∙ steps) reads
  stands start_at at variables toks s r there tokens e (stuck {tok = tok} is_open found is stops on) = refused tokens found is (run_refuses ops toks tok (s, e, is_open, stops)) on
  stands start_at at variables toks s r there tokens e (faulty is_open found on) = fault tokens (run_begins ops toks (s, e, is_open)) found on
  stands start_at at variables toks s r there tokens e (cut_off {t = t} is_open found k) = cut_behind start_at at variables toks s t tokens e is_open found k there

  pub from_machine : (at : ℕ) (r : Read) → MachineReads ops text at r → Reads ops text at r
  from_machine at r (inl (t, found, k, same)) = subst (Reads ops text at) (sym same) (ended found k)
  from_machine at r (inr (there, reads)) = stands at at no_variables [] start r there none refl reads

  machine_once : (at : ℕ) (r q : Read) → MachineReads ops text at r → MachineReads ops text at q → r ≡ q
  machine_once at r q (inl (t, e, k, same)) (inl (u, g, m, other)) = same ∙ sym other
  machine_once at r q (inl (t, e, k, same)) (inr (there, reads)) = absurd (there t e k)
  machine_once at r q (inr (there, reads)) (inl (u, g, m, other)) = absurd (there u g m)
  machine_once at r q (inr (there, reads)) (inr (then, others)) = reads_once ops text start at no_variables r q reads others

  pub read_once : (at : ℕ) (r q : Read) → Reads ops text at r → Reads ops text at q → r ≡ q
  read_once at r q a b = machine_once at r q (by_machine at r a) (by_machine at q b)

  -- what the machine reads on from the start, where a token stands or a fault
  pub reads_there : (at : ℕ) (r : Read) {t : lexical.Token} {tok : Token} → next_token text at ≡ Ok t → seen text no_variables t ≡ Some tok → ReadsOn ops text start at no_variables r → Reads ops text at r
  reads_there at r {t = t} {tok = tok} found is reads = from_machine at r (inr (seen_there at no_variables t tok found is, reads))

  pub fails_there : (at : ℕ) (r : Read) {f : LexFault} → next_token text at ≡ Err f → ReadsOn ops text start at no_variables r → Reads ops text at r
  fails_there at r {f = f} found reads = from_machine at r (inr (λ t g. absurd (no_token f t (next_token text at) found g), reads))
