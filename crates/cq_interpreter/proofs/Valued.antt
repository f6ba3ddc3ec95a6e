-- How V reads in the answer that was told last.
use Rattle.std.proofs.Common.{◌≡◌, ◌<◌, ◌∙◌, ℕ, [], ◌∷◌, length, sym, ap, ap₂, subst}
use Rattle.std.specs.Prelude.{All}
use Rattle.std.proofs.lemmas.List.Elements.{All-head}
use Rattle.spec_numbers.specs.Texts.{Text}
use Rattle.spec_syntax.specs.Operators.{Ops}
use Rattle.spec_terms.specs.Term.{named}
use Rattle.spec_syntax.specs.TextTokens.{VariableName}
use Rattle.spec_syntax.specs.Trees.{Tree}
use Rattle.spec_branch.specs.Branch.{State}
use Rattle.spec_text.specs.Written.{writeq}
use Rattle.spec_command.specs.Outcome.{value_text}
use Rattle.cq_session.specs.Counting.{gen_names}
use Rattle.cq_term.specs.Texts.{text_of}
use Rattle.cq_term.specs.Meaning.{at}
use Rattle.cq_machine.specs.Machines.{database_of, terms}
use Rattle.cq_interpreter.specs.Toplevels.{images, names_of, term_in, texts, HasAnswered}
use Rattle.cq_interpreter.specs.declared.toplevel.Toplevel.{Toplevel}

module _ (t : Toplevel) (n : ℕ) (names : names_of t ≡ gen_names n) (st : State) (ops : Ops) (answered : HasAnswered t st ops) where
  -- its variable is there
  pub there : n < length (images t)
  there = All-head (λ (v : VariableName). v.number < length (images t)) _ [] (subst (All (λ (v : VariableName). v.number < length (images t))) names answered.live)

  module _ (id : ℕ) (is : at (terms t.engine.machine) id ≡ at (images t) n) (text : Text)
      (written : text ≡ writeq (database_of t.engine.machine).operators (term_in t id)) where
    reads : term_in t id ≡ st.bindings n
    reads = ap (named (text_of (texts t))) is ∙ sym (answered.ready.stands.bindings.inside n there)

    pub is_value : text ≡ value_text n ops st
    is_value = written ∙ ap₂ writeq (sym answered.operators) reads
