-- A token more of a clause.
use Rattle.std.proofs.Common.{◌≡◌, ℕ, List, length, Bool, true, false, Option, Some, None, refl, sym, ap, ◌∙◌, subst}
use Rattle.spec_numbers.specs.Texts.{Text}
use Rattle.spec_numbers.specs.Prefixes.{IsPrefix}
use Rattle.spec_syntax.specs.GrammarTokens as lexical
use Rattle.spec_syntax.specs.TextTokens.{seen, variables_after}
use Rattle.spec_syntax.specs.Machine as machine
use Rattle.cq_ops.specs.Tables.{Tables, named}
use Rattle.cq_term.specs.Meaning.{HeapTerm}
use Rattle.cq_term.specs.HeapValue.{Terms}
use Rattle.cq_read.specs.declared.parse.frames.State.{State}
use Rattle.cq_read.specs.declared.parse.frames.Frame.{Frame}
use Rattle.cq_read.specs.declared.parse.tokens.Token.{Token}
use Rattle.cq_read.specs.Views.{token_of, frames_of, state_of, state_or_none, AreLive, IsLiveState}
use Rattle.cq_read.specs.declared.clause.Clause.{Clause}
use Rattle.cq_read.specs.Names.{variables}
use Rattle.cq_read.specs.Clauses.{IsLive, Advances, state, state_if, variables_so_far}
use Rattle.cq_read.proofs.Growth.{machine_kept}

module _ (texts : List Text) (ops : Tables) (text : List ℕ) (t : lexical.Token) (heap mid new_heap : Terms) (old new : Clause) (live : IsLive heap old) (p : IsPrefix heap.terms mid.terms) (tok : Token) where
  -- from the step that the machine did at the token, behind new variables of the heap
  pub advances : (goes_on : Bool) → seen text (variables_so_far heap old) t ≡ Some (token_of texts tok) →
      state_if goes_on (state texts new_heap new) ≡ machine.step (named texts ops) (state_of texts mid.terms (frames_of texts mid.terms old.frames.items) old.state) (token_of texts tok) →
      variables_so_far new_heap new ≡ variables_after text (variables_so_far heap old) t → Advances texts ops text t heap old new_heap new goes_on
  advances goes_on is steps after = record {
    token = token_of texts tok;
    seen = is;
    step = sym (steps ∙ ap (λ s. machine.step (named texts ops) s (token_of texts tok)) (machine_kept texts heap.terms mid.terms p old.frames.items old.state live.frames live.state));
    variables = after;
  }
