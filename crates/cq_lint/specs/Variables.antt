-- The variables of a clause, as they stand in a text.
use Rattle.std.specs.Prelude.{◌≡◌, ◌≢◌, ℕ, ◌<◌, ◌≤◌, Bool, true, false, List, [], ◌∷◌, ◌++◌, Ok, Err}
use Rattle.spec_syntax.specs.declared.grammar.Kind.{Kind}
use Rattle.spec_syntax.specs.declared.grammar.Kind.TheVariants as kind
use Rattle.spec_syntax.specs.declared.grammar.LexFault.{LexFault}
use Rattle.spec_syntax.specs.GrammarTokens.{Token, next_token, bytes_of}
use Rattle.cq_lint.specs.Named.{Named}

-- the token of this kind is the text's end
abbrev pub is_end : Kind → Bool
is_end kind.Eof = true
is_end k = false

-- the variable of a token
abbrev pub named_by : List ℕ → Token → Named
named_by text t = record { at = t.span.start; name = bytes_of text t.span }

abbrev pub one_of : Kind → Named → List Named
one_of kind.Variable v = v ∷ []
one_of k v = []

-- the variable that a token is, if it is one
abbrev pub variable_if : List ℕ → Token → List Named
variable_if text t = one_of t.kind (named_by text t)

module _ (text : List ℕ) (to : ℕ) where
  -- The variables that stand in a text from a place on, up to another place or to what is no token.
  pub data AreVariables : ℕ → List Named → Type 0 where
    none : {at : ℕ} → to ≤ at → AreVariables at []
    fault : {at : ℕ} {f : LexFault} → next_token text at ≡ Err f → AreVariables at []
    end : {at : ℕ} {t : Token} → next_token text at ≡ Ok t → t.kind ≡ kind.Eof → AreVariables at []
    next : {at : ℕ} {t : Token} {vs : List Named} → at < to → next_token text at ≡ Ok t → t.kind ≢ kind.Eof
        → AreVariables t.span.end vs → AreVariables at (variable_if text t ++ vs)
