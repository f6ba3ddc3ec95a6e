-- The tokens of a text, as the grammar sees them.
use Rattle.std.specs.Prelude.{ℕ, zero, suc, ◌&&◌, ◌==◌, drop, length, Bool, true, false, if◌then◌else◌, List, [], ◌∷◌, Option, Some, None, option_map, Ok, Err, codes, bytes_eq}
use Rattle.spec_numbers.specs.Texts.{Text}
use Rattle.spec_syntax.specs.declared.grammar.Kind.TheVariants as kind
use Rattle.spec_syntax.specs.GrammarTokens as lexical
use Rattle.spec_syntax.specs.GrammarTokens.{next_token, opens_directly, digit_directly, bytes_of, quotes_at, meant}
use Rattle.spec_syntax.specs.Tokens.{Token, Variable, Numeral, Codes, Named, Functor, Minus, Open, Close, OpenList, CloseList, OpenCurly, CloseCurly, Comma, Bar, End}
pub use Rattle.spec_terms.specs.VariableName.{VariableName, Variables, no_variables, number_of, known, next_number, with_name}

-- ---- variables

-- the variables with the one that is written next
abbrev pub with_variable : Variables → Text → Variables
with_variable variables name = elim (known variables name) [
  | Some number ↦ variables
  | None ↦ record { names = with_name variables name; count = suc variables.count }
]

-- the variables behind a token
abbrev pub variables_after : List ℕ → Variables → lexical.Token → Variables
variables_after text variables t = elim t.kind [
  | kind.Variable ↦ with_variable variables (bytes_of text t.span)
  | kind.Name ↦ variables
  | kind.Quoted ↦ variables
  | kind.Codes ↦ variables
  | kind.Numeral ↦ variables
  | kind.Punctuation ↦ variables
  | kind.End ↦ variables
  | kind.Eof ↦ variables
]

-- ---- tokens

-- a name without quotes
abbrev pub bare_name : List ℕ → lexical.Token → Text → Token
bare_name text t name =
    if opens_directly text t then Functor name
    else if bytes_eq name (codes "-") && digit_directly text t then Minus
    else Named name false

-- a name in quotes
abbrev pub quoted_name : List ℕ → lexical.Token → Text → Token
quoted_name text t name = if opens_directly text t then Functor name else Named name true

-- ( ) [ ] { } , |
abbrev pub mark : Text → Option Token
mark [] = None
mark (b ∷ bs) =
    if b == 40 then Some Open else if b == 41 then Some Close
    else if b == 91 then Some OpenList else if b == 93 then Some CloseList
    else if b == 123 then Some OpenCurly else if b == 125 then Some CloseCurly
    else if b == 44 then Some Comma else if b == 124 then Some Bar
    else None

-- what a token in quotes means
abbrev pub quoted_text : List ℕ → lexical.Token → Text
quoted_text text t = meant (quotes_at (drop t.span.start text) t.span.start)

-- a token as the grammar sees it, behind these variables; the text's end is none
abbrev pub seen : List ℕ → Variables → lexical.Token → Option Token
seen text variables t = elim t.kind [
  | kind.Name ↦ Some (bare_name text t (bytes_of text t.span))
  | kind.Quoted ↦ Some (quoted_name text t (quoted_text text t))
  | kind.Codes ↦ Some (Codes (quoted_text text t))
  | kind.Variable ↦ Some (Variable (next_number variables (bytes_of text t.span)))
  | kind.Numeral ↦ option_map Numeral t.number
  | kind.Punctuation ↦ mark (bytes_of text t.span)
  | kind.End ↦ Some End
  | kind.Eof ↦ None
]

-- the token ends a clause
abbrev pub is_end : Token → Bool
is_end End = true
is_end tok = false

-- ---- the tokens of a clause

-- The tokens from a place of the text on, up to the first end token and with it; none where a fault or the text's end comes
-- first. Each has one byte at least, so the fuel may be one more than the text is long.
abbrev pub tokens_from : ℕ → List ℕ → Variables → ℕ → Option (List Token)
tokens_from zero text variables at = None
tokens_from (suc fuel) text variables at = elim (next_token text at) [
  | Err f ↦ None
  | Ok t ↦ elim (seen text variables t) [
    | None ↦ None
    | Some tok ↦ if is_end tok then Some (tok ∷ []) else option_map (λ ts. tok ∷ ts) (tokens_from fuel text (variables_after text variables t) t.span.end)
  ]
]

-- the tokens of the clause that a text begins with
abbrev pub clause_tokens : List ℕ → Option (List Token)
clause_tokens text = tokens_from (suc (length text)) text no_variables 0
