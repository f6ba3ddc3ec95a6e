-- What the grammar sees of a token.
use Rattle.std.proofs.Common.{◌≡◌, ◌≢◌, ℕ, ◌≤◌, List, [], ◌∷◌, length, Option, Some, None, Ok, ◌⊎◌, inl, inr, refl, sym, ap, subst, ◌∙◌, arith}
use Rattle.std.specs.Prelude.{option_map, Result, Err, IfOk}
use Rattle.std.specs.declared.alloc.AllocError.{AllocError}
use Rattle.spec_numbers.specs.Texts.{Text}
use Rattle.spec_syntax.specs.declared.grammar.Kind.{Kind}
use Rattle.spec_syntax.specs.declared.grammar.Kind.TheVariants as kind
use Rattle.spec_syntax.specs.Laws.{Stands, IsNext}
use Rattle.spec_syntax.specs.GrammarTokens as lexical
use Rattle.spec_syntax.specs.GrammarTokens.{next_token, bytes_of}
use Rattle.spec_syntax.proofs.Tiles.{stands}
use Rattle.spec_syntax.proofs.Held.{next_in_quotes}
use Rattle.spec_syntax.proofs.Names.{word_utf8}
use Rattle.spec_syntax.specs.Tokens as grammar
use Rattle.spec_syntax.specs.TextTokens.{Variables, no_variables, with_variable, next_number, variables_after, bare_name, quoted_name, quoted_text, mark, seen}
use Rattle.spec_text.proofs.ReadingSeen.{end_or_seen, end_unseen}
use Rattle.cq_read.specs.declared.parse.tokens.Token.{Token}
use Rattle.cq_read.specs.Views.{token_of}
use Rattle.cq_read.specs.Tokens.{IsToken, IsOther}

none_some : {A : Type 0} {x : A} → (let o : Option A = None in o ≡ Some x) → ⊥
none_some e = cc

-- a token that comes next, and is not the text's end
pub is_token : (text : List ℕ) (at : ℕ) (t : lexical.Token) → at ≤ length text → next_token text at ≡ Ok t → t.kind ≢ kind.Eof → IsToken text t
is_token text at t fits e there =
    let n : IsNext text at t = subst (Stands text at) e (stands text at fits) in
    record {
      forward = omega (arith, n.takes there);
      within = n.within;
      word = word_utf8 text at t e;
      quotes = next_in_quotes text at t e;
      seen = λ variables. elim (end_or_seen text at variables t e) [ inl k ↦ absurd (there k) | inr found ↦ found ];
    }

module _ (text : List ℕ) (variables : Variables) (t : lexical.Token) where
  pub sees_name : t.kind ≡ kind.Name → seen text variables t ≡ Some (bare_name text t (bytes_of text t.span))
  sees_name k = rw k refl

  pub sees_quoted : t.kind ≡ kind.Quoted → seen text variables t ≡ Some (quoted_name text t (quoted_text text t))
  sees_quoted k = rw k refl

  pub sees_codes : t.kind ≡ kind.Codes → seen text variables t ≡ Some (grammar.Codes (quoted_text text t))
  sees_codes k = rw k refl

  pub sees_number : t.kind ≡ kind.Numeral → seen text variables t ≡ option_map grammar.Numeral t.number
  sees_number k = rw k refl

  pub sees_mark : t.kind ≡ kind.Punctuation → seen text variables t ≡ mark (bytes_of text t.span)
  sees_mark k = rw k refl

  -- only a variable changes the variables
  pub unchanged : (t.kind ≢ kind.Variable) → variables_after text variables t ≡ variables
  unchanged n = by t.kind refl
    where
      by : (k : Kind) → t.kind ≡ k → variables_after text variables t ≡ variables
      by kind.Name e = rw e refl
      by kind.Quoted e = rw e refl
      by kind.Codes e = rw e refl
      by kind.Variable e = absurd (n e)
      by kind.Numeral e = rw e refl
      by kind.Punctuation e = rw e refl
      by kind.End e = rw e refl
      by kind.Eof e = rw e refl

-- a numeral has a value, and punctuation is a mark
pub no_value : (text : List ℕ) (t : lexical.Token) → IsToken text t → t.kind ≡ kind.Numeral → t.number ≡ None → ⊥
no_value text t is k e = let found = is.seen no_variables in none_some (sym (sees_number text no_variables t k ∙ ap (option_map grammar.Numeral) e) ∙ found.1)

pub no_mark : (text : List ℕ) (t : lexical.Token) → IsToken text t → t.kind ≡ kind.Punctuation → mark (bytes_of text t.span) ≡ None → ⊥
no_mark text t is k e = let found = is.seen no_variables in none_some (sym (sees_mark text no_variables t k ∙ e) ∙ found.1)

pub no_other : (text : List ℕ) (t : lexical.Token) (k : Kind) → t.kind ≡ k → IsToken text t → IsOther k → k ≢ kind.Numeral → k ≢ kind.Punctuation → k ≢ kind.End → ⊥
no_other text t kind.Name e is o n p d = o
no_other text t kind.Quoted e is o n p d = o
no_other text t kind.Codes e is o n p d = o
no_other text t kind.Variable e is o n p d = o
no_other text t kind.Numeral e is o n p d = n refl
no_other text t kind.Punctuation e is o n p d = p refl
no_other text t kind.End e is o n p d = d refl
no_other text t kind.Eof e is o n p d = let found = is.seen no_variables in none_some (sym (end_unseen text no_variables t e) ∙ found.1)

mark_nothing : (bs : List ℕ) → length bs ≡ 0 → mark bs ≡ None
mark_nothing [] e = refl
mark_nothing (b ∷ bs) e = absurd (omega arith)

pub no_bytes : (text : List ℕ) (t : lexical.Token) → IsToken text t → t.kind ≡ kind.Punctuation → length (bytes_of text t.span) ≡ 0 → ⊥
no_bytes text t is k e = no_mark text t is k (mark_nothing (bytes_of text t.span) e)

-- the mark of the first byte
pub first_mark : (bs : List ℕ) (b first : ℕ) (tail : List ℕ) (o : Option grammar.Token) → bs ≡ first ∷ tail → first ≡ b → o ≡ mark (b ∷ tail) → mark bs ≡ o
first_mark bs b first tail o e same is = ap mark (e ∙ ap (λ x. x ∷ tail) same) ∙ sym is

-- a token that was made is seen as the one that it means
pub seen_if : (texts : List Text) (r : Result Token AllocError) (x : grammar.Token) (o : Option grammar.Token) → o ≡ Some x → IfOk r (λ tok. token_of texts tok ≡ x) → IfOk r (λ tok. o ≡ Some (token_of texts tok))
seen_if texts (Ok tok) x o e h = e ∙ ap (λ y. Some y) (sym h)
seen_if texts (Err error) x o e h = tt
