-- The names of a clause are numbered in the order in which they are read.
use Rattle.std.proofs.Common.{inl, inr, ℕ, suc, ◌+◌, ◌<◌, ◌≤◌, List, [], ◌∷◌, ◌++◌, map, Bool, true, false, Option, Some, None, cond, codes, bytes_eq, arith}
use Rattle.std.specs.Prelude.{⊤, All}
use Rattle.std.proofs.lemmas.List.Elements.{All-nil, All-cons}
use Rattle.spec_linear.specs.Echelon.{AreDistinct}
use Rattle.spec_linear.specs.Solution.{Has}
use Rattle.spec_numbers.specs.Texts.{Text}
use Rattle.spec_syntax.specs.declared.grammar.Kind.{Kind}
use Rattle.spec_syntax.specs.declared.grammar.Kind.TheVariants as kind
use Rattle.spec_syntax.specs.GrammarTokens as lexical
use Rattle.spec_syntax.specs.GrammarTokens.{bytes_of}
use Rattle.spec_syntax.specs.Operators.{Ops}
use Rattle.spec_syntax.specs.Tokens.{Token}
use Rattle.spec_syntax.specs.TextTokens.{VariableName, Variables, known, with_name, with_variable, variables_after}
use Rattle.spec_text.specs.Later.{name_later}
use Rattle.spec_text.specs.Readings as readings
use Rattle.spec_text.specs.Readings.{Read, Clause, Ended, Syntax, AreTokens, Reads}
use Rattle.cq_interpreter.specs.Numbered.{AreNumbered}

-- ---- numbers that ascend

lower : (k m n : ℕ) (vs : List VariableName) → k ≤ m → AreNumbered m vs n → AreNumbered k vs n
lower k m n [] h a = omega arith
lower k m n (v ∷ vs) h a = (omega (arith, a.0), a.1)

above : (m n : ℕ) (vs : List VariableName) → AreNumbered m vs n → m ≤ n
above m n [] a = a
above m n (v ∷ vs) a = let h = above (suc v.number) n vs a.1 in omega (arith, a.0)

higher : (m n k : ℕ) (vs : List VariableName) → n ≤ k → AreNumbered m vs n → AreNumbered m vs k
higher m n k [] h a = omega arith
higher m n k (v ∷ vs) h a = (a.0, higher (suc v.number) n k vs h a.1)

behind : (m n : ℕ) (name : Text) (vs : List VariableName) → AreNumbered m vs n → AreNumbered m (vs ++ record { name = name; number = n } ∷ []) (suc n)
behind m n name [] a = (a, omega arith)
behind m n name (v ∷ vs) a = (a.0, behind (suc v.number) n name vs a.1)

pub later : (k m n : ℕ) (vs : List VariableName) → AreNumbered m vs n → AreNumbered (k + m) (map (name_later k) vs) (k + n)
later k m n [] a = omega (arith, a)
later k m n (v ∷ vs) a =
    (omega (arith, a.0), lower (suc (k + v.number)) (k + suc v.number) (k + n) (map (name_later k) vs) (omega arith) (later k (suc v.number) n vs a.1))

pub all_below : (m n : ℕ) (vs : List VariableName) → AreNumbered m vs n → All (λ v. v.number < n) vs
all_below m n [] a = All-nil (λ (v : VariableName). v.number < n)
all_below m n (v ∷ vs) a =
    let h = above (suc v.number) n vs a.1 in
    All-cons (λ (x : VariableName). x.number < n) v vs (omega arith) (all_below (suc v.number) n vs a.1)

at_least : (m n x : ℕ) (vs : List VariableName) → AreNumbered m vs n → Has x (map (λ (v : VariableName). v.number) vs) → m ≤ x
at_least m n x (v ∷ vs) a (inl e) = omega (arith, a.0, e)
at_least m n x (v ∷ vs) a (inr h) = let k = at_least (suc v.number) n x vs a.1 h in omega (arith, a.0)
at_least m n x [] a h = absurd h

pub distinct : (m n : ℕ) (vs : List VariableName) → AreNumbered m vs n → AreDistinct (map (λ (v : VariableName). v.number) vs)
distinct m n [] a = tt
distinct m n (v ∷ vs) a = (λ h. let k = at_least (suc v.number) n v.number vs a.1 h in absurd (omega arith), distinct (suc v.number) n vs a.1)

-- ---- reading

abbrev Numbered : Variables → Type 0
Numbered vs = AreNumbered 0 vs.names vs.count

named_next : (vs : Variables) (name : Text) (b : Bool) → Numbered vs
    → AreNumbered 0 (cond b vs.names (vs.names ++ record { name = name; number = vs.count } ∷ [])) (suc vs.count)
named_next vs name true a = higher 0 vs.count (suc vs.count) vs.names (omega arith) a
named_next vs name false a = behind 0 vs.count name vs.names a

known_or_next : (vs : Variables) (name : Text) (o : Option ℕ) → Numbered vs
    → Numbered (elim o [ Some number ↦ vs | None ↦ record { names = with_name vs name; count = suc vs.count } ])
known_or_next vs name (Some number) a = a
known_or_next vs name None a = named_next vs name (bytes_eq name (codes "_")) a

by_kind : (vs : Variables) (name : Text) (k : Kind) → Numbered vs → Numbered (elim k [
  | kind.Variable ↦ with_variable vs name
  | kind.Name ↦ vs
  | kind.Quoted ↦ vs
  | kind.Codes ↦ vs
  | kind.Numeral ↦ vs
  | kind.Punctuation ↦ vs
  | kind.End ↦ vs
  | kind.Eof ↦ vs
])
by_kind vs name kind.Variable a = known_or_next vs name (known vs name) a
by_kind vs name kind.Name a = a
by_kind vs name kind.Quoted a = a
by_kind vs name kind.Codes a = a
by_kind vs name kind.Numeral a = a
by_kind vs name kind.Punctuation a = a
by_kind vs name kind.End a = a
by_kind vs name kind.Eof a = a

after_token : (text : List ℕ) (vs : Variables) (t : lexical.Token) → Numbered vs → Numbered (variables_after text vs t)
after_token text vs t a = by_kind vs (bytes_of text t.span) t.kind a

after_tokens : {text : List ℕ} {at to : ℕ} {vs ws : Variables} {toks : List Token} → AreTokens text at vs toks to ws → Numbered vs → Numbered ws
after_tokens readings.none a = a
after_tokens {text} (readings.next {variables = vs} {t = t} e f rest) a = after_tokens rest (after_token text vs t a)

abbrev ReadNumbered : Read → Type 0
ReadNumbered (Clause tree vs next) = Numbered vs
ReadNumbered Ended = ⊤
ReadNumbered (Syntax at resume) = ⊤

pub read_numbered : {ops : Ops} {text : List ℕ} {at : ℕ} {r : Read} → Reads ops text at r → ReadNumbered r
read_numbered (readings.ended e f) = tt
read_numbered (readings.clause toks p) = after_tokens toks (omega arith)
read_numbered (readings.refused a b c d e) = tt
read_numbered (readings.fault a b c d) = tt
read_numbered (readings.cut a b c d) = tt
