-- The names of a clause's variables have different numbers, and so they have counted on from any number.
use Rattle.std.proofs.Common.{◌≡◌, ◌⊎◌, inl, inr, ℕ, suc, ◌+◌, ◌<◌, List, [], ◌∷◌, ◌++◌, Bool, true, false, cond, Option, Some, None, map, arith, refl, sym, subst}
use Rattle.std.specs.Prelude.{codes, bytes_eq}
use Rattle.spec_numbers.specs.Texts.{Text}
use Rattle.spec_linear.specs.Solution.{Has}
use Rattle.spec_linear.specs.Echelon.{AreDistinct}
use Rattle.spec_syntax.specs.Operators.{Ops}
use Rattle.spec_syntax.specs.declared.grammar.Kind.{Kind}
use Rattle.spec_syntax.specs.declared.grammar.Kind.TheVariants as kind
use Rattle.spec_syntax.specs.GrammarTokens as lexical
use Rattle.spec_syntax.specs.GrammarTokens.{bytes_of}
use Rattle.spec_syntax.specs.Tokens.{Token}
use Rattle.spec_syntax.specs.Trees.{Tree}
use Rattle.spec_syntax.specs.TextTokens.{VariableName, Variables, known, with_name, with_variable, variables_after}
use Rattle.spec_text.specs.Readings.{AreTokens, none, next, Read, Clause, Reads, ended, clause, refused, fault, cut}
use Rattle.spec_text.specs.Later.{name_later, variables_later}
use Rattle.spec_existence.specs.Existing.{AreNumbered}

abbrev pub numbers : List VariableName → List ℕ
numbers names = map (λ n. n.number) names

-- the numbers are different, and below the count
pub record AreCounted (vs : Variables) : Type 0 where
  pub distinct : AreDistinct (numbers vs.names)
  pub below : (x : ℕ) → Has x (numbers vs.names) → x < vs.count

-- ---- one more name

has_last : (names : List VariableName) (v : VariableName) (x : ℕ) → Has x (numbers (names ++ v ∷ [])) → Has x (numbers names) ⊎ (x ≡ v.number)
has_last [] v x (inl e) = inr e
has_last [] v x (inr h) = absurd h
has_last (n ∷ names) v x (inl e) = inl (inl e)
has_last (n ∷ names) v x (inr h) = elim (has_last names v x h) [ inl k ↦ inl (inr k) | inr e ↦ inr e ]

distinct_last : (names : List VariableName) (v : VariableName) → AreDistinct (numbers names) → (Has v.number (numbers names) → ⊥) → AreDistinct (numbers (names ++ v ∷ []))
distinct_last [] v d n = ((λ h. h), tt)
distinct_last (m ∷ names) v d n = (
  (λ h. elim (has_last names v m.number h) [ inl k ↦ d.0 k | inr e ↦ n (inl (sym e)) ]),
  distinct_last names v d.1 (λ h. n (inr h)),
)

named_or_not : (vs : Variables) (b : Bool) (v : VariableName) → v.number ≡ vs.count → AreCounted vs
    → AreCounted (record { names = cond b vs.names (vs.names ++ v ∷ []); count = suc vs.count })
named_or_not vs true v e h = record { distinct = h.distinct; below = λ x i. (let k : x < vs.count = h.below x i in omega (arith, k)) }
named_or_not vs false v e h = record {
  distinct = distinct_last vs.names v h.distinct (λ i. (let k : v.number < vs.count = h.below v.number i in omega (arith, k, e)));
  below = λ x i. by x (has_last vs.names v x i);
}
  where
    by : (x : ℕ) → Has x (numbers vs.names) ⊎ (x ≡ v.number) → x < suc vs.count
    by x (inl i) = let k : x < vs.count = h.below x i in omega (arith, k)
    by x (inr d) = omega (arith, d, e)

known_or_new : (vs : Variables) (name : Text) (o : Option ℕ) → AreCounted vs
    → AreCounted (elim o [ Some n ↦ vs | None ↦ record { names = with_name vs name; count = suc vs.count } ])
known_or_new vs name (Some n) h = h
known_or_new vs name None h = named_or_not vs (bytes_eq name (codes "_")) (record { name = name; number = vs.count }) refl h

after_token : (text : List ℕ) (vs : Variables) (t : lexical.Token) → AreCounted vs → AreCounted (variables_after text vs t)
after_token text vs t h = by t.kind
  where
    by : (k : Kind) → AreCounted (elim k [
      | kind.Variable ↦ with_variable vs (bytes_of text t.span)
      | kind.Name ↦ vs
      | kind.Quoted ↦ vs
      | kind.Codes ↦ vs
      | kind.Numeral ↦ vs
      | kind.Punctuation ↦ vs
      | kind.End ↦ vs
      | kind.Eof ↦ vs
    ])
    by kind.Variable = known_or_new vs (bytes_of text t.span) (known vs (bytes_of text t.span)) h
    by kind.Name = h
    by kind.Quoted = h
    by kind.Codes = h
    by kind.Numeral = h
    by kind.Punctuation = h
    by kind.End = h
    by kind.Eof = h

tokens_counted : (text : List ℕ) {at to : ℕ} {vs later : Variables} {toks : List Token} → AreTokens text at vs toks to later → AreCounted vs → AreCounted later
tokens_counted text none h = h
tokens_counted text (next {variables = vs} {t = t} e f rest) h = tokens_counted text rest (after_token text vs t h)

abbrev Counts : Read → Type 0
Counts r = (tree : Tree) (vs : Variables) (to : ℕ) → r ≡ Clause tree vs to → AreCounted vs

read_counted : (ops : Ops) (text : List ℕ) (at : ℕ) (r : Read) → Reads ops text at r → Counts r
read_counted ops text at r (ended h k) tree vs to e = cc
read_counted ops text at r (clause {variables = ws} h k) tree vs to e =
    let d : ws ≡ vs = cc in
    subst AreCounted d (tokens_counted text h (record { distinct = tt; below = λ x i. absurd i }))
read_counted ops text at r (refused h k l m n) tree vs to e = cc
read_counted ops text at r (fault h k l m) tree vs to e = cc
read_counted ops text at r (cut h k l m) tree vs to e = cc

-- ---- counted on

has_later : (base : ℕ) (names : List VariableName) (x : ℕ) → Has x (numbers (map (name_later base) names)) → (y : ℕ) × Has y (numbers names) × (x ≡ base + y)
has_later base [] x h = absurd h
has_later base (n ∷ names) x (inl e) = (n.number, inl refl, e)
has_later base (n ∷ names) x (inr h) = let r = has_later base names x h in (r.0, inr r.1, r.2)

distinct_later : (base : ℕ) (names : List VariableName) → AreDistinct (numbers names) → AreDistinct (numbers (map (name_later base) names))
distinct_later base [] d = tt
distinct_later base (n ∷ names) d = (
  (λ h.
      let r = has_later base names (base + n.number) h in
      let same : n.number ≡ r.0 = (let e : base + n.number ≡ base + r.0 = r.2 in omega (arith, e)) in
      d.0 (subst (λ x. Has x (numbers names)) (sym same) r.1)),
  distinct_later base names d.1,
)

pub clause_numbered : (ops : Ops) (text : List ℕ) (at base : ℕ) (tree : Tree) (vs : Variables) (to : ℕ) → Reads ops text at (Clause tree vs to)
    → AreNumbered (variables_later base vs).names
clause_numbered ops text at base tree vs to h = distinct_later base vs.names (read_counted ops text at (Clause tree vs to) h tree vs to refl).distinct
