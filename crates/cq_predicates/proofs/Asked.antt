-- What bound arguments ask for: numbers and texts that are compared with counts and with parts.
use Rattle.std.proofs.Common.{◌≡◌, ℕ, ◌<◌, ◌^◌, ℤ, pos, negsuc, rules, subst, List, Bool, true, false, Option, Some, None, Result, Ok, Err, chars, encode_utf8_all, IsUtf8, refl, sym, ap, ◌∙◌, arith, inl, inr}
use Rattle.std.specs.Prelude.{bytes_eq, not, Vec, IfSome, IfOk}
use Rattle.std.specs.declared.alloc.Global.{Global}
use Rattle.std.specs.declared.cmp.Ordering.{Ordering}
use Rattle.std.specs.declared.cmp.Ordering.TheVariants.{Less, Equal, Greater}
use Rattle.std.proofs.lemmas.Bool.{cases_eq, eq-eqb, ne_eqb, false_from_ne_true}
use Rattle.std.proofs.lemmas.Str.{encodes-chars, encodes_same}
use Rattle.std.proofs.lemmas.Slice.Eq.{bytes_eq-Decides}
use Rattle.std.proofs.lemmas.Int.{to_z-of_z, ints}
use Rattle.std.specs.Prelude.{nat_abs}
use Rattle.std.specs.Int.{FitsUnsigned}
use lib.Signed.{◌≤ℤ◌}
use mir.Syntax.{w64, w128}
use mir.Val.{SFits, of_z, to_z}
use Rattle.spec_numbers.specs.Texts.{Text}
use Rattle.spec_numbers.specs.Rational.{ℚ, int_ℚ}
use Rattle.spec_numbers.proofs.RationalLemmas.{ℚ_same}
use Rattle.spec_terms.proofs.Rounded.{int_ℚ-is}
use Rattle.spec_terms.specs.Order.{compare_terms}
use Rattle.spec_terms.proofs.Orders.{compare_terms-equal, compare_terms-itself}
use Rattle.spec_terms.specs.Term.{Number, Name, named}
use Rattle.cq_term.specs.Texts.{text_of}
use Rattle.cq_term.specs.Meaning.{HeapTerm, at}
use Rattle.cq_term.specs.Trees.{tree}
use Rattle.spec_syntax.specs.Trees.{Tree, natural}
use Rattle.spec_builtins.specs.Alternatives.{Solutions, faults_if, same_term, allows, Same}
use Rattle.spec_builtins.specs.Kinds.{is_variable, is_name}
use Rattle.spec_builtins.specs.Errors.{instantiation, type_error}
use Rattle.cq_predicates.specs.Arguments.{IsAsked, IsAskedText, atom_tests}
use Rattle.cq_predicates.specs.declared.text.sought.Wanted.TheVariants as wanted

pub if_some : {A : Type 0} {P Q : A → Type 0} (o : Option A) → IfSome o P → ((x : A) → P x → Q x) → IfSome o Q
if_some None h f = tt
if_some (Some x) h f = f x h

pub if_ok : {A E : Type 0} {P Q : A → Type 0} (r : Result A E) → IfOk r P → ((x : A) → P x → Q x) → IfOk r Q
if_ok (Ok x) h f = f x h
if_ok (Err e) h f = tt

tied : (o : Ordering) → allows Same o ≡ true → o ≡ Equal
tied Less e = cc
tied Equal e = refl
tied Greater e = cc

same_means : (t u : Tree) → same_term t u ≡ true → t ≡ u
same_means t u e = compare_terms-equal t u (tied (compare_terms t u) e)

same_is : (t u : Tree) → t ≡ u → same_term t u ≡ true
same_is t u e = ap (allows Same) (compare_terms-itself t u e)

same_other : (t u : Tree) → (t ≡ u → ⊥) → same_term t u ≡ false
same_other t u n = false_from_ne_true (same_term t u) (λ e. n (same_means t u e))

-- ---- numbers

natural_is : (q : ℚ) (k : ℕ) → Number q ≡ natural k → (q.numerator ≡ pos k) × (q.below ≡ 0)
natural_is q k e =
    let same : q ≡ int_ℚ (pos k) = cc in
    let is = same ∙ int_ℚ-is (pos k) in
    (ap (λ x. x.numerator) is, ap (λ x. x.below) is)

is_natural : (q : ℚ) (n : ℕ) → q.numerator ≡ pos n → q.below ≡ 0 → Number q ≡ natural n
is_natural q n top bottom =
    let same : q ≡ int_ℚ (pos n) = ℚ_same q (int_ℚ (pos n)) (top ∙ sym (ap (λ x. x.numerator) (int_ℚ-is (pos n)))) (bottom ∙ sym (ap (λ x. x.below) (int_ℚ-is (pos n)))) in
    ap (λ (x : ℚ). Number x) same

pub asks_never : (q : ℚ) → ((k : ℕ) → k < 2 ^ 64 → q.numerator ≡ pos k → q.below ≡ 0 → ⊥) → IsAsked (Number q) wanted.Never
asks_never q n = record { same = λ k lt. same_other (Number q) (natural k) (λ e. (let h = natural_is q k e in n k lt h.0 h.1)) }

pub asks_count : (q : ℚ) (n : ℕ) → q.numerator ≡ pos n → q.below ≡ 0 → IsAsked (Number q) (wanted.Count n)
asks_count q n top bottom = record {
  same = λ k lt. elim (cases_eq n k) [
    | inl e ↦ same_is (Number q) (natural k) (is_natural q n top bottom ∙ ap natural e) ∙ sym (eq-eqb n k e)
    | inr other ↦ same_other (Number q) (natural k) (λ e. (let h = natural_is q k e in let same : n ≡ k = cc in other same)) ∙ sym (ne_eqb n k other)
  ];
}

-- ---- texts

pub asks_text : (a : Text) (v : Vec ℕ Global) → IsUtf8 a → v.items ≡ chars a → IsAskedText (Name a) (Some v)
asks_text a v text e = record { same = λ cs. by cs (bytes_eq v.items cs) refl }
  where
    by : (cs : List ℕ) (b : Bool) → bytes_eq v.items cs ≡ b → same_term (Name a) (Name (encode_utf8_all cs)) ≡ bytes_eq v.items cs
    by cs true t =
        let is : v.items ≡ cs = (bytes_eq-Decides v.items cs).0 t in
        same_is (Name a) (Name (encode_utf8_all cs)) (ap (λ x. Name x) (sym (encodes-chars a text) ∙ ap encode_utf8_all (sym e ∙ is))) ∙ sym t
    by cs false f =
        same_other (Name a) (Name (encode_utf8_all cs)) (λ d.
        (let same : a ≡ encode_utf8_all cs = cc in
        let is : chars a ≡ cs = encodes_same (chars a) cs (encodes-chars a text ∙ same) in
        let t = (bytes_eq-Decides v.items cs).1 (e ∙ is) in
        cc)) ∙ sym f

pub asks_name : (texts : List Text) (ts : List HeapTerm) (id name : ℕ) (a : Text) (v : Vec ℕ Global) → at ts id ≡ Name name → a ≡ text_of texts name → IsUtf8 a → v.items ≡ chars a
    → IsAskedText (tree texts ts id) (Some v)
asks_name texts ts id name a v e is text items =
    subst (λ (t : Tree). IsAskedText t (Some v)) (sym (ap (named (text_of texts)) e ∙ ap (λ x. Name x) (sym is))) (asks_text a v text items)

-- ---- signed numbers that were cast

fits_signed : (z : ℤ) → nat_abs z < 2 ^ 127 → SFits w128 z
fits_signed (pos n) h = record { sfits = omega (arith, h) }
fits_signed (negsuc n) h = record { sfits = omega (arith, h) }

pub uncast : (z q : ℤ) → z ≡ q → nat_abs q < 2 ^ 127 → to_z w128 (of_z w128 z) ≡ q
uncast z q e h = to_z-of_z w128 z (fits_signed z (subst (λ x. nat_abs x < 2 ^ 127) (sym e) h)) ∙ e

pub not_negative : (z : ℤ) (n : ℕ) → pos 0 ≤ℤ z → n ≡ nat_abs z → z ≡ pos n
not_negative (pos m) n h e = ap pos (sym e)
not_negative (negsuc m) n h e = absurd (omega (arith, ints, h))

pub fits_word : (k : ℕ) → k < 2 ^ 64 → FitsUnsigned w64 (pos k)
fits_word k h = search (rules, ints)

-- ---- tests that are passed

pub atom_passes : (texts : List Text) (ts : List HeapTerm) (id name : ℕ) → at ts id ≡ Name name → (rest : Solutions) → atom_tests ts id texts rest ≡ rest
atom_passes texts ts id name e rest = ap (λ t.
    faults_if (is_variable (named (text_of texts) t)) instantiation (
    faults_if (not (is_name (named (text_of texts) t))) (type_error "atom" (named (text_of texts) t)) rest)) e
