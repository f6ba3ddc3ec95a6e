-- Members as they are found, one after another, and what a list says of them.
use Rattle.std.proofs.Common.{◌≡◌, ◌<◌, ℕ, zero, suc, ◌+◌, List, [], ◌∷◌, ◌++◌, map, length, take, get_or, Bool, true, false, cond, Option, None, Some, refl, sym, ap, ap₂, ◌∙◌, subst, inl, inr, arith}
use Rattle.std.specs.Prelude.{find, All, Any, Contains, MatchBool}
use Rattle.std.specs.List.{AllByRecursion}
use Rattle.std.proofs.lemmas.List.{map-append, take_more}
use Rattle.std.proofs.lemmas.List.Elements.{recursion_from_All, Contains-get_or}
use Rattle.spec_numbers.specs.Rational.{ℚ}
use Rattle.spec_linear.specs.Solution.{Constraint, Has}
use Rattle.spec_numbers.specs.Texts.{Text}
use Rattle.spec_syntax.specs.Trees.{Tree}
use Rattle.spec_branch.specs.Relations.{Lin, Is, Waits, lin}
use Rattle.spec_search.specs.Steps.{waits, is_not_linear, IsEntailed, IsBroken, AllEntailed}
use Rattle.cq_term.specs.Meaning.{HeapTerm}
use Rattle.cq_term.specs.Trees.{tree, trees}
use Rattle.cq_questions.specs.declared.members.Member.{Member}
use Rattle.cq_questions.specs.declared.members.Member.TheVariants as member
use Rattle.cq_questions.specs.declared.entailment.Entailment.{Entailment}
use Rattle.cq_questions.specs.declared.entailment.Entailment.TheVariants as entailment
use Rattle.cq_questions.specs.Members.{lin_of, AsksOne, AreEntailed, IsOneBroken, IsAnswer}

waits_not : (m : Member) → waits (lin_of m) ≡ false
waits_not (member.Linear c) = refl
waits_not member.False = refl

-- what was found of the terms so far
abbrev pub AreFound : (ℕ → Option ℚ) → List Tree → List Member → Type 0
AreFound fixed ts ms = map (lin fixed) ts ≡ map lin_of ms

module _ (fixed : ℕ → Option ℚ) where
  passes : (t : Tree) (m : Member) (o : Option Tree) → lin fixed t ≡ lin_of m → cond (is_not_linear fixed t) (Some t) o ≡ o
  passes t m o h = ap (λ (b : Bool). cond b (Some t) o) (ap waits h ∙ waits_not m)

  none_waits : (ts : List Tree) (ms : List Member) → AreFound fixed ts ms → find (is_not_linear fixed) ts ≡ None
  none_waits [] ms e = refl
  none_waits (t ∷ ts) [] e = cc
  none_waits (t ∷ ts) (m ∷ ms) e =
      let h : lin fixed t ≡ lin_of m = cc in
      let r : map (lin fixed) ts ≡ map lin_of ms = cc in
      passes t m (find (is_not_linear fixed) ts) h ∙ none_waits ts ms r

  -- ---- where members are found

  module _ (texts : List Text) (us : List HeapTerm) where
    pub first_waits : (ids : List ℕ) (i d : ℕ) → i < length ids → (ms : List Member) → AreFound fixed (trees texts us (take i ids)) ms
        → lin fixed (tree texts us (get_or ids i d)) ≡ Waits → find (is_not_linear fixed) (trees texts us ids) ≡ Some (tree texts us (get_or ids i d))
    first_waits [] i d lt ms e w = absurd (omega (arith, lt))
    first_waits (x ∷ ids) zero d lt ms e w = ap (λ (b : Bool). cond b (Some (tree texts us x)) (find (is_not_linear fixed) (trees texts us ids))) (ap waits w)
    first_waits (x ∷ ids) (suc i) d lt [] e w = cc
    first_waits (x ∷ ids) (suc i) d lt (m ∷ ms) e w =
        let h : lin fixed (tree texts us x) ≡ lin_of m = cc in
        let r : map (lin fixed) (trees texts us (take i ids)) ≡ map lin_of ms = cc in
        passes (tree texts us x) m (find (is_not_linear fixed) (trees texts us ids)) h ∙ first_waits ids i d (omega (arith, lt)) ms r w

    pub found_more : (ids : List ℕ) (i d : ℕ) → i < length ids → (ms : List Member) → AreFound fixed (trees texts us (take i ids)) ms
        → (m : Member) → lin fixed (tree texts us (get_or ids i d)) ≡ lin_of m → AreFound fixed (trees texts us (take (i + 1) ids)) (ms ++ m ∷ [])
    found_more ids i d lt ms e m h =
        let x = get_or ids i d in
        ap (λ (k : List ℕ). map (lin fixed) (trees texts us k)) (take_more ids i d lt)
        ∙ ap (map (lin fixed)) (map-append (tree texts us) (take i ids) (x ∷ []))
        ∙ map-append (lin fixed) (trees texts us (take i ids)) (tree texts us x ∷ [])
        ∙ ap₂ (λ (a : List (Lin Constraint)) (b : Lin Constraint). a ++ b ∷ []) e h
        ∙ sym (map-append lin_of ms (m ∷ []))

  -- ---- what the list says of them

  module _ (l : List Constraint) where
    each_entailed : (ts : List Tree) (ms : List Member) → AreFound fixed ts ms → AllByRecursion (λ m. IsEntailed l (lin_of m)) ms → AllEntailed l fixed ts
    each_entailed [] ms e h = tt
    each_entailed (t ∷ ts) [] e h = cc
    each_entailed (t ∷ ts) (m ∷ ms) e h =
        let i : lin fixed t ≡ lin_of m = cc in
        let r : map (lin fixed) ts ≡ map lin_of ms = cc in
        (subst (IsEntailed l) (sym i) h.0, each_entailed ts ms r h.1)

    pub are_entailed : (ts : List Tree) (ms : List Member) → AreFound fixed ts ms → All (λ m. IsEntailed l (lin_of m)) ms → AreEntailed l fixed ts
    are_entailed ts ms e h = record { linear = none_waits ts ms e; each = each_entailed ts ms e (recursion_from_All (λ m. IsEntailed l (lin_of m)) ms h) }

  -- the term of a member
  pub term_of : (ts : List Tree) (ms : List Member) → AreFound fixed ts ms → (k : ℕ) (d : Member) → k < length ms
      → (t : Tree) × Has t ts × (lin fixed t ≡ lin_of (get_or ms k d))
  term_of ts [] e k d lt = absurd (omega (arith, lt))
  term_of [] (m ∷ ms) e k d lt = cc
  term_of (t ∷ ts) (m ∷ ms) e zero d lt =
      let h : lin fixed t ≡ lin_of m = cc in
      (t, inl refl, h)
  term_of (t ∷ ts) (m ∷ ms) e (suc k) d lt =
      let r : map (lin fixed) ts ≡ map lin_of ms = cc in
      let u = term_of ts ms r k d (omega (arith, lt)) in
      (u.0, inr u.1, u.2)

  pub one_broken : (l : List Constraint) (ts : List Tree) (ms : List Member) → AreFound fixed ts ms → Any (λ m. IsBroken l (lin_of m)) ms → IsOneBroken l fixed ts
  one_broken l ts ms e b =
      let u = term_of ts ms e b.0 b.1 b.2 in
      record {
        linear = none_waits ts ms e;
        member = u.0;
        among = u.1;
        broken = subst (IsBroken l) (sym (u.2 ∙ ap lin_of b.3)) b.4;
      }

  pub asked_term : (ts : List Tree) (ms : List Member) → AreFound fixed ts ms → (c : Constraint) → Contains ms (member.Linear c) → (t : Tree) × Has t ts × (lin fixed t ≡ Is c)
  asked_term ts ms e c h = (let u = term_of ts ms e h.0 (member.Linear c) h.1 in (u.0, u.1, u.2 ∙ ap lin_of h.2))

-- ---- one of them is asked about

only_one : (m x : Member) (k : ℕ) → k < 1 → get_or (m ∷ []) k x ≡ x → m ≡ x
only_one m x zero lt e = e
only_one m x (suc k) lt e = absurd (omega (arith, lt))

pub asks_among : (ms : List Member) (i : ℕ) (m : Member) → i < length ms → m ≡ get_or ms i m → (P Q : Constraint → Type 0) → ((c : Constraint) → P c → Q c)
    → AsksOne (m ∷ []) P → AsksOne ms Q
asks_among ms i m within is P Q more a =
    let e : m ≡ member.Linear a.constraint = only_one m (member.Linear a.constraint) a.among.0 a.among.1 a.among.2 in
    record {
      constraint = a.constraint;
      among = subst (λ (x : Member). Contains ms x) (sym is ∙ e) (Contains-get_or ms i m within);
      holds = more a.constraint a.holds;
    }

-- the answer where no member waits
pub answer_of : (texts : List Text) (us : List HeapTerm) (l : List Constraint) (fixed : ℕ → Option ℚ) (ts : List Tree) (ms : List Member) → AreFound fixed ts ms
    → (yes : Bool) (r : Entailment) → MatchBool yes (All (λ m. IsEntailed l (lin_of m)) ms) (Any (λ m. IsBroken l (lin_of m)) ms)
    → MatchBool yes (r ≡ entailment.Entailed) (r ≡ entailment.Broken) → IsAnswer texts us l fixed ts r
answer_of texts us l fixed ts ms found true r h e = subst (λ (x : Entailment). IsAnswer texts us l fixed ts x) (sym e) (are_entailed fixed l ts ms found h)
answer_of texts us l fixed ts ms found false r h e = subst (λ (x : Entailment). IsAnswer texts us l fixed ts x) (sym e) (one_broken fixed l ts ms found h)

-- a term of the list
pub has_tree : (texts : List Text) (us : List HeapTerm) (ids : List ℕ) (i d : ℕ) → i < length ids → Has (tree texts us (get_or ids i d)) (trees texts us ids)
has_tree texts us [] i d lt = absurd (omega (arith, lt))
has_tree texts us (x ∷ ids) zero d lt = inl refl
has_tree texts us (x ∷ ids) (suc i) d lt = inr (has_tree texts us ids i d (omega (arith, lt)))
