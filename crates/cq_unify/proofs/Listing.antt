-- The list of a term's variables, by the terms that are still to be visited.
use Rattle.std.proofs.Common.{◌≡◌, ℕ, List, [], ◌∷◌, ◌++◌, map, reverse, get_or, Bool, true, false, cond, if◌then◌else◌, nat_eq, refl, ap, sym, ◌∙◌, inl, inr}
use Rattle.std.specs.Prelude.{All, Contains, ◌⊎◌}
use Rattle.std.specs.List.{list_any}
use Rattle.std.proofs.lemmas.List.{reverse-append}
use Rattle.std.proofs.lemmas.Bool.{eq-eqb, eqb-true}
use Rattle.std.proofs.lemmas.List.Folds.{list_any_at}
use Rattle.std.proofs.lemmas.List.Elements.{All-push, Contains-append_left}
use Rattle.indexmap.specs.IndexSet.{insert_key}
use Rattle.indexmap.proofs.CallerLemmas.{Contains-insert_key}
use Rattle.spec_numbers.specs.Rational.{ℚ}
use Rattle.spec_terms.specs.Term.{Terms, Var, Number, Name, Compound, one, more, list_of, Occurs, OccursIn}
use Rattle.spec_terms.specs.Variables.{with_variable, variables_after, variables_in}
use Rattle.cq_term.specs.Meaning.{HeapTerm, at}
use Rattle.cq_term.specs.Shown.{view_of, arguments}
use Rattle.cq_term.specs.declared.view.View.{View}
use Rattle.cq_term.specs.declared.view.View.TheVariants as view
use Rattle.cq_frac.specs.declared.VarId.{VarId}
use Rattle.cq_term.specs.Arguments.{PushesArguments}
use Rattle.cq_term.proofs.WalkArguments.{terms_pop, terms_push}
use Rattle.cq_unify.specs.Listing.{variables_through}

through-append : (vs : List ℕ) (ts us : List HeapTerm) → variables_through vs (ts ++ us) ≡ variables_through (variables_through vs us) ts
through-append vs [] us = refl
through-append vs (t ∷ ts) us = ap (λ ws. variables_after ws t) (through-append vs ts us)

through-reverse : (vs : List ℕ) (us : Terms ℕ) → variables_through vs (reverse (list_of us)) ≡ variables_in vs us
through-reverse vs (one t) = refl
through-reverse vs (more t us) = ap (variables_through vs) (reverse-append (t ∷ []) (list_of us)) ∙ through-append vs (reverse (list_of us)) (t ∷ []) ∙ through-reverse (variables_after vs t) us

-- the arguments of a compound in place of the compound
through_arguments : (vs : List ℕ) (t : HeapTerm) (f n : ℕ) → view_of t ≡ view.Compound f n → variables_through vs (reverse (arguments t)) ≡ variables_after vs t
through_arguments vs (Var v) f n e = cc
through_arguments vs (Number q) f n e = cc
through_arguments vs (Name a) f n e = cc
through_arguments vs (Compound g us) f n e = through-reverse vs us

through_pop : (ts : List HeapTerm) (vs old work : List ℕ) (id : ℕ) → old ≡ work ++ id ∷ [] → variables_through vs (map (at ts) old) ≡ variables_through (variables_after vs (at ts id)) (map (at ts) work)
through_pop ts vs old work id e =
    ap (variables_through vs) (terms_pop ts old work id e)
    ∙ through-append vs (map (at ts) work) (at ts id ∷ [])

-- a term is visited that changes the variables seen so far as it has to
pub through_visit : (ts : List HeapTerm) (vs ws old work : List ℕ) (id : ℕ) → old ≡ work ++ id ∷ [] → ws ≡ variables_after vs (at ts id) → variables_through ws (map (at ts) work) ≡ variables_through vs (map (at ts) old)
through_visit ts vs ws old work id e seen = ap (λ us. variables_through us (map (at ts) work)) seen ∙ sym (through_pop ts vs old work id e)

pub through_push : (ts : List HeapTerm) (vs old work new : List ℕ) (id f n : ℕ) → old ≡ work ++ id ∷ [] → view_of (at ts id) ≡ view.Compound f n → PushesArguments ts (at ts id) 0 work new →
    variables_through vs (map (at ts) new) ≡ variables_through vs (map (at ts) old)
through_push ts vs old work new id f n e shown p =
    ap (variables_through vs) (terms_push ts (at ts id) work new p)
    ∙ through-append vs (map (at ts) work) (reverse (arguments (at ts id)))
    ∙ ap (λ ws. variables_through ws (map (at ts) work)) (through_arguments vs (at ts id) f n shown)
    ∙ sym (through_pop ts vs old work id e)

-- a number and a name have no variables
pub none_in_constant : (vs : List ℕ) (t : HeapTerm) (shown : View) → ((q : ℚ) × (shown ≡ view.Number q)) ⊎ ((a : ℕ) × (shown ≡ view.Name a)) → shown ≡ view_of t → variables_after vs t ≡ vs
none_in_constant vs (Number p) shown h e = refl
none_in_constant vs (Name b) shown h e = refl
none_in_constant vs (Var v) shown h e = elim h [ inl k ↦ (let d = k.1 in cc) | inr k ↦ (let d = k.1 in cc) ]
none_in_constant vs (Compound g us) shown h e = elim h [ inl k ↦ (let d = k.1 in cc) | inr k ↦ (let d = k.1 in cc) ]

-- ---- variables that are on the list
with_known : (vs : List ℕ) (v : ℕ) → Contains vs v → with_variable vs v ≡ vs
with_known vs v known =
    let e : list_any (λ w. nat_eq w v) vs ≡ true = list_any_at (λ w. nat_eq w v) vs known.0 v known.1 (eq-eqb (get_or vs known.0 v) v known.2) in
    ap (λ b. cond b vs (vs ++ v ∷ [])) e

pub with_last : (vs : List ℕ) (v : ℕ) → Contains (with_variable vs v) v
with_last vs v = Contains-insert_key (λ a b. nat_eq b a) (λ a b e. sym (eqb-true b a e)) vs v

pub with_kept : (vs : List ℕ) (v w : ℕ) → Contains vs w → Contains (with_variable vs v) w
with_kept vs v w known = go (list_any (λ x. nat_eq x v) vs)
  where
    go : (b : Bool) → Contains (cond b vs (vs ++ v ∷ [])) w
    go true = known
    go false = Contains-append_left vs (v ∷ []) w known

-- a term whose variables are all on the list adds none
mutual
  after_known : (vs : List ℕ) (t : HeapTerm) → ((v : ℕ) → Occurs v t → Contains vs v) → variables_after vs t ≡ vs
  after_known vs (Var v) known = with_known vs v (known v refl)
  after_known vs (Number q) known = refl
  after_known vs (Name a) known = refl
  after_known vs (Compound f ts) known = in_known vs ts known

  in_known : (vs : List ℕ) (ts : Terms ℕ) → ((v : ℕ) → OccursIn v ts → Contains vs v) → variables_in vs ts ≡ vs
  in_known vs (one t) known = after_known vs t known
  in_known vs (more t ts) known = ap (λ ws. variables_in ws ts) (after_known vs t (λ v o. known v (inl o))) ∙ in_known vs ts (λ v o. known v (inr o))

pub through_known : (ts : List HeapTerm) (vs old work : List ℕ) (id : ℕ) → old ≡ work ++ id ∷ [] → ((v : ℕ) → Occurs v (at ts id) → Contains vs v) → variables_through vs (map (at ts) work) ≡ variables_through vs (map (at ts) old)
through_known ts vs old work id e known = through_visit ts vs vs old work id e (sym (after_known vs (at ts id) known))

-- ---- what holds of each variable of a set and of one more
pub all_insert_key : (eq : VarId → VarId → Bool) (P : VarId → Type 0) (ks : List VarId) (v : VarId) → All P ks → P v → All P (insert_key eq ks v)
all_insert_key eq P ks v all p = go (list_any (eq v) ks)
  where
    go : (b : Bool) → All P (if b then ks else ks ++ v ∷ [])
    go true = all
    go false = All-push P ks v all p
