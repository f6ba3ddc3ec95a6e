-- Which substitutions solve the pairs that are left, as pairs come and go.
use Rattle.std.proofs.Common.{◌≡◌, ℕ, List, [], ◌∷◌, ◌++◌, length, reverse, ap, sym, subst, arith}
use Rattle.std.specs.Prelude.{All, ◌↔◌}
use Rattle.std.proofs.lemmas.List.{reverse-append}
use Rattle.spec_terms.specs.Term.{Subst, Var, Number, Name, Compound, one, more, count, list_of, apply, apply_all, Terms}
use Rattle.spec_terms.specs.Unifier.{Equation, Equates, HasNoUnifier}
use Rattle.cq_term.specs.Meaning.{HeapTerm, at}
use Rattle.cq_term.specs.HeapValue.{Terms as HeapTerms}
use Rattle.cq_term.specs.Shown.{arguments}
use Rattle.cq_frac.specs.declared.VarId.{VarId}
use Rattle.cq_term.specs.Pairs.{IsLive, equation_of, equations, HaveSameFunctor, pairwise, PushesPairs}
use Rattle.cq_term.specs.declared.walk.pairs.Pair.{Pair}
use Rattle.cq_term.proofs.SideBySide.{equations_pop, equations_push, live_pop, live_push}
use Rattle.cq_unify.specs.Work.{Demands, Narrowed}
use Rattle.cq_unify.specs.declared.pairs.Demand.TheVariants as demand
use Rattle.cq_unify.specs.declared.pairs.Step.TheVariants as step

-- ---- lists of equations
equates-append : (s : Subst ℕ) (ds es : List (Equation ℕ)) → Equates s (ds ++ es) ↔ (Equates s ds × Equates s es)
equates-append s [] es = (λ h. (tt, h), λ h. h.1)
equates-append s (d ∷ ds) es = (
  λ h. (let k = (equates-append s ds es).0 h.1 in ((h.0, k.0), k.1)),
  λ h. (h.0.0, (equates-append s ds es).1 (h.0.1, h.1)),
)

equates-reverse : (s : Subst ℕ) (es : List (Equation ℕ)) → Equates s (reverse es) ↔ Equates s es
equates-reverse s [] = (λ h. h, λ h. h)
equates-reverse s (e ∷ es) = (
  λ h. (let k = (equates-append s (reverse es) (e ∷ [])).0 (subst (Equates s) (reverse-append (e ∷ []) es) h) in (k.1.0, (equates-reverse s es).0 k.0)),
  λ h. subst (Equates s) (sym (reverse-append (e ∷ []) es)) ((equates-append s (reverse es) (e ∷ [])).1 ((equates-reverse s es).1 h.1, (h.0, tt))),
)

equates-pairwise : (s : Subst ℕ) (ts us : Terms ℕ) → count ts ≡ count us → Equates s (pairwise (list_of ts) (list_of us)) ↔ (apply_all s ts ≡ apply_all s us)
equates-pairwise s (one t) (one u) n = (λ h. ap (λ x. one x) h.0, λ e. (let k : apply s t ≡ apply s u = cc in (k, tt)))
equates-pairwise s (one t) (more u (one w)) n = absurd (omega arith)
equates-pairwise s (one t) (more u (more w us)) n = absurd (omega arith)
equates-pairwise s (more t (one w)) (one u) n = absurd (omega arith)
equates-pairwise s (more t (more w ts)) (one u) n = absurd (omega arith)
equates-pairwise s (more t ts) (more u us) n = (
  λ h. (let k : apply_all s ts ≡ apply_all s us = (equates-pairwise s ts us (omega arith)).0 h.1 in λ i. more (h.0 i) (k i)),
  λ e. (let p : apply s t ≡ apply s u = cc in let q : apply_all s ts ≡ apply_all s us = cc in (p, (equates-pairwise s ts us (omega arith)).1 q)),
)

-- the arguments of two compounds in place of the compounds
equates_arguments : (s : Subst ℕ) (t u : HeapTerm) (n : ℕ) → HaveSameFunctor t u n → Equates s (reverse (pairwise (arguments t) (arguments u))) ↔ (apply s t ≡ apply s u)
equates_arguments s (Compound f ts) (Compound g us) n (h, p, q) =
    let c : count ts ≡ count us = cc in
    let name : f ≡ g = cc in
    let back = equates-pairwise s ts us c in
    let around = equates-reverse s (pairwise (list_of ts) (list_of us)) in (
      λ e. (let k : apply_all s ts ≡ apply_all s us = back.0 (around.0 e) in cc),
      λ e. (let k : apply_all s ts ≡ apply_all s us = cc in around.1 (back.1 k)),
    )
equates_arguments s (Compound f ts) (Var x) n (h, p, q) = cc
equates_arguments s (Compound f ts) (Number x) n (h, p, q) = cc
equates_arguments s (Compound f ts) (Name x) n (h, p, q) = cc
equates_arguments s (Var x) u n (h, p, q) = cc
equates_arguments s (Number x) u n (h, p, q) = cc
equates_arguments s (Name x) u n (h, p, q) = cc

-- ---- a pair is taken off, and pairs are added
module _ (ts : List HeapTerm) (old work : List Pair) (p : Pair) (is : old ≡ work ++ p ∷ []) where
  pub equates_pop : (s : Subst ℕ) → Equates s (equations ts old) ↔ (Equates s (equations ts work) × (apply s (at ts p.left) ≡ apply s (at ts p.right)))
  equates_pop s =
      let k = equates-append s (equations ts work) (equation_of ts p ∷ []) in (
        λ h. (let e = k.0 (subst (Equates s) (equations_pop ts old work p is) h) in (e.0, e.1.0)),
        λ h. subst (Equates s) (sym (equations_pop ts old work p is)) (k.1 (h.0, (h.1, tt))),
      )

  module _ (n : ℕ) (alike : HaveSameFunctor (at ts p.left) (at ts p.right) n) (new : List Pair) (pushes : PushesPairs ts p.left p.right 0 work new) where
    equates_push : (s : Subst ℕ) → Equates s (equations ts new) ↔ (Equates s (equations ts work) × (apply s (at ts p.left) ≡ apply s (at ts p.right)))
    equates_push s =
        let k = equates-append s (equations ts work) (reverse (pairwise (arguments (at ts p.left)) (arguments (at ts p.right)))) in
        let r = equates_arguments s (at ts p.left) (at ts p.right) n alike in (
          λ h. (let e = k.0 (subst (Equates s) (equations_push ts old work p is new pushes) h) in (e.0, r.0 e.1)),
          λ h. subst (Equates s) (sym (equations_push ts old work p is new pushes)) (k.1 (h.0, r.1 h.1)),
        )

-- ---- the pairs that are left have the same solutions
pub record Remains (ts : List HeapTerm) (old new : List Pair) : Type 0 where
  pub live : All (IsLive ts) new
  pub same : (s : Subst ℕ) → Equates s (equations ts old) ↔ Equates s (equations ts new)

module _ (heap : HeapTerms) (old now work : List Pair) (p : Pair) (is : now ≡ work ++ p ∷ []) (remains : Remains heap.terms old now) where
  abbrev ts : List HeapTerm
  ts = heap.terms

  pub remains_same : at heap.terms p.left ≡ at heap.terms p.right → Remains heap.terms old work
  remains_same e = record {
    live = (live_pop ts now work p is remains.live).0;
    same = λ s. (λ h. ((equates_pop ts now work p is s).0 ((remains.same s).0 h)).0, λ h. (remains.same s).1 ((equates_pop ts now work p is s).1 (h, ap (apply s) e)));
  }

  pub remains_spread : (n : ℕ) (new : List Pair) → HaveSameFunctor (at heap.terms p.left) (at heap.terms p.right) n → PushesPairs heap.terms p.left p.right 0 work new → Remains heap.terms old new
  remains_spread n new alike pushes = record {
    live = live_push ts now work p is new pushes (live_pop ts now work p is remains.live).0;
    same = λ s.
        let off = equates_pop ts now work p is s in
        let on = equates_push ts now work p is n alike new pushes s in
        (λ h. on.1 (off.0 ((remains.same s).0 h)), λ h. (remains.same s).1 (off.1 (on.0 h)));
  }

  pub remains_clash : Demands heap p.left p.right demand.Clash → HasNoUnifier (equations heap.terms old)
  remains_clash clash s h = clash s ((equates_pop ts now work p is s).0 ((remains.same s).0 h)).1

  pub remains_bind : (v : VarId) (t : ℕ) → Demands heap p.left p.right (demand.Bind v t) → Narrowed heap old work (step.Bind v t)
  remains_bind v t bind = (
    bind.0,
    (live_pop ts now work p is remains.live).0,
    λ s.
        let off = equates_pop ts now work p is s in (
          λ h. (let e = off.0 ((remains.same s).0 h) in ((bind.1 s).0 e.1, e.0)),
          λ h. (remains.same s).1 (off.1 (h.1, (bind.1 s).1 h.0)),
        ),
  )

pub equates_none : (s : Subst ℕ) (ts : List HeapTerm) (old new : List Pair) → Remains ts old new → length new ≡ 0 → Equates s (equations ts old)
equates_none s ts old [] remains n = (remains.same s).1 tt
equates_none s ts old (p ∷ new) remains n = absurd (omega arith)
