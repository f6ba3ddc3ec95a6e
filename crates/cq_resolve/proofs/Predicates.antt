-- Predicates by number, and indicators by text.
use Rattle.std.proofs.Common.{◌≡◌, ℕ, ◌<◌, List, [], ◌∷◌, length, map, find, Bool, true, false, cond, ◌&&◌, ◌==◌, Option, Some, None, unwrap_or, refl, sym, ap, ap₂, ◌∙◌, inl, inr}
use Rattle.std.specs.Prelude.{bytes_eq, slice_get, All}
use Rattle.std.specs.Option.{option_map, option_map_or}
use Rattle.std.specs.Cmp.Lexicographic.{bytes_decides}
use Rattle.std.proofs.lemmas.Bool.{cases_eq, eq-eqb, ne_eqb}
use Rattle.std.proofs.lemmas.List.Elements.{All-nil, All-head, All-tail}
use Rattle.std.proofs.lemmas.Option.{slice_get-get_or}
use Rattle.spec_numbers.specs.Texts.{Text}
use Rattle.spec_numbers.proofs.Tests.{nat_eq-same, nat_eq-sym, both_are}
use Rattle.spec_builtins.specs.Built.{same_indicator}
use Rattle.spec_search.specs.Database as search
use Rattle.cq_term.specs.Texts.{AreDifferent, text_of}
use Rattle.cq_term.specs.declared.names.Pred.{Pred}
use Rattle.cq_resolve.specs.StoredValue.{ClauseValue}
use Rattle.cq_clauses.specs.Database.{ProcedureNow, same_pred, procedure_of, kind_of, clauses_of, database}
use Rattle.spec_syntax.specs.Operators.{Ops}
use Rattle.cq_resolve.specs.Database.{Program, IsKnown, IsProgram, as_kind, as_indicator, as_clause, as_procedure, as_database}

-- ---- tests

same_text : (texts : List Text) (a b : ℕ) → AreDifferent texts → a < length texts → b < length texts → bytes_eq (text_of texts a) (text_of texts b) ≡ (b == a)
same_text texts a b different in_a in_b = elim (cases_eq b a) [
  | inl h ↦ (bytes_decides (text_of texts a) (text_of texts b)).1 (ap (text_of texts) (sym h)) ∙ sym (eq-eqb b a h)
  | inr n ↦ go n (bytes_eq (text_of texts a) (text_of texts b)) refl ∙ sym (ne_eqb b a n)
]
  where
    there : (c : ℕ) → c < length texts → slice_get texts c ≡ Some (text_of texts c)
    there c within = slice_get-get_or texts c [] within

    go : (b ≡ a → ⊥) → (o : Bool) → bytes_eq (text_of texts a) (text_of texts b) ≡ o → o ≡ false
    go n false e = refl
    go n true e =
        let same : text_of texts a ≡ text_of texts b = (bytes_decides (text_of texts a) (text_of texts b)).0 e in
        absurd (n (sym (different a b (text_of texts a) (there a in_a) (there b in_b ∙ ap (λ t. Some t) (sym same)))))

same_pred-is : (p q : Pred) → same_pred p q ≡ true → p ≡ q
same_pred-is p q e =
    let both = both_are (p.name == q.name) (p.arity == q.arity) e in
    let name : p.name ≡ q.name = nat_eq-same p.name q.name both.0 in
    let arity : p.arity ≡ q.arity = nat_eq-same p.arity q.arity both.1 in
    λ k. record { name = name k; arity = arity k }

module _ (texts : List Text) (different : AreDifferent texts) (pred : Pred) (known : pred.name < length texts) where
  pub same_test : (q : Pred) → q.name < length texts → same_indicator (as_indicator texts q) (as_indicator texts pred) ≡ same_pred pred q
  same_test q within = ap₂ (λ (a b : Bool). a && b) (same_text texts q.name pred.name different within known) (nat_eq-sym q.arity pred.arity)

  abbrev pub has_indicator : search.Procedure → Bool
  has_indicator q = same_indicator q.indicator (as_indicator texts pred)

  module _ (contents : List ClauseValue) (count : ℕ) where
    abbrev there : ProcedureNow → search.Procedure
    there = as_procedure texts contents

    -- ---- the procedure of an indicator

    pub procedure-found : (ps : List ProcedureNow) → All (IsKnown (length texts) count) ps → find has_indicator (map there ps) ≡ option_map there (procedure_of pred ps)
    procedure-found [] h = refl
    procedure-found (p ∷ ps) h =
        go (same_pred pred p.pred) refl (procedure-found ps (All-tail (IsKnown (length texts) count) p ps h))
      where
        test : has_indicator (there p) ≡ same_pred pred p.pred
        test = same_test p.pred (All-head (IsKnown (length texts) count) p ps h).name

        go : (b : Bool) → same_pred pred p.pred ≡ b → find has_indicator (map there ps) ≡ option_map there (procedure_of pred ps)
            → find has_indicator (map there (p ∷ ps)) ≡ option_map there (procedure_of pred (p ∷ ps))
        go true e next =
            ap (λ b. cond b (Some (there p)) (find has_indicator (map there ps))) (test ∙ e)
            ∙ ap (λ b. option_map there (cond b (Some p) (procedure_of pred ps))) (sym e)
        go false e next =
            ap (λ b. cond b (Some (there p)) (find has_indicator (map there ps))) (test ∙ e) ∙ next
            ∙ ap (λ b. option_map there (cond b (Some p) (procedure_of pred ps))) (sym e)

    -- where there is none, another with the indicator takes its place
    pub found_or_indicator : (ps : List ProcedureNow) (other : search.Procedure) → other.indicator ≡ as_indicator texts pred → All (IsKnown (length texts) count) ps
        → (unwrap_or (find has_indicator (map there ps)) other).indicator ≡ as_indicator texts pred
    found_or_indicator ps other is h = ap (λ o. (unwrap_or o other).indicator) (procedure-found ps h) ∙ at ps
      where
        at : (ps : List ProcedureNow) → (unwrap_or (option_map there (procedure_of pred ps)) other).indicator ≡ as_indicator texts pred
        at [] = is
        at (p ∷ ps) = go (same_pred pred p.pred) refl (at ps)
          where
            go : (b : Bool) → same_pred pred p.pred ≡ b → (unwrap_or (option_map there (procedure_of pred ps)) other).indicator ≡ as_indicator texts pred
                → (unwrap_or (option_map there (cond b (Some p) (procedure_of pred ps))) other).indicator ≡ as_indicator texts pred
            go true e next = ap (as_indicator texts) (sym (same_pred-is pred p.pred e))
            go false e next = next

  -- ---- what a call reads

  module _ (v : Program) (whole : IsProgram texts v) (ops : Ops) where
    pub kind-read : option_map (λ (p : search.Procedure). p.kind) (search.procedure_of (as_database texts ops v) (as_indicator texts pred)) ≡ option_map as_kind (kind_of pred (database v.procedures))
    kind-read =
        ap (option_map (λ (p : search.Procedure). p.kind)) (procedure-found v.contents (length v.contents) (database v.procedures) whole.procedures)
        ∙ by (procedure_of pred (database v.procedures))
      where
        by : (o : Option ProcedureNow) → option_map (λ (p : search.Procedure). p.kind) (option_map (as_procedure texts v.contents) o) ≡ option_map as_kind (option_map (λ (p : ProcedureNow). p.kind) o)
        by None = refl
        by (Some p) = refl

    pub clauses-read : search.snapshot (search.procedure_of (as_database texts ops v) (as_indicator texts pred)) ≡ map (as_clause texts v.contents) (clauses_of pred (database v.procedures))
    clauses-read =
        ap search.snapshot (procedure-found v.contents (length v.contents) (database v.procedures) whole.procedures)
        ∙ by (procedure_of pred (database v.procedures))
      where
        by : (o : Option ProcedureNow) → search.snapshot (option_map (as_procedure texts v.contents) o) ≡ map (as_clause texts v.contents) (option_map_or (λ (p : ProcedureNow). p.clauses) o [])
        by None = refl
        by (Some p) = refl

-- ---- the clauses of a predicate are among those that were added

pub clauses-known : (texts : List Text) (pred : Pred) (v : Program) → IsProgram texts v → All (λ n. n < length v.contents) (clauses_of pred (database v.procedures))
clauses-known texts pred v whole = at (database v.procedures) whole.procedures
  where
    at : (ps : List ProcedureNow) → All (IsKnown (length texts) (length v.contents)) ps → All (λ n. n < length v.contents) (clauses_of pred ps)
    at [] h = All-nil (λ n. n < length v.contents)
    at (p ∷ ps) h = go (same_pred pred p.pred) (at ps (All-tail (IsKnown (length texts) (length v.contents)) p ps h))
      where
        go : (b : Bool) → All (λ n. n < length v.contents) (clauses_of pred ps)
            → All (λ n. n < length v.contents) (option_map_or (λ (q : ProcedureNow). q.clauses) (cond b (Some p) (procedure_of pred ps)) [])
        go true next = (All-head (IsKnown (length texts) (length v.contents)) p ps h).numbers
        go false next = next
