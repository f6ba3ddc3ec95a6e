-- The changes of a program are those of the database.
use Rattle.std.proofs.Common.{◌≡◌, ℕ, suc, ◌<◌, List, [], ◌∷◌, ◌++◌, length, map, filter, find, Bool, true, false, cond, not, ◌==◌, Some, unwrap_or, refl, sym, ap, ap₂, ◌∙◌, arith}
use Rattle.std.specs.Prelude.{All}
use Rattle.std.proofs.lemmas.List.{map-append, length-append, get_or_append_left}
use Rattle.std.proofs.Math.Seq.{get_or-append_seam}
use Rattle.std.proofs.lemmas.List.Elements.{All-head, All-tail}
use Rattle.spec_numbers.specs.Texts.{Text}
use Rattle.spec_syntax.specs.Operators.{Ops}
use Rattle.spec_builtins.specs.Built.{Indicator, same_indicator, indicator_of}
use Rattle.spec_builtins.specs.Clauses.{HeadBody, stored}
use Rattle.spec_search.specs.Database as search
use Rattle.cq_term.specs.Texts.{AreDifferent}
use Rattle.cq_term.specs.declared.names.Pred.{Pred}
use Rattle.cq_term.specs.Meaning.{blank}
use Rattle.cq_resolve.specs.StoredValue.{ClauseValue}
use Rattle.cq_clauses.specs.ClausesValue.{Adds, Declares, Removes}
use Rattle.cq_clauses.specs.Database.{ProcedureNow, same_pred, first_changed, clause_removed, added, database}
use Rattle.cq_clauses.specs.declared.list.End.{End}
use Rattle.cq_clauses.specs.declared.list.End.TheVariants as ends
use Rattle.cq_clauses.specs.declared.procedures.Kind.{Kind}
use Rattle.cq_clauses.specs.declared.procedures.Kind.TheVariants as kind
use Rattle.cq_resolve.specs.Database.{Program, IsKnown, IsProgram, as_kind, as_end, as_indicator, as_parts, as_clause, as_procedure, as_database}
use Rattle.spec_search.proofs.Changed.{same_itself}
use Rattle.cq_resolve.proofs.Predicates.{same_test, has_indicator, found_or_indicator}

-- ---- clauses by number

module _ (texts : List Text) (contents more : List ClauseValue) where
  clause-later : (n : ℕ) → n < length contents → as_clause texts (contents ++ more) n ≡ as_clause texts contents n
  clause-later n within =
      ap (λ (c : ClauseValue). record { number = n; parts = as_parts texts c }) (get_or_append_left contents more (record { head = blank; body = blank; variables = 0 }) n within)

  pub clauses-later : (ns : List ℕ) → All (λ n. n < length contents) ns → map (as_clause texts (contents ++ more)) ns ≡ map (as_clause texts contents) ns
  clauses-later [] h = refl
  clauses-later (n ∷ ns) h =
      λ i. clause-later n (All-head (λ n. n < length contents) n ns h) i ∷ clauses-later ns (All-tail (λ n. n < length contents) n ns h) i

-- ---- one procedure changed

module _ (texts : List Text) (different : AreDifferent texts) (pred : Pred) (known : pred.name < length texts)
    (old new : List ClauseValue)
    (same : (p : ProcedureNow) → IsKnown (length texts) (length old) p → as_procedure texts old p ≡ as_procedure texts new p)
    (change : ProcedureNow → ProcedureNow) (other : ProcedureNow)
    (becomes : search.Procedure → search.Procedure) (keeps : (q : search.Procedure) → (becomes q).indicator ≡ q.indicator)
    (empty : search.Procedure) (is : empty.indicator ≡ as_indicator texts pred) (made : becomes empty ≡ as_procedure texts new other)
    (changes : (p : ProcedureNow) → IsKnown (length texts) (length old) p → becomes (as_procedure texts old p) ≡ as_procedure texts new (change p)) where
  abbrev before : ProcedureNow → search.Procedure
  before = as_procedure texts old

  abbrev after : ProcedureNow → search.Procedure
  after = as_procedure texts new

  abbrev has : search.Procedure → Bool
  has = has_indicator texts different pred known

  others : (ps : List ProcedureNow) → All (IsKnown (length texts) (length old)) ps → map before ps ≡ map after ps
  others [] h = refl
  others (p ∷ ps) h =
      λ i. same p (All-head (IsKnown (length texts) (length old)) p ps h) i ∷ others ps (All-tail (IsKnown (length texts) (length old)) p ps h) i

  changed : (ps : List ProcedureNow) → All (IsKnown (length texts) (length old)) ps
      → search.with_procedure (becomes (unwrap_or (find has (map before ps)) empty)) (map before ps) ≡ map after (first_changed (λ (p : ProcedureNow). same_pred pred p.pred) change other ps)
  changed [] h = λ i. made i ∷ []
  changed (p ∷ ps) h = go (same_pred pred p.pred) refl (changed ps tail)
    where
      head : IsKnown (length texts) (length old) p
      head = All-head (IsKnown (length texts) (length old)) p ps h

      tail : All (IsKnown (length texts) (length old)) ps
      tail = All-tail (IsKnown (length texts) (length old)) p ps h

      test : has (before p) ≡ same_pred pred p.pred
      test = same_test texts different pred known p.pred head.name

      rest : search.Procedure
      rest = becomes (unwrap_or (find has (map before ps)) empty)

      at : search.Procedure → List search.Procedure
      at q = search.with_procedure (becomes q) (map before (p ∷ ps))

      go : (b : Bool) → same_pred pred p.pred ≡ b
          → search.with_procedure (becomes (unwrap_or (find has (map before ps)) empty)) (map before ps) ≡ map after (first_changed (λ (p : ProcedureNow). same_pred pred p.pred) change other ps)
          → search.with_procedure (becomes (unwrap_or (find has (map before (p ∷ ps))) empty)) (map before (p ∷ ps))
          ≡ map after (cond b (change p ∷ ps) (p ∷ first_changed (λ (p : ProcedureNow). same_pred pred p.pred) change other ps))
      go true e next =
          ap (λ b. search.with_procedure (becomes (unwrap_or (cond b (Some (before p)) (find has (map before ps))) empty)) (map before (p ∷ ps))) (test ∙ e)
          ∙ ap (λ b. cond b (becomes (before p) ∷ map before ps) (before p ∷ search.with_procedure (becomes (before p)) (map before ps)))
          (ap (same_indicator (as_indicator texts p.pred)) (keeps (before p)) ∙ same_itself (as_indicator texts p.pred))
          ∙ (λ i. changes p head i ∷ others ps tail i)
      go false e next =
          let last : search.Procedure = becomes (unwrap_or (find has (map before ps)) empty) in
          let found : last.indicator ≡ as_indicator texts pred =
          keeps (unwrap_or (find has (map before ps)) empty) ∙ found_or_indicator texts different pred known old (length old) ps empty is tail in
          ap (λ b. search.with_procedure (becomes (unwrap_or (cond b (Some (before p)) (find has (map before ps))) empty)) (map before (p ∷ ps))) (test ∙ e)
          ∙ ap (λ b. cond b (last ∷ map before ps) (before p ∷ search.with_procedure last (map before ps)))
          (ap (same_indicator (as_indicator texts p.pred)) found ∙ test ∙ e)
          ∙ (λ i. same p head i ∷ next i)

-- ---- a clause added

module _ (texts : List Text) (ops : Ops) (different : AreDifferent texts) (end : End) (kind : Kind) (pred : Pred) (c : ClauseValue) (parts : HeadBody) (old new : Program)
    (whole : IsProgram texts old) (known : pred.name < length texts) (named : as_indicator texts pred ≡ indicator_of parts.head) (kept : as_parts texts c ≡ stored parts)
    (adds : Adds end kind pred c old new) where
  abbrev number : ℕ
  number = length old.contents

  abbrev fresh : search.Clause
  fresh = record { number = number; parts = stored parts }

  abbrev with_fresh : search.Procedure → search.Procedure
  with_fresh q = record q { clauses = search.clauses_with (as_end end) fresh q.clauses }

  abbrev without_clauses : Indicator → search.Procedure
  without_clauses i = record { indicator = i; kind = as_kind kind; clauses = [] }

  abbrev grown : List ClauseValue
  grown = old.contents ++ c ∷ []

  newest : as_clause texts grown number ≡ fresh
  newest =
      ap (λ (d : ClauseValue). record { number = number; parts = as_parts texts d }) (get_or-append_seam old.contents c [] (record { head = blank; body = blank; variables = 0 }))
      ∙ ap (λ (h : HeadBody). record { number = number; parts = h }) kept

  more_clauses : (e : End) (ns : List ℕ) → All (λ n. n < number) ns → search.clauses_with (as_end e) fresh (map (as_clause texts old.contents) ns) ≡ map (as_clause texts grown) (added e number ns)
  more_clauses ends.First ns h = λ i. sym newest i ∷ sym (clauses-later texts old.contents (c ∷ []) ns h) i
  more_clauses ends.Last ns h =
      (λ i. sym (clauses-later texts old.contents (c ∷ []) ns h) i ++ sym newest i ∷ []) ∙ sym (map-append (as_clause texts grown) ns (number ∷ []))

  one_clause : (e : End) → search.clauses_with (as_end e) fresh [] ≡ as_clause texts grown number ∷ []
  one_clause ends.First = λ i. sym newest i ∷ []
  one_clause ends.Last = λ i. sym newest i ∷ []

  procedures : search.with_procedure (with_fresh (unwrap_or (search.procedure_of (as_database texts ops old) (as_indicator texts pred)) (without_clauses (as_indicator texts pred)))) (map (as_procedure texts old.contents) (database old.procedures))
      ≡ map (as_procedure texts grown) (first_changed (λ (p : ProcedureNow). same_pred pred p.pred) (λ (p : ProcedureNow). record p { clauses = added end number p.clauses })
      (record { pred = pred; kind = kind; clauses = number ∷ [] }) (database old.procedures))
  procedures =
      changed texts different pred known old.contents grown
      (λ p k. λ i. record { indicator = as_indicator texts p.pred; kind = as_kind p.kind; clauses = sym (clauses-later texts old.contents (c ∷ []) p.clauses k.numbers) i })
      (λ (p : ProcedureNow). record p { clauses = added end number p.clauses }) (record { pred = pred; kind = kind; clauses = number ∷ [] })
      with_fresh (λ q. refl) (without_clauses (as_indicator texts pred)) refl
      (λ i. record { indicator = as_indicator texts pred; kind = as_kind kind; clauses = one_clause end i })
      (λ p k. λ i. record { indicator = as_indicator texts p.pred; kind = as_kind p.kind; clauses = more_clauses end p.clauses k.numbers i })
      (database old.procedures) whole.procedures

  counted : length new.contents ≡ suc number
  counted =
      let one : length (c ∷ []) ≡ 1 = refl in
      ap length adds.contents ∙ length-append old.contents (c ∷ []) ∙ omega (arith, one)

  pub database-added : as_database texts ops new ≡ search.clause_added (as_end end) (as_kind kind) parts (as_database texts ops old)
  database-added =
      let after : map (as_procedure texts new.contents) (database new.procedures) ≡ search.with_procedure (with_fresh (unwrap_or (search.procedure_of (as_database texts ops old) (as_indicator texts pred)) (without_clauses (as_indicator texts pred)))) (map (as_procedure texts old.contents) (database old.procedures)) =
      ap₂ (λ cs ps. map (as_procedure texts cs) ps) adds.contents adds.database ∙ sym procedures in
      (λ i. record { procedures = after i; operators = ops; next_clause = counted i })
      ∙ ap (λ (j : Indicator). record {
        procedures = search.with_procedure (with_fresh (unwrap_or (search.procedure_of (as_database texts ops old) j) (without_clauses j))) (map (as_procedure texts old.contents) (database old.procedures));
        operators = ops;
        next_clause = suc number;
      }) named

-- ---- a clause removed

module _ (texts : List Text) (contents : List ClauseValue) (n : ℕ) where
  clauses_left : (ns : List ℕ) → map (as_clause texts contents) (filter (λ m. not (m == n)) ns) ≡ filter (λ (c : search.Clause). not (c.number == n)) (map (as_clause texts contents) ns)
  clauses_left [] = refl
  clauses_left (m ∷ ns) = go (not (m == n)) (clauses_left ns)
    where
      go : (b : Bool) → map (as_clause texts contents) (filter (λ m. not (m == n)) ns) ≡ filter (λ (c : search.Clause). not (c.number == n)) (map (as_clause texts contents) ns)
          → map (as_clause texts contents) (cond b (m ∷ filter (λ m. not (m == n)) ns) (filter (λ m. not (m == n)) ns))
          ≡ cond b (as_clause texts contents m ∷ filter (λ (c : search.Clause). not (c.number == n)) (map (as_clause texts contents) ns)) (filter (λ (c : search.Clause). not (c.number == n)) (map (as_clause texts contents) ns))
      go true next = λ i. as_clause texts contents m ∷ next i
      go false next = next

  procedures_left : (ps : List ProcedureNow) → map (as_procedure texts contents) (clause_removed n ps) ≡ map (search.without_clause n) (map (as_procedure texts contents) ps)
  procedures_left [] = refl
  procedures_left (p ∷ ps) =
      λ i. record { indicator = as_indicator texts p.pred; kind = as_kind p.kind; clauses = clauses_left p.clauses i } ∷ procedures_left ps i

pub database-removed : (texts : List Text) (ops : Ops) (n : ℕ) (old new : Program) → Removes n old new → as_database texts ops new ≡ search.clause_removed n (as_database texts ops old)
database-removed texts ops n old new removes =
    let after : map (as_procedure texts new.contents) (database new.procedures) ≡ map (search.without_clause n) (map (as_procedure texts old.contents) (database old.procedures)) =
    ap₂ (λ cs ps. map (as_procedure texts cs) ps) removes.contents removes.database ∙ procedures_left texts old.contents n (database old.procedures) in
    λ i. record { procedures = after i; operators = ops; next_clause = ap length removes.contents i }

-- ---- a procedure made dynamic

pub database-declared : (texts : List Text) (ops : Ops) (pred : Pred) (old new : Program) → AreDifferent texts → IsProgram texts old → pred.name < length texts → Declares pred old new
    → as_database texts ops new ≡ search.declared_dynamic (as_database texts ops old) (as_indicator texts pred)
database-declared texts ops pred old new different whole known declares =
    let after : map (as_procedure texts new.contents) (database new.procedures)
    ≡ search.with_procedure (record (search.procedure_or_new search.Dynamic (as_indicator texts pred) (as_database texts ops old)) { kind = search.Dynamic }) (map (as_procedure texts old.contents) (database old.procedures)) =
    ap₂ (λ cs ps. map (as_procedure texts cs) ps) declares.contents declares.database
    ∙ sym (changed texts different pred known old.contents old.contents (λ p k. refl)
    (λ (p : ProcedureNow). record p { kind = kind.Dynamic }) (record { pred = pred; kind = kind.Dynamic; clauses = [] })
    (λ (q : search.Procedure). record q { kind = search.Dynamic }) (λ q. refl)
    (record { indicator = as_indicator texts pred; kind = search.Dynamic; clauses = [] }) refl refl (λ p k. refl)
    (database old.procedures) whole.procedures) in
    λ i. record { procedures = after i; operators = ops; next_clause = ap length declares.contents i }
