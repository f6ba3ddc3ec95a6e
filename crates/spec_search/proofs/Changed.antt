-- What the database has after a clause was added or removed.
use Rattle.std.proofs.Common.{◌≡◌, ℕ, List, [], ◌∷◌, map, filter, find, Bool, true, false, cond, not, ◌&&◌, ◌==◌, Option, Some, None, unwrap_or, refl, sym, ap, ap₂, ◌∙◌}
use Rattle.std.specs.Prelude.{bytes_eq}
use Rattle.std.specs.Cmp.Lexicographic.{bytes_decides}
use Rattle.spec_numbers.proofs.Tests.{nat_eq-same, nat_eq-self, both_are}
use Rattle.spec_builtins.specs.Built.{Indicator, same_indicator, indicator_of}
use Rattle.spec_builtins.specs.Clauses.{HeadBody, stored}
use Rattle.spec_search.specs.Database.{Kind, Clause, Procedure, Database, End, procedure_of, snapshot, with_procedure, procedure_or_new, clauses_with, clause_added, without_clause, clause_removed}

-- ---- indicators

same_is : (i j : Indicator) → same_indicator i j ≡ true → i ≡ j
same_is i j e =
    let h = both_are (bytes_eq i.name j.name) (i.arity == j.arity) e in
    let name : i.name ≡ j.name = (bytes_decides i.name j.name).0 h.0 in
    let arity : i.arity ≡ j.arity = nat_eq-same i.arity j.arity h.1 in
    λ k. record { name = name k; arity = arity k }

pub same_itself : (i : Indicator) → same_indicator i i ≡ true
same_itself i = ap₂ (λ (a b : Bool). a && b) ((bytes_decides i.name i.name).1 refl) (nat_eq-self i.arity)

-- ---- procedures

abbrev found : Indicator → List Procedure → Option Procedure
found i ps = find (λ (p : Procedure). same_indicator p.indicator i) ps

found_new : (p : Procedure) (ps : List Procedure) → found p.indicator (with_procedure p ps) ≡ Some p
found_new p [] = ap (λ (b : Bool). cond b (Some p) None) (same_itself p.indicator)
found_new p (q ∷ qs) = go (same_indicator q.indicator p.indicator) refl (found_new p qs)
  where
    go : (b : Bool) → same_indicator q.indicator p.indicator ≡ b → found p.indicator (with_procedure p qs) ≡ Some p
        → found p.indicator (cond b (p ∷ qs) (q ∷ with_procedure p qs)) ≡ Some p
    go true e h = ap (λ (b : Bool). cond b (Some p) (found p.indicator qs)) (same_itself p.indicator)
    go false e h = ap (λ (b : Bool). cond b (Some q) (found p.indicator (with_procedure p qs))) e ∙ h

found_other : (p : Procedure) (i : Indicator) (ps : List Procedure) → same_indicator p.indicator i ≡ false
    → found i (with_procedure p ps) ≡ found i ps
found_other p i [] n = ap (λ (b : Bool). cond b (Some p) None) n
found_other p i (q ∷ qs) n = go (same_indicator q.indicator p.indicator) refl (found_other p i qs n)
  where
    go : (b : Bool) → same_indicator q.indicator p.indicator ≡ b → found i (with_procedure p qs) ≡ found i qs
        → found i (cond b (p ∷ qs) (q ∷ with_procedure p qs)) ≡ found i (q ∷ qs)
    go true e h =
        let same : q.indicator ≡ p.indicator = same_is q.indicator p.indicator e in
        ap (λ (b : Bool). cond b (Some p) (found i qs)) n
        ∙ sym (ap (λ (b : Bool). cond b (Some q) (found i qs)) (ap (λ (j : Indicator). same_indicator j i) same ∙ n))
    go false e h = ap (λ (o : Option Procedure). cond (same_indicator q.indicator i) (Some q) o) h

-- the procedure that is found has the indicator
found_is : (i : Indicator) (ps : List Procedure) (p : Procedure) → found i ps ≡ Some p → p.indicator ≡ i
found_is i [] p e = cc
found_is i (q ∷ qs) p e = go (same_indicator q.indicator i) refl e (found_is i qs p)
  where
    go : (b : Bool) → same_indicator q.indicator i ≡ b → cond b (Some q) (found i qs) ≡ Some p
        → (found i qs ≡ Some p → p.indicator ≡ i) → p.indicator ≡ i
    go true h e next =
        let k : q ≡ p = cc in
        ap (λ (r : Procedure). r.indicator) (sym k) ∙ same_is q.indicator i h
    go false h e next = next e

-- ---- a clause added

new_indicator : (kind : Kind) (i : Indicator) (db : Database) → (procedure_or_new kind i db).indicator ≡ i
new_indicator kind i db = go (procedure_of db i) refl
  where
    go : (o : Option Procedure) → procedure_of db i ≡ o
        → (unwrap_or o (record { indicator = i; kind = kind; clauses = [] })).indicator ≡ i
    go None e = refl
    go (Some p) e = found_is i db.procedures p e

old_clauses : (kind : Kind) (i : Indicator) (db : Database) → (procedure_or_new kind i db).clauses ≡ snapshot (procedure_of db i)
old_clauses kind i db = go (procedure_of db i)
  where
    go : (o : Option Procedure) → (unwrap_or o (record { indicator = i; kind = kind; clauses = [] })).clauses ≡ snapshot o
    go None = refl
    go (Some p) = refl

pub clauses_then : (end : End) (kind : Kind) (c : HeadBody) (db : Database)
    → snapshot (procedure_of (clause_added end kind c db) (indicator_of c.head))
    ≡ clauses_with end (record { number = db.next_clause; parts = stored c }) (snapshot (procedure_of db (indicator_of c.head)))
clauses_then end kind c db =
    let i : Indicator = indicator_of c.head in
    let old : Procedure = procedure_or_new kind i db in
    let added : Clause = record { number = db.next_clause; parts = stored c } in
    let p : Procedure = record old { clauses = clauses_with end added old.clauses } in
    ap (λ (j : Indicator). snapshot (found j (with_procedure p db.procedures))) (sym (new_indicator kind i db))
    ∙ ap snapshot (found_new p db.procedures)
    ∙ ap (clauses_with end added) (old_clauses kind i db)

pub others_then : (end : End) (kind : Kind) (c : HeadBody) (db : Database) (i : Indicator)
    → same_indicator (indicator_of c.head) i ≡ false
    → procedure_of (clause_added end kind c db) i ≡ procedure_of db i
others_then end kind c db i n =
    let old : Procedure = procedure_or_new kind (indicator_of c.head) db in
    let added : Clause = record { number = db.next_clause; parts = stored c } in
    found_other (record old { clauses = clauses_with end added old.clauses }) i db.procedures (
    ap (λ (j : Indicator). same_indicator j i) (new_indicator kind (indicator_of c.head) db) ∙ n)

-- ---- a clause removed

abbrev stays : ℕ → Clause → Bool
stays n c = not (c.number == n)

left_found : (n : ℕ) (i : Indicator) (ps : List Procedure)
    → snapshot (found i (map (without_clause n) ps)) ≡ filter (stays n) (snapshot (found i ps))
left_found n i [] = refl
left_found n i (p ∷ ps) = go (same_indicator p.indicator i) (left_found n i ps)
  where
    go : (b : Bool) → snapshot (found i (map (without_clause n) ps)) ≡ filter (stays n) (snapshot (found i ps))
        → snapshot (cond b (Some (without_clause n p)) (found i (map (without_clause n) ps))) ≡ filter (stays n) (snapshot (cond b (Some p) (found i ps)))
    go true h = refl
    go false h = h

pub clauses_left : (n : ℕ) (db : Database) (i : Indicator) → snapshot (procedure_of (clause_removed n db) i)
    ≡ filter (λ (c : Clause). not (c.number == n)) (snapshot (procedure_of db i))
clauses_left n db i = left_found n i db.procedures
