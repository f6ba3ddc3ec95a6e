-- A program stays one: its names are known, its clauses numbered.
use Rattle.std.proofs.Common.{◌≡◌, ℕ, suc, ◌<◌, ◌≤◌, List, [], ◌∷◌, ◌++◌, length, map, filter, Bool, true, false, cond, not, ◌==◌, refl, sym, ap, ◌∙◌, get_or, arith, subst}
use Rattle.std.specs.Prelude.{All}
use Rattle.std.proofs.lemmas.List.{length-append}
use Rattle.std.proofs.lemmas.List.Elements.{All-nil, All-cons, All-head, All-tail, All-push, All-same, All-weaker, All-filter}
use Rattle.std.proofs.lemmas.Option.{slice_get_within, slice_get-get_or, get_or_from_slice_get}
use Rattle.spec_numbers.specs.Texts.{Text}
use Rattle.spec_syntax.specs.Operators.{Ops}
use Rattle.spec_terms.specs.Term.{Terms, Var, Number, Name, Compound, one, more, named, named_all}
use Rattle.cq_term.specs.Texts.{KeepsTexts, text_of}
use Rattle.cq_term.specs.declared.names.Pred.{Pred}
use Rattle.cq_term.specs.Meaning.{HeapTerm, blank}
use Rattle.cq_term.specs.Names.{HasNamesBelow, HaveNamesBelow}
use Rattle.cq_term.proofs.Known.{names_more}
use Rattle.cq_resolve.specs.StoredValue.{ClauseValue}
use Rattle.cq_clauses.specs.ClausesValue.{Adds, Declares, Removes}
use Rattle.cq_clauses.specs.Database.{ProcedureNow, same_pred, first_changed, clause_removed, declared_dynamic, added, database}
use Rattle.cq_clauses.specs.declared.list.End.{End}
use Rattle.cq_clauses.specs.declared.list.End.TheVariants as ends
use Rattle.cq_clauses.specs.declared.procedures.Kind.{Kind}
use Rattle.cq_clauses.specs.declared.procedures.Kind.TheVariants as kind
use Rattle.cq_resolve.specs.Database.{Program, IsCounted, IsKnown, IsProgram, as_kind, as_clause, as_procedure, as_database}

pub none_whole : (texts : List Text) (v : Program) → v.contents ≡ [] → database v.procedures ≡ [] → IsProgram texts v
none_whole texts v no_contents no_procedures = record {
  contents = All-same (IsCounted (length texts)) v.contents [] no_contents (All-nil (IsCounted (length texts)));
  procedures = All-same (IsKnown (length texts) (length v.contents)) (database v.procedures) [] no_procedures (All-nil (IsKnown (length texts) (length v.contents)));
}

-- where a procedure is changed, or another is put at the end
module _ (P Q : ProcedureNow → Type 0) (weaker : (p : ProcedureNow) → P p → Q p) (test : ProcedureNow → Bool) (change : ProcedureNow → ProcedureNow) (other : ProcedureNow)
    (changes : (p : ProcedureNow) → P p → Q (change p)) (made : Q other) where
  all_changed : (ps : List ProcedureNow) → All P ps → All Q (first_changed test change other ps)
  all_changed [] h = All-cons Q other [] made (All-nil Q)
  all_changed (p ∷ ps) h = go (test p) (all_changed ps (All-tail P p ps h))
    where
      go : (b : Bool) → All Q (first_changed test change other ps) → All Q (cond b (change p ∷ ps) (p ∷ first_changed test change other ps))
      go true next = All-cons Q (change p) ps (changes p (All-head P p ps h)) (All-weaker P Q weaker ps (All-tail P p ps h))
      go false next = All-cons Q p (first_changed test change other ps) (weaker p (All-head P p ps h)) next

-- ---- a clause added

all_added : (e : End) (n : ℕ) (ns : List ℕ) → All (λ m. m < n) ns → All (λ m. m < suc n) (added e n ns)
all_added ends.First n ns h = All-cons (λ m. m < suc n) n ns (omega arith) (All-weaker (λ m. m < n) (λ m. m < suc n) (λ m l. omega arith) ns h)
all_added ends.Last n ns h = All-push (λ m. m < suc n) ns n (All-weaker (λ m. m < n) (λ m. m < suc n) (λ m l. omega arith) ns h) (omega arith)

module _ (texts : List Text) (end : End) (kind : Kind) (pred : Pred) (c : ClauseValue) (old new : Program) (whole : IsProgram texts old) (known : pred.name < length texts)
    (counted : IsCounted (length texts) c) (adds : Adds end kind pred c old new) where
  abbrev n : ℕ
  n = length old.contents

  abbrev with_another : List ProcedureNow
  with_another =
      first_changed (λ (p : ProcedureNow). same_pred pred p.pred) (λ (p : ProcedureNow). record p { clauses = added end n p.clauses })
      (record { pred = pred; kind = kind; clauses = n ∷ [] }) (database old.procedures)

  longer : length new.contents ≡ suc n
  longer =
      let only : length (c ∷ []) ≡ 1 = refl in
      ap length adds.contents ∙ length-append old.contents (c ∷ []) ∙ omega (arith, only)

  procedures : All (IsKnown (length texts) (suc n)) with_another
  procedures =
      all_changed (IsKnown (length texts) n) (IsKnown (length texts) (suc n))
      (λ p k. record { name = k.name; numbers = All-weaker (λ m. m < n) (λ m. m < suc n) (λ m l. omega arith) p.clauses k.numbers })
      (λ (p : ProcedureNow). same_pred pred p.pred) (λ (p : ProcedureNow). record p { clauses = added end n p.clauses })
      (record { pred = pred; kind = kind; clauses = n ∷ [] })
      (λ p k. record { name = k.name; numbers = all_added end n p.clauses k.numbers })
      (record { name = known; numbers = all_added ends.First n [] (All-nil (λ m. m < n)) })
      (database old.procedures) whole.procedures

  pub added_whole : IsProgram texts new
  added_whole = record {
    contents = All-same (IsCounted (length texts)) new.contents (old.contents ++ c ∷ []) adds.contents (All-push (IsCounted (length texts)) old.contents c whole.contents counted);
    procedures = All-same (IsKnown (length texts) (length new.contents)) (database new.procedures) with_another adds.database
        (subst (λ (m : ℕ). All (IsKnown (length texts) m) with_another) (sym longer) procedures);
  }

-- ---- other changes

all_left : (names clauses n : ℕ) (ps : List ProcedureNow) → All (IsKnown names clauses) ps → All (IsKnown names clauses) (clause_removed n ps)
all_left names clauses n [] h = All-nil (IsKnown names clauses)
all_left names clauses n (p ∷ ps) h =
    let k = All-head (IsKnown names clauses) p ps h in
    All-cons (IsKnown names clauses) (record p { clauses = filter (λ m. not (m == n)) p.clauses }) (clause_removed n ps)
    (record { name = k.name; numbers = All-filter (λ m. not (m == n)) (λ m. m < clauses) p.clauses k.numbers })
    (all_left names clauses n ps (All-tail (IsKnown names clauses) p ps h))

same_whole : (texts : List Text) (old new : Program) (ps : List ProcedureNow) → IsProgram texts old → new.contents ≡ old.contents → database new.procedures ≡ ps
    → All (IsKnown (length texts) (length old.contents)) ps → IsProgram texts new
same_whole texts old new ps whole same is all = record {
  contents = All-same (IsCounted (length texts)) new.contents old.contents same whole.contents;
  procedures = subst (λ (m : ℕ). All (IsKnown (length texts) m) (database new.procedures)) (sym (ap length same)) (All-same (IsKnown (length texts) (length old.contents)) (database new.procedures) ps is all);
}

pub removed_whole : (texts : List Text) (n : ℕ) (old new : Program) → IsProgram texts old → Removes n old new → IsProgram texts new
removed_whole texts n old new whole removes =
    same_whole texts old new (clause_removed n (database old.procedures)) whole removes.contents removes.database (all_left (length texts) (length old.contents) n (database old.procedures) whole.procedures)

module _ (texts : List Text) (pred : Pred) (old new : Program) (whole : IsProgram texts old) (known : pred.name < length texts) (declares : Declares pred old new) where
  abbrev Known : ProcedureNow → Type 0
  Known = IsKnown (length texts) (length old.contents)

  pub declared_whole : IsProgram texts new
  declared_whole =
      same_whole texts old new (declared_dynamic pred (database old.procedures)) whole declares.contents declares.database
      (all_changed Known Known (λ p k. k) (λ (p : ProcedureNow). same_pred pred p.pred) (λ (p : ProcedureNow). record p { kind = kind.Dynamic })
      (record { pred = pred; kind = kind.Dynamic; clauses = [] }) (λ p k. record { name = k.name; numbers = k.numbers })
      (record { name = known; numbers = All-nil (λ n. n < length old.contents) }) (database old.procedures) whole.procedures)

-- ---- more names

module _ (old new : List Text) (kept : KeepsTexts old new) where
  at_most : length old ≤ length new
  at_most = go old kept
    where
      go : (texts : List Text) → KeepsTexts texts new → length texts ≤ length new
      go [] k = omega arith
      go (text ∷ texts) k =
          let there = slice_get-get_or (text ∷ texts) (length texts) text (omega arith) in
          let within : length texts < length new = slice_get_within new (length texts) (get_or (text ∷ texts) (length texts) text) (k (length texts) (get_or (text ∷ texts) (length texts) text) there) in
          omega arith

  text-kept : (a : ℕ) → a < length old → text_of new a ≡ text_of old a
  text-kept a within = get_or_from_slice_get new a (text_of old a) [] (kept a (text_of old a) (slice_get-get_or old a [] within))

  mutual
    named-kept : (t : HeapTerm) → HasNamesBelow (length old) t → named (text_of new) t ≡ named (text_of old) t
    named-kept (Var v) h = refl
    named-kept (Number q) h = refl
    named-kept (Name a) h = ap (λ x. Name x) (text-kept a h)
    named-kept (Compound f ts) h = λ i. Compound (text-kept f h.0 i) (named_all-kept ts h.1 i)

    named_all-kept : (ts : Terms ℕ) → HaveNamesBelow (length old) ts → named_all (text_of new) ts ≡ named_all (text_of old) ts
    named_all-kept (one t) h = ap (λ x. one x) (named-kept t h)
    named_all-kept (more t ts) h = λ i. more (named-kept t h.0 i) (named_all-kept ts h.1 i)

  module _ (v : Program) (whole : IsProgram old v) where
    pub names_whole : IsProgram new v
    names_whole = record {
      contents = All-weaker (IsCounted (length old)) (IsCounted (length new))
          (λ c k. record {
            below = record { head = names_more (length old) (length new) at_most c.head k.below.head; body = names_more (length old) (length new) at_most c.body k.below.body };
            numbered = k.numbered;
          }) v.contents whole.contents;
      procedures = All-weaker (IsKnown (length old) (length v.contents)) (IsKnown (length new) (length v.contents))
          (λ p k. record { name = omega (arith, at_most, k.name); numbers = k.numbers }) (database v.procedures) whole.procedures;
    }

    clause-named : (n : ℕ) → n < length v.contents → as_clause new v.contents n ≡ as_clause old v.contents n
    clause-named n within =
        let none : ClauseValue = record { head = blank; body = blank; variables = 0 } in
        let is : IsCounted (length old) (get_or v.contents n none) = whole.contents n none within in
        λ i. record {
          number = n;
          parts = record {
            head = named-kept (get_or v.contents n none).head is.below.head i;
            body = named-kept (get_or v.contents n none).body is.below.body i;
          };
        }

    clauses-named : (ns : List ℕ) → All (λ n. n < length v.contents) ns → map (as_clause new v.contents) ns ≡ map (as_clause old v.contents) ns
    clauses-named [] h = refl
    clauses-named (n ∷ ns) h =
        λ i. clause-named n (All-head (λ n. n < length v.contents) n ns h) i ∷ clauses-named ns (All-tail (λ n. n < length v.contents) n ns h) i

    procedures-named : (ps : List ProcedureNow) → All (IsKnown (length old) (length v.contents)) ps → map (as_procedure new v.contents) ps ≡ map (as_procedure old v.contents) ps
    procedures-named [] h = refl
    procedures-named (p ∷ ps) h =
        let k = All-head (IsKnown (length old) (length v.contents)) p ps h in
        λ i. record {
          indicator = record { name = text-kept p.pred.name k.name i; arity = p.pred.arity };
          kind = as_kind p.kind;
          clauses = clauses-named p.clauses k.numbers i;
        } ∷ procedures-named ps (All-tail (IsKnown (length old) (length v.contents)) p ps h) i

    pub database-named : (ops : Ops) → as_database new ops v ≡ as_database old ops v
    database-named ops = λ i. record { procedures = procedures-named (database v.procedures) whole.procedures i; operators = ops; next_clause = length v.contents }
