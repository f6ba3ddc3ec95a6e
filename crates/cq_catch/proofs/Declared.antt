-- Predicates that are declared: why they are refused, and what making all of them dynamic is.
use Rattle.std.proofs.Common.{◌≡◌, ◌<◌, ℕ, List, [], ◌∷◌, length, map, Option, None, refl, sym, ap, ap₂, subst, ◌∙◌}
use Rattle.std.specs.Prelude.{All, fold}
use Rattle.std.proofs.lemmas.List.Elements.{All-head, All-tail}
use Rattle.spec_numbers.specs.Texts.{Text}
use Rattle.spec_syntax.specs.Operators.{Ops}
use Rattle.spec_syntax.specs.Trees.{Tree}
use Rattle.spec_builtins.specs.Built.{Indicator}
use Rattle.spec_builtins.specs.Errors.{or_error}
use Rattle.spec_builtins.specs.Clauses.{declarations, declaration_error}
use Rattle.spec_search.specs.Builtins.{is_built_in}
use Rattle.spec_search.specs.Database.{Database, all_declared, declared_dynamic}
use Rattle.cq_term.specs.Meaning.{HeapTerm}
use Rattle.cq_term.specs.declared.names.Pred.{Pred}
use Rattle.cq_built.specs.declared.errors.BuiltinFault.{BuiltinFault}
use Rattle.cq_built.specs.declared.errors.BuiltinFault.TheVariants as builtin_fault
use Rattle.cq_built.specs.Faults.{IsFound}
use Rattle.cq_clauses.specs.ClausesValue.{Declares, DeclaresAll}
use Rattle.cq_clauses.specs.Database as clauses
use Rattle.cq_clauses.specs.Database.{ProcedureNow, database}
use Rattle.cq_clauses.specs.Procedures.{with_dynamic}
use Rattle.cq_clauses.proofs.Removed.{database_dynamic}
use Rattle.cq_goals.specs.Declarations.{own_error, built_in_error}
use Rattle.cq_resolve.specs.Database.{Program, IsProgram, IsCounted, IsKnown, as_database, as_indicator, as_procedure}

-- ---- errors in turn

module _ (t : Tree) (turn : declaration_error is_built_in t ≡ or_error (own_error t) (built_in_error is_built_in (declarations t))) where
  pub found_among : (is : List Indicator) (o : Option Tree) → own_error t ≡ None → is ≡ declarations t → built_in_error is_built_in is ≡ o → declaration_error is_built_in t ≡ o
  found_among is o own are found =
      turn ∙ ap₂ (λ (x : Option Tree) (l : List Indicator). or_error x (built_in_error is_built_in l)) own (sym are) ∙ found

  pub found_first : (texts : List Text) (ts : List HeapTerm) (f : BuiltinFault) → IsFound texts ts (own_error t) f → IsFound texts ts (declaration_error is_built_in t) f
  found_first texts ts (builtin_fault.Error e) h = turn ∙ ap (λ (o : Option Tree). or_error o (built_in_error is_built_in (declarations t))) h
  found_first texts ts builtin_fault.NoMemory h = tt

-- ---- one after another

-- the program in which the first of them is dynamic
abbrev first_made : Pred → Program → Program
first_made pred v = record { contents = v.contents; procedures = with_dynamic pred v.procedures }

first_declares : (pred : Pred) (v : Program) → Declares pred v (first_made pred v)
first_declares pred v = record { contents = refl; database = database_dynamic pred v.procedures }

-- from there the others are made dynamic
others_declare : (pred : Pred) (preds : List Pred) (old new : Program) → DeclaresAll (pred ∷ preds) old new → DeclaresAll preds (first_made pred old) new
others_declare pred preds old new all = record {
  contents = all.contents;
  database = all.database
      ∙ ap (λ (db : List ProcedureNow). fold (λ (ps : List ProcedureNow) (p : Pred). clauses.declared_dynamic p ps) db preds) (sym (database_dynamic pred old.procedures));
}

module _ (texts : List Text) where
  abbrev AreKnown : List Pred → Type 0
  AreKnown ps = All (λ (p : Pred). p.name < length texts) ps

  same_program : (old new : Program) → DeclaresAll [] old new → IsProgram texts old → IsProgram texts new
  same_program old new all was = record {
    contents = subst (All (IsCounted (length texts))) (sym all.contents) was.contents;
    procedures = subst (λ (n : ℕ). All (IsKnown (length texts) n) (database new.procedures)) (sym (ap length all.contents))
        (subst (All (IsKnown (length texts) (length old.contents))) (sym all.database) was.procedures);
  }

  module _ (program : (p : Pred) (a b : Program) → IsProgram texts a → p.name < length texts → Declares p a b → IsProgram texts b) where
    after_first : (pred : Pred) (preds : List Pred) (old : Program) → IsProgram texts old → AreKnown (pred ∷ preds) → IsProgram texts (first_made pred old)
    after_first pred preds old was known =
        program pred old (first_made pred old) was (All-head (λ (p : Pred). p.name < length texts) pred preds known) (first_declares pred old)

    pub all_programs : (preds : List Pred) (old new : Program) → DeclaresAll preds old new → IsProgram texts old → AreKnown preds → IsProgram texts new
    all_programs [] old new all was known = same_program old new all was
    all_programs (pred ∷ preds) old new all was known =
        all_programs preds (first_made pred old) new (others_declare pred preds old new all) (after_first pred preds old was known)
        (All-tail (λ (p : Pred). p.name < length texts) pred preds known)

    module _ (ops : Ops) (database : (p : Pred) (a b : Program) → IsProgram texts a → p.name < length texts → Declares p a b
        → as_database texts ops b ≡ declared_dynamic (as_database texts ops a) (as_indicator texts p)) where
      pub all_databases : (preds : List Pred) (old new : Program) → DeclaresAll preds old new → IsProgram texts old → AreKnown preds
          → as_database texts ops new ≡ all_declared (map (as_indicator texts) preds) (as_database texts ops old)
      all_databases [] old new all was known =
          λ i. record { procedures = map (as_procedure texts (all.contents i)) (all.database i); operators = ops; next_clause = length (all.contents i) }
      all_databases (pred ∷ preds) old new all was known =
          let P = λ (p : Pred). p.name < length texts in
          let mid = first_made pred old in
          all_databases preds mid new (others_declare pred preds old new all) (after_first pred preds old was known) (All-tail P pred preds known)
          ∙ ap (λ (db : Database). all_declared (map (as_indicator texts) preds) db)
          (database pred old mid was (All-head P pred preds known) (first_declares pred old))
