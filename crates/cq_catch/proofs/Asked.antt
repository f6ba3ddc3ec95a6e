-- A goal that asks for clauses leads an engine to the choice that compares them.
use Rattle.std.proofs.Common.{◌≡◌, ℕ, List, [], ◌∷◌, ◌++◌, Bool, None, refl, sym, ap, ap₂, ◌∙◌, subst, map}
use Rattle.spec_numbers.specs.Texts.{Text}
use Rattle.spec_builtins.specs.Built.{Indicator}
use Rattle.spec_builtins.specs.Clauses.{HeadBody}
use Rattle.spec_branch.specs.Branch.{Branch}
use Rattle.spec_search.specs.Changes.{clause_match, clauses_for}
use Rattle.spec_search.specs.Database.{Database, Clause, procedure_of, snapshot}
use Rattle.spec_search.specs.Replies.{Place, made}
use Rattle.cq_clauses.specs.Database.{clauses_of, database}
use Rattle.cq_clauses.specs.Walks.{left}
use Rattle.cq_clauses.specs.declared.walk.Walk.{Walk}
use Rattle.cq_control.specs.Open.{open_choices}
use Rattle.cq_resolve.specs.Database.{Program, as_clause, as_database, as_indicator}
use Rattle.cq_resolve.specs.Keys.{key_of}
use Rattle.cq_resolve.specs.StoredValue.{ClauseValue}
use Rattle.cq_term.specs.declared.names.Pred.{Pred}
use Rattle.cq_settle.specs.Contents.{Contents}
use Rattle.spec_engine.specs.Cells.{Matches, Stack, Value}
use Rattle.spec_engine.specs.Coming.{at_once}
use Rattle.spec_engine.specs.Standing.{removed_by, AreWaiting}
use Rattle.cq_branch.specs.Worlds.{IsBranch, term_in, Leads, stack, left_at}
use Rattle.cq_branch.specs.declared.alternatives.Alternatives.{Alternatives}
use Rattle.cq_branch.specs.declared.alternatives.Alternatives.TheVariants as alternatives
use Rattle.cq_catch.specs.Asking.{IsAskedAt, answers}

module _ (texts : List Text) (v : Program) (saved : List (Value Contents)) (choices : List Alternatives) (now : Value Contents) (pred : Pred) (id rest : ℕ) (p : Place)
    (behind : List Branch) (a : HeadBody) (c : IsAskedAt texts v (stack texts v saved choices) now pred id rest p behind a) (removes : Bool) where
  abbrev clauses : List ℕ → List Clause
  clauses ns = map (as_clause texts v.contents) ns

  abbrev numbers : List ℕ
  numbers = clauses_of pred (database v.procedures)

  module _ (clauses_are : snapshot (procedure_of (as_database texts c.operators v) (as_indicator texts pred)) ≡ clauses numbers)
      (walk : Walk) (tried : left (λ (d : ClauseValue). key_of d.head) walk v ≡ numbers) (more : List (Value Contents)) (after : List Alternatives)
      (pushed : open_choices more after ≡ (now, alternatives.Matches id walk removes rest) ∷ open_choices saved choices) where
    shown : clauses_for p a.head ≡ clauses numbers
    shown = ap₂ (λ (db : Database) (i : Indicator). snapshot (procedure_of db i)) c.database (sym c.indicator) ∙ clauses_are

    stack_is : stack texts v more after ≡ (now, Matches id removes (clauses numbers) rest) ∷ stack texts v saved choices
    stack_is = ap (map (left_at texts v)) pushed ∙ ap (λ (ns : List ℕ). (now, Matches id removes (clauses ns) rest) ∷ stack texts v saved choices) tried

    abbrev children : List Branch
    children = map (clause_match p (removed_by removes) a) (clauses_for p a.head)

    waits : AreWaiting (IsBranch texts) (term_in texts) ((now, Matches id removes (clauses numbers) rest) ∷ stack texts v saved choices) (children ++ behind)
    waits = (children, behind, refl, (p, a, ap (map (clause_match p (removed_by removes) a)) shown, c.reads, c.place.0), c.place.1)

    pub leads : (later : Value Contents) → Leads texts (stack texts v more after) later None p behind (answers p removes a)
    leads later = record {
      made = made p children;
      row = refl;
      database = refl;
      output = refl;
      comes = λ steps t d e. record {
        reached = t;
        quiet = at_once;
        stands = record {
          database = d;
          selected = refl;
          first = [];
          behind = children ++ behind;
          branches = e;
          current = refl;
          waiting = subst (λ (x : Stack Contents). AreWaiting (IsBranch texts) (term_in texts) x (children ++ behind)) (sym stack_is) waits;
        };
      };
    }
