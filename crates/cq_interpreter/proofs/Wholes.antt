-- What an interpreter keeps where names are added.
use Rattle.std.proofs.Common.{◌≡◌, ℕ, zero, suc, ◌<◌, ◌≤◌, List, [], ◌∷◌, length, map, refl, sym, ap, ◌∙◌, subst, arith}
use Rattle.std.specs.Prelude.{All, Some, slice_get, codes}
use Rattle.std.proofs.lemmas.List.Elements.{All-head, All-tail, All-weaker}
use Rattle.spec_numbers.specs.Texts.{Text}
use Rattle.spec_syntax.specs.Trees.{Tree}
use Rattle.cq_term.specs.Texts.{text_of, KeepsTexts}
use Rattle.cq_built.proofs.Trees.{named_alike, name_known}
use Rattle.cq_write.proofs.Steps.{text_there}
use Rattle.cq_term.proofs.Known.{names_more}
use Rattle.cq_term.proofs.Named.{text_is}
use Rattle.cq_resolve.specs.StoredValue.{ClauseValue, HaveNamesBelow}
use Rattle.cq_resolve.specs.Database.{as_database}
use Rattle.cq_write.specs.Meaning.{operators}
use Rattle.cq_machine.specs.declared.machine.Machine.{Machine}
use Rattle.cq_machine.specs.Machines.{database_of, HasSameProgram}
use Rattle.cq_engine.specs.Seeking.{IsKept}
use Rattle.cq_interpreter.specs.Toplevels.{asked, texts, program_of, IsWhole}
use Rattle.cq_interpreter.specs.declared.toplevel.Toplevel.{Toplevel}
use Rattle.cq_interpreter.specs.declared.toplevel.Waiting.{Waiting}

module _ (old new : List Text) (keeps : KeepsTexts old new) where
  text_stays : (i : ℕ) → i < length old → text_of new i ≡ text_of old i
  text_stays i l = text_is new i (text_of old i) (keeps i (text_of old i) (text_there old i l))

  longer_by : (n : ℕ) → length old ≡ n → n ≤ length new
  longer_by zero e = omega arith
  longer_by (suc n) e =
      let there : n < length old = omega (arith, e) in
      name_known new n (text_of old n) (keeps n (text_of old n) (text_there old n there))

  longer : length old ≤ length new
  longer = longer_by (length old) refl

  pub below_stays : (c : ClauseValue) → HaveNamesBelow (length old) c → HaveNamesBelow (length new) c
  below_stays c h = record { head = names_more (length old) (length new) longer c.head h.head; body = names_more (length old) (length new) longer c.body h.body }

  pub asked_stays : (w : Waiting) → HaveNamesBelow (length old) w.clause → asked new w ≡ asked old w
  asked_stays w h = ap (λ (g : Tree). record { goal = g; variables = record { names = w.names.items; count = w.clause.variables } })
      (named_alike (length old) (text_of new) (text_of old) text_stays w.clause.body h.body)

  pub all_asked_stay : (ws : List Waiting) → All (λ w. HaveNamesBelow (length old) w.clause) ws → map (asked new) ws ≡ map (asked old) ws
  all_asked_stay [] h = refl
  all_asked_stay (w ∷ ws) h =
      λ i. asked_stays w (All-head (λ (x : Waiting). HaveNamesBelow (length old) x.clause) w ws h) i
      ∷ all_asked_stay ws (All-tail (λ (x : Waiting). HaveNamesBelow (length old) x.clause) w ws h) i

  all_below_stay : (ws : List Waiting) → All (λ w. HaveNamesBelow (length old) w.clause) ws → All (λ w. HaveNamesBelow (length new) w.clause) ws
  all_below_stay ws h =
      All-weaker (λ (w : Waiting). HaveNamesBelow (length old) w.clause) (λ (w : Waiting). HaveNamesBelow (length new) w.clause)
      (λ w b. below_stays w.clause b) ws h

-- with the same goals that wait
module _ (t u : Toplevel) (whole : IsWhole t) (keeps : KeepsTexts (texts t) (texts u)) (later : u.later.items ≡ t.later.items) where
  pub goals_kept : (program_of u).later ≡ (program_of t).later
  goals_kept = ap (map (asked (texts u))) later ∙ all_asked_stay (texts t) (texts u) keeps t.later.items whole.later

  pub program_kept : database_of u.engine.machine ≡ database_of t.engine.machine → program_of u ≡ program_of t
  program_kept same = λ i. record { database = same i; later = goals_kept i }

  pub whole_kept : IsKept u.engine.machine → u.freeze ≡ t.freeze → IsWhole u
  whole_kept kept name = record {
    engine = kept;
    freeze = subst (λ (a : ℕ). slice_get (texts u) a ≡ Some (codes "freeze")) (sym name) (keeps t.freeze (codes "freeze") whole.freeze);
    later = subst (All (λ (w : Waiting). HaveNamesBelow (length (texts u)) w.clause)) (sym later) (all_below_stay (texts t) (texts u) keeps t.later.items whole.later);
  }

-- ---- the first of the goals that wait is taken away

module _ (t : Toplevel) (w : Waiting) (rest : List Waiting) (first : t.later.items ≡ w ∷ rest) (whole : IsWhole t) where
  abbrev AreBelow : List Waiting → Type 0
  AreBelow ws = All (λ (x : Waiting). HaveNamesBelow (length (texts t)) x.clause) ws

  pub first_below : HaveNamesBelow (length (texts t)) w.clause
  first_below = All-head (λ (x : Waiting). HaveNamesBelow (length (texts t)) x.clause) w rest (subst AreBelow first whole.later)

  pub rest_below : AreBelow rest
  rest_below = All-tail (λ (x : Waiting). HaveNamesBelow (length (texts t)) x.clause) w rest (subst AreBelow first whole.later)

  -- another one that has the others
  pub whole_rest : (u : Toplevel) → KeepsTexts (texts t) (texts u) → IsKept u.engine.machine → u.freeze ≡ t.freeze → u.later.items ≡ rest → IsWhole u
  whole_rest u keeps kept name others = record {
    engine = kept;
    freeze = subst (λ (a : ℕ). slice_get (texts u) a ≡ Some (codes "freeze")) (sym name) (keeps t.freeze (codes "freeze") whole.freeze);
    later = subst (All (λ (x : Waiting). HaveNamesBelow (length (texts u)) x.clause)) (sym others) (all_below_stay (texts t) (texts u) keeps rest rest_below);
  }

-- the same program in a machine, by the same parts
pub same_database : (m n : Machine) → HasSameProgram m n → database_of n ≡ database_of m
same_database m n s = λ i. as_database (s.atoms i) (operators (s.atoms i) (s.ops i)) (s.clauses i)
