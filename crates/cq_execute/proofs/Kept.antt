-- What a machine keeps where it is asked, where terms are built, and where a child is settled.
use Rattle.std.proofs.Common.{◌≡◌, ◌<◌, ℕ, List, ◌++◌, length, Option, Some, refl, sym, ◌∙◌, subst}
use Rattle.spec_numbers.specs.Texts.{Text}
use Rattle.spec_syntax.specs.Trees.{Tree}
use Rattle.spec_branch.specs.Branch.{Branch}
use Rattle.spec_search.specs.Database.{Database}
use Rattle.spec_search.specs.Replies.{Place, Reply}
use Rattle.spec_search.specs.Search.{Search}
use Rattle.spec_search.specs.Steps.{Steps, ball_of}
use Rattle.spec_search.specs.Turns.{older}
use Rattle.cq_term.specs.Texts.{AreDifferent}
use Rattle.cq_built.specs.Errors.{error_tree, HasCulprit}
use Rattle.cq_built.specs.declared.errors.BuiltinError.{BuiltinError}
use Rattle.cq_control.specs.Open.{AreMarked}
use Rattle.cq_ops.specs.Tables.{AreNamed}
use Rattle.cq_resolve.specs.Database.{Program, IsProgram}
use Rattle.cq_term.specs.Trees.{tree, KnowsTerms}
use Rattle.cq_settle.specs.Contents.{Contents}
use Rattle.spec_engine.specs.declared.machine.cell.Cell.{Cell}
use Rattle.spec_engine.specs.Cells.{Value, Stack}
use Rattle.spec_engine.specs.Standing.{engine, IsStanding}
use Rattle.cq_branch.specs.Choices.{AreOpen}
use Rattle.cq_branch.specs.Lists.{KeepsLists}
use Rattle.cq_branch.specs.Worlds.{IsBranch, term_in, stack, Leads, Grown, Placed}
use Rattle.cq_branch.specs.declared.alternatives.Alternatives.{Alternatives}
use Rattle.cq_branch.proofs.Added.{tree_is}
use Rattle.cq_branch.proofs.Reading.{read_live, tree_read}
use Rattle.cq_branch.proofs.Selected.{continuation_grown, standing_grown}
use Rattle.cq_machine.specs.declared.machine.Machine.{Machine}
use Rattle.cq_machine.specs.Machines.{terms, now, saved, holds, AreNames, IsSound, HasSameProgram, HasBuilt}
use Rattle.cq_machine.proofs.Built.{lists_same}
use Rattle.cq_execute.specs.Machines.{IsUnchanged}

-- ---- a sound machine

-- the same program, marks and choices, and terms whose names are known
pub sound_kept : (old new : Machine) → IsSound old → HasSameProgram old new → KnowsTerms old.atoms (terms new) → saved new ≡ saved old → new.choices ≡ old.choices → IsSound new
sound_kept old new s same names marks choices = record {
  known = subst (λ (a : List Text). AreNames a new.names) (sym same.atoms) (subst (AreNames old.atoms) (sym same.names) s.known);
  different = subst AreDifferent (sym same.atoms) s.different;
  names = subst (λ (a : List Text). KnowsTerms a (terms new)) (sym same.atoms) names;
  program = subst (λ (a : List Text). IsProgram a new.clauses) (sym same.atoms) (subst (IsProgram old.atoms) (sym same.clauses) s.program);
  operators_named = subst (λ (a : List Text). AreNamed a new.ops) (sym same.atoms) (subst (AreNamed old.atoms) (sym same.ops) s.operators_named);
  marked = subst (λ (l : List (Value Contents)). AreMarked l new.choices) (sym marks) (subst (λ (cs : List Alternatives). AreMarked (saved old) cs) (sym choices) s.marked);
  untried = subst (λ (a : List Text). AreOpen a new.clauses (saved new) new.choices) (sym same.atoms)
      (subst (λ (v : Program). AreOpen old.atoms v (saved new) new.choices) (sym same.clauses)
      (subst (λ (l : List (Value Contents)). AreOpen old.atoms old.clauses l new.choices) (sym marks)
      (subst (λ (cs : List Alternatives). AreOpen old.atoms old.clauses (saved old) cs) (sym choices) s.untried)));
}

-- ---- a machine that was asked

-- nothing was added
pub unchanged_built : (old new : Machine) → IsUnchanged old new → HasBuilt old new
unchanged_built old new u = record {
  program = u.program;
  lists = u.lists;
  choices = u.choices;
  saved = u.saved;
  grown = subst (λ (v : Value Contents). Grown old.atoms (now old) v) (sym u.now) (record { state = λ st i. i; terms = λ id t r. r; lists = lists_same (now old).1 });
}

pub unchanged_sound : (old new : Machine) → IsSound old → IsUnchanged old new → IsSound new
unchanged_sound old new s u = sound_kept old new s u.program (subst (λ (v : Value Contents). KnowsTerms old.atoms v.0.heap.terms) (sym u.now) s.names) u.saved u.choices

-- it leads where it led
pub unchanged_leads : (old new : Machine) (current : Option ℕ) (p : Place) (behind : List Branch) (r : Reply) → IsUnchanged old new
    → Leads old.atoms (holds old) (now old) current p behind r → Leads new.atoms (holds new) (now new) current p behind r
unchanged_leads old new current p behind r u l =
    subst (λ (a : List Text). Leads a (stack a new.clauses (saved new) new.choices) (now new) current p behind r) (sym u.program.atoms)
    (subst (λ (v : Program). Leads old.atoms (stack old.atoms v (saved new) new.choices) (now new) current p behind r) (sym u.program.clauses)
    (subst (λ (m : List (Value Contents)). Leads old.atoms (stack old.atoms old.clauses m new.choices) (now new) current p behind r) (sym u.saved)
    (subst (λ (c : List Alternatives). Leads old.atoms (stack old.atoms old.clauses (saved old) c) (now new) current p behind r) (sym u.choices)
    (subst (λ (v : Value Contents). Leads old.atoms (holds old) v current p behind r) (sym u.now) l))))

-- an error is read as before
pub unchanged_ball : (old new : Machine) (p : Place) (g : Tree) (e : BuiltinError) → IsUnchanged old new → Steps p g (ball_of g (error_tree old.atoms (terms old) e))
    → Steps p g (ball_of g (error_tree new.atoms (terms new) e))
unchanged_ball old new p g e u h =
    subst (λ (a : List Text). Steps p g (ball_of g (error_tree a (terms new) e))) (sym u.program.atoms)
    (subst (λ (v : Value Contents). Steps p g (ball_of g (error_tree old.atoms v.0.heap.terms e))) (sym u.now) h)

-- ---- a machine that has built terms

placed_grown : (texts : List Text) (choices : Stack Contents) (old new : Value Contents) (rest : ℕ) (p : Place) (behind : List Branch) → Grown texts old new
    → Placed texts choices old rest p behind → Placed texts choices new rest p behind
placed_grown texts choices old new rest p behind g s = (
  record { continuation = continuation_grown (IsBranch texts) (term_in texts) choices old new g rest p.rest p.state s.0.continuation; height = s.0.height },
  s.1,
)

-- where a goal is selected, it still is
pub placed_on : (old new : Machine) (rest : ℕ) (p : Place) (behind : List Branch) → HasBuilt old new → Placed old.atoms (holds old) (now old) rest p behind
    → Placed new.atoms (holds new) (now new) rest p behind
placed_on old new rest p behind b s =
    subst (λ (a : List Text). Placed a (stack a new.clauses (saved new) new.choices) (now new) rest p behind) (sym b.program.atoms)
    (subst (λ (v : Program). Placed old.atoms (stack old.atoms v (saved new) new.choices) (now new) rest p behind) (sym b.program.clauses)
    (subst (λ (l : List (Value Contents)). Placed old.atoms (stack old.atoms old.clauses l new.choices) (now new) rest p behind) (sym b.saved)
    (subst (λ (c : List Alternatives). Placed old.atoms (stack old.atoms old.clauses (saved old) c) (now new) rest p behind) (sym b.choices)
    (placed_grown old.atoms (holds old) (now old) (now new) rest p behind b.grown s))))

module _ (old new : Machine) (b : HasBuilt old new) (id : ℕ) (l : id < length (terms old)) where
  read_still : term_in old.atoms (now new).0 id ≡ Some (tree old.atoms (terms old) id)
  read_still = b.grown.terms id (tree old.atoms (terms old) id) (tree_read old.atoms (terms old) id (tree old.atoms (terms old) id) l refl)

  -- a term is still there, and is the same
  pub live_on : id < length (terms new)
  live_on = read_live old.atoms (terms new) id (tree old.atoms (terms old) id) read_still

  pub tree_on : tree new.atoms (terms new) id ≡ tree old.atoms (terms old) id
  tree_on =
      subst (λ (a : List Text). tree a (terms new) id ≡ tree old.atoms (terms old) id) (sym b.program.atoms)
      (tree_is old.atoms (terms new) id (tree old.atoms (terms old) id) read_still)

-- ---- a child that was settled

-- where a row leads to a continuation, the names of the terms are known
pub names_ahead : (texts : List Text) (choices : Stack Contents) (now : Value Contents) (k : ℕ) (p : Place) (behind : List Branch) (r : Reply)
    → Leads texts choices now (Some k) p behind r → KnowsTerms texts now.0.heap.terms
names_ahead texts choices now k p behind r l =
    let s : Search = record { database = p.database; branches = l.made.children ++ older l.made.keeps behind; selected = 0 } in
    let c = l.comes 0 s refl refl in
    c.stands.current.3.state.ready.stands.names

pub names_same : (texts : List Text) (old later : Contents) → KnowsTerms texts old.heap.terms → later ≡ old → KnowsTerms texts later.heap.terms
names_same texts old later known e = subst (λ (c : Contents). KnowsTerms texts c.heap.terms) (sym e) known

-- the same world, and more continuations: it stands for what it stood for
pub stands_same : (m : Machine) (more : List (Value Contents)) (later : Contents) (lists : List (List Cell)) → more ≡ saved m → later ≡ (now m).0 → KeepsLists (now m).1 lists
    → (db : Database) (n : ℕ) (current : Option ℕ) (s : Search) → IsStanding (IsBranch m.atoms) (term_in m.atoms) (engine db n (holds m) (now m) current) s
    → IsStanding (IsBranch m.atoms) (term_in m.atoms) (engine db n (stack m.atoms m.clauses more m.choices) (later, lists) current) s
stands_same m more later lists e f keeps = λ db n current s j.
    subst (λ (l : List (Value Contents)). IsStanding (IsBranch m.atoms) (term_in m.atoms) (engine db n (stack m.atoms m.clauses l m.choices) (later, lists) current) s) (sym e)
    (standing_grown (IsBranch m.atoms) (term_in m.atoms) db n (holds m) (now m) (later, lists)
    (subst (λ (w : Contents). Grown m.atoms (now m) (w, lists)) (sym f) (record { state = λ st i. i; terms = λ id t r. r; lists = keeps })) current s j)
