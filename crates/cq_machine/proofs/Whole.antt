-- A goal's called term with its further arguments, as a machine builds it.
use Rattle.std.proofs.Common.{◌≡◌, ◌<◌, ℕ, List, length, drop, Some, refl, sym, ap₂, ◌∙◌, subst}
use Rattle.std.specs.Prelude.{slice_get}
use Rattle.spec_numbers.specs.Texts.{Text}
use Rattle.spec_terms.specs.Term.{Var, Number, Name, Compound}
use Rattle.spec_syntax.specs.Trees.{Tree}
use Rattle.spec_builtins.specs.Terms as builtins
use Rattle.spec_search.specs.Control.{with_more}
use Rattle.spec_search.specs.Replies.{Place}
use Rattle.spec_search.specs.Rows.{nth}
use Rattle.spec_numbers.specs.Rational.{ℚ}
use Rattle.cq_frac.specs.declared.VarId.{VarId}
use Rattle.cq_term.specs.Meaning.{HeapTerm, at}
use Rattle.cq_term.specs.Names.{HasNamesBelow}
use Rattle.cq_term.specs.Shown.{arguments, view_of}
use Rattle.cq_term.specs.declared.view.View.TheVariants as view
use Rattle.cq_term.specs.Trees.{tree}
use Rattle.cq_branch.specs.Worlds.{ReadsAs}
use Rattle.cq_branch.proofs.Added.{reads_tree}
use Rattle.cq_branch.proofs.Arguments.{argument_reads}
use Rattle.cq_branch.proofs.Reading.{tree_read}
use Rattle.cq_machine.specs.declared.machine.Machine.{Machine}
use Rattle.cq_machine.specs.Machines.{terms, now, HasBuilt}
use Rattle.cq_machine.proofs.Built.{lists_same}
use Rattle.cq_machine.specs.Calls.{HasName, HasNoName}
use Rattle.cq_machine.proofs.More.{whole_reads}
use Rattle.cq_calls.proofs.Waiting.{same_grown}

pub named_below : (n : ℕ) (h : HeapTerm) (a : ℕ) → HasNamesBelow n h → HasName h a → a < n
named_below n (Var v) a b e = absurd e
named_below n (Number q) a b e = absurd e
named_below n (Name x) a b e = subst (λ (y : ℕ). y < n) (sym e) b
named_below n (Compound x ts) a b e = subst (λ (y : ℕ). y < n) (sym e) b.0

-- ---- what a term shows

pub shows_name : (h : HeapTerm) (a : ℕ) → view_of h ≡ view.Name a → HasName h a
shows_name (Var v) a e = cc
shows_name (Number q) a e = cc
shows_name (Name b) a e = cc
shows_name (Compound f ts) a e = cc

pub shows_functor : (h : HeapTerm) (a n : ℕ) → view_of h ≡ view.Compound a n → HasName h a
shows_functor (Var v) a n e = cc
shows_functor (Number q) a n e = cc
shows_functor (Name b) a n e = cc
shows_functor (Compound f ts) a n e = cc

pub shows_variable : (h : HeapTerm) (v : VarId) → view_of h ≡ view.Var v → HasNoName h
shows_variable (Var w) v e = tt
shows_variable (Number q) v e = tt
shows_variable (Name b) v e = cc
shows_variable (Compound f ts) v e = cc

pub shows_number : (h : HeapTerm) (q : ℚ) → view_of h ≡ view.Number q → HasNoName h
shows_number (Var w) q e = tt
shows_number (Number r) q e = tt
shows_number (Name b) q e = cc
shows_number (Compound f ts) q e = cc

-- ---- the whole

-- it reads as itself
pub whole_is : (old new : Machine) (goal called whole : ℕ) (p : Place) (g : Tree) → HasBuilt old new → ReadsAs old.atoms (now old).0 p.state goal g → called < length (terms old)
    → slice_get (arguments (at (terms old) goal)) 0 ≡ Some (at (terms old) called) → whole < length (terms new)
    → tree old.atoms (terms new) whole ≡ with_more (tree old.atoms (terms old) called) (drop 1 (builtins.arguments (tree old.atoms (terms old) goal)))
    → ReadsAs new.atoms (now new).0 p.state whole (with_more (nth (builtins.arguments g) 0) (drop 1 (builtins.arguments g)))
whole_is old new goal called whole p g b r l e w is =
    let t : Tree = nth (builtins.arguments g) 0 in
    let a = argument_reads old.atoms (now old).0 p.state goal 0 called g r l e in
    let same : tree old.atoms (terms new) whole ≡ with_more t (drop 1 (builtins.arguments g)) =
    is ∙ ap₂ (λ (x y : Tree). with_more x (drop 1 (builtins.arguments y))) (reads_tree old.atoms (now old).0 p.state called t a) (reads_tree old.atoms (now old).0 p.state goal g r) in
    subst (λ (texts : List Text). ReadsAs texts (now new).0 p.state whole (with_more t (drop 1 (builtins.arguments g)))) (sym b.program.atoms)
    (tree_read old.atoms (terms new) whole (with_more t (drop 1 (builtins.arguments g))) w same, whole_reads p.state.bindings g t r.1 a.1)

-- nothing was built
pub built_none : (m : Machine) → HasBuilt m m
built_none m = record {
  program = record { atoms = refl; names = refl; ops = refl; clauses = refl; budget = refl };
  lists = refl;
  choices = refl;
  saved = refl;
  grown = same_grown m.atoms (now m).0 (now m).0 (now m).1 (now m).1 refl (lists_same (now m).1);
}
