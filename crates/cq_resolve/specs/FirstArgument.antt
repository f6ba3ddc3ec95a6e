-- What the first argument of a term shows.
use Rattle.std.specs.Prelude.{ℕ, None, Some, ⊤}
use Rattle.std.specs.declared.option.Option.{Option}
use Rattle.spec_terms.specs.Term.{Terms, Var, Number, Name, Compound, one, more}
use Rattle.cq_term.specs.Meaning.{HeapTerm}
use Rattle.cq_term.specs.Shown.{view_of}
use Rattle.cq_term.specs.declared.view.View.{View}
use Rattle.cq_term.specs.declared.view.View.TheVariants as view

abbrev pub first_of : Terms ℕ → HeapTerm
first_of (one t) = t
first_of (more t ts) = t

-- the head of the first argument, which only a compound has
abbrev pub first_shown : HeapTerm → Option View
first_shown (Var v) = None
first_shown (Number q) = None
first_shown (Name a) = None
first_shown (Compound f ts) = Some (view_of (first_of ts))

-- it is the head of no variable
abbrev pub IsRigid : View → Type 0
IsRigid (view.Var v) = ⊥
IsRigid (view.Number q) = ⊤
IsRigid (view.Name a) = ⊤
IsRigid (view.Compound f n) = ⊤
