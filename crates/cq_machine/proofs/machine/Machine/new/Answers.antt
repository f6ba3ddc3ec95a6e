use Rattle.std.proofs.Common.{◌≡◌, List, [], length, refl, sym, ap, ap₂, ◌∙◌, subst, arith}
use Rattle.std.specs.List.{zip}
use Rattle.spec_numbers.specs.Texts.{Text}
use Rattle.spec_syntax.specs.Operators.{Ops}
use Rattle.spec_syntax.specs.Standard.{standard}
use Rattle.cq_resolve.specs.Database.{as_database}
use Rattle.cq_term.specs.Trees.{KnowsTerms}
use Rattle.cq_settle.specs.Contents.{Contents}
use Rattle.spec_engine.specs.Cells.{Value}
use Rattle.cq_branch.specs.Choices.{AreOpen}
use Rattle.cq_branch.specs.Worlds.{saved_values, KnowsNothing}
use Rattle.cq_branch.specs.declared.alternatives.Alternatives.{Alternatives}
use Rattle.cq_machine.proofs.machine.Machine.new.Goals as goal

no_terms : (texts : List Text) → KnowsTerms texts []
no_terms texts = λ i d l. absurd (omega (arith, l))

pub returns-clause-sound : goal.returns-clause-sound
returns-clause-sound c =
    let texts = c.new.new.atoms in
    let v = c.new-3.result in
    let marks = ap₂ zip c.new-first.ensures.saved c.new-second.ensures.saved in
    record {
      known = c.in_ok-names.ensures.names;
      different = c.new.ensures.gains.after;
      names = subst (λ (x : Contents). KnowsTerms texts x.heap.terms) (sym c.new-first.ensures.now) (no_terms texts);
      program = c.programs_stay_programs.ensures.none texts v c.new-3.ensures.contents c.new-3.ensures.database;
      operators_named = c.more_names_keep_the_table.ensures.known c.standard.new.atoms texts c.in_ok-ops.ops c.new.ensures.gains.kept c.in_ok-ops.ensures.known;
      marked = ap length marks ∙ sym (ap length c.new-2.ensures);
      untried = subst (λ (cs : List Alternatives). AreOpen texts v (saved_values c.new-first.result c.new-second.result.saved) cs) (sym c.new-2.ensures) (subst (λ (l : List (Value Contents)). AreOpen texts v l []) (sym marks) tt);
    }

pub returns-clause-program : goal.returns-clause-program
returns-clause-program c =
    let texts = c.new.new.atoms in
    let v = c.new-3.result in
    ap (λ (o : Ops). as_database texts o v)
    (c.more_names_keep_the_table.ensures.table c.standard.new.atoms texts c.in_ok-ops.ops c.new.ensures.gains c.in_ok-ops.ensures.known ∙ c.in_ok-ops.ensures.table)
    ∙ c.changes_are_those_of_the_database.ensures.none texts standard v c.new-3.ensures.contents c.new-3.ensures.database

pub returns-clause-nothing : goal.returns-clause-nothing
returns-clause-nothing c =
    subst (KnowsNothing c.new.new.atoms) (sym c.new-first.ensures.now)
    (record { names = no_terms c.new.new.atoms; images = λ v l. absurd (omega (arith, l)); attrs = refl; told = refl })
