use Rattle.std.proofs.Common.{List, [], length, refl, sym, ap, ap₂, subst, ◌∙◌, arith}
use Rattle.std.specs.List.{zip}
use Rattle.spec_numbers.proofs.Prefixes.{prefix_same}
use Rattle.cq_term.specs.Trees.{KnowsTerms}
use Rattle.cq_settle.specs.Contents.{Contents}
use Rattle.spec_engine.specs.Cells.{Value}
use Rattle.cq_branch.specs.Choices.{AreOpen}
use Rattle.cq_branch.specs.Worlds.{saved_values, KnowsNothing}
use Rattle.cq_branch.specs.declared.alternatives.Alternatives.{Alternatives}
use Rattle.cq_engine.proofs.events.engine.Engine.end.Goals as goal

no_terms : (texts : _) → KnowsTerms texts []
no_terms texts = λ i d l. absurd (omega (arith, l))

pub returns-clause-idle : goal.returns-clause-idle
returns-clause-idle c =
    let m = c.args.self.now.machine in
    let kept = c.requires in
    let marks = ap₂ zip c.new.ensures.saved c.new-2.ensures.saved in
    record {
      sound = record {
        known = kept.known;
        different = kept.different;
        names = subst (λ (x : Contents). KnowsTerms m.atoms x.heap.terms) (sym c.new.ensures.now) (no_terms m.atoms);
        program = kept.program;
        operators_named = kept.operators_named;
        marked = ap length marks ∙ sym (ap length c.new-3.ensures);
        untried = subst (λ (cs : List Alternatives). AreOpen m.atoms m.clauses (saved_values c.new.result c.new-2.result.saved) cs) (sym c.new-3.ensures)
            (subst (λ (l : List (Value Contents)). AreOpen m.atoms m.clauses l []) (sym marks) tt);
      };
      nothing = subst (KnowsNothing m.atoms) (sym c.new.ensures.now) (record { names = no_terms m.atoms; images = λ v l. absurd (omega (arith, l)); attrs = refl; told = refl });
      lists = c.new-2.ensures.now;
      choices = c.new-3.ensures;
    }

pub returns-clause-empty : goal.returns-clause-empty
returns-clause-empty c = ap (λ (x : Contents). x.heap.images) c.new.ensures.now

pub returns-clause-keeps : goal.returns-clause-keeps
returns-clause-keeps c =
    let m = c.args.self.now.machine in
    record { atoms = prefix_same m.atoms m.atoms refl; steps = refl; pivots = ap (λ (x : Contents). x.pivots) c.new.ensures.now ∙ c.pivots-pivots.ensures }
