use Rattle.std.proofs.Common.{◌<◌, ◌∙◌, ap, sym, length, nat_eq, Some}
use Rattle.std.proofs.lemmas.List.Elements.{All-pop}
use Rattle.indexmap.specs.IndexMap.{get}
use Rattle.cq_term.specs.Meaning.{at}
use Rattle.cq_term.proofs.Arguments.{length-arguments, shown_variable}
use Rattle.spec_terms.specs.Variables.{variables_after, with_variable}
use Rattle.cq_unify.proofs.Listing.{through_visit, none_in_constant}
use Rattle.cq_write.proofs.Naming.{unnamed_with, live_open, through_open, sizes_open}
use Rattle.cq_write.proofs.variables.unnamed_of.Goals as goal

pub loop-id-preserved-in-Continue-branch-2 : goal.loop-id-preserved-in-Continue-branch-2
loop-id-preserved-in-Continue-branch-2 c =
    let ts = c.args.heap.now.now.terms in
    let v = c.in-Var.variable.0 in
    record {
      live = (All-pop (λ id. id < length ts) c.loop-id.work.items c.pop.new.self.items (Some c.in-Some.id) c.in-Some.ensures.items c.loop-id.invariant.live).0;
      unnamed = λ names are.
          let m = c.loop-id.invariant.unnamed names are in (
            with_variable m.0 v,
            c.in_ok-add-in-Var.ensures ∙ unnamed_with names (get nat_eq c.args.given.now) m.0 c.loop-id.unnamed.keys v are m.1,
            through_visit ts m.0 (with_variable m.0 v) c.loop-id.work.items c.pop.new.self.items c.in-Some.id c.in-Some.ensures.items
                (ap (variables_after m.0) (sym (shown_variable (at ts c.in-Some.id) c.in-Var.variable (sym c.in-Var.ensures.view))))
                ∙ m.2,
          );
    }

pub loop-id-preserved-in-Number : goal.loop-id-preserved-in-Number
loop-id-preserved-in-Number c =
    let ts = c.args.heap.now.now.terms in
    record {
      live = (All-pop (λ id. id < length ts) c.loop-id.work.items c.pop.new.self.items (Some c.in-Some.id) c.in-Some.ensures.items c.loop-id.invariant.live).0;
      unnamed = λ names are.
          let m = c.loop-id.invariant.unnamed names are in (
            m.0,
            m.1,
            through_visit ts m.0 m.0 c.loop-id.work.items c.pop.new.self.items c.in-Some.id c.in-Some.ensures.items (sym (none_in_constant m.0 (at ts c.in-Some.id) c.view.result c.in-Number.is c.view.ensures.view)) ∙ m.2,
          );
    }

pub open-requires-clause-arity : goal.open-requires-clause-arity
open-requires-clause-arity c = length-arguments (at c.args.heap.now.now.terms c.in-Some.id) c.in-Compound.field-0 c.in-Compound.arity (sym c.in-Compound.ensures.view)

pub loop-id-smaller : goal.loop-id-smaller
loop-id-smaller c =
    sizes_open c.args.heap.now.now.terms c.loop-id.work.items c.pop.new.self.items c.open.new.work.items c.in-Some.id c.in-Compound.field-0 c.in-Compound.arity
    c.in-Some.ensures.items (sym c.in-Compound.ensures.view) c.in_ok-open-in-Compound.ensures

pub loop-id-preserved : goal.loop-id-preserved
loop-id-preserved c =
    let ts = c.args.heap.now.now.terms in
    let opens = c.in_ok-open-in-Compound.ensures in
    record {
      live = live_open ts c.pop.new.self.items c.open.new.work.items c.in-Some.id opens
          (All-pop (λ id. id < length ts) c.loop-id.work.items c.pop.new.self.items (Some c.in-Some.id) c.in-Some.ensures.items c.loop-id.invariant.live).0;
      unnamed = λ names are.
          let m = c.loop-id.invariant.unnamed names are in (
            m.0,
            m.1,
            through_open ts c.loop-id.work.items c.pop.new.self.items c.open.new.work.items c.in-Some.id c.in-Compound.field-0 c.in-Compound.arity
                c.in-Some.ensures.items (sym c.in-Compound.ensures.view) opens m.0
                ∙ m.2,
          );
    }
