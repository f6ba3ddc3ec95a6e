use Rattle.std.proofs.Common.{◌≡◌, ◌<◌, ◌∙◌, ap, sym, subst, refl, length, Some, []}
use Rattle.std.specs.Prelude.{Contains}
use Rattle.std.proofs.lemmas.List.Elements.{All-pop, All-same}
use Rattle.cq_frac.specs.contracts.VarIdPartialEq.TheImpl as same_variable
use Rattle.spec_terms.specs.Variables.{with_variable, variables_after}
use Rattle.spec_terms.specs.Term.{Occurs}
use Rattle.cq_term.specs.Meaning.{at}
use Rattle.cq_term.specs.Shown.{IsUnbound}
use Rattle.cq_term.proofs.Arguments.{length-arguments, shown_variable}
use Rattle.cq_term.specs.Places.{numbers_of}
use Rattle.cq_unify.proofs.Listing.{through_visit, with_kept, with_last, none_in_constant, all_insert_key}
use Rattle.cq_term.proofs.Ground.{after_ground}
use Rattle.cq_term.proofs.WalkPlaces.{numbers_of-insert_key}
use Rattle.cq_unify.proofs.Occurrences.{not_in_constant}
use Rattle.cq_unify.proofs.Visited.{all_past, all_visit, live_visit, through_visits, sizes_visit}
use Rattle.cq_unify.proofs.variables.variables.Goals as goal

pub returns-then-is_ground-clause-variables : goal.returns-then-is_ground-clause-variables
returns-then-is_ground-clause-variables c = ap numbers_of c.new-found.ensures.empty ∙ sym (after_ground [] (at c.args.heap.now.now.terms c.args.term) (c.is_ground.ensures c.if-is_ground.true))

pub loop-id-preserved-in_ok-insert-in-Var : goal.loop-id-preserved-in_ok-insert-in-Var
loop-id-preserved-in_ok-insert-in-Var c =
    let ts = c.args.heap.now.now.terms in
    let keys = c.loop-id.found.keys in
    let v = c.in-Var.variable in
    let shown = shown_variable (at ts c.in-Some.id) v (sym c.in-Var.ensures.view) in
    let more = c.in_ok-insert-in-Var.ensures.keys in
    let longer = ap numbers_of more ∙ numbers_of-insert_key same_variable.eq-value.it (λ a b. refl) keys v in
    record {
      live = (All-pop (λ id. id < length ts) c.loop-id.work.items c.pop.new.self.items (Some c.in-Some.id) c.in-Some.ensures.items c.loop-id.invariant.live).0;
      variables =
          through_visit ts (numbers_of keys) (numbers_of c.insert.new.self.keys) c.loop-id.work.items c.pop.new.self.items c.in-Some.id c.in-Some.ensures.items
          (longer ∙ ap (variables_after (numbers_of keys)) (sym shown))
          ∙ c.loop-id.invariant.variables;
      visited = λ w.
          all_past ts (Contains (numbers_of keys) w) w c.loop-id.work.items c.pop.new.self.items c.in-Some.id c.in-Some.ensures.items c.loop-id.visited (c.loop-id.invariant.visited w) (Contains (numbers_of c.insert.new.self.keys) w)
          (λ known. subst (λ ws. Contains ws w) (sym longer) (with_kept (numbers_of keys) v.0 w known))
          (λ o. let same : w ≡ v.0 = subst (Occurs w) shown o in subst (λ ws. Contains ws w) (sym longer) (subst (Contains (with_variable (numbers_of keys) v.0)) (sym same) (with_last (numbers_of keys) v.0)));
      unbound = All-same (λ w. IsUnbound c.args.heap.now.now.images w.0) _ _ more (all_insert_key same_variable.eq-value.it (λ w. IsUnbound c.args.heap.now.now.images w.0) keys v c.loop-id.invariant.unbound (c.in-Var.ensures.unbound v.0 shown));
    }

pub loop-id-preserved-in-Number : goal.loop-id-preserved-in-Number
loop-id-preserved-in-Number c =
    let ts = c.args.heap.now.now.terms in
    let keys = numbers_of c.loop-id.found.keys in
    record {
      live = (All-pop (λ id. id < length ts) c.loop-id.work.items c.pop.new.self.items (Some c.in-Some.id) c.in-Some.ensures.items c.loop-id.invariant.live).0;
      variables =
          through_visit ts keys keys c.loop-id.work.items c.pop.new.self.items c.in-Some.id c.in-Some.ensures.items (sym (none_in_constant keys (at ts c.in-Some.id) c.view.result c.in-Number.is c.view.ensures.view))
          ∙ c.loop-id.invariant.variables;
      visited = λ w.
          all_past ts (Contains keys w) w c.loop-id.work.items c.pop.new.self.items c.in-Some.id c.in-Some.ensures.items c.loop-id.visited (c.loop-id.invariant.visited w) (Contains keys w)
          (λ known. known) (λ o. absurd (not_in_constant (at ts c.in-Some.id) w c.view.result c.in-Number.is c.view.ensures.view o));
      unbound = c.loop-id.invariant.unbound;
    }

pub visit-requires-clause-arity : goal.visit-requires-clause-arity
visit-requires-clause-arity c = length-arguments (at c.args.heap.now.now.terms c.in-Some.id) c.in-Compound.field-0 c.in-Compound.arity (sym c.in-Compound.ensures.view)

pub loop-id-smaller : goal.loop-id-smaller
loop-id-smaller c =
    sizes_visit c.args.heap.now.now.terms c.loop-id.work.items c.pop.new.self.items c.visit.new.work.items c.loop-id.visited c.visit.new.self c.in-Some.id c.in-Compound.field-0 c.in-Compound.arity
    c.in-Some.ensures.items (sym c.in-Compound.ensures.view) c.in_ok-visit-in-Compound.ensures

pub loop-id-preserved : goal.loop-id-preserved
loop-id-preserved c =
    let ts = c.args.heap.now.now.terms in
    let keys = numbers_of c.loop-id.found.keys in
    let visits = c.in_ok-visit-in-Compound.ensures in
    let front = (All-pop (λ id. id < length ts) c.loop-id.work.items c.pop.new.self.items (Some c.in-Some.id) c.in-Some.ensures.items c.loop-id.invariant.live).0 in
    record {
      live = live_visit ts c.pop.new.self.items c.visit.new.work.items c.loop-id.visited c.visit.new.self c.in-Some.id visits front;
      variables =
          through_visits ts keys c.loop-id.work.items c.pop.new.self.items c.visit.new.work.items c.loop-id.visited c.visit.new.self c.in-Some.id c.in-Compound.field-0 c.in-Compound.arity
          c.in-Some.ensures.items (sym c.in-Compound.ensures.view) visits c.loop-id.invariant.visited
          ∙ c.loop-id.invariant.variables;
      visited = λ v.
          all_visit ts (Contains keys v) v c.loop-id.work.items c.pop.new.self.items c.in-Some.id c.in-Some.ensures.items c.loop-id.visited (c.loop-id.invariant.visited v)
          c.in-Compound.field-0 c.in-Compound.arity (sym c.in-Compound.ensures.view) c.visit.new.work.items c.visit.new.self visits;
      unbound = c.loop-id.invariant.unbound;
    }
