use Rattle.std.proofs.Common.{◌≡◌, ◌+◌, ◌<◌, ◌∙◌, Bool, true, false, not, ap, sym, refl, length, map, Some, inl, inr, arith}
use Rattle.std.specs.List.{list_any}
use Rattle.std.proofs.lemmas.List.Elements.{All-pop}
use Rattle.cq_frac.specs.contracts.VarIdPartialEq.TheImpl as same_variable
use Rattle.spec_terms.specs.Variables.{with_variable, variables_after, numbered_from}
use Rattle.cq_term.specs.Meaning.{at}
use Rattle.cq_term.proofs.Arguments.{length-arguments, shown_variable}
use Rattle.cq_term.specs.Places.{numbers_of}
use Rattle.cq_unify.proofs.Listing.{through_visit, through_push, none_in_constant}
use Rattle.cq_term.proofs.WalkPlaces.{numbers_of-insert_key}
use Rattle.cq_term.proofs.WalkArguments.{live_push, sizes_push}
use Rattle.cq_term.specs.declared.view.View.TheVariants.{Var, Number, Name, Compound}
use Rattle.cq_resolve.specs.Marks.{shown, met_by}
use Rattle.cq_resolve.proofs.Marks.{shown_pushed, variable_written, variable_shown, constant_written, number_met, absent_place}
use Rattle.cq_resolve.proofs.Numbering.{number_is, heads-variable, heads-constant, written_leaf, written_compound}
use Rattle.cq_resolve.proofs.stored.pattern.pattern_of.Goals as goal

was_absent : (b : Bool) → true ≡ not b → b ≡ false
was_absent false e = refl
was_absent true e = e

pub loop-id-preserved-in_ok-push-in-Var : goal.loop-id-preserved-in_ok-push-in-Var
loop-id-preserved-in_ok-push-in-Var c =
    let ts = c.args.heap.now.now.terms in
    let keys = c.loop-id.originals.keys in
    let new = c.insert_full.new.self.keys in
    let v = c.in-Var.variable in
    let place = c.in_ok-place-in-Var.place in
    let is_new = c.in_ok-place-in-Var.is_new in
    let p = c.variable_part.result in
    let rest = c.pop.new.self.items in
    let all = variables_after (numbers_of c.args.originals.now.keys) (at ts c.args.term) in
    let shows = shown_variable (at ts c.in-Some.id) v (sym c.in-Var.ensures.view) in
    let longer : numbers_of new ≡ with_variable (numbers_of keys) v.0 = ap numbers_of c.in_ok-place-in-Var.ensures.keys ∙ numbers_of-insert_key same_variable.eq-value.it (λ a b. refl) keys v in
    let through =
    through_visit ts (numbers_of keys) (numbers_of new) c.loop-id.work.items rest c.in-Some.id c.in-Some.ensures.items (longer ∙ ap (variables_after (numbers_of keys)) (sym shows))
    ∙ c.loop-id.invariant.variables in
    let number = number_is same_variable.eq-value.it (λ a b. refl) v keys new (map (at ts) rest) all place longer through c.in_ok-place-in-Var.ensures.index in
    record {
      live = (All-pop (λ id. id < length ts) c.loop-id.work.items rest (Some c.in-Some.id) c.in-Some.ensures.items c.loop-id.invariant.live).0;
      variables = through;
      pattern = written_leaf (numbered_from 0 all) ts c.loop-id.work.items rest c.in-Some.id c.in-Some.ensures.items (map shown c.loop-id.pattern.items) (map shown c.push.new.self.items) (Var (record { 0 = place }))
          (heads-variable (numbered_from 0 all) (at ts c.in-Some.id) v place shows number)
          (shown_pushed c.loop-id.pattern.items c.push.new.self.items p (Var (record { 0 = place })) c.in_ok-push-in-Var.ensures.items (variable_shown p place is_new c.variable_part.ensures.new c.variable_part.ensures.again))
          ∙ c.loop-id.invariant.pattern;
      met = variable_written (length c.args.originals.now.keys) c.loop-id.pattern.items c.push.new.self.items p place (length keys) (length new) is_new c.loop-id.invariant.met c.in_ok-push-in-Var.ensures.items
          c.variable_part.ensures.new c.variable_part.ensures.again
          (λ t. (
            c.in_ok-place-in-Var.ensures.index ∙ absent_place (same_variable.eq-value.it v) keys (was_absent (list_any (same_variable.eq-value.it v) keys) (sym t ∙ c.in_ok-place-in-Var.ensures.added)),
            (rw t at c.in_ok-place-in-Var.ensures.len),
          ))
          (λ t. (let long : length new ≡ length keys + 0 = rw t at c.in_ok-place-in-Var.ensures.len in (omega (arith, long, c.in_ok-place-in-Var.ensures.within), omega (arith, long))));
    }

pub loop-id-preserved-in_ok-push-in-Number : goal.loop-id-preserved-in_ok-push-in-Number
loop-id-preserved-in_ok-push-in-Number c =
    let ts = c.args.heap.now.now.terms in
    let keys = numbers_of c.loop-id.originals.keys in
    let rest = c.pop.new.self.items in
    let q = c.in-Number.number in
    let p = c.in_ok-number-in-Number.field-0 in
    let all = variables_after (numbers_of c.args.originals.now.keys) (at ts c.args.term) in
    record {
      live = (All-pop (λ id. id < length ts) c.loop-id.work.items rest (Some c.in-Some.id) c.in-Some.ensures.items c.loop-id.invariant.live).0;
      variables =
          through_visit ts keys keys c.loop-id.work.items rest c.in-Some.id c.in-Some.ensures.items (sym (none_in_constant keys (at ts c.in-Some.id) (Number q) (inl (q, refl)) c.in-Number.ensures.view))
          ∙ c.loop-id.invariant.variables;
      pattern = written_leaf (numbered_from 0 all) ts c.loop-id.work.items rest c.in-Some.id c.in-Some.ensures.items (map shown c.loop-id.pattern.items) (map shown c.push-in-Number.new.self.items) (Number q)
          (heads-constant (numbered_from 0 all) (at ts c.in-Some.id) (Number q) (inl (q, refl)) c.in-Number.ensures.view)
          (shown_pushed c.loop-id.pattern.items c.push-in-Number.new.self.items p (Number q) c.in_ok-push-in-Number.ensures.items c.in_ok-number-in-Number.ensures)
          ∙ c.loop-id.invariant.pattern;
      met = constant_written (length c.args.originals.now.keys) c.loop-id.pattern.items c.push-in-Number.new.self.items p (length c.loop-id.originals.keys) c.loop-id.invariant.met c.in_ok-push-in-Number.ensures.items
          (number_met p q (length c.loop-id.originals.keys) c.in_ok-number-in-Number.ensures) (ap (λ h. met_by h (length c.loop-id.originals.keys)) c.in_ok-number-in-Number.ensures);
    }

pub loop-id-preserved-in_ok-push-in-Name : goal.loop-id-preserved-in_ok-push-in-Name
loop-id-preserved-in_ok-push-in-Name c =
    let ts = c.args.heap.now.now.terms in
    let keys = numbers_of c.loop-id.originals.keys in
    let rest = c.pop.new.self.items in
    let a = c.in-Name.name in
    let all = variables_after (numbers_of c.args.originals.now.keys) (at ts c.args.term) in
    record {
      live = (All-pop (λ id. id < length ts) c.loop-id.work.items rest (Some c.in-Some.id) c.in-Some.ensures.items c.loop-id.invariant.live).0;
      variables =
          through_visit ts keys keys c.loop-id.work.items rest c.in-Some.id c.in-Some.ensures.items (sym (none_in_constant keys (at ts c.in-Some.id) (Name a) (inr (a, refl)) c.in-Name.ensures.view))
          ∙ c.loop-id.invariant.variables;
      pattern = written_leaf (numbered_from 0 all) ts c.loop-id.work.items rest c.in-Some.id c.in-Some.ensures.items (map shown c.loop-id.pattern.items) (map shown c.push-in-Name.new.self.items) (Name a)
          (heads-constant (numbered_from 0 all) (at ts c.in-Some.id) (Name a) (inr (a, refl)) c.in-Name.ensures.view)
          (shown_pushed c.loop-id.pattern.items c.push-in-Name.new.self.items _ (Name a) c.in_ok-push-in-Name.ensures.items refl)
          ∙ c.loop-id.invariant.pattern;
      met = constant_written (length c.args.originals.now.keys) c.loop-id.pattern.items c.push-in-Name.new.self.items _ (length c.loop-id.originals.keys) c.loop-id.invariant.met c.in_ok-push-in-Name.ensures.items tt refl;
    }

pub push_arguments-requires-clause-arity : goal.push_arguments-requires-clause-arity
push_arguments-requires-clause-arity c = length-arguments (at c.args.heap.now.now.terms c.in-Some.id) c.in-Compound.name c.in-Compound.arity (sym c.in-Compound.ensures.view)

pub loop-id-smaller : goal.loop-id-smaller
loop-id-smaller c =
    sizes_push c.args.heap.now.now.terms c.loop-id.work.items c.pop.new.self.items c.push_arguments.new.work.items c.in-Some.id c.in-Compound.name c.in-Compound.arity
    c.in-Some.ensures.items (sym c.in-Compound.ensures.view) c.in_ok-push_arguments-in-Compound.ensures

pub loop-id-preserved : goal.loop-id-preserved
loop-id-preserved c =
    let ts = c.args.heap.now.now.terms in
    let rest = c.pop.new.self.items in
    let p = c.in_ok-compound_part-in-Compound.field-0 in
    let shows = c.in_ok-compound_part-in-Compound.ensures.shown in
    let all = variables_after (numbers_of c.args.originals.now.keys) (at ts c.args.term) in
    let pushed = c.in_ok-push_arguments-in-Compound.ensures in
    record {
      live = live_push ts (at ts c.in-Some.id) rest c.push_arguments.new.work.items (All-pop (λ id. id < length ts) c.loop-id.work.items rest (Some c.in-Some.id) c.in-Some.ensures.items c.loop-id.invariant.live).0 pushed;
      variables =
          through_push ts (numbers_of c.loop-id.originals.keys) c.loop-id.work.items rest c.push_arguments.new.work.items c.in-Some.id c.in-Compound.name c.in-Compound.arity c.in-Some.ensures.items (sym c.in-Compound.ensures.view) pushed
          ∙ c.loop-id.invariant.variables;
      pattern = written_compound (numbered_from 0 all) ts c.loop-id.work.items rest c.in-Some.id c.in-Some.ensures.items (map shown c.loop-id.pattern.items) (map shown c.push-in-Compound.new.self.items) c.push_arguments.new.work.items (Compound c.in-Compound.name c.in-Compound.arity) c.in-Compound.name c.in-Compound.arity
          refl c.in-Compound.ensures.view pushed
          (shown_pushed c.loop-id.pattern.items c.push-in-Compound.new.self.items p (Compound c.in-Compound.name c.in-Compound.arity) c.in_ok-push-in-Compound.ensures.items shows)
          ∙ c.loop-id.invariant.pattern;
      met = constant_written (length c.args.originals.now.keys) c.loop-id.pattern.items c.push-in-Compound.new.self.items p (length c.loop-id.originals.keys) c.loop-id.invariant.met c.in_ok-push-in-Compound.ensures.items
          (c.in_ok-compound_part-in-Compound.ensures.met (length c.loop-id.originals.keys)) (ap (λ h. met_by h (length c.loop-id.originals.keys)) shows);
    }
