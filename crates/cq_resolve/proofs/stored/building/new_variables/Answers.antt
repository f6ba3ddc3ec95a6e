use Rattle.std.proofs.Common.{◌∙◌, ℕ, ap, sym, length, arith, append-nil}
use Rattle.std.specs.Prelude.{Ok, Err, OnErr}
use Rattle.std.specs.declared.result.Result.{Result}
use Rattle.std.specs.declared.alloc.AllocError.{AllocError}
use Rattle.cq_term.specs.HeapValue.{Terms}
use Rattle.cq_term.specs.Shown.{variables_from}
use Rattle.spec_numbers.proofs.Prefixes.{prefix_same}
use Rattle.cq_unify.proofs.Places.{variables_now}
use Rattle.cq_resolve.specs.Building.{HasSomeNew}
use Rattle.cq_resolve.proofs.StoredNamed.{named_more, named_same}
use Rattle.cq_resolve.proofs.stored.building.new_variables.Goals as goal

pub returns-in_err-first-clause-terms : goal.returns-in_err-first-clause-terms
returns-in_err-first-clause-terms c = prefix_same c.args.heap.now.now.terms c.new_vars.new.self.now.terms (ap (λ (t : Terms). t.terms) c.in_err-first.ensures.err)

on_err : (r : Result ℕ AllocError) (P : Type 0) → P → OnErr r P
on_err (Ok n) P p = tt
on_err (Err e) P p = p

pub returns-in_err-first-clause-err : goal.returns-in_err-first-clause-err
returns-in_err-first-clause-err c = on_err c.from_residual.result (HasSomeNew c.args.count c.args.heap.now.now.images c.new_vars.new.self.now.images) (record {
  made = 0;
  fewer = omega (arith, c.if-count-eq0.false);
  images = ap (λ (t : Terms). t.images) c.in_err-first.ensures.err ∙ sym (append-nil c.args.heap.now.now.images);
})

pub returns-in_err-first-clause-names : goal.returns-in_err-first-clause-names
returns-in_err-first-clause-names c = λ n all. named_same n c.args.heap.now.now.terms c.new_vars.new.self.now.terms (ap (λ (t : Terms). t.terms) c.in_err-first.ensures.err) all

pub returns-clause-there : goal.returns-clause-there
returns-clause-there c =
    let long = variables_now c.args.heap.now.now.images c.new_vars.new.self.now.images c.args.count c.in_ok-first.ensures.images in
    record {
      there = omega (arith, c.in_ok-first.ensures.first, long);
      fits = omega (arith, c.in_ok-first.ensures.first, c.in_ok-first.ensures.few, long);
    }

pub returns-clause-terms : goal.returns-clause-terms
returns-clause-terms c = (variables_from (length c.args.heap.now.now.images) c.args.count, c.in_ok-first.ensures.terms)

pub returns-clause-names : goal.returns-clause-names
returns-clause-names c = λ n all. named_more n c.args.heap.now.now.terms c.new_vars.new.self.now.terms (length c.args.heap.now.now.images) c.args.count c.in_ok-first.ensures.terms all
