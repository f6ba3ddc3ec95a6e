use Rattle.std.proofs.Common.{◌∙◌, length, ap, sym, subst}
use Rattle.spec_numbers.proofs.Prefixes.{prefix_within}
use Rattle.cq_built.proofs.Trees.{indicator_kept}
use Rattle.cq_resolve.specs.StoredValue.{ClauseValue}
use Rattle.cq_resolve.specs.Database.{IsCounted, as_parts}
use Rattle.cq_catch.specs.Revised.{KeepsShowing}
use Rattle.cq_catch.proofs.revise.adding.add.Goals as goal

pub returns-clause-added : goal.returns-clause-added
returns-clause-added c =
    let texts = c.args.atoms.now in
    let more = c.stored_clause.new.atoms in
    let grows = c.in_ok-clause.ensures.grows in
    let pred = c.args.checked.predicate in
    record {
      pred = pred;
      clause = c.new.result;
      of_head = record {
        indicator = indicator_kept texts more c.args.heap.now c.stored_clause.new.heap grows pred c.requires.predicate.known ∙ c.requires.predicate.indicator;
        known = prefix_within texts more pred.name grows.longer c.requires.predicate.known;
      };
      counted = subst (λ (x : ClauseValue). IsCounted (length more) x) (sym c.new.ensures) c.in_ok-clause.ensures.counted;
      holds = ap (as_parts more) c.new.ensures ∙ c.in_ok-clause.ensures.holds;
      adds = c.in_ok-put.ensures.added;
    }

pub returns-clause-showing : goal.returns-clause-showing
returns-clause-showing c =
    c.walks_outlast_changes.ensures.added c.args.end c.args.kind c.args.checked.predicate c.new.result c.args.clauses.now c.put.new.clauses c.in_ok-put.ensures.added
    c.put.ensures.reading c.walks_are_known.ensures

pub returns-in_err-put-clause-showing : goal.returns-in_err-put-clause-showing
returns-in_err-put-clause-showing c = subst (KeepsShowing c.args.clauses.now) (sym c.in_err-put.ensures.err) (c.walks_outlast_changes.ensures.same c.args.clauses.now)

pub returns-in_err-clause-clause-showing : goal.returns-in_err-clause-clause-showing
returns-in_err-clause-clause-showing c = c.walks_outlast_changes.ensures.same c.args.clauses.now
