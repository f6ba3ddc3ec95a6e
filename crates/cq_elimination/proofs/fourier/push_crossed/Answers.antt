use Rattle.std.proofs.Common.{◌<◌, ◌≤◌, ◌++◌, length, Err, arith, ap, sym, ◌∙◌, append-nil}
use Rattle.std.proofs.lemmas.List.{take_all}
use Rattle.cq_frac.proofs.Exits.{refusal_told}
use Rattle.cq_elimination.specs.FourierSides.{crossed}
use Rattle.cq_elimination.proofs.Lists.{has_at}
use Rattle.cq_elimination.proofs.Crossing.{crossed_more}
use Rattle.cq_elimination.proofs.fourier.push_crossed.Goals as goal

pub lower-init : goal.lower-init
lower-init c = sym (append-nil c.args.rows.now.items)

pub returns-in_err-push_combined-clause-overflow : goal.returns-in_err-push_combined-clause-overflow
returns-in_err-push_combined-clause-overflow c = λ pair e.
    let within : c.lower.bound-index < length c.args.lower.now = omega arith in
    record {
      bound = c.bound-item.result;
      member = has_at c.args.lower.now c.lower.bound-index c.bound-item.result within c.bound-item.is;
      combines = c.in_err-push_combined.ensures.overflow pair (ap Err (refusal_told _ _ pair c.from_residual.ensures.1 e));
    }

pub lower-preserved : goal.lower-preserved
lower-preserved c =
    let within : c.lower.bound-index < length c.args.lower.now = omega arith in
    crossed_more c.args.upper.now c.args.lower.now c.lower.bound-index c.bound-item.result c.args.rows.now.items c.lower.rows.items c.push_combined.new.rows.items within c.bound-item.is
    c.lower.invariant c.in_ok-push_combined.ensures.value

pub returns-clause-value : goal.returns-clause-value
returns-clause-value c =
    let whole : length c.args.lower.now ≤ c.lower.bound-index = omega arith in
    c.lower.invariant ∙ ap (λ k. c.args.rows.now.items ++ crossed k c.args.upper.now) (take_all c.lower.bound-index c.args.lower.now whole)
