use Rattle.std.proofs.Common.{◌≡◌, Some, ℕ, codes}
use Rattle.std.specs.Prelude.{slice_get}
use Rattle.spec_numbers.specs.Texts.{Text}
use Rattle.cq_machine.proofs.Interned.{gains_then}
use Rattle.cq_machine.proofs.names.Names.new.Goals as goal

pub returns-clause-names : goal.returns-clause-names
returns-clause-names c =
    let k2 = c.numbered-2.ensures.gains.kept in
    let k3 = c.numbered-3.ensures.gains.kept in
    let k4 = c.numbered-4.ensures.gains.kept in
    let k5 = c.numbered-5.ensures.gains.kept in
    let k6 = c.numbered-6.ensures.gains.kept in
    let k = c.new.ensures.kept in
    let truth = c.in_ok-truth.truth in
    let not = c.in_ok-not.not in
    let equal = c.in_ok-equal.equal in
    let once = c.in_ok-once.once in
    let curly = c.in_ok-curly.curly in
    record {
      truth = k truth _ (k6 truth _ (k5 truth _ (k4 truth _ (k3 truth _ (k2 truth _ c.in_ok-truth.ensures.number)))));
      not = k not _ (k6 not _ (k5 not _ (k4 not _ (k3 not _ c.in_ok-not.ensures.number))));
      equal = k equal _ (k6 equal _ (k5 equal _ (k4 equal _ c.in_ok-equal.ensures.number)));
      once = k once _ (k6 once _ (k5 once _ c.in_ok-once.ensures.number));
      curly = k curly _ (k6 curly _ c.in_ok-curly.ensures.number);
      rule = k c.in_ok-rule.rule _ c.in_ok-rule.ensures.number;
      builtins = c.in_ok-builtins.ensures.are;
    }

pub returns-clause-gains : goal.returns-clause-gains
returns-clause-gains c =
    gains_then _ _ _ (gains_then _ _ _ (gains_then _ _ _ (gains_then _ _ _ (gains_then _ _ _ (gains_then _ _ _ c.numbered.ensures.gains c.numbered-2.ensures.gains) c.numbered-3.ensures.gains) c.numbered-4.ensures.gains)
    c.numbered-5.ensures.gains) c.numbered-6.ensures.gains) (record { before = c.numbered-6.ensures.gains.after; after = c.new.ensures.different; kept = c.new.ensures.kept })

pub returns-in_err-curly-clause-gains : goal.returns-in_err-curly-clause-gains
returns-in_err-curly-clause-gains c =
    gains_then _ _ _ (gains_then _ _ _ (gains_then _ _ _ (gains_then _ _ _ c.numbered.ensures.gains c.numbered-2.ensures.gains) c.numbered-3.ensures.gains) c.numbered-4.ensures.gains) c.numbered-5.ensures.gains

pub returns-in_err-rule-clause-gains : goal.returns-in_err-rule-clause-gains
returns-in_err-rule-clause-gains c =
    gains_then _ _ _ (gains_then _ _ _ (gains_then _ _ _ (gains_then _ _ _ (gains_then _ _ _ c.numbered.ensures.gains c.numbered-2.ensures.gains) c.numbered-3.ensures.gains) c.numbered-4.ensures.gains) c.numbered-5.ensures.gains)
    c.numbered-6.ensures.gains

pub returns-in_err-builtins-clause-gains : goal.returns-in_err-builtins-clause-gains
returns-in_err-builtins-clause-gains c =
    gains_then _ _ _ (gains_then _ _ _ (gains_then _ _ _ (gains_then _ _ _ (gains_then _ _ _ (gains_then _ _ _ c.numbered.ensures.gains c.numbered-2.ensures.gains) c.numbered-3.ensures.gains) c.numbered-4.ensures.gains)
    c.numbered-5.ensures.gains) c.numbered-6.ensures.gains) (record { before = c.numbered-6.ensures.gains.after; after = c.new.ensures.different; kept = c.new.ensures.kept })
