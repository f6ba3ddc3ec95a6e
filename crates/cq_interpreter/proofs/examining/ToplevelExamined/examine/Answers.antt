use Rattle.std.proofs.Common.{◌≡◌, ◌∙◌, ◌≤◌, OnOk, suc, length, refl, sym, ap, arith, subst}
use Rattle.spec_numbers.proofs.Prefixes.{prefix_both}
use Rattle.spec_search.specs.Search.{Search, start}
use Rattle.spec_syntax.specs.TextTokens.{VariableName}
use Rattle.std.specs.Prelude.{List}
use Rattle.cq_machine.proofs.Interned.{texts_kept}
use Rattle.cq_engine.proofs.Engines.{kept_where}
use Rattle.cq_session.specs.Sentences.{budgets_within}
use Rattle.cq_interpreter.specs.Numbered.{AreNumbered}
use Rattle.cq_interpreter.specs.Toplevels.{texts, images_of, IsAsking}
use Rattle.cq_interpreter.specs.declared.toplevel.Toplevel.{Toplevel}
use Rattle.cq_interpreter.proofs.Wholes.{whole_kept}
use Rattle.cq_interpreter.proofs.examining.ToplevelExamined.examine.Goals as goal

-- ---- without names

pub returns-in_err-names-clause-kept : goal.returns-in_err-names-clause-kept
returns-in_err-names-clause-kept c =
    let t = c.args.self.now in
    let e = c.end in
    let u : Toplevel = record t { engine = e.new.self } in
    whole_kept t u c.requires.kept (texts_kept (texts t) (texts u) e.ensures.keeps.atoms) refl (kept_where e.new.self.machine e.ensures.idle.sound) refl

pub returns-in_err-names-clause-budgets : goal.returns-in_err-names-clause-budgets
returns-in_err-names-clause-budgets c =
    let t = c.args.self.now in
    ap (λ p. budgets_within t.steps p t.answers) c.end.ensures.keeps.pivots

-- ---- without the query

pub returns-in_err-goal-clause-kept : goal.returns-in_err-goal-clause-kept
returns-in_err-goal-clause-kept c =
    let t = c.args.self.now in
    let e = c.end in
    let q = c.query_on in
    let u : Toplevel = record t { engine = q.new.engine } in
    whole_kept t u c.requires.kept (texts_kept (texts t) (texts u) (prefix_both (texts t) e.new.self.machine.atoms (texts u) e.ensures.keeps.atoms q.ensures.atoms)) refl q.ensures.kept refl

pub returns-in_err-goal-clause-budgets : goal.returns-in_err-goal-clause-budgets
returns-in_err-goal-clause-budgets c =
    let t = c.args.self.now in
    ap (λ p. budgets_within t.steps p t.answers) (c.query_on.ensures.pivots ∙ c.end.ensures.keeps.pivots)

-- ---- the query

pub ask-requires : goal.ask-requires
ask-requires c =
    let t = c.args.self.now in
    let e = c.end in
    let q = c.query_on in
    let count : length (images_of q.new.engine) ≡ suc c.args.number = c.in_ok-goal.ensures.images in
    let low : 0 ≤ c.args.number = omega arith in
    let high : suc c.args.number ≤ length (images_of q.new.engine) = omega (arith, count) in
    let u : Toplevel = record t { engine = q.new.engine } in
    record {
      whole = whole_kept t u c.requires.kept (texts_kept (texts t) (texts u) (prefix_both (texts t) e.new.self.machine.atoms (texts u) e.ensures.keeps.atoms q.ensures.atoms))
          refl q.ensures.kept refl;
      idle = c.in_ok-goal.ensures.idle;
      live = c.in_ok-goal.ensures.live;
      names = subst (λ (ns : List VariableName). AreNumbered 0 ns (length (images_of q.new.engine))) (sym c.in_ok-names.ensures) (low, high);
    }

pub returns-clause-stands : goal.returns-clause-stands
returns-clause-stands c =
    let q = c.query_on in
    subst (λ (s : Search). OnOk c.ask.result (IsAsking c.ask.new.self s))
    (λ i. start ((q.ensures.program ∙ c.end.ensures.program) i) (c.in_ok-goal.ensures.built i) (c.in_ok-goal.ensures.images i)) c.ask.ensures.asking

pub returns-clause-names : goal.returns-clause-names
returns-clause-names c = subst (λ (ns : List VariableName). OnOk c.ask.result (c.ask.new.self.names.items ≡ ns)) c.in_ok-names.ensures c.ask.ensures.names

pub returns-clause-budgets : goal.returns-clause-budgets
returns-clause-budgets c =
    let t = c.args.self.now in
    c.ask.ensures.budgets ∙ ap (λ p. budgets_within t.steps p t.answers) (c.query_on.ensures.pivots ∙ c.end.ensures.keeps.pivots)
