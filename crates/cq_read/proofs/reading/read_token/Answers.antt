use Rattle.std.proofs.Common.{◌≡◌, ◌≢◌, ◌≤◌, Ok, sym, subst, ap, ◌∙◌, arith, length, nat_lt, true, false, refl}
use Rattle.std.specs.Prelude.{IsTrue, IsFalse}
use Rattle.spec_syntax.specs.declared.grammar.Kind.TheVariants as kind
use Rattle.spec_syntax.specs.GrammarTokens.{next_token}
use Rattle.cq_read.specs.LexShown.{shown}
use Rattle.cq_read.specs.Known.{AreGrammarNames}
use Rattle.cq_read.specs.Clauses.{Advances, IsLive}
use Rattle.spec_text.proofs.Onward.{next_there, fault_there}
use Rattle.cq_read.proofs.Seen.{is_token}
use Rattle.cq_read.proofs.Running.{stops_at_fault, stops_at_end, stops_at_token, goes_on, grammar_kept, live_error, live_end}
use Rattle.cq_read.proofs.reading.read_token.Goals as goal

pub error_at-requires : goal.error_at-requires
error_at-requires c = omega (arith, c.place_of.ensures, (fault_there c.args.text.now c.args.place c.in-Err.fault c.requires.fits (sym c.in-Err.ensures.value)).1)

pub returns-in-Err-clause-turned : goal.returns-in-Err-clause-turned
returns-in-Err-clause-turned c n running =
    let (resume, is, on) = c.error_at.ensures in (
      stops_at_fault c.args.grammar.now.ops.now c.args.text.now c.args.from n c.args.place c.args.atoms.now c.requires.different c.args.heap.now.now c.args.clause.now running c.requires.begun c.in-Err.fault _ resume _
          c.in-Err.ensures.value c.place_of.ensures is on,
      live_error c.args.heap.now.now _ _ resume is,
    )

pub returns-then-is_last-clause-turned : goal.returns-then-is_last-clause-turned
returns-then-is_last-clause-turned c n running = (
  stops_at_end c.args.grammar.now.ops.now c.args.text.now c.args.from n c.args.place c.args.atoms.now c.requires.different c.args.heap.now.now c.args.clause.now running c.requires.begun (shown c.in-Ok.token) _
      c.in-Ok.ensures.value (c.if-is_last.ensures.last refl) c.at_the_end.ensures,
  live_end c.args.heap.now.now _ _ _ _ c.at_the_end.ensures,
)

pub advance-requires-clause-token : goal.advance-requires-clause-token
advance-requires-clause-token c = is_token c.args.text.now c.args.place (shown c.in-Ok.token) c.requires.fits (sym c.in-Ok.ensures.value) (c.if-is_last.ensures.other refl)

pub error_at-requires-else-branch : goal.error_at-requires-else-branch
error_at-requires-else-branch c =
    let there = next_there c.args.text.now c.args.place (shown c.in-Ok.token) c.requires.fits (sym c.in-Ok.ensures.value) in
    omega (arith, there.within, there.takes (c.if-is_last.ensures.other refl))

pub returns-then-branch-clause-turned : goal.returns-then-branch-clause-turned
returns-then-branch-clause-turned c n running =
    goes_on c.args.grammar.now.ops.now c.args.text.now c.args.from n c.args.place c.args.atoms.now c.advance.new.atoms c.advance.ensures.kept c.args.heap.now.now c.advance.new.heap.now c.args.clause.now c.advance.new.self
    running c.requires.begun (shown c.in-Ok.token) c.in-Ok.ensures.value (c.if-is_last.ensures.other refl)
    (c.in_ok-advance.ensures.live c.if-branch.true) (λ texts keeps. c.in_ok-advance.ensures.known texts keeps c.if-branch.true)
    (λ texts keeps different. subst (Advances texts c.args.grammar.now.ops.now c.args.text.now (shown c.in-Ok.token) c.args.heap.now.now c.args.clause.now c.advance.new.heap.now c.advance.new.self) c.if-branch.true
    (c.in_ok-advance.ensures.step texts (record {
      kept = keeps;
      different = different;
      grammar = grammar_kept c.args.atoms.now texts c.args.grammar.now.names.now (λ i x e. keeps i x (c.advance.ensures.kept i x e)) c.requires.names;
      state = running.known texts (λ i x e. keeps i x (c.advance.ensures.kept i x e));
    })))

pub returns-then-branch-clause-different : goal.returns-then-branch-clause-different
returns-then-branch-clause-different c = c.advance.ensures.different c.requires.different

pub returns-else-branch-clause-turned : goal.returns-else-branch-clause-turned
returns-else-branch-clause-turned c n running =
    let (resume, is, on) = c.error_at-else-branch.ensures in
    let different = c.advance.ensures.different c.requires.different in
    let step = subst (Advances c.advance.new.atoms c.args.grammar.now.ops.now c.args.text.now (shown c.in-Ok.token) c.args.heap.now.now c.args.clause.now c.advance.new.heap.now c.advance.new.self) c.if-branch.false
    (c.in_ok-advance.ensures.step c.advance.new.atoms (record {
      kept = λ i x e. e;
      different = different;
      grammar = grammar_kept c.args.atoms.now c.advance.new.atoms c.args.grammar.now.names.now c.advance.ensures.kept c.requires.names;
      state = running.known c.advance.new.atoms c.advance.ensures.kept;
    })) in (
      stops_at_token c.args.grammar.now.ops.now c.args.text.now c.args.from n c.args.place c.args.atoms.now c.advance.new.atoms c.advance.ensures.kept c.args.heap.now.now c.advance.new.heap.now c.args.clause.now c.advance.new.self
          running c.requires.begun (shown c.in-Ok.token) c.in-Ok.ensures.value (c.if-is_last.ensures.other refl) different step resume _ is on,
      live_error c.advance.new.heap.now _ _ resume is,
    )

pub returns-else-branch-clause-different : goal.returns-else-branch-clause-different
returns-else-branch-clause-different c = c.advance.ensures.different c.requires.different
