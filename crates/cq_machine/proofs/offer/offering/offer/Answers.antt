use Rattle.std.proofs.Common.{◌≡◌, ℕ, List, None, length, sym, ap, subst, ◌∙◌}
use Rattle.std.proofs.lemmas.List.{length-map}
use Rattle.spec_builtins.specs.Terms as builtins
use Rattle.spec_search.specs.Replies.{Raises}
use Rattle.cq_built.specs.Errors.{error_tree, HasCulprit, CanBeRaised}
use Rattle.cq_built.specs.declared.errors.BuiltinFault.{BuiltinFault}
use Rattle.cq_predicates.specs.Names.{as_predicate}
use Rattle.cq_resolve.specs.Database.{Program}
use Rattle.cq_term.specs.Meaning.{at}
use Rattle.cq_settle.specs.Contents.{Contents}
use Rattle.spec_engine.specs.Cells.{Value}
use Rattle.cq_branch.specs.Calls.{IsRaised}
use Rattle.cq_branch.specs.Worlds.{stack, Leads}
use Rattle.cq_machine.specs.Machines.{terms, now, saved}
use Rattle.cq_choices.specs.Calls.{AreRead, row_of}
use Rattle.cq_machine.proofs.Arguments.{arguments_read}
use Rattle.cq_machine.proofs.Errors.{error_same, culprit_on}
use Rattle.cq_machine.proofs.Machines.{over_sound}
use Rattle.cq_machine.proofs.offer.offering.offer.Goals as goal

pub call_on-requires-clause-arity : goal.call_on-requires-clause-arity
call_on-requires-clause-arity c =
    ap length c.deref.ensures.value ∙ sym (length-map c.in_ok-args.args.items (at (terms c.args.m.now))) ∙ ap length c.in_ok-args.ensures.args ∙ c.requires.arity

pub returns-in-Ok-clause-row : goal.returns-in-Ok-clause-row
returns-in-Ok-clause-row c = λ height p behind g s.
    let m = c.args.m.now in
    let n = c.call_on.new.m in
    let ts = builtins.arguments g in
    let read = subst (λ (ids : List ℕ). AreRead m.atoms (now m).0 p.state ids (builtins.arguments g)) (sym c.deref.ensures.value)
    (arguments_read m.atoms (now m).0 p.state c.args.goal g c.in_ok-args.args.items s.reads c.in_ok-args.ensures.live c.in_ok-args.ensures.args) in
    subst (λ (v : Program). Leads n.atoms (stack n.atoms v (saved n) n.choices) (now n) None p behind (row_of (as_predicate c.args.predicate) p ts)) (sym c.call_on.ensures.program.clauses)
    (c.in-Ok.ensures.row m.clauses p behind ts (over_sound m c.requires.sound) (s.selected.place, s.selected.waiting) read)

pub returns-in-Err-Error-clause-row : goal.returns-in-Err-Error-clause-row
returns-in-Err-Error-clause-row c = λ height p behind g s.
    let m = c.args.m.now in
    let n = c.call_on.new.m in
    let e = c.in-Err-Error.error in
    let row = row_of (as_predicate c.args.predicate) p (builtins.arguments g) in
    let read = subst (λ (ids : List ℕ). AreRead m.atoms (now m).0 p.state ids (builtins.arguments g)) (sym c.deref.ensures.value)
    (arguments_read m.atoms (now m).0 p.state c.args.goal g c.in_ok-args.args.items s.reads c.in_ok-args.ensures.live c.in_ok-args.ensures.args) in
    let raised : row ≡ Raises (error_tree m.atoms (terms m) e) =
    subst (λ (f : BuiltinFault). IsRaised m.atoms (terms m) f row) c.in-Err-Error.field-0-is
    (c.in-Err-Error.ensures.fault p (builtins.arguments g) s.selected.place.continuation.state read) in
    let culprit : HasCulprit m.atoms (terms m) e = subst (λ (f : BuiltinFault). CanBeRaised m.atoms (terms m) f) c.in-Err-Error.field-0-is c.in-Err-Error.ensures.culprit in
    raised ∙ ap Raises (sym (error_same m.atoms n.atoms c.call_on.ensures.program.atoms (terms m) c.requires.sound.names e culprit)
    ∙ ap (λ (w : Value Contents). error_tree n.atoms w.0.heap.terms e) (sym c.in-Err-Error.ensures.now))

pub returns-in-Err-Error-clause-goes : goal.returns-in-Err-Error-clause-goes
returns-in-Err-Error-clause-goes c =
    let m = c.args.m.now in
    let n = c.call_on.new.m in
    let e = c.in-Err-Error.error in
    let culprit : HasCulprit m.atoms (terms m) e = subst (λ (f : BuiltinFault). CanBeRaised m.atoms (terms m) f) c.in-Err-Error.field-0-is c.in-Err-Error.ensures.culprit in
    subst (λ (w : Value Contents). HasCulprit n.atoms w.0.heap.terms e) (sym c.in-Err-Error.ensures.now)
    (culprit_on m.atoms n.atoms c.call_on.ensures.program.atoms (terms m) c.requires.sound.names e culprit)
