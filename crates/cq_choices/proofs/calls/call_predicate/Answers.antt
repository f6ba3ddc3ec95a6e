use Rattle.std.proofs.Common.{◌∷◌, sym, subst}
use Rattle.cq_predicates.specs.Names.{as_predicate}
use Rattle.cq_term.specs.Trees.{KnowsTerms}
use Rattle.cq_settle.specs.Contents.{Contents}
use Rattle.cq_settle.specs.Worlds.{now_of}
use Rattle.spec_engine.specs.Cells.{Value}
use Rattle.cq_branch.specs.Worlds.{value, saved_values, with_heap}
use Rattle.cq_branch.specs.declared.alternatives.Alternatives.TheVariants.{Barrier, Ways}
use Rattle.cq_choices.specs.Held.{held, open_of}
use Rattle.cq_choices.proofs.Calling.{call_leads, stays_over, call_raises, left_open, open_with, undone, saved_with}
use Rattle.cq_choices.proofs.Ending.{over_same}
use Rattle.cq_choices.proofs.Named.{known_more}
use Rattle.cq_choices.proofs.calls.call_predicate.Goals as goal

pub returns-in-Ok-clause-row : goal.returns-in-Ok-clause-row
returns-in-Ok-clause-row c =
    let old = held c.args.atoms.now c.args.world.now.first c.args.world.now.second c.args.choices.now in
    let start = value c.push.new.world.first c.push.new.world.second.now in
    let marks = open_with c.call.new.heap.saved c.push.new.world.first c.push.new.world.second.saved c.push.new.self ((old.now, Barrier) ∷ open_of old) c.call.ensures.adds.saved
    c.in_ok-push.ensures.open in
    let later : Value Contents = (with_heap c.call.new.heap.now (now_of c.push.new.world.first), c.push.new.world.second.now) in
    let new = held c.call.new.atoms c.renew.new.world.first c.renew.new.world.second c.renew.new.choices in
    let known = subst (λ (x : Value Contents). KnowsTerms c.args.atoms.now x.0.heap.terms) (sym c.in_ok-push.ensures.now) c.requires.names in
    let opened = left_open (saved_with c.call.new.heap.saved c.push.new.world.first c.push.new.world.second.saved)
    (saved_values c.renew.new.world.first c.renew.new.world.second.saved) c.push.new.self c.renew.new.choices old.now later (Ways c.in-Ok.solutions c.args.rest) (open_of old) marks
    c.renew.ensures.open in
    call_leads old new c.call.ensures.adds.longer c.names_are_of_terms.ensures.choices c.names_are_of_terms.ensures.now start c.in_ok-push.ensures.now c.call.new.heap.now (as_predicate c.args.predicate) c.args.args.now c.args.rest
    c.in-Ok.solutions c.in-Ok.ensures.offered c.call.ensures.adds.terms (c.call.ensures.adds.names known) opened

pub returns-in-Ok-clause-over : goal.returns-in-Ok-clause-over
returns-in-Ok-clause-over c =
    let old = held c.args.atoms.now c.args.world.now.first c.args.world.now.second c.args.choices.now in
    let start = value c.push.new.world.first c.push.new.world.second.now in
    let marks = open_with c.call.new.heap.saved c.push.new.world.first c.push.new.world.second.saved c.push.new.self ((old.now, Barrier) ∷ open_of old) c.call.ensures.adds.saved
    c.in_ok-push.ensures.open in
    let later : Value Contents = (with_heap c.call.new.heap.now (now_of c.push.new.world.first), c.push.new.world.second.now) in
    let new = held c.call.new.atoms c.renew.new.world.first c.renew.new.world.second c.renew.new.choices in
    let known = subst (λ (x : Value Contents). KnowsTerms c.args.atoms.now x.0.heap.terms) (sym c.in_ok-push.ensures.now) c.requires.names in
    let opened = left_open (saved_with c.call.new.heap.saved c.push.new.world.first c.push.new.world.second.saved)
    (saved_values c.renew.new.world.first c.renew.new.world.second.saved) c.push.new.self c.renew.new.choices old.now later (Ways c.in-Ok.solutions c.args.rest) (open_of old) marks
    c.renew.ensures.open in
    stays_over old new c.call.ensures.adds.longer c.names_are_of_terms.ensures.choices c.names_are_of_terms.ensures.now start c.in_ok-push.ensures.now c.call.new.heap.now (as_predicate c.args.predicate) c.args.args.now c.args.rest
    c.in-Ok.solutions c.in-Ok.ensures.offered c.call.ensures.adds.terms (c.call.ensures.adds.names known) opened c.in-Ok.ensures.live

pub returns-in-Err-clause-fault : goal.returns-in-Err-clause-fault
returns-in-Err-clause-fault c =
    let old = held c.args.atoms.now c.args.world.now.first c.args.world.now.second c.args.choices.now in
    let start = value c.push.new.world.first c.push.new.world.second.now in
    let marks = open_with c.call.new.heap.saved c.push.new.world.first c.push.new.world.second.saved c.push.new.self ((old.now, Barrier) ∷ open_of old) c.call.ensures.adds.saved
    c.in_ok-push.ensures.open in
    call_raises old start c.in_ok-push.ensures.now (as_predicate c.args.predicate) c.args.args.now c.in-Err.fault c.in-Err.ensures.fault

pub returns-in-Err-clause-over : goal.returns-in-Err-clause-over
returns-in-Err-clause-over c =
    let old = held c.args.atoms.now c.args.world.now.first c.args.world.now.second c.args.choices.now in
    let start = value c.push.new.world.first c.push.new.world.second.now in
    let marks = open_with c.call.new.heap.saved c.push.new.world.first c.push.new.world.second.saved c.push.new.self ((old.now, Barrier) ∷ open_of old) c.call.ensures.adds.saved
    c.in_ok-push.ensures.open in
    let back = held c.call.new.atoms c.back.new.world.first c.back.new.world.second c.back.new.self in
    let gone = undone c.back.result c.push.new.self c.back.new.self (saved_with c.call.new.heap.saved c.push.new.world.first c.push.new.world.second.saved)
    (saved_values c.back.new.world.first c.back.new.world.second.saved) old.now back.now (open_of old) c.args.choices.now c.in_ok-push.ensures.contents c.back.ensures.none
    c.back.ensures.open marks in
    λ v o. over_same old back v o c.call.ensures.adds.longer gone.1

pub returns-in-Ok-clause-names : goal.returns-in-Ok-clause-names
returns-in-Ok-clause-names c =
    let known = subst (λ (x : Value Contents). KnowsTerms c.args.atoms.now x.0.heap.terms) (sym c.in_ok-push.ensures.now) c.requires.names in
    subst (λ (x : Contents). KnowsTerms c.call.new.atoms x.heap.terms) (sym c.renew.ensures.now) (c.call.ensures.adds.names known)

pub returns-in-Err-clause-names : goal.returns-in-Err-clause-names
returns-in-Err-clause-names c =
    let old = held c.args.atoms.now c.args.world.now.first c.args.world.now.second c.args.choices.now in
    let marks = open_with c.call.new.heap.saved c.push.new.world.first c.push.new.world.second.saved c.push.new.self ((old.now, Barrier) ∷ open_of old) c.call.ensures.adds.saved
    c.in_ok-push.ensures.open in
    let back = held c.call.new.atoms c.back.new.world.first c.back.new.world.second c.back.new.self in
    let gone = undone c.back.result c.push.new.self c.back.new.self (saved_with c.call.new.heap.saved c.push.new.world.first c.push.new.world.second.saved)
    (saved_values c.back.new.world.first c.back.new.world.second.saved) old.now back.now (open_of old) c.args.choices.now c.in_ok-push.ensures.contents c.back.ensures.none
    c.back.ensures.open marks in
    known_more c.args.atoms.now c.call.new.atoms c.call.ensures.adds.longer (now_of c.back.new.world.first).heap.terms
    (subst (λ (x : Value Contents). KnowsTerms c.args.atoms.now x.0.heap.terms) (sym gone.0) c.requires.names)
