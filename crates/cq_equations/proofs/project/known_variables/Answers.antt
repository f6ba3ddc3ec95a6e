use Rattle.std.proofs.Common.{◌≡◌, ◌<◌, ◌≤◌, length, refl, arith, sym, ap, ◌∙◌, subst, take, get_or}
use Rattle.std.proofs.lemmas.List.{take_all, get_or_default}
use Rattle.spec_numbers.specs.Sums.{Mentions}
use Rattle.cq_frac.specs.contracts.VarIdPartialEq.TheImpl as same_variable
use Rattle.cq_form.specs.Entries.{products_of}
use Rattle.cq_equations.proofs.Known.{wanted_more, knows_more, knows_member, entry_more}
use Rattle.cq_equations.proofs.project.known_variables.Goals as goal

pub wanted-preserved : goal.wanted-preserved
wanted-preserved c =
    let within : c.wanted.x-index < length c.args.keep.now = omega arith in
    wanted_more same_variable.eq-value.it (λ a b. refl) c.args.keep.now c.wanted.known.keys c.insert.new.self.keys c.wanted.x-index
    (get_or c.args.keep.now c.wanted.x-index (record { 0 = 0 })) c.requires within (get_or_default c.args.keep.now c.wanted.x-index _ _ within) c.wanted.invariant c.in_ok-insert.ensures.keys

pub entries-preserved : goal.entries-preserved
entries-preserved c =
    let within : c.entries.entry-index < length c.entries-entry-items.result.now = omega arith in
    let new = knows_more same_variable.eq-value.it (λ a b. refl) c.args.keep.now (take c.members.c-index c.args.told.now) c.entries.known.keys c.insert-in-entries.new.self.keys (record { 0 = c.entry-item.result.quantity }) c.entries.invariant.0 c.in_ok-insert-2.ensures.keys in
    (new.knows, entry_more c.entries.known.keys c.insert-in-entries.new.self.keys c.entries-entry-items.result.now c.entries.entry-index c.entry-item.result within c.entry-item.is new.there new.stays c.entries.invariant.1)

pub members-preserved : goal.members-preserved
members-preserved c =
    let within : c.members.c-index < length c.args.told.now = omega arith in
    let whole : length c.entries-entry-items.result.now ≤ c.entries.entry-index = omega arith in
    knows_member c.args.keep.now c.args.told.now c.entries.known.keys c.members.c-index (record { relation = c.c.inside.relation; form = c.c.inside.form }) c.entries.invariant.0 within (subst (λ d. d ≡ get_or c.args.told.now c.members.c-index d) (sym c.c.view_is) c.c-item.is)
    (λ y m. c.entries.invariant.1 y (subst (Mentions y) (sym (ap products_of (take_all c.entries.entry-index c.entries-entry-items.result.now whole) ∙ c.entries-entry-items.ensures.value)) m))
