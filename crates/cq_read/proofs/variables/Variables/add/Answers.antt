use Rattle.std.proofs.Common.{◌≡◌, None, [], ◌∷◌, ◌++◌, subst, sym, ap, ◌∙◌, length}
use Rattle.std.specs.String.{string_bytes, string_eq}
use Rattle.indexmap.specs.IndexMap.{insert_entry}
use Rattle.spec_terms.specs.VariableName.{VariableName}
use Rattle.spec_syntax.specs.TextTokens.{known, with_variable}
use Rattle.cq_term.specs.Shown.{IsUnbound}
use Rattle.cq_read.specs.NamesWords.{names_of}
use Rattle.cq_read.specs.Names.{AreUnbound}
use Rattle.cq_read.proofs.Lookups.{adds_named, added_names}
use Rattle.cq_read.proofs.NamesLookups.{with_names}
use Rattle.cq_read.proofs.Growth.{all_unbound_kept, unbound_push}
use Rattle.cq_read.proofs.variables.Variables.add.Goals as goal

pub returns-in_ok-insert-clause-variables : goal.returns-in_ok-insert-clause-variables
returns-in_ok-insert-clause-variables c =
    let old = c.self.inside.numbers.entries in
    let fs = c.insert.new.self.entries in
    let count = length c.args.heap.now.now.images in
    ap (λ n. with_names n (names_of fs)) c.in_ok-variable.ensures.one
    ∙ adds_named old fs count c.in_ok-name.name c.args.name.now c.if-ne.ensures c.in_ok-name.ensures.ok
    (subst (λ v. known (with_names count v) c.args.name.now ≡ None) (sym c.self.view_is) c.requires.new)
    (c.in_ok-insert.ensures.entries ∙ ap (insert_entry string_eq old c.in_ok-name.name) c.in_ok-variable.ensures.number)
    ∙ ap (λ v. with_variable (with_names count v) c.args.name.now) c.self.view_is

pub returns-in_ok-insert-clause-names : goal.returns-in_ok-insert-clause-names
returns-in_ok-insert-clause-names c =
    let old = c.self.inside.numbers.entries in
    let fs = c.insert.new.self.entries in
    let count = length c.args.heap.now.now.images in
    let is = c.args.heap.now.now.images in
    let us = c.new_variable.new.heap.now.images in
    let added : VariableName = record { name = string_bytes c.in_ok-name.name; number = count } in
    let more : names_of fs ≡ names_of old ++ added ∷ [] = added_names old fs count c.in_ok-name.name c.args.name.now c.if-ne.ensures c.in_ok-name.ensures.ok
    (subst (λ v. known (with_names count v) c.args.name.now ≡ None) (sym c.self.view_is) c.requires.new)
    (c.in_ok-insert.ensures.entries ∙ ap (insert_entry string_eq old c.in_ok-name.name) c.in_ok-variable.ensures.number) in
    subst (AreUnbound us) (sym more)
    (unbound_push us (names_of old) added (all_unbound_kept is us (names_of old) c.new_variable.ensures.heap.images (subst (AreUnbound is) (sym c.self.view_is) c.requires.unbound))
    (subst (IsUnbound us) c.in_ok-variable.ensures.number c.in_ok-variable.ensures.unbound))

pub returns-else-ne-clause-names : goal.returns-else-ne-clause-names
returns-else-ne-clause-names c =
    all_unbound_kept c.args.heap.now.now.images c.new_variable.new.heap.now.images c.args.self.now c.new_variable.ensures.heap.images c.requires.unbound
