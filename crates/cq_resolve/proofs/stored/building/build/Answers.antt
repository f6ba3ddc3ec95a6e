use Rattle.std.proofs.Common.{◌∙◌, ap, sym, subst, length, map, arith, ◌<◌}
use Rattle.std.specs.Prelude.{All}
use Rattle.spec_numbers.specs.Prefixes.{IsPrefix}
use Rattle.spec_terms.specs.Term.{apply}
use Rattle.cq_term.specs.HeapValue.{HeapValue}
use Rattle.cq_term.specs.Meaning.{at}
use Rattle.cq_term.specs.Names.{HasNamesBelow}
use Rattle.cq_resolve.specs.Pattern.{term_of}
use Rattle.cq_resolve.specs.Marks.{shown}
use Rattle.cq_resolve.specs.Building.{AreThere, image_from}
use Rattle.cq_resolve.proofs.stored.building.build.Goals as goal

pub build_in-requires-clause-pattern : goal.build_in-requires-clause-pattern
build_in-requires-clause-pattern c = (
  c.requires.0,
  c.requires.1,
  subst (λ (h : HeapValue). AreThere h.now.images c.args.first c.requires.0) (sym c.spare_list-built.ensures.same) c.requires.2,
)

pub build_in-requires-clause-empty : goal.build_in-requires-clause-empty
build_in-requires-clause-empty c = c.spare_list-built.ensures.empty

pub returns-clause-live : goal.returns-clause-live
returns-clause-live c = subst (λ (h : HeapValue). c.in_ok-whole.whole < length h.now.terms) (sym c.keep_list.ensures) c.in_ok-whole.ensures.live

pub returns-clause-built : goal.returns-clause-built
returns-clause-built c =
    ap (λ (h : HeapValue). at h.now.terms c.in_ok-whole.whole) c.keep_list.ensures
    ∙ c.in_ok-whole.ensures.built
    ∙ ap (λ (h : HeapValue). apply (image_from h.now.images c.args.first) (term_of (map shown c.args.pattern.now))) c.spare_list-built.ensures.same

pub returns-clause-terms : goal.returns-clause-terms
returns-clause-terms c =
    subst (λ (h : HeapValue). IsPrefix c.args.heap.now.now.terms h.now.terms) (sym c.keep_list.ensures)
    (subst (λ (h : HeapValue). IsPrefix h.now.terms c.build_in.new.heap.now.terms) c.spare_list-built.ensures.same c.build_in.ensures.terms)

pub returns-clause-images : goal.returns-clause-images
returns-clause-images c =
    ap (λ (h : HeapValue). h.now.images) c.keep_list.ensures ∙ c.build_in.ensures.images ∙ ap (λ (h : HeapValue). h.now.images) c.spare_list-built.ensures.same

pub returns-clause-names : goal.returns-clause-names
returns-clause-names c = λ n named all.
    subst (λ (h : HeapValue). All (HasNamesBelow n) h.now.terms) (sym c.keep_list.ensures)
    (c.build_in.ensures.names n named (subst (λ (h : HeapValue). All (HasNamesBelow n) h.now.terms) (sym c.spare_list-built.ensures.same) all))

pub returns-clause-saved : goal.returns-clause-saved
returns-clause-saved c = ap (λ (h : HeapValue). h.saved) c.keep_list.ensures ∙ c.build_in.ensures.saved ∙ ap (λ (h : HeapValue). h.saved) c.spare_list-built.ensures.same

pub returns-clause-room : goal.returns-clause-room
returns-clause-room c = omega (arith, c.build_in.ensures.room, ap (λ (h : HeapValue). h.room) c.keep_list.ensures, ap (λ (h : HeapValue). h.room) c.spare_list-built.ensures.same)

pub returns-in_err-whole-clause-terms : goal.returns-in_err-whole-clause-terms
returns-in_err-whole-clause-terms c = subst (λ (h : HeapValue). IsPrefix h.now.terms c.build_in.new.heap.now.terms) c.spare_list-built.ensures.same c.build_in.ensures.terms

pub returns-in_err-whole-clause-images : goal.returns-in_err-whole-clause-images
returns-in_err-whole-clause-images c = c.build_in.ensures.images ∙ ap (λ (h : HeapValue). h.now.images) c.spare_list-built.ensures.same

pub returns-in_err-whole-clause-names : goal.returns-in_err-whole-clause-names
returns-in_err-whole-clause-names c = λ n named all. c.build_in.ensures.names n named (subst (λ (h : HeapValue). All (HasNamesBelow n) h.now.terms) (sym c.spare_list-built.ensures.same) all)

pub returns-in_err-whole-clause-saved : goal.returns-in_err-whole-clause-saved
returns-in_err-whole-clause-saved c = c.build_in.ensures.saved ∙ ap (λ (h : HeapValue). h.saved) c.spare_list-built.ensures.same

pub returns-in_err-whole-clause-room : goal.returns-in_err-whole-clause-room
returns-in_err-whole-clause-room c = omega (arith, c.build_in.ensures.room, ap (λ (h : HeapValue). h.room) c.spare_list-built.ensures.same)
