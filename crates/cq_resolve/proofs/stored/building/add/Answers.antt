use Rattle.std.proofs.Common.{rules, ◌≡◌, ◌∙◌, ◌∷◌, List, ℕ, ap, sym, map}
use Rattle.spec_terms.specs.Term.{Number, Name, apply}
use Rattle.cq_term.specs.Meaning.{HeapTerm}
use Rattle.cq_term.specs.declared.view.View.{View}
use Rattle.cq_term.specs.declared.view.View.TheVariants as view
use Rattle.cq_resolve.specs.Pattern.{put}
use Rattle.cq_resolve.specs.Building.{image_from}
use Rattle.cq_resolve.specs.Marks.{shown}
use Rattle.cq_resolve.proofs.Reading.{put-compound}
use Rattle.cq_resolve.proofs.Built.{built_push}
use Rattle.cq_resolve.proofs.Marks.{whole_from}
use Rattle.cq_resolve.proofs.stored.building.add.Goals as goal

-- what was put over the terms, by what the part shows
put_over : (s : List HeapTerm) (images : List HeapTerm) (first : ℕ) (h k : View) (ts : List HeapTerm) → k ≡ h → s ≡ map (apply (image_from images first)) (put h ts) → s ≡ map (apply (image_from images first)) (put k ts)
put_over s images first h k ts e is = is ∙ ap (λ x. map (apply (image_from images first)) (put x ts)) (sym e)

pub returns-in_ok-push-in-Whole-clause-built : goal.returns-in_ok-push-in-Whole-clause-built
returns-in_ok-push-in-Whole-clause-built c = λ ts e.
    put_over _ c.args.heap.now.now.images c.args.first (view.Number c.from.result) (shown c.args.part.now) ts (ap shown c.in-Whole.is ∙ ap (λ x. view.Number x) (sym (whole_from c.in-Whole.number c.from.result (search rules) c.from.ensures)))
    (built_push c.args.heap.now.now.terms c.number.new.self.now.terms (Number c.from.result) c.args.built.now.items c.push.new.self.items c.in_ok-number-in-Whole.field-0
    c.in_ok-number-in-Whole.ensures.terms c.in_ok-number-in-Whole.ensures.id c.requires.live c.in_ok-push-in-Whole.ensures.items ∙ ap (λ us. Number c.from.result ∷ us) e)

pub returns-in_ok-push-in-Wide-clause-built : goal.returns-in_ok-push-in-Wide-clause-built
returns-in_ok-push-in-Wide-clause-built c = λ ts e.
    put_over _ c.args.heap.now.now.images c.args.first (view.Number c.deref.result.now) (shown c.args.part.now) ts (ap shown c.in-Wide.is ∙ ap (λ x. view.Number x) (sym c.deref.ensures))
    (built_push c.args.heap.now.now.terms c.number-in-Wide.new.self.now.terms (Number c.deref.result.now) c.args.built.now.items c.push-in-Wide.new.self.items c.in_ok-number-in-Wide.field-0
    c.in_ok-number-in-Wide.ensures.terms c.in_ok-number-in-Wide.ensures.id c.requires.live c.in_ok-push-in-Wide.ensures.items ∙ ap (λ us. Number c.deref.result.now ∷ us) e)

pub returns-in_ok-push-in-Name-clause-built : goal.returns-in_ok-push-in-Name-clause-built
returns-in_ok-push-in-Name-clause-built c = λ ts e.
    put_over _ c.args.heap.now.now.images c.args.first (view.Name c.in-Name.name) (shown c.args.part.now) ts (ap shown c.in-Name.is)
    (built_push c.args.heap.now.now.terms c.atom.new.self.now.terms (Name c.in-Name.name) c.args.built.now.items c.push-in-Name.new.self.items c.in_ok-atom-in-Name.field-0
    c.in_ok-atom-in-Name.ensures.terms c.in_ok-atom-in-Name.ensures.id c.requires.live c.in_ok-push-in-Name.ensures.items ∙ ap (λ us. Name c.in-Name.name ∷ us) e)

pub returns-in_ok-add_compound-in-Compound-clause-built : goal.returns-in_ok-add_compound-in-Compound-clause-built
returns-in_ok-add_compound-in-Compound-clause-built c = λ ts e.
    put_over _ c.args.heap.now.now.images c.args.first (view.Compound c.in-Compound.name c.in-Compound.arity) (shown c.args.part.now) ts (ap shown c.in-Compound.is)
    (c.in_ok-add_compound-in-Compound.ensures.built
    ∙ ap (put (view.Compound c.in-Compound.name c.in-Compound.arity)) e
    ∙ sym (put-compound (image_from c.args.heap.now.now.images c.args.first) c.in-Compound.name c.in-Compound.arity ts))
