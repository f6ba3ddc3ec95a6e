use Rattle.std.proofs.Common.{◌≡◌, List, length, map, get_or, sym, ap, arith, ◌∙◌}
use Rattle.std.proofs.lemmas.List.{length-map}
use Rattle.spec_terms.specs.Term.{Var, Number, Name, Compound}
use Rattle.cq_resolve.specs.Pattern.{heads}
use Rattle.cq_resolve.specs.Marks.{shown}
use Rattle.cq_resolve.proofs.Reading.{pattern_heads}
use Rattle.cq_resolve.proofs.FirstArguments.{head_shown}
use Rattle.cq_resolve.proofs.Marks.{shown_at}
use Rattle.cq_term.specs.Meaning.{HeapTerm}
use Rattle.cq_term.specs.Shown.{view_of}
use Rattle.cq_term.specs.declared.view.View.{View}
use Rattle.cq_branch.proofs.begin.clauses.body_shown.Goals as goal

-- the first of a term's heads is what it shows
first_head : (t : HeapTerm) (h : View) → h ≡ get_or (heads t) 0 h → h ≡ view_of t
first_head (Var v) h e = e
first_head (Number q) h e = e
first_head (Name a) h e = e
first_head (Compound f ts) h e = e

pub returns : goal.returns
returns c =
    let parts = c.body.result.now in
    let front = head_shown c.args.clause.now.variables (map shown parts) c.body.ensures.pattern in
    first_head c.args.clause.now.body c.view.result
    (shown_at parts 0 c.index-body-0.result c.view.result (omega (arith, length-map parts shown, ap length front.1)) c.index-body-0.is (sym c.view.ensures)
    ∙ ap (λ (hs : List View). get_or hs 0 c.view.result)
    (sym (pattern_heads c.args.clause.now.variables (map shown parts) c.body.ensures.pattern) ∙ ap heads c.body.ensures.term))
