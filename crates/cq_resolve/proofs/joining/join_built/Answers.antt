use Rattle.std.proofs.Common.{Bool, map}
use Rattle.std.specs.Prelude.{Ok, Err, OnOk}
use Rattle.std.specs.declared.result.Result.{Result}
use Rattle.std.specs.declared.alloc.AllocError.{AllocError}
use Rattle.spec_terms.specs.Term.{apply}
use Rattle.cq_term.specs.Meaning.{at, blank}
use Rattle.spec_numbers.proofs.Prefixes.{prefix_get_or}
use Rattle.cq_resolve.specs.Pattern.{term_of}
use Rattle.cq_resolve.specs.Marks.{shown}
use Rattle.cq_resolve.specs.Building.{image_from}
use Rattle.cq_resolve.proofs.Telling.{joined_as, joined_larger}
use Rattle.cq_resolve.proofs.joining.join_built.Goals as goal

pub returns-clause-joined : goal.returns-clause-joined
returns-clause-joined c = λ e.
    let h = c.join_terms.ensures.joined e in
    let old = c.args.heap.now.now in
    let mid = c.build.new.heap.now in
    let new = c.join_terms.new.heap.now in
    let left = at old.terms c.args.goal in
    let right = apply (image_from old.images c.args.first) (term_of (map shown c.args.part.now)) in (
      h.0,
      h.1,
      joined_larger old mid new left right h.0 c.in_ok-built.ensures.terms c.in_ok-built.ensures.images
          (joined_as mid new (at mid.terms c.args.goal) (at mid.terms c.in_ok-built.built) left right h.0 (prefix_get_or old.terms mid.terms c.args.goal blank c.in_ok-built.ensures.terms c.requires.live) c.in_ok-built.ensures.built h.2),
    )

on_any : (P : Type 0) (r : Result Bool AllocError) → P → OnOk r P
on_any P (Ok b) p = p
on_any P (Err e) p = tt

pub returns-clause-names : goal.returns-clause-names
returns-clause-names c = on_any _ c.join_terms.result (λ n part all. c.join_terms.ensures.names n (c.in_ok-built.ensures.names n part all))
