use Rattle.std.proofs.Common.{◌≡◌, ◌-◌, ◌<◌, ◌∙◌, List, length, map, reverse, drop, refl, ap, sym, subst, arith}
use Rattle.std.proofs.lemmas.List.{length-map, length-reverse}
use Rattle.spec_terms.specs.Term.{apply}
use Rattle.cq_term.specs.Meaning.{at}
use Rattle.cq_term.specs.declared.view.View.{View}
use Rattle.std.proofs.lemmas.List.Elements.{All-get_or}
use Rattle.spec_numbers.proofs.Prefixes.{prefix_both}
use Rattle.cq_resolve.specs.Pattern.{IsHead, IsNamedBelow, put, read}
use Rattle.cq_resolve.specs.Marks.{shown}
use Rattle.cq_resolve.specs.Building.{AreThere, image_from}
use Rattle.cq_resolve.proofs.Reading.{head_fits}
use Rattle.cq_resolve.proofs.Marks.{shown_at}
use Rattle.cq_resolve.proofs.stored.building.build_in.Goals as goal

pub add-requires-clause-part : goal.add-requires-clause-part
add-requires-clause-part c =
    let pattern : List View = map shown c.args.pattern.now in
    let long : length (read (drop c.loop-i.i pattern)) ≡ length c.loop-i.built.items =
    sym (length-map (read (drop c.loop-i.i pattern)) (apply (image_from c.args.heap.now.now.images c.args.first))) ∙ ap length (sym c.loop-i.invariant.built)
    ∙ length-map (reverse c.loop-i.built.items) (at c.loop-i.heap.now.terms) ∙ length-reverse c.loop-i.built.items in
    let within : c.loop-i.i - 1 < length c.args.pattern.now = omega (arith, c.loop-i.auto.i) in (
      c.requires.pattern.0,
      subst (IsHead c.requires.pattern.0 (shown c.index-pattern-i.result)) long
          (head_fits c.requires.pattern.0 pattern c.requires.pattern.1.fits c.loop-i.i (c.loop-i.i - 1) (shown c.index-pattern-i.result) (omega arith) (omega (arith, c.loop-i.auto.i, length-map c.args.pattern.now shown))
          (shown_at c.args.pattern.now (c.loop-i.i - 1) c.index-pattern-i.result (shown c.index-pattern-i.result) within c.index-pattern-i.is refl)).0,
      subst (λ us. AreThere us c.args.first c.requires.pattern.0) (sym c.loop-i.invariant.images) c.requires.pattern.2,
    )

pub loop-i-preserved : goal.loop-i-preserved
loop-i-preserved c =
    let pattern : List View = map shown c.args.pattern.now in
    let first = c.args.first in
    let head : View = shown c.index-pattern-i.result in
    let images = c.loop-i.invariant.images in
    let rest = read (drop c.loop-i.i pattern) in
    let within : c.loop-i.i - 1 < length c.args.pattern.now = omega (arith, c.loop-i.auto.i) in
    let is = shown_at c.args.pattern.now (c.loop-i.i - 1) c.index-pattern-i.result head within c.index-pattern-i.is refl in
    let fits = head_fits c.requires.pattern.0 pattern c.requires.pattern.1.fits c.loop-i.i (c.loop-i.i - 1) head (omega arith) (omega (arith, c.loop-i.auto.i, length-map c.args.pattern.now shown)) is in
    record {
      live = c.in_ok-add.ensures.live;
      built = c.in_ok-add.ensures.built rest (c.loop-i.invariant.built ∙ ap (λ us. map (apply (image_from us first)) rest) (sym images))
          ∙ ap (λ us. map (apply (image_from us first)) (put head rest)) images
          ∙ ap (λ hs. map (apply (image_from c.args.heap.now.now.images first)) (read hs)) (sym fits.1);
      terms = prefix_both c.args.heap.now.now.terms c.loop-i.heap.now.terms c.add.new.heap.now.terms c.loop-i.invariant.terms c.in_ok-add.ensures.terms;
      images = c.in_ok-add.ensures.images ∙ images;
      names = λ n all old. c.in_ok-add.ensures.names n
          (subst (IsNamedBelow n) (sym is) (All-get_or (IsNamedBelow n) pattern (c.loop-i.i - 1) head (omega (arith, c.loop-i.auto.i, length-map c.args.pattern.now shown)) all)) (c.loop-i.invariant.names n all old);
      saved = c.in_ok-add.ensures.saved ∙ c.loop-i.invariant.saved;
      room = omega (arith, c.in_ok-add.ensures.room, c.loop-i.invariant.room);
    }

pub returns-in_err-add-clause-names : goal.returns-in_err-add-clause-names
returns-in_err-add-clause-names c = λ n all old.
    let pattern : List View = map shown c.args.pattern.now in
    let head : View = shown c.index-pattern-i.result in
    let is = shown_at c.args.pattern.now (c.loop-i.i - 1) c.index-pattern-i.result head (omega (arith, c.loop-i.auto.i)) c.index-pattern-i.is refl in
    c.add.ensures.names n
    (subst (IsNamedBelow n) (sym is) (All-get_or (IsNamedBelow n) pattern (c.loop-i.i - 1) head (omega (arith, c.loop-i.auto.i, length-map c.args.pattern.now shown)) all)) (c.loop-i.invariant.names n all old)
