use Rattle.std.proofs.Common.{[], subst, sym, ◌∙◌, get_or}
use Rattle.cq_term.specs.Texts.{KeepsTexts}
use Rattle.cq_term.proofs.AtomsPlaces.{kept-with_text}
use Rattle.cq_ops.proofs.Named.{named-next, known-next, step}
use Rattle.cq_ops.proofs.Ops.put_names.Goals as goal

pub loop-name-preserved : goal.loop-name-preserved
loop-name-preserved c =
    let name = get_or c.args.names.now c.loop-name.name-index (record { ref_ptr = (0, 0); now = [] }) in
    let kept : KeepsTexts c.loop-name.atoms c.intern.new.self = subst (KeepsTexts c.loop-name.atoms) (sym c.in_ok-atom.ensures.texts) (kept-with_text c.loop-name.atoms name.now) in
    let before = c.loop-name.invariant in
    let ensured = c.in_ok-atom.ensures in
    record {
      table = step (λ item. item.now) _ _ c.args.priority c.args.kind c.args.names.now c.loop-name.name-index (record { ref_ptr = (0, 0); now = [] }) c.loop-name-test.true
          (named-next c.loop-name.atoms c.intern.new.self c.loop-name.self c.put.new.self c.args.priority c.args.kind c.in_ok-atom.atom name.now ensured.was_different ensured.different kept before.known ensured.number c.in_ok-put.ensures.ok)
          ∙ before.table;
      known = known-next c.loop-name.atoms c.intern.new.self c.loop-name.self c.put.new.self c.args.priority c.args.kind c.in_ok-atom.atom name.now ensured.was_different ensured.different kept before.known ensured.number c.in_ok-put.ensures.ok;
      kept = λ i text e. kept i text (before.kept i text e);
    }
