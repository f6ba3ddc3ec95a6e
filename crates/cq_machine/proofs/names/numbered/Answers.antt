use Rattle.cq_machine.proofs.Interned.{gains_one, gains_none}
use Rattle.cq_machine.proofs.names.numbered.Goals as goal

pub returns-clause-gains : goal.returns-clause-gains
returns-clause-gains c =
    gains_one c.args.atoms.now c.intern.new.self c.args.text.now c.intern.ensures.was_different c.intern.ensures.different c.in_ok-atom.ensures.texts
    (c.numbers_keep_their_texts.ensures c.args.atoms.now c.args.text.now)

pub returns-in_err-atom-clause-gains : goal.returns-in_err-atom-clause-gains
returns-in_err-atom-clause-gains c = gains_none c.args.atoms.now c.intern.new.self c.intern.ensures.was_different c.in_err-atom.ensures.err
