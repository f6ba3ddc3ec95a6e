-- What holds where the arithmetic of a goal refuses two numbers.
use Rattle.std.specs.Prelude.{⊤}
use Rattle.cq_machine.specs.declared.step.Step.{Step}
use Rattle.cq_machine.specs.declared.step.Step.TheVariants.{Goes, Back, Raises, Throws, Refuses}

abbrev pub OnRefuses : Step → Type 0 → Type 0
OnRefuses (Goes k) P = ⊤
OnRefuses Back P = ⊤
OnRefuses (Raises e) P = ⊤
OnRefuses (Throws id) P = ⊤
OnRefuses (Refuses pair) P = P
