use Rattle.std.proofs.Common.{◌∙◌, ap, sym}
use Rattle.cq_write.specs.Spelled.{written, put}
use Rattle.cq_write.proofs.Steps.{on_ok}
use Rattle.cq_write.proofs.writer.Writer.write_name.Goals as goal

pub push_ascii-requires : goal.push_ascii-requires
push_ascii-requires c = c.in-Some.ensures.ascii

pub returns-in-Some : goal.returns-in-Some
returns-in-Some c =
    on_ok c.push_ascii.result
    (λ e. e ∙ ap (λ t. put (written c.args.line.now) (record { text = t; manner = c.args.manner })) (sym c.in-Some.ensures.same))
    c.push_ascii.ensures
