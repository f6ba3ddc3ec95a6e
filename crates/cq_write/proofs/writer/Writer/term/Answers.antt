use Rattle.std.proofs.Common.{codes, true, refl}
use Rattle.cq_term.specs.Texts.{text_of}
use Rattle.cq_write.specs.Spelled.{written}
use Rattle.cq_write.specs.Work.{one_word, functional_jobs, cell_jobs}
use Rattle.cq_write.specs.Settings.{setting}
use Rattle.cq_write.specs.declared.jobs.Mark.TheVariants as mark
use Rattle.cq_write.specs.declared.jobs.Word.TheVariants as word
use Rattle.cq_write.specs.declared.jobs.Part.TheVariants as part
use Rattle.cq_write.specs.declared.jobs.Job.TheVariants as job
use Rattle.cq_write.proofs.Steps.{says, expands, on_ok}
use Rattle.cq_write.proofs.Begun.{begun_nothing}
use Rattle.cq_write.proofs.Expansions.{variable_made, cell_made, many_made}
use Rattle.cq_write.proofs.writer.Writer.term.Goals as goal

pub returns-in-Variable : goal.returns-in-Variable
returns-in-Variable c =
    let s = setting c.args.self.now in
    let line = written c.args.line.now in
    let old = c.args.jobs.now.items in
    let new = c.push_all.new.jobs.items in
    expands s (part.Term c.args.term) (one_word (word.Variable c.in-Variable.variable)) line line old new c.push_all.result
    (variable_made s c.args.term c.in-Variable.variable c.in-Variable.ensures)
    (on_ok c.push_all.result (λ e. begun_nothing s line line old new (one_word (word.Variable c.in-Variable.variable)) e refl) c.push_all.ensures)

pub returns-then-eq : goal.returns-then-eq
returns-then-eq c =
    let s = setting c.args.self.now in
    let shape = c.in-Binary.ensures in
    on_ok c.cell.result
    (λ made. (
      cell_jobs mark.OpenList made.0 c.in-Binary.right,
      cell_made s c.args.term c.in-Binary.name c.in-Binary.left c.in-Binary.right made.0 shape.0 shape.3
          (says c.text.result.now (text_of s.texts c.in-Binary.name) (codes ".") c.eq.result true c.text.ensures c.eq.ensures c.if-eq.true) made.1,
      made.2,
    ))
    c.cell.ensures

pub returns-in-Many : goal.returns-in-Many
returns-in-Many c =
    let s = setting c.args.self.now in
    expands s (part.Term c.args.term) (functional_jobs c.args.term c.in-Many.name) (written c.args.line.now) (written c.functional.new.line) c.args.jobs.now.items c.functional.new.jobs.items c.functional.result
    (let shape = c.in-Many.ensures in many_made s c.args.term c.in-Many.name shape.0 shape.1 shape.2 shape.3 shape.4 c.requires)
    c.functional.ensures
