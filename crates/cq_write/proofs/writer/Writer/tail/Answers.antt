use Rattle.std.proofs.Common.{◌≡◌, codes, false, subst, inl, inr}
use Rattle.cq_term.specs.Texts.{text_of}
use Rattle.cq_term.specs.Meaning.{at}
use Rattle.cq_write.specs.Settings.{setting}
use Rattle.cq_write.specs.Work.{HasShape}
use Rattle.cq_write.specs.declared.shapes.Shape.{Shape}
use Rattle.cq_write.specs.declared.shapes.Shape.TheVariants as shape
use Rattle.cq_write.proofs.Steps.{says}
use Rattle.cq_write.proofs.Expansions.{other_name, other_binary, other_variable, other_number, other_unary, other_many}
use Rattle.cq_write.proofs.writer.Writer.tail.Goals as goal

pub returns-else-eq : goal.returns-else-eq
returns-else-eq c =
    let s = setting c.args.self.now in
    let shape = c.in-Name.ensures in
    other_name s c.args.term c.in-Name.name shape.0 (says c.text.result.now (text_of s.texts c.in-Name.name) (codes "[]") c.eq.result false c.text.ensures.value c.eq.ensures c.if-eq.false)

pub returns-else-eq-2 : goal.returns-else-eq-2
returns-else-eq-2 c =
    let s = setting c.args.self.now in
    let shape = c.in-Binary.ensures in
    other_binary s c.args.term c.in-Binary.name (at s.terms c.in-Binary.element) (at s.terms c.in-Binary.rest) shape.0 (says c.text-in-Binary.result.now (text_of s.texts c.in-Binary.name) (codes ".") c.eq-in-Binary.result false c.text-in-Binary.ensures.value c.eq-in-Binary.ensures c.if-eq-2.false)

pub returns-in-Variable : goal.returns-in-Variable
returns-in-Variable c =
    let s = setting c.args.self.now in
    let shaped = λ (sh : Shape) (e : c.shape.result ≡ sh). subst (HasShape s (at s.terms c.args.term)) e c.shape.ensures in
    elim c.in-Variable.is [
      | inl x ↦ other_variable s c.args.term x.0.0 (shaped (shape.Variable x.0) x.1)
      | inr y ↦ elim y [
        | inl x ↦ other_number s c.args.term x.0 (shaped (shape.Number x.0) x.1)
        | inr z ↦ elim z [
          | inl x ↦ other_unary s c.args.term x.0 (at s.terms x.1) (shaped (shape.Unary x.0 x.1) x.2).0
          | inr x ↦ (let m = shaped (shape.Many x.0) x.1 in other_many s c.args.term x.0 m.0 m.1 m.2 m.3)
        ]
      ]
    ]
