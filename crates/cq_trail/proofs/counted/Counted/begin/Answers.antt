use Rattle.std.proofs.Common.{◌++◌, [], ◌∷◌, length, take, ap, ◌∙◌, arith, length-append}
use Rattle.std.proofs.Math.Seq.{take-append_seam}
use Rattle.cq_trail.specs.Counting.{counted}
use Rattle.cq_trail.proofs.counted.Counted.begin.Goals as goal

pub returns-in-Ok-clause-put : goal.returns-in-Ok-clause-put
returns-in-Ok-clause-put g c = c.in-Ok.ensures.put ∙ c.in_ok-m.ensures.saved

pub forget-requires : goal.forget-requires
forget-requires g c =
    let old = counted (g.T.Undo.saved c.args.self.now.inner) c.args.self.now.marks (g.T.Undo.now c.args.self.now.inner) in
    let one = length-append old (g.T.Undo.now c.args.self.now.inner ∷ []) in
    omega (arith, c.in_ok-m.ensures.mark, ap length (c.put_marks.ensures.saved ∙ c.in_ok-m.ensures.saved), one)

pub returns-in-Err-clause-err : goal.returns-in-Err-clause-err
returns-in-Err-clause-err g c =
    let now = g.T.Undo.now c.args.self.now.inner in
    let old = counted (g.T.Undo.saved c.args.self.now.inner) c.args.self.now.marks now in
    c.forget.ensures.saved
    ∙ ap (take c.in_ok-m.m.number) (c.put_marks.ensures.saved ∙ c.in_ok-m.ensures.saved)
    ∙ ap (λ n. take n (old ++ now ∷ [])) c.in_ok-m.ensures.mark
    ∙ take-append_seam old (now ∷ [])

pub returns-in-Err-clause-err_room : goal.returns-in-Err-clause-err_room
returns-in-Err-clause-err_room g c =
    let old = counted (g.T.Undo.saved c.args.self.now.inner) c.args.self.now.marks (g.T.Undo.now c.args.self.now.inner) in
    let one = length-append old (g.T.Undo.now c.args.self.now.inner ∷ []) in
    omega (arith, c.in_ok-m.ensures.mark, c.mark.ensures.room, c.put_marks.ensures.marks, c.forget.ensures.room, ap length (c.put_marks.ensures.saved ∙ c.in_ok-m.ensures.saved), one)
