use Rattle.std.proofs.Common.{◌≡◌, ◌+◌, ◌<◌, ◌++◌, [], ◌∷◌, ◌∙◌, length, get_or, length-set, arith}
use Rattle.std.proofs.lemmas.List.{get_or_default}
use Rattle.cq_frac.specs.declared.VarId.{VarId}
use Rattle.cq_attr.specs.declared.notes.Note.{Note}
use Rattle.cq_attr.proofs.Linked.{linked_push, pairs_more}
use Rattle.cq_attr.proofs.notes.link.Goals as goal

pub loop-variable-preserved : goal.loop-variable-preserved
loop-variable-preserved g c =
    let d : VarId = record { 0 = 0 } in
    let i = c.loop-variable.variable-index in
    let v : VarId = get_or c.args.variables.now i d in
    let at : i < length c.args.variables.now = omega (arith, c.loop-variable-test.true) in
    let within : v.0 < length c.loop-variable.newest.items = c.loop-variable.invariant.places i d at in
    let note : Note g.row.T.Denot = record { variable = v.0; value = c.args.value; earlier = c.replace-earlier.result } in
    let pushed : c.push.new.self.items ≡ c.loop-variable.notes.items ++ note ∷ [] = rw c.unwrap.ensures at c.push.ensures.items in
    let place : c.replace-earlier.new.dest ≡ length c.loop-variable.notes.items + 1 = omega (arith, c.replace-earlier.ensures.after, c.len.ensures, c.loop-variable.notes.ok.0) in
    let longer = rw c.unwrap.ensures at c.push.ensures.len in
    record {
      linked = rw (pushed, place) (linked_push c.loop-variable.newest.items c.loop-variable.notes.items note c.loop-variable.invariant.linked within (c.replace-earlier.ensures.value ∙ c.index_mut.ensures.value ∙ get_or_default c.loop-variable.newest.items v.0 c.index_mut.result.now 0 within));
      places = λ k e le. rw length-set (c.loop-variable.invariant.places k e le);
      pairs = rw pushed (pairs_more c.loop-variable.notes.items c.args.notes.now.items c.args.variables.now i d c.args.value c.replace-earlier.result at c.loop-variable.invariant.pairs);
      room = omega (arith, longer, at, c.push.ensures.capacity, c.loop-variable.invariant.room);
    }
