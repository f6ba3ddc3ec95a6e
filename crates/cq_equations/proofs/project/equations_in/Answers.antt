use Rattle.std.proofs.Common.{rules, ◌≡◌, ◌<◌, [], ◌∷◌, ◌++◌, length, arith, get_or, None, Some}
use Rattle.std.proofs.lemmas.List.{get_or_default}
use Rattle.cq_frac.specs.declared.VarId.{VarId}
use Rattle.cq_equations.specs.Contents.{solved_of}
use Rattle.cq_equations.proofs.Listed.{row_more, no_row_more}
use Rattle.cq_equations.proofs.project.equations_in.Goals as goal

pub wanted-preserved-in_default : goal.wanted-preserved-in_default
wanted-preserved-in_default c =
    let within : c.wanted.x-index < length c.args.keep.now = omega arith in
    let x : VarId = get_or c.args.keep.now c.wanted.x-index (record { 0 = 0 }) in
    let free : solved_of c.args.store.now x.0 ≡ None = search rules in
    no_row_more (solved_of c.args.store.now) c.args.keep.now c.wanted.x-index x within (get_or_default c.args.keep.now c.wanted.x-index _ _ within) c.wanted.equations.items c.wanted.invariant free

pub wanted-preserved : goal.wanted-preserved
wanted-preserved c =
    let within : c.wanted.x-index < length c.args.keep.now = omega arith in
    let x : VarId = get_or c.args.keep.now c.wanted.x-index (record { 0 = 0 }) in
    let found : solved_of c.args.store.now x.0 ≡ Some c.in-Some.form = search rules in
    let more : c.push.new.self.items ≡ c.wanted.equations.items ++ c.in_ok-solved_for.field-0 ∷ [] = search rules in
    row_more (solved_of c.args.store.now) c.args.keep.now c.wanted.x-index x within (get_or_default c.args.keep.now c.wanted.x-index _ _ within) c.wanted.equations.items c.push.new.self.items c.in_ok-solved_for.field-0 c.in-Some.form c.wanted.invariant found more c.in_ok-solved_for.ensures
