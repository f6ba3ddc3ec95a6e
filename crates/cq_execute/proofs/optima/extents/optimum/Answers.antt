use Rattle.std.proofs.Common.{◌≡◌, [], ◌∷◌, None, sym, ◌∙◌, subst}
use Rattle.spec_numbers.specs.Rational.{ℚ}
use Rattle.spec_builtins.specs.Terms as builtins
use Rattle.spec_builtins.specs.Built.{compound2}
use Rattle.cq_branch.specs.Begun.{told_work}
use Rattle.spec_branch.specs.Branch.{Branch}
use Rattle.spec_search.specs.Builtins.{Optimum}
use Rattle.spec_search.specs.Replies.{child, makes}
use Rattle.spec_search.specs.Rows.{nth}
use Rattle.spec_search.specs.Steps.{Steps, children}
use Rattle.spec_syntax.specs.Trees.{Tree}
use Rattle.spec_terms.specs.Term.{Number}
use Rattle.cq_questions.specs.Extents.{side_of}
use Rattle.cq_term.specs.Trees.{tree}
use Rattle.cq_branch.proofs.Arguments.{argument_reads}
use Rattle.cq_machine.specs.Machines.{terms, now, holds}
use Rattle.cq_machine.specs.Stepping.{row_of}
use Rattle.cq_machine.proofs.Kept.{argument_is}
use Rattle.cq_execute.proofs.OptimaAsked.{steps_on}
use Rattle.cq_execute.proofs.Children.{value_takes, value_stops}
use Rattle.cq_execute.proofs.Kept.{unchanged_built, unchanged_leads, unchanged_ball, tree_on}
use Rattle.cq_execute.proofs.optima.extents.optimum.Goals as goal

pub returns-in-Value-clause-row : goal.returns-in-Value-clause-row
returns-in-Value-clause-row c =
    let m = c.args.m.now in
    let mid = c.value_at.new.m in
    let q = c.in-Value.number in
    let t : Tree = tree mid.atoms (terms mid) c.arg-expression.result in
    value_takes m mid c.tell_value.new.m c.value_at.ensures.unchanged c.args.goal c.args.rest (row_of (Optimum (side_of c.args.side))) (told_work (compound2 "=" t (Number q) ∷ []))
    (λ height p behind g s e. (let same : t ≡ nth (builtins.arguments g) 0 =
    tree_on m mid (unchanged_built m mid c.value_at.ensures.unchanged) c.arg-expression.result c.arg-expression.ensures.live
    ∙ argument_is m.atoms (now m).0 p.state c.args.goal 0 c.arg-expression.result g s.reads c.arg-expression.ensures.live c.arg-expression.ensures.arg in
    let re = argument_reads m.atoms (now m).0 p.state c.args.goal 0 c.arg-expression.result g s.reads c.arg-expression.ensures.live c.arg-expression.ensures.arg in
    subst (λ (x : Tree). Steps p g (children p (child p.rest p.state (told_work (compound2 "=" x (Number q) ∷ [])) ∷ []))) (sym same)
    ((rw c.in-Value.is at c.in-Ok.ensures.valued) p g (nth (builtins.arguments g) 0) (λ (q : ℚ). child p.rest p.state (told_work (compound2 "=" (nth (builtins.arguments g) 0) (Number q) ∷ []))) s.selected.place.continuation.state re e)))
    c.tell_value.result c.tell_value.ensures.row

pub returns-in-Value-clause-stop : goal.returns-in-Value-clause-stop
returns-in-Value-clause-stop c =
    let m = c.args.m.now in
    let mid = c.value_at.new.m in
    let q = c.in-Value.number in
    let t : Tree = tree mid.atoms (terms mid) c.arg-expression.result in
    value_stops m mid c.tell_value.new.m c.value_at.ensures.unchanged c.args.goal c.args.rest (row_of (Optimum (side_of c.args.side))) (told_work (compound2 "=" t (Number q) ∷ []))
    (λ height p behind g s e. (let same : t ≡ nth (builtins.arguments g) 0 =
    tree_on m mid (unchanged_built m mid c.value_at.ensures.unchanged) c.arg-expression.result c.arg-expression.ensures.live
    ∙ argument_is m.atoms (now m).0 p.state c.args.goal 0 c.arg-expression.result g s.reads c.arg-expression.ensures.live c.arg-expression.ensures.arg in
    let re = argument_reads m.atoms (now m).0 p.state c.args.goal 0 c.arg-expression.result g s.reads c.arg-expression.ensures.live c.arg-expression.ensures.arg in
    subst (λ (x : Tree). Steps p g (children p (child p.rest p.state (told_work (compound2 "=" x (Number q) ∷ [])) ∷ []))) (sym same)
    ((rw c.in-Value.is at c.in-Ok.ensures.valued) p g (nth (builtins.arguments g) 0) (λ (q : ℚ). child p.rest p.state (told_work (compound2 "=" (nth (builtins.arguments g) 0) (Number q) ∷ []))) s.selected.place.continuation.state re e)))
    c.tell_value.result c.tell_value.ensures.stop

pub returns-in-Nothing-clause-row : goal.returns-in-Nothing-clause-row
returns-in-Nothing-clause-row c = λ height p behind g s e.
    let m = c.args.m.now in
    let a : Tree = nth (builtins.arguments g) 0 in
    let next : ℚ → Branch = λ (q : ℚ). child p.rest p.state (told_work (compound2 "=" (nth (builtins.arguments g) 0) (Number q) ∷ [])) in
    let re = argument_reads m.atoms (now m).0 p.state c.args.goal 0 c.arg-expression.result g s.reads c.arg-expression.ensures.live c.arg-expression.ensures.arg in
    let mid = c.value_at.new.m in
    steps_on mid None p behind g []
    (unchanged_leads m mid None p behind (makes p []) c.value_at.ensures.unchanged (c.goals_succeed_or_fail.ensures.back m.atoms (holds m) (now m) height c.args.rest p behind s.selected))
    ((rw c.in-Nothing.is at c.in-Ok.ensures.valued) p g a next s.selected.place.continuation.state re e)

pub returns-in-Raises-clause-row : goal.returns-in-Raises-clause-row
returns-in-Raises-clause-row c = λ height p behind g s e.
    let m = c.args.m.now in
    let a : Tree = nth (builtins.arguments g) 0 in
    let next : ℚ → Branch = λ (q : ℚ). child p.rest p.state (told_work (compound2 "=" (nth (builtins.arguments g) 0) (Number q) ∷ [])) in
    let re = argument_reads m.atoms (now m).0 p.state c.args.goal 0 c.arg-expression.result g s.reads c.arg-expression.ensures.live c.arg-expression.ensures.arg in
    unchanged_ball m c.value_at.new.m p g c.in-Raises.error c.value_at.ensures.unchanged
    ((rw c.in-Raises.is at c.in-Ok.ensures.valued) p g a next s.selected.place.continuation.state re e)

pub returns-in-Err-clause-stop : goal.returns-in-Err-clause-stop
returns-in-Err-clause-stop c = λ height p behind g s e.
    let m = c.args.m.now in
    let a : Tree = nth (builtins.arguments g) 0 in
    let next : ℚ → Branch = λ (q : ℚ). child p.rest p.state (told_work (compound2 "=" (nth (builtins.arguments g) 0) (Number q) ∷ [])) in
    let re = argument_reads m.atoms (now m).0 p.state c.args.goal 0 c.arg-expression.result g s.reads c.arg-expression.ensures.live c.arg-expression.ensures.arg in
    c.in-Err.ensures.stop p g a next s.selected.place.continuation.state re e
