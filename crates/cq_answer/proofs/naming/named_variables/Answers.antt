use Rattle.std.proofs.Common.{◌≡◌, ◌∙◌, ◌++◌, ◌-◌, [], ℕ, List, length, take, drop, sym, ap, append-nil, arith}
use Rattle.std.specs.Prelude.{filter}
use Rattle.std.proofs.lemmas.List.{drop-map, length-drop, take_all}
use Rattle.spec_answers.specs.Rows.{row_variables}
use Rattle.cq_frac.specs.declared.VarId.{VarId}
use Rattle.cq_term.specs.Places.{numbers_of}
use Rattle.cq_project.specs.Projecting.{rows_of}
use Rattle.cq_answer.specs.Numbered.{counted, has_variable, AreCounted}
use Rattle.cq_answer.proofs.naming.named_variables.Goals as goal

pub returns : goal.returns
returns c =
    let first = c.args.free.items in
    let from = c.len-from.result in
    let wanted = c.args.wanted.now in
    let rest = filter (has_variable (row_variables (rows_of c.args.rows.now))) (numbers_of c.args.rows.now.kept.items) in
    let e : from ≡ length first = c.len-from.ensures ∙ c.args.free.ok.0 in
    let a : AreCounted first [] from first = (e, sym (append-nil first)) in
    let behind : take (length wanted - from) (drop from wanted) ≡ drop from wanted = take_all (length wanted - from) (drop from wanted) (omega (arith, length-drop from wanted)) in
    let b = c.in_ok-name_all.ensures.named first [] a in
    let d = c.in_ok-name_kept.ensures first (numbers_of (take (length wanted - from) (drop from wanted))) b in
    d.1 ∙ ap (λ us. first ++ counted 0 (us ++ rest)) (ap numbers_of behind ∙ ap (λ n. numbers_of (drop n wanted)) e ∙ sym (drop-map (λ (v : VarId). v.0) (length first) wanted))
