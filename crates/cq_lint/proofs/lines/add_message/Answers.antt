use Rattle.std.proofs.Common.{◌≡◌, ◌++◌, ◌∙◌, ℕ, List, ap, sym, append_assoc}
use Rattle.std.proofs.lemmas.Result.{on_ok_weaker}
use Rattle.cq_lint.specs.Lines.{message}
use Rattle.cq_lint.proofs.lines.add_message.Goals as goal

-- the front, and then the rest of what is said
said : (lines fronted told front rest all : List ℕ) → fronted ≡ lines ++ front → all ≡ front ++ rest → told ≡ fronted ++ rest → told ≡ lines ++ all
said lines fronted told front rest all f a t = t ∙ ap (λ ls. ls ++ rest) f ∙ append_assoc lines front rest ∙ ap (λ ls. lines ++ ls) (sym a)

pub returns-in_ok-extend_from_slice-in-NoClause : goal.returns-in_ok-extend_from_slice-in-NoClause
returns-in_ok-extend_from_slice-in-NoClause c =
    on_ok_weaker c.add_shown.result
    (said _ _ _ _ _ _ c.in_ok-extend_from_slice-in-NoClause.ensures.items (ap (message c.args.text.now c.args.place) c.in-NoClause.is))
    c.add_shown.ensures

pub returns-in_ok-extend_from_slice-in-Lone : goal.returns-in_ok-extend_from_slice-in-Lone
returns-in_ok-extend_from_slice-in-Lone c =
    on_ok_weaker c.add_name.result
    (said _ _ _ _ _ _ c.in_ok-extend_from_slice-in-Lone.ensures.items (ap (message c.args.text.now c.args.place) c.in-Lone.is))
    c.add_name.ensures

pub returns-in_ok-extend_from_slice-in-Undefined : goal.returns-in_ok-extend_from_slice-in-Undefined
returns-in_ok-extend_from_slice-in-Undefined c =
    on_ok_weaker c.add_predicate.result
    (said _ _ _ _ _ _ c.in_ok-extend_from_slice-in-Undefined.ensures.items (ap (message c.args.text.now c.args.place) c.in-Undefined.is))
    c.add_predicate.ensures

pub returns-in_ok-extend_from_slice-in-Apart : goal.returns-in_ok-extend_from_slice-in-Apart
returns-in_ok-extend_from_slice-in-Apart c =
    on_ok_weaker c.add_predicate-in-Apart.result
    (said _ _ _ _ _ _ c.in_ok-extend_from_slice-in-Apart.ensures.items (ap (message c.args.text.now c.args.place) c.in-Apart.is))
    c.add_predicate-in-Apart.ensures
