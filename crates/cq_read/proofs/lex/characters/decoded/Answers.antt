use Rattle.std.proofs.Common.{◌≡◌, ℕ, Bool, true, false, cond, Option, None, refl, sym, ◌∙◌, ap, slice_get}
use Rattle.std.specs.Str.{chars}
use Rattle.std.proofs.lemmas.Str.{IsUtf8-from_is_utf8, is_utf8-from_IsUtf8}
use Rattle.cq_read.proofs.lex.characters.decoded.Goals as goal

none_if : (b : Bool) (x : Option ℕ) → (b ≡ true → ⊥) → cond b x None ≡ None
none_if true x h = absurd (h refl)
none_if false x h = refl

pub returns-in-Ok : goal.returns-in-Ok
returns-in-Ok c =
    let whole = c.in-Ok.ensures.cases in
    rw (is_utf8-from_IsUtf8 _ whole.1) (c.next.ensures.steps.2 ∙ ap (λ bs. slice_get (chars bs) 0) (c.chars.ensures.rest ∙ whole.0))

pub returns-in-Err : goal.returns-in-Err
returns-in-Err c = sym (none_if _ _ (λ e. c.in-Err.ensures.cases.0 (IsUtf8-from_is_utf8 _ e)))
