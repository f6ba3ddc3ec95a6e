-- Steps that several functions take.
use Rattle.std.proofs.Common.{◌≡◌, ℕ, zero, suc, ◌<◌, Bool, List, [], ◌∷◌, ◌++◌, length, reverse, true, false, slice_get, Some, Ok, Err, refl, ap, sym, ◌∙◌, arith, append_assoc, append-nil, subst}
use Rattle.std.specs.Prelude.{OnOk, bytes_eq, Result}
use Rattle.spec_numbers.specs.Texts.{Text}
use Rattle.spec_text.specs.Texts.{last_of, all_escaped, escaped}
use Rattle.cq_term.specs.Texts.{text_of}
use Rattle.cq_write.specs.Spelled.{Written}
use Rattle.cq_write.specs.Work.{Setting, Begins, Expands, IsExpansion, IsKnown, IsOperand}
use Rattle.cq_write.specs.declared.jobs.Part.{Part}
use Rattle.cq_write.specs.declared.jobs.Part.TheVariants as part
use Rattle.cq_write.specs.declared.jobs.Job.{Job}
use Rattle.cq_write.specs.declared.jobs.Job.TheVariants as job

-- where a call gave what it had to
pub on_ok : {T E P Q : Type 0} (r : Result T E) → (P → Q) → OnOk r P → OnOk r Q
on_ok (Ok x) f p = f p
on_ok (Err e) f p = tt

pub expands : {T E : Type 0} (s : Setting) (p : Part) (ks : List Job) (before after : Written) (old new : List Job) (r : Result T E) → IsExpansion s p ks → OnOk r (Begins s ks before after old new) → OnOk r (Expands s p before after old new)
expands s p ks before after old new r x h = on_ok r (λ e. (ks, x, e)) h

-- what a comparison of a name's text says
pub says : (t u k : Text) (r b : Bool) → t ≡ u → r ≡ bytes_eq t k → r ≡ b → bytes_eq u k ≡ b
says t u k r b e f g = ap (λ x. bytes_eq x k) (sym e) ∙ sym f ∙ g

-- a name's text is in the list
pub text_there : (texts : List Text) (a : ℕ) → a < length texts → slice_get texts a ≡ Some (text_of texts a)
text_there [] a h = absurd (omega arith)
text_there (t ∷ ts) zero h = refl
text_there (t ∷ ts) (suc a) h = text_there ts a (omega arith)

pub last_of-snoc : (cs : List ℕ) (c : ℕ) → last_of (cs ++ c ∷ []) ≡ Some c
last_of-snoc [] c = refl
last_of-snoc (d ∷ []) c = refl
last_of-snoc (d ∷ e ∷ cs) c = last_of-snoc (e ∷ cs) c

pub all_escaped-snoc : (q : ℕ) (cs : List ℕ) (c : ℕ) → all_escaped q (cs ++ c ∷ []) ≡ all_escaped q cs ++ escaped q c
all_escaped-snoc q [] c = append-nil (escaped q c)
all_escaped-snoc q (d ∷ cs) c = ap (λ t. escaped q d ++ t) (all_escaped-snoc q cs c) ∙ sym (append_assoc (escaped q d) (all_escaped q cs) (escaped q c))

-- the job of an operand, as the test said
pub operand_of : (s : Setting) (bare r : Bool) (id : ℕ) (j : Job) → r ≡ bare → IsOperand s r id j → IsOperand s bare id j
operand_of s bare r id j e h = subst (λ b. IsOperand s b id j) e h

-- the job of a term in parentheses, or bare, as an operand
pub enclosed_operand : (s : Setting) (bare : Bool) (id : ℕ) → bare ≡ false → IsKnown s id → IsOperand s bare id (job.Part (part.Enclosed id))
enclosed_operand s bare id e known = subst (λ b. IsOperand s b id (job.Part (part.Enclosed id))) (sym e) (record { pieces = refl; ready = known; light = omega arith })

pub bare_operand : (s : Setting) (bare : Bool) (id : ℕ) → bare ≡ true → IsKnown s id → IsOperand s bare id (job.Part (part.Term id))
bare_operand s bare id e known = subst (λ b. IsOperand s b id (job.Part (part.Term id))) (sym e) (record { pieces = refl; ready = known; light = omega arith })
