-- What the words of a line make it.
use Rattle.std.proofs.Common.{◌≡◌, ℕ, List, [], ◌∷◌, Bool, true, cond, None, codes, sym, ap, ◌∙◌}
use Rattle.std.specs.Prelude.{bytes_eq}
use Rattle.spec_numbers.specs.Texts.{Text}
use Rattle.spec_log.specs.Verdicts.{counted_in, pairs_in, run_by, run_in, whole_in}
use Rattle.cq_cert.specs.Pieces.{words_of}
use Rattle.cq_cert.proofs.Fractions.{some_part}

pub counted_more : (word line first rest number more : Text) → words_of line ≡ first ∷ words_of rest → words_of rest ≡ number ∷ words_of more
    → None ≡ counted_in word (words_of line)
counted_more word line first rest number more e f =
    let h = some_part 32 more in
    sym (ap (counted_in word) (e ∙ ap (λ s. first ∷ s) (f ∙ ap (λ s. number ∷ s) h.is)))

pub counted_two : (word line first rest number : Text) (same : Bool) → words_of line ≡ first ∷ words_of rest → words_of rest ≡ number ∷ []
    → same ≡ bytes_eq word first → cond same (whole_in number) None ≡ counted_in word (words_of line)
counted_two word line first rest number same e f is =
    ap (λ x. cond x (whole_in number) None) is ∙ sym (ap (counted_in word) (e ∙ ap (λ s. first ∷ s) f))

pub run_words : (n : ℕ) (line word : Text) (more : List Text) → words_of line ≡ word ∷ more → bytes_eq (codes "run") word ≡ true
    → run_by n (pairs_in more) ≡ run_in n (words_of line)
run_words n line word more e same = sym (ap (run_in n) e ∙ ap (λ x. cond x (run_by n (pairs_in more)) None) same)
