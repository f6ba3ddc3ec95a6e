-- Lines that are written in parts.
use Rattle.std.proofs.Common.{◌∙◌, ℕ, List, ◌++◌, Option, Some, None, sym, ap, append_assoc}
use Rattle.std.proofs.lemmas.Option.{none-some, same_Some}
use Rattle.cq_outside.specs.Bytes.{Adds, Appends, Begins}
use Rattle.spec_numbers.specs.Texts.{Text}

-- the beginning of a text is one of a longer text
pub longer : (held now : Option (List ℕ)) (a b : Text) → Adds held now (λ part. Begins part a) → Adds held now (λ part. Begins part (a ++ b))
longer (Some h) (Some n) a b (part, same, (more, e)) = (part, same, (more ++ b, ap (λ l. l ++ b) e ∙ append_assoc part more b))
longer (Some h) None a b added = tt
longer None (Some n) a b added = absurd added
longer None None a b added = tt

-- behind a whole text the beginning of another is the beginning of both
pub behind : (held mid now : Option (List ℕ)) (a b : Text) → Appends held mid a → Adds mid now (λ part. Begins part b) → Adds held now (λ part. Begins part (a ++ b))
behind (Some h) (Some m) (Some n) a b first (part, same, (more, e)) =
    (a ++ part, same ∙ ap (λ l. l ++ part) (same_Some m (h ++ a) first) ∙ append_assoc h a part, (more, ap (λ l. a ++ l) e ∙ sym (append_assoc a part more)))
behind (Some h) (Some m) None a b first second = tt
behind (Some h) None now a b first second = absurd (none-some (h ++ a) first)
behind None (Some m) now a b first second = absurd (none-some m (sym first))
behind None None (Some n) a b first second = absurd second
behind None None None a b first second = tt
