-- Readings in longer texts, and with other operators.
use Rattle.std.proofs.Common.{◌≡◌, ◌⊎◌, ◌∙◌, ℕ, List, [], ◌++◌, refl, sym, ap, subst, inl, inr, append-nil}
use Rattle.spec_syntax.specs.Operators.{Ops}
use Rattle.spec_text.specs.Decided.{Decided}
use Rattle.spec_text.specs.Readings as readings
use Rattle.spec_text.specs.Readings.{Read, Ended, Reads}
use Rattle.spec_text.proofs.ByMachine.{read_once}

pub settled : (ops : Ops) (bytes more : List ℕ) (at : ℕ) (r : Read) → Reads ops bytes at r → (more ≡ []) ⊎ Decided ops bytes at → Reads ops (bytes ++ more) at r
settled ops bytes more at r h (inl none) = subst (λ x. Reads ops x at r) (sym (ap (λ m. bytes ++ m) none ∙ append-nil bytes)) h
settled ops bytes more at r h (inr d) =
    let here : Reads ops bytes at d.0 = subst (λ x. Reads ops x at d.0) (append-nil bytes) (d.1 []) in
    subst (λ q. Reads ops (bytes ++ more) at q) (read_once ops bytes at d.0 r here h) (d.1 more)

ends_so : (ops other : Ops) (text : List ℕ) (at : ℕ) (r : Read) → r ≡ Ended → Reads ops text at r → Reads other text at Ended
ends_so ops other text at r e (readings.ended h k) = readings.ended h k
ends_so ops other text at r e (readings.clause h k) = cc
ends_so ops other text at r e (readings.refused h k l m n) = cc
ends_so ops other text at r e (readings.fault h k l m) = cc
ends_so ops other text at r e (readings.cut h k l m) = cc

pub ended : (ops other : Ops) (text : List ℕ) (at : ℕ) → Reads ops text at Ended → Reads other text at Ended
ended ops other text at h = ends_so ops other text at Ended refl h
