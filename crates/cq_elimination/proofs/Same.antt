-- Entries, and forms by their constants and entries, that are the same.
use Rattle.std.proofs.Common.{◌≡◌, ℕ, List, [], ◌∷◌, Bool, true, false, refl, ap, ap₂, sym, ◌∙◌}
use Rattle.std.specs.Prelude.{MatchBool}
use Rattle.spec_numbers.specs.Rational.{ℚ}
use Rattle.spec_linear.specs.Form.{Linear}
use Rattle.spec_linear.proofs.Ordered.{form_same}
use Rattle.cq_frac.specs.declared.row.Entry.{Entry}
use Rattle.cq_form.specs.Entries.{product_of, products_of}

entry_same : (m n : Entry) → m.quantity ≡ n.quantity → m.factor ≡ n.factor → m ≡ n
entry_same m n e f = ap₂ (λ (x : ℕ) (q : ℚ). let p : Entry = record { quantity = x; factor = q } in p) e f

entries_same : (s t : List Entry) → products_of s ≡ products_of t → s ≡ t
entries_same [] [] e = refl
entries_same [] (n ∷ t) e = absurd (cc)
entries_same (m ∷ s) [] e = absurd (cc)
entries_same (m ∷ s) (n ∷ t) e =
    let first : product_of m ≡ product_of n = cc in
    let rest : products_of s ≡ products_of t = cc in
    ap₂ (λ (k : Entry) l. k ∷ l) (entry_same m n (ap (λ p. p.variable) first) (ap (λ p. p.factor) first)) (entries_same s t rest)

-- of forms with one constant
pub forms_one : (f g : Linear) (s t : List Entry) (r : Bool) → products_of s ≡ f.products → products_of t ≡ g.products → f.constant ≡ g.constant
    → MatchBool r (s ≡ t) (s ≡ t → ⊥) → MatchBool r (f ≡ g) (f ≡ g → ⊥)
forms_one f g s t true es et c h = form_same f g (sym es ∙ ap products_of h ∙ et) c
forms_one f g s t false es et c h = λ e. h (entries_same s t (es ∙ ap (λ (k : Linear). k.products) e ∙ sym et))
