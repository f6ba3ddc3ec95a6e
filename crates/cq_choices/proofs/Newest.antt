-- The newest choice, among the open ones.
use Rattle.std.proofs.Common.{◌≡◌, ℕ, zero, suc, List, [], ◌∷◌, ◌++◌, length, take, reverse, Some, refl, sym, ap, ◌∙◌, arith, length-append}
use Rattle.std.specs.Prelude.{slice_get}
use Rattle.std.specs.List.{zip}
use Rattle.cq_control.specs.Open.{AreMarked, last, open_choices}
use Rattle.cq_control.proofs.Opened.{open-top, open-push, length-open}
use Rattle.cq_settle.specs.Contents.{Contents}
use Rattle.spec_engine.specs.Cells.{Value}
use Rattle.spec_engine.proofs.Kept.{length-last, last-older, last-all}
use Rattle.cq_branch.specs.declared.alternatives.Alternatives.{Alternatives}
use Rattle.cq_choices.specs.Newest.{Replaces, Renews}

get_there : (saved : List (Value Contents)) (n : ℕ) → length saved ≡ suc n → (x : Value Contents) × (slice_get saved n ≡ Some x)
get_there [] n e = absurd (omega (arith, e))
get_there (x ∷ []) zero e = (x, refl)
get_there (x ∷ y ∷ xs) zero e = absurd (omega (arith, e))
get_there (x ∷ xs) (suc n) e = get_there xs n (omega (arith, e))

-- another mark, at another value
pub renews : (saved more : List (Value Contents)) (choices after : List Alternatives) (n : ℕ) (now : Value Contents) (content : Alternatives) → AreMarked saved choices
    → length choices ≡ suc n → more ≡ take n saved ++ now ∷ [] → Replaces choices content after → Renews saved choices now content more after
renews saved more choices after n now content marked long e r =
    let many : length saved ≡ suc n = omega (arith, marked, long) in
    let g = get_there saved n many in (
      (g.0, r.0),
      open_choices (take n saved) r.1,
      ap (open_choices saved) r.2 ∙ open-top saved r.1 n g.0 r.0 many g.1,
      ap (λ s. open_choices s after) e ∙ ap (open_choices (take n saved ++ now ∷ [])) r.3 ∙ open-push (take n saved) r.1 now content,
    )

-- other alternatives at the same mark
zip_newest : (xs : List (Value Contents)) (b c : Alternatives) (cs : List Alternatives) (x : Value Contents × Alternatives) (older : List (Value Contents × Alternatives))
    → zip xs (b ∷ cs) ≡ x ∷ older → zip xs (c ∷ cs) ≡ (x.0, c) ∷ older
zip_newest [] b c cs x older e = cc
zip_newest (y ∷ xs) b c cs x older e =
    let first : (y, b) ≡ x = cc in
    let rest : zip xs cs ≡ older = cc in
    λ i. ((first i).0, c) ∷ rest i

pub other_newest : (saved : List (Value Contents)) (choices after : List Alternatives) (content : Alternatives) (x : Value Contents × Alternatives)
    (older : List (Value Contents × Alternatives)) → Replaces choices content after → open_choices saved choices ≡ x ∷ older
    → open_choices saved after ≡ (x.0, content) ∷ older
other_newest saved choices after content x older r e =
    ap (open_choices saved) r.3 ∙ zip_newest (reverse saved) r.0 content r.1 x older (sym (ap (open_choices saved) r.2) ∙ e)

-- without the newest
pub older_ones : (saved : List (Value Contents)) (choices : List Alternatives) (n : ℕ) (x : Value Contents × Alternatives) (older : List (Value Contents × Alternatives))
    → AreMarked saved choices → length choices ≡ suc n → open_choices saved choices ≡ x ∷ older → last n (open_choices saved choices) ≡ older
older_ones saved choices n x older marked long e =
    let few : length older ≡ n = omega (arith, ap length e, length-open saved choices marked, long) in
    ap (last n) e ∙ last-older x older n (omega (arith, few)) ∙ last-all older n (omega (arith, few))

-- ---- of a value and alternatives in front of others

pub same_front : {X : Type 0} (x y : X) (xs ys : List X) → x ∷ xs ≡ y ∷ ys → x ≡ y
same_front x y xs ys e = cc

pub same_behind : {X : Type 0} (x y : X) (xs ys : List X) → x ∷ xs ≡ y ∷ ys → xs ≡ ys
same_behind x y xs ys e = cc

pub same_length : (choices after : List Alternatives) (content : Alternatives) → Replaces choices content after → length after ≡ length choices
same_length choices after content r = omega (arith, ap length r.2, ap length r.3)
