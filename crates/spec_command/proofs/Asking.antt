-- Once its constraints are told, the query asks for the greatest lower bound of its last variable: there is one, the least value.
use Rattle.std.proofs.Common.{◌≡◌, ◌∙◌, ◌<◌, ◌↔◌, ℕ, suc, [], ◌∷◌, false, Option, Some, None, pos, inl, inr, refl, sym, ap, ap₂, subst}
use Rattle.std.specs.List.{AllByRecursion}
use Rattle.spec_numbers.specs.Texts.{Text}
use Rattle.spec_numbers.specs.Rational.{ℚ, int_ℚ}
use Rattle.spec_linear.specs.Form.{Linear}
use Rattle.spec_linear.specs.Solution.{Point, number, Solves}
use Rattle.spec_terms.specs.Term.{Var, Number, Name, Compound, apply}
use Rattle.spec_syntax.specs.Trees.{Tree, binary}
use Rattle.std.specs.Prelude.{codes, if◌then◌else◌}
use Rattle.spec_builtins.specs.Alternatives.{◌≐◌}
use Rattle.spec_branch.specs.Checks.{expression_error}
use Rattle.spec_branch.specs.Expressions.{has_zero_divisor}
use Rattle.spec_branch.specs.Relations.{Is, Waits, False, form_or_waits, lin_expression}
use Rattle.spec_branch.specs.Values.{IsMetAt, IsTrueAt, value_of}
use Rattle.spec_branch.specs.Branch.{State, Branch, Copied, Pending, read}
use Rattle.spec_branch.specs.Meaning.{SolvesState}
use Rattle.spec_search.specs.Builtins.{Least, Greatest}
use Rattle.spec_search.specs.Replies.{Place, Made, Reply, WithExtent, child, made, unless_error, with_equations}
use Rattle.spec_search.specs.Rows.{reply_of}
use Rattle.spec_search.specs.Steps.{Steps, Stepped, Ball, Children, raises, throws, copies, makes, calls, not_linear, entailed, not_entailed, expression_waits, expression_false, extent, no_extent}
use Rattle.spec_search.specs.Search.{Search, Selecting, look_at, look_at_branch}
use Rattle.spec_search.specs.Turns.{place_of, after_step}
use Rattle.spec_search.proofs.AskedValues.{least_bounds, least_none}
use Rattle.spec_command.specs.Outcome.{GenFrom, gen_budgets}
use Rattle.spec_command.specs.Query.{asked, constraints, least}
use Rattle.spec_command.proofs.Bound.{bound_is_least, is_bounded}
use Rattle.spec_command.proofs.Courses.{selects}
use Rattle.spec_command.proofs.Knowing.{IsImage, IsPlainTerm, Knows, plain_form, plain_image}

-- ---- variables and numbers as expressions

no_error : (t : Tree) → IsPlainTerm t → expression_error t ≡ None
no_error (Var v) h = refl
no_error (Number q) h = refl
no_error (Name n) h = absurd h
no_error (Compound f ts) h = absurd h

no_divisor : (fixed : ℕ → Option ℚ) (t : Tree) → IsPlainTerm t → has_zero_divisor fixed t ≡ false
no_divisor fixed (Var v) h = refl
no_divisor fixed (Number q) h = refl
no_divisor fixed (Name n) h = absurd h
no_divisor fixed (Compound f ts) h = absurd h

linear : (fixed : ℕ → Option ℚ) (t : Tree) → IsPlainTerm t → (f : Linear) × (lin_expression fixed t ≡ Is f)
linear fixed t h =
    let f = plain_form fixed t h in
    (f.0, ap₂ (λ b o. if b then False else form_or_waits o) (no_divisor fixed t h) f.1)

module _ (k : ℕ) (small : k < 200) (line : Text) (b : Branch) (known : Knows k line b)
    (met : (p : Point) → SolvesState b.state p ↔ IsMetAt (number p) (constraints (suc k))) where
  abbrev st : State
  st = b.state

  abbrev e : Tree
  e = st.bindings k

  abbrev pub goal_there : Tree
  goal_there = asked (suc k)

  plain : IsPlainTerm e
  plain = plain_image known.fixed k e (known.image k)

  -- ---- solutions and values

  solutions : (p : Point) → Solves p st.linear ↔ IsMetAt (number p) (constraints (suc k))
  solutions p = (
    λ s. (met p).0 (record { solves = s; true_there = subst (λ ts. AllByRecursion (λ t. IsTrueAt (number p) (apply st.bindings t)) ts) (sym known.delayed) tt }),
    λ m. ((met p).1 m).solves,
  )

  valued : (p : Point) → Solves p st.linear → value_of (number p) e ≡ Some (number p k)
  valued p s = go e (known.image k)
    where
      go : (t : Tree) → IsImage known.fixed k t → value_of (number p) t ≡ Some (number p k)
      go t (inl is) = ap (value_of (number p)) is
      go t (inr h) = ap (value_of (number p)) h.1 ∙ ap Some (sym ((known.fixes.sound k h.0 h.2).always p s))

  -- ---- the goal

  abbrev asking : ℚ → Pending
  asking q = with_equations ((Var (suc k) ≐ Number q) ∷ [])

  module _ (s : Search) where
    abbrev p : Place
    p = place_of s st [] 0 []

    abbrev goal : Tree
    goal = read st goal_there

    abbrev answers : ℚ → Branch
    answers q = child [] st (asking q)

    abbrev pub answering : Made
    answering = made p (answers (int_ℚ (pos (least k))) ∷ [])

    reply : reply_of p goal ≡ WithExtent Least e answers
    reply =
        ap (λ t. reply_of p (binary (codes "inf") e t)) known.unbound
        ∙ ap (λ o. unless_error o (WithExtent Least e answers)) (no_error e plain)

    other : (r : Reply) → reply_of p goal ≡ r → WithExtent Least e answers ≡ r
    other r h = sym reply ∙ h

    one_child : (o : Stepped) → Steps p goal o → o ≡ Children answering
    one_child o (raises k) = let c = other _ k in cc
    one_child o (throws k _) = let c = other _ k in cc
    one_child o (copies k _) = let c = other _ k in cc
    one_child o (makes k) = let c = other _ k in cc
    one_child o (calls k _) = let c = other _ k in cc
    one_child o (not_linear f k _ _) = let c = other _ k in cc
    one_child o (entailed f k _ _ _) = let c = other _ k in cc
    one_child o (not_entailed x f k _ _ _ _) = let c = other _ k in cc
    one_child o (expression_waits {side = side} {e = t} {f = g} fixed h fixes w) =
        let c : WithExtent Least e answers ≡ WithExtent side t g = other _ h in
        let same : e ≡ t = cc in
        let d = (linear fixed e plain).1 in
        let wrong : lin_expression fixed e ≡ Waits = ap (lin_expression fixed) same ∙ w in
        cc
    one_child o (expression_false {side = side} {e = t} {f = g} fixed h fixes w) =
        let c : WithExtent Least e answers ≡ WithExtent side t g = other _ h in
        let same : e ≡ t = cc in
        let d = (linear fixed e plain).1 in
        let wrong : lin_expression fixed e ≡ False = ap (lin_expression fixed) same ∙ w in
        cc
    one_child o (extent {side = Greatest} {e = t} {f = g} fixed h fixes w x) = let c = other _ h in cc
    one_child o (extent {side = Least} {e = t} {f = g} {form = form} {q = q} fixed h fixes w x) =
        let c : WithExtent Least e answers ≡ WithExtent Least t g = other _ h in
        let same : t ≡ e = cc in
        let children : g ≡ answers = cc in
        let is : q ≡ int_ℚ (pos (least k)) =
        bound_is_least k small st.linear e solutions valued q (least_bounds st.linear fixed fixes e form (ap (lin_expression fixed) (sym same) ∙ w) q x) in
        ap₂ (λ (f : ℚ → Branch) (v : ℚ). Children (made p (f v ∷ []))) children is
    one_child o (no_extent {side = Greatest} {e = t} {f = g} fixed h fixes w x) = let c = other _ h in cc
    one_child o (no_extent {side = Least} {e = t} {f = g} {form = form} fixed h fixes w x) =
        let c : WithExtent Least e answers ≡ WithExtent Least t g = other _ h in
        let same : t ≡ e = cc in
        absurd (is_bounded k small st.linear e solutions valued (least_none st.linear fixed fixes e form (ap (lin_expression fixed) (sym same) ∙ w) x))

    no_ball : (ball : Copied) → Steps p goal (Ball ball) → ⊥
    no_ball ball steps = let c = one_child (Ball ball) steps in cc

    pub asks : s.branches ≡ b ∷ [] → GenFrom gen_budgets (suc k) line false 0 [] s → GenFrom gen_budgets (suc k) line false 0 [] (after_step s answering [])
    asks is from =
        let look : look_at s.branches ≡ Selecting goal_there 0 [] st [] = ap look_at is ∙ ap₂ (λ ph items. look_at_branch ph items st []) known.phase known.items in
        let (m, steps, more) = selects gen_budgets (suc k) line 0 [] s goal_there 0 [] st [] look no_ball from in
        let c : Children m ≡ Children answering = one_child (Children m) steps in
        let same : m ≡ answering = cc in
        subst (λ x. GenFrom gen_budgets (suc k) line false 0 [] (after_step s x [])) same more
