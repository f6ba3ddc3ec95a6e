-- Copies that are put into a state.
use Rattle.std.proofs.Common.{◌≡◌, ◌+◌, ℕ, zero, suc, List, [], ◌∷◌, ◌++◌, length, map, Bool, true, false, ◌||◌, refl, sym, ap, ap₂, ◌∙◌, zero-add, arith}
use Rattle.std.specs.List.{AllZip}
use Rattle.spec_terms.specs.Term.{Var, apply}
use Rattle.spec_terms.specs.Variables.{variables, numbered_from, renamed_from, counted_from}
use Rattle.spec_terms.proofs.Listed.{variables-renamed_from}
use Rattle.spec_terms.proofs.Substitution.{apply-followed_by, apply_agree}
use Rattle.spec_syntax.specs.Trees.{Tree}
use Rattle.spec_branch.specs.Branch.{State, Copied, plain_copy}
use Rattle.spec_search.specs.Replies.{landed, landed_term, placed_constraint, state_with, with_new}
use Rattle.spec_engine.specs.Standing.{IsStoredAs}
use Rattle.spec_engine.specs.Trying.{moved_on, placed, variables_of, IsLanded}

counted_length : (n count : ℕ) → length (counted_from n count) ≡ count
counted_length n zero = refl
counted_length n (suc count) = ap suc (counted_length (suc n) count)

-- numbered from n on, as the numbers from 0 on are moved
term_moved : (n : ℕ) (t : Tree) → renamed_from n t ≡ apply (moved_on n) (renamed_from 0 t)
term_moved n t =
    sym (apply_agree _ (numbered_from n (variables t)) t (λ v o. ap (λ (k : ℕ). Var (n + k)) (zero-add _)))
    ∙ apply-followed_by (numbered_from 0 (variables t)) (moved_on n) t

count_same : (t : Tree) → length (variables (renamed_from 0 t)) ≡ length (variables t)
count_same t = ap length (variables-renamed_from 0 t) ∙ counted_length 0 (length (variables t))

or_false : (b : Bool) → (b || false) ≡ b
or_false true = refl
or_false false = refl

-- a state with a copy's variables
state_same : (st : State) (t : Tree) → state_with st (plain_copy t) ≡ with_new (length (variables t)) st
state_same st t = λ i. record st { fresh = st.fresh + length (variables t); numeric = λ v. or_false (st.numeric v) i }

more_new : (m n : ℕ) (st : State) → with_new n (with_new m st) ≡ with_new (m + n) st
more_new m n st = let e : st.fresh + m + n ≡ st.fresh + (m + n) = omega arith in λ i. record st { fresh = e i }

pub copies_landed : (st : State) (copies : List Copied) (stored : List Tree) → AllZip IsStoredAs copies stored → IsLanded st stored (landed st copies)
copies_landed st [] [] z = record { state = (let e : st.fresh ≡ st.fresh + 0 = omega arith in λ i. record st { fresh = e i }); terms = refl; rows = refl; told = refl }
copies_landed st [] (u ∷ stored) z = absurd z
copies_landed st (c ∷ copies) [] z = absurd z
copies_landed st (c ∷ copies) (u ∷ stored) z =
    let plain : Copied = plain_copy c.term in
    let later : State = state_with st c in
    let m : ℕ = length (variables u) in
    let same : later ≡ with_new m st =
    ap (state_with st) z.0.plain ∙ state_same st c.term ∙ ap (λ (k : ℕ). with_new k st) (sym (count_same c.term) ∙ ap (λ (t : Tree). length (variables t)) (sym z.0.renamed)) in
    let rest = copies_landed later copies stored z.1 in
    record {
      state = rest.state ∙ ap (with_new (variables_of stored)) same ∙ more_new m (variables_of stored) st;
      terms = ap₂ (λ (t : Tree) (ts : List Tree). t ∷ ts)
          (ap (landed_term st) z.0.plain ∙ term_moved st.fresh c.term ∙ ap (apply (moved_on st.fresh)) (sym z.0.renamed))
          (rest.terms ∙ ap (λ (x : State). placed x.fresh stored) same);
      rows = ap₂ (λ xs ys. xs ++ ys) (ap (λ (d : Copied). map (placed_constraint st.fresh d.variables) d.rows) z.0.plain) rest.rows;
      told = ap₂ (λ xs ys. xs ++ ys) (ap (λ (d : Copied). map (apply (numbered_from st.fresh d.variables)) d.told) z.0.plain) rest.told;
    }
