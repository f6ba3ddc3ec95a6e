-- States with new variables, sleepers and landed copies stay sound, and the rows of copies that carry none are none.
use Rattle.std.proofs.Common.{◌≡◌, ◌⊎◌, inl, inr, ℕ, suc, ◌+◌, ◌<◌, List, [], ◌∷◌, ◌++◌, Bool, true, map, length, arith, refl, ap, ◌∙◌}
use Rattle.std.specs.Prelude.{◌==◌, ◌||◌}
use Rattle.std.specs.List.{list_any, AllByRecursion}
use Rattle.spec_linear.specs.Solution.{Constraint}
use Rattle.spec_numbers.proofs.Tests.{nat_eq-same, one_is}
use Rattle.spec_branch.specs.Branch.{State, Copied, Asleep}
use Rattle.spec_search.specs.Replies.{with_new, suspended, all_suspended, place_from, placed_asleep, placed_constraint, state_with, landed}
use Rattle.spec_existence.proofs.Bounds.{total, any_below}
use Rattle.spec_existence.specs.Sound.{IsSoundState, CarriesNoRows}

pub new_sound : (n : ℕ) (st : State) → IsSoundState st → IsSoundState (with_new n st)
new_sound n st h = record { bounded = record { bound = h.bounded.bound; below = h.bounded.below }; forms = h.forms }

pub suspended_sound : (st : State) (a : Asleep) → IsSoundState st → IsSoundState (suspended st a)
suspended_sound st a h = record { bounded = record { bound = h.bounded.bound; below = h.bounded.below }; forms = h.forms }

all_suspended_sound : (st : State) (more : List Asleep) → IsSoundState st → IsSoundState (all_suspended st more)
all_suspended_sound st [] h = h
all_suspended_sound st (a ∷ more) h = all_suspended_sound (suspended st a) more (suspended_sound st a h)

-- the state with a copy's variables
abbrev grown : State → Copied → State
grown st c = record st {
  fresh = st.fresh + length c.variables;
  numeric = λ v. st.numeric v || list_any (λ w. place_from st.fresh c.variables w == v) c.numeric;
}

module _ (st : State) (c : Copied) where
  abbrev lands_at : ℕ → ℕ → Bool
  lands_at w v = place_from st.fresh c.variables w == v

  above_place : (w v : ℕ) → lands_at w v ≡ true → v < suc (place_from st.fresh c.variables w)
  above_place w v e = let d : place_from st.fresh c.variables w ≡ v = nat_eq-same (place_from st.fresh c.variables w) v e in omega (arith, d)

  grown_sound : IsSoundState st → IsSoundState (grown st c)
  grown_sound h = record {
    bounded = record {
      bound = h.bounded.bound + total (λ w. suc (place_from st.fresh c.variables w)) c.numeric;
      below = λ v e. by v (one_is (st.numeric v) (list_any (λ w. lands_at w v) c.numeric) e);
    };
    forms = h.forms;
  }
    where
      by : (v : ℕ) → (st.numeric v ≡ true) ⊎ (list_any (λ w. lands_at w v) c.numeric ≡ true)
          → v < h.bounded.bound + total (λ w. suc (place_from st.fresh c.variables w)) c.numeric
      by v (inl d) = let k : v < h.bounded.bound = h.bounded.below v d in omega (arith, k)
      by v (inr d) =
          let k : v < total (λ w. suc (place_from st.fresh c.variables w)) c.numeric =
          any_below lands_at (λ w. suc (place_from st.fresh c.variables w)) above_place c.numeric v d in
          omega (arith, k)

copy_sound : (st : State) (c : Copied) → IsSoundState st → IsSoundState (state_with st c)
copy_sound st c h = all_suspended_sound (grown st c) (map (placed_asleep st.fresh c.variables) c.asleep) (grown_sound st c h)

pub landed_sound : (st : State) (cs : List Copied) → IsSoundState st → IsSoundState (landed st cs).state
landed_sound st [] h = h
landed_sound st (c ∷ cs) h = landed_sound (state_with st c) cs (copy_sound st c h)

pub landed_rows : (st : State) (cs : List Copied) → AllByRecursion CarriesNoRows cs → (landed st cs).rows ≡ []
landed_rows st [] h = refl
landed_rows st (c ∷ cs) h =
    ap (λ (rs : List Constraint). map (placed_constraint st.fresh c.variables) rs ++ (landed (state_with st c) cs).rows) h.0
    ∙ landed_rows (state_with st c) cs h.1
