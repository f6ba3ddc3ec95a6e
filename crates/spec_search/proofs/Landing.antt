-- Copies land in states that are the same but for their linear constraints, and these stay as they are.
use Rattle.std.proofs.Common.{◌≡◌, List, [], ◌∷◌, map, refl, sym, ap, subst, ◌∙◌}
use Rattle.std.specs.Prelude.{◌+◌, ◌||◌, ◌==◌, length}
use Rattle.std.specs.List.{list_any}
use Rattle.spec_linear.specs.Solution.{Constraint, Equivalent}
use Rattle.spec_branch.specs.Branch.{State, Copied, Asleep}
use Rattle.spec_branch.specs.Alike.{with_linear}
use Rattle.spec_search.specs.Replies.{Landed, suspended, all_suspended, place_from, placed_asleep, state_with, landed_onto, landed}
use Rattle.spec_search.specs.Runs.{SameState}

-- the state with a copy's variables
abbrev grown : State → Copied → State
grown st c = record st {
  fresh = st.fresh + length c.variables;
  numeric = λ v. st.numeric v || list_any (λ w. place_from st.fresh c.variables w == v) c.numeric;
}

module _ (l : List Constraint) where
  with_suspended : (st : State) (more : List Asleep) → all_suspended (with_linear l st) more ≡ with_linear l (all_suspended st more)
  with_suspended st [] = refl
  with_suspended st (a ∷ more) = with_suspended (suspended st a) more

  with_copy : (st : State) (c : Copied) → state_with (with_linear l st) c ≡ with_linear l (state_with st c)
  with_copy st c = with_suspended (grown st c) (map (placed_asleep st.fresh c.variables) c.asleep)

  -- what lands, in the state with the other list
  abbrev pub moved : Landed → Landed
  moved x = record x { state = with_linear l x.state }

  pub landed_moved : (st : State) (cs : List Copied) → landed (with_linear l st) cs ≡ moved (landed st cs)
  landed_moved st [] = refl
  landed_moved st (c ∷ cs) =
      ap (λ (x : State). landed_onto st c (landed x cs)) (with_copy st c) ∙ ap (λ (x : Landed). landed_onto st c x) (landed_moved (state_with st c) cs)

suspended_linear : (st : State) (more : List Asleep) → (all_suspended st more).linear ≡ st.linear
suspended_linear st [] = refl
suspended_linear st (a ∷ more) = suspended_linear (suspended st a) more

copy_linear : (st : State) (c : Copied) → (state_with st c).linear ≡ st.linear
copy_linear st c = suspended_linear (grown st c) (map (placed_asleep st.fresh c.variables) c.asleep)

pub landed_linear : (st : State) (cs : List Copied) → (landed st cs).state.linear ≡ st.linear
landed_linear st [] = refl
landed_linear st (c ∷ cs) = landed_linear (state_with st c) cs ∙ copy_linear st c

-- ---- the same landed copies

-- landed copies in states that are the same but for their linear constraints
pub record SameLanded (x y : Landed) : Type 0 where
  pub state : SameState x.state y.state
  pub terms : x.terms ≡ y.terms
  pub rows : x.rows ≡ y.rows
  pub told : x.told ≡ y.told

pub same_landed : (st su : State) → SameState st su → (cs : List Copied) → SameLanded (landed st cs) (landed su cs)
same_landed st su h cs =
    subst (λ (x : State). SameLanded (landed st cs) (landed x cs)) (sym h.state)
    (subst (λ (y : Landed). SameLanded (landed st cs) y) (sym (landed_moved su.linear st cs))
    (record {
      state = record {
        state = refl;
        linear = subst (λ (k : List Constraint). Equivalent k su.linear) (sym (landed_linear st cs)) h.linear;
      };
      terms = refl;
      rows = refl;
      told = refl;
    }))
