-- What a constraint came to, once its quantity is named.
use Rattle.std.proofs.Common.{◌≡◌, ℕ, ◌+◌, List, [], ◌∷◌, ◌++◌, length, Bool, Option, None, Some, Result, Ok, Err, inl, inr, sym, subst}
use Rattle.std.specs.Prelude.{IfOk, IfSome, MatchOption}
use Rattle.spec_numbers.specs.Rational.{0ℚ}
use Rattle.spec_linear.specs.declared.Relation.TheVariants.{Eq}
use Rattle.spec_linear.specs.Solution.{Constraint}
use Rattle.cq_frac.specs.declared.VarId.{VarId}
use Rattle.cq_dict.specs.declared.table.Role.{Role}
use Rattle.cq_dict.specs.Roles.{Quantities, AreOverColumns, IsEliminated}
use Rattle.cq_dict.specs.Dict.{SameMeaning}
use Rattle.cq_tableau.specs.declared.names.Name.{Name}
use Rattle.cq_tableau.specs.declared.names.Name.TheVariants.{Member}
use Rattle.cq_tableau.specs.Fixing.{AreOpen}
use Rattle.cq_tableau.specs.Looked.{LooksOn, AllStand, IsApart}
use Rattle.cq_tableau.specs.Stored.{IsMemberOf, IsStored, IsBetween, JoinsStored}
use Rattle.cq_tableau.specs.Values.{IsNumber}
use Rattle.cq_tableau.proofs.Looks.{looks_same}
use Rattle.cq_store.specs.declared.entering.Entered.{Entered}
use Rattle.cq_store.specs.declared.entering.Entered.TheVariants.{Joined, Contradiction}
use Rattle.cq_store.specs.declared.store.StoreFault.{StoreFault}
use Rattle.cq_store.specs.Entered.{IfJoined}
use Rattle.cq_store.specs.Equated.{Crosses, IsLevelRow, IsConcluded, IsFound}
use Rattle.cq_tableau.specs.Faced.{AllApart}
use Rattle.cq_store.specs.Fallen.{FallsAt}
use Rattle.cq_store.proofs.Stays.{Covers, covers_all}
use Rattle.cq_store.proofs.Equations.{crossed_stored, joined_behind}
use Rattle.cq_store.proofs.Levels.{crossing_live, level_live, level_feasible, between_numbered, strict_falls, apart_falls, level_stored}

pub joined_by : (r : Result Entered StoreFault) (P Q : List VarId → Type 0) → ((xs : List VarId) → P xs → Q xs) → IfOk r (λ e. IfJoined e P) → IfOk r (λ e. IfJoined e Q)
joined_by (Ok (Joined xs)) P Q f h = f xs.items h
joined_by (Ok (Contradiction cert)) P Q f h = tt
joined_by (Err e) P Q f h = tt

-- ---- by a column that crosses
module _ (told : List Constraint) (names : List Name) (c : Constraint) (roles : List Role) (flags : List Bool) (q column : ℕ) (y : Crosses told names c roles flags q column)
    (i : c.relation ≡ Eq) (new : List Role) (x : IsEliminated roles q column new) (same : SameMeaning roles new) (table : AreOverColumns new) (number : ℕ) (num : number ≡ length told + 1) where
  pub crossing_between : IsBetween (told ++ c ∷ []) (names ++ Member number ∷ []) (record { roles = new; restricted = flags })
  crossing_between =
      between_numbered told names c roles flags q column y.behind i (crossing_live told names c roles flags q column y) new x same table (y.feasible new x same table)
      new (looks_same new flags) number num

  pub crossing_falls : (fallen : Option ℕ) → MatchOption fallen (AllApart told names new) (λ z. IsMemberOf IsApart told names z × IsNumber new z 0ℚ)
      → IfSome fallen (FallsAt told (told ++ c ∷ []) (names ++ Member number ∷ []))
  crossing_falls None h = tt
  crossing_falls (Some z) h =
      apart_falls told names c roles flags q column y.behind i (crossing_live told names c roles flags q column y) new x same table (y.feasible new x same table)
      new (looks_same new flags) z h.0 h.1 number

  pub crossing_joins : (open_ones : List VarId) → Covers names roles new open_ones → (fallen : Option ℕ)
      → MatchOption fallen (AllApart told names new) (λ z. IsMemberOf IsApart told names z × IsNumber new z 0ℚ) → (new_names : List Name) (last : Quantities) (fixed : List VarId)
      → IsConcluded told names (record { roles = new; restricted = flags }) open_ones fallen new_names last fixed → JoinsStored told c fixed new_names last
  crossing_joins open_ones a fallen h new_names last fixed k =
      let apart = subst (λ o. MatchOption o (AllApart told names new) (λ z. IsMemberOf IsApart told names z × IsNumber new z 0ℚ)) k.none h in
      let s = crossed_stored told names c roles flags q column y i new x same table apart (length told + 1) (λ j. length told + 1) new_names k.named in
      joined_behind told names c roles flags q y.behind open_ones (length told + 1) new_names k.named last
      (subst (λ (p : Quantities). Covers names roles p.roles open_ones) (sym k.same) a) fixed k.fixed_now (subst (IsStored (told ++ c ∷ []) new_names) (sym k.same) s)

-- ---- by a column of a row that is zero
module _ (told : List Constraint) (names : List Name) (c : Constraint) (roles : List Role) (flags : List Bool) (q column : ℕ) (y : IsLevelRow told names c roles flags q column)
    (i : c.relation ≡ Eq) (new : List Role) (x : IsEliminated roles q column new) (same : SameMeaning roles new) (table : AreOverColumns new) (last : List Role)
    (s : LooksOn new last flags) (number : ℕ) (num : number ≡ length told + 1) where
  pub level_between : IsBetween (told ++ c ∷ []) (names ++ Member number ∷ []) (record { roles = last; restricted = flags })
  level_between =
      between_numbered told names c roles flags q column y.behind i (level_live told names c roles flags q column y) new x same table
      (level_feasible told names c roles flags q column y new x same table) last s number num

  pub level_falls : (fallen : Option ℕ) → IsFound told names new last flags fallen → IfSome fallen (FallsAt told (told ++ c ∷ []) (names ++ Member number ∷ []))
  level_falls None h = tt
  level_falls (Some z) (inl h) =
      strict_falls told names c roles flags q column y.behind i (level_live told names c roles flags q column y) new x same table
      (level_feasible told names c roles flags q column y new x same table) last s z h number
  level_falls (Some z) (inr h) =
      apart_falls told names c roles flags q column y.behind i (level_live told names c roles flags q column y) new x same table
      (level_feasible told names c roles flags q column y new x same table) last s z h.0 h.1 number

  pub level_joins : (open_ones : List VarId) → AreOpen names roles (length names) open_ones → (fallen : Option ℕ) → IsFound told names new last flags fallen
      → (new_names : List Name) (now : Quantities) (fixed : List VarId) → IsConcluded told names (record { roles = last; restricted = flags }) open_ones fallen new_names now fixed
      → JoinsStored told c fixed new_names now
  level_joins open_ones a fallen h new_names now fixed k =
      let all = subst (IsFound told names new last flags) k.none h in
      let t = level_stored told names c roles flags q column y.behind i (level_live told names c roles flags q column y) new x same table
      (level_feasible told names c roles flags q column y new x same table) last s all.0 all.1 (length told + 1) (λ j. length told + 1) new_names k.named in
      joined_behind told names c roles flags q y.behind open_ones (length told + 1) new_names k.named now (covers_all names roles now.roles open_ones a) fixed k.fixed_now
      (subst (IsStored (told ++ c ∷ []) new_names) (sym k.same) t)

-- ---- what a look found
pub found_of : (told : List Constraint) (names : List Name) (old new : List Role) (flags : List Bool) (found : Option ℕ) → AllStand told names old new flags
    → MatchOption found (AllApart told names new) (λ z. IsMemberOf IsApart told names z × IsNumber new z 0ℚ) → IsFound told names old new flags found
found_of told names old new flags None a h = (a, h)
found_of told names old new flags (Some z) a h = inr h

-- what holds of a value holds still as something weaker
pub weaker : {T E : Type 0} (r : Result T E) (P Q : T → Type 0) → ((x : T) → P x → Q x) → IfOk r P → IfOk r Q
weaker (Ok x) P Q h p = h x p
weaker (Err f) P Q h p = tt
