-- Terms that are taken apart and built again: lists of elements, arguments by their place, names with new variables.
use Rattle.std.proofs.Common.{◌≡◌, ℕ, zero, suc, ◌<◌, ◌≤◌, pos, arith, List, [], ◌∷◌, ◌++◌, map, length, Bool, true, false, not, ◌&&◌, nat_lt, slice_get, Some, refl, sym, subst, ap, ap₂, ◌∙◌}
use Rattle.std.proofs.lemmas.Bool.Decides.{nat_tests}
use Rattle.std.proofs.lemmas.Option.{slice_get_past}
use Rattle.spec_numbers.specs.Rational.{ℚ}
use Rattle.spec_terms.proofs.Rounded.{int_ℚ-is, whole_number}
use Rattle.spec_numbers.specs.Texts.{Text}
use Rattle.spec_terms.specs.Term.{Terms, Var, Number, Name, Compound, one, more, count, list_of, terms_of, with_arguments}
use Rattle.spec_terms.specs.Variables.{counted_from}
use Rattle.spec_syntax.specs.Trees.{Tree, nil, list_tree}
use Rattle.spec_builtins.specs.Built.{is_atom, natural}
use Rattle.spec_builtins.specs.Kinds.{is_variable, parts, Parts}
use Rattle.spec_builtins.specs.Errors.{instantiation, type_error, representation_error}
use Rattle.spec_builtins.specs.Alternatives.{Offers, ◌≐◌, one_way, faults_if}
use Rattle.spec_builtins.specs.Terms.{functor_row, functor_built, arg_row, is_argument, univ_row, univ_built}

-- a fact of whole numbers as they are kept
pub by_whole : (P : Tree → Type 0) (n : ℕ) → P (Number (whole_number (pos n))) → P (natural n)
by_whole P n h = subst (λ (q : ℚ). P (Number q)) (sym (int_ℚ-is (pos n))) h

-- ---- lists

-- a list's elements are those that it was made of
pub parts-list_tree : (ts : List Tree) → parts (list_tree ts) ≡ record { elements = ts; tail = nil }
parts-list_tree [] = refl
parts-list_tree (t ∷ ts) = ap (λ (p : Parts). record p { elements = t ∷ p.elements }) (parts-list_tree ts)

terms_again : (t : Tree) (ts : Terms Text) → terms_of t (list_of ts) ≡ more t ts
terms_again t (one u) = refl
terms_again t (more u us) = ap (λ (vs : Terms Text). more t vs) (terms_again u us)

compound_again : (f : Text) (ts : Terms Text) → with_arguments f (list_of ts) ≡ Compound f ts
compound_again f (one t) = refl
compound_again f (more t ts) = ap (λ (us : Terms Text). Compound f us) (terms_again t ts)

built_from : (v : ℕ) (ts : List Tree) → univ_row (Var v) (list_tree ts) ≡ univ_built (Var v) ts
built_from v ts =
    ap (λ (p : Parts). faults_if (is_variable p.tail) instantiation (faults_if (not (is_atom "[]" p.tail)) (type_error "list" (list_tree ts)) (univ_built (Var v) p.elements))) (parts-list_tree ts)

pub list_back : (t : Tree) → is_variable t ≡ false → (ts : List Tree)
    × ((l : Tree) → univ_row t l ≡ one_way ((l ≐ list_tree ts) ∷ []))
    × ((v : ℕ) → univ_row (Var v) (list_tree ts) ≡ one_way ((Var v ≐ t) ∷ []))
list_back (Var x) e = cc
list_back (Number q) e = (Number q ∷ [], λ l. refl, λ v. built_from v (Number q ∷ []))
list_back (Name a) e = (Name a ∷ [], λ l. refl, λ v. built_from v (Name a ∷ []))
list_back (Compound f ts) e = (
  Name f ∷ list_of ts,
  λ l. refl,
  λ v. built_from v (Name f ∷ list_of ts) ∙ ap (λ (u : Tree). one_way ((Var v ≐ u) ∷ [])) (compound_again f ts),
)

-- ---- arguments by their place

count-list_of : (ts : Terms Text) → length (list_of ts) ≡ count ts
count-list_of (one t) = refl
count-list_of (more t ts) = ap suc (count-list_of ts)

at_front : (front : List Tree) (t : Tree) (rest : List Tree) → slice_get (front ++ t ∷ rest) (length front) ≡ Some t
at_front [] t rest = refl
at_front (u ∷ us) t rest = at_front us t rest

pub argument_found : (f : Text) (ts : Terms Text) (front : List Tree) (t : Tree) (rest : List Tree) (a : Tree)
    → list_of ts ≡ front ++ t ∷ rest → arg_row (natural (suc (length front))) (Compound f ts) a ≡ one_way ((a ≐ t) ∷ [])
argument_found f ts front t rest a e =
    by_whole (λ (n : Tree). arg_row n (Compound f ts) a ≡ one_way ((a ≐ t) ∷ [])) (suc (length front)) (
    ap (λ (us : List Tree). is_argument (slice_get us (length front)) a) e ∙ ap (λ o. is_argument o a) (at_front front t rest))

pub argument_absent : (f : Text) (ts : Terms Text) (n : ℕ) (a : Tree) → count ts < n
    → arg_row (natural n) (Compound f ts) a ≡ Offers []
argument_absent f ts zero a l = absurd (omega arith)
argument_absent f ts (suc n) a l =
    let c = count-list_of ts in
    by_whole (λ (m : Tree). arg_row m (Compound f ts) a ≡ Offers []) (suc n) (ap (λ o. is_argument o a) (slice_get_past (list_of ts) n (omega arith)))

pub argument_zero : (f : Text) (ts : Terms Text) (a : Tree) → arg_row (natural 0) (Compound f ts) a ≡ Offers []
argument_zero f ts a = by_whole (λ (m : Tree). arg_row m (Compound f ts) a ≡ Offers []) 0 refl

-- ---- functor

within : (n : ℕ) → n ≤ 1000000 → nat_lt 1000000 n ≡ false
within n h = grind (arith, nat_tests)

and_false : (b : Bool) → (b && false) ≡ false
and_false true = refl
and_false false = refl

pub functor_builds : (fresh v n : ℕ) (f : Text) → n ≤ 1000000 → functor_row fresh (Var v) (Name f) (natural n)
    ≡ Offers (record { new = n; equations = (Var v ≐ with_arguments f (map Var (counted_from fresh n))) ∷ [] } ∷ [])
functor_builds fresh v n f h =
    by_whole (λ (m : Tree). functor_row fresh (Var v) (Name f) m ≡ functor_built fresh (Var v) (Name f) n) n (
    ap₂ (λ (x y : Bool). faults_if x (representation_error "max_arity") (faults_if y (type_error "atom" (Name f)) (functor_built fresh (Var v) (Name f) n))) (within n h) (and_false (nat_lt 0 n)))

count_map : (t : Tree) (ts : List Tree) → count (terms_of t ts) ≡ suc (length ts)
count_map t [] = refl
count_map t (u ∷ us) = ap suc (count_map u us)

length_counted : (m k : ℕ) → length {A = Tree} (map Var (counted_from m k)) ≡ k
length_counted m zero = refl
length_counted m (suc k) = ap suc (length_counted (suc m) k)

pub functor_back : (fresh later n : ℕ) (f : Text) (k a : Tree)
    → functor_row later (with_arguments f (map Var (counted_from fresh n))) k a ≡ one_way ((k ≐ Name f) ∷ (a ≐ natural n) ∷ [])
functor_back fresh later zero f k a = refl
functor_back fresh later (suc n) f k a =
    ap (λ (m : ℕ). one_way ((k ≐ Name f) ∷ (a ≐ natural m) ∷ [])) (count_map (Var fresh) (map Var (counted_from (suc fresh) n)) ∙ ap suc (length_counted (suc fresh) n))
