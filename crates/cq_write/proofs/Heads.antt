-- Terms by their heads and arguments.
use Rattle.std.proofs.Common.{◌≡◌, ℕ, zero, suc, slice_get, Some, ap, sym, subst, arith}
use Rattle.spec_terms.specs.Term.{Terms, Var, Number, Name, Compound, one, more, count, list_of}
use Rattle.cq_term.specs.Meaning.{HeapTerm}
use Rattle.cq_term.specs.Names.{HasNamesBelow, HaveNamesBelow}
use Rattle.cq_term.specs.Shown.{view_of, arguments}
use Rattle.cq_term.specs.declared.view.View.TheVariants as view

pub names_in : (n : ℕ) (ts : Terms ℕ) (i : ℕ) (a : HeapTerm) → HaveNamesBelow n ts → slice_get (list_of ts) i ≡ Some a → HasNamesBelow n a
names_in n (one t) zero a h e = (let d : t ≡ a = cc in subst (HasNamesBelow n) d h)
names_in n (one t) (suc i) a h e = cc
names_in n (more t ts) zero a h e = (let d : t ≡ a = cc in subst (HasNamesBelow n) d h.0)
names_in n (more t ts) (suc i) a h e = names_in n ts i a h.1 e

pub names_of_argument : (n : ℕ) (t : HeapTerm) (i : ℕ) (a : HeapTerm) → HasNamesBelow n t → slice_get (arguments t) i ≡ Some a → HasNamesBelow n a
names_of_argument n (Var v) i a h e = cc
names_of_argument n (Number q) i a h e = cc
names_of_argument n (Name b) i a h e = cc
names_of_argument n (Compound f ts) i a h e = names_in n ts i a h.1 e

pub one_argument : (t a : HeapTerm) (f n : ℕ) → view_of t ≡ view.Compound f n → n ≡ 1 → slice_get (arguments t) 0 ≡ Some a → t ≡ Compound f (one a)
one_argument (Var v) a f n e m h = cc
one_argument (Number q) a f n e m h = cc
one_argument (Name b) a f n e m h = cc
one_argument (Compound g (one t)) a f n e m h = cc
one_argument (Compound g (more t (one u))) a f n e m h = (let k : 2 ≡ n = cc in absurd (omega arith))
one_argument (Compound g (more t (more u us))) a f n e m h = (let k : suc (suc (count us)) ≡ n = cc in absurd (omega arith))

pub two_arguments : (t a b : HeapTerm) (f n : ℕ) → view_of t ≡ view.Compound f n → n ≡ 2 → slice_get (arguments t) 0 ≡ Some a → slice_get (arguments t) 1 ≡ Some b → t ≡ Compound f (more a (one b))
two_arguments (Var v) a b f n e m h k = cc
two_arguments (Number q) a b f n e m h k = cc
two_arguments (Name c) a b f n e m h k = cc
two_arguments (Compound g (one t)) a b f n e m h k = cc
two_arguments (Compound g (more t (one u))) a b f n e m h k = cc
two_arguments (Compound g (more t (more u (one v)))) a b f n e m h k = (let j : 3 ≡ n = cc in absurd (omega arith))
two_arguments (Compound g (more t (more u (more v vs)))) a b f n e m h k = (let j : suc (suc (suc (count vs))) ≡ n = cc in absurd (omega arith))

pub many_arguments : (t : HeapTerm) (f n : ℕ) → view_of t ≡ view.Compound f n → (n ≡ 1 → ⊥) → (n ≡ 2 → ⊥) → (a : HeapTerm) × (b : HeapTerm) × (cs : Terms ℕ) × (t ≡ Compound f (more a (more b cs)))
many_arguments (Var v) f n e m k = cc
many_arguments (Number q) f n e m k = cc
many_arguments (Name c) f n e m k = cc
many_arguments (Compound g (one t)) f n e m k = (let j : 1 ≡ n = cc in absurd (m (sym j)))
many_arguments (Compound g (more t (one u))) f n e m k = (let j : 2 ≡ n = cc in absurd (k (sym j)))
many_arguments (Compound g (more t (more u us))) f n e m k = (let j : g ≡ f = cc in (t, u, us, ap (λ x. Compound x (more t (more u us))) j))
