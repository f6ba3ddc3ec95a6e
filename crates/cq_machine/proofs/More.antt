-- A term that is called with further arguments.
use Rattle.std.proofs.Common.{◌≡◌, ℕ, List, [], ◌∷◌, ◌++◌, drop, map, refl, sym, ap, ap₂, ◌∙◌}
use Rattle.std.specs.List.{AllByRecursion}
use Rattle.std.proofs.lemmas.List.{append-nil, map-append, drop-map}
use Rattle.spec_numbers.specs.Texts.{Text}
use Rattle.spec_terms.specs.Term.{Terms, Var, Number, Name, Compound, one, more, list_of, terms_of, with_arguments, Subst, apply, apply_all, named}
use Rattle.spec_syntax.specs.Trees.{Tree}
use Rattle.spec_builtins.specs.Terms as builtins
use Rattle.spec_search.specs.Control.{with_more, call_row, called}
use Rattle.spec_search.specs.Replies.{Place}
use Rattle.cq_term.specs.Meaning.{HeapTerm}
use Rattle.cq_term.specs.Shown.{arguments}
use Rattle.cq_builtin.proofs.Shown.{arguments-named}
use Rattle.cq_branch.proofs.Arguments.{front, behind, inside}
use Rattle.cq_machine.specs.Calls.{HasName, HasNoName}

-- ---- a term with more arguments

more_is : (g : ℕ → Text) (h : HeapTerm) (a : ℕ) (ts : List Tree) → HasName h a → with_more (named g h) ts ≡ with_arguments (g a) (map (named g) (arguments h) ++ ts)
more_is g (Var v) a ts n = absurd n
more_is g (Number q) a ts n = absurd n
more_is g (Name b) a ts n = ap (λ (x : ℕ). with_arguments (g x) ts) (sym n)
more_is g (Compound b hs) a ts n = ap₂ (λ (x : ℕ) (l : List Tree). with_arguments (g x) (l ++ ts)) (sym n) (arguments-named g (Compound b hs))

-- the trees of its arguments and of others make it
pub more_built : (g : ℕ → Text) (h other : HeapTerm) (a : ℕ) (hs : List HeapTerm) → HasName h a → hs ≡ arguments h ++ drop 1 (arguments other)
    → with_arguments (g a) (map (named g) hs) ≡ with_more (named g h) (drop 1 (builtins.arguments (named g other)))
more_built g h other a hs n e =
    ap (with_arguments (g a))
    (ap (map (named g)) e ∙ map-append (named g) (arguments h) (drop 1 (arguments other))
    ∙ ap (λ (l : List Tree). map (named g) (arguments h) ++ l) (sym (drop-map (named g) 1 (arguments other)) ∙ ap (drop 1) (sym (arguments-named g other))))
    ∙ sym (more_is g h a (drop 1 (builtins.arguments (named g other))) n)

pub nameless : (g : ℕ → Text) (h : HeapTerm) (ts : List Tree) → HasNoName h → named g h ≡ with_more (named g h) ts
nameless g (Var v) ts n = refl
nameless g (Number q) ts n = refl
nameless g (Name a) ts n = absurd n
nameless g (Compound a us) ts n = absurd n

-- ---- its call

listed : (t : Tree) (ts : List Tree) → list_of (terms_of t ts) ≡ t ∷ ts
listed t [] = refl
listed t (u ∷ us) = ap (λ (l : List Tree). t ∷ l) (listed u us)

whole : (p : Place) (f : Text) (t : Tree) (ts : List Tree) → call_row p (with_arguments f (t ∷ ts)) [] ≡ called p (with_arguments f (t ∷ ts))
whole p f t ts = ap (λ (l : List Tree). called p (with_arguments f l)) (append-nil (list_of (terms_of t ts)) ∙ listed t ts)

pub call_again : (p : Place) (t : Tree) (ts : List Tree) → call_row p (with_more t ts) [] ≡ call_row p t ts
call_again p (Var v) ts = refl
call_again p (Number q) ts = refl
call_again p (Name f) [] = refl
call_again p (Name f) (u ∷ us) = whole p f u us
call_again p (Compound f (one u)) ts = whole p f u ts
call_again p (Compound f (more u us)) ts = whole p f u (list_of us ++ ts)

-- ---- how it reads

abbrev AllRead : Subst Text → List Tree → Type 0
AllRead s ts = AllByRecursion (λ (u : Tree). apply s u ≡ u) ts

terms_read : (s : Subst Text) (t : Tree) (ts : List Tree) → apply s t ≡ t → AllRead s ts → apply_all s (terms_of t ts) ≡ terms_of t ts
terms_read s t [] e all = ap one e
terms_read s t (u ∷ us) e all = ap₂ more e (terms_read s u us all.0 all.1)

arguments_read : (s : Subst Text) (f : Text) (ts : List Tree) → AllRead s ts → apply s (with_arguments f ts) ≡ with_arguments f ts
arguments_read s f [] all = refl
arguments_read s f (t ∷ ts) all = ap (Compound f) (terms_read s t ts all.0 all.1)

all_append : (s : Subst Text) (ts us : List Tree) → AllRead s ts → AllRead s us
    → AllRead s (ts ++ us)
all_append s [] us a b = b
all_append s (t ∷ ts) us a b = (a.0, all_append s ts us a.1 b)

each_reads : (s : Subst Text) (ts : Terms Text) → apply_all s ts ≡ ts → AllRead s (list_of ts)
each_reads s (one t) e = (ap front e, tt)
each_reads s (more t ts) e = (ap front e, each_reads s ts (ap behind e))

arguments_each : (s : Subst Text) (t : Tree) → apply s t ≡ t → AllRead s (builtins.arguments t)
arguments_each s (Var v) e = tt
arguments_each s (Number q) e = tt
arguments_each s (Name a) e = tt
arguments_each s (Compound f ts) e = each_reads s ts (ap inside e)

more_reads : (s : Subst Text) (t : Tree) (ts : List Tree) → apply s t ≡ t → AllRead s ts → apply s (with_more t ts) ≡ with_more t ts
more_reads s (Var v) ts e all = e
more_reads s (Number q) ts e all = refl
more_reads s (Name f) ts e all = arguments_read s f ts all
more_reads s (Compound f us) ts e all = arguments_read s f (list_of us ++ ts) (all_append s (list_of us) ts (each_reads s us (ap inside e)) all)

all_behind : (s : Subst Text) (ts : List Tree) → AllRead s ts → AllRead s (drop 1 ts)
all_behind s [] all = tt
all_behind s (t ∷ ts) all = all.1

-- a called term with the further arguments of its goal, where the goal reads as itself
pub whole_reads : (s : Subst Text) (goal t : Tree) → apply s goal ≡ goal → apply s t ≡ t
    → apply s (with_more t (drop 1 (builtins.arguments goal))) ≡ with_more t (drop 1 (builtins.arguments goal))
whole_reads s goal t e f = more_reads s t (drop 1 (builtins.arguments goal)) f (all_behind s (builtins.arguments goal) (arguments_each s goal e))
