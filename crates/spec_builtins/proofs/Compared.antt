-- Comparisons of terms hold as the standard order says.
use Rattle.std.proofs.Common.{◌≡◌, ◌≢◌, ◌↔◌, ◌⊎◌, List, [], ◌∷◌, Bool, true, false, ◌||◌, ◌&&◌, refl, subst, ap, ◌∙◌, inl, inr}
use Rattle.std.specs.declared.cmp.Ordering.{Ordering}
use Rattle.std.specs.declared.cmp.Ordering.TheVariants.{Less, Equal, Greater}
use Rattle.std.specs.Ordering.{ordering_reverse}
use Rattle.std.specs.List.{list_all, AllByRecursion}
use Rattle.spec_numbers.specs.Texts.{Text}
use Rattle.spec_terms.specs.Term.{Subst, Var, Number, Name, Compound, apply}
use Rattle.spec_terms.specs.Unifier.{Equation, HasNoUnifier}
use Rattle.spec_terms.specs.Order.{compare_terms}
use Rattle.spec_terms.proofs.Orders.{compare_terms-equal, compare_terms-turned, compare_terms-total, compare_terms-itself}
use Rattle.spec_syntax.specs.Trees.{Tree}
use Rattle.spec_builtins.specs.Kinds.{is_variable, is_compound}
use Rattle.spec_builtins.specs.Alternatives.{Solutions, Offers, one_way, holds_if, Comparison, Same, NotSame, Before, BeforeOrSame, After, AfterOrSame, allows, same_term}
use Rattle.spec_builtins.specs.Terms.{order_row}
use Rattle.spec_builtins.specs.Texts.{may_match}
use Rattle.spec_builtins.specs.Splits.{IsPlain}

-- ---- holding

holds : (b : Bool) → holds_if b ≡ one_way [] → b ≡ true
holds true e = refl
holds false e = cc

fails : (b : Bool) → holds_if b ≡ Offers [] → b ≡ false
fails true e = cc
fails false e = refl

abbrev Row : Comparison → Ordering → Solutions
Row c o = holds_if (allows c o)

-- ---- the same

pub same_terms : (t u : Tree) → order_row Same t u ≡ one_way [] ↔ (t ≡ u)
same_terms t u = (λ e. compare_terms-equal t u (tied (compare_terms t u) e), λ e. ap (Row Same) (compare_terms-itself t u e))
  where
    tied : (o : Ordering) → Row Same o ≡ one_way [] → o ≡ Equal
    tied Less e = cc
    tied Equal e = refl
    tied Greater e = cc

pub other_terms : (t u : Tree) → order_row NotSame t u ≡ one_way [] ↔ (t ≢ u)
other_terms t u = (
  λ e k. apart (compare_terms t u) e (compare_terms-itself t u k),
  λ n. told (compare_terms t u) (λ e. n (compare_terms-equal t u e)),
)
  where
    apart : (o : Ordering) → Row NotSame o ≡ one_way [] → o ≡ Equal → ⊥
    apart Less e k = cc
    apart Equal e k = cc
    apart Greater e k = cc

    told : (o : Ordering) → (o ≡ Equal → ⊥) → Row NotSame o ≡ one_way []
    told Less n = refl
    told Equal n = absurd (n refl)
    told Greater n = refl

-- ---- before

is_less : (o : Ordering) → Row Before o ≡ one_way [] → o ≡ Less
is_less Less e = refl
is_less Equal e = cc
is_less Greater e = cc

pub not_before_itself : (t : Tree) → order_row Before t t ≡ Offers []
not_before_itself t = ap (Row Before) (compare_terms-itself t t refl)

pub before_all_later : (t u w : Tree) → order_row Before t u ≡ one_way [] → order_row Before u w ≡ one_way []
    → order_row Before t w ≡ one_way []
before_all_later t u w h k = ap (Row Before) (compare_terms-total.trans t u w (is_less (compare_terms t u) h) (is_less (compare_terms u w) k))

pub one_before : (t u : Tree)
    → (order_row Before t u ≡ one_way []) ⊎ ((t ≡ u) ⊎ (order_row Before u t ≡ one_way []))
one_before t u = go (compare_terms t u) refl
  where
    go : (o : Ordering) → compare_terms t u ≡ o
        → (order_row Before t u ≡ one_way []) ⊎ ((t ≡ u) ⊎ (order_row Before u t ≡ one_way []))
    go Less e = inl (ap (Row Before) e)
    go Equal e = inr (inl (compare_terms-equal t u e))
    go Greater e = inr (inr (ap (Row Before) (compare_terms-turned u t ∙ ap ordering_reverse e)))

-- ---- the others

pub after_is : (t u : Tree) → order_row After t u ≡ order_row Before u t
after_is t u = ap (Row After) (compare_terms-turned t u) ∙ turned (compare_terms u t)
  where
    turned : (o : Ordering) → Row After (ordering_reverse o) ≡ Row Before o
    turned Less = refl
    turned Equal = refl
    turned Greater = refl

pub after_or_same_is : (t u : Tree) → order_row AfterOrSame t u ≡ order_row BeforeOrSame u t
after_or_same_is t u = ap (Row AfterOrSame) (compare_terms-turned t u) ∙ turned (compare_terms u t)
  where
    turned : (o : Ordering) → Row AfterOrSame (ordering_reverse o) ≡ Row BeforeOrSame o
    turned Less = refl
    turned Equal = refl
    turned Greater = refl

pub before_or_same_is : (t u : Tree) → order_row BeforeOrSame t u ≡ one_way [] ↔ (order_row Before u t ≡ Offers [])
before_or_same_is t u =
    subst (λ (r : Solutions). order_row BeforeOrSame t u ≡ one_way [] ↔ (r ≡ Offers [])) (after_is t u) (go (compare_terms t u))
  where
    go : (o : Ordering) → Row BeforeOrSame o ≡ one_way [] ↔ (Row After o ≡ Offers [])
    go Less = (λ e. refl, λ e. refl)
    go Equal = (λ e. refl, λ e. refl)
    go Greater = (λ e. cc, λ e. cc)

-- ---- what a bound argument excludes

differ : (t u : Tree) → same_term t u ≡ false → t ≡ u → ⊥
differ t u n e =
    let k : same_term t u ≡ true = ap (allows Same) (compare_terms-itself t u e) in
    cc

-- a bound argument and what it is to be
unequal : (e : Equation Text) → IsPlain e → may_match e ≡ false → (s : Subst Text) → apply s e.left ≡ apply s e.right → ⊥
unequal e h n s d = go e.left e.right h.left h.right h.bound n d
  where
    go : (t u : Tree) → is_compound t ≡ false → is_compound u ≡ false → is_variable u ≡ false
        → (is_variable t || same_term t u) ≡ false → apply s t ≡ apply s u → ⊥
    go (Var x) u a b c n d = cc
    go (Compound f ts) u a b c n d = cc
    go t (Var x) a b c n d = cc
    go t (Compound f ts) a b c n d = cc
    go (Number p) (Number q) a b c n d = differ (Number p) (Number q) n d
    go (Number p) (Name q) a b c n d = cc
    go (Name p) (Number q) a b c n d = cc
    go (Name p) (Name q) a b c n d = differ (Name p) (Name q) n d

pub left_out : (es : List (Equation Text)) → AllByRecursion IsPlain es → list_all may_match es ≡ false → HasNoUnifier es
left_out [] h e s u = cc
left_out (e ∷ es) h n s u = go (may_match e) refl n (λ m. left_out es h.1 m s u.1)
  where
    go : (b : Bool) → may_match e ≡ b → (b && list_all may_match es) ≡ false → (list_all may_match es ≡ false → ⊥) → ⊥
    go false k m next = unequal e h.0 k s u.0
    go true k m next = next m
