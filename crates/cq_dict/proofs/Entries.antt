-- Entries up to a place, whose columns' lists have a row.
use Rattle.std.proofs.Common.{◌≡◌, ℕ, zero, suc, ◌+◌, ◌<◌, List, [], ◌∷◌, ◌++◌, length, take, get_or, arith, sym, subst, ◌⊎◌, inl, inr}
use Rattle.spec_numbers.proofs.Places.{take-next}
use Rattle.cq_trail.specs.StackValue.{StackValue}
use Rattle.cq_trail.specs.TrailValue.{TrailValue}
use Rattle.cq_frac.specs.declared.row.Entry.{Entry}
use Rattle.cq_frac.specs.Row.{Row}
use Rattle.cq_frac.specs.Rows.{Has}
use Rattle.cq_dict.specs.declared.holders.Cell.{Cell}
use Rattle.cq_dict.specs.declared.table.Change.{Change}
use Rattle.cq_dict.specs.Changes.{Changes}
use Rattle.cq_dict.specs.declared.table.Role.TheVariants.{Basic}
use Rattle.cq_dict.specs.Holders.{Holds, IsListed, Grows}
use Rattle.cq_dict.proofs.Lists.{grows_same, grows_on}
use Rattle.cq_dict.proofs.Written.{changes_end}

pub has_here : (xs : List Entry) (i : ℕ) (x : Entry) → i < length xs → x ≡ get_or xs i x → Has x xs
has_here [] i x l e = absurd (omega arith)
has_here (y ∷ xs) zero x l e = inl e
has_here (y ∷ xs) (suc i) x l e = inr (has_here xs i x (omega arith) e)

has_end : (m x : Entry) (xs : List Entry) → Has m (xs ++ x ∷ []) → Has m xs ⊎ (m ≡ x)
has_end m x [] (inl e) = inr e
has_end m x [] (inr h) = absurd h
has_end m x (y ∷ xs) (inl e) = inl (inl e)
has_end m x (y ∷ xs) (inr h) = elim (has_end m x xs h) [ inl k ↦ inl (inr k) | inr e ↦ inr e ]

has_next : (xs : List Entry) (i : ℕ) (x m : Entry) → i < length xs → x ≡ get_or xs i x → Has m (take (i + 1) xs) → Has m (take i xs) ⊎ (m ≡ x)
has_next xs i x m l e h = has_end m x (take i xs) (subst (Has m) (take-next xs i x l e) h)

pub changes_here : (xs : List Change) (i : ℕ) (x : Change) → i < length xs → x ≡ get_or xs i x → Changes x xs
changes_here [] i x l e = absurd (omega arith)
changes_here (y ∷ xs) zero x l e = inl e
changes_here (y ∷ xs) (suc i) x l e = inr (changes_here xs i x (omega arith) e)

changes_next : (xs : List Change) (i : ℕ) (x d : Change) → i < length xs → x ≡ get_or xs i x → Changes d (take (i + 1) xs) → Changes d (take i xs) ⊎ (d ≡ x)
changes_next xs i x d l e h = changes_end d x (take i xs) (subst (Changes d) (take-next xs i x l e) h)

-- the lists have grown, and those of the entries' columns have the row
pub record Holding (h : TrailValue ℕ) (x : StackValue Cell) (number : ℕ) (entries : List Entry) (h' : TrailValue ℕ) (x' : StackValue Cell) : Type 0 where
  pub grows : Grows h x h' x'
  pub listed : (m : Entry) → Has m entries → IsListed h'.now x'.now m.quantity number

pub holding_start : (h : TrailValue ℕ) (x : StackValue Cell) (number : ℕ) → Holding h x number [] h x
holding_start h x number = record { grows = grows_same h x; listed = λ m k. absurd k }

pub holding_more : (h h' h'' : TrailValue ℕ) (x x' x'' : StackValue Cell) (number : ℕ) (entries : List Entry) (i : ℕ) (m : Entry) → i < length entries → m ≡ get_or entries i m →
    Holding h x number (take i entries) h' x' → Grows h' x' h'' x'' → IsListed h''.now x''.now m.quantity number → Holding h x number (take (i + 1) entries) h'' x''
holding_more h h' h'' x x' x'' number entries i m l e a g own = record {
  grows = grows_on h h' h'' x x' x'' a.grows g;
  listed = λ n k. elim (has_next entries i m n l e k) [
    | inl b ↦ g.still n.quantity number (a.listed n b)
    | inr f ↦ subst (λ (z : Entry). IsListed h''.now x''.now z.quantity number) (sym f) own
  ];
}

-- the lists have grown, and each row among the changes is on those of its columns
pub record HoldingChanges (h : TrailValue ℕ) (x : StackValue Cell) (changes : List Change) (h' : TrailValue ℕ) (x' : StackValue Cell) : Type 0 where
  pub grows : Grows h x h' x'
  pub listed : (d : Change) (own : Row) (c : ℕ) → Changes d changes → d.role ≡ Basic own → Holds own c → IsListed h'.now x'.now c d.at

pub changes_start : (h : TrailValue ℕ) (x : StackValue Cell) → HoldingChanges h x [] h x
changes_start h x = record { grows = grows_same h x; listed = λ d own c k e m. absurd k }

pub changes_more : (h h' h'' : TrailValue ℕ) (x x' x'' : StackValue Cell) (changes : List Change) (i : ℕ) (d : Change) → i < length changes → d ≡ get_or changes i d →
    HoldingChanges h x (take i changes) h' x' → Grows h' x' h'' x'' → ((own : Row) (c : ℕ) → d.role ≡ Basic own → Holds own c → IsListed h''.now x''.now c d.at) → HoldingChanges h x (take (i + 1) changes) h'' x''
changes_more h h' h'' x x' x'' changes i d l e a g own = record {
  grows = grows_on h h' h'' x x' x'' a.grows g;
  listed = λ b r c k f m. elim (changes_next changes i d b l e k) [
    | inl n ↦ g.still c b.at (a.listed b r c n f m)
    | inr n ↦ subst (λ (z : Change). IsListed h''.now x''.now c z.at) (sym n) (own r c (subst (λ (z : Change). z.role ≡ Basic r) n f) m)
  ];
}
