-- The lists at the marks, after each change.
use Rattle.std.proofs.Common.{◌≡◌, ℕ, ◌<◌, List, [], ◌∷◌, ◌++◌, length, Some, refl, sym, ap, ◌∙◌, subst, inl, inr, get_or, set, take, drop, arith, length-append, length-set, length-take, map}
use Rattle.std.specs.Prelude.{slice_get, All, Bool, IsTrue, ℤ}
use Rattle.std.specs.List.{take-map}
use Rattle.std.proofs.lemmas.List.{get_or_append_left, get_or-take, take-append-le, take-take, take_all, drop_all, get_or_push, map-append, drop-map, set-set, set-get_or}
use Rattle.std.proofs.lemmas.Option.{slice_get_within, none-some}
use Rattle.spec_numbers.specs.Rational.{ℚ, int_ℚ, 0ℚ}
use Rattle.spec_terms.specs.Term.{Var, Number, Name, Occurs, with_arguments}
use Rattle.cq_trail.specs.Log.{restore}
use Rattle.cq_trail.proofs.Restore.{Within, length-restore, restore-append_right, restore-take-restore}
use Rattle.cq_term.specs.Built.{Built}
use Rattle.cq_term.specs.Built as built
use Rattle.cq_term.specs.Meaning.{HeapTerm, at, raw_cell}
use Rattle.cq_term.specs.Rep.{Fits, AllBelow}
use Rattle.cq_term.specs.Layout.{Contents, with_var, with_bound, IsWhole, IsMarked, IsWithin, IsEarlier, contents_at, terms_at, terms_of, homes, bindings, note_of, restored, forgotten, open_cell, open_note, AreNoted, AreLearnt, read, all_built, meant, IsKept, IsClosed, Leads}
use Rattle.cq_term.specs.Ground.{IsGround}
use Rattle.cq_term.specs.declared.lists.Cell.{Cell}
use Rattle.cq_term.specs.declared.heap.Place.{Place}
use Rattle.cq_term.specs.declared.lists.Cell.TheVariants as cell
use Rattle.cq_term.proofs.Meanings.{length-meanings}
use Rattle.cq_term.proofs.Arguments.{absent_with_arguments}
use Rattle.cq_term.proofs.Kept.{all_to_below}
use Rattle.cq_term.proofs.Cells.{Longer, longer_same, longer_wide, longer_args, read_new, first_new, read_long, with_cell, with_binding, whole_cell, meant_cell, images_more, whole_var, whole_bound, whole_binding, own_cell, whole_new}
use Rattle.cq_term.proofs.Learnt.{blank_cell, forgotten_var, learnt_drop, learnt_within, length-forgotten, open_forgotten, opens_same}
use Rattle.cq_term.proofs.Notes.{notes, notes_same, noted_same, noted_within, noted_drop, unbind_last}
use Rattle.spec_numbers.proofs.Places.{get_push, get_take, get_kept, map_same}

pub same_contents : {x y : Contents} → x.cells ≡ y.cells → x.wide ≡ y.wide → x.args ≡ y.args → x.vars ≡ y.vars → x.order ≡ y.order → x.learnt ≡ y.learnt → x ≡ y
same_contents a b c d e f = λ i. record { cells = a i; wide = b i; args = c i; vars = d i; order = e i; learnt = f i }

-- a change after which each mark has what it had
pub record Keeps (x y : Contents) : Type 0 where
  pub lengths : (p : Place) → IsWithin p x → IsWithin p y
  pub parts : (p : Place) → IsWithin p x → contents_at y p ≡ contents_at x p

pub marked_keeps : {x y : Contents} {marks : List Place} → IsMarked x marks → IsWhole y → Keeps x y → IsMarked y marks
marked_keeps is whole keeps = record {
  now = whole;
  within = λ k p q. keeps.lengths p (is.within k p q);
  before = λ k p q. subst IsWhole (sym (keeps.parts p (is.within k p q))) (is.before k p q);
  sorted = is.sorted;
}

pub saved_keeps : {x y : Contents} {marks : List Place} → IsMarked x marks → Keeps x y → map (terms_at y) marks ≡ map (terms_at x) marks
saved_keeps {x = x} {y = y} {marks = marks} is keeps = map_same (terms_at y) (terms_at x) marks (λ k p q. ap terms_of (keeps.parts p (is.within k p q)))

module _ (x : Contents) (whole : IsWhole x) where
  rest_noted : (n : ℕ) → AreNoted x.cells (length x.vars) (drop n x.order)
  rest_noted n = noted_drop x.cells (length x.vars) n x.order whole.noted

  -- what stands for the variables at a mark, where a cell is made
  vars_kept : (c : Cell) (p : Place) → take p.vars (restored (x.cells ++ c ∷ []) (drop p.order x.order) x.vars) ≡ take p.vars (restored x.cells (drop p.order x.order) x.vars)
  vars_kept c p = ap (λ (ns : List (ℕ × ℕ)). take p.vars (restore ns x.vars))
      (notes_same x.cells (x.cells ++ c ∷ []) (length x.vars) (drop p.order x.order) (rest_noted p.order) (λ i v h. get_kept x.cells (c ∷ []) i (cell.Var v) h))

  -- and where a variable is made
  vars_cut : (id : ℕ) (p : Place) → IsWithin p x → take p.vars (restored x.cells (drop p.order x.order) (x.vars ++ id ∷ [])) ≡ take p.vars (restored x.cells (drop p.order x.order) x.vars)
  vars_cut id p w =
      ap (take p.vars) (restore-append_right (notes x.cells (drop p.order x.order)) x.vars (id ∷ []) (noted_within x.cells (length x.vars) (drop p.order x.order) (rest_noted p.order)))
      ∙ take-append-le p.vars (restored x.cells (drop p.order x.order) x.vars) (id ∷ []) (omega (arith, w.vars, length-restore (notes x.cells (drop p.order x.order)) x.vars))

  -- and the cells at a mark
  cells_cut : (c : Cell) (p : Place) → IsWithin p x → take p.cells (forgotten (x.cells ++ c ∷ []) (drop p.learnt x.learnt)) ≡ take p.cells (forgotten x.cells (drop p.learnt x.learnt))
  cells_cut c p w =
      let rest = learnt_drop (length x.cells) p.learnt x.learnt whole.learnt in
      ap (λ (ns : List (ℕ × Cell)). take p.cells (restore ns (x.cells ++ c ∷ [])))
      (opens_same x.cells (x.cells ++ c ∷ []) (drop p.learnt x.learnt) (λ k i e. ap open_cell (get_or_append_left x.cells (c ∷ []) blank_cell i (rest k i e))))
      ∙ ap (take p.cells) (restore-append_right (map (open_note x.cells) (drop p.learnt x.learnt)) x.cells (c ∷ []) (learnt_within x.cells (length x.cells) (drop p.learnt x.learnt) rest))
      ∙ take-append-le p.cells (forgotten x.cells (drop p.learnt x.learnt)) (c ∷ []) (omega (arith, w.cells, length-forgotten x.cells (drop p.learnt x.learnt)))

  pub keeps_cell : (wide : List ℚ) (args : List ℕ) → Longer x wide args → (c : Cell) → Keeps x (with_cell x wide args c)
  keeps_cell wide args longer c = record {
    lengths = λ p w. record {
      cells = omega (arith, w.cells, length-append x.cells (c ∷ []));
      wide = omega (arith, w.wide, longer.wides);
      args = omega (arith, w.args, longer.arguments);
      vars = w.vars;
      order = w.order;
      learnt = w.learnt;
    };
    parts = λ p w. same_contents
        (cells_cut c p w)
        (longer.cut_wide p.wide w.wide)
        (longer.cut_args p.args w.args)
        (vars_kept c p)
        refl refl;
  }

  pub keeps_bound : (id : ℕ) → Keeps x (with_bound id x)
  keeps_bound id = record {
    lengths = λ p w. record { cells = w.cells; wide = w.wide; args = w.args; vars = omega (arith, w.vars, length-append x.vars (id ∷ [])); order = w.order; learnt = w.learnt };
    parts = λ p w. same_contents refl refl refl (vars_cut id p w) refl refl;
  }

  pub keeps_var : Keeps x (with_var x)
  keeps_var = record {
    lengths = λ p w. record {
      cells = omega (arith, w.cells, length-append x.cells (cell.Var (length x.vars) ∷ []));
      wide = w.wide;
      args = w.args;
      vars = omega (arith, w.vars, length-append x.vars (length x.cells ∷ []));
      order = w.order;
      learnt = w.learnt;
    };
    parts = λ p w. same_contents
        (cells_cut (cell.Var (length x.vars)) p w)
        refl refl
        (ap (λ (ns : List (ℕ × ℕ)). take p.vars (restore ns (x.vars ++ length x.cells ∷ [])))
        (notes_same x.cells (x.cells ++ cell.Var (length x.vars) ∷ []) (length x.vars) (drop p.order x.order) (rest_noted p.order) (λ i v h. get_kept x.cells (cell.Var (length x.vars) ∷ []) i (cell.Var v) h))
        ∙ vars_cut (length x.cells) p w)
        refl refl;
  }

  pub keeps_binding : (v t : ℕ) → slice_get x.cells (get_or x.vars v 0) ≡ Some (cell.Var v) → Keeps x (with_binding x v t)
  keeps_binding v t own = record {
    lengths = λ p w. record {
      cells = w.cells;
      wide = w.wide;
      args = w.args;
      vars = rw length-set w.vars;
      order = omega (arith, w.order, length-append x.order (get_or x.vars v 0 ∷ []));
      learnt = w.learnt;
    };
    parts = λ p w. same_contents refl refl refl
        (ap (take p.vars) (
        unbind_last x.cells x.order (get_or x.vars v 0) v p.order (set x.vars v t) own w.order
        ∙ ap (restored x.cells (drop p.order x.order)) (set-set x.vars v t (get_or x.vars v 0) ∙ set-get_or x.vars v 0)))
        (take-append-le p.order x.order (get_or x.vars v 0 ∷ []) w.order)
        refl;
  }

-- the lengths now
pub record Measures (p : Place) (x : Contents) : Type 0 where
  pub cells : p.cells ≡ length x.cells
  pub wide : p.wide ≡ length x.wide
  pub args : p.args ≡ length x.args
  pub vars : p.vars ≡ length x.vars
  pub order : p.order ≡ length x.order
  pub learnt : p.learnt ≡ length x.learnt

module _ (x : Contents) (marks : List Place) (is : IsMarked x marks) where
  module _ (p : Place) (m : Measures p x) where
    pub contents_now : contents_at x p ≡ x
    contents_now = same_contents
        (ap (λ (l : List ℕ). take p.cells (forgotten x.cells l)) (drop_all p.learnt x.learnt (omega (arith, m.learnt))) ∙ take_all p.cells x.cells (omega (arith, m.cells)))
        (take_all p.wide x.wide (omega (arith, m.wide)))
        (take_all p.args x.args (omega (arith, m.args)))
        (ap (λ (l : List ℕ). take p.vars (restored x.cells l x.vars)) (drop_all p.order x.order (omega (arith, m.order))) ∙ take_all p.vars x.vars (omega (arith, m.vars)))
        (take_all p.order x.order (omega (arith, m.order)))
        (take_all p.learnt x.learnt (omega (arith, m.learnt)))

    within_now : IsWithin p x
    within_now = record { cells = omega (arith, m.cells); wide = omega (arith, m.wide); args = omega (arith, m.args); vars = omega (arith, m.vars); order = omega (arith, m.order); learnt = omega (arith, m.learnt) }

    earlier_now : (q : Place) → IsWithin q x → IsEarlier q p
    earlier_now q w = record { cells = omega (arith, m.cells, w.cells); wide = omega (arith, m.wide, w.wide); args = omega (arith, m.args, w.args); vars = omega (arith, m.vars, w.vars); order = omega (arith, m.order, w.order); learnt = omega (arith, m.learnt, w.learnt) }

    pub marked_more : IsMarked x (marks ++ p ∷ [])
    marked_more = record {
      now = is.now;
      within = λ k q h. elim (get_push marks p k q h) [ inl g ↦ is.within k q g | inr g ↦ subst (λ (y : Place). IsWithin y x) g.1 within_now ];
      before = λ k q h. elim (get_push marks p k q h) [
        | inl g ↦ is.before k q g
        | inr g ↦ subst (λ (y : Place). IsWhole (contents_at x y)) g.1 (subst IsWhole (sym contents_now) is.now)
      ];
      sorted = λ j k q r h i le. elim (get_push marks p k r i) [
        | inl g ↦ elim (get_push marks p j q h) [
          | inl f ↦ is.sorted j k q r f g le
          | inr f ↦ absurd (omega (arith, f.0, slice_get_within marks k r g))
        ]
        | inr g ↦ subst (IsEarlier q) g.1 (elim (get_push marks p j q h) [
          | inl f ↦ earlier_now q (is.within j q f)
          | inr f ↦ subst (λ (y : Place). IsEarlier y p) f.1 (earlier_now p within_now)
        ])
      ];
    }

    pub saved_more : map (terms_at x) (marks ++ p ∷ []) ≡ map (terms_at x) marks ++ terms_of x ∷ []
    saved_more = map-append (terms_at x) marks (p ∷ []) ∙ ap (λ (y : Contents). map (terms_at x) marks ++ terms_of y ∷ []) contents_now

  pub marked_take : (n : ℕ) → IsMarked x (take n marks)
  marked_take n = record {
    now = is.now;
    within = λ k p q. is.within k p (get_take n k marks p q).0;
    before = λ k p q. is.before k p (get_take n k marks p q).0;
    sorted = λ j k p q h i le. is.sorted j k p q (get_take n j marks p h).0 (get_take n k marks q i).0 le;
  }

  module _ (n : ℕ) (p : Place) (here : slice_get marks n ≡ Some p) where
    at_p : IsWithin p x
    at_p = is.within n p here

    -- what is noted at the mark, by its cells then and now
    learnt_now : AreLearnt (length x.cells) (drop p.learnt x.learnt)
    learnt_now = learnt_drop (length x.cells) p.learnt x.learnt is.now.learnt

    learnt_then : AreLearnt p.cells (take p.learnt x.learnt)
    learnt_then k i e = omega (arith, (is.before n p here).learnt k i e, length-take p.cells (forgotten x.cells (drop p.learnt x.learnt)))

    noted_then : AreNoted (take p.cells (forgotten x.cells (drop p.learnt x.learnt))) p.vars (take p.order x.order)
    noted_then k i e = (let s = (is.before n p here).noted k i e in (s.0, s.1, omega (arith, s.2, length-take p.vars (restored x.cells (drop p.order x.order) x.vars))))

    cells_then : (i v : ℕ) → slice_get (take p.cells (forgotten x.cells (drop p.learnt x.learnt))) i ≡ Some (cell.Var v) → slice_get x.cells i ≡ Some (cell.Var v)
    cells_then i v h = forgotten_var x.cells (drop p.learnt x.learnt) learnt_now i v (get_take p.cells i (forgotten x.cells (drop p.learnt x.learnt)) (cell.Var v) h).0

    opens_then : (is : List ℕ) → AreLearnt p.cells is → map (open_note (take p.cells (forgotten x.cells (drop p.learnt x.learnt)))) is ≡ map (open_note x.cells) is
    opens_then is are = opens_same x.cells (take p.cells (forgotten x.cells (drop p.learnt x.learnt))) is
        (λ k i e. ap open_cell (get_or-take p.cells (forgotten x.cells (drop p.learnt x.learnt)) i blank_cell (are k i e)) ∙ open_forgotten x.cells (drop p.learnt x.learnt) learnt_now i)

    cut_there : Within p.vars (take p.order (notes x.cells x.order))
    cut_there = subst (Within p.vars) (sym (take-map (note_of x.cells) p.order x.order))
        (noted_within x.cells p.vars (take p.order x.order) (noted_same (take p.cells (forgotten x.cells (drop p.learnt x.learnt))) x.cells p.vars p.vars (take p.order x.order) noted_then cells_then (λ v lt. lt)))

    -- an earlier mark has in the lists at this one what it has now
    earlier_same : (q : Place) → IsEarlier q p → contents_at (contents_at x p) q ≡ contents_at x q
    earlier_same q e = same_contents
        (ap (take q.cells) (
        ap (λ (l : List (ℕ × Cell)). restore l (take p.cells (forgotten x.cells (drop p.learnt x.learnt))))
        (opens_then (drop q.learnt (take p.learnt x.learnt)) (learnt_drop p.cells q.learnt (take p.learnt x.learnt) learnt_then)
        ∙ sym (drop-map (open_note x.cells) q.learnt (take p.learnt x.learnt)) ∙ ap (drop q.learnt) (sym (take-map (open_note x.cells) p.learnt x.learnt)))
        ∙ ap (λ (l : List (ℕ × Cell)). restore (drop q.learnt (take p.learnt (map (open_note x.cells) x.learnt))) (take p.cells (restore l x.cells))) (sym (drop-map (open_note x.cells) p.learnt x.learnt))
        ∙ restore-take-restore (map (open_note x.cells) x.learnt) x.cells p.cells q.learnt p.learnt e.learnt
        (subst (Within p.cells) (sym (take-map (open_note x.cells) p.learnt x.learnt)) (learnt_within x.cells p.cells (take p.learnt x.learnt) learnt_then))
        ∙ ap (λ (l : List (ℕ × Cell)). take p.cells (restore l x.cells)) (drop-map (open_note x.cells) q.learnt x.learnt))
        ∙ take-take q.cells p.cells (forgotten x.cells (drop q.learnt x.learnt)) e.cells)
        (take-take q.wide p.wide x.wide e.wide)
        (take-take q.args p.args x.args e.args)
        (ap (take q.vars) (
        ap (λ (l : List (ℕ × ℕ)). restore l (take p.vars (restored x.cells (drop p.order x.order) x.vars)))
        (sym (notes_same (take p.cells (forgotten x.cells (drop p.learnt x.learnt))) x.cells p.vars (drop q.order (take p.order x.order)) (noted_drop (take p.cells (forgotten x.cells (drop p.learnt x.learnt))) p.vars q.order (take p.order x.order) noted_then) cells_then)
        ∙ sym (drop-map (note_of x.cells) q.order (take p.order x.order)) ∙ ap (drop q.order) (sym (take-map (note_of x.cells) p.order x.order)))
        ∙ ap (λ (l : List (ℕ × ℕ)). restore (drop q.order (take p.order (notes x.cells x.order))) (take p.vars (restore l x.vars))) (sym (drop-map (note_of x.cells) p.order x.order))
        ∙ restore-take-restore (notes x.cells x.order) x.vars p.vars q.order p.order e.order cut_there
        ∙ ap (λ (l : List (ℕ × ℕ)). take p.vars (restore l x.vars)) (drop-map (note_of x.cells) q.order x.order))
        ∙ take-take q.vars p.vars (restored x.cells (drop q.order x.order) x.vars) e.vars)
        (take-take q.order p.order x.order e.order)
        (take-take q.learnt p.learnt x.learnt e.learnt)

    within_cut : (q : Place) → IsEarlier q p → IsWithin q (contents_at x p)
    within_cut q e = record {
      cells = omega (arith, e.cells, at_p.cells, length-take p.cells (forgotten x.cells (drop p.learnt x.learnt)), length-forgotten x.cells (drop p.learnt x.learnt));
      wide = omega (arith, e.wide, at_p.wide, length-take p.wide x.wide);
      args = omega (arith, e.args, at_p.args, length-take p.args x.args);
      vars = omega (arith, e.vars, at_p.vars, length-take p.vars (restored x.cells (drop p.order x.order) x.vars), length-restore (notes x.cells (drop p.order x.order)) x.vars);
      order = omega (arith, e.order, at_p.order, length-take p.order x.order);
      learnt = omega (arith, e.learnt, at_p.learnt, length-take p.learnt x.learnt);
    }

    pub marked_undo : IsMarked (contents_at x p) (take n marks)
    marked_undo = record {
      now = is.before n p here;
      within = λ k q h. (let g = get_take n k marks q h in within_cut q (is.sorted k n q p g.0 here (omega (arith, g.1))));
      before = λ k q h. (let g = get_take n k marks q h in subst IsWhole (sym (earlier_same q (is.sorted k n q p g.0 here (omega (arith, g.1))))) (is.before k q g.0));
      sorted = λ j k q r h i le. is.sorted j k q r (get_take n j marks q h).0 (get_take n k marks r i).0 le;
    }

    pub saved_undo : map (terms_at (contents_at x p)) (take n marks) ≡ take n (map (terms_at x) marks)
    saved_undo =
        map_same (terms_at (contents_at x p)) (terms_at x) (take n marks) (λ k q h. (let g = get_take n k marks q h in ap terms_of (earlier_same q (is.sorted k n q p g.0 here (omega (arith, g.1))))))
        ∙ sym (take-map (terms_at x) n marks)

pub marked_new : IsMarked (record { cells = []; wide = []; args = []; vars = []; order = []; learnt = [] }) []
marked_new = record { now = whole_new; within = λ k p q. absurd (none-some p q); before = λ k p q. absurd (none-some p q); sorted = λ j k p q h i le. absurd (none-some p h) }

-- a cell was added that means a term, under the same marks
pub record Adds (x y : Contents) (marks : List Place) (t : HeapTerm) : Type 0 where
  pub marked : IsMarked y marks
  pub saved : map (terms_at y) marks ≡ map (terms_at x) marks
  pub terms : meant y ≡ meant x ++ t ∷ []
  pub images : map (at (meant y)) (homes y) ≡ map (at (meant x)) (homes x)

module _ (x : Contents) (marks : List Place) (is : IsMarked x marks) where
  adds_cell : (wide : List ℚ) (args : List ℕ) → Longer x wide args → (c : Cell) (b : Built) → read wide args c ≡ b → Fits (length (all_built x)) (length (homes x)) b → ((n : ℕ) → b ≡ built.Var n → ⊥) → IsKept (length wide) args c → (IsClosed c → IsGround (raw_cell (meant x) b)) →
      Adds x (with_cell x wide args c) marks (raw_cell (meant x) b)
  adds_cell wide args longer c b reads fits plain kept closed =
      let keeps = keeps_cell x is.now wide args longer c in
      record {
        marked = marked_keeps is (whole_cell x is.now wide args longer c b reads fits plain kept closed) keeps;
        saved = saved_keeps is keeps;
        terms = meant_cell x is.now wide args longer c b reads fits plain;
        images = images_more x is.now wide args longer c b reads fits plain;
      }

  pub adds_whole : (n : ℤ) → Adds x (with_cell x x.wide x.args (cell.Whole n)) marks (Number (int_ℚ n))
  adds_whole n = adds_cell x.wide x.args (longer_same x) (cell.Whole n) (built.Number (int_ℚ n)) refl tt (λ m e. cc) tt (λ g v o. o)

  pub adds_wide : (q : ℚ) → Adds x (with_cell x (x.wide ++ q ∷ []) x.args (cell.Wide (length x.wide))) marks (Number q)
  adds_wide q = adds_cell (x.wide ++ q ∷ []) x.args (longer_wide x q) (cell.Wide (length x.wide)) (built.Number q)
      (ap built.Number (get_or_push x.wide q 0ℚ (length x.wide) refl)) tt (λ m e. cc) (omega (arith, length-append x.wide (q ∷ []))) (λ g v o. o)

  pub adds_name : (a : ℕ) → Adds x (with_cell x x.wide x.args (cell.Name a)) marks (Name a)
  adds_name a = adds_cell x.wide x.args (longer_same x) (cell.Name a) (built.Name a) refl tt (λ m e. cc) tt (λ g v o. o)

  pub adds_compound : (g : Bool) (f : ℕ) (ids : List ℕ) → 0 < length ids → All (λ i. i < length (meant x)) ids → (IsTrue g → All (λ i. IsGround (at (meant x) i)) ids) →
      Adds x (with_cell x x.wide (x.args ++ ids) (cell.Compound g (length ids) f (length x.args))) marks (with_arguments f (map (at (meant x)) ids))
  adds_compound g f ids some live ground =
      let below : AllBelow (length (all_built x)) ids = subst (λ (n : ℕ). AllBelow n ids) (length-meanings (all_built x) (bindings x)) (all_to_below (length (meant x)) ids live) in
      adds_cell x.wide (x.args ++ ids) (longer_args x ids) (cell.Compound g (length ids) f (length x.args)) (built.Compound f ids)
      (ap (built.Compound f) (read_new x.args ids)) (some, below) (λ m e. cc) (omega (arith, length-append x.args ids))
      (λ t v. absent_with_arguments (meant x) f ids v (λ k d lt. ground t k d lt v))

  pub adds_long : (g : Bool) (f : ℕ) (ids : List ℕ) → 0 < length ids → All (λ i. i < length (meant x)) ids → (IsTrue g → All (λ i. IsGround (at (meant x) i)) ids) →
      Adds x (with_cell x x.wide (x.args ++ length ids ∷ ids) (cell.Long g f (length x.args))) marks (with_arguments f (map (at (meant x)) ids))
  adds_long g f ids some live ground =
      let below : AllBelow (length (all_built x)) ids = subst (λ (n : ℕ). AllBelow n ids) (length-meanings (all_built x) (bindings x)) (all_to_below (length (meant x)) ids live) in
      adds_cell x.wide (x.args ++ length ids ∷ ids) (longer_args x (length ids ∷ ids)) (cell.Long g f (length x.args)) (built.Compound f ids)
      (ap (built.Compound f) (read_long x.args ids)) (some, below) (λ m e. cc) (omega (arith, length-append x.args (length ids ∷ ids), first_new x.args ids (length ids)))
      (λ t v. absent_with_arguments (meant x) f ids v (λ k d lt. ground t k d lt v))

  pub marked_var : IsMarked (with_var x) marks
  marked_var = marked_keeps is (whole_var x is.now) (keeps_var x is.now)

  pub saved_var : map (terms_at (with_var x)) marks ≡ map (terms_at x) marks
  saved_var = saved_keeps is (keeps_var x is.now)

  pub marked_bound : (id : ℕ) → id < length x.cells → IsMarked (with_bound id x) marks
  marked_bound id live = marked_keeps is (whole_bound x is.now id live) (keeps_bound x is.now id)

  pub saved_bound : (id : ℕ) → map (terms_at (with_bound id x)) marks ≡ map (terms_at x) marks
  saved_bound id = saved_keeps is (keeps_bound x is.now id)

  -- a binding of an unbound variable to the end of the bindings from a term in which it doesn't stand
  module _ (v : ℕ) (there : v < length (map (at (meant x)) (homes x))) (image : at (map (at (meant x)) (homes x)) v ≡ Var v) (term end : ℕ) (leads : Leads x term end) (apart : Occurs v (at (meant x) term) → ⊥) where
    keeps : Keeps x (with_binding x v end)
    keeps = keeps_binding x is.now v end (own_cell x is.now v there image)

    pub marked_binding : IsMarked (with_binding x v end) marks
    marked_binding = marked_keeps is (whole_binding x is.now v there image end term leads apart) keeps

    pub saved_binding : map (terms_at (with_binding x v end)) marks ≡ map (terms_at x) marks
    saved_binding = saved_keeps is keeps
