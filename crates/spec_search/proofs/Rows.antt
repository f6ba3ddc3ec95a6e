-- A goal comes to the same in places that are the same but for heights and the form of linear constraints.
use Rattle.std.proofs.Common.{◌≡◌, ℕ, suc, ◌+◌, List, [], ◌∷◌, ◌++◌, Option, Some, None, Bool, true, false, map, drop, refl, sym, ap, subst, ◌∙◌, add-one}
use Rattle.std.specs.Prelude.{◌||◌, if◌then◌else◌, bytes_eq, codes}
use Rattle.spec_numbers.specs.Rational.{ℚ}
use Rattle.spec_numbers.specs.Order.{cmp_ℚ}
use Rattle.spec_linear.specs.Solution.{Constraint, Equivalent}
use Rattle.spec_terms.specs.Operations.{Evaluated, Value, Fails, Overflows}
use Rattle.spec_terms.specs.Arithmetic.{evaluate}
use Rattle.spec_numbers.specs.Texts.{Text}
use Rattle.spec_terms.specs.Term.{Var, Number, Name, Compound, one, more}
use Rattle.spec_terms.specs.Unifier.{Equation}
use Rattle.spec_syntax.specs.Trees.{Tree}
use Rattle.spec_builtins.specs.Built.{compound1, compound2, atom, Indicator, indicator_of}
use Rattle.spec_builtins.specs.Kinds.{is_list, is_partial}
use Rattle.spec_builtins.specs.Bodies.{is_body, as_goal}
use Rattle.spec_builtins.specs.Errors.{instantiation, type_error, existence_error, arithmetic_error}
use Rattle.spec_builtins.specs.Alternatives.{◌≐◌, Solutions, Faults, Offers, Comparison, allows}
use Rattle.spec_builtins.specs.Clauses.{HeadBody, head_body, first_error, error_if, clause_goal_error, not_readable, declaration_error, declarations, use_module_error}
use Rattle.spec_builtins.specs.Operators.{operator_error, operator_names, operators_after}
use Rattle.spec_text.specs.Written.{text_within}
use Rattle.spec_builtins.specs.Terms.{passes, order_row, functor_row, arg_row, univ_row, arguments}
use Rattle.spec_builtins.specs.Texts.{atom_length_row, atom_list_row, char_code_row, number_codes_row, atom_concat_row, sub_atom_row}
use Rattle.spec_branch.specs.Checks.{constraint_error, question_error, expression_error, members, halves, Halves}
use Rattle.spec_branch.specs.Branch.{State, Item, Goal, Branch, Pending, Unsettled, no_work}
use Rattle.spec_branch.specs.Alike.{with_linear}
use Rattle.spec_search.specs.Database.{Database, Clause, Procedure, Dynamic, procedure_of, clause_added, all_declared}
use Rattle.spec_search.specs.Builtins as builtin
use Rattle.spec_search.specs.Builtins.{Builtin, Side, builtin_of, is_built_in}
use Rattle.spec_search.specs.Replies.{Place, Reply, Landed, landed_term, landed_child, child, makes, onward, goes_on, changes, outputs, offers, succeeds_if, unless_error, with_new, with_equations, alternative_child}
use Rattle.spec_search.specs.Control.{put, if_then_items, first_items, cut_row, not_row, with_more, called, call_row, catch_row, throw_row, findall_row, copy_row, calls}
use Rattle.spec_search.specs.Changes.{is_value, compare_right, compare_values, change_error, is_private, clause_match, clauses_for}
use Rattle.spec_search.specs.Constraints.{tell_or_split, freeze_row}
use Rattle.spec_search.specs.Balls.{last}
use Rattle.spec_search.specs.Rows.{nth, builtin_reply, reply_by, reply_of}
use Rattle.spec_search.specs.Runs.{SameState}
use Rattle.spec_search.proofs.Shapes.{Rung, OnBoth, first, second, IsEnd, whole, behind, SameItems, goal, call, cut, cut_fails, caught, collects, gathered, higher, SameBranch, SameOver, SameBranches}
use Rattle.spec_search.proofs.Heights.{in_front, kept_last}
use Rattle.spec_search.proofs.Landing.{SameLanded, same_landed}
use Rattle.spec_search.proofs.Replies.{Same, SameMade, SameReply, both_raise, both_throw, both_copy, both_overflow, both_make, both_call, both_ask, both_reach}

-- ---- children

pub same_child : {s : List Rung} {is js : List Item} {st su : State} → SameItems s is js → SameState st su → (w : Pending)
    → SameBranch s (child is st w) (child js su w)
same_child i h w = record { items = i; state = h; phase = refl }

same_landed_child : {s : List Rung} {is js : List Item} {x y : Landed} → SameItems s is js → SameLanded x y
    → (e : Equation Text) → SameBranch s (landed_child is x e) (landed_child js y e)
same_landed_child {x} {y} i h e =
    record {
      items = i;
      state = h.state;
      phase = ap (λ (rs : List Constraint). Unsettled (record no_work { equations = e ∷ []; rows = rs; told = x.told })) h.rows ∙ ap (λ (ts : List Tree). Unsettled (record no_work { equations = e ∷ []; rows = y.rows; told = ts })) h.told;
    }

pub list_child_same : {s : List Rung} {is js : List Item} {x y : Landed} → SameItems s is js → SameLanded x y
    → (t : Tree) → (f : List Tree → Tree) → SameBranch s (landed_child is x (t ≐ f x.terms)) (landed_child js y (t ≐ f y.terms))
list_child_same {s} {is} {js} {x} {y} i h t f =
    subst (λ (us : List Tree). SameBranch s (landed_child is x (t ≐ f x.terms)) (landed_child js y (t ≐ f us))) h.terms
    (same_landed_child i h (t ≐ f x.terms))

-- as many branches of both searches as there are members
abbrev pub on_both : {A : Type 0} → List A → List Rung
on_both [] = []
on_both (x ∷ xs) = OnBoth ∷ on_both xs

end_of : (s t : List Rung) → IsEnd s (t ++ s)
end_of s [] = whole
end_of s (x ∷ t) = behind (end_of s t)

pub more_behind : {s : List Rung} (t : List Rung) {b c : Branch} → SameBranch s b c → SameBranch (t ++ s) b c
more_behind {s} t h = record { items = higher (end_of s t) h.items; state = h.state; phase = h.phase }

mapped : {A : Type 0} (s : List Rung) (f g : A → Branch) → ((x : A) → SameBranch s (f x) (g x)) → (xs : List A)
    → SameOver s (on_both xs) (map f xs) (map g xs)
mapped s f g h [] = tt
mapped s f g h (x ∷ xs) = (more_behind (on_both xs) (h x), mapped s f g h xs)

-- children in this shape, and nothing cut
pub made_over : {s : List Rung} (t : List Rung) (xs ys : List Branch) (db : Database) (text : Text) → SameOver s t xs ys
    → SameMade s (record { children = xs; keeps = None; database = db; output = text }) (record { children = ys; keeps = None; database = db; output = text })
made_over {s} t xs ys db text h =
    record {
      same = λ bs cs k. record { shape = t ++ s; branches = in_front s t xs ys bs cs h k };
      database = refl;
      output = refl;
    }

either : {s : List Rung} (b : Bool) {x y u v : Reply} → SameReply s x u → SameReply s y v
    → SameReply s (if b then x else y) (if b then u else v)
either true h k = h
either false h k = k

unless_one : {s : List Rung} (e : Option Tree) {x y : Reply} → SameReply s x y → SameReply s (unless_error e x) (unless_error e y)
unless_one None h = h
unless_one (Some e) h = both_raise e

-- ---- rows

module _ (s : List Rung) (db : Database) (st : State) (l : List Constraint) (same : Equivalent st.linear l) (is js : List Item) (rest : SameItems s is js) (h k a b : ℕ) (aa : a ≡ first s) (bb : b ≡ second s) where
  abbrev p : Place
  p = record { database = db; state = st; rest = is; cut = h; height = a }

  abbrev q : Place
  q = record { database = db; state = with_linear l st; rest = js; cut = k; height = b }

  states : SameState st (with_linear l st)
  states = record { state = refl; linear = same }

  -- the state with n more variables
  newer : (n : ℕ) → SameState (with_new n st) (with_new n (with_linear l st))
  newer n = record { state = refl; linear = same }

  -- one child with other items
  goes : {xs ys : List Item} → SameItems s xs ys → SameReply s (goes_on p xs) (goes_on q ys)
  goes i = both_make (made_over (OnBoth ∷ []) _ _ db [] (same_child i states no_work, tt))

  -- two children
  two : {xs ys us vs : List Item} → SameItems (OnBoth ∷ s) xs ys → SameItems s us vs
      → SameReply s (makes p (child xs st no_work ∷ child us st no_work ∷ [])) (makes q (child ys (with_linear l st) no_work ∷ child vs (with_linear l st) no_work ∷ []))
  two i j = both_make (made_over (OnBoth ∷ OnBoth ∷ []) _ _ db [] (same_child i states no_work, (same_child j states no_work, tt)))

  -- no child
  none : SameReply s (makes p []) (makes q [])
  none = both_make (made_over [] _ _ db [] tt)

  -- the goal goes on, with this work
  works : (w : Pending) → SameReply s (makes p (child is st w ∷ [])) (makes q (child js (with_linear l st) w ∷ []))
  works w = both_make (made_over (OnBoth ∷ []) _ _ db [] (same_child rest states w, tt))

  succeeds : (x : Bool) → SameReply s (succeeds_if x p) (succeeds_if x q)
  succeeds x = either x (works no_work) none

  changed : (d : Database) → SameReply s (changes p d) (changes q d)
  changed d = both_make (made_over (OnBoth ∷ []) _ _ d [] (same_child rest states no_work, tt))

  written : (text : Text) → SameReply s (outputs p text) (outputs q text)
  written text = both_make (made_over (OnBoth ∷ []) _ _ db text (same_child rest states no_work, tt))

  offered : (x : Solutions) → SameReply s (offers p x) (offers q x)
  offered (Faults e) = both_raise e
  offered (Offers ways) =
      both_make (made_over (on_both ways) _ _ db []
      (mapped s (alternative_child p) (alternative_child q) (λ x. same_child rest (newer x.new) (with_equations x.equations)) ways))

  -- ---- goals that don't cut

  called_same : (g : Tree) → SameReply s (called p g) (called q g)
  called_same g = either (is_body g) (goes (goal g whole aa bb rest)) (both_raise (type_error "callable" g))

  pub call_same : (g : Tree) (ts : List Tree) → SameReply s (call_row p g ts) (call_row q g ts)
  call_same (Var v) ts = both_raise instantiation
  call_same (Number x) ts = both_raise (type_error "callable" (Number x))
  call_same (Name f) ts = called_same (with_more (Name f) ts)
  call_same (Compound f us) ts = called_same (with_more (Compound f us) ts)

  not_same : (g : Tree) → SameReply s (not_row p g) (not_row q g)
  not_same g =
      two (goal (as_goal g) whole (add-one a ∙ ap suc aa) (add-one b ∙ ap suc bb) (cut_fails (behind whole) aa bb rest)) rest

  catch_same : (g c r : Tree) → SameReply s (catch_row p g c r) (catch_row q g c r)
  catch_same g c r = goes (call g (caught c r whole aa bb states rest))

  throw_same : (t : Tree) → SameReply s (throw_row p t) (throw_row q t)
  throw_same (Var v) = both_raise instantiation
  throw_same (Number x) = both_throw (Number x)
  throw_same (Name f) = both_throw (Name f)
  throw_same (Compound f us) = both_throw (Compound f us)

  findall_same : (t g u : Tree) → SameReply s (findall_row p t g u) (findall_row q t g u)
  findall_same t g u =
      either (is_partial u || is_list u) (two (call g (collects t whole aa bb rest)) (gathered u [] rest)) (both_raise (type_error "list" u))

  copy_same : (x y : Tree) → SameReply s (copy_row p x y) (copy_row q x y)
  copy_same x y = both_copy (λ c. same_landed_child rest (same_landed st (with_linear l st) states (c ∷ [])) (y ≐ landed_term st c))

  is_same : (x : Tree) (v : Evaluated) → SameReply s (is_value p x v) (is_value q x v)
  is_same x (Value v) = works (with_equations ((x ≐ Number v) ∷ []))
  is_same x (Fails e) = both_raise (arithmetic_error e)
  is_same x (Overflows pair) = both_overflow pair

  right_same : (c : Comparison) (v : ℚ) (w : Evaluated) → SameReply s (compare_right p c v w) (compare_right q c v w)
  right_same c v (Value w) = succeeds (allows c (cmp_ℚ v w))
  right_same c v (Fails e) = both_raise (arithmetic_error e)
  right_same c v (Overflows pair) = both_overflow pair

  compare_same : (c : Comparison) (v w : Evaluated) → SameReply s (compare_values p c v w) (compare_values q c v w)
  compare_same c (Value v) w = right_same c v w
  compare_same c (Fails e) w = both_raise (arithmetic_error e)
  compare_same c (Overflows pair) w = both_overflow pair

  matches : (removes : Clause → Option ℕ) (asked : HeadBody) (cs : List Clause)
      → SameReply s (makes p (map (clause_match p removes asked) cs)) (makes q (map (clause_match q removes asked) cs))
  matches removes asked cs =
      both_make (made_over (on_both cs) _ _ db [] (mapped s (clause_match p removes asked) (clause_match q removes asked)
      (λ c. record { items = rest; state = record { state = refl; linear = same }; phase = refl }) cs))

  freeze_same : (x g : Tree) → SameReply s (freeze_row p x g) (freeze_row q x g)
  freeze_same (Var v) g = both_make (made_over (OnBoth ∷ []) _ _ db [] (same_child rest (record { state = refl; linear = same }) no_work, tt))
  freeze_same (Number x) g = goes (call g rest)
  freeze_same (Name f) g = goes (call g rest)
  freeze_same (Compound f us) g = goes (call g rest)

  procedure_same : (i : Indicator) (x : Option Procedure) → SameReply s (calls i x) (calls i x)
  procedure_same i None = both_raise (existence_error i)
  procedure_same i (Some x) = both_call x.clauses

  -- ---- goals that may cut

  module _ (r : List Rung) (e : IsEnd r s) (hh : h ≡ first r) (kk : k ≡ second r) (older : SameItems r is js) where
    if_then_same : (t : List Rung) → IsEnd s t → (m n : ℕ) → m ≡ first t → n ≡ second t → (c g : Tree)
        → SameItems t (if_then_items p m c g) (if_then_items q n c g)
    if_then_same t d m n mm nn c g = goal (as_goal c) whole mm nn (cut d aa bb (goal (as_goal g) e hh kk older))

    -- a goal with the same cut, put in front
    put_same : (g : Tree) → SameItems s (put g h ∷ is) (put g k ∷ js)
    put_same g = goal (as_goal g) e hh kk older

    -- a disjunction's left side
    plain_first : (t : Tree) → SameItems (OnBoth ∷ s) (put t h ∷ is) (put t k ∷ js)
    plain_first t = goal (as_goal t) (behind e) hh kk older

    first_if : (x : Bool) (c g t : Tree)
        → SameItems (OnBoth ∷ s) (if x then if_then_items p (a + 1) c g else Goal t h ∷ is) (if x then if_then_items q (b + 1) c g else Goal t k ∷ js)
    first_if true c g t = if_then_same (OnBoth ∷ s) (behind whole) (a + 1) (b + 1) (add-one a ∙ ap suc aa) (add-one b ∙ ap suc bb) c g
    first_if false c g t = goal t (behind e) hh kk older

    first_same : (t : Tree) → SameItems (OnBoth ∷ s) (first_items p t) (first_items q t)
    first_same (Var v) = plain_first (Var v)
    first_same (Number x) = plain_first (Number x)
    first_same (Name f) = plain_first (Name f)
    first_same (Compound f (one t)) = plain_first (Compound f (one t))
    first_same (Compound f (more c (one t))) = first_if (bytes_eq f (codes "->")) c t (Compound f (more c (one t)))
    first_same (Compound f (more c (more t ts))) = plain_first (Compound f (more c (more t ts)))

    cut_children : (bs cs : List Branch) → SameBranches s bs cs → Same (onward p ++ last h bs) (onward q ++ last k cs)
    cut_children bs cs x =
        record {
          shape = OnBoth ∷ r;
          branches = (
            same_child older states no_work,
            subst (λ m. SameBranches r (last m bs) (last k cs)) (sym hh) (subst (λ n. SameBranches r (last (first r) bs) (last n cs)) (sym kk) (kept_last e bs cs x)),
          );
        }

    cut_same : SameReply s (cut_row p) (cut_row q)
    cut_same = both_make (record { same = cut_children; database = refl; output = refl })

    split_same : (c : Tree) (x : Option Halves) → SameReply s (tell_or_split p c x) (tell_or_split q c x)
    split_same c None = works (record no_work { told = members c })
    split_same c (Some x) = two (plain_first (compound1 "{}" x.left)) (put_same (compound1 "{}" x.right))

    row_same : (x : Builtin) (ts : List Tree) → SameReply s (builtin_reply p x ts) (builtin_reply q x ts)
    row_same builtin.True ts = works no_work
    row_same builtin.Fail ts = none
    row_same builtin.And ts = goes (goal (as_goal (nth ts 0)) e hh kk (goal (as_goal (nth ts 1)) whole hh kk older))
    row_same builtin.Or ts = two (first_same (nth ts 0)) (put_same (nth ts 1))
    row_same builtin.IfThen ts = goes (if_then_same s whole a b aa bb (nth ts 0) (nth ts 1))
    row_same builtin.Cut ts = cut_same
    row_same builtin.Not ts = not_same (nth ts 0)
    row_same builtin.Call ts = call_same (nth ts 0) (drop 1 ts)
    row_same builtin.Once ts = goes (if_then_same s whole a b aa bb (nth ts 0) (atom "true"))
    row_same builtin.Catch ts = catch_same (nth ts 0) (nth ts 1) (nth ts 2)
    row_same builtin.Throw ts = throw_same (nth ts 0)
    row_same builtin.Findall ts = findall_same (nth ts 0) (nth ts 1) (nth ts 2)
    row_same builtin.Unify ts = works (with_equations ((nth ts 0 ≐ nth ts 1) ∷ []))
    row_same builtin.NotUnify ts = goes (put_same (compound1 "\\+" (compound2 "=" (nth ts 0) (nth ts 1))))
    row_same (builtin.Order c) ts = offered (order_row c (nth ts 0) (nth ts 1))
    row_same (builtin.Test x) ts = succeeds (passes x (nth ts 0))
    row_same builtin.Functor ts = offered (functor_row st.fresh (nth ts 0) (nth ts 1) (nth ts 2))
    row_same builtin.Arg ts = offered (arg_row (nth ts 0) (nth ts 1) (nth ts 2))
    row_same builtin.Univ ts = offered (univ_row (nth ts 0) (nth ts 1))
    row_same builtin.CopyTerm ts = copy_same (nth ts 0) (nth ts 1)
    row_same builtin.AtomLength ts = offered (atom_length_row (nth ts 0) (nth ts 1))
    row_same builtin.CharCode ts = offered (char_code_row (nth ts 0) (nth ts 1))
    row_same builtin.NumberCodes ts = offered (number_codes_row (nth ts 0) (nth ts 1))
    row_same builtin.AtomConcat ts = offered (atom_concat_row (nth ts 0) (nth ts 1) (nth ts 2))
    row_same builtin.SubAtom ts = offered (sub_atom_row (nth ts 0) (nth ts 1) (nth ts 2) (nth ts 3) (nth ts 4))
    row_same (builtin.AtomList x) ts = offered (atom_list_row x (nth ts 0) (nth ts 1))
    row_same builtin.Is ts = is_same (nth ts 0) (evaluate (nth ts 1))
    row_same (builtin.Compare c) ts = compare_same c (evaluate (nth ts 0)) (evaluate (nth ts 1))
    row_same (builtin.Assert end) ts = unless_one (change_error db (nth ts 0)) (changed (clause_added end Dynamic (head_body (nth ts 0)) db))
    row_same builtin.Retract ts =
        let c = head_body (nth ts 0) in
        unless_one (change_error db (nth ts 0)) (matches (λ d. Some d.number) c (clauses_for p c.head))
    row_same builtin.ClauseGoal ts =
        let i = indicator_of (nth ts 0) in
        unless_one (first_error (clause_goal_error (nth ts 0) (nth ts 1) ∷ error_if (is_private db i) (not_readable i) ∷ []))
        (matches (λ c. None) (record { head = nth ts 0; body = nth ts 1 }) (clauses_for p (nth ts 0)))
    row_same builtin.DynamicGoal ts = unless_one (declaration_error is_built_in (nth ts 0)) (changed (all_declared (declarations (nth ts 0)) db))
    row_same builtin.Discontiguous ts = unless_one (declaration_error is_built_in (nth ts 0)) (goes rest)
    row_same builtin.Initialization ts = goes (put_same (compound1 "once" (nth ts 0)))
    row_same builtin.UseModule ts = unless_one (use_module_error (nth ts 0)) (goes rest)
    row_same builtin.Op ts =
        unless_one (operator_error db.operators (nth ts 0) (nth ts 1) (nth ts 2))
        (changed (record db { operators = operators_after db.operators (nth ts 0) (nth ts 1) (operator_names (nth ts 2)) }))
    row_same (builtin.Write x) ts = written (text_within x db.operators [] 1200 (nth ts 0))
    row_same builtin.Newline ts = written (10 ∷ [])
    row_same builtin.Curly ts = unless_one (constraint_error (nth ts 0)) (split_same (nth ts 0) (halves (nth ts 0)))
    row_same builtin.Entailed ts = unless_one (question_error (nth ts 0)) (both_ask (same_child rest states no_work))
    row_same builtin.Freeze ts = freeze_same (nth ts 0) (nth ts 1)
    row_same (builtin.Extent x) ts =
        unless_one (expression_error (nth ts 0)) (both_reach (λ v. same_child rest states (with_equations ((nth ts 1 ≐ Number v) ∷ []))))
    row_same (builtin.Optimum x) ts =
        unless_one (expression_error (nth ts 0)) (both_reach (λ v. same_child rest states (record no_work { told = compound2 "=" (nth ts 0) (Number v) ∷ [] })))

    reply_by_same : (t : Tree) (x : Option Builtin) → SameReply s (reply_by p t x) (reply_by q t x)
    reply_by_same t None = procedure_same (indicator_of t) (procedure_of db (indicator_of t))
    reply_by_same t (Some x) = row_same x (arguments t)

    pub reply_same : (t : Tree) → SameReply s (reply_of p t) (reply_of q t)
    reply_same (Var v) = both_raise instantiation
    reply_same (Number q) = both_raise (type_error "callable" (Number q))
    reply_same (Name a) = reply_by_same (Name a) (builtin_of (indicator_of (Name a)))
    reply_same (Compound f ts) = reply_by_same (Compound f ts) (builtin_of (indicator_of (Compound f ts)))
