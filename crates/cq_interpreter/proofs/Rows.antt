-- What a selected goal comes to has as many variables as its branch.
use Rattle.std.proofs.Common.{ℕ, ◌+◌, ◌≤◌, List, [], ◌∷◌, map, length, Bool, true, false, Option, Some, None, if◌then◌else◌, codes, bytes_eq, ◌||◌, ◌==◌, arith}
use Rattle.std.specs.Prelude.{⊤, drop}
use Rattle.std.specs.List.{list_any}
use Rattle.spec_numbers.specs.Rational.{ℚ}
use Rattle.spec_numbers.specs.Order.{cmp_ℚ}
use Rattle.spec_terms.specs.Operations.{Evaluated, Value, Fails, Overflows}
use Rattle.spec_terms.specs.Arithmetic.{evaluate}
use Rattle.spec_numbers.specs.Texts.{Text}
use Rattle.spec_terms.specs.Term.{Var, Number, Name, Compound, one, more}
use Rattle.spec_syntax.specs.Trees.{Tree}
use Rattle.spec_builtins.specs.Built.{atom, compound1, compound2, is_atom, Indicator, indicator_of}
use Rattle.spec_builtins.specs.Bodies.{is_body}
use Rattle.spec_builtins.specs.Errors.{type_error}
use Rattle.spec_builtins.specs.Kinds.{is_list, is_partial}
use Rattle.spec_builtins.specs.Alternatives.{◌≐◌, Solutions, Faults, Offers, Alternative, Comparison, allows}
use Rattle.spec_builtins.specs.Clauses.{HeadBody, head_body, first_error, error_if, clause_goal_error, not_readable, declaration_error, declarations, use_module_error}
use Rattle.spec_builtins.specs.Operators.{operator_error, operator_names, operators_after}
use Rattle.spec_builtins.specs.Terms.{passes, order_row, functor_row, arg_row, univ_row, arguments}
use Rattle.spec_builtins.specs.Texts.{atom_length_row, atom_list_row, char_code_row, number_codes_row, atom_concat_row, sub_atom_row}
use Rattle.spec_branch.specs.Checks.{constraint_error, question_error, expression_error, members, halves, Halves}
use Rattle.spec_branch.specs.Branch.{Asleep, State, Copied, Item, Goal, CutFail, CatchEnd, Collect, Gathered, Pending, no_work}
use Rattle.spec_search.specs.Builtins as builtin
use Rattle.spec_search.specs.Builtins.{Builtin, builtin_of, is_built_in}
use Rattle.spec_search.specs.Database.{Database, Clause, Dynamic, Procedure, procedure_of, clause_added, all_declared}
use Rattle.spec_search.specs.Replies as reply
use Rattle.spec_search.specs.Replies.{Place, Reply, Raises, Throws, WithCopy, Makes, Calls, IfEntailed, WithExtent, child, makes, goes_on, onward, changes, with_equations, unless_error, succeeds_if, alternative_child, offers, suspended, all_suspended, place_from, placed_asleep, state_with, landed}
use Rattle.spec_search.specs.Control.{put, call_of, first_items, if_then_items, with_more, called, call_row, throw_row, findall_row, copy_row, instance, clause_child, calls}
use Rattle.spec_search.specs.Changes.{is_value, compare_right, compare_values, change_error, is_private, clause_match, clauses_for, retract_row, clause_row}
use Rattle.spec_search.specs.Constraints.{told_child, tell_or_split, freeze_row}
use Rattle.spec_search.specs.Rows.{nth, builtin_reply, reply_by, reply_of}
use Rattle.cq_interpreter.specs.Counted.{CatchesCount, Counts, AllCount}

-- each branch that the reply makes has so many variables
abbrev pub RepliesCount : ℕ → Reply → Type 0
RepliesCount n (Raises e) = ⊤
RepliesCount n (Throws t) = ⊤
RepliesCount n (WithCopy t f) = (c : Copied) → Counts n (f c)
RepliesCount n (reply.Overflows pair) = ⊤
RepliesCount n (Makes m) = AllCount n m.children
RepliesCount n (Calls cs) = ⊤
RepliesCount n (IfEntailed ms b) = Counts n b
RepliesCount n (WithExtent side t f) = (q : ℚ) → Counts n (f q)

-- ---- choices

either_counts : (n : ℕ) (b : Bool) (r s : Reply) → RepliesCount n r → RepliesCount n s → RepliesCount n (if b then r else s)
either_counts n true r s h k = h
either_counts n false r s h k = k

unless_counts : (n : ℕ) (e : Option Tree) (r : Reply) → RepliesCount n r → RepliesCount n (unless_error e r)
unless_counts n None r h = h
unless_counts n (Some e) r h = tt

-- ---- copies

-- the state with a copy's variables
abbrev grown : State → Copied → State
grown st c = record st {
  fresh = st.fresh + length c.variables;
  numeric = λ v. st.numeric v || list_any (λ w. place_from st.fresh c.variables w == v) c.numeric;
}

module _ (n : ℕ) where
  suspended_fresh : (sleepers : List Asleep) (st : State) → n ≤ st.fresh → n ≤ (all_suspended st sleepers).fresh
  suspended_fresh [] st h = h
  suspended_fresh (a ∷ others) st h = suspended_fresh others (suspended st a) h

  with_fresh : (st : State) (c : Copied) → n ≤ st.fresh → n ≤ (state_with st c).fresh
  with_fresh st c h = suspended_fresh (map (placed_asleep st.fresh c.variables) c.asleep) (grown st c) (omega arith)

  pub landed_fresh : (cs : List Copied) (st : State) → n ≤ st.fresh → n ≤ (landed st cs).state.fresh
  landed_fresh [] st h = h
  landed_fresh (c ∷ cs) st h = landed_fresh cs (state_with st c) (with_fresh st c h)

-- ---- rows

module _ (n : ℕ) (p : Place) (h : n ≤ p.state.fresh) (k : CatchesCount n p.rest) where
  -- the same state, with some items
  here : (items : List Item) (work : Pending) → CatchesCount n items → Counts n (child items p.state work)
  here items work i = record { state = h; catches = i }

  on : (work : Pending) → Counts n (child p.rest p.state work)
  on work = here p.rest work k

  onward_counts : AllCount n (onward p)
  onward_counts = (on no_work, tt)

  succeeds_counts : (b : Bool) → RepliesCount n (succeeds_if b p)
  succeeds_counts true = onward_counts
  succeeds_counts false = tt

  ways_count : (ways : List Alternative) → AllCount n (map (alternative_child p) ways)
  ways_count [] = tt
  ways_count (a ∷ ways) = (record { state = omega arith; catches = k }, ways_count ways)

  offers_counts : (s : Solutions) → RepliesCount n (offers p s)
  offers_counts (Faults e) = tt
  offers_counts (Offers ways) = ways_count ways

  first_of_two : (b : Bool) (f : Text) (c t : Tree)
      → CatchesCount n (if b then if_then_items p (p.height + 1) c t else Goal (Compound f (more c (one t))) p.cut ∷ p.rest)
  first_of_two true f c t = k
  first_of_two false f c t = k

  first_count : (a : Tree) → CatchesCount n (first_items p a)
  first_count (Var v) = k
  first_count (Number q) = k
  first_count (Name f) = k
  first_count (Compound f (one t)) = k
  first_count (Compound f (more c (one t))) = first_of_two (bytes_eq f (codes "->")) f c t
  first_count (Compound f (more c (more t ts))) = k

  called_counts : (g : Tree) → RepliesCount n (called p g)
  called_counts g = either_counts n (is_body g) (goes_on p (Goal g p.height ∷ p.rest)) (Raises (type_error "callable" g)) (here (Goal g p.height ∷ p.rest) no_work k, tt) tt

  call_counts : (g : Tree) (ts : List Tree) → RepliesCount n (call_row p g ts)
  call_counts (Var v) ts = tt
  call_counts (Number q) ts = tt
  call_counts (Name f) ts = called_counts (with_more (Name f) ts)
  call_counts (Compound f us) ts = called_counts (with_more (Compound f us) ts)

  throw_counts : (b : Tree) → RepliesCount n (throw_row p b)
  throw_counts (Var v) = tt
  throw_counts (Number q) = tt
  throw_counts (Name f) = tt
  throw_counts (Compound f us) = tt

  findall_counts : (t g l : Tree) → RepliesCount n (findall_row p t g l)
  findall_counts t g l =
      either_counts n (is_partial l || is_list l)
      (makes p (child (call_of g ∷ Collect p.height t ∷ p.rest) p.state no_work ∷ child (Gathered l [] ∷ p.rest) p.state no_work ∷ []))
      (Raises (type_error "list" l))
      (here (call_of g ∷ Collect p.height t ∷ p.rest) no_work k, (here (Gathered l [] ∷ p.rest) no_work k, tt)) tt

  copy_counts : (a b : Tree) → RepliesCount n (copy_row p a b)
  copy_counts a b = λ c. record { state = landed_fresh n (c ∷ []) p.state h; catches = k }

  is_counts : (x : Tree) (e : Evaluated) → RepliesCount n (is_value p x e)
  is_counts x (Value q) = (on (with_equations ((x ≐ Number q) ∷ [])), tt)
  is_counts x (Fails e) = tt
  is_counts x (Overflows pair) = tt

  right_counts : (c : Comparison) (q : ℚ) (e : Evaluated) → RepliesCount n (compare_right p c q e)
  right_counts c q (Value r) = succeeds_counts (allows c (cmp_ℚ q r))
  right_counts c q (Fails e) = tt
  right_counts c q (Overflows pair) = tt

  compared_counts : (c : Comparison) (e f : Evaluated) → RepliesCount n (compare_values p c e f)
  compared_counts c (Value q) f = right_counts c q f
  compared_counts c (Fails e) f = tt
  compared_counts c (Overflows pair) f = tt

  matches_count : (removes : Clause → Option ℕ) (asked : HeadBody) (cs : List Clause) → AllCount n (map (clause_match p removes asked) cs)
  matches_count removes asked [] = tt
  matches_count removes asked (c ∷ cs) = (record { state = omega arith; catches = k }, matches_count removes asked cs)

  retract_counts : (t : Tree) → RepliesCount n (retract_row p t)
  retract_counts t =
      let c = head_body t in
      unless_counts n (change_error p.database t) (makes p (map (clause_match p (λ d. Some d.number) c) (clauses_for p c.head)))
      (matches_count (λ d. Some d.number) c (clauses_for p c.head))

  clause_counts : (g b : Tree) → RepliesCount n (clause_row p g b)
  clause_counts g b =
      let i = indicator_of g in
      unless_counts n (first_error (clause_goal_error g b ∷ error_if (is_private p.database i) (not_readable i) ∷ []))
      (makes p (map (clause_match p (λ c. None) (record { head = g; body = b })) (clauses_for p g)))
      (matches_count (λ c. None) (record { head = g; body = b }) (clauses_for p g))

  told_counts : (c : Tree) (o : Option Halves) → RepliesCount n (tell_or_split p c o)
  told_counts c None = (on (record no_work { told = members c }), tt)
  told_counts c (Some x) = (here (put (compound1 "{}" x.left) p.cut ∷ p.rest) no_work k, (here (put (compound1 "{}" x.right) p.cut ∷ p.rest) no_work k, tt))

  freeze_counts : (x g : Tree) → RepliesCount n (freeze_row p x g)
  freeze_counts (Var v) g = (record { state = h; catches = k }, tt)
  freeze_counts (Number q) g = (here (call_of g ∷ p.rest) no_work k, tt)
  freeze_counts (Name f) g = (here (call_of g ∷ p.rest) no_work k, tt)
  freeze_counts (Compound f us) g = (here (call_of g ∷ p.rest) no_work k, tt)

  changes_counts : (e : Option Tree) (db : Database) → RepliesCount n (unless_error e (changes p db))
  changes_counts e db = unless_counts n e (changes p db) onward_counts

  row_counts : (b : Builtin) (ts : List Tree) → RepliesCount n (builtin_reply p b ts)
  row_counts builtin.True ts = onward_counts
  row_counts builtin.Fail ts = tt
  row_counts builtin.And ts = (here (put (nth ts 0) p.cut ∷ put (nth ts 1) p.cut ∷ p.rest) no_work k, tt)
  row_counts builtin.Or ts = (here (first_items p (nth ts 0)) no_work (first_count (nth ts 0)), (here (put (nth ts 1) p.cut ∷ p.rest) no_work k, tt))
  row_counts builtin.IfThen ts = (here (if_then_items p p.height (nth ts 0) (nth ts 1)) no_work k, tt)
  row_counts builtin.Cut ts = onward_counts
  row_counts builtin.Not ts = (here (put (nth ts 0) (p.height + 1) ∷ CutFail p.height ∷ p.rest) no_work k, onward_counts)
  row_counts builtin.Call ts = call_counts (nth ts 0) (drop 1 ts)
  row_counts builtin.Once ts = (here (if_then_items p p.height (nth ts 0) (atom "true")) no_work k, tt)
  row_counts builtin.Catch ts = (here (call_of (nth ts 0) ∷ CatchEnd p.height p.state (nth ts 1) (nth ts 2) ∷ p.rest) no_work (h, k), tt)
  row_counts builtin.Throw ts = throw_counts (nth ts 0)
  row_counts builtin.Findall ts = findall_counts (nth ts 0) (nth ts 1) (nth ts 2)
  row_counts builtin.Unify ts = (on (with_equations ((nth ts 0 ≐ nth ts 1) ∷ [])), tt)
  row_counts builtin.NotUnify ts = (here (put (compound1 "\\+" (compound2 "=" (nth ts 0) (nth ts 1))) p.cut ∷ p.rest) no_work k, tt)
  row_counts (builtin.Order c) ts = offers_counts (order_row c (nth ts 0) (nth ts 1))
  row_counts (builtin.Test t) ts = succeeds_counts (passes t (nth ts 0))
  row_counts builtin.Functor ts = offers_counts (functor_row p.state.fresh (nth ts 0) (nth ts 1) (nth ts 2))
  row_counts builtin.Arg ts = offers_counts (arg_row (nth ts 0) (nth ts 1) (nth ts 2))
  row_counts builtin.Univ ts = offers_counts (univ_row (nth ts 0) (nth ts 1))
  row_counts builtin.CopyTerm ts = copy_counts (nth ts 0) (nth ts 1)
  row_counts builtin.AtomLength ts = offers_counts (atom_length_row (nth ts 0) (nth ts 1))
  row_counts builtin.CharCode ts = offers_counts (char_code_row (nth ts 0) (nth ts 1))
  row_counts builtin.NumberCodes ts = offers_counts (number_codes_row (nth ts 0) (nth ts 1))
  row_counts builtin.AtomConcat ts = offers_counts (atom_concat_row (nth ts 0) (nth ts 1) (nth ts 2))
  row_counts builtin.SubAtom ts = offers_counts (sub_atom_row (nth ts 0) (nth ts 1) (nth ts 2) (nth ts 3) (nth ts 4))
  row_counts (builtin.AtomList t) ts = offers_counts (atom_list_row t (nth ts 0) (nth ts 1))
  row_counts builtin.Is ts = is_counts (nth ts 0) (evaluate (nth ts 1))
  row_counts (builtin.Compare c) ts = compared_counts c (evaluate (nth ts 0)) (evaluate (nth ts 1))
  row_counts (builtin.Assert e) ts = changes_counts (change_error p.database (nth ts 0)) (clause_added e Dynamic (head_body (nth ts 0)) p.database)
  row_counts builtin.Retract ts = retract_counts (nth ts 0)
  row_counts builtin.ClauseGoal ts = clause_counts (nth ts 0) (nth ts 1)
  row_counts builtin.DynamicGoal ts = changes_counts (declaration_error is_built_in (nth ts 0)) (all_declared (declarations (nth ts 0)) p.database)
  row_counts builtin.Discontiguous ts = unless_counts n (declaration_error is_built_in (nth ts 0)) (goes_on p p.rest) onward_counts
  row_counts builtin.Initialization ts = (here (put (compound1 "once" (nth ts 0)) p.cut ∷ p.rest) no_work k, tt)
  row_counts builtin.UseModule ts = unless_counts n (use_module_error (nth ts 0)) (goes_on p p.rest) onward_counts
  row_counts builtin.Op ts =
      changes_counts (operator_error p.database.operators (nth ts 0) (nth ts 1) (nth ts 2))
      (record p.database { operators = operators_after p.database.operators (nth ts 0) (nth ts 1) (operator_names (nth ts 2)) })
  row_counts (builtin.Write s) ts = onward_counts
  row_counts builtin.Newline ts = onward_counts
  row_counts builtin.Curly ts = unless_counts n (constraint_error (nth ts 0)) (tell_or_split p (nth ts 0) (halves (nth ts 0))) (told_counts (nth ts 0) (halves (nth ts 0)))
  row_counts builtin.Entailed ts = unless_counts n (question_error (nth ts 0)) (IfEntailed (members (nth ts 0)) (child p.rest p.state no_work)) (on no_work)
  row_counts builtin.Freeze ts = freeze_counts (nth ts 0) (nth ts 1)
  row_counts (builtin.Extent s) ts =
      unless_counts n (expression_error (nth ts 0))
      (WithExtent s (nth ts 0) (λ q. child p.rest p.state (with_equations ((nth ts 1 ≐ Number q) ∷ []))))
      (λ q. on (with_equations ((nth ts 1 ≐ Number q) ∷ [])))
  row_counts (builtin.Optimum s) ts =
      unless_counts n (expression_error (nth ts 0))
      (WithExtent s (nth ts 0) (λ q. told_child p (compound2 "=" (nth ts 0) (Number q) ∷ [])))
      (λ q. on (record no_work { told = compound2 "=" (nth ts 0) (Number q) ∷ [] }))

  calls_count : (i : Indicator) (q : Option Procedure) → RepliesCount n (calls i q)
  calls_count i None = tt
  calls_count i (Some q) = tt

  by_counts : (goal : Tree) (b : Option Builtin) → RepliesCount n (reply_by p goal b)
  by_counts goal (Some b) = row_counts b (arguments goal)
  by_counts goal None = calls_count (indicator_of goal) (procedure_of p.database (indicator_of goal))

  pub reply_counts : (goal : Tree) → RepliesCount n (reply_of p goal)
  reply_counts (Var v) = tt
  reply_counts (Number q) = tt
  reply_counts (Name a) = by_counts (Name a) (builtin_of (indicator_of (Name a)))
  reply_counts (Compound f ts) = by_counts (Compound f ts) (builtin_of (indicator_of (Compound f ts)))

  body_counts : (b : Tree) (x : Bool) → CatchesCount n (if x then p.rest else put b p.height ∷ p.rest)
  body_counts b true = k
  body_counts b false = k

  pub clauses_count : (goal : Tree) (cs : List Clause) → AllCount n (map (clause_child p goal) cs)
  clauses_count goal [] = tt
  clauses_count goal (c ∷ cs) = (record { state = omega arith; catches = body_counts (instance p c).body (is_atom "true" (instance p c).body) }, clauses_count goal cs)
