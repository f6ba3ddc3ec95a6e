-- What goals come to is sound where the branch of the goal is.
use Rattle.std.proofs.Common.{◌≡◌, ℕ, ◌+◌, List, [], ◌∷◌, Option, Some, None, Bool, true, false, map, drop, refl}
use Rattle.std.specs.Prelude.{◌||◌, if◌then◌else◌, bytes_eq, codes, ⊤}
use Rattle.spec_numbers.specs.Rational.{ℚ}
use Rattle.spec_numbers.specs.Order.{cmp_ℚ}
use Rattle.spec_terms.specs.Operations.{Evaluated, Value, Fails, Overflows}
use Rattle.spec_terms.specs.Arithmetic.{evaluate}
use Rattle.spec_numbers.specs.Texts.{Text}
use Rattle.spec_terms.specs.Term.{Var, Number, Name, Compound, one, more}
use Rattle.spec_terms.specs.Unifier.{Equation}
use Rattle.spec_syntax.specs.Trees.{Tree}
use Rattle.spec_builtins.specs.Built.{atom, compound1, compound2, Indicator, indicator_of, is_atom}
use Rattle.spec_builtins.specs.Kinds.{is_list, is_partial}
use Rattle.spec_builtins.specs.Bodies.{is_body}
use Rattle.spec_builtins.specs.Alternatives.{◌≐◌, Solutions, Faults, Offers, Comparison, allows}
use Rattle.spec_builtins.specs.Clauses.{HeadBody, variable_count, head_body, first_error, error_if, clause_goal_error, not_readable, declaration_error, declarations, use_module_error}
use Rattle.spec_builtins.specs.Operators.{operator_error, operator_names, operators_after}
use Rattle.spec_text.specs.Written.{text_within}
use Rattle.spec_builtins.specs.Terms.{passes, order_row, functor_row, arg_row, univ_row, arguments}
use Rattle.spec_builtins.specs.Texts.{atom_length_row, atom_list_row, char_code_row, number_codes_row, atom_concat_row, sub_atom_row}
use Rattle.spec_branch.specs.Checks.{constraint_error, question_error, expression_error, members, halves, Halves}
use Rattle.spec_branch.specs.Branch.{State, Copied, Item, Goal, CutFail, CatchEnd, Collect, Gathered, Frozen, Branch, Pending, no_work}
use Rattle.spec_search.specs.Database.{Database, Clause, Procedure, Dynamic, procedure_of, clause_added, all_declared}
use Rattle.spec_search.specs.Builtins as builtin
use Rattle.spec_search.specs.Builtins.{Builtin, Side, builtin_of, is_built_in}
use Rattle.spec_search.specs.Replies as reply
use Rattle.spec_search.specs.Replies.{Place, Reply, Raises, Throws, WithCopy, Makes, Calls, IfEntailed, WithExtent, Landed, landed, landed_term, landed_child, child, makes, onward, goes_on, changes, outputs, offers, succeeds_if, unless_error, with_new, with_equations, suspended, alternative_child}
use Rattle.spec_search.specs.Control.{put, call_of, if_then_items, first_items, with_more, called, call_row, throw_row, findall_row, copy_row, clause_child, clause_items, clause_state, clause_work, instance, calls}
use Rattle.spec_search.specs.Changes.{is_value, compare_right, compare_values, change_error, is_private, clause_match, clauses_for}
use Rattle.spec_search.specs.Constraints.{tell_or_split, freeze_row}
use Rattle.spec_search.specs.Rows.{nth, builtin_reply, reply_by, reply_of}
use Rattle.spec_existence.specs.Sound.{IsSoundState, CarriesNoRows, AreSoundItems, IsSoundBall, IsSoundBranch, AreSound}
use Rattle.spec_existence.proofs.Copies.{new_sound, suspended_sound, landed_sound, landed_rows}

-- the children are sound, whatever copy or value they are made of
abbrev pub IsSoundReply : Reply → Type 0
IsSoundReply (Raises e) = ⊤
IsSoundReply (Throws t) = ⊤
IsSoundReply (WithCopy t f) = (c : Copied) → CarriesNoRows c → IsSoundBranch (f c)
IsSoundReply (reply.Overflows pair) = ⊤
IsSoundReply (Makes m) = AreSound m.children
IsSoundReply (Calls cs) = ⊤
IsSoundReply (IfEntailed ms b) = IsSoundBranch b
IsSoundReply (WithExtent side e f) = (q : ℚ) → IsSoundBranch (f q)

-- so that a reply can be told from what it asks for
pub record IsSound (r : Reply) : Type 0 where
  pub sound : IsSoundReply r

either : (b : Bool) {x y : Reply} → IsSound x → IsSound y → IsSound (if b then x else y)
either true h k = h
either false h k = k

unless_one : (e : Option Tree) {x : Reply} → IsSound x → IsSound (unless_error e x)
unless_one None h = h
unless_one (Some e) h = record { sound = tt }

pub child_sound : (items : List Item) (st : State) (w : Pending) → AreSoundItems items → IsSoundState st → (w.rows ≡ [])
    → IsSoundBall w.ball → IsSoundBranch (child items st w)
child_sound items st w i h r b = record { items = i; state = h; phase = (r, b) }

mapped : {A : Type 0} (f : A → Branch) → ((x : A) → IsSoundBranch (f x)) → (xs : List A) → AreSound (map f xs)
mapped f h [] = tt
mapped f h (x ∷ xs) = (h x, mapped f h xs)

pub landed_child_sound : (items : List Item) (st : State) (c : Copied) (e : Equation Text) → AreSoundItems items → IsSoundState st → CarriesNoRows c
    → IsSoundBranch (landed_child items (landed st (c ∷ [])) e)
landed_child_sound items st c e i h n =
    child_sound items (landed st (c ∷ [])).state (record no_work { equations = e ∷ []; rows = (landed st (c ∷ [])).rows; told = (landed st (c ∷ [])).told })
    i (landed_sound st (c ∷ []) h) (landed_rows st (c ∷ []) (n, tt)) tt

module _ (p : Place) (state : IsSoundState p.state) (rest : AreSoundItems p.rest) where
  -- the branch behind the goal, with this work
  behind : (w : Pending) → (w.rows ≡ []) → IsSoundBall w.ball → IsSoundBranch (child p.rest p.state w)
  behind w r b = child_sound p.rest p.state w rest state r b

  plain : IsSoundBranch (child p.rest p.state no_work)
  plain = behind no_work refl tt

  goes : (items : List Item) → AreSoundItems items → IsSound (goes_on p items)
  goes items i = record { sound = (child_sound items p.state no_work i state refl tt, tt) }

  two : (x y : List Item) → AreSoundItems x → AreSoundItems y → IsSound (makes p (child x p.state no_work ∷ child y p.state no_work ∷ []))
  two x y i j = record { sound = (child_sound x p.state no_work i state refl tt, (child_sound y p.state no_work j state refl tt, tt)) }

  works : (w : Pending) → (w.rows ≡ []) → IsSoundBall w.ball → IsSound (makes p (child p.rest p.state w ∷ []))
  works w r b = record { sound = (behind w r b, tt) }

  succeeds : (b : Bool) → IsSound (succeeds_if b p)
  succeeds b = either b (record { sound = (plain, tt) }) (record { sound = tt })

  changed : (db : Database) → IsSound (changes p db)
  changed db = record { sound = (plain, tt) }

  written : (text : Text) → IsSound (outputs p text)
  written text = record { sound = (plain, tt) }

  offered : (x : Solutions) → IsSound (offers p x)
  offered (Faults e) = record { sound = tt }
  offered (Offers ways) = record {
    sound = mapped (alternative_child p) (λ x. child_sound p.rest (with_new x.new p.state) (with_equations x.equations) rest (new_sound x.new p.state state) refl tt) ways;
  }

  -- ---- control

  called_sound : (g : Tree) → IsSound (called p g)
  called_sound g = either (is_body g) (goes (Goal g p.height ∷ p.rest) (tt, rest)) (record { sound = tt })

  call_sound : (g : Tree) (ts : List Tree) → IsSound (call_row p g ts)
  call_sound (Var v) ts = record { sound = tt }
  call_sound (Number q) ts = record { sound = tt }
  call_sound (Name f) ts = called_sound (with_more (Name f) ts)
  call_sound (Compound f us) ts = called_sound (with_more (Compound f us) ts)

  throw_sound : (t : Tree) → IsSound (throw_row p t)
  throw_sound (Var v) = record { sound = tt }
  throw_sound (Number q) = record { sound = tt }
  throw_sound (Name f) = record { sound = tt }
  throw_sound (Compound f us) = record { sound = tt }

  findall_sound : (t g l : Tree) → IsSound (findall_row p t g l)
  findall_sound t g l =
      either (is_partial l || is_list l) (two (call_of g ∷ Collect p.height t ∷ p.rest) (Gathered l [] ∷ p.rest) (tt, (tt, rest)) (tt, rest)) (record { sound = tt })

  first_if : (b : Bool) (c g t : Tree) → AreSoundItems (if b then if_then_items p (p.height + 1) c g else Goal t p.cut ∷ p.rest)
  first_if true c g t = (tt, (tt, (tt, rest)))
  first_if false c g t = (tt, rest)

  first_sound : (t : Tree) → AreSoundItems (first_items p t)
  first_sound (Var v) = (tt, rest)
  first_sound (Number q) = (tt, rest)
  first_sound (Name f) = (tt, rest)
  first_sound (Compound f (one t)) = (tt, rest)
  first_sound (Compound f (more c (one t))) = first_if (bytes_eq f (codes "->")) c t (Compound f (more c (one t)))
  first_sound (Compound f (more c (more t ts))) = (tt, rest)

  copy_sound : (a b : Tree) → IsSound (copy_row p a b)
  copy_sound a b = record { sound = λ c n. landed_child_sound p.rest p.state c (b ≐ landed_term p.state c) rest state n }

  -- ---- arithmetic, clauses, constraints

  is_sound : (x : Tree) (v : Evaluated) → IsSound (is_value p x v)
  is_sound x (Value q) = works (with_equations ((x ≐ Number q) ∷ [])) refl tt
  is_sound x (Fails e) = record { sound = tt }
  is_sound x (Overflows pair) = record { sound = tt }

  right_sound : (c : Comparison) (v : ℚ) (w : Evaluated) → IsSound (compare_right p c v w)
  right_sound c v (Value w) = succeeds (allows c (cmp_ℚ v w))
  right_sound c v (Fails e) = record { sound = tt }
  right_sound c v (Overflows pair) = record { sound = tt }

  compare_sound : (c : Comparison) (v w : Evaluated) → IsSound (compare_values p c v w)
  compare_sound c (Value v) w = right_sound c v w
  compare_sound c (Fails e) w = record { sound = tt }
  compare_sound c (Overflows pair) w = record { sound = tt }

  one_match : (removes : Clause → Option ℕ) (asked : HeadBody) (c : Clause) → IsSoundBranch (clause_match p removes asked c)
  one_match removes asked c = record { items = rest; state = new_sound (variable_count c.parts) p.state state; phase = (refl, tt) }

  matches : (removes : Clause → Option ℕ) (asked : HeadBody) (cs : List Clause) → IsSound (makes p (map (clause_match p removes asked) cs))
  matches removes asked cs = record { sound = mapped (clause_match p removes asked) (one_match removes asked) cs }

  freeze_sound : (x g : Tree) → IsSound (freeze_row p x g)
  freeze_sound (Var v) g = record {
    sound = (child_sound p.rest (suspended p.state (Frozen (Var v) g)) no_work rest (suspended_sound p.state (Frozen (Var v) g) state) refl tt, tt);
  }
  freeze_sound (Number q) g = goes (call_of g ∷ p.rest) (tt, rest)
  freeze_sound (Name f) g = goes (call_of g ∷ p.rest) (tt, rest)
  freeze_sound (Compound f us) g = goes (call_of g ∷ p.rest) (tt, rest)

  split_sound : (c : Tree) (x : Option Halves) → IsSound (tell_or_split p c x)
  split_sound c None = works (record no_work { told = members c }) refl tt
  split_sound c (Some h) = two (put (compound1 "{}" h.left) p.cut ∷ p.rest) (put (compound1 "{}" h.right) p.cut ∷ p.rest) (tt, rest) (tt, rest)

  asked_sound : (ms : List Tree) → IsSound (IfEntailed ms (child p.rest p.state no_work))
  asked_sound ms = record { sound = plain }

  extent_sound : (side : Side) (e : Tree) (w : ℚ → Pending) → ((q : ℚ) → (w q).rows ≡ []) → ((q : ℚ) → IsSoundBall (w q).ball)
      → IsSound (WithExtent side e (λ q. child p.rest p.state (w q)))
  extent_sound side e w r b = record { sound = λ q. behind (w q) (r q) (b q) }

  procedure_sound : (i : Indicator) (x : Option Procedure) → IsSound (calls i x)
  procedure_sound i None = record { sound = tt }
  procedure_sound i (Some q) = record { sound = tt }

  -- ---- all rows

  row_sound : (x : Builtin) (ts : List Tree) → IsSound (builtin_reply p x ts)
  row_sound builtin.True ts = works no_work refl tt
  row_sound builtin.Fail ts = record { sound = tt }
  row_sound builtin.And ts = goes (put (nth ts 0) p.cut ∷ put (nth ts 1) p.cut ∷ p.rest) (tt, (tt, rest))
  row_sound builtin.Or ts = two (first_items p (nth ts 0)) (put (nth ts 1) p.cut ∷ p.rest) (first_sound (nth ts 0)) (tt, rest)
  row_sound builtin.IfThen ts = goes (if_then_items p p.height (nth ts 0) (nth ts 1)) (tt, (tt, (tt, rest)))
  row_sound builtin.Cut ts = record { sound = (plain, tt) }
  row_sound builtin.Not ts = two (put (nth ts 0) (p.height + 1) ∷ CutFail p.height ∷ p.rest) p.rest (tt, (tt, rest)) rest
  row_sound builtin.Call ts = call_sound (nth ts 0) (drop 1 ts)
  row_sound builtin.Once ts = goes (if_then_items p p.height (nth ts 0) (atom "true")) (tt, (tt, (tt, rest)))
  row_sound builtin.Catch ts = goes (call_of (nth ts 0) ∷ CatchEnd p.height p.state (nth ts 1) (nth ts 2) ∷ p.rest) (tt, (state, rest))
  row_sound builtin.Throw ts = throw_sound (nth ts 0)
  row_sound builtin.Findall ts = findall_sound (nth ts 0) (nth ts 1) (nth ts 2)
  row_sound builtin.Unify ts = works (with_equations ((nth ts 0 ≐ nth ts 1) ∷ [])) refl tt
  row_sound builtin.NotUnify ts = goes (put (compound1 "\\+" (compound2 "=" (nth ts 0) (nth ts 1))) p.cut ∷ p.rest) (tt, rest)
  row_sound (builtin.Order c) ts = offered (order_row c (nth ts 0) (nth ts 1))
  row_sound (builtin.Test x) ts = succeeds (passes x (nth ts 0))
  row_sound builtin.Functor ts = offered (functor_row p.state.fresh (nth ts 0) (nth ts 1) (nth ts 2))
  row_sound builtin.Arg ts = offered (arg_row (nth ts 0) (nth ts 1) (nth ts 2))
  row_sound builtin.Univ ts = offered (univ_row (nth ts 0) (nth ts 1))
  row_sound builtin.CopyTerm ts = copy_sound (nth ts 0) (nth ts 1)
  row_sound builtin.AtomLength ts = offered (atom_length_row (nth ts 0) (nth ts 1))
  row_sound builtin.CharCode ts = offered (char_code_row (nth ts 0) (nth ts 1))
  row_sound builtin.NumberCodes ts = offered (number_codes_row (nth ts 0) (nth ts 1))
  row_sound builtin.AtomConcat ts = offered (atom_concat_row (nth ts 0) (nth ts 1) (nth ts 2))
  row_sound builtin.SubAtom ts = offered (sub_atom_row (nth ts 0) (nth ts 1) (nth ts 2) (nth ts 3) (nth ts 4))
  row_sound (builtin.AtomList x) ts = offered (atom_list_row x (nth ts 0) (nth ts 1))
  row_sound builtin.Is ts = is_sound (nth ts 0) (evaluate (nth ts 1))
  row_sound (builtin.Compare c) ts = compare_sound c (evaluate (nth ts 0)) (evaluate (nth ts 1))
  row_sound (builtin.Assert end) ts = unless_one (change_error p.database (nth ts 0)) (changed (clause_added end Dynamic (head_body (nth ts 0)) p.database))
  row_sound builtin.Retract ts =
      let c = head_body (nth ts 0) in
      unless_one (change_error p.database (nth ts 0)) (matches (λ d. Some d.number) c (clauses_for p c.head))
  row_sound builtin.ClauseGoal ts =
      let i = indicator_of (nth ts 0) in
      unless_one (first_error (clause_goal_error (nth ts 0) (nth ts 1) ∷ error_if (is_private p.database i) (not_readable i) ∷ []))
      (matches (λ c. None) (record { head = nth ts 0; body = nth ts 1 }) (clauses_for p (nth ts 0)))
  row_sound builtin.DynamicGoal ts = unless_one (declaration_error is_built_in (nth ts 0)) (changed (all_declared (declarations (nth ts 0)) p.database))
  row_sound builtin.Discontiguous ts = unless_one (declaration_error is_built_in (nth ts 0)) (goes p.rest rest)
  row_sound builtin.Initialization ts = goes (put (compound1 "once" (nth ts 0)) p.cut ∷ p.rest) (tt, rest)
  row_sound builtin.UseModule ts = unless_one (use_module_error (nth ts 0)) (goes p.rest rest)
  row_sound builtin.Op ts =
      unless_one (operator_error p.database.operators (nth ts 0) (nth ts 1) (nth ts 2))
      (changed (record p.database { operators = operators_after p.database.operators (nth ts 0) (nth ts 1) (operator_names (nth ts 2)) }))
  row_sound (builtin.Write x) ts = written (text_within x p.database.operators [] 1200 (nth ts 0))
  row_sound builtin.Newline ts = written (10 ∷ [])
  row_sound builtin.Curly ts = unless_one (constraint_error (nth ts 0)) (split_sound (nth ts 0) (halves (nth ts 0)))
  row_sound builtin.Entailed ts = unless_one (question_error (nth ts 0)) (asked_sound (members (nth ts 0)))
  row_sound builtin.Freeze ts = freeze_sound (nth ts 0) (nth ts 1)
  row_sound (builtin.Extent x) ts =
      unless_one (expression_error (nth ts 0))
      (extent_sound x (nth ts 0) (λ q. with_equations ((nth ts 1 ≐ Number q) ∷ [])) (λ q. refl) (λ q. tt))
  row_sound (builtin.Optimum x) ts =
      unless_one (expression_error (nth ts 0))
      (extent_sound x (nth ts 0) (λ q. record no_work { told = compound2 "=" (nth ts 0) (Number q) ∷ [] }) (λ q. refl) (λ q. tt))

  reply_by_sound : (t : Tree) (x : Option Builtin) → IsSound (reply_by p t x)
  reply_by_sound t None = procedure_sound (indicator_of t) (procedure_of p.database (indicator_of t))
  reply_by_sound t (Some x) = row_sound x (arguments t)

  whole_sound : (t : Tree) → IsSound (reply_of p t)
  whole_sound (Var v) = record { sound = tt }
  whole_sound (Number q) = record { sound = tt }
  whole_sound (Name a) = reply_by_sound (Name a) (builtin_of (indicator_of (Name a)))
  whole_sound (Compound f ts) = reply_by_sound (Compound f ts) (builtin_of (indicator_of (Compound f ts)))

  pub reply_sound : (t : Tree) → IsSoundReply (reply_of p t)
  reply_sound t = (whole_sound t).sound

  -- ---- clauses of a call

  body_sound : (b : Bool) (i : Item) → AreSoundItems (i ∷ []) → AreSoundItems (if b then p.rest else i ∷ p.rest)
  body_sound true i h = rest
  body_sound false i h = (h.0, rest)

  pub clause_sound : (t : Tree) (c : Clause) → IsSoundBranch (clause_child p t c)
  clause_sound t c =
      child_sound (clause_items p c) (clause_state p c) (clause_work p t c)
      (body_sound (is_atom "true" (instance p c).body) (put (instance p c).body p.height) (tt, tt)) (new_sound (variable_count c.parts) p.state state) refl tt

  pub clauses_sound : (t : Tree) (cs : List Clause) → AreSound (map (clause_child p t) cs)
  clauses_sound t cs = mapped (clause_child p t) (clause_sound t) cs
