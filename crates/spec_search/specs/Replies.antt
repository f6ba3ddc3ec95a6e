-- What a selected goal comes to: an error, a throw, an overflow, children, or a question to the linear constraints.
use Rattle.std.specs.Prelude.{ℕ, ◌+◌, suc, List, [], ◌∷◌, ◌++◌, Bool, if◌then◌else◌, ◌||◌, ◌==◌, map, length, Option, Some, None}
use Rattle.std.specs.List.{list_any, position_or_len}
use Rattle.spec_numbers.specs.Rational.{ℚ}
use Rattle.spec_numbers.specs.Sums.{Monomial}
use Rattle.cq_frac.specs.declared.Pair.{Pair}
use Rattle.spec_linear.specs.Form.{with_product}
use Rattle.spec_linear.specs.Solution.{Constraint}
use Rattle.spec_numbers.specs.Texts.{Text}
use Rattle.spec_terms.specs.Term.{apply}
use Rattle.spec_terms.specs.Unifier.{Equation}
use Rattle.spec_terms.specs.Variables.{numbered_from}
use Rattle.spec_syntax.specs.Trees.{Tree}
use Rattle.spec_builtins.specs.Alternatives.{Solutions, Faults, Offers, Alternative}
use Rattle.spec_branch.specs.Branch.{Asleep, Frozen, State, Copied, Item, Pending, Unsettled, Branch, no_work}
use Rattle.spec_search.specs.Database.{Database, Clause}
use Rattle.spec_search.specs.Builtins.{Side}

-- where a goal is selected: the database, the state of its branch, the items behind it, the height that a cut in it
-- goes back to, and how many branches are behind its own
pub record Place : Type 0 where
  pub database : Database
  pub state : State
  pub rest : List Item
  pub cut : ℕ
  pub height : ℕ

-- the children in order, how many older branches are kept where it cuts, and the database and the output then
pub record Made : Type 0 where
  pub children : List Branch
  pub keeps : Option ℕ
  pub database : Database
  pub output : Text

-- what a selected goal comes to, before the linear constraints are asked
pub data Reply : Type 0 where
  -- a ball error(E,PI), where PI is the indicator of the goal
  Raises : Tree → Reply
  -- a copy of the term is thrown as a ball
  Throws : Tree → Reply
  -- the child of a copy of the term
  WithCopy : Tree → (Copied → Branch) → Reply
  -- an operation of the arithmetic refuses its two values
  Overflows : Pair → Reply
  Makes : Made → Reply
  -- a call of these clauses
  Calls : List Clause → Reply
  -- the child, where each member is entailed
  IfEntailed : List Tree → Branch → Reply
  -- the child of the expression's least or greatest value, where there is one
  WithExtent : Side → Tree → (ℚ → Branch) → Reply

-- ---- children

-- a child with these items and this state, and work to do
abbrev pub child : List Item → State → Pending → Branch
child items st work = record { items = items; state = st; phase = Unsettled work }

-- children and nothing else
abbrev pub made : Place → List Branch → Made
made p bs = record { children = bs; keeps = None; database = p.database; output = [] }

-- these branches take the place of the first one
abbrev pub makes : Place → List Branch → Reply
makes p bs = Makes (made p bs)

-- one child, with these items
abbrev pub goes_on : Place → List Item → Reply
goes_on p items = makes p (child items p.state no_work ∷ [])

-- the child that goes on behind the goal
abbrev pub onward : Place → List Branch
onward p = child p.rest p.state no_work ∷ []

-- the goal goes on, or has no child
abbrev pub succeeds_if : Bool → Place → Reply
succeeds_if b p = if b then makes p (onward p) else makes p []

-- the goal goes on with another database
abbrev pub changes : Place → Database → Reply
changes p db = Makes (record (made p (onward p)) { database = db })

-- the goal goes on, with output
abbrev pub outputs : Place → Text → Reply
outputs p text = Makes (record (made p (onward p)) { output = text })

-- these equations are to be settled
abbrev pub with_equations : List (Equation Text) → Pending
with_equations es = record no_work { equations = es }

-- the goal goes on once these pairs are unified
abbrev pub unifies : Place → List (Equation Text) → Reply
unifies p es = makes p (child p.rest p.state (with_equations es) ∷ [])

-- an error, or what follows
abbrev pub unless_error : Option Tree → Reply → Reply
unless_error None r = r
unless_error (Some e) r = Raises e

-- the state with n more variables
abbrev pub with_new : ℕ → State → State
with_new n st = record st { fresh = st.fresh + n }

-- the branch of an alternative: its new variables, and its equations
abbrev pub alternative_child : Place → Alternative → Branch
alternative_child p a = child p.rest (with_new a.new p.state) (with_equations a.equations)

-- an error, or the children of all alternatives
abbrev pub offers : Place → Solutions → Reply
offers p (Faults e) = Raises e
offers p (Offers ways) = makes p (map (alternative_child p) ways)

-- ---- sleepers

-- one more sleeper, with the next number
abbrev pub suspended : State → Asleep → State
suspended st a = record st {
  sleepers = st.sleepers ++ record { number = st.next_sleeper; asleep = a } ∷ [];
  next_sleeper = suc st.next_sleeper;
}

-- the state with these goals suspended, in order
abbrev pub all_suspended : State → List Asleep → State
all_suspended st [] = st
all_suspended st (a ∷ more) = all_suspended (suspended st a) more

-- ---- copies that are put into a state

-- the number from n on of a variable, by its place among these
abbrev pub place_from : ℕ → List ℕ → ℕ → ℕ
place_from n vs v = n + position_or_len (λ w. w == v) vs

-- products with their variables numbered from n on, in ascending order
abbrev pub placed_products : ℕ → List ℕ → List Monomial → List Monomial
placed_products n vs [] = []
placed_products n vs (m ∷ s) =
    with_product (record { variable = place_from n vs m.variable; factor = m.factor }) (placed_products n vs s)

-- a constraint of a copy, over variables that are numbered from n on
abbrev pub placed_constraint : ℕ → List ℕ → Constraint → Constraint
placed_constraint n vs c =
    record c { form = record { products = placed_products n vs c.form.products; constant = c.form.constant } }

-- a suspended goal of a copy, over variables that are numbered from n on
abbrev pub placed_asleep : ℕ → List ℕ → Asleep → Asleep
placed_asleep n vs (Frozen x g) = Frozen (apply (numbered_from n vs) x) (apply (numbered_from n vs) g)

-- the terms of copies in order, what they carry that is still to be told, and the state with their variables
pub record Landed : Type 0 where
  pub state : State
  pub terms : List Tree
  pub rows : List Constraint
  pub told : List Tree

-- the state with a copy's variables and sleepers
abbrev pub state_with : State → Copied → State
state_with st c =
    all_suspended
    (record st {
      fresh = st.fresh + length c.variables;
      numeric = λ v. st.numeric v || list_any (λ w. place_from st.fresh c.variables w == v) c.numeric;
    })
    (map (placed_asleep st.fresh c.variables) c.asleep)

-- a copy's term under the next variables
abbrev pub landed_term : State → Copied → Tree
landed_term st c = apply (numbered_from st.fresh c.variables) c.term

-- a copy landed in a state, before others
abbrev pub landed_onto : State → Copied → Landed → Landed
landed_onto st c others = record others {
  terms = landed_term st c ∷ others.terms;
  rows = map (placed_constraint st.fresh c.variables) c.rows ++ others.rows;
  told = map (apply (numbered_from st.fresh c.variables)) c.told ++ others.told;
}

-- copies landed one after another
abbrev pub landed : State → List Copied → Landed
landed st [] = record { state = st; terms = []; rows = []; told = [] }
landed st (c ∷ cs) = landed_onto st c (landed (state_with st c) cs)

-- a child of this state in which t is unified with what the terms of landed copies make
abbrev pub landed_child : List Item → Landed → Equation Text → Branch
landed_child items l e = child items l.state (record no_work { equations = e ∷ []; rows = l.rows; told = l.told })
