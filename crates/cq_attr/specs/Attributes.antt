-- What is known of variables beside their bindings: which are numeric, and what waits for which.
use Rattle.std.specs.Prelude.{◌≡◌, ℕ, suc, ◌<◌, List, [], ◌∷◌, ◌++◌, map, filter, not, ◌==◌, Bool, Option, None, Some, Contains, if◌then◌else◌}
use Rattle.std.specs.List.{list_any, AllPairs}
use Rattle.cq_attr.specs.declared.susp.Susp.{Susp}

-- what waits, with its number and the variables that it waits for
pub record Waiting : Type 0 where
  pub number : ℕ
  pub watched : List ℕ
  pub susp : Susp

-- the numeric variables, each once; what waits, ascending by number; and the number that is given next
pub record Attributes : Type 0 where
  pub numeric : List ℕ
  pub waiting : List Waiting
  pub next : ℕ

-- the attributes now and at the live marks, the oldest first, and how many marks find their memory set aside
pub record AttrsValue : Type 0 where
  pub now : Attributes
  pub saved : List Attributes
  pub room : ℕ

abbrev pub nothing : Attributes
nothing = record { numeric = []; waiting = []; next = 0 }

-- ---- numeric variables

abbrev pub is_numeric : Attributes → ℕ → Bool
is_numeric a v = list_any (λ w. w == v) a.numeric

-- the variable is numeric too
abbrev pub marked : Attributes → ℕ → Attributes
marked a v = record a { numeric = if is_numeric a v then a.numeric else a.numeric ++ v ∷ [] }

-- ---- what waits

abbrev pub numbers : List Waiting → List ℕ
numbers ws = map (λ w. w.number) ws

abbrev pub Ascends : List ℕ → Type 0
Ascends ns = AllPairs ◌<◌ ns

-- this waits too, behind all that waits
abbrev pub suspended : Attributes → List ℕ → Susp → Attributes
suspended a vs susp = record a { waiting = a.waiting ++ record { number = a.next; watched = vs; susp = susp } ∷ []; next = suc a.next }

abbrev pub watching_more : ℕ → List ℕ → Waiting → Waiting
watching_more n vs w = if w.number == n then record w { watched = w.watched ++ vs } else w

-- what waits under the number waits for these variables too
abbrev pub watched_more : Attributes → ℕ → List ℕ → Attributes
watched_more a n vs = record a { waiting = map (watching_more n vs) a.waiting }

-- nothing waits under the number any more
abbrev pub without : Attributes → ℕ → Attributes
without a n = record a { waiting = filter (λ w. not (w.number == n)) a.waiting }

-- what waits under the number
abbrev pub find : List Waiting → ℕ → Option Susp
find [] n = None
find (w ∷ ws) n = if w.number == n then Some w.susp else find ws n

-- what waits under the number waits for the variable
pub record WaitsFor (a : Attributes) (n v : ℕ) : Type 0 where
  pub waiting : Waiting
  pub waits : Contains a.waiting waiting
  pub number : waiting.number ≡ n
  pub watches : Contains waiting.watched v

-- what waits under the number waits for one of the variables
pub record IsWokenBy (a : Attributes) (vs : List ℕ) (n : ℕ) : Type 0 where
  pub variable : ℕ
  pub is_new : Contains vs variable
  pub waits_for : WaitsFor a n variable
