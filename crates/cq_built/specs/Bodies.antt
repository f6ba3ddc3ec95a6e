-- A body that is converted part by part.
use Rattle.std.specs.Prelude.{◌≡◌, ℕ, ◌+◌, ◌*◌, ◌<◌, List, [], ◌∷◌, map, reverse, length, All, Option, Some, None, true, false, ⊤}
use Rattle.spec_numbers.specs.Texts.{Text}
use Rattle.spec_terms.specs.Term.{size}
use Rattle.spec_syntax.specs.Trees.{Tree, binary}
use Rattle.spec_builtins.specs.Bodies.{converted_body, is_control}
use Rattle.spec_builtins.specs.Kinds.{is_variable}
use Rattle.cq_term.specs.Texts.{text_of}
use Rattle.cq_term.specs.Meaning.{HeapTerm}
use Rattle.cq_term.specs.Trees.{tree, trees}
use Rattle.cq_built.specs.Sides.{HasSides}
use Rattle.cq_built.specs.declared.sides.Sides.{Sides}
use Rattle.cq_built.specs.declared.bodies.Task.{Task}
use Rattle.cq_built.specs.declared.bodies.Task.TheVariants as task

-- the term is a construct of these sides
pub record IsConstruct (texts : List Text) (ts : List HeapTerm) (id : ℕ) (s : Sides) : Type 0 where
  pub sides : HasSides ts id s
  pub control : is_control (text_of texts s.name) ≡ true
  pub known : s.name < length texts

-- but for a variable, it is stored as it is
abbrev pub IsPlain : Tree → Type 0
IsPlain t = is_variable t ≡ false → converted_body t ≡ t

-- ---- what is still to be done

-- a part is to be converted, or the two that were done last become the sides of a name
pub data Work : Type 0 where
  Part : Tree → Work
  Join : Text → Work

abbrev pub work_of : List Text → List HeapTerm → Task → Work
work_of texts ts (task.Part id) = Part (tree texts ts id)
work_of texts ts (task.Join name) = Join (text_of texts name)

abbrev pub works : List Text → List HeapTerm → List Task → List Work
works texts ts tasks = map (work_of texts ts) tasks

-- what is done then, the last first; None where two trees are wanting
abbrev pub joined : Text → List Tree → Option (List Tree)
joined f (right ∷ left ∷ done) = Some (binary f left right ∷ done)
joined f done = None

abbrev pub after : Work → Option (List Tree) → Option (List Tree)
after w None = None
after (Part t) (Some done) = Some (converted_body t ∷ done)
after (Join f) (Some done) = joined f done

-- the last is done first
abbrev pub after_all : List Work → Option (List Tree) → Option (List Tree)
after_all [] done = done
after_all (w ∷ ws) done = after w (after_all ws done)

-- what was done, the last first
abbrev pub done_trees : List Text → List HeapTerm → List ℕ → List Tree
done_trees texts ts ids = reverse (trees texts ts ids)

-- how much is to be done
abbrev pub weight : Work → ℕ
weight (Part t) = 2 * size t
weight (Join f) = 1

abbrev pub weights : List Work → ℕ
weights [] = 0
weights (w ∷ ws) = weight w + weights ws

-- ---- tasks on a heap

abbrev pub IsLiveTask : List Text → List HeapTerm → Task → Type 0
IsLiveTask texts ts (task.Part id) = id < length ts
IsLiveTask texts ts (task.Join name) = name < length texts

-- the tasks come to the tree of the whole, and all that they speak of is there
pub record IsUnderWay (texts : List Text) (ts : List HeapTerm) (whole : Tree) (tasks : List Task) (done : List ℕ) : Type 0 where
  pub leads : after_all (works texts ts tasks) (Some (done_trees texts ts done)) ≡ Some (whole ∷ [])
  pub tasks_live : All (IsLiveTask texts ts) tasks
  pub done_live : All (λ id. id < length ts) done

-- two are done where two are to be joined
abbrev pub CanJoin : Task → List ℕ → Type 0
CanJoin (task.Part id) done = ⊤
CanJoin (task.Join name) done = 1 < length done

-- from the tasks and what was done on one heap to those on another, behind a task
pub record Turns (texts : List Text) (ts : List HeapTerm) (t : Task) (tasks : List Task) (done : List ℕ) (us : List HeapTerm) (tasks' : List Task) (done' : List ℕ) : Type 0 where
  pub tasks_live : All (IsLiveTask texts us) tasks'
  pub done_live : All (λ id. id < length us) done'
  pub same : after_all (works texts us tasks') (Some (done_trees texts us done')) ≡ after_all (works texts ts tasks) (after (work_of texts ts t) (Some (done_trees texts ts done)))
  pub less : weights (works texts us tasks') < weights (works texts ts tasks) + weight (work_of texts ts t)
