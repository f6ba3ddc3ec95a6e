-- What is still to be written: jobs, and the pieces that they stand for.
use Rattle.std.specs.Prelude.{ℕ, zero, suc, ◌≡◌, ◌<◌, ◌≤◌, ◌+◌, Bool, true, false, List, [], ◌∷◌, ◌++◌, map, reverse, length, codes, bytes_eq, ⊤}
use Rattle.spec_numbers.specs.Texts.{Text}
use Rattle.spec_syntax.specs.Operators.{Ops}
use Rattle.spec_terms.specs.Term.{Terms, Var, Number, Name, Compound, one, more, named}
use Rattle.spec_syntax.specs.Writing.{InList, is_spaced, is_bare_argument}
use Rattle.spec_syntax.specs.Trees.{Tree}
use Rattle.spec_text.specs.Numbers.{number_text}
use Rattle.spec_text.specs.Pieces.{Piece, pieces, pieces_at, unless, placed, argument_pieces}
use Rattle.spec_text.specs.Texts.{name_text}
use Rattle.spec_text.specs.declared.writing.Style.{Style}
use Rattle.cq_term.specs.Texts.{text_of}
use Rattle.cq_term.specs.Meaning.{HeapTerm, at}
use Rattle.cq_term.specs.Names.{HasNamesBelow}
use Rattle.cq_term.specs.Shown.{arguments}
use Rattle.cq_write.specs.Spelled.{Spelled, Written, spelled, put_all}
use Rattle.cq_write.specs.declared.line.Manner.{Manner}
use Rattle.cq_write.specs.declared.jobs.Mark.{Mark}
use Rattle.cq_write.specs.declared.jobs.Mark.TheVariants as mark
use Rattle.cq_write.specs.declared.jobs.Word.{Word}
use Rattle.cq_write.specs.declared.jobs.Word.TheVariants as word
use Rattle.cq_write.specs.declared.jobs.Part.{Part}
use Rattle.cq_write.specs.declared.jobs.Part.TheVariants as part
use Rattle.cq_write.specs.declared.jobs.Job.{Job}
use Rattle.cq_write.specs.declared.jobs.Job.TheVariants as job
use Rattle.cq_write.specs.declared.shapes.Tail.{Tail}
use Rattle.cq_write.specs.declared.shapes.Tail.TheVariants as tail
use Rattle.cq_write.specs.declared.shapes.Shape.{Shape}
use Rattle.cq_write.specs.declared.shapes.Shape.TheVariants as shape

-- the terms that are written, and how
pub record Setting : Type 0 where
  pub style : Style
  -- the names of variables
  pub name : ℕ → Text
  pub ops : Ops
  -- the texts of names
  pub texts : List Text
  pub terms : List HeapTerm

-- the term of an id
abbrev pub at_id : Setting → ℕ → HeapTerm
at_id s id = at s.terms id

-- a term with the texts of its names
abbrev pub read : Setting → HeapTerm → Tree
read s t = named (text_of s.texts) t

-- the term of an id with the texts of its names
abbrev pub tree : Setting → ℕ → Tree
tree s id = read s (at s.terms id)

abbrev pub plain : Text → Spelled
plain text = record { text = text; manner = record { has_blanks = false; is_prefix = false } }

abbrev pub mark_text : Mark → Text
mark_text mark.Open = codes "("
mark_text mark.Close = codes ")"
mark_text mark.OpenList = codes "["
mark_text mark.CloseList = codes "]"
mark_text mark.OpenCurly = codes "{"
mark_text mark.CloseCurly = codes "}"
mark_text mark.Comma = codes ","
mark_text mark.Bar = codes "|"
mark_text mark.Minus = codes "-"

-- a name as it is written
abbrev pub spelled_name : Style → Text → Manner → Spelled
spelled_name style f manner = record { text = name_text style f; manner = manner }

-- an infix operator: the comma is never quoted and has no blanks
abbrev pub infix_word : Style → Bool → Text → Spelled
infix_word style true f = plain (codes ",")
infix_word style false f = record { text = name_text style f; manner = record { has_blanks = is_spaced f; is_prefix = false } }

-- the piece of a word
abbrev pub spelled_word : Setting → Word → Spelled
spelled_word s (word.Mark m) = plain (mark_text m)
spelled_word s (word.Name a) = plain (name_text s.style (text_of s.texts a))
spelled_word s (word.Prefix a) = record { text = name_text s.style (text_of s.texts a); manner = record { has_blanks = false; is_prefix = true } }
spelled_word s (word.Infix a) = infix_word s.style (bytes_eq (text_of s.texts a) (codes ",")) (text_of s.texts a)
spelled_word s (word.Variable v) = plain (s.name v.0)
spelled_word s (word.Numeral q) = plain (number_text q)

abbrev pub spelled_all : Setting → List Piece → List Spelled
spelled_all s ps = map (spelled s.style s.name) ps

-- the pieces of the arguments from the i-th on, counted from 0, with commas between them
abbrev pub pieces_from : Ops → ℕ → Terms Text → List Piece
pieces_from ops zero ts = argument_pieces ops ts
pieces_from ops (suc i) (one t) = []
pieces_from ops (suc i) (more t ts) = pieces_from ops i ts

abbrev pub arguments_from : Ops → ℕ → Tree → List Piece
arguments_from ops i (Var v) = []
arguments_from ops i (Number q) = []
arguments_from ops i (Name f) = []
arguments_from ops i (Compound f ts) = pieces_from ops i ts

-- the pieces of a part of a term
abbrev pub part_pieces : Setting → Part → List Piece
part_pieces s (part.Term id) = pieces s.ops (tree s id)
part_pieces s (part.Enclosed id) = unless false (pieces s.ops (tree s id))
part_pieces s (part.Rest id) = pieces_at s.ops InList (tree s id)
part_pieces s (part.Arguments id i) = arguments_from s.ops i (tree s id)

abbrev pub job_pieces : Setting → Job → List Spelled
job_pieces s (job.Word w) = spelled_word s w ∷ []
job_pieces s (job.Part p) = spelled_all s (part_pieces s p)

-- what is left, the first job first
abbrev pub all_pieces : Setting → List Job → List Spelled
all_pieces s [] = []
all_pieces s (j ∷ js) = job_pieces s j ++ all_pieces s js

-- the term is there, and its names have texts
pub record IsKnown (s : Setting) (id : ℕ) : Type 0 where
  pub live : id < length s.terms
  pub names : HasNamesBelow (length s.texts) (at s.terms id)

-- what a word names is there
abbrev pub IsReadyWord : Setting → Word → Type 0
IsReadyWord s (word.Mark m) = ⊤
IsReadyWord s (word.Name a) = a < length s.texts
IsReadyWord s (word.Prefix a) = a < length s.texts
IsReadyWord s (word.Infix a) = a < length s.texts
IsReadyWord s (word.Variable v) = ⊤
IsReadyWord s (word.Numeral q) = ⊤

abbrev pub IsReadyPart : Setting → Part → Type 0
IsReadyPart s (part.Term id) = IsKnown s id
IsReadyPart s (part.Enclosed id) = IsKnown s id
IsReadyPart s (part.Rest id) = IsKnown s id
IsReadyPart s (part.Arguments id i) = IsKnown s id × (i < length (arguments (at s.terms id)))

abbrev pub IsReady : Setting → Job → Type 0
IsReady s (job.Word w) = IsReadyWord s w
IsReady s (job.Part p) = IsReadyPart s p

abbrev pub AreReady : Setting → List Job → Type 0
AreReady s [] = ⊤
AreReady s (j ∷ js) = IsReady s j × AreReady s js

-- how many steps a term takes at most
abbrev mutual
  pub weight : HeapTerm → ℕ
  weight (Var v) = 3
  weight (Number q) = 3
  weight (Name a) = 3
  weight (Compound f ts) = 5 + total_weight ts

  pub total_weight : Terms ℕ → ℕ
  total_weight (one t) = weight t + 5
  total_weight (more t ts) = weight t + 5 + total_weight ts

abbrev pub weight_from : ℕ → Terms ℕ → ℕ
weight_from zero ts = total_weight ts
weight_from (suc i) (one t) = 0
weight_from (suc i) (more t ts) = weight_from i ts

abbrev pub arguments_weight : ℕ → HeapTerm → ℕ
arguments_weight i (Var v) = 0
arguments_weight i (Number q) = 0
arguments_weight i (Name a) = 0
arguments_weight i (Compound f ts) = weight_from i ts

abbrev pub part_weight : Setting → Part → ℕ
part_weight s (part.Term id) = weight (at s.terms id)
part_weight s (part.Enclosed id) = weight (at s.terms id) + 3
part_weight s (part.Rest id) = weight (at s.terms id) + 6
part_weight s (part.Arguments id i) = arguments_weight i (at s.terms id) + 1

abbrev pub job_weight : Setting → Job → ℕ
job_weight s (job.Word w) = 1
job_weight s (job.Part p) = part_weight s p

abbrev pub jobs_weight : Setting → List Job → ℕ
jobs_weight s [] = 0
jobs_weight s (j ∷ js) = job_weight s j + jobs_weight s js

-- the jobs do what the part asks for, in fewer steps
pub record IsExpansion (s : Setting) (p : Part) (js : List Job) : Type 0 where
  pub pieces : all_pieces s js ≡ spelled_all s (part_pieces s p)
  pub ready : AreReady s js
  pub lighter : jobs_weight s js < part_weight s p

-- Jobs that are begun: these pieces were written, and these jobs are left.
pub record IsBegun (s : Setting) (ks : List Job) (ws : List Spelled) (js : List Job) : Type 0 where
  pub pieces : ws ++ all_pieces s js ≡ all_pieces s ks
  pub ready : AreReady s ks → AreReady s js
  pub light : jobs_weight s js ≤ jobs_weight s ks

-- the jobs are begun: their first pieces are in the line, and what is left of them came to the stack, the first one on top
abbrev pub Begins : Setting → List Job → Written → Written → List Job → List Job → Type 0
Begins s ks before after old new = (ws : List Spelled) × (js : List Job) × (after ≡ put_all before ws) × (new ≡ old ++ reverse js) × IsBegun s ks ws js

-- the jobs of a part are begun
abbrev pub Expands : Setting → Part → Written → Written → List Job → List Job → Type 0
Expands s p before after old new = (ks : List Job) × IsExpansion s p ks × Begins s ks before after old new

-- the job of one word
abbrev pub one_word : Word → List Job
one_word w = job.Word w ∷ []

-- the job of a term as an operand, in parentheses where it does not stand bare
pub record IsOperand (s : Setting) (bare : Bool) (id : ℕ) (j : Job) : Type 0 where
  pub pieces : job_pieces s j ≡ spelled_all s (unless bare (pieces s.ops (tree s id)))
  pub ready : IsReady s j
  pub light : job_weight s j ≤ weight (at s.terms id) + 3

-- the job of an operand is begun
abbrev pub BeginsOperand : Setting → Bool → ℕ → Written → Written → List Job → List Job → Type 0
BeginsOperand s bare id before after old new = (j : Job) × IsOperand s bare id j × Begins s (j ∷ []) before after old new

-- a name and the arguments of a term, in parentheses
abbrev pub functional_jobs : ℕ → ℕ → List Job
functional_jobs id f = job.Word (word.Name f) ∷ job.Word (word.Mark mark.Open) ∷ job.Part (part.Arguments id 0) ∷ job.Word (word.Mark mark.Close) ∷ []

-- a list's cell behind this mark, with the job of its first element
abbrev pub cell_jobs : Mark → Job → ℕ → List Job
cell_jobs opens j rest = job.Word (word.Mark opens) ∷ j ∷ job.Part (part.Rest rest) ∷ []

-- the jobs of a list's cell are begun: this mark, the first element, in parentheses where it does not stand bare, and the rest
abbrev pub PutsCell : Setting → Mark → ℕ → ℕ → Written → Written → List Job → List Job → Type 0
PutsCell s opens element rest before after old new =
    (j : Job) × IsOperand s (is_bare_argument s.ops (tree s element)) element j × Begins s (cell_jobs opens j rest) before after old new

-- what the shape says of a term
abbrev pub HasShape : Setting → HeapTerm → Shape → Type 0
HasShape s t (shape.Variable v) = t ≡ Var v.0
HasShape s t (shape.Number q) = t ≡ Number q
HasShape s t (shape.Name a) = (t ≡ Name a) × (a < length s.texts)
HasShape s t (shape.Unary f a) = (t ≡ Compound f (one (at s.terms a))) × (f < length s.texts) × IsKnown s a
HasShape s t (shape.Binary f a b) = (t ≡ Compound f (more (at s.terms a) (one (at s.terms b)))) × (f < length s.texts) × IsKnown s a × IsKnown s b
HasShape s t (shape.Many f) = (a : HeapTerm) × (b : HeapTerm) × (cs : Terms ℕ) × (t ≡ Compound f (more a (more b cs))) × (f < length s.texts)

-- what a term is behind the first elements of a list
abbrev pub IsTail : Setting → HeapTerm → Tail → Type 0
IsTail s t tail.End = (a : ℕ) × (t ≡ Name a) × (bytes_eq (text_of s.texts a) (codes "[]") ≡ true)
IsTail s t (tail.Cell a b) = (f : ℕ) × (t ≡ Compound f (more (at s.terms a) (one (at s.terms b)))) × (bytes_eq (text_of s.texts f) (codes ".") ≡ true) × IsKnown s a × IsKnown s b
IsTail s t tail.Other = pieces_at s.ops InList (read s t) ≡ placed s.ops InList (read s t) (pieces s.ops (read s t))
