-- Why a change or a reading is refused: an error of the goal comes first, then that of a procedure that is not open to it.
use Rattle.std.proofs.Common.{◌≡◌, ◌∙◌, ℕ, List, [], ◌∷◌, Bool, true, false, ◌||◌, Option, Some, None, refl, sym, ap, ap₂}
use Rattle.std.specs.Option.{option_map}
use Rattle.spec_numbers.specs.Texts.{Text}
use Rattle.spec_syntax.specs.Trees.{Tree}
use Rattle.spec_builtins.specs.Built.{Indicator}
use Rattle.spec_builtins.specs.Built as built
use Rattle.spec_builtins.specs.Clauses.{HeadBody, head_body, first_error, error_if}
use Rattle.spec_search.specs.Builtins.{is_built_in}
use Rattle.spec_search.specs.Changes.{is_private}
use Rattle.spec_search.specs.Database.{Database, Procedure, Kind, procedure_of, is_static, is_static_kind}
use Rattle.cq_term.specs.Meaning.{HeapTerm}
use Rattle.cq_term.specs.Trees.{tree}
use Rattle.cq_term.specs.declared.names.Pred.{Pred}
use Rattle.cq_built.specs.Errors.{indicator_of}
use Rattle.cq_built.specs.declared.errors.BuiltinFault.{BuiltinFault}
use Rattle.cq_built.specs.declared.errors.BuiltinFault.TheVariants as builtin_fault
use Rattle.cq_built.specs.Faults.{IsFound}
use Rattle.cq_goals.specs.Clauses.{AreParts, IsOf}
use Rattle.cq_goals.specs.declared.declarations.clauses.ClauseParts.{ClauseParts}

module _ (own : Option Tree) (closed : Indicator → Bool) (refusal : Indicator → Tree) where
  abbrev in_turn : Indicator → Option Tree
  in_turn i = first_error (own ∷ error_if (closed i) (refusal i) ∷ [])

  -- the goal's own error
  pub own_first : (e : Tree) (i : Indicator) → own ≡ Some e → in_turn i ≡ Some e
  own_first e i is = ap (λ (o : Option Tree). first_error (o ∷ error_if (closed i) (refusal i) ∷ [])) is

  pub own_found : (texts : List Text) (ts : List HeapTerm) (f : BuiltinFault) (i : Indicator) → IsFound texts ts own f → IsFound texts ts (in_turn i) f
  own_found texts ts (builtin_fault.Error e) i h = own_first _ i h
  own_found texts ts builtin_fault.NoMemory i h = tt

  module _ (i j : Indicator) (same : i ≡ j) (lawful : own ≡ None) where
    by_procedure : (b : Bool) → closed i ≡ b → in_turn j ≡ first_error (None ∷ error_if b (refusal i) ∷ [])
    by_procedure b e = ap in_turn (sym same) ∙ ap₂ (λ (o : Option Tree) (x : Bool). first_error (o ∷ error_if x (refusal i) ∷ [])) lawful e

    pub refused_then : closed i ≡ true → in_turn j ≡ Some (refusal i)
    refused_then e = by_procedure true e

    pub lawful_then : closed i ≡ false → in_turn j ≡ None
    lawful_then e = by_procedure false e

-- ---- procedures that are not open

abbrev kind_is_static : Option Kind → Bool
kind_is_static None = false
kind_is_static (Some k) = is_static_kind k

static_by_kind : (o : Option Procedure) → is_static o ≡ kind_is_static (option_map (λ (p : Procedure). p.kind) o)
static_by_kind None = refl
static_by_kind (Some p) = refl

module _ (db : Database) (i : Indicator) where
  pub built_in_private : is_built_in i ≡ true → is_private db i ≡ true
  built_in_private e = ap (λ (b : Bool). b || is_static (procedure_of db i)) e

  pub private_by_kind : (k : Option Kind) → is_built_in i ≡ false → option_map (λ (p : Procedure). p.kind) (procedure_of db i) ≡ k → is_private db i ≡ kind_is_static k
  private_by_kind k e is =
      ap₂ (λ (b c : Bool). b || c) e (static_by_kind (procedure_of db i) ∙ ap kind_is_static is)

-- ---- the predicate of a clause

-- it is that of the definitions
pub predicate_is : (texts : List Text) (ts : List HeapTerm) (id : ℕ) (p : ClauseParts) (pred : Pred) → AreParts texts ts id p → IsOf texts pred (tree texts ts p.head)
    → indicator_of texts pred ≡ built.indicator_of (head_body (tree texts ts id)).head
predicate_is texts ts id p pred h o = o.indicator ∙ ap (λ (c : HeadBody). built.indicator_of c.head) (sym h.are)
