-- What the definitions give of lists that were looked at.
use Rattle.std.proofs.Common.{◌≡◌, ℕ, [], ◌∷◌, map, Bool, true, false, not, ◌||◌, ◌&&◌, Option, Some, None, encode_utf8_all, String, sym, ap, ◌∙◌}
use Rattle.std.specs.Prelude.{if◌then◌else◌}
use Rattle.std.specs.List.{list_any, list_all}
use Rattle.spec_numbers.specs.Texts.{Text}
use Rattle.spec_terms.specs.Term.{Var, Name}
use Rattle.spec_syntax.specs.Trees.{Tree}
use Rattle.spec_builtins.specs.Built.{is_atom, natural}
use Rattle.spec_builtins.specs.Kinds.{Parts, parts, is_variable, natural_of}
use Rattle.spec_builtins.specs.Errors.{instantiation, type_error}
use Rattle.spec_builtins.specs.Alternatives.{Solutions, Faults, ◌≐◌, one_way, faults_if}
use Rattle.spec_builtins.specs.Texts.{ElementKind, Codes, name_of, is_character, is_code, code_of, elements_error, from_elements, atom_list_row, char_code_row}
use Rattle.std.specs.declared.alloc.Global.{Global}
use Rattle.cq_predicates.specs.Elements.{Make, IsMadeOf, IsCharacterOf, StandsFor, code_tests}
use Rattle.cq_predicates.specs.CodesRows.{Reads}
use Rattle.cq_predicates.proofs.Standing.{code_passes, code_known}

module _ (k : ElementKind) (v : ℕ) (l : Tree) (p : Parts) (is : p ≡ parts l) where
  -- what is looked at in turn
  abbrev looked : Bool → Bool → Bool → Option Tree → Solutions
  looked unbound any nil error =
      faults_if (unbound || any) instantiation (faults_if (not nil) (type_error "list" l) (from_elements (Var v) error p.elements))

  listed : atom_list_row k (Var v) l ≡ looked (is_variable p.tail) (list_any is_variable p.elements) (is_atom "[]" p.tail) (elements_error k p.elements)
  listed = ap (λ (q : Parts). faults_if (is_variable q.tail || list_any is_variable q.elements) instantiation (faults_if (not (is_atom "[]" q.tail)) (type_error "list" l) (from_elements (Var v) (elements_error k q.elements) q.elements))) (sym is)

  module _ (o : is_variable p.tail ≡ false) (a : list_any is_variable p.elements ≡ false) where
    pub no_list : is_atom "[]" p.tail ≡ false → atom_list_row k (Var v) l ≡ Faults (type_error "list" l)
    no_list n = listed ∙ (λ i. looked (o i) (a i) (n i) (elements_error k p.elements))

    pub wrong_element : (e : Tree) → is_atom "[]" p.tail ≡ true → elements_error k p.elements ≡ Some e → atom_list_row k (Var v) l ≡ Faults e
    wrong_element e n w = listed ∙ (λ i. looked (o i) (a i) (n i) (w i))

    pub made : (text : Text) → is_atom "[]" p.tail ≡ true → Make k p.elements text → atom_list_row k (Var v) l ≡ one_way ((Var v ≐ Name text) ∷ [])
    made text n m = listed ∙ (λ i. looked (o i) (a i) (n i) (m.right i)) ∙ ap (λ (t : Text). one_way ((Var v ≐ Name t) ∷ [])) (sym m.made)

-- ---- lists of codes

pub reads_by : (l : Tree) (p : Parts) (o : Option (String Global)) → p ≡ parts l → is_atom "[]" p.tail ≡ true → IsMadeOf p.elements o → Reads l o
reads_by l p None e n h = ap (λ (q : Parts). is_atom "[]" q.tail && list_all is_code q.elements) (sym e) ∙ ap (λ b. b && list_all is_code p.elements) n ∙ h
reads_by l p (Some s) e n h = (
  ap (λ (q : Parts). is_atom "[]" q.tail && list_all is_code q.elements) (sym e) ∙ ap (λ b. b && list_all is_code p.elements) n ∙ h.0,
  h.1 ∙ ap (λ (q : Parts). encode_utf8_all (map natural_of q.elements)) e,
)

-- ---- a character and its code
module _ (c n : Tree) where
  -- what is looked at in turn
  abbrev spelled : Bool → Bool → Bool → Solutions
  spelled c_open n_open one =
      faults_if (c_open && n_open) instantiation (faults_if (not (c_open || one)) (type_error "character" c) (
      code_tests n (if c_open then one_way ((c ≐ name_of (natural_of n ∷ [])) ∷ []) else one_way ((n ≐ natural (code_of c)) ∷ []))))

  pub code_read : (d : ℕ) → is_variable c ≡ true → is_variable n ≡ false → StandsFor Codes n d → char_code_row c n ≡ one_way ((c ≐ name_of (d ∷ [])) ∷ [])
  code_read d o p s =
      (λ i. spelled (o i) (p i) (is_character c))
      ∙ code_passes n d (one_way ((c ≐ name_of (natural_of n ∷ [])) ∷ [])) p s
      ∙ ap (λ k. one_way ((c ≐ name_of (k ∷ [])) ∷ [])) (code_known n d s)

  pub code_told : (d : ℕ) → is_variable c ≡ false → IsCharacterOf c d → ((rest : Solutions) → code_tests n rest ≡ rest) → char_code_row c n ≡ one_way ((n ≐ natural d) ∷ [])
  code_told d o h w =
      (λ i. spelled (o i) (is_variable n) (h.character i)) ∙ w (one_way ((n ≐ natural (code_of c)) ∷ [])) ∙ ap (λ k. one_way ((n ≐ natural k) ∷ [])) h.code
