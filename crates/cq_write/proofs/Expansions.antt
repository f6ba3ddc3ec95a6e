-- Each part of a term is expanded into its pieces.
use Rattle.std.proofs.Common.{◌≡◌, ℕ, zero, suc, ◌+◌, ◌<◌, ◌≤◌, Bool, true, false, List, [], ◌∷◌, ◌++◌, length, slice_get, Some, None, codes, refl, ap, sym, ◌∙◌, subst, append-nil, arith}
use Rattle.std.specs.Prelude.{bytes_eq, not, ◌&&◌, if◌then◌else◌}
use Rattle.std.specs.Cmp.Lexicographic.{bytes_decides}
use Rattle.spec_numbers.specs.Rational.{ℚ, neg_ℚ}
use Rattle.spec_syntax.specs.Characters.{first_char}
use Rattle.spec_numbers.specs.Texts.{Text}
use Rattle.spec_syntax.specs.declared.operators.OpDef.{OpDef}
use Rattle.spec_syntax.specs.Operators.{Ops, right_most}
use Rattle.spec_terms.specs.Term.{Terms, Var, Number, Name, Compound, one, more, named, named_all, list_of}
use Rattle.spec_syntax.specs.Trees.{Tree}
use Rattle.spec_syntax.specs.Writing.{Alone, InList, is_negative, is_bare_right, is_bare_left, is_bare_argument, is_signed, is_spaced, needs_quotes, name_before, infix_token}
use Rattle.spec_syntax.specs.Tokens.{Token, Open, Close, OpenList, CloseList, OpenCurly, CloseCurly, Comma, Bar, Minus, Numeral, Named, Functor, Variable, Codes, End}
use Rattle.spec_text.specs.Pieces.{Piece, piece, infix_piece, tokens, pieces, pieces_at, argument_pieces, unless, as_argument, placed, functional, name_pieces, number_pieces, atom_pieces, unary_pieces, operand_pieces, prefix_pieces, infix_pieces, binary_pieces}
use Rattle.spec_text.specs.Texts.{name_text, token_text}
use Rattle.spec_text.specs.declared.writing.Style.{Style}
use Rattle.spec_text.specs.declared.writing.Style.TheVariants.{Plain, Quoted}
use Rattle.cq_term.specs.Texts.{text_of}
use Rattle.cq_term.specs.Meaning.{HeapTerm, at}
use Rattle.cq_term.specs.Shown.{arguments}
use Rattle.cq_write.specs.Spelled.{Spelled, spelled}
use Rattle.cq_write.specs.Work.{Setting, read, tree, spelled_all, spelled_word, infix_word, plain, job_pieces, all_pieces, pieces_from, arguments_from, IsKnown, AreReady, weight, total_weight, weight_from, arguments_weight, jobs_weight, IsExpansion, IsOperand, functional_jobs, cell_jobs, mark_text}
use Rattle.cq_frac.specs.declared.VarId.{VarId}
use Rattle.cq_write.specs.declared.jobs.Mark.{Mark}
use Rattle.cq_write.specs.declared.jobs.Mark.TheVariants as mark
use Rattle.cq_write.specs.declared.jobs.Word.TheVariants as word
use Rattle.cq_write.specs.declared.jobs.Part.TheVariants as part
use Rattle.cq_write.specs.declared.jobs.Job.{Job}
use Rattle.cq_write.specs.declared.jobs.Job.TheVariants as job

spelled-append : (s : Setting) (ps qs : List Piece) → spelled_all s (ps ++ qs) ≡ spelled_all s ps ++ spelled_all s qs
spelled-append s [] qs = refl
spelled-append s (p ∷ ps) qs = ap (λ x. spelled s.style s.name p ∷ x) (spelled-append s ps qs)

-- the sign is never quoted
minus_bare : (style : Style) → name_text style (codes "-") ≡ codes "-"
unfolding name_text needs_quotes first_char
minus_bare Plain = refl
minus_bare Quoted = refl

-- the text of an infix operator does not depend on what stands behind it
module _ (style : Style) (name : ℕ → Text) where
  minus_text : (f : Text) → bytes_eq f (codes "-") ≡ true → codes "-" ≡ name_text style f
  minus_text f e = sym (minus_bare style) ∙ ap (name_text style) (sym ((bytes_decides f (codes "-")).0 e))

  sign_text : (f : Text) (quoted b : Bool) → bytes_eq f (codes "-") ≡ b → token_text style name (if b then Minus else Named f quoted) ≡ name_text style f
  sign_text f quoted true e = minus_text f e
  sign_text f quoted false e = refl

  before_text : (f : Text) (right : List Token) → token_text style name (name_before f right) ≡ name_text style f
  before_text f [] = refl
  before_text f (Open ∷ ts) = refl
  before_text f (Numeral q ∷ ts) = sign_text f (needs_quotes f) (bytes_eq f (codes "-")) refl
  before_text f (Variable v ∷ ts) = refl
  before_text f (Codes b ∷ ts) = refl
  before_text f (Named g b ∷ ts) = refl
  before_text f (Functor g ∷ ts) = refl
  before_text f (Minus ∷ ts) = refl
  before_text f (Close ∷ ts) = refl
  before_text f (OpenList ∷ ts) = refl
  before_text f (CloseList ∷ ts) = refl
  before_text f (OpenCurly ∷ ts) = refl
  before_text f (CloseCurly ∷ ts) = refl
  before_text f (Comma ∷ ts) = refl
  before_text f (Bar ∷ ts) = refl
  before_text f (End ∷ ts) = refl

  spaced_text : (f : Text) (b : Bool) (right : List Token) → token_text style name (if b then Named f (needs_quotes f) else name_before f right) ≡ name_text style f
  spaced_text f true right = refl
  spaced_text f false right = before_text f right

  infix_by : (f : Text) (b : Bool) (right : List Token) →
      spelled style name (record { token = if b then Comma else if is_spaced f then Named f (needs_quotes f) else name_before f right; has_blanks = not b && is_spaced f; is_prefix = false }) ≡ infix_word style b f
  infix_by f true right = refl
  infix_by f false right = ap (λ t. record { text = t; manner = record { has_blanks = is_spaced f; is_prefix = false } }) (spaced_text f (is_spaced f) right)

  infix_spelled : (f : Text) (right : List Piece) → spelled style name (infix_piece f right) ≡ infix_word style (bytes_eq f (codes ",")) f
  unfolding infix_token
  infix_spelled f right = infix_by f (bytes_eq f (codes ",")) (tokens right)

some_terms : (ts : Terms ℕ) → 0 < length (list_of ts)
some_terms (one t) = omega arith
some_terms (more t ts) = omega arith

-- ---- arguments one by one
module _ (ops : Ops) (g : ℕ → Text) where
  next_pieces : (ts : Terms ℕ) (i : ℕ) (a : HeapTerm) → slice_get (list_of ts) i ≡ Some a → i + 1 < length (list_of ts) →
      pieces_from ops i (named_all g ts) ≡ as_argument ops (named g a) (pieces ops (named g a)) ++ piece Comma ∷ pieces_from ops (suc i) (named_all g ts)
  unfolding pieces_at argument_pieces
  next_pieces (one t) i a e h = absurd (omega arith)
  next_pieces (more t ts) zero a e h = (let d : t ≡ a = cc in ap (λ u. as_argument ops (named g u) (pieces ops (named g u)) ++ piece Comma ∷ argument_pieces ops (named_all g ts)) d)
  next_pieces (more t ts) (suc i) a e h = next_pieces ts i a e (omega arith)

  last_pieces : (ts : Terms ℕ) (i : ℕ) (a : HeapTerm) → slice_get (list_of ts) i ≡ Some a → length (list_of ts) ≤ i + 1 →
      pieces_from ops i (named_all g ts) ≡ as_argument ops (named g a) (pieces ops (named g a))
  unfolding pieces_at argument_pieces
  last_pieces (one t) zero a e h = (let d : t ≡ a = cc in ap (λ u. as_argument ops (named g u) (pieces ops (named g u))) d)
  last_pieces (one t) (suc i) a e h = cc
  last_pieces (more t ts) zero a e h = absurd (omega (arith, some_terms ts))
  last_pieces (more t ts) (suc i) a e h = last_pieces ts i a e (omega arith)

next_weight : (ts : Terms ℕ) (i : ℕ) (a : HeapTerm) → slice_get (list_of ts) i ≡ Some a → i + 1 < length (list_of ts) → weight_from i ts ≡ weight a + 5 + weight_from (suc i) ts
next_weight (one t) i a e h = absurd (omega arith)
next_weight (more t ts) zero a e h = (let d : t ≡ a = cc in ap (λ u. weight u + 5 + total_weight ts) d)
next_weight (more t ts) (suc i) a e h = next_weight ts i a e (omega arith)

last_weight : (ts : Terms ℕ) (i : ℕ) (a : HeapTerm) → slice_get (list_of ts) i ≡ Some a → length (list_of ts) ≤ i + 1 → weight_from i ts ≡ weight a + 5
last_weight (one t) zero a e h = (let d : t ≡ a = cc in ap (λ u. weight u + 5) d)
last_weight (one t) (suc i) a e h = cc
last_weight (more t ts) zero a e h = absurd (omega (arith, some_terms ts))
last_weight (more t ts) (suc i) a e h = last_weight ts i a e (omega arith)

module _ (s : Setting) (id : ℕ) where
  -- the jobs of a term that is this one
  made : (t : HeapTerm) (js : List Job) → at s.terms id ≡ t → all_pieces s js ≡ spelled_all s (pieces s.ops (read s t)) → AreReady s js → jobs_weight s js < weight t → IsExpansion s (part.Term id) js
  made t js e p r w = record {
    pieces = p ∙ ap (λ u. spelled_all s (pieces s.ops (read s u))) (sym e);
    ready = r;
    lighter = subst (λ u. jobs_weight s js < weight u) (sym e) w;
  }

  made_rest : (t : HeapTerm) (js : List Job) → at s.terms id ≡ t → all_pieces s js ≡ spelled_all s (pieces_at s.ops InList (read s t)) → AreReady s js → jobs_weight s js < weight t + 6 → IsExpansion s (part.Rest id) js
  made_rest t js e p r w = record {
    pieces = p ∙ ap (λ u. spelled_all s (pieces_at s.ops InList (read s u))) (sym e);
    ready = r;
    lighter = subst (λ u. jobs_weight s js < weight u + 6) (sym e) w;
  }

  pub variable_made : (v : VarId) → at s.terms id ≡ Var v.0 → IsExpansion s (part.Term id) (job.Word (word.Variable v) ∷ [])
  unfolding pieces_at
  variable_made v e = made (Var v.0) _ e refl (tt, tt) (omega arith)

  pub negative_made : (q : ℚ) → at s.terms id ≡ Number q → is_negative q ≡ true → IsExpansion s (part.Term id) (job.Word (word.Mark mark.Minus) ∷ job.Word (word.Numeral (neg_ℚ q)) ∷ [])
  unfolding pieces_at
  negative_made q e n = made (Number q) (job.Word (word.Mark mark.Minus) ∷ job.Word (word.Numeral (neg_ℚ q)) ∷ []) e (sym (ap (λ b. spelled_all s (number_pieces b q)) n)) (tt, (tt, tt)) (omega arith)

  pub numeral_made : (q : ℚ) → at s.terms id ≡ Number q → is_negative q ≡ false → IsExpansion s (part.Term id) (job.Word (word.Numeral q) ∷ [])
  unfolding pieces_at
  numeral_made q e n = made (Number q) (job.Word (word.Numeral q) ∷ []) e (sym (ap (λ b. spelled_all s (number_pieces b q)) n)) (tt, tt) (omega arith)

  pub nil_made : (a : ℕ) → at s.terms id ≡ Name a → bytes_eq (text_of s.texts a) (codes "[]") ≡ true → IsExpansion s (part.Term id) (job.Word (word.Mark mark.OpenList) ∷ job.Word (word.Mark mark.CloseList) ∷ [])
  unfolding pieces_at
  nil_made a e n = made (Name a) (job.Word (word.Mark mark.OpenList) ∷ job.Word (word.Mark mark.CloseList) ∷ []) e (sym (ap (λ b. spelled_all s (name_pieces s.ops b Alone (text_of s.texts a))) n)) (tt, (tt, tt)) (omega arith)

  pub curly_made : (a : ℕ) → at s.terms id ≡ Name a → bytes_eq (text_of s.texts a) (codes "[]") ≡ false → bytes_eq (text_of s.texts a) (codes "{}") ≡ true →
      IsExpansion s (part.Term id) (job.Word (word.Mark mark.OpenCurly) ∷ job.Word (word.Mark mark.CloseCurly) ∷ [])
  unfolding pieces_at
  curly_made a e n m = made (Name a) (job.Word (word.Mark mark.OpenCurly) ∷ job.Word (word.Mark mark.CloseCurly) ∷ []) e
      (sym (ap (λ b. spelled_all s (name_pieces s.ops b Alone (text_of s.texts a))) n ∙ ap (λ b. spelled_all s (atom_pieces b (text_of s.texts a))) m)) (tt, (tt, tt)) (omega arith)

  pub atom_made : (a : ℕ) → at s.terms id ≡ Name a → a < length s.texts → bytes_eq (text_of s.texts a) (codes "[]") ≡ false → bytes_eq (text_of s.texts a) (codes "{}") ≡ false →
      IsExpansion s (part.Term id) (job.Word (word.Name a) ∷ [])
  unfolding pieces_at
  atom_made a e h n m = made (Name a) (job.Word (word.Name a) ∷ []) e
      (sym (ap (λ b. spelled_all s (name_pieces s.ops b Alone (text_of s.texts a))) n ∙ ap (λ b. spelled_all s (atom_pieces b (text_of s.texts a))) m)) (h, tt) (omega arith)

  -- a name and its arguments
  functional_made : (f : ℕ) (ts : Terms ℕ) → at s.terms id ≡ Compound f ts → f < length s.texts → IsKnown s id →
      pieces s.ops (read s (Compound f ts)) ≡ functional (text_of s.texts f) (argument_pieces s.ops (named_all (text_of s.texts) ts)) → IsExpansion s (part.Term id) (functional_jobs id f)
  functional_made f ts e h known p =
      let args = argument_pieces s.ops (named_all (text_of s.texts) ts) in
      let begin : List Spelled → List Spelled = λ z. plain (name_text s.style (text_of s.texts f)) ∷ plain (codes "(") ∷ z in
      let heavy : arguments_weight 0 (at s.terms id) ≡ total_weight ts = ap (arguments_weight 0) e in
      let some : 0 < length (arguments (at s.terms id)) = subst (λ t. 0 < length (arguments t)) (sym e) (some_terms ts) in
      made (Compound f ts) (functional_jobs id f) e
      (ap (λ u. begin (spelled_all s (arguments_from s.ops 0 (read s u)) ++ plain (codes ")") ∷ [])) e
      ∙ sym (ap begin (spelled-append s args (piece Close ∷ []))) ∙ sym (ap (spelled_all s) p))
      (h, (tt, ((known, some), (tt, tt)))) (omega arith)

  pub many_made : (f : ℕ) (a b : HeapTerm) (cs : Terms ℕ) → at s.terms id ≡ Compound f (more a (more b cs)) → f < length s.texts → IsKnown s id → IsExpansion s (part.Term id) (functional_jobs id f)
  unfolding pieces_at argument_pieces
  many_made f a b cs e h known = functional_made f (more a (more b cs)) e h known refl

  pub unary_made : (f a : ℕ) → at s.terms id ≡ Compound f (one (at s.terms a)) → f < length s.texts → IsKnown s id → bytes_eq (text_of s.texts f) (codes "{}") ≡ false → s.ops.prefix (text_of s.texts f) ≡ None → s.ops.postfix (text_of s.texts f) ≡ None →
      IsExpansion s (part.Term id) (functional_jobs id f)
  unfolding pieces_at argument_pieces
  unary_made f a e h known n o p =
      let g = text_of s.texts f in
      let u = tree s a in
      functional_made f (one (at s.terms a)) e h known
      (ap (λ b. unary_pieces s.ops b g u (pieces s.ops u)) n ∙ (λ i. operand_pieces s.ops (o i) (p i) g u (pieces s.ops u)))

  signed_argument : (f : Text) (t : Tree) → is_signed f t ≡ true → pieces s.ops t ≡ as_argument s.ops t (pieces s.ops t)
  unfolding is_bare_argument
  signed_argument f (Number q) e = refl
  signed_argument f (Var v) e = cc
  signed_argument f (Name g) e = cc
  signed_argument f (Compound g ts) e = cc

  pub signed_made : (f a : ℕ) (op : OpDef) → at s.terms id ≡ Compound f (one (at s.terms a)) → f < length s.texts → IsKnown s id → bytes_eq (text_of s.texts f) (codes "{}") ≡ false → s.ops.prefix (text_of s.texts f) ≡ Some op →
      is_signed (text_of s.texts f) (tree s a) ≡ true → IsExpansion s (part.Term id) (functional_jobs id f)
  unfolding pieces_at argument_pieces
  signed_made f a op e h known n o i =
      let g = text_of s.texts f in
      let u = tree s a in
      functional_made f (one (at s.terms a)) e h known
      (ap (λ b. unary_pieces s.ops b g u (pieces s.ops u)) n ∙ ap (λ p. operand_pieces s.ops p (s.ops.postfix g) g u (pieces s.ops u)) o
      ∙ ap (λ b. prefix_pieces s.ops op b g u (pieces s.ops u)) i ∙ ap (functional g) (signed_argument g u i))

  pub functional_binary_made : (f a b : ℕ) → at s.terms id ≡ Compound f (more (at s.terms a) (one (at s.terms b))) → f < length s.texts → IsKnown s id → bytes_eq (text_of s.texts f) (codes ".") ≡ false → s.ops.infixed (text_of s.texts f) ≡ None →
      IsExpansion s (part.Term id) (functional_jobs id f)
  unfolding pieces_at argument_pieces
  functional_binary_made f a b e h known n o =
      let g = text_of s.texts f in
      let t = tree s a in
      let u = tree s b in
      functional_made f (more (at s.terms a) (one (at s.terms b))) e h known
      (ap (λ d. binary_pieces s.ops d Alone g t u (pieces s.ops t) (pieces s.ops u) (pieces_at s.ops InList u)) n ∙ ap (λ p. infix_pieces s.ops p g t u (pieces s.ops t) (pieces s.ops u)) o)

  pub braces_made : (f a : ℕ) → at s.terms id ≡ Compound f (one (at s.terms a)) → IsKnown s a → bytes_eq (text_of s.texts f) (codes "{}") ≡ true →
      IsExpansion s (part.Term id) (job.Word (word.Mark mark.OpenCurly) ∷ job.Part (part.Term a) ∷ job.Word (word.Mark mark.CloseCurly) ∷ [])
  unfolding pieces_at
  braces_made f a e known n =
      let g = text_of s.texts f in
      let u = tree s a in
      made (Compound f (one (at s.terms a))) (job.Word (word.Mark mark.OpenCurly) ∷ job.Part (part.Term a) ∷ job.Word (word.Mark mark.CloseCurly) ∷ []) e
      (sym (ap (λ b. spelled_all s (unary_pieces s.ops b g u (pieces s.ops u))) n ∙ ap (λ z. plain (codes "{") ∷ z) (spelled-append s (pieces s.ops u) (piece CloseCurly ∷ []))))
      (tt, (known, (tt, tt))) (omega arith)

  pub prefix_made : (f a : ℕ) (op : OpDef) (j : Job) → at s.terms id ≡ Compound f (one (at s.terms a)) → f < length s.texts → bytes_eq (text_of s.texts f) (codes "{}") ≡ false → s.ops.prefix (text_of s.texts f) ≡ Some op →
      is_signed (text_of s.texts f) (tree s a) ≡ false → IsOperand s (is_bare_right s.ops (right_most op) (tree s a)) a j → IsExpansion s (part.Term id) (job.Word (word.Prefix f) ∷ j ∷ [])
  unfolding pieces_at
  prefix_made f a op j e h n o i operand =
      let g = text_of s.texts f in
      let u = tree s a in
      let light = operand.light in
      made (Compound f (one (at s.terms a))) (job.Word (word.Prefix f) ∷ j ∷ []) e
      (ap (λ z. spelled_word s (word.Prefix f) ∷ z) (append-nil (job_pieces s j) ∙ operand.pieces)
      ∙ sym (ap (spelled_all s) (ap (λ b. unary_pieces s.ops b g u (pieces s.ops u)) n ∙ ap (λ p. operand_pieces s.ops p (s.ops.postfix g) g u (pieces s.ops u)) o ∙ ap (λ b. prefix_pieces s.ops op b g u (pieces s.ops u)) i)))
      (h, (operand.ready, tt)) (omega (arith, light))

  pub postfix_made : (f a : ℕ) (op : OpDef) (j : Job) → at s.terms id ≡ Compound f (one (at s.terms a)) → f < length s.texts → bytes_eq (text_of s.texts f) (codes "{}") ≡ false → s.ops.prefix (text_of s.texts f) ≡ None → s.ops.postfix (text_of s.texts f) ≡ Some op →
      IsOperand s (is_bare_left s.ops op (tree s a)) a j → IsExpansion s (part.Term id) (j ∷ job.Word (word.Name f) ∷ [])
  unfolding pieces_at
  postfix_made f a op j e h n o p operand =
      let g = text_of s.texts f in
      let u = tree s a in
      let light = operand.light in
      let bare = is_bare_left s.ops op u in
      made (Compound f (one (at s.terms a))) (j ∷ job.Word (word.Name f) ∷ []) e
      (ap (λ z. z ++ spelled_word s (word.Name f) ∷ []) operand.pieces
      ∙ sym (spelled-append s (unless bare (pieces s.ops u)) (piece (Named g (needs_quotes g)) ∷ []))
      ∙ sym (ap (spelled_all s) (ap (λ b. unary_pieces s.ops b g u (pieces s.ops u)) n ∙ (λ k. operand_pieces s.ops (o k) (p k) g u (pieces s.ops u)))))
      (operand.ready, (h, tt)) (omega (arith, light))

  pub infix_made : (f a b : ℕ) (op : OpDef) (j k : Job) → at s.terms id ≡ Compound f (more (at s.terms a) (one (at s.terms b))) → f < length s.texts → bytes_eq (text_of s.texts f) (codes ".") ≡ false → s.ops.infixed (text_of s.texts f) ≡ Some op →
      IsOperand s (is_bare_left s.ops op (tree s a)) a j → IsOperand s (is_bare_right s.ops (right_most op) (tree s b)) b k → IsExpansion s (part.Term id) (j ∷ job.Word (word.Infix f) ∷ k ∷ [])
  unfolding pieces_at
  infix_made f a b op j k e h n o left right =
      let g = text_of s.texts f in
      let t = tree s a in
      let u = tree s b in
      let ps : List Piece = unless (is_bare_left s.ops op t) (pieces s.ops t) in
      let qs : List Piece = unless (is_bare_right s.ops (right_most op) u) (pieces s.ops u) in
      let light = left.light in
      let slight = right.light in
      made (Compound f (more (at s.terms a) (one (at s.terms b)))) (j ∷ job.Word (word.Infix f) ∷ k ∷ []) e
      ((λ i. left.pieces i ++ sym (infix_spelled s.style s.name g qs) i ∷ (append-nil (job_pieces s k) ∙ right.pieces) i)
      ∙ sym (spelled-append s ps (infix_piece g qs ∷ qs))
      ∙ sym (ap (spelled_all s) (ap (λ d. binary_pieces s.ops d Alone g t u (pieces s.ops t) (pieces s.ops u) (pieces_at s.ops InList u)) n ∙ ap (λ p. infix_pieces s.ops p g t u (pieces s.ops t) (pieces s.ops u)) o)))
      (left.ready, (h, (right.ready, tt))) (omega (arith, light, slight))

  -- a list's cell
  cell_pieces : (a b : ℕ) (opens : Mark) (tok : Token) (j : Job) → plain (mark_text opens) ≡ spelled s.style s.name (piece tok) → IsOperand s (is_bare_argument s.ops (tree s a)) a j →
      all_pieces s (cell_jobs opens j b) ≡ spelled_all s (piece tok ∷ as_argument s.ops (tree s a) (pieces s.ops (tree s a)) ++ pieces_at s.ops InList (tree s b))
  cell_pieces a b opens tok j m operand =
      (λ i. m i ∷ (operand.pieces i ++ append-nil (spelled_all s (pieces_at s.ops InList (tree s b))) i))
      ∙ sym (ap (λ z. spelled s.style s.name (piece tok) ∷ z) (spelled-append s (as_argument s.ops (tree s a) (pieces s.ops (tree s a))) (pieces_at s.ops InList (tree s b))))

  pub cell_made : (f a b : ℕ) (j : Job) → at s.terms id ≡ Compound f (more (at s.terms a) (one (at s.terms b))) → IsKnown s b → bytes_eq (text_of s.texts f) (codes ".") ≡ true → IsOperand s (is_bare_argument s.ops (tree s a)) a j →
      IsExpansion s (part.Term id) (cell_jobs mark.OpenList j b)
  unfolding pieces_at
  cell_made f a b j e known n operand =
      let g = text_of s.texts f in
      let t = tree s a in
      let u = tree s b in
      let light = operand.light in
      made (Compound f (more (at s.terms a) (one (at s.terms b)))) (cell_jobs mark.OpenList j b) e
      (cell_pieces a b mark.OpenList OpenList j refl operand ∙ sym (ap (λ d. spelled_all s (binary_pieces s.ops d Alone g t u (pieces s.ops t) (pieces s.ops u) (pieces_at s.ops InList u))) n))
      (tt, (operand.ready, (known, tt))) (omega (arith, light))

  pub rest_cell_made : (f a b : ℕ) (j : Job) → at s.terms id ≡ Compound f (more (at s.terms a) (one (at s.terms b))) → IsKnown s b → bytes_eq (text_of s.texts f) (codes ".") ≡ true → IsOperand s (is_bare_argument s.ops (tree s a)) a j →
      IsExpansion s (part.Rest id) (cell_jobs mark.Comma j b)
  unfolding pieces_at
  rest_cell_made f a b j e known n operand =
      let g = text_of s.texts f in
      let t = tree s a in
      let u = tree s b in
      let light = operand.light in
      made_rest (Compound f (more (at s.terms a) (one (at s.terms b)))) (cell_jobs mark.Comma j b) e
      (cell_pieces a b mark.Comma Comma j refl operand ∙ sym (ap (λ d. spelled_all s (binary_pieces s.ops d InList g t u (pieces s.ops t) (pieces s.ops u) (pieces_at s.ops InList u))) n))
      (tt, (operand.ready, (known, tt))) (omega (arith, light))

  pub rest_end_made : (a : ℕ) → at s.terms id ≡ Name a → bytes_eq (text_of s.texts a) (codes "[]") ≡ true → IsExpansion s (part.Rest id) (job.Word (word.Mark mark.CloseList) ∷ [])
  unfolding pieces_at
  rest_end_made a e n = made_rest (Name a) (job.Word (word.Mark mark.CloseList) ∷ []) e (sym (ap (λ b. spelled_all s (name_pieces s.ops b InList (text_of s.texts a))) n)) (tt, tt) (omega arith)

  pub rest_other_made : (j : Job) → pieces_at s.ops InList (tree s id) ≡ placed s.ops InList (tree s id) (pieces s.ops (tree s id)) → IsOperand s (is_bare_argument s.ops (tree s id)) id j →
      IsExpansion s (part.Rest id) (job.Word (word.Mark mark.Bar) ∷ j ∷ job.Word (word.Mark mark.CloseList) ∷ [])
  rest_other_made j p operand =
      let t = tree s id in
      let light = operand.light in
      made_rest (at s.terms id) (job.Word (word.Mark mark.Bar) ∷ j ∷ job.Word (word.Mark mark.CloseList) ∷ []) refl
      (ap (λ z. plain (codes "|") ∷ (z ++ plain (codes "]") ∷ [])) operand.pieces
      ∙ sym (ap (λ z. plain (codes "|") ∷ z) (spelled-append s (as_argument s.ops t (pieces s.ops t)) (piece CloseList ∷ []))) ∙ sym (ap (spelled_all s) p))
      (tt, (operand.ready, (tt, tt))) (omega (arith, light))

  pub enclosed_made : IsKnown s id → IsExpansion s (part.Enclosed id) (job.Word (word.Mark mark.Open) ∷ job.Part (part.Term id) ∷ job.Word (word.Mark mark.Close) ∷ [])
  enclosed_made known = record {
    pieces = sym (ap (λ z. plain (codes "(") ∷ z) (spelled-append s (pieces s.ops (tree s id)) (piece Close ∷ [])));
    ready = (tt, (known, (tt, tt)));
    lighter = omega arith;
  }

  -- the arguments from one on
  next_of : (t a : HeapTerm) (i : ℕ) → slice_get (arguments t) i ≡ Some a → i + 1 < length (arguments t) →
      (arguments_from s.ops i (read s t) ≡ as_argument s.ops (read s a) (pieces s.ops (read s a)) ++ piece Comma ∷ arguments_from s.ops (suc i) (read s t)) × (arguments_weight i t ≡ weight a + 5 + arguments_weight (suc i) t)
  next_of (Var v) a i e h = cc
  next_of (Number q) a i e h = cc
  next_of (Name f) a i e h = cc
  next_of (Compound f ts) a i e h = (next_pieces s.ops (text_of s.texts) ts i a e h, next_weight ts i a e h)

  last_of : (t a : HeapTerm) (i : ℕ) → slice_get (arguments t) i ≡ Some a → length (arguments t) ≤ i + 1 →
      (arguments_from s.ops i (read s t) ≡ as_argument s.ops (read s a) (pieces s.ops (read s a))) × (arguments_weight i t ≡ weight a + 5)
  last_of (Var v) a i e h = cc
  last_of (Number q) a i e h = cc
  last_of (Name f) a i e h = cc
  last_of (Compound f ts) a i e h = (last_pieces s.ops (text_of s.texts) ts i a e h, last_weight ts i a e h)

  pub next_made : (a i k : ℕ) (j : Job) → k ≡ suc i → IsKnown s id → slice_get (arguments (at s.terms id)) i ≡ Some (at s.terms a) → i + 1 < length (arguments (at s.terms id)) → IsOperand s (is_bare_argument s.ops (tree s a)) a j →
      IsExpansion s (part.Arguments id i) (j ∷ job.Word (word.Mark mark.Comma) ∷ job.Part (part.Arguments id k) ∷ [])
  next_made a i k j n known e h operand =
      let next = next_of (at s.terms id) (at s.terms a) i e h in
      let light = operand.light in
      let heavy = next.1 in
      let same : arguments_weight k (at s.terms id) ≡ arguments_weight (suc i) (at s.terms id) = ap (λ m. arguments_weight m (at s.terms id)) n in
      record {
        pieces =
            (λ x. operand.pieces x ++ plain (codes ",") ∷ (append-nil (spelled_all s (arguments_from s.ops k (tree s id))) ∙ ap (λ m. spelled_all s (arguments_from s.ops m (tree s id))) n) x)
            ∙ sym (spelled-append s (as_argument s.ops (tree s a) (pieces s.ops (tree s a))) (piece Comma ∷ arguments_from s.ops (suc i) (tree s id))) ∙ sym (ap (spelled_all s) next.0);
        ready = (operand.ready, (tt, ((known, omega arith), tt)));
        lighter = omega (arith, light, heavy, same);
      }

  pub last_made : (a i : ℕ) (j : Job) → slice_get (arguments (at s.terms id)) i ≡ Some (at s.terms a) → length (arguments (at s.terms id)) ≤ i + 1 → IsOperand s (is_bare_argument s.ops (tree s a)) a j → IsExpansion s (part.Arguments id i) (j ∷ [])
  last_made a i j e h operand =
      let last = last_of (at s.terms id) (at s.terms a) i e h in
      let light = operand.light in
      let heavy = last.1 in
      record {
        pieces = append-nil (job_pieces s j) ∙ operand.pieces ∙ sym (ap (spelled_all s) last.0);
        ready = (operand.ready, tt);
        lighter = omega (arith, light, heavy);
      }

  pub other_name : (a : ℕ) → at s.terms id ≡ Name a → bytes_eq (text_of s.texts a) (codes "[]") ≡ false → pieces_at s.ops InList (tree s id) ≡ placed s.ops InList (tree s id) (pieces s.ops (tree s id))
  unfolding pieces_at
  other_name a e n =
      subst (λ t. pieces_at s.ops InList (read s t) ≡ placed s.ops InList (read s t) (pieces s.ops (read s t))) (sym e)
      (ap (λ b. name_pieces s.ops b InList (text_of s.texts a)) n ∙ sym (ap (λ b. placed s.ops InList (Name (text_of s.texts a)) (name_pieces s.ops b Alone (text_of s.texts a))) n))

  pub other_binary : (f : ℕ) (t u : HeapTerm) → at s.terms id ≡ Compound f (more t (one u)) → bytes_eq (text_of s.texts f) (codes ".") ≡ false → pieces_at s.ops InList (tree s id) ≡ placed s.ops InList (tree s id) (pieces s.ops (tree s id))
  unfolding pieces_at
  other_binary f t u e n =
      let g = text_of s.texts f in
      let a = read s t in
      let b = read s u in
      subst (λ x. pieces_at s.ops InList (read s x) ≡ placed s.ops InList (read s x) (pieces s.ops (read s x))) (sym e)
      (ap (λ d. binary_pieces s.ops d InList g a b (pieces s.ops a) (pieces s.ops b) (pieces_at s.ops InList b)) n
      ∙ sym (ap (λ d. placed s.ops InList (read s (Compound f (more t (one u)))) (binary_pieces s.ops d Alone g a b (pieces s.ops a) (pieces s.ops b) (pieces_at s.ops InList b))) n))

  pub other_variable : (v : ℕ) → at s.terms id ≡ Var v → pieces_at s.ops InList (tree s id) ≡ placed s.ops InList (tree s id) (pieces s.ops (tree s id))
  unfolding pieces_at
  other_variable v e = subst (λ x. pieces_at s.ops InList (read s x) ≡ placed s.ops InList (read s x) (pieces s.ops (read s x))) (sym e) refl

  pub other_number : (q : ℚ) → at s.terms id ≡ Number q → pieces_at s.ops InList (tree s id) ≡ placed s.ops InList (tree s id) (pieces s.ops (tree s id))
  unfolding pieces_at
  other_number q e = subst (λ x. pieces_at s.ops InList (read s x) ≡ placed s.ops InList (read s x) (pieces s.ops (read s x))) (sym e) refl

  pub other_unary : (f : ℕ) (t : HeapTerm) → at s.terms id ≡ Compound f (one t) → pieces_at s.ops InList (tree s id) ≡ placed s.ops InList (tree s id) (pieces s.ops (tree s id))
  unfolding pieces_at
  other_unary f t e = subst (λ x. pieces_at s.ops InList (read s x) ≡ placed s.ops InList (read s x) (pieces s.ops (read s x))) (sym e) refl

  pub other_many : (f : ℕ) (t u : HeapTerm) (vs : Terms ℕ) → at s.terms id ≡ Compound f (more t (more u vs)) → pieces_at s.ops InList (tree s id) ≡ placed s.ops InList (tree s id) (pieces s.ops (tree s id))
  unfolding pieces_at
  other_many f t u vs e = subst (λ x. pieces_at s.ops InList (read s x) ≡ placed s.ops InList (read s x) (pieces s.ops (read s x))) (sym e) refl
