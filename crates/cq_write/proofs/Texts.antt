-- What is put into a line one behind another is the joined text.
use Rattle.std.proofs.Common.{◌≡◌, ℕ, Bool, true, false, List, [], ◌∷◌, ◌++◌, length, refl, ap, sym, ◌∙◌, append_assoc, append-nil}
use Rattle.std.specs.Prelude.{not, ◌&&◌, ◌==◌, if◌then◌else◌, map, Option, Some, None}
use Rattle.spec_numbers.specs.Texts.{Text}
use Rattle.spec_text.specs.Pieces.{Piece}
use Rattle.spec_text.specs.Texts.{text_of, own_blank, joined, seen, is_apart as is_apart_of, blank_behind}
use Rattle.spec_text.specs.declared.writing.Style.{Style}
use Rattle.cq_write.specs.Spelled.{Written, spelled, put_all, blank_before, framed, last_piece, blank_line}
use Rattle.cq_write.specs.declared.line.Last.{Last}

module _ (style : Style) (name : ℕ → Text) where
  -- what stands before pieces
  abbrev front : Option Last → List Piece → Text
  front last [] = []
  front last (p ∷ ps) = blank_before last (spelled style name p)

  front_is : (p : Piece) (ps : List Piece) → front (Some (last_piece (spelled style name p))) ps ≡ blank_behind style name p ps
  unfolding is_apart_of
  front_is p [] = refl
  front_is p (q ∷ qs) = refl

  joined_more : (line blank own text rest : Text) → (line ++ (blank ++ (own ++ (text ++ own)))) ++ rest ≡ line ++ (blank ++ (own ++ (text ++ (own ++ rest))))
  joined_more line blank own text rest =
      append_assoc line (blank ++ (own ++ (text ++ own))) rest
      ∙ ap (λ t. line ++ t) (append_assoc blank (own ++ (text ++ own)) rest ∙ ap (λ t. blank ++ t) (append_assoc own (text ++ own) rest ∙ ap (λ t. own ++ t) (append_assoc text own rest)))

  put_by : (line : Written) (p : Piece) (ps : List Piece) (b : Bool) →
      (let more : Written = record { text = line.text ++ (blank_before line.last (spelled style name p) ++ framed (spelled style name p)); last = Some (last_piece (spelled style name p)) } in
      (put_all line (map (spelled style name) ps)).text ≡ line.text ++ (front line.last (seen style name ps) ++ joined style name (seen style name ps)) →
      (put_all more (map (spelled style name) ps)).text ≡ more.text ++ (front more.last (seen style name ps) ++ joined style name (seen style name ps)) →
      (put_all (if b then line else more) (map (spelled style name) ps)).text ≡ line.text ++ (front line.last (if b then seen style name ps else p ∷ seen style name ps) ++ joined style name (if b then seen style name ps else p ∷ seen style name ps)))
  put_by line p ps true skipped kept = skipped
  put_by line p ps false skipped kept =
      kept
      ∙ ap (λ t. (line.text ++ (blank_before line.last (spelled style name p) ++ framed (spelled style name p))) ++ (t ++ joined style name (seen style name ps))) (front_is p (seen style name ps))
      ∙ joined_more line.text (blank_before line.last (spelled style name p)) (own_blank p) (text_of style name p) (blank_behind style name p (seen style name ps) ++ joined style name (seen style name ps))

  pub put_joined : (line : Written) (ps : List Piece) →
      (put_all line (map (spelled style name) ps)).text ≡ line.text ++ (front line.last (seen style name ps) ++ joined style name (seen style name ps))
  put_joined line [] = sym (append-nil line.text)
  put_joined line (p ∷ ps) =
      put_by line p ps ((length (text_of style name p) == 0) && not p.has_blanks) (put_joined line ps)
      (put_joined (record { text = line.text ++ (blank_before line.last (spelled style name p) ++ framed (spelled style name p)); last = Some (last_piece (spelled style name p)) }) ps)

  front_none : (ps : List Piece) → front None ps ≡ []
  front_none [] = refl
  front_none (p ∷ ps) = refl

  pub whole_text : (ps : List Piece) → (put_all blank_line (map (spelled style name) ps)).text ≡ joined style name (seen style name ps)
  whole_text ps = put_joined blank_line ps ∙ ap (λ t. t ++ joined style name (seen style name ps)) (front_none (seen style name ps))
