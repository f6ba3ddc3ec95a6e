-- Texts of tokens: where no layout and no comment begins.
use Rattle.std.proofs.Common.{◌≡◌, ℕ, ◌+◌, Bool, true, false, List, [], ◌∷◌, ◌++◌, Result, Ok, refl, sym, subst, ◌∙◌, arith}
use Rattle.std.specs.Prelude.{◌==◌, ◌&&◌}
use Rattle.std.proofs.lemmas.Bool.Decides.{nat_tests}
use Rattle.spec_syntax.specs.declared.grammar.Gap.TheVariants.{Between, Line, Opening}
use Rattle.spec_syntax.specs.declared.grammar.LexFault.{LexFault}
use Rattle.spec_syntax.specs.Characters.{is_layout, is_symbol, begins, begins_with, first_char}
use Rattle.spec_syntax.specs.Gaps.{gap}
use Rattle.spec_syntax.proofs.Bounds.{Within, gap_within}
use Rattle.spec_syntax.specs.Writing.{needs_quotes}
use Rattle.spec_text.proofs.WritingNames.{bare_gap, StopsName}

-- a byte that begins no layout and no comment
pub gap_none : (b : ℕ) (bs : List ℕ) (at : ℕ) → is_layout b ≡ false → (b == 37) ≡ false → ((b == 47) && begins_with 42 bs) ≡ false → gap Between (b ∷ bs) at ≡ Ok at
gap_none b bs at layout line block = rw (layout, line, block) refl

fault_or_far : (n at : ℕ) (r : Result ℕ LexFault) (hi : ℕ) → Within (at + 1) hi r → r ≡ Ok at → ⊥
fault_or_far n at r hi w e = let z : Within (at + 1) hi (Ok at) = subst (Within (at + 1) hi) e w in omega (arith, z.0)

-- what a text begins with, where its first byte is no layout and begins no comment
pub record NoGap (b : ℕ) (bs : List ℕ) : Type 0 where
  pub no_layout : is_layout b ≡ false
  pub no_line : (b == 37) ≡ false
  pub no_block : ((b == 47) && begins_with 42 bs) ≡ false

no_gap_by : (b : ℕ) (bs : List ℕ) (at : ℕ) → gap Between (b ∷ bs) at ≡ Ok at → NoGap b bs
no_gap_by b bs at e = by (is_layout b) (b == 37) ((b == 47) && begins_with 42 bs) refl refl refl
  where
    by : (x y z : Bool) → is_layout b ≡ x → (b == 37) ≡ y → ((b == 47) && begins_with 42 bs) ≡ z → NoGap b bs
    by true y z x1 y1 z1 = let g : gap Between (b ∷ bs) at ≡ gap Between bs (at + 1) = rw x1 refl in absurd (fault_or_far 0 at _ _ (gap_within Between bs (at + 1)) (sym g ∙ e))
    by false true z x1 y1 z1 = let g : gap Between (b ∷ bs) at ≡ gap Line bs (at + 1) = rw (x1, y1) refl in absurd (fault_or_far 0 at _ _ (gap_within Line bs (at + 1)) (sym g ∙ e))
    by false false true x1 y1 z1 = let g : gap Between (b ∷ bs) at ≡ gap Opening bs (at + 1) = rw (x1, y1, z1) refl in absurd (fault_or_far 0 at _ _ (gap_within Opening bs (at + 1)) (sym g ∙ e))
    by false false false x1 y1 z1 = record { no_layout = x1; no_line = y1; no_block = z1 }

no_star : (more : List ℕ) → begins is_symbol more ≡ false → begins_with 42 more ≡ false
no_star [] e = refl
no_star (b ∷ bs) e = grind (arith, nat_tests)

-- a name that needs no quotes begins no layout and no comment, whatever follows that does not go on with it
pub name_gap : (f more : List ℕ) (at : ℕ) → needs_quotes f ≡ false → StopsName f more → gap Between (f ++ more) at ≡ Ok at
unfolding needs_quotes first_char
name_gap [] more at e s = cc
name_gap (b ∷ []) more at e s =
    let n = no_gap_by b [] 0 (bare_gap (b ∷ []) e) in gap_none b more at n.no_layout n.no_line (by (b == 47) refl)
  where
    by : (x : Bool) → (b == 47) ≡ x → ((b == 47) && begins_with 42 more) ≡ false
    by false x = rw x refl
    by true x = let symbol : is_symbol b ≡ true = grind (arith, nat_tests) in rw (x, no_star more (s.symbols symbol)) refl
name_gap (b ∷ c ∷ cs) more at e s =
    let n = no_gap_by b (c ∷ cs) 0 (bare_gap (b ∷ c ∷ cs) e) in gap_none b (c ∷ (cs ++ more)) at n.no_layout n.no_line n.no_block
