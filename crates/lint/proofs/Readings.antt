-- Pages that are read one behind another, and files that aren't given.
use Rattle.std.proofs.Common.{◌≡◌, ℕ, ◌+◌, ◌<◌, List, [], ◌∷◌, ◌++◌, length, get_or, map, take, Option, sym, ap, subst, ◌∙◌, append_assoc, append-nil}
use Rattle.std.specs.Prelude.{Contains}
use Rattle.std.proofs.lemmas.List.{get_or-map, length-map, map-append, take_more}
use Rattle.spec_numbers.specs.Texts.{Text}
use Rattle.spec_syntax.specs.Operators.{Ops}
use Rattle.spec_syntax.specs.Standard.{standard}
use Rattle.cq_outside.specs.Files.{Files}
use Rattle.lint.specs.Endings.{AreMissing, IsMissing}
use Rattle.lint.specs.Pages.{AreRead, IsPage, none, next}
use Rattle.lint.specs.declared.pages.Halt.{Halt}
use Rattle.lint.specs.declared.pages.Halt.TheVariants.{Absent, TooLarge, Read, Write, Memory}
use Rattle.lint.specs.declared.pages.Page.{Page}

-- whatever pages are read behind these, which leave these operators, are read behind them
abbrev pub AreReadBefore : Option Files → Ops → List Text → List Page → Type 0
AreReadBefore files ops names pages = (more : List Text) (behind : List Page) → AreRead files ops more behind → AreRead files standard (names ++ more) (pages ++ behind)

module _ {X : Type 0} (f : X → Text) (xs : List X) (i : ℕ) (x : X) (h : i < length xs) (at : x ≡ get_or xs i x) where
  -- the names so far and the next
  names_more : map f (take i xs) ++ f x ∷ [] ≡ map f (take (i + 1) xs)
  names_more = sym (ap (map f) (take_more xs i x h) ∙ map-append f (take i xs) (get_or xs i x ∷ []) ∙ ap (λ y. map f (take i xs) ++ f y ∷ []) (sym at))

  is_among : Contains (map f xs) (f x)
  is_among = (i, rw (length-map xs f) h, get_or-map f xs i x (f x) h ∙ ap f (sym at))

  -- the page of the next name is read
  pub next_read : (files : Option Files) (ops last : Ops) (pages now : List Page) (p : Page) → AreReadBefore files ops (map f (take i xs)) pages
      → IsPage files ops (f x) last p → now ≡ pages ++ p ∷ [] → AreReadBefore files last (map f (take (i + 1) xs)) now
  next_read files ops last pages now p before is pushed more behind read =
      subst (λ ns. AreRead files standard (ns ++ more) (now ++ behind)) names_more
      (subst (λ ps. AreRead files standard ((map f (take i xs) ++ f x ∷ []) ++ more) (ps ++ behind)) (sym pushed)
      (subst (λ ns. AreRead files standard ns ((pages ++ p ∷ []) ++ behind)) (sym (append_assoc (map f (take i xs)) (f x ∷ []) more))
      (subst (λ ps. AreRead files standard (map f (take i xs) ++ f x ∷ more) ps) (sym (append_assoc pages (p ∷ []) behind)) (before (f x ∷ more) (p ∷ behind) (next is read)))))

  -- the file of the next name isn't given
  pub next_missing : (files : Option Files) (halt : Halt) → IsMissing files (f x) halt → AreMissing files (map f xs) halt
  next_missing files Memory h = tt
  next_missing files (Absent n) h = (f x, is_among, h)
  next_missing files (TooLarge n) h = (f x, is_among, h)
  next_missing files Read h = (f x, is_among, h)
  next_missing files Write h = (f x, is_among, h)

pub all_read : (files : Option Files) (ops : Ops) (names : List Text) (pages : List Page) → AreReadBefore files ops names pages → AreRead files standard names pages
all_read files ops names pages before =
    subst (λ ns. AreRead files standard ns pages) (append-nil names) (subst (λ ps. AreRead files standard (names ++ []) ps) (append-nil pages) (before [] [] none))
