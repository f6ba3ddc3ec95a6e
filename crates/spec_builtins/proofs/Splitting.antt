-- The splits of a text and its parts are listed in order, and these are the alternatives of atom_concat and sub_atom.
use Rattle.std.proofs.Common.{◌≡◌, ℕ, zero, suc, ◌+◌, ◌-◌, ◌<◌, ◌≤◌, arith, List, [], ◌∷◌, ◌++◌, map, length, take, drop, All, AllPairs, Contains, flat_map, Bool, true, false, ◌&&◌, chars, encode_utf8_all, IsUtf8, refl, sym, subst, ap, ap₂, ◌∙◌, inl, inr, length-take-le, length-drop, length-append, take-append-drop}
use Rattle.std.proofs.lemmas.List.{take_at, drop_at}
use Rattle.std.proofs.lemmas.Str.{chars-encodes, encodes-append, encodes-chars, scalars-chars, chars-append}
use lib.Utf8.{scalar, scalars}
use mathlib.Core.List.{map-map}
use Rattle.spec_numbers.specs.Texts.{Text}
use Rattle.spec_numbers.proofs.Tests.{both_are}
use Rattle.spec_terms.specs.Term.{Name}
use Rattle.spec_terms.specs.Variables.{counted_from}
use Rattle.spec_syntax.specs.Trees.{Tree}
use Rattle.spec_builtins.specs.Built.{natural}
use Rattle.spec_builtins.specs.Kinds.{is_name, is_integer, is_other}
use Rattle.spec_builtins.specs.Errors.{type_error}
use Rattle.spec_builtins.specs.Alternatives.{◌≐◌, faults_if}
use Rattle.spec_builtins.specs.Texts.{name_of, matching, split_at, part_at, parts_at, atom_concat_row, sub_atom_row}
use Rattle.spec_builtins.specs.Splits.{ListsAll, size, Split, IsSplit, HasShorterFirst, split_pairs, Part, IsPart, IsEarlier, part_pairs}
use Rattle.spec_builtins.proofs.Ranges.{all_counted, contains_counted, pairs_counted, all_joined, contains_joined, pairs_joined, counted_same, joined_same}

-- ---- characters and texts

fits_take : (n : ℕ) (cs : List ℕ) → scalars cs ≡ true → scalars (take n cs) ≡ true
fits_take zero cs e = refl
fits_take (suc n) [] e = refl
fits_take (suc n) (c ∷ cs) e =
    let h = both_are (scalar c) (scalars cs) e in
    ap₂ (λ a b. a && b) h.0 (fits_take n cs h.1)

fits_drop : (n : ℕ) (cs : List ℕ) → scalars cs ≡ true → scalars (drop n cs) ≡ true
fits_drop zero cs e = e
fits_drop (suc n) [] e = refl
fits_drop (suc n) (c ∷ cs) e = fits_drop n cs (both_are (scalar c) (scalars cs) e).1

pub text_of : (cs : List ℕ) → scalars cs ≡ true → IsUtf8 (encode_utf8_all cs)
text_of cs e = (cs, (e, refl))

size_of : (cs : List ℕ) → scalars cs ≡ true → size (encode_utf8_all cs) ≡ length cs
size_of cs e = ap length (chars-encodes cs e)

size_taken : (n : ℕ) (cs : List ℕ) → scalars cs ≡ true → n ≤ length cs → size (encode_utf8_all (take n cs)) ≡ n
size_taken n cs e l = size_of (take n cs) (fits_take n cs e) ∙ length-take-le n cs l

size_dropped : (n : ℕ) (cs : List ℕ) → scalars cs ≡ true → size (encode_utf8_all (drop n cs)) ≡ length cs - n
size_dropped n cs e = size_of (drop n cs) (fits_drop n cs e) ∙ length-drop n cs

halves_joined : (n : ℕ) (cs : List ℕ) → encode_utf8_all (take n cs) ++ encode_utf8_all (drop n cs) ≡ encode_utf8_all cs
halves_joined n cs = sym (encodes-append (take n cs) (drop n cs)) ∙ ap encode_utf8_all (take-append-drop n cs)

-- ---- a text and its characters

module _ (c : Text) (text : IsUtf8 c) where
  fits : scalars (chars c) ≡ true
  fits = scalars-chars c text

  -- ---- splits

  abbrev split : ℕ → Split
  split n = record { first = encode_utf8_all (take n (chars c)); last = encode_utf8_all (drop n (chars c)) }

  abbrev pub splits : List Split
  splits = map split (counted_from 0 (length (chars c) + 1))

  is_split : (n : ℕ) → IsSplit c (split n)
  is_split n = record {
    first = text_of (take n (chars c)) (fits_take n (chars c) fits);
    last = text_of (drop n (chars c)) (fits_drop n (chars c) fits);
    joined = halves_joined n (chars c) ∙ encodes-chars c text;
  }

  -- a split is the one at the length of its first text
  split_is : (s : Split) → IsSplit c s → (size s.first < length (chars c) + 1) × (split (size s.first) ≡ s)
  split_is s h =
      let e : chars c ≡ chars s.first ++ chars s.last = ap chars (sym h.joined) ∙ chars-append s.first s.last h.first in
      let l : length (chars c) ≡ length (chars s.first) + length (chars s.last) = ap length e ∙ length-append (chars s.first) (chars s.last) in
      let first : take (size s.first) (chars c) ≡ chars s.first = ap (take (size s.first)) e ∙ take_at (chars s.first) (chars s.last) (size s.first) refl in
      let last : drop (size s.first) (chars c) ≡ chars s.last = ap (drop (size s.first)) e ∙ drop_at (chars s.first) (chars s.last) (size s.first) refl in (
        omega arith,
        ap₂ (λ (f g : Text). record { first = f; last = g }) (ap encode_utf8_all first ∙ encodes-chars s.first h.first) (ap encode_utf8_all last ∙ encodes-chars s.last h.last),
      )

  pub splits_listed : ListsAll (IsSplit c) HasShorterFirst splits
  splits_listed = record {
    each = all_counted (IsSplit c) split 0 (length (chars c) + 1) (λ n l u. is_split n);
    all = λ s h. (let i = split_is s h in subst (λ (t : Split). Contains (map split (counted_from 0 (length (chars c) + 1))) t) i.1 (contains_counted split 0 (length (chars c) + 1) (size s.first) (omega arith) (omega (arith, i.0))));
    ordered = pairs_counted HasShorterFirst split 0 (length (chars c) + 1) longer;
  }
    where
      longer : (i j : ℕ) → 0 ≤ i → i < j → j < 0 + (length (chars c) + 1) → HasShorterFirst (split i) (split j)
      longer i j l k u =
          let a = size_taken i (chars c) fits (omega arith) in
          let b = size_taken j (chars c) fits (omega arith) in
          omega (arith, a, b)

  pub split_row : (a b : Tree) → is_other is_name a ≡ false → is_other is_name b ≡ false
      → atom_concat_row a b (Name c) ≡ matching (map (split_pairs a b) splits)
  split_row a b d e =
      ap₂ (λ (x y : Bool). faults_if x (type_error "atom" a) (faults_if y (type_error "atom" b) (matching (map (split_at a b (chars c)) (counted_from 0 (length (chars c) + 1)))))) d e
      ∙ ap matching (sym (map-map (split_pairs a b) split (counted_from 0 (length (chars c) + 1))))

  -- ---- parts

  abbrev part : ℕ → ℕ → Part
  part i n = record {
    before = encode_utf8_all (take i (chars c));
    part = encode_utf8_all (take n (drop i (chars c)));
    after = encode_utf8_all (drop n (drop i (chars c)));
  }

  -- those at one place
  abbrev parts_from : ℕ → List Part
  parts_from i = map (part i) (counted_from 0 (length (chars c) - i + 1))

  abbrev pub all_parts : List Part
  all_parts = flat_map parts_from (counted_from 0 (length (chars c) + 1))

  is_part : (i n : ℕ) → IsPart c (part i n)
  is_part i n =
      let rest : scalars (drop i (chars c)) ≡ true = fits_drop i (chars c) fits in
      record {
        before = text_of (take i (chars c)) (fits_take i (chars c) fits);
        part = text_of (take n (drop i (chars c))) (fits_take n (drop i (chars c)) rest);
        after = text_of (drop n (drop i (chars c))) (fits_drop n (drop i (chars c)) rest);
        joined = ap (λ (xs : Text). encode_utf8_all (take i (chars c)) ++ xs) (halves_joined n (drop i (chars c))) ∙ halves_joined i (chars c) ∙ encodes-chars c text;
      }

  part_before : (i n : ℕ) → i ≤ length (chars c) → size (part i n).before ≡ i
  part_before i n l = size_taken i (chars c) fits l

  part_size : (i n : ℕ) → n ≤ length (chars c) - i → size (part i n).part ≡ n
  part_size i n l =
      let d = length-drop i (chars c) in
      size_taken n (drop i (chars c)) (fits_drop i (chars c) fits) (omega arith)

  part_after : (i n : ℕ) → size (part i n).after ≡ length (chars c) - i - n
  part_after i n = size_dropped n (drop i (chars c)) (fits_drop i (chars c) fits) ∙ ap (λ m. m - n) (length-drop i (chars c))

  -- a part is the one at its place with its length
  record PartIs (p : Part) : Type 0 where
    place : size p.before < length (chars c) + 1
    long : size p.part < length (chars c) - size p.before + 1
    is : part (size p.before) (size p.part) ≡ p

  part_is : (p : Part) → IsPart c p → PartIs p
  part_is p h =
      let e : chars c ≡ chars p.before ++ chars (p.part ++ p.after) = ap chars (sym h.joined) ∙ chars-append p.before (p.part ++ p.after) h.before in
      let f : chars (p.part ++ p.after) ≡ chars p.part ++ chars p.after = chars-append p.part p.after h.part in
      let l : length (chars c) ≡ length (chars p.before) + length (chars (p.part ++ p.after)) = ap length e ∙ length-append (chars p.before) (chars (p.part ++ p.after)) in
      let m : length (chars (p.part ++ p.after)) ≡ length (chars p.part) + length (chars p.after) = ap length f ∙ length-append (chars p.part) (chars p.after) in
      let before : take (size p.before) (chars c) ≡ chars p.before = ap (take (size p.before)) e ∙ take_at (chars p.before) (chars (p.part ++ p.after)) (size p.before) refl in
      let rest : drop (size p.before) (chars c) ≡ chars p.part ++ chars p.after = ap (drop (size p.before)) e ∙ drop_at (chars p.before) (chars (p.part ++ p.after)) (size p.before) refl ∙ f in
      let held : take (size p.part) (drop (size p.before) (chars c)) ≡ chars p.part = ap (take (size p.part)) rest ∙ take_at (chars p.part) (chars p.after) (size p.part) refl in
      let after : drop (size p.part) (drop (size p.before) (chars c)) ≡ chars p.after = ap (drop (size p.part)) rest ∙ drop_at (chars p.part) (chars p.after) (size p.part) refl in
      let b : encode_utf8_all (take (size p.before) (chars c)) ≡ p.before = ap encode_utf8_all before ∙ encodes-chars p.before h.before in
      let q : encode_utf8_all (take (size p.part) (drop (size p.before) (chars c))) ≡ p.part = ap encode_utf8_all held ∙ encodes-chars p.part h.part in
      let a : encode_utf8_all (drop (size p.part) (drop (size p.before) (chars c))) ≡ p.after = ap encode_utf8_all after ∙ encodes-chars p.after h.after in
      record {
        place = omega arith;
        long = omega arith;
        is = λ j. record { before = b j; part = q j; after = a j };
      }

  -- ---- in order

  part_listed : (p : Part) → IsPart c p → Contains all_parts p
  part_listed p h =
      let i = part_is p h in
      let here : Contains (parts_from (size p.before)) (part (size p.before) (size p.part)) = contains_counted (part (size p.before)) 0 (length (chars c) - size p.before + 1) (size p.part) (omega arith) (omega (arith, i.long)) in
      contains_joined parts_from 0 (length (chars c) + 1) (size p.before) p (omega arith) (omega (arith, i.place)) (subst (λ (q : Part). Contains (parts_from (size p.before)) q) i.is here)

  -- at one place the shorter first
  longer_later : (i : ℕ) → i ≤ length (chars c) → AllPairs IsEarlier (parts_from i)
  longer_later i l = pairs_counted IsEarlier (part i) 0 (length (chars c) - i + 1) (λ m n z k u. (
      let a = part_before i m l in
      let b = part_before i n l in
      let x = part_size i m (omega arith) in
      let y = part_size i n (omega arith) in
      inr (a ∙ sym b, omega (arith, x, y))))

  -- the earlier place first
  places_later : (i j : ℕ) → i < j → j ≤ length (chars c)
      → All (λ (p : Part). All (IsEarlier p) (parts_from j)) (parts_from i)
  places_later i j k u = all_counted (λ (p : Part). All (IsEarlier p) (parts_from j)) (part i) 0 (length (chars c) - i + 1) (λ m z v. (
      all_counted (IsEarlier (part i m)) (part j) 0 (length (chars c) - j + 1) (λ n y w. (
      let a = part_before i m (omega arith) in
      let b = part_before j n u in
      inl (omega (arith, a, b))))))

  pub parts_listed : ListsAll (IsPart c) IsEarlier all_parts
  parts_listed = record {
    each = all_joined (IsPart c) parts_from 0 (length (chars c) + 1) (λ i l u. all_counted (IsPart c) (part i) 0 (length (chars c) - i + 1) (λ n k v. is_part i n));
    all = part_listed;
    ordered = pairs_joined IsEarlier parts_from 0 (length (chars c) + 1) (λ i l u. longer_later i (omega arith)) (λ i j l k u. places_later i j k (omega arith));
  }

  -- ---- the alternatives

  same_pairs : (b l r s : Tree) (i n : ℕ) → i ≤ length (chars c) → n ≤ length (chars c) - i
      → part_pairs b l r s (part i n) ≡ part_at b l r s (chars c) i n
  same_pairs b l r s i n h k =
      λ j. (b ≐ natural (part_before i n h j)) ∷ (l ≐ natural (part_size i n k j)) ∷ (r ≐ natural (part_after i n j)) ∷ (s ≐ name_of (take n (drop i (chars c)))) ∷ []

  same_parts : (b l r s : Tree) → map (part_pairs b l r s) all_parts ≡ parts_at b l r s (chars c)
  same_parts b l r s =
      joined_same (part_pairs b l r s) parts_from (λ i. map (part_at b l r s (chars c) i) (counted_from 0 (length (chars c) - i + 1))) 0 (length (chars c) + 1) (λ i z u.
      map-map (part_pairs b l r s) (part i) (counted_from 0 (length (chars c) - i + 1))
      ∙ counted_same (λ n. part_pairs b l r s (part i n)) (part_at b l r s (chars c) i) 0 (length (chars c) - i + 1) (λ n y v. same_pairs b l r s i n (omega arith) (omega arith)))

  pub part_row : (b l r s : Tree) → is_other is_integer b ≡ false → is_other is_integer l ≡ false
      → is_other is_integer r ≡ false → is_other is_name s ≡ false
      → sub_atom_row (Name c) b l r s ≡ matching (map (part_pairs b l r s) all_parts)
  part_row b l r s d e f g =
      (λ j. faults_if (g j) (type_error "atom" s) (
      faults_if (d j) (type_error "integer" b) (
      faults_if (e j) (type_error "integer" l) (
      faults_if (f j) (type_error "integer" r) (
      matching (parts_at b l r s (chars c)))))))
      ∙ ap matching (sym (same_parts b l r s))
