-- The rows of an event one after the other, each with its mark.
use Rattle.std.proofs.Common.{◌≡◌, ℕ, zero, suc, ◌+◌, ◌≤◌, min, Bool, true, false, not, ◌||◌, if◌then◌else◌, List, [], ◌∷◌, ◌++◌, length, drop, drop-drop, refl, sym, ap, ap₂, ◌∙◌, append-nil, append_assoc, ⊎_elim, arith}
use Rattle.std.specs.Prelude.{slice_index_or}
use Rattle.std.specs.List.{concat, flat_map}
use Rattle.std.proofs.lemmas.Bool.{cases_lt}
use Rattle.std.proofs.lemmas.List.{drop_all}
use Rattle.std.proofs.lemmas.List.Folds.{concat-append}
use Rattle.blog_row.specs.RowsEvent.{RowImages}
use Rattle.blog_left_out.specs.LeftOut.{is_empty, kept, row_images}
use Rattle.blog_left_out.proofs.Keeping.{drop-none, kept-none}

abbrev pub images_of : List RowImages → List ℕ
images_of rows = concat (flat_map row_images rows)

-- `used` marks are used for those before the rest
pub record AreLeft (ms : List Bool) (all : List RowImages) (old new : List ℕ) (used : ℕ) (some stays : Bool) (rest : List RowImages) : Type 0 where
  pub images : new ++ images_of (kept (drop used ms) rest) ≡ old ++ images_of (kept ms all)
  pub some_is : (some || not (is_empty rest)) ≡ not (is_empty all)
  pub stays_is : (stays || not (is_empty (kept (drop used ms) rest))) ≡ not (is_empty (kept ms all))
  pub left : drop (length rest) (drop used ms) ≡ drop (length all) ms
  pub within : used ≤ length ms

pub rows-begin : (ms : List Bool) (all rest : List RowImages) (old : List ℕ) → rest ≡ all → AreLeft ms all old old 0 false false rest
rows-begin ms all rest old is = record {
  images = ap (λ rows. old ++ images_of (kept ms rows)) is;
  some_is = ap (λ (rows : List RowImages). not (is_empty rows)) is;
  stays_is = ap (λ (rows : List RowImages). not (is_empty (kept ms rows))) is;
  left = ap (λ (rows : List RowImages). drop (length rows) ms) is;
  within = omega arith;
}

-- ---- one more row

-- it, if it stays
abbrev one_if : Bool → RowImages → List RowImages
one_if b x = if b then x ∷ [] else []

kept-step : (ms : List Bool) (used : ℕ) (x : RowImages) (others : List RowImages)
    → kept (drop used ms) (x ∷ others) ≡ one_if (slice_index_or ms used false) x ++ kept (drop (suc used) ms) others
kept-step [] used x others = ap (λ ms. kept ms (x ∷ others)) (drop-none used) ∙ sym (ap (λ ms. kept ms others) (drop-none (suc used)))
kept-step (true ∷ ms) zero x others = refl
kept-step (false ∷ ms) zero x others = refl
kept-step (m ∷ ms) (suc used) x others = kept-step ms used x others

drop-capped : (ms : List Bool) (used : ℕ) → used ≤ length ms → drop (min (length ms) (used + 1)) ms ≡ drop (suc used) ms
drop-capped ms used within = ⊎_elim
    (λ less. let n : min (length ms) (used + 1) ≡ suc used = omega (arith, less) in ap (λ (n : ℕ). drop n ms) n)
    (λ more. drop_all (min (length ms) (used + 1)) ms (omega (arith, more)) ∙ sym (drop_all (suc used) ms (omega (arith, more))))
    (cases_lt used (length ms))

stays-step : (stays mark : Bool) (x : RowImages) (rows : List RowImages) → (stays || not (is_empty (one_if mark x ++ rows))) ≡ ((stays || mark) || not (is_empty rows))
stays-step true mark x rows = refl
stays-step false true x rows = refl
stays-step false false x rows = refl

or-true : (b : Bool) → (b || true) ≡ true
or-true true = refl
or-true false = refl

images-step : (mark : Bool) (x : RowImages) (rows : List RowImages) → images_of (one_if mark x ++ rows) ≡ (if mark then concat (row_images x) else []) ++ images_of rows
images-step true x rows = concat-append (row_images x) (flat_map row_images rows)
images-step false x rows = refl

pub rows-more : (ms : List Bool) (all : List RowImages) (old a b : List ℕ) (used more : ℕ) (some stays mark next : Bool) (x : RowImages) (rest others : List RowImages)
    → rest ≡ x ∷ others → mark ≡ slice_index_or ms used false → b ≡ a ++ (if mark then concat (row_images x) else []) → more ≡ min (length ms) (used + 1) → next ≡ (stays || mark)
    → AreLeft ms all old a used some stays rest → AreLeft ms all old b more true next others
rows-more ms all old a b used more some stays mark next x rest others first marked put capped either h =
    let behind : drop more ms ≡ drop (suc used) ms = ap (λ (n : ℕ). drop n ms) capped ∙ drop-capped ms used h.within in
    let here : kept (drop used ms) rest ≡ one_if mark x ++ kept (drop more ms) others =
    ap (kept (drop used ms)) first ∙ kept-step ms used x others ∙ ap₂ (λ (m : Bool) (left : List Bool). one_if m x ++ kept left others) (sym marked) (sym behind) in
    let later = kept (drop more ms) others in
    let many : suc used + length others ≡ used + length (x ∷ others) = omega arith in
    record {
      images = ap (λ (text : List ℕ). text ++ images_of later) put
          ∙ append_assoc a (if mark then concat (row_images x) else []) (images_of later)
          ∙ ap (λ (text : List ℕ). a ++ text) (sym (images-step mark x later))
          ∙ ap (λ rows. a ++ images_of rows) (sym here)
          ∙ h.images;
      some_is = sym (or-true some) ∙ ap (λ (rows : List RowImages). some || not (is_empty rows)) (sym first) ∙ h.some_is;
      stays_is = ap (λ (b : Bool). b || not (is_empty later)) either ∙ sym (stays-step stays mark x later) ∙ ap (λ (rows : List RowImages). stays || not (is_empty rows)) (sym here) ∙ h.stays_is;
      left = ap (drop (length others)) behind
          ∙ drop-drop (length others) (suc used) ms
          ∙ ap (λ (n : ℕ). drop n ms) many
          ∙ sym (drop-drop (length (x ∷ others)) used ms)
          ∙ ap (λ (rows : List RowImages). drop (length rows) (drop used ms)) (sym first)
          ∙ h.left;
      within = omega (arith, capped);
    }

-- ---- none is left

some-none : (some stays a b : Bool) → (some || false) ≡ not a → (stays || false) ≡ not b → (stays || not some) ≡ (a || not b)
some-none true true true b some_is stays_is = grind arith
some-none true true false b some_is stays_is = grind arith
some-none true false a b some_is stays_is = grind arith
some-none false true a b some_is stays_is = grind arith
some-none false false a b some_is stays_is = grind arith

pub record AreDone (ms : List Bool) (all : List RowImages) (old new : List ℕ) (used : ℕ) (some stays : Bool) : Type 0 where
  pub images : new ≡ old ++ images_of (kept ms all)
  pub stays_is : (stays || not some) ≡ (is_empty all || not (is_empty (kept ms all)))
  pub left : drop used ms ≡ drop (length all) ms
  pub within : used ≤ length ms

pub rows-none : (ms : List Bool) (all : List RowImages) (old new : List ℕ) (used : ℕ) (some stays : Bool) (rest : List RowImages) → rest ≡ [] → AreLeft ms all old new used some stays rest
    → AreDone ms all old new used some stays
rows-none ms all old new used some stays rest none h =
    let here : kept (drop used ms) rest ≡ [] = ap (kept (drop used ms)) none ∙ kept-none (drop used ms) in
    record {
      images = sym (append-nil new) ∙ ap (λ rows. new ++ images_of rows) (sym here) ∙ h.images;
      stays_is = some-none some stays (is_empty all) (is_empty (kept ms all)) (ap (λ (rows : List RowImages). some || not (is_empty rows)) (sym none) ∙ h.some_is)
          (ap (λ (rows : List RowImages). stays || not (is_empty rows)) (sym here) ∙ h.stays_is);
      left = ap (λ (rows : List RowImages). drop (length rows) (drop used ms)) (sym none) ∙ h.left;
      within = h.within;
    }
