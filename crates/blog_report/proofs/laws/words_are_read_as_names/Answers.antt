use Rattle.std.specs.Prelude.{nat_eq}
use Rattle.std.specs.List.{flat_map}
use Rattle.std.proofs.Common.{◌≡◌, ℕ, Bool, true, false, List, [], ◌∷◌, ◌++◌, refl, sym, ap, ◌∙◌, true≢false}
use Rattle.std.proofs.lemmas.Bool.{and_parts, eqb-true}
use Rattle.blog_report.specs.Shell.{all_plain, is_plain, quoted_byte, shell_word}
use Rattle.blog_report.specs.ShellReads.{outside, quoted, read_from, word_read}
use Rattle.blog_report.proofs.laws.words_are_read_as_names.Goals as goal

-- between quotes
quoted-read : (name : List ℕ) → read_from quoted (flat_map quoted_byte name ++ 39 ∷ []) ≡ name
quoted-read [] = refl
quoted-read (byte ∷ rest) = by_case (nat_eq byte 39) refl (quoted-read rest) where
  by_case : (quote : Bool) → nat_eq byte 39 ≡ quote → read_from quoted (flat_map quoted_byte rest ++ 39 ∷ []) ≡ rest
      → read_from quoted (flat_map quoted_byte (byte ∷ rest) ++ 39 ∷ []) ≡ byte ∷ rest
  by_case true is behind = let same : byte ≡ 39 = eqb-true byte 39 is in simp is (λ j. sym same j ∷ behind j)
  by_case false isnt behind = simp isnt (ap (λ (l : List ℕ). byte ∷ l) behind)

-- a byte that stands for itself isn't one of those that don't
not-plain : (byte other : ℕ) → is_plain other ≡ false → is_plain byte ≡ true → nat_eq byte other ≡ false
not-plain byte other special plain = by_case (nat_eq byte other) refl where
  by_case : (same : Bool) → nat_eq byte other ≡ same → nat_eq byte other ≡ false
  by_case true is = absurd (true≢false (sym plain ∙ ap is_plain (eqb-true byte other is) ∙ special))
  by_case false isnt = isnt

-- as it is
plain-read : (name : List ℕ) → all_plain name ≡ true → read_from outside name ≡ name
plain-read [] plain = refl
plain-read (byte ∷ rest) plain =
    let (first, others) = and_parts (is_plain byte) (all_plain rest) plain in
    let quote : nat_eq byte 39 ≡ false = not-plain byte 39 refl first in
    let backslash : nat_eq byte 92 ≡ false = not-plain byte 92 refl first in
    simp (quote, backslash) (ap (λ (l : List ℕ). byte ∷ l) (plain-read rest others))

word-read : (name : List ℕ) → word_read (shell_word name) ≡ name
word-read [] = refl
word-read (byte ∷ rest) = by_case (all_plain (byte ∷ rest)) refl where
  by_case : (plain : Bool) → all_plain (byte ∷ rest) ≡ plain → word_read (shell_word (byte ∷ rest)) ≡ byte ∷ rest
  by_case true is = rw is (plain-read (byte ∷ rest) is)
  by_case false isnt = rw isnt (quoted-read (byte ∷ rest))

pub returns : goal.returns
returns c name = word-read name
