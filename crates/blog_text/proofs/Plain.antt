-- Bytes that are printed as they are.
use Rattle.std.specs.Prelude.{slice_index}
use Rattle.std.specs.List.{flat_map}
use Rattle.std.specs.Char.{is_control}
use Rattle.std.proofs.Common.{◌≡◌, ◌≢◌, ℕ, suc, ◌-◌, ◌<◌, ◌≤◌, true, false, List, [], ◌∷◌, ◌++◌, length, take, drop, refl, sym, ap, ap₂, ◌∙◌, arith, ⊎_elim}
use Rattle.std.proofs.lemmas.Bool.{cases_Bool, cond-true, cond-false, ne_eqb}
use Rattle.std.proofs.lemmas.Bool.Decides.{nat_tests}
use Rattle.std.proofs.lemmas.List.{take_rest}
use Rattle.std.proofs.lemmas.Str.{encode_ascii}
use Rattle.bstr.specs.Utf8.{Decoded}
use Rattle.bstr.proofs.lemmas.PieceLemmas.{value-1}
use Rattle.blog_text.specs.declared.marks.Mark.{Mark}
use Rattle.blog_text.specs.declared.marks.Mark.TheVariants.{Character}
use Rattle.blog_text.specs.Escapes.{is_layout, mark_of, marks_behind, marks, more_of, quoted_mark, shown}
use Rattle.blog_text.specs.code.Plain.{is_plain, plain_len}

-- which bytes these are
pub record IsPlain (byte : ℕ) : Type 0 where
  pub visible : 0x20 ≤ byte
  pub low : byte ≤ 0x7E
  pub no_backslash : byte ≢ 0x5C
  pub no_backtick : byte ≢ 0x60

IsPlain-from : (byte : ℕ) → is_plain byte ≡ true → IsPlain byte
IsPlain-from byte plain = record {
  visible = grind (arith, nat_tests);
  low = grind (arith, nat_tests);
  no_backslash = λ e. grind (arith, nat_tests);
  no_backtick = λ e. grind (arith, nat_tests);
}

shown-plain : (byte : ℕ) → is_plain byte ≡ true → shown (Character byte) ≡ byte ∷ []
shown-plain byte plain =
    let is = IsPlain-from byte plain in
    let seen : is_control byte ≡ false = grind (arith, nat_tests) in
    let alone : is_layout byte ≡ false = grind (arith, nat_tests) in
    cond-false _ _ _ (ne_eqb byte 0x5C is.no_backslash)
    ∙ cond-false _ _ _ (ne_eqb byte 0x0A (λ e. omega arith))
    ∙ cond-false _ _ _ (ne_eqb byte 0x09 (λ e. omega arith))
    ∙ cond-false _ _ _ (ne_eqb byte 0x0D (λ e. omega arith))
    ∙ cond-false _ _ _ seen
    ∙ cond-false _ _ _ alone
    ∙ encode_ascii byte (omega arith)

quoted-plain : (byte : ℕ) → is_plain byte ≡ true → quoted_mark (Character byte) ≡ byte ∷ []
quoted-plain byte plain =
    cond-false _ _ _ (ne_eqb byte 96 (IsPlain-from byte plain).no_backtick) ∙ shown-plain byte plain

-- a byte of ASCII is a character
marks-ascii : (byte : ℕ) (rest : List ℕ) → byte < 128 → marks (byte ∷ rest) ≡ Character byte ∷ marks rest
unfolding marks_behind
marks-ascii byte rest low =
    let bytes = byte ∷ rest in
    ap (λ (first : Decoded). mark_of byte first.char ∷ marks_behind (more_of first.char first.size) rest)
    (value-1 (length bytes) byte (slice_index bytes 1) (slice_index bytes 2) (slice_index bytes 3) (omega arith, low))

module _ (f : Mark → List ℕ) (same : (byte : ℕ) → is_plain byte ≡ true → f (Character byte) ≡ byte ∷ []) where
  -- the first n bytes as they are, and the rest by its marks
  abbrev printed : ℕ → List ℕ → List ℕ
  printed n text = take n text ++ flat_map f (marks (drop n text))

  one-more : (n m byte : ℕ) (rest : List ℕ) → n ≡ suc m → is_plain byte ≡ true → flat_map f (marks rest) ≡ printed m rest
      → flat_map f (marks (byte ∷ rest)) ≡ printed n (byte ∷ rest)
  one-more n m byte rest len plain behind =
      let is = IsPlain-from byte plain in
      ap (flat_map f) (marks-ascii byte rest (omega arith))
      ∙ ap₂ (λ (first later : List ℕ). first ++ later) (same byte plain) behind
      ∙ ap (λ (k : ℕ). printed k (byte ∷ rest)) (sym len)

  front-plain : (text : List ℕ) → flat_map f (marks text) ≡ printed (plain_len text) text
  front-plain [] = refl
  front-plain (byte ∷ rest) =
      let behind = front-plain rest in
      ⊎_elim
      (λ yes. one-more (plain_len (byte ∷ rest)) (plain_len rest) byte rest (cond-true _ _ _ yes) yes behind)
      (λ no. ap (λ (k : ℕ). printed k (byte ∷ rest)) (sym (cond-false _ _ _ no)))
      (cases_Bool (is_plain byte))

  -- the same of the marks that are left behind a part of the text
  behind-plain : (text : List ℕ) (n : ℕ) (left : List Mark) → n ≡ plain_len text → left ≡ marks (take (length text - n) (drop n text))
      → flat_map f (marks text) ≡ take n text ++ flat_map f left
  behind-plain text n left len rest =
      front-plain text ∙ ap (λ (k : ℕ). printed k text) (sym len)
      ∙ ap (λ (ms : List Mark). take n text ++ flat_map f ms) (sym (rest ∙ ap marks (take_rest text n)))

pub plain-escaped : (text : List ℕ) (n : ℕ) (left : List Mark) → n ≡ plain_len text → left ≡ marks (take (length text - n) (drop n text))
    → flat_map shown (marks text) ≡ take n text ++ flat_map shown left
plain-escaped = behind-plain shown shown-plain

pub plain-quoted : (text : List ℕ) (n : ℕ) (left : List Mark) → n ≡ plain_len text → left ≡ marks (take (length text - n) (drop n text))
    → flat_map quoted_mark (marks text) ≡ take n text ++ flat_map quoted_mark left
plain-quoted = behind-plain quoted_mark quoted-plain
