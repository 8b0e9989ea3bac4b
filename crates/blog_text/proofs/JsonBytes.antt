-- Strings of JSON byte by byte, for texts that are UTF-8.
use Rattle.std.specs.List.{flat_map, list_any, prefix_len}
use Rattle.std.specs.Prelude.{◌||◌, Bool}
use Rattle.std.specs.Str.{IsUtf8}
use Rattle.std.specs.Char.{encode_utf8}
use Rattle.std.specs.Str.{encode_utf8_all}
use Rattle.std.proofs.Common.{◌≡◌, ◌≢◌, ℕ, suc, ◌+◌, ◌/◌, ◌%◌, ◌<◌, ◌≤◌, true, false, not, List, [], ◌∷◌, ◌++◌, take, drop, refl, sym, ap, ap₂, ◌∙◌, arith, ⊎_elim, append-nil}
use Rattle.std.proofs.lemmas.Bool.{cases_Bool, cases_lt, or_from, or_parts, cond-true, cond-false, ne_eqb, le-ltb, lt-ltb}
use Rattle.std.proofs.lemmas.Bool.Decides.{nat_tests}
use Rattle.std.proofs.lemmas.List.Concat.{flat_map-append}
use Rattle.std.proofs.lemmas.List.Folds.{list_any-append}
use Rattle.std.proofs.lemmas.Str.{encode_ascii}
use Rattle.bstr.specs.Utf8.{lossy_chars}
use Rattle.bstr.proofs.lemmas.EncodeLemmas.{lossy_chars-utf8}
use Rattle.blog_text.specs.JsonStrings.{is_high_control, json_char}
use Rattle.blog_text.specs.code.JsonBytes.{is_escaped, is_literal, json_byte, may_begin}
use Rattle.blog_text.proofs.Growing.{next-part}

-- which numbers of characters stand for themselves
record IsLiteral (c : ℕ) : Type 0 where
  visible : 0x20 ≤ c
  no_control : is_high_control c ≡ false
  no_quote : c ≢ 0x22
  no_backslash : c ≢ 0x5C

IsLiteral-from : (c : ℕ) → is_escaped c ≡ false → is_high_control c ≡ false → IsLiteral c
IsLiteral-from c literal control = record {
  no_control = control;
  visible = grind (arith, nat_tests);
  no_quote = λ e. grind (arith, nat_tests);
  no_backslash = λ e. grind (arith, nat_tests);
}

char-literal : (c : ℕ) → IsLiteral c → json_char c ≡ encode_utf8 c
char-literal c is =
    cond-false _ _ _ (ne_eqb c 0x22 is.no_quote)
    ∙ cond-false _ _ _ (ne_eqb c 0x5C is.no_backslash)
    ∙ cond-false _ _ _ (ne_eqb c 0x0A (λ e. omega arith))
    ∙ cond-false _ _ _ (ne_eqb c 0x09 (λ e. omega arith))
    ∙ cond-false _ _ _ (ne_eqb c 0x0D (λ e. omega arith))
    ∙ cond-false _ _ _ (ne_eqb c 0x08 (λ e. omega arith))
    ∙ cond-false _ _ _ (ne_eqb c 0x0C (λ e. omega arith))
    ∙ cond-false _ _ _ (ap₂ (λ (low high : Bool). low || high) (le-ltb c 0x20 is.visible) is.no_control)

byte-literal : (byte : ℕ) → is_escaped byte ≡ false → json_byte byte ≡ byte ∷ []
unfolding json_byte
byte-literal byte literal = cond-false _ _ _ literal

byte-escaped : (byte : ℕ) → is_escaped byte ≡ true → json_byte byte ≡ json_char byte
unfolding json_byte
byte-escaped byte escaped = cond-true _ _ _ escaped

-- a number from 128 on
high-literal : (c : ℕ) → 128 ≤ c → is_high_control c ≡ false → IsLiteral c
high-literal c high control = record { no_control = control; visible = omega arith; no_quote = λ e. omega arith; no_backslash = λ e. omega arith }

-- a byte of a character of several
byte-high : (byte : ℕ) → 128 ≤ byte → json_byte byte ≡ byte ∷ []
byte-high byte high = byte-literal byte (grind (arith, nat_tests))

-- an ASCII character
ascii-byte : (c : ℕ) → c < 128 → is_high_control c ≡ false → json_byte c ≡ json_char c
ascii-byte c low control = ⊎_elim
    (λ escaped. byte-escaped c escaped)
    (λ literal. byte-literal c literal ∙ sym (char-literal c (IsLiteral-from c literal control) ∙ encode_ascii c low))
    (cases_Bool (is_escaped c))

-- another
high-bytes : (c : ℕ) → 128 ≤ c → flat_map json_byte (encode_utf8 c) ≡ encode_utf8 c
unfolding encode_utf8
high-bytes c high = ⊎_elim
    (λ (two : c < 2048).
    rw (le-ltb c 128 high, lt-ltb c 2048 two, byte-high (192 + c / 64) (omega arith), byte-high (128 + c % 64) (omega arith)))
    (λ (more : 2048 ≤ c). ⊎_elim
    (λ (three : c < 65536).
    rw (le-ltb c 128 high, le-ltb c 2048 more, lt-ltb c 65536 three, byte-high (224 + c / 4096) (omega arith), byte-high (128 + c / 64 % 64) (omega arith), byte-high (128 + c % 64) (omega arith)))
    (λ (four : 65536 ≤ c).
    rw (le-ltb c 128 high, le-ltb c 2048 more, le-ltb c 65536 four, byte-high (240 + c / 262144) (omega arith), byte-high (128 + c / 4096 % 64) (omega arith), byte-high (128 + c / 64 % 64) (omega arith), byte-high (128 + c % 64) (omega arith)))
    (cases_lt c 65536))
    (cases_lt c 2048)

char-bytes : (c : ℕ) → is_high_control c ≡ false → flat_map json_byte (encode_utf8 c) ≡ json_char c
char-bytes c control = ⊎_elim
    (λ (low : c < 128).
    ap (flat_map json_byte) (encode_ascii c low) ∙ append-nil (json_byte c) ∙ ascii-byte c low control)
    (λ (high : 128 ≤ c). high-bytes c high ∙ sym (char-literal c (high-literal c high control)))
    (cases_lt c 128)

chars-bytes : (cs : List ℕ) → list_any is_high_control cs ≡ false → flat_map json_byte (encode_utf8_all cs) ≡ flat_map json_char cs
chars-bytes [] none = refl
chars-bytes (c ∷ cs) none =
    let parts = or_parts (is_high_control c) (list_any is_high_control cs) none in
    flat_map-append json_byte (encode_utf8 c) (encode_utf8_all cs)
    ∙ ap₂ (λ (first later : List ℕ). first ++ later) (char-bytes c parts.0) (chars-bytes cs parts.1)

-- a character without such a byte is none of these
none-begins : (c : ℕ) → list_any may_begin (encode_utf8 c) ≡ false → is_high_control c ≡ false
unfolding encode_utf8
none-begins c none = ⊎_elim
    (λ (low : c < 128).
    let own : list_any may_begin (c ∷ []) ≡ false = ap (list_any may_begin) (sym (encode_ascii c low)) ∙ none in
    let first = (or_parts (may_begin c) false own).0 in
    grind (arith, nat_tests))
    (λ (high : 128 ≤ c). ⊎_elim
    (λ (two : c < 2048).
    let bytes : encode_utf8 c ≡ (192 + c / 64) ∷ ((128 + c % 64) ∷ []) = rw (le-ltb c 128 high, lt-ltb c 2048 two) refl in
    let own : list_any may_begin ((192 + c / 64) ∷ ((128 + c % 64) ∷ [])) ≡ false = ap (list_any may_begin) (sym bytes) ∙ none in
    let first = (or_parts (may_begin (192 + c / 64)) (list_any may_begin ((128 + c % 64) ∷ [])) own).0 in
    grind (arith, nat_tests))
    (λ (more : 2048 ≤ c). grind (arith, nat_tests))
    (cases_lt c 2048))
    (cases_lt c 128)

none-high : (cs : List ℕ) → list_any may_begin (encode_utf8_all cs) ≡ false → list_any is_high_control cs ≡ false
none-high [] none = refl
none-high (c ∷ cs) none =
    let parts = or_parts _ _ (sym (list_any-append may_begin (encode_utf8 c) (encode_utf8_all cs)) ∙ none) in
    or_from _ _ (none-begins c parts.0) (none-high cs parts.1)

-- the bytes of a text are those of its characters
pub text-bytes : (text : List ℕ) → IsUtf8 text → list_any may_begin text ≡ false → flat_map json_byte text ≡ flat_map json_char (lossy_chars text)
text-bytes text is none =
    let same = lossy_chars-utf8 text is in
    ap (flat_map json_byte) (sym same) ∙ chars-bytes (lossy_chars text) (none-high (lossy_chars text) (ap (list_any may_begin) same ∙ none))

-- the first bytes, up to one that needs an escape, stand for themselves
one-literal : (n m byte : ℕ) (rest : List ℕ) → n ≡ suc m → is_escaped byte ≡ false
    → flat_map json_byte rest ≡ take m rest ++ flat_map json_byte (drop m rest)
    → flat_map json_byte (byte ∷ rest) ≡ take n (byte ∷ rest) ++ flat_map json_byte (drop n (byte ∷ rest))
one-literal n m byte rest len literal after =
    ap₂ (λ (first later : List ℕ). first ++ later) (byte-literal byte literal) after
    ∙ ap (λ (k : ℕ). take k (byte ∷ rest) ++ flat_map json_byte (drop k (byte ∷ rest))) (sym len)

literal-run : (text : List ℕ) → flat_map json_byte text
    ≡ take (prefix_len is_literal text) text ++ flat_map json_byte (drop (prefix_len is_literal text) text)
literal-run [] = refl
literal-run (byte ∷ rest) = ⊎_elim
    (λ escaped.
    ap (λ (k : ℕ). take k (byte ∷ rest) ++ flat_map json_byte (drop k (byte ∷ rest))) (sym (cond-false _ _ _ (ap not escaped))))
    (λ literal. one-literal _ (prefix_len is_literal rest) byte rest (cond-true _ _ _ (ap not literal) ∙ omega arith) literal (literal-run rest))
    (cases_Bool (is_escaped byte))

-- a byte that needs an escape is put
pub escape-put : (first : ℕ) (later rest items new all : List ℕ) → rest ≡ first ∷ later → is_escaped first ≡ true → new ≡ items ++ json_char first
    → items ++ flat_map json_byte rest ≡ all → new ++ flat_map json_byte later ≡ all
escape-put first later rest items new all next escaped put so_far =
    next-part items (flat_map json_byte rest) all (json_char first) (flat_map json_byte later) new so_far
    (ap (flat_map json_byte) next ∙ ap (λ (bytes : List ℕ). bytes ++ flat_map json_byte later) (byte-escaped first escaped))
    put

-- a run of bytes that stand for themselves is
pub run-put : (n : ℕ) (rest literal after items new all : List ℕ) → n ≡ prefix_len is_literal rest → literal ≡ take n rest → after ≡ drop n rest
    → new ≡ items ++ literal → items ++ flat_map json_byte rest ≡ all → new ++ flat_map json_byte after ≡ all
run-put n rest literal after items new all len front back put so_far =
    next-part items (flat_map json_byte rest) all literal (flat_map json_byte after) new so_far
    (literal-run rest
    ∙ ap (λ (k : ℕ). take k rest ++ flat_map json_byte (drop k rest)) (sym len)
    ∙ ap₂ (λ (run later : List ℕ). run ++ flat_map json_byte later) (sym front) (sym back))
    put
