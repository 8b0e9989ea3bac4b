-- The lines of base64 are read back.
use Rattle.std.proofs.Common.{◌≡◌, ℕ, zero, suc, ◌+◌, ◌-◌, ◌*◌, ◌/◌, ◌%◌, ◌==◌, Bool, true, false, not, ◌&&◌, if◌then◌else◌, List, [], ◌∷◌, length, replicate, slice_index, refl, ap, ◌∙◌}
use Rattle.std.specs.List.{list_all}
use Rattle.std.proofs.lemmas.Bool.{and_parts, and_from}
use Rattle.std.proofs.lemmas.List.Folds.{list_all-append}
use Rattle.base64.specs.Engines.{standard}
use Rattle.base64.specs.GeneralPurpose.{decode_of, encode_of, engine_symbols}
use Rattle.base64.specs.Rfc4648.{encode_symbols}
use Rattle.base64.proofs.EngineFacts.{decode_of-encode_of}
use Rattle.blog_event.specs.File.{AreBytes}
use Rattle.blog_sql.specs.Laws.{AreReadBack, is_plain, joined_lines}
use Rattle.blog_sql.specs.Sql.{base64_lines, in_lines}

-- ---- symbols

-- one of plain bytes, or zero where there is none
plain-at : (t : List ℕ) (k : ℕ) → list_all is_plain t ≡ true → is_plain (slice_index t k) ≡ true
plain-at [] k all = refl
plain-at (c ∷ t) zero all = (and_parts (is_plain c) (list_all is_plain t) all).0
plain-at (c ∷ t) (suc k) all = plain-at t k (and_parts (is_plain c) (list_all is_plain t) all).1

plain-more : (t : List ℕ) (k : ℕ) (text : List ℕ) → list_all is_plain t ≡ true → list_all is_plain text ≡ true → list_all is_plain (slice_index t k ∷ text) ≡ true
plain-more t k text all others = and_from (is_plain (slice_index t k)) (list_all is_plain text) (plain-at t k all) others

plain-symbols : (t m : List ℕ) → list_all is_plain t ≡ true → list_all is_plain (encode_symbols t m) ≡ true
unfolding encode_symbols
plain-symbols t [] all = refl
plain-symbols t (a ∷ []) all = plain-more t (a / 4) (slice_index t (a % 4 * 16) ∷ []) all (plain-more t (a % 4 * 16) [] all refl)
plain-symbols t (a ∷ b ∷ []) all =
    let third : List ℕ = slice_index t (b % 16 * 4) ∷ [] in
    plain-more t (a / 4) (slice_index t (a % 4 * 16 + b / 16) ∷ third) all (plain-more t (a % 4 * 16 + b / 16) third all (plain-more t (b % 16 * 4) [] all refl))
plain-symbols t (a ∷ b ∷ c ∷ m) all =
    let more : List ℕ = encode_symbols t m in
    let fourth : List ℕ = slice_index t (c % 64) ∷ more in
    let third : List ℕ = slice_index t (b % 16 * 4 + c / 64) ∷ fourth in
    plain-more t (a / 4) (slice_index t (a % 4 * 16 + b / 16) ∷ third) all (plain-more t (a % 4 * 16 + b / 16) third all
    (plain-more t (b % 16 * 4 + c / 64) fourth all (plain-more t (c % 64) more all (plain-symbols t m all))))

plain-pads : (n : ℕ) → list_all is_plain (replicate n 61) ≡ true
plain-pads zero = refl
plain-pads (suc n) = plain-pads n

pub plain-encoded : (bytes : List ℕ) → list_all is_plain (encode_of standard bytes) ≡ true
plain-encoded bytes =
    let symbols : List ℕ = encode_symbols (engine_symbols standard) bytes in
    let pads : List ℕ = replicate ((3 - length bytes % 3) % 3) 61 in
    list_all-append is_plain symbols pads ∙ and_from (list_all is_plain symbols) (list_all is_plain pads) (plain-symbols (engine_symbols standard) bytes refl) (plain-pads ((3 - length bytes % 3) % 3))

-- ---- lines

-- a plain byte is kept
kept : (c : ℕ) (text : List ℕ) → is_plain c ≡ true → joined_lines (c ∷ text) ≡ c ∷ joined_lines text
kept c text one = rw ((and_parts (not (c == 10)) (not (c == 39) && (not (c == 92) && not (c == 59))) one).0) refl

last-end : (b : Bool) → joined_lines (if b then [] else 10 ∷ []) ≡ []
last-end true = refl
last-end false = refl

lines-joined : (room : ℕ) (text : List ℕ) → list_all is_plain text ≡ true → joined_lines (in_lines room text) ≡ text
unfolding in_lines
lines-joined room [] all = last-end (room == 76)
lines-joined zero (c ∷ text) all =
    let parts = and_parts (is_plain c) (list_all is_plain text) all in
    kept c (in_lines 75 text) parts.0 ∙ ap (λ (more : List ℕ). c ∷ more) (lines-joined 75 text parts.1)
lines-joined (suc room) (c ∷ text) all =
    let parts = and_parts (is_plain c) (list_all is_plain text) all in
    kept c (in_lines room text) parts.0 ∙ ap (λ (more : List ℕ). c ∷ more) (lines-joined room text parts.1)

-- ---- bytes

pub lines-read-back : (bytes : List ℕ) → AreBytes bytes → AreReadBack bytes
unfolding base64_lines
lines-read-back bytes are =
    let plain = plain-encoded bytes in
    let joined = lines-joined 76 (encode_of standard bytes) plain in
    record {
      plain = ap (list_all is_plain) joined ∙ plain;
      decoded = ap (decode_of standard) joined ∙ decode_of-encode_of standard bytes refl are;
    }
