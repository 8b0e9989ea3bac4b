-- Lines of base64.
use Rattle.std.proofs.Common.{◌≡◌, ℕ, suc, ◌-◌, ◌/◌, ◌<◌, ◌≤◌, List, ◌∷◌, ◌++◌, length, take, drop, length-drop, sym, ap, ◌∙◌, arith, append_assoc}
use Rattle.base64.specs.Engines.{standard}
use Rattle.base64.specs.GeneralPurpose.{encode_of, encoded_size_of}
use Rattle.blog_json.specs.Opaques.{lines_text, lines_of}

-- so many lines are left behind the first
fewer_lines : (n : ℕ) → 57 < n → (n - 1) / 57 ≡ suc ((n - 57 - 1) / 57)
fewer_lines n more = omega arith

-- a line that others follow
pub next_line : (bytes : List ℕ) → 57 < length bytes → lines_of bytes ≡ encode_of standard (take 57 bytes) ++ (92 ∷ 110 ∷ lines_of (drop 57 bytes))
unfolding lines_of lines_text
next_line bytes more =
    let fewer : (length bytes - 1) / 57 ≡ suc ((length (drop 57 bytes) - 1) / 57) = rw (length-drop 57 bytes) (fewer_lines (length bytes) more) in
    ap (λ (lines : ℕ). lines_text lines bytes) fewer

-- the last line
pub last_line : (bytes : List ℕ) → length bytes ≤ 57 → lines_of bytes ≡ encode_of standard bytes
unfolding lines_of lines_text
last_line bytes few =
    let none : (length bytes - 1) / 57 ≡ 0 = omega arith in
    ap (λ (lines : ℕ). lines_text lines bytes) none

-- a line has room in 76 characters
pub line_size : (bytes : List ℕ) → length bytes ≤ 57 → encoded_size_of standard (length bytes) ≤ 76
line_size bytes few = omega arith

-- a line and what is between it and the next are appended, and what is left follows
pub line_appended : (out first later line between rest left all : List ℕ) → first ≡ out ++ line → later ≡ first ++ between → left ≡ line ++ (between ++ rest) → out ++ left ≡ all → later ++ rest ≡ all
line_appended out first later line between rest left all is then ahead whole =
    ap (λ (x : List ℕ). x ++ rest) (then ∙ ap (λ (x : List ℕ). x ++ between) is) ∙ (simp append_assoc) ∙ ap (λ (x : List ℕ). out ++ x) (sym ahead) ∙ whole
