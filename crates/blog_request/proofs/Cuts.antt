-- A text is cut at the first byte of a value.
use Rattle.std.proofs.Common.{◌≡◌, ℕ, ◌+◌, ◌-◌, List, length, take, drop, Option, Some, None, ap, ◌∙◌, option_map}
use Rattle.std.specs.Prelude.{◌==◌, position}
use Rattle.std.proofs.lemmas.List.{take_rest}
use Rattle.blog_request.specs.Ids.{cut_at}

-- the parts by the place of the byte, or none
abbrev parted : List ℕ → Option ℕ → Option (List ℕ × List ℕ)
parted text found = option_map (λ at. (take at text, drop (at + 1) text)) found

pub cut-some : (byte : ℕ) (text : List ℕ) (at : ℕ) → Some at ≡ position (λ b. b == byte) text
    → Some (take at text, take (length text - (at + 1)) (drop (at + 1) text)) ≡ cut_at byte text
cut-some byte text at h =
    let with_rest : List ℕ → Option (List ℕ × List ℕ) = λ rest. Some (take at text, rest) in
    ap with_rest (take_rest text (at + 1)) ∙ ap (parted text) h

pub cut-none : (byte : ℕ) (text : List ℕ) → None ≡ position (λ b. b == byte) text → None ≡ cut_at byte text
cut-none byte text h = ap (parted text) h
