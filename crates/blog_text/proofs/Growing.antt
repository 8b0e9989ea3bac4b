-- Texts that grow part by part.
use Rattle.std.proofs.Common.{◌≡◌, ℕ, List, [], ◌∷◌, ◌++◌, refl, sym, ap, ◌∙◌, append_assoc}

-- a part is appended, and the rest is left
pub next-part : (items left all part rest more : List ℕ) → items ++ left ≡ all → left ≡ part ++ rest → more ≡ items ++ part → more ++ rest ≡ all
next-part items left all part rest more so_far splits grown =
    ap (λ (bytes : List ℕ). bytes ++ rest) grown ∙ append_assoc items part rest ∙ ap (λ (bytes : List ℕ). items ++ bytes) (sym splits) ∙ so_far

-- a quote, a part of what it quotes, and the rest of that
pub quote-begun : (quote : ℕ) (old one two part left all : List ℕ) → one ≡ old ++ quote ∷ [] → two ≡ one ++ part → all ≡ part ++ left → two ++ left ≡ old ++ quote ∷ all
quote-begun quote old one two part left all first next splits =
    next-part one all (one ++ all) part left two refl splits next
    ∙ ap (λ (bytes : List ℕ). bytes ++ all) first ∙ append_assoc old (quote ∷ []) all

-- two parts are appended
pub both-parts : (old mid new first second : List ℕ) → mid ≡ old ++ first → new ≡ mid ++ second → new ≡ old ++ (first ++ second)
both-parts old mid new first second one two = two ∙ ap (λ (bytes : List ℕ). bytes ++ second) one ∙ append_assoc old first second
