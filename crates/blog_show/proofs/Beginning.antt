-- Lines that begin with the same text.
use Rattle.std.proofs.Common.{◌≡◌, ℕ, List, [], ◌∷◌, ◌++◌, append_assoc, refl}
use Rattle.blog_show.specs.Shown.{BeginsLine, PutsLine}
use Rattle.blog_show.specs.declared.forms.RowForm.{RowForm}

line : (front digits : List ℕ) (mark : ℕ) (told rest old : List ℕ) → ((old ++ (front ++ (digits ++ (mark ∷ told)))) ++ rest) ++ 10 ∷ [] ≡ old ++ (front ++ (digits ++ (mark ∷ ((told ++ rest) ++ 10 ∷ []))))
line front digits mark told rest old = simp append_assoc refl

-- what a line begins with, the rest and a newline are a line
pub puts_line : (form : RowForm) (place : ℕ) (begin rest old : List ℕ) → BeginsLine form place begin → PutsLine form place old (((old ++ begin) ++ rest) ++ 10 ∷ [])
puts_line form place begin rest old h = (h.0 ++ rest, rw h.1 (line _ _ _ h.0 rest old))
