use Rattle.std.proofs.Common.{◌≡◌, ℕ, suc, ◌+◌, ◌-◌, ◌≤◌, Bool, true, false, List, [], ◌∷◌, ◌++◌, length, take, refl, sym, ap, subst, ◌∙◌, append_assoc, arith}
use Rattle.std.specs.Prelude.{nat_le}
use Rattle.std.specs.List.{flat_map}
use Rattle.std.proofs.lemmas.Bool.{cond-true, cond-false, leb-true}
use Rattle.blog_trans.specs.Changes.{TableCount}
use Rattle.blog_text.specs.Laws.{all_next}
use Rattle.blog_text.specs.Tables.{count_columns, count_text, further_text, more_text, next_columns, next_count}
use Rattle.blog_text.proofs.laws.shown_tables_fit.Goals as goal

-- what is printed behind the first table
abbrev IsBehind : ℕ → ℕ → List TableCount → Type 0
IsBehind room k cs = (further_text room cs ≡ flat_map next_count (take k cs) ++ more_text (length cs - k)) × (all_next (take k cs) + length (more_text (length cs - k)) ≤ room)

others : (room : ℕ) (cs : List TableCount) → length (more_text (length cs)) ≤ room → (k : ℕ) × IsBehind room k cs
others room [] few = (0, (refl, few))
others room (c ∷ cs) few = by_test (nat_le (next_columns c + length (more_text (length cs))) room) refl (others (room - next_columns c) cs) where
  by_test : (fits : Bool) → nat_le (next_columns c + length (more_text (length cs))) room ≡ fits
      → (length (more_text (length cs)) ≤ room - next_columns c → (k : ℕ) × IsBehind (room - next_columns c) k cs) → (k : ℕ) × IsBehind room k (c ∷ cs)
  by_test true is behind =
      let fit = leb-true (next_columns c + length (more_text (length cs))) room is in
      let (k, (text, within)) = behind (omega (arith, fit)) in
      let rest : length cs - k ≡ length (c ∷ cs) - suc k = omega arith in (
        suc k,
        (
          cond-true _ _ _ is ∙ ap (λ (later : List ℕ). next_count c ++ later) text ∙ sym (append_assoc (next_count c) (flat_map next_count (take k cs)) (more_text (length cs - k)))
              ∙ ap (λ (n : ℕ). (next_count c ++ flat_map next_count (take k cs)) ++ more_text n) rest,
          subst (λ (n : ℕ). next_columns c + all_next (take k cs) + length (more_text n) ≤ room) rest (omega (arith, fit, within)),
        ),
      )
  by_test false isnt behind =
      let all : suc (length cs) ≡ length (c ∷ cs) - 0 = omega arith in
      (0, (cond-false _ _ _ isnt ∙ ap more_text all, omega (arith, subst (λ (n : ℕ). length (more_text n) ≤ room) all few)))

pub returns : goal.returns
returns law room c cs fits =
    let (k, (text, within)) = others (room - count_columns c) cs (omega (arith, fits)) in
    (k, (ap (λ (later : List ℕ). count_text c ++ later) text, omega (arith, fits, within)))
