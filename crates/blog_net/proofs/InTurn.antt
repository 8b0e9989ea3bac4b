-- Rows that are taken from the front of updates.
use Rattle.std.proofs.Common.{◌≡◌, ℕ, ◌+◌, ◌-◌, ◌≤◌, ◌==◌, Bool, true, false, List, [], ◌∷◌, ◌++◌, length, drop, map, refl, sym, ap, subst, ◌∙◌, append-nil, append_assoc, length-drop, arith}
use Rattle.std.specs.Prelude.{Decides}
use Rattle.std.proofs.lemmas.Bool.{false≢true}
use Rattle.std.proofs.lemmas.Bool.Decides.{Decides-eqb, Decides-like}
use Rattle.std.proofs.lemmas.List.{append_cancel_left, drop-drop, drop_all}
use Rattle.blog_net.specs.code.RowBytes.{AreOthers, IsBehind, RowBytes, update_row}
use Rattle.blog_net.specs.declared.update.NetUpdate.{NetUpdate}

-- so many rows are those of the first updates, and these updates and rows are left
pub record AreMatched (us : List NetUpdate) (rows : List RowBytes) (left : List NetUpdate) (rest : List RowBytes) : Type 0 where
  pub done : List RowBytes
  pub before : map update_row us ≡ done ++ map update_row left
  pub given : rows ≡ done ++ rest

pub matched-none : (us : List NetUpdate) (rows rest : List RowBytes) → rest ≡ rows → AreMatched us rows us rest
matched-none us rows rest is = record { done = []; before = refl; given = sym is }

-- the first rows that are left are those of the first updates that are
pub matched-more : (us left behind : List NetUpdate) (rows rest part later : List RowBytes) → rest ≡ part ++ later → IsBehind left part behind → AreMatched us rows left rest → AreMatched us rows behind later
matched-more us left behind rows rest part later first is h = record {
  done = h.done ++ part;
  before = h.before ∙ ap (λ (rs : List RowBytes). h.done ++ rs) is ∙ sym (append_assoc h.done part (map update_row behind));
  given = h.given ∙ ap (λ (rs : List RowBytes). h.done ++ rs) first ∙ sym (append_assoc h.done part later);
}

-- or they aren't
pub matched-other : (us left : List NetUpdate) (rows rest part later : List RowBytes) → rest ≡ part ++ later → AreOthers left part → AreMatched us rows left rest → AreOthers us rows
matched-other us left rows rest part later first others h = λ more same.
    others (later ++ more)
    (append_cancel_left h.done (map update_row left) (part ++ (later ++ more))
    (sym h.before ∙ same ∙ ap (λ (rs : List RowBytes). rs ++ more) (h.given ∙ ap (λ (rs : List RowBytes). h.done ++ rs) first) ∙ append_assoc h.done (part ++ later) more
    ∙ ap (λ (rs : List RowBytes). h.done ++ rs) (append_assoc part later more)))

-- no rows are left
pub matched-all : (us left : List NetUpdate) (rows rest : List RowBytes) → rest ≡ [] → AreMatched us rows left rest → IsBehind us rows left
matched-all us left rows rest none h =
    h.before ∙ ap (λ (rs : List RowBytes). rs ++ map update_row left) (sym (h.given ∙ ap (λ (rs : List RowBytes). h.done ++ rs) none ∙ append-nil h.done))

-- ---- whether they are the rows of the updates

pub others-false : (us : List NetUpdate) (rows : List RowBytes) → AreOthers us rows → Decides false (rows ≡ map update_row us)
others-false us rows others = (λ e. absurd (false≢true e), λ same. absurd (others [] (sym same ∙ sym (append-nil rows))))

abbrev are-some : {A : Type 0} → List A → Bool
are-some [] = false
are-some (x ∷ xs) = true

pub left-decides : (us left : List NetUpdate) (rows : List RowBytes) (none : Bool) → IsBehind us rows left → Decides none (left ≡ []) → Decides none (rows ≡ map update_row us)
left-decides us [] rows none is h = (λ e. sym (is ∙ append-nil rows), λ same. h.1 refl)
left-decides us (u ∷ left) rows none is h = (
  λ e. sym (is ∙ ap (λ (us : List NetUpdate). rows ++ map update_row us) (h.0 e) ∙ append-nil rows),
  λ same. absurd (false≢true (ap are-some (append_cancel_left rows [] (map update_row (u ∷ left)) (append-nil rows ∙ same ∙ is)))),
)

-- ---- updates from a number on

-- so many of them are of the first rows that are left
pub matched-from : (us part-of : List NetUpdate) (at many : ℕ) (rows rest part later : List RowBytes) → part-of ≡ drop at us → rest ≡ part ++ later → IsBehind part-of part (drop many part-of)
    → AreMatched us rows (drop at us) rest → AreMatched us rows (drop (at + many) us) later
matched-from us part-of at many rows rest part later same first behind h =
    let own : IsBehind (drop at us) part (drop many (drop at us)) = subst (λ (vs : List NetUpdate). IsBehind vs part (drop many vs)) same behind in
    subst (λ (vs : List NetUpdate). AreMatched us rows vs later) (drop-drop many at us) (matched-more us (drop at us) (drop many (drop at us)) rows rest part later first own h)

pub other-from : (us part-of : List NetUpdate) (at : ℕ) (rows rest part later : List RowBytes) → part-of ≡ drop at us → rest ≡ part ++ later → AreOthers part-of part
    → AreMatched us rows (drop at us) rest → AreOthers us rows
other-from us part-of at rows rest part later same first others h =
    matched-other us (drop at us) rows rest part later first (subst (λ (vs : List NetUpdate). AreOthers vs part) same others) h

-- none are left at their end
at-end : (us : List NetUpdate) (at : ℕ) → at ≤ length us → drop at us ≡ [] → at ≡ length us
at-end us at within none = let left = length-drop at us in let nothing = ap length none in omega (arith, within, left, nothing)

end-decides : (us : List NetUpdate) (at : ℕ) → at ≤ length us → Decides (at == length us) (drop at us ≡ [])
end-decides us at within = Decides-like (at == length us) (λ e. drop_all at us (omega (arith, e))) (at-end us at within) (Decides-eqb at (length us))

pub all-decides : (us : List NetUpdate) (at : ℕ) (rows rest : List RowBytes) → at ≤ length us → rest ≡ [] → AreMatched us rows (drop at us) rest → Decides (at == length us) (rows ≡ map update_row us)
all-decides us at rows rest within none h = left-decides us (drop at us) rows (at == length us) (matched-all us (drop at us) rows rest none h) (end-decides us at within)
