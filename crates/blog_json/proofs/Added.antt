-- What was appended to a text.
use Rattle.std.proofs.Common.{◌≡◌, ℕ, List, ◌++◌, length, take, drop, arith, sym, ◌∙◌, ap, append_assoc}
use Rattle.std.proofs.lemmas.List.{take-append-drop}
use Rattle.std.proofs.lemmas.Grind.{common_steps}
use Rattle.blog_json.specs.Texts.{Keeps, added}
use Rattle.blog_json.proofs.Keeping.{begins_itself}

-- what was appended is what stands behind
pub added_is : (old text : List ℕ) → added old (old ++ text) ≡ text
added_is old text = grind (arith, common_steps)

-- a text that kept what it had is that and what was added
pub kept_is : (old new : List ℕ) → Keeps old new → new ≡ old ++ added old new
kept_is old new kept =
    let begins : take (length old) new ≡ old = (kept old (begins_itself old)).is in
    sym (ap (λ (x : List ℕ). x ++ drop (length old) new) (sym begins) ∙ take-append-drop (length old) new)

-- what was appended three times
pub added_more : (old first second new : List ℕ) → Keeps old first → Keeps first second → Keeps second new → added old new ≡ added old first ++ (added first second ++ added second new)
added_more old first second new a b c =
    let whole : new ≡ old ++ (added old first ++ (added first second ++ added second new)) =
    kept_is second new c ∙ ap (λ (x : List ℕ). x ++ added second new) (kept_is first second b ∙ ap (λ (x : List ℕ). x ++ added first second) (kept_is old first a)) ∙ simp append_assoc in
    ap (added old) whole ∙ added_is old _

-- what was appended between two others
pub added_between : (old opened out new front back : List ℕ) → opened ≡ old ++ front → Keeps opened out → new ≡ out ++ back → added old new ≡ front ++ (added opened out ++ back)
added_between old opened out new front back is kept closed =
    let whole : new ≡ old ++ (front ++ (added opened out ++ back)) =
    closed ∙ ap (λ (x : List ℕ). x ++ back) (kept_is opened out kept ∙ ap (λ (x : List ℕ). x ++ added opened out) is) ∙ simp append_assoc in
    ap (added old) whole ∙ added_is old _
