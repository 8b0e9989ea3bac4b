-- The marks of bytes, one after the other.
use Rattle.std.specs.Prelude.{slice_get, ⊤}
use Rattle.std.specs.Iterator.{MakesProgress, at_most}
use Rattle.std.proofs.Common.{◌≡◌, ℕ, zero, suc, ◌-◌, ◌<◌, List, [], ◌∷◌, length, take, drop, Option, Some, None, refl, sym, ap, ap₂, ◌∙◌, arith}
use Rattle.std.proofs.lemmas.List.{take_rest}
use Rattle.bstr.specs.Utf8.{decoded}
use Rattle.bstr.proofs.lemmas.PieceLemmas.{piece-bounds}
use Rattle.blog_text.specs.declared.marks.Marks.{Marks}
use Rattle.blog_text.specs.code.MarksView.{bytes_left}
use Rattle.blog_text.specs.declared.marks.Mark.TheVariants.{Character, Byte}
use Rattle.blog_text.specs.Escapes.{mark_of, marks_behind, marks, more_of}

behind-drop : (n : ℕ) (bs : List ℕ) → marks_behind n bs ≡ marks (drop n bs)
unfolding marks_behind
behind-drop zero bs = refl
behind-drop (suc n) [] = refl
behind-drop (suc n) (b ∷ bs) = behind-drop n bs

past-first : (n b : ℕ) (bs : List ℕ) → 0 < n → drop (n - 1) bs ≡ drop n (b ∷ bs)
past-first zero b bs h = absurd (omega arith)
past-first (suc n) b bs h = let e : suc n - 1 ≡ n = omega arith in ap (λ k. drop k bs) e

pub none-left : (bs : List ℕ) → length bs ≡ 0 → marks bs ≡ []
unfolding marks_behind
none-left [] none = refl
none-left (b ∷ bs) none = absurd (omega arith)

pub character-first : (bs : List ℕ) (c n : ℕ) → 0 < length bs → (decoded bs).char ≡ Some c → n ≡ (decoded bs).size → marks bs ≡ Character c ∷ marks (take (length bs - n) (drop n bs))
unfolding marks_behind
character-first [] c n some char size = absurd (omega arith)
character-first (b ∷ bs) c n some char size =
    let bounds = piece-bounds (b ∷ bs) some in
    let long : 0 < n = omega (arith, bounds.0, size) in
    ap₂ (λ (found : Option ℕ) (long : ℕ). mark_of b found ∷ marks_behind (more_of found long) bs) char (sym size)
    ∙ ap (λ (left : List _). Character c ∷ left) (behind-drop (n - 1) bs ∙ ap marks (past-first n b bs long ∙ sym (take_rest (b ∷ bs) n)))

pub byte-first : (bs : List ℕ) (b : ℕ) → Some b ≡ slice_get bs 0 → (decoded bs).char ≡ None → marks bs ≡ Byte b ∷ marks (take (length bs - 1) (drop 1 bs))
unfolding marks_behind
byte-first [] b is char = cc
byte-first (first ∷ bs) b is char =
    let same : b ≡ first = cc in
    ap (λ (found : Option ℕ). mark_of first found ∷ marks_behind (more_of found (decoded (first ∷ bs)).size) bs) char
    ∙ ap₂ (λ (byte : ℕ) (left : List ℕ). Byte byte ∷ marks left) (sym same) (sym (take_rest (first ∷ bs) 1))

-- a mark is taken, and fewer bytes are left
pub goes : {I : Type 0} (item : I) (s t : Marks) → length t.rest.now < length s.rest.now → MakesProgress (λ _. ⊤) (λ left. at_most (bytes_left left)) s (Some item) t
goes item s t less = record { on = λ _. (tt, tt, less); keeps = tt; rests = λ _. tt }
