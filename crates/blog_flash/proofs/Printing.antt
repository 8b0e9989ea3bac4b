-- Texts that grow part by part.
use Rattle.std.proofs.Common.{◌≡◌, ℕ, ◌+◌, ◌≤◌, List, [], ◌++◌, length, Result, Ok, Err, IsOk, sym, ap, ◌∙◌, append_assoc, append-nil, arith, length-append}

-- a part is appended, and the rest is left
pub next-part : (items left all part rest more : List ℕ) → items ++ left ≡ all → left ≡ part ++ rest → more ≡ items ++ part → more ++ rest ≡ all
next-part items left all part rest more so_far splits grown =
    ap (λ (bytes : List ℕ). bytes ++ rest) grown ∙ append_assoc items part rest ∙ ap (λ (bytes : List ℕ). items ++ bytes) (sym splits) ∙ so_far

-- none is left
pub no-part : (items left all : List ℕ) → items ++ left ≡ all → left ≡ [] → items ≡ all
no-part items left all so_far none = sym (append-nil items) ∙ ap (λ (bytes : List ℕ). items ++ bytes) (sym none) ∙ so_far

-- ---- room

-- what has room isn't refused
pub not-refused : {T E R : Type 0} (r : Result T E) (e : E) → r ≡ Err e → IsOk r → R
not-refused (Ok x) e is ok = cc
not-refused (Err x) e is ok = cc

-- where the text has room, so has a part of it, which isn't refused then
pub has-room : {T E R : Type 0} (items left old text part rest : List ℕ) (len cap old_len old_cap : ℕ) (r : Result T E) (e : E) → r ≡ Err e → (len + length part ≤ cap → IsOk r)
    → items ++ left ≡ old ++ text → left ≡ part ++ rest → len ≡ length items → old_len ≡ length old → old_cap ≤ cap → old_len + length text ≤ old_cap → R
has-room items left old text part rest len cap old_len old_cap r e is room so_far splits here there grown enough =
    let whole : length items + length left ≡ length old + length text = simp length-append at (ap length so_far) in
    let parts : length left ≡ length part + length rest = ap length splits ∙ length-append part rest in
    not-refused r e is (room (omega arith))
