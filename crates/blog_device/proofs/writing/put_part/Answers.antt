-- After a write that took bytes, those are appended, the rest is shorter by them, and the mark is as it was.
use Rattle.std.proofs.Common.{◌≡◌, ◌≢◌, ◌-◌, ◌++◌, ◌==◌, ◌&&◌, ◌||◌, ℕ, Bool, List, take, drop, length, sym, ap, ◌∙◌, append_assoc, take-append-drop}
use Rattle.std.proofs.Math.Bool.{or-false}
use Rattle.std.proofs.lemmas.Bool.{ne_eqb}
use Rattle.std.proofs.lemmas.List.{take_rest}
use Rattle.std.proofs.KnownBytes.{Appends-trans}
use Rattle.blog_device.proofs.writing.put_part.Goals as goal

moves_front : (all done rest : List ℕ) (n : ℕ) → all ≡ done ++ rest → all ≡ (done ++ take n rest) ++ take (length rest - n) (drop n rest)
moves_front all done rest n e =
    e ∙ ap (λ l. done ++ l) (sym (take-append-drop n rest)) ∙ sym (append_assoc done (take n rest) (drop n rest)) ∙ ap (λ l. (done ++ take n rest) ++ l) (sym (take_rest rest n))

-- a write that took bytes leaves the mark
unmarked : (mark : Bool) (taken : ℕ) (has_bytes : Bool) → taken ≢ 0 → (mark || ((taken == 0) && has_bytes)) ≡ mark
unmarked mark taken has_bytes some = let none = ne_eqb taken 0 some in rw (none, or-false)

pub loop-rest-preserved : goal.loop-rest-preserved
loop-rest-preserved g c =
    let (done, split, appended) = c.loop-rest.invariant.bytes in
    let rest = c.loop-rest.rest.now in
    let taken = c.in-Ok.taken in
    record {
      mark = c.in-Ok.ensures.mark ∙ unmarked _ taken _ c.in-Ok.taken-test.1 ∙ c.loop-rest.invariant.mark;
      bytes = (done ++ take taken rest, moves_front _ done rest taken split, Appends-trans _ _ _ _ _ appended c.in-Ok.ensures.bytes);
    }
