use Rattle.std.proofs.Common.{◌≡◌, ◌==◌, ℕ, false, List, [], ◌∷◌, ◌++◌, length, Some, refl, sym, ap, ◌∙◌}
use Rattle.std.specs.Prelude.{codes, option_map}
use Rattle.std.proofs.lemmas.Result.{on_ok_weaker}
use Rattle.blog_text.proofs.Growing.{both-parts}
use Rattle.blog_text.specs.Escapes.{escaped}
use Rattle.undo_run.specs.After.{Place}
use Rattle.undo_run.specs.Reports.{next_text}
use Rattle.undo_run.specs.code.SinceView.{place_seen}
use Rattle.undo_run.proofs.since.put_next.Goals as goal

-- a log goes on in one that has a name
next-told : (p : Place) (next : List ℕ) → (length next == 0) ≡ false
    → escaped p.name ++ (codes " goes on in " ++ (escaped next ++ codes ": give that as the next --later\n")) ≡ next_text (Some p) next
next-told p [] some = cc
next-told p (byte ∷ name) some = refl

pub returns-in_ok-put_escaped-in-Some-2 : goal.returns-in_ok-put_escaped-in-Some-2
returns-in_ok-put_escaped-in-Some-2 g c =
    let old : List ℕ = c.args.out.now.items in
    let one : List ℕ = c.put_escaped.new.out.items in
    let two : List ℕ = c.put_text.new.out.items in
    let three : List ℕ = c.put_escaped-in-Some.new.out.items in
    let new : List ℕ = c.put_text-in-Some.new.out.items in
    let told = next-told (place_seen c.in-Some.place) c.args.next.now (sym c.is_empty.ensures ∙ c.if-not-is_empty.true)
    ∙ ap (λ end. next_text (option_map place_seen end) c.args.next.now) (sym c.in-Some.is) in
    on_ok_weaker c.put_text-in-Some.result
    (λ last. both-parts old one new _ _ c.in_ok-put_escaped-in-Some.ensures
    (both-parts one two new _ _ c.in_ok-put_text-in-Some.ensures (both-parts two three new _ _ c.in_ok-put_escaped-in-Some-2.ensures last)) ∙ ap (λ (text : List ℕ). old ++ text) told)
    c.put_text-in-Some.ensures
