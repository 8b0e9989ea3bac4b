use Rattle.std.proofs.Common.{◌≡◌, ◌+◌, ◌∷◌, ◌++◌, [], List, ℕ, length, map, ap, ◌∙◌, arith}
use Rattle.std.proofs.lemmas.List.{length-map, map-append}
use Rattle.undo_run.specs.Several.{Begun}
use Rattle.undo_run.specs.code.NamesView.{begun_told}
use Rattle.undo_run.specs.declared.log_names.Begun as begun
use Rattle.undo_run.proofs.log_names.Names.with.Goals as goal

pub returns : goal.returns
returns g c =
    let more : List begun.Begun = c.args.self.more.items in
    let count = length-map more begun_told in
    let number : c.len-number.result + 1 ≡ length (map begun_told more) + 1 = omega (arith, c.len-number.ensures, c.args.self.more.ok.0, count) in
    let items : map begun_told c.push.new.self.items ≡ map begun_told more ++ record { number = length (map begun_told more) + 1; start = c.args.start; name = c.args.name.now } ∷ [] =
    ap (map begun_told) c.in_ok-push.ensures.items ∙ map-append begun_told more (_ ∷ [])
    ∙ ap (λ (n : ℕ). map begun_told more ++ record { number = n; start = c.args.start; name = c.args.name.now } ∷ []) number in
    λ i. record { first = c.args.self.first.now; more = items i; last = c.args.start }
