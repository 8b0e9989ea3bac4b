use Rattle.std.proofs.Common.{◌≡◌, ◌++◌, ◌+◌, ◌*◌, ℕ, List, ap, sym, ◌∙◌, arith, append_assoc}
use Rattle.std.proofs.lemmas.List.{append-nil}
use Rattle.blog_value.specs.Digits.{padded}
use Rattle.blog_value.specs.Decimals.{group_at, nines}
use Rattle.blog_value.proofs.DecimalDigits.{nines-more, nines-none}
use Rattle.blog_value.proofs.decimal_texts.put_nines.Goals as goal

pub groups-init : goal.groups-init
groups-init g c = sym (ap (λ (digits : List ℕ). c.args.out.now.items ++ digits) (nines-none 0 c.args.bytes.now) ∙ append-nil c.args.out.now.items)

pub groups-preserved : goal.groups-preserved
groups-preserved g c =
    let place : 0 + 4 * c.groups.i ≡ 4 * c.groups.i = omega arith in
    let group : c.group_at.result ≡ group_at 9 (0 + 4 * c.groups.i) c.args.bytes.now = c.group_at.ensures ∙ ap (λ (at : ℕ). group_at 9 at c.args.bytes.now) (sym place) in
    c.in_ok-put_padded.ensures
    ∙ ap (λ (items : List ℕ). items ++ padded c.from.result c.group_at.result) c.groups.invariant
    ∙ ap (λ (width : ℕ). (c.args.out.now.items ++ nines c.groups.i 0 c.args.bytes.now) ++ padded width c.group_at.result) c.from.ensures
    ∙ append_assoc c.args.out.now.items (nines c.groups.i 0 c.args.bytes.now) (padded 9 c.group_at.result)
    ∙ ap (λ (digits : List ℕ). c.args.out.now.items ++ digits)
    (ap (λ (n : ℕ). nines c.groups.i 0 c.args.bytes.now ++ padded 9 n) group ∙ sym (nines-more c.groups.i 0 c.args.bytes.now))
