use Rattle.std.proofs.Common.{◌≡◌, ◌+◌, ◌*◌, ◌/◌, ◌%◌, ◌^◌, ◌<◌, ℕ, [], ap, sym, ◌∙◌, arith}
use Rattle.std.proofs.lemmas.List.{append-nil}
use Rattle.blog_value.specs.Digits.{padded}
use Rattle.blog_value.specs.Decimals.{group_at, group_width, without_zeros}
use Rattle.blog_value.proofs.DecimalDigits.{lead-alone, nine-behind, nine-fits}
use Rattle.std.proofs.lemmas.Bool.{and_parts}
use Rattle.blog_value.proofs.decimal_texts.put_whole.Goals as goal

pub groups-init : goal.groups-init
unfolding without_zeros
groups-init g c =
    lead-alone c.args.out.now.items c.put_group.new.out.items (c.args.digits % 9) c.group_at.result (group_width (c.args.digits % 9)) c.args.bytes.now
    c.group_at.ensures (c.in_ok-put_group.ensures c.args.out.now.items [] (omega (arith, c.len-start.ensures)) (sym (append-nil c.args.out.now.items)))

pub put_group-requires-in-groups-clause-fits : goal.put_group-requires-in-groups-clause-fits
put_group-requires-in-groups-clause-fits g c =
    let width : ℕ = group_width (c.args.digits % 9) in
    let place : c.group_bytes-place.result ≡ width = c.group_bytes-place.ensures in
    let fits : group_at 9 (width + 4 * c.groups.i) c.args.bytes.now < 10 ^ 9 =
    nine-fits (c.args.digits / 9) width c.groups.i c.args.bytes.now (and_parts _ _ c.requires.fits).1 (omega (arith, c.groups-test.true, c.from-i-end.ensures)) in
    let group : c.group_at-in-groups.result ≡ group_at 9 (width + 4 * c.groups.i) c.args.bytes.now =
    c.group_at-in-groups.ensures ∙ ap (λ (p : ℕ). group_at 9 (p + 4 * c.groups.i) c.args.bytes.now) place in
    omega (arith, fits, group)

pub groups-preserved : goal.groups-preserved
groups-preserved g c =
    let width : ℕ = group_width (c.args.digits % 9) in
    let group : c.group_at-in-groups.result ≡ group_at 9 (width + 4 * c.groups.i) c.args.bytes.now =
    c.group_at-in-groups.ensures ∙ ap (λ (p : ℕ). group_at 9 (p + 4 * c.groups.i) c.args.bytes.now) c.group_bytes-place.ensures in
    nine-behind c.args.out.now.items (padded (c.args.digits % 9) (group_at (c.args.digits % 9) 0 c.args.bytes.now)) c.put_group-in-groups.new.out.items c.groups.i width
    c.group_at-in-groups.result c.args.bytes.now group
    (c.in_ok-put_group-2.ensures c.args.out.now.items _ (omega (arith, c.len-start.ensures)) c.groups.invariant)
