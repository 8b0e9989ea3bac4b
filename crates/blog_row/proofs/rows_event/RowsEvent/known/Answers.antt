use Rattle.std.proofs.Common.{rules, arith, ◌<◌, ◌^◌, ◌∙◌, ℕ, length, sym, ap}
use Rattle.blog_row.specs.RowsKind.{images_a_row}
use Rattle.blog_row.specs.Image.{bitmap_len}
use Rattle.blog_row.specs.code.LayoutView.{layout_columns}
use Rattle.blog_row.specs.RowsEvent.{pieces}
use Rattle.blog_row.specs.code.RowsEventView.{front_seen, bitmaps_seen}
use Rattle.blog_row.proofs.Walking.{rounded_up}
use Rattle.blog_row.proofs.RowsCode.{some_columns, two_lengths, images_are_joined}
use Rattle.blog_row.proofs.KnownRows.{KnownRows, known_rows}
use Rattle.blog_row.proofs.rows_event.RowsEvent.known.Goals as goal
use Rattle.blog_row.proofs.rows_event.RowsEvent.known.Goals.{In-Some-bitmaps_at}

known : (c : In-Some-bitmaps_at) → KnownRows c.args.kind (layout_columns c.args.layout.now) c.args.body.now (front_seen c.in-Some.front) c.in-Some-packed_at.count.spelling.now (bitmaps_seen c.args.kind.action c.in-Some-bitmaps_at.bitmaps)
known c =
    let len = ap bitmap_len (sym c.columns.ensures) ∙ sym (c.div_ceil-len.ensures ∙ rounded_up _) in
    known_rows _ _ _ _ _ _ (some_columns c.args.layout.now) c.requires (sym c.in-Some.ensures) (sym c.in-Some-packed_at.ensures) (ap (λ (k : ℕ). pieces (images_a_row c.args.kind.action) k c.in-Some-packed_at.count.rest.now) len ∙ sym c.in-Some-bitmaps_at.ensures.exact)

pub invariant_of-result : goal.invariant_of-result
invariant_of-result c =
    let known = known (goal.at.invariant_of-result c).In-Some-bitmaps_at in
    let two = two_lengths c.args.kind.action _ _ c.in-Some-bitmaps_at.ensures.two in
    let joined = ap length (images_are_joined (layout_columns c.args.layout.now) c.in-Some-bitmaps_at.bitmaps.rest.now known.imaged) in
    let short : length c.args.body.now < 2 ^ 64 = search rules in
    record {
      id_len = known.lengths.id_len;
      flags_len = known.lengths.flags_len;
      extra_long = known.lengths.extra_long;
      fits = omega (arith, known.lengths.within, two, joined, short);
      two = c.in-Some-bitmaps_at.ensures.two;
      imaged = known.imaged;
    }
