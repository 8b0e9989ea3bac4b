use Rattle.std.proofs.Common.{rules, arith, ◌≡◌, ◌<◌, ◌^◌, ◌%◌, ◌∙◌, true, [], length, eqb, unwrap_or, Ok, refl, sym, ap}
use Rattle.std.proofs.lemmas.Bool.{eq-eqb}
use Rattle.blog_row.specs.Image.{bitmap_len, images_of}
use Rattle.blog_row.specs.RowsKind.{images_a_row}
use Rattle.blog_row.specs.RowsEvent.{bitmaps_by, rows_of}
use Rattle.blog_row.specs.code.LayoutView.{layout_columns}
use Rattle.blog_row.proofs.Cutting.{map_found}
use Rattle.blog_row.proofs.Walking.{rounded_up}
use Rattle.blog_row.proofs.RowsCode.{body_parts, counted_are_there, some_columns, front_lengths, two_lengths, images_are_joined}
use Rattle.blog_row.proofs.rows_event.RowsEvent.at.Goals as goal
use Rattle.blog_row.proofs.rows_event.RowsEvent.at.Goals.{After-images_a_row}

-- all of it
all : (c : After-images_a_row) → c.in-Some-images_in.len % c.images_a_row.result ≡ 0 → rows_of c.args.kind (layout_columns c.args.layout.now) c.args.body.now ≡ Ok (record {
  id = c.in-Some.front.id.now;
  flags = c.in-Some.front.flags.now;
  extra_len = c.in-Some.front.extra_len.now;
  extra = c.in-Some.front.extra.now;
  count = c.in-Some-packed_at.count.spelling.now;
  bitmaps = bitmaps_by c.args.kind.action c.in-Some-bitmaps_at.bitmaps.first.now c.in-Some-bitmaps_at.bitmaps.second.now;
  images = unwrap_or (images_of (layout_columns c.args.layout.now) c.in-Some-bitmaps_at.bitmaps.rest.now) [];
})
all c whole =
    let own = eq-eqb _ _ (c.if-count-columns.false ∙ c.columns-columns.ensures) in
    let len = c.div_ceil.ensures ∙ rounded_up _ ∙ ap bitmap_len c.columns-columns.ensures in
    let images = map_found length _ _ (sym c.in-Some-images_in.ensures) in
    let even : eqb (length images.0 % images_a_row c.args.kind.action) 0 ≡ true = rw (images.2, ← c.images_a_row.ensures.images) (eq-eqb _ _ whole) in
    body_parts _ _ _ ∙ rw (sym c.in-Some.ensures, sym c.in-Some-packed_at.ensures, own, ← len, sym c.in-Some-bitmaps_at.ensures.exact, ← c.columns-columns.ensures, sym c.if-not-all_set.ensures, images.1, even) refl

pub invariant_of-event : goal.invariant_of-event
invariant_of-event c =
    let lengths = front_lengths _ _ _ _ (some_columns c.args.layout.now) (all (goal.at.invariant_of-event c).After-images_a_row c.if-len-images_a_row-ne0.false) in
    let imaged = counted_are_there _ _ (sym c.in-Some-images_in.ensures) in
    let two = two_lengths c.args.kind.action _ _ c.in-Some-bitmaps_at.ensures.two in
    let joined = ap length (images_are_joined (layout_columns c.args.layout.now) c.in-Some-bitmaps_at.bitmaps.rest.now imaged) in
    let short : length c.args.body.now < 2 ^ 64 = search rules in
    record {
      id_len = lengths.id_len;
      flags_len = lengths.flags_len;
      extra_long = lengths.extra_long;
      fits = omega (arith, lengths.within, two, joined, short);
      two = c.in-Some-bitmaps_at.ensures.two;
      imaged = imaged;
    }

pub returns-clause-exact : goal.returns-clause-exact
returns-clause-exact c = sym (all (goal.at.returns-clause-exact c).After-images_a_row c.if-len-images_a_row-ne0.false)
