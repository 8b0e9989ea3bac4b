-- The slices are the front of the body.
use Rattle.std.proofs.Common.{ℕ, List, [], ◌∷◌, ◌++◌, length, take, drop, sym, ap, ◌∙◌, arith}
use Rattle.std.proofs.lemmas.List.{take_all}
use Rattle.byteorder.specs.Endian.{little_bytes}
use Rattle.blog_row.specs.declared.kind.RowsKind.{RowsKind}
use Rattle.blog_row.specs.code.RowsEventView.{rows_content}
use Rattle.blog_row.specs.RowsWriting.{content_in, no_extra, written_flags}
use Rattle.blog_row.proofs.WrittenBody.{kept, extra-front, front-parts}
use Rattle.blog_row.proofs.rows_event.RowsEvent.put_front.Goals as goal

pub write_over-requires : goal.write_over-requires
write_over-requires c =
    let content = rows_content c.args.self.now in
    let d = content_in c.args.order content in
    let same = kept c.args.order content in
    let id = c.split_at.ensures.front ∙ take_all 6 c.id.result.now (omega (arith, ap length c.id.ensures, c.args.self.now.id_len)) ∙ c.id.ensures in
    let extra = extra-front content.kind.version c.extra_len.result (c.extra_len.ensures ∙ ap (λ (kind : RowsKind). length (no_extra kind.version)) c.kind.ensures) in
    let front =
    front-parts c.args.last d c.split_at.result.0.now c.flag_bytes-flags.result (take c.extra_len.result (2 ∷ 0 ∷ [])) c.count.result.now c.bitmaps_in.result.0.now c.bitmaps_in.result.1.now (id ∙ sym same.id)
    (c.flag_bytes-flags.ensures ∙ ap (λ (n : ℕ). little_bytes 2 (written_flags c.args.last n)) (sym same.flags)) (extra ∙ ap no_extra (sym same.version))
    (c.count.ensures ∙ sym same.count) c.bitmaps_in.ensures in
    let room = c.requires.room in
    omega (arith, ap length front, room)

pub returns : goal.returns
returns c =
    let content = rows_content c.args.self.now in
    let d = content_in c.args.order content in
    let same = kept c.args.order content in
    let id = c.split_at.ensures.front ∙ take_all 6 c.id.result.now (omega (arith, ap length c.id.ensures, c.args.self.now.id_len)) ∙ c.id.ensures in
    let extra = extra-front content.kind.version c.extra_len.result (c.extra_len.ensures ∙ ap (λ (kind : RowsKind). length (no_extra kind.version)) c.kind.ensures) in
    let front =
    front-parts c.args.last d c.split_at.result.0.now c.flag_bytes-flags.result (take c.extra_len.result (2 ∷ 0 ∷ [])) c.count.result.now c.bitmaps_in.result.0.now c.bitmaps_in.result.1.now (id ∙ sym same.id)
    (c.flag_bytes-flags.ensures ∙ ap (λ (n : ℕ). little_bytes 2 (written_flags c.args.last n)) (sym same.flags)) (extra ∙ ap no_extra (sym same.version))
    (c.count.ensures ∙ sym same.count) c.bitmaps_in.ensures in
    record { front = c.write_over.ensures ∙ ap (λ (t : List ℕ). t ++ drop (length t) c.args.to.now) front }
