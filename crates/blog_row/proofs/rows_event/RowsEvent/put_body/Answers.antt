-- The front and the images make up the body.
use Rattle.std.proofs.Common.{length, refl, arith, length-append, length-drop, ap, ◌∙◌, drop}
use Rattle.blog_row.specs.code.RowsEventView.{rows_content, written_front}
use Rattle.blog_row.specs.RowsWriting.{content_in}
use Rattle.blog_row.proofs.WrittenBody.{body-is-written, room-parts}
use Rattle.blog_row.proofs.rows_event.RowsEvent.put_body.Goals as goal

pub put_front-requires : goal.put_front-requires
put_front-requires c =
    let parts = room-parts c.args.order c.args.last (rows_content c.args.self.now) in
    let room = c.requires.room in
    record { room = omega (arith, parts, room) }

pub put_last_images-requires : goal.put_last_images-requires
put_last_images-requires c =
    let parts = room-parts c.args.order c.args.last (rows_content c.args.self.now) in
    let room = c.requires.room in
    let text = written_front c.args.last (content_in c.args.order (rows_content c.args.self.now)) in
    let size = ap length c.put_front.ensures.front ∙ length-append text (drop (length text) c.args.to.now) in
    let left = length-drop (length text) c.args.to.now in
    record { room = omega (arith, parts, room, size, left) }

pub returns : goal.returns
returns c =
    record {
      body = body-is-written c.args.order c.args.last (rows_content c.args.self.now) c.args.to.now _ _ _ c.requires.room refl c.put_front.ensures.front c.put_last_images.ensures.images;
    }
