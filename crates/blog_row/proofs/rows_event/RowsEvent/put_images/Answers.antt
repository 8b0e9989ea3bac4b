use Rattle.std.proofs.Common.{sym, ap, ◌∙◌}
use Rattle.std.specs.List.{concat}
use Rattle.blog_row.specs.code.RowsEventView.{rows_content}
use Rattle.blog_row.specs.RowsWriting.{content_in}
use Rattle.blog_row.proofs.ReversedRows.{images-reversed}
use Rattle.blog_row.proofs.rows_event.RowsEvent.put_images.Goals as goal

pub returns-in-Backward : goal.returns-in-Backward
returns-in-Backward c =
    let images = images-reversed (rows_content c.args.self.now).kind.action (rows_content c.args.self.now).images in
    record {
      images = c.put_reversed.ensures.images ∙ ap concat (sym images) ∙ sym (ap (λ order. concat (content_in order (rows_content c.args.self.now)).images) c.in-Backward.is);
    }
