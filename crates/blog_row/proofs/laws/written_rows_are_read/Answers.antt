-- The fields that are written are read.
use Rattle.blog_row.specs.RowsWriting.{content_of, content_in, kind_in, written_fields, written_body}
use Rattle.blog_row.proofs.Images.{images_found, images_again}
use Rattle.blog_row.proofs.Bodies.{rows_again}
use Rattle.blog_row.proofs.ReversedRows.{written-reads}
use Rattle.blog_row.proofs.laws.written_rows_are_read.Goals as goal

pub returns-clause-fields : goal.returns-clause-fields
returns-clause-fields c order last kind layout body fields h = written-reads order last kind layout body fields h

pub returns-clause-read : goal.returns-clause-read
returns-clause-read c order last kind layout body fields some h =
    rows_again (kind_in order kind) layout (written_body last (content_in order (content_of kind fields))) (written_fields last (content_in order (content_of kind fields)))
    (λ bytes images. (images_found layout bytes images, λ are. images_again layout bytes images some are.0 are.1)) (written-reads order last kind layout body fields h)
