-- The images of reversed rows, and what is reversed twice.
use Rattle.blog_row.proofs.ReversedRows.{images-reversed, content-twice}
use Rattle.blog_row.proofs.laws.reversed_rows_have_their_images_from_the_last.Goals as goal

pub returns-clause-images : goal.returns-clause-images
returns-clause-images c = images-reversed

pub returns-clause-twice : goal.returns-clause-twice
returns-clause-twice c = content-twice
