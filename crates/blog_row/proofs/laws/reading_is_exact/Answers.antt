-- What reading gives is what the relations say.
use Rattle.std.proofs.Common.{ℕ, List}
use Rattle.blog_row.specs.Laws.{ReadsImages}
use Rattle.blog_row.proofs.PackedLemmas.{packed_found, packed_again}
use Rattle.blog_row.proofs.Images.{value_found, value_again, image_found, image_again, images_found, images_again}
use Rattle.blog_row.proofs.NameLemmas.{names_found, names_again}
use Rattle.blog_row.proofs.Layouts.{layout_found, layout_again}
use Rattle.blog_row.proofs.Bodies.{rows_found, rows_again}
use Rattle.blog_row.proofs.laws.reading_is_exact.Goals as goal

pub returns-clause-names : goal.returns-clause-names
returns-clause-names c body names = (names_found body names, names_again body names)

pub returns-clause-layout : goal.returns-clause-layout
returns-clause-layout c bytes fields = (layout_found bytes fields, layout_again bytes fields)

pub returns-clause-rows : goal.returns-clause-rows
returns-clause-rows c kind layout body fields some =
    let reads : (bytes : List ℕ) (images : List (List ℕ)) → ReadsImages layout bytes images = λ bytes images. (images_found layout bytes images, λ h. images_again layout bytes images some h.0 h.1) in
    (rows_found kind layout body fields reads, rows_again kind layout body fields reads)

pub returns-clause-packed : goal.returns-clause-packed
returns-clause-packed c bytes n spelling rest = (packed_found bytes n spelling rest, λ h. rw h.1 (packed_again n spelling rest h.0))

pub returns-clause-value : goal.returns-clause-value
returns-clause-value c column bytes value rest = (value_found column bytes value rest, λ h. rw h.2 (value_again column value h.0 rest h.1))

pub returns-clause-image : goal.returns-clause-image
returns-clause-image c layout bytes row rest = (image_found layout bytes row rest, λ h. rw h.2 (image_again layout row h.0 rest h.1))

pub returns-clause-images : goal.returns-clause-images
returns-clause-images c layout bytes images some = (images_found layout bytes images, λ h. images_again layout bytes images some h.0 h.1)
