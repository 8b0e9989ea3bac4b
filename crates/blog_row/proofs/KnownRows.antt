-- A rows event that is known to be there: its parts are found without reading the images again.
use Rattle.std.proofs.Common.{◌≡◌, ◌<◌, ℕ, List, [], length, Some, Ok, unwrap_or, is_some, is_ok, true, eqb, refl, sym, ap, ◌∙◌, ◌%◌}
use Rattle.std.specs.List.{list_all}
use Rattle.blog_row.specs.declared.kind.RowsKind.{RowsKind}
use Rattle.blog_row.specs.declared.fault.RowFault.TheVariants.{BadBody, PartialImage}
use Rattle.blog_row.specs.Checks.{◌>>=◌}
use Rattle.blog_row.specs.RowsKind.{images_a_row}
use Rattle.blog_row.specs.Packed.{packed_front}
use Rattle.blog_row.specs.Column.{Layout}
use Rattle.blog_row.specs.Image.{bitmap_len, images_of}
use Rattle.blog_row.specs.RowsEvent.{RowsBody, are_marked, pieces, rows_of}
use Rattle.blog_row.specs.code.RowsEventView.{FrontParts, rows_front}
use Rattle.blog_row.proofs.Results.{step_found, check_found}
use Rattle.blog_row.proofs.LayoutCode.{ok_there}
use Rattle.blog_row.proofs.RowsCode.{FieldLengths, after_bitmaps, body_parts, front_lengths}

-- the fields of a body, by its parts
abbrev pub fields_by : FrontParts → List ℕ → List (List ℕ) → List (List ℕ) → RowsBody
fields_by front count bitmaps images = record { id = front.0; flags = front.1; extra_len = front.2; extra = front.3; count = count; bitmaps = bitmaps; images = images }

-- what stands behind the count
behind_count : {P : Type 0} (kind : RowsKind) (layout : Layout) (body : List ℕ) (front : FrontParts) (n : ℕ × List ℕ × List ℕ) → is_ok (rows_of kind layout body) ≡ true → rows_front kind.version body ≡ Some front → packed_front front.4 ≡ Some n
    → ((fields : RowsBody) → rows_of kind layout body ≡ Ok fields → (pieces (images_a_row kind.action) (bitmap_len (length layout)) n.2 >>= after_bitmaps kind layout front n.1) ≡ Ok fields → P) → P
behind_count kind layout body front n ok e f k =
    ok_there (rows_of kind layout body) ok (λ fields read.
    check_found (eqb n.0 (length layout)) BadBody _ fields (sym (body_parts kind layout body ∙ rw (e, f) refl) ∙ read) (λ own e1. k fields read e1))

-- what is known of the event that these parts make
pub record KnownRows (kind : RowsKind) (layout : Layout) (body : List ℕ) (front : FrontParts) (count : List ℕ) (b : List (List ℕ) × List ℕ) : Type 0 where
  pub lengths : FieldLengths kind body (fields_by front count b.0 (unwrap_or (images_of layout b.1) []))
  pub imaged : is_some (images_of layout b.1) ≡ true
  pub read : rows_of kind layout body ≡ Ok (fields_by front count b.0 (unwrap_or (images_of layout b.1) []))

pub known_rows : (kind : RowsKind) (layout : Layout) (body : List ℕ) (front : FrontParts) (n : ℕ × List ℕ × List ℕ) (b : List (List ℕ) × List ℕ) → 0 < length layout → is_ok (rows_of kind layout body) ≡ true
    → rows_front kind.version body ≡ Some front → packed_front front.4 ≡ Some n → pieces (images_a_row kind.action) (bitmap_len (length layout)) n.2 ≡ Ok b → KnownRows kind layout body front n.1 b
known_rows kind layout body front n b some ok e f g =
    behind_count kind layout body front n ok e f (λ fields read e1.
    check_found (list_all (are_marked (length layout)) b.0) PartialImage _ fields (rw g at e1) (λ marked e2.
    step_found (images_of layout b.1) _ fields e2 (λ images images_is e3.
    check_found (eqb (length images % images_a_row kind.action) 0) BadBody _ fields e3 (λ whole e4.
    let all : rows_of kind layout body ≡ Ok (fields_by front n.1 b.0 (unwrap_or (images_of layout b.1) [])) = read ∙ sym e4 ∙ rw images_is refl in
    record { lengths = front_lengths kind layout body _ some all; imaged = ap is_some images_is; read = all }))))
