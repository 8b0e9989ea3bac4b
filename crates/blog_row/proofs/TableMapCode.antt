-- What the calls that read a table map and its layout give.
use Rattle.std.proofs.Common.{◌≡◌, ℕ, ◌&&◌, List, length, Some, Result, Ok, Err, IfOk, refl, sym, ◌∙◌}
use Rattle.std.specs.Prelude.{bytes_eq, IsOkAnd}
use Rattle.blog_row.specs.declared.fault.RowFault.{RowFault}
use Rattle.blog_row.specs.declared.layout.Layout as told
use Rattle.blog_row.specs.Column.{Layout, metadata_total, columns_of}
use Rattle.blog_row.specs.TableMap.{Names, LayoutFields, HasLayout, names_of, layout_fields, layout_of, is_same_layout}
use Rattle.blog_row.specs.code.LayoutView.{layout_columns, layout_seen}
use Rattle.blog_row.specs.code.LayoutReading.{layout_behind}
use Rattle.blog_row.proofs.Results.{reading_found, reading_again, same_ok}
use Rattle.blog_row.proofs.Layouts.{layout_found, layout_again, types_of_columns, metadata_of_columns}

-- ---- layouts

-- a body's layout is what stands behind its names
pub layout_by_names : (body : List ℕ) (names : Names) → names_of body ≡ Some names → layout_of body ≡ layout_behind names.rest
unfolding layout_of layout_behind
layout_by_names body names e = rw e

pub layout_found_by : (bytes : List ℕ) (r : Result told.Layout RowFault) → layout_seen r ≡ layout_behind bytes → IfOk r (λ layout. (fields : LayoutFields) × HasLayout bytes fields × (fields.layout ≡ layout_columns layout))
unfolding layout_behind
layout_found_by bytes (Ok layout) e =
    reading_found (layout_fields bytes) _ (layout_columns layout) (sym e) (λ fields is last. (fields, layout_found bytes fields is, same_ok fields.layout (layout_columns layout) last))
layout_found_by bytes (Err fault) e = tt

-- fields that are there are read
layout_reads : (bytes : List ℕ) (fields : LayoutFields) → HasLayout bytes fields → layout_behind bytes ≡ Ok fields.layout
unfolding layout_behind
layout_reads bytes fields h = reading_again (layout_fields bytes) _ fields fields.layout (layout_again bytes fields h) refl

pub layout_only_by : (bytes : List ℕ) (fields : LayoutFields) (r : Result told.Layout RowFault) → layout_seen r ≡ layout_behind bytes → HasLayout bytes fields → IsOkAnd r (λ layout. layout_columns layout ≡ fields.layout)
layout_only_by bytes fields (Ok layout) e h = same_ok (layout_columns layout) fields.layout (e ∙ layout_reads bytes fields h)
layout_only_by bytes fields (Err fault) e h = let bad : ◌≡◌ {A = Result Layout RowFault} (Err fault) (Ok fields.layout) = e ∙ layout_reads bytes fields h in absurd (cc)

-- ---- the same columns

-- columns are the same where their types and their metadata are
pub same_by_bytes : (types metadata other_types other_metadata : List ℕ) → metadata_total types ≡ length metadata → metadata_total other_types ≡ length other_metadata
    → is_same_layout (columns_of types metadata) (columns_of other_types other_metadata) ≡ (bytes_eq types other_types && bytes_eq metadata other_metadata)
same_by_bytes types metadata other_types other_metadata e f =
    rw (types_of_columns types metadata, types_of_columns other_types other_metadata, metadata_of_columns types metadata e, metadata_of_columns other_types other_metadata f)
