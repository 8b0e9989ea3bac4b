-- Columns, and the type bytes and metadata bytes that spell them.
use Rattle.std.proofs.Common.{◌≡◌, ◌≤◌, ℕ, suc, true, eqb, List, [], ◌∷◌, ◌++◌, length, take, drop, Ok, is_some, leb, ◌<◌, refl, sym, ap, ◌∙◌, subst, arith}
use Rattle.std.specs.List.{list_all}
use Rattle.std.proofs.lemmas.Bool.{eqb-true, eq-eqb, leb-true, le-leb, and_parts, and_from}
use Rattle.std.proofs.lemmas.List.{nil_from_length, take_at, drop_at, length-append, length-drop, take-append-drop}
use Rattle.blog_row.specs.declared.fault.RowFault.TheVariants.{BadBody, UnknownType}
use Rattle.blog_row.specs.Checks.{cut}
use Rattle.blog_row.specs.Packed.{IsPacked, packed_front}
use Rattle.blog_row.specs.Column.{Layout, metadata_len_of, is_column, types_of, metadata_of, own_metadata_len, metadata_total, columns_of}
use Rattle.blog_row.specs.Image.{bitmap_len}
use Rattle.blog_row.specs.TableMap.{names_of, LayoutFields, HasLayout, layout_fields, layout_of}
use Rattle.blog_row.proofs.Results.{step_found, step_again, reading_found, check_found, check_again, same_ok}
use Rattle.blog_row.proofs.ColumnTypes.{column_len}
use Rattle.blog_row.proofs.Cutting.{cut_found, cut_again}
use Rattle.blog_row.proofs.PackedLemmas.{packed_found, packed_again}

-- ---- columns of bytes, and bytes of columns

-- the types are the types of their columns
pub types_of_columns : (kinds metadata : List ℕ) → types_of (columns_of kinds metadata) ≡ kinds
types_of_columns [] metadata = refl
types_of_columns (kind ∷ kinds) metadata = ap (λ (x : List ℕ). kind ∷ x) (types_of_columns kinds (drop (own_metadata_len kind) metadata))

-- there is a column for each type
pub length_of_columns : (kinds metadata : List ℕ) → length (columns_of kinds metadata) ≡ length kinds
length_of_columns [] metadata = refl
length_of_columns (kind ∷ kinds) metadata = ap suc (length_of_columns kinds (drop (own_metadata_len kind) metadata))

-- metadata of the right length is the metadata of its columns
pub metadata_of_columns : (kinds metadata : List ℕ) → metadata_total kinds ≡ length metadata → metadata_of (columns_of kinds metadata) ≡ metadata
metadata_of_columns [] metadata e = sym (nil_from_length metadata (sym e))
metadata_of_columns (kind ∷ kinds) metadata e =
    let n = own_metadata_len kind in
    let left : metadata_total kinds ≡ length (drop n metadata) = simp length-drop (omega arith) in
    ap (λ (x : List ℕ). take n metadata ++ x) (metadata_of_columns kinds (drop n metadata) left) ∙ take-append-drop n metadata

-- what columns of the profile say of their bytes
pub record Spread (layout : Layout) : Type 0 where
  pub known : list_all (λ kind. is_some (metadata_len_of kind)) (types_of layout) ≡ true
  pub total : metadata_total (types_of layout) ≡ length (metadata_of layout)
  pub back : columns_of (types_of layout) (metadata_of layout) ≡ layout
  pub long : length (types_of layout) ≡ length layout

-- columns of the profile are those of their bytes
pub spread : (layout : Layout) → list_all is_column layout ≡ true → Spread layout
spread [] e = record { known = refl; total = refl; back = refl; long = refl }
spread (column ∷ layout) e =
    let parts = and_parts (is_column column) (list_all is_column layout) e in
    let others = spread layout parts.1 in
    let own = column_len column parts.0 in
    let own_is : own_metadata_len column.kind ≡ length column.metadata = rw own refl in
    let front : take (own_metadata_len column.kind) (column.metadata ++ metadata_of layout) ≡ column.metadata = take_at column.metadata (metadata_of layout) (own_metadata_len column.kind) (sym own_is) in
    let behind : drop (own_metadata_len column.kind) (column.metadata ++ metadata_of layout) ≡ metadata_of layout = drop_at column.metadata (metadata_of layout) (own_metadata_len column.kind) (sym own_is) in
    record {
      known = rw own others.known;
      total = simp length-append (omega arith);
      back = rw (front, behind) (ap (λ (x : Layout). column ∷ x) others.back);
      long = ap suc others.long;
    }

-- ---- the fields behind the names

-- fields that are read are those of the bytes
pub layout_found : (bytes : List ℕ) (fields : LayoutFields) → layout_fields bytes ≡ Ok fields → HasLayout bytes fields
unfolding layout_fields
layout_found bytes fields e =
    step_found (packed_front bytes) _ fields e (λ counted counted_is e1.
    check_found _ BadBody _ fields e1 (λ few e2.
    step_found (cut counted.0 counted.2) _ fields e2 (λ types types_is e3.
    check_found (list_all (λ kind. is_some (metadata_len_of kind)) types.0) UnknownType _ fields e3 (λ known e4.
    step_found (packed_front types.1) _ fields e4 (λ sized sized_is e5.
    check_found (eqb sized.0 (metadata_total types.0)) BadBody _ fields e5 (λ total e6.
    step_found (cut sized.0 sized.2) _ fields e6 (λ metadata metadata_is e7.
    check_found (list_all is_column (columns_of types.0 metadata.0)) BadBody _ fields e7 (λ stored e8.
    step_found (cut (bitmap_len counted.0) metadata.1) _ fields e8 (λ nullable nullable_is e9.
    let from_count = packed_found bytes counted.0 counted.1 counted.2 counted_is in
    let from_types = cut_found counted.0 counted.2 types.0 types.1 types_is in
    let from_size = packed_found types.1 sized.0 sized.1 sized.2 sized_is in
    let from_metadata = cut_found sized.0 sized.2 metadata.0 metadata.1 metadata_is in
    let from_nullable = cut_found (bitmap_len counted.0) metadata.1 nullable.0 nullable.1 nullable_is in
    let bounds = and_parts (leb 1 counted.0) (leb counted.0 4096) few in
    let low : 1 ≤ counted.0 = leb-true 1 counted.0 bounds.0 in
    let high : counted.0 ≤ 4096 = leb-true counted.0 4096 bounds.1 in
    let whole : sized.0 ≡ metadata_total types.0 = eqb-true sized.0 (metadata_total types.0) total in
    let layout = columns_of types.0 metadata.0 in
    let long : length layout ≡ counted.0 = length_of_columns types.0 metadata.0 ∙ from_types.0 in
    let own_types : types_of layout ≡ types.0 = types_of_columns types.0 metadata.0 in
    let own_metadata : metadata_of layout ≡ metadata.0 = metadata_of_columns types.0 metadata.0 (sym whole ∙ sym from_metadata.0) in
    let size : length (metadata_of layout) ≡ sized.0 = ap length own_metadata ∙ from_metadata.0 in
    let found : LayoutFields = record { count = counted.1; layout = layout; size = sized.1; nullable = nullable.0; rest = nullable.1 } in
    subst (λ (f : LayoutFields). HasLayout bytes f) (same_ok found fields e9) (record {
      columns = record { some = rw long low; few = rw long high; known = stored };
      counted = subst (IsPacked counted.1) (sym long) from_count.0;
      sized = subst (IsPacked sized.1) (sym size) from_size.0;
      nullable_len = from_nullable.0 ∙ ap bitmap_len (sym long);
      text = rw (own_types, own_metadata) (from_count.1 ∙ ap (λ (x : List ℕ). counted.1 ++ x) (from_types.1 ∙ ap (λ (x : List ℕ). types.0 ++ x)
          (from_size.1 ∙ ap (λ (x : List ℕ). sized.1 ++ x) (from_metadata.1 ∙ ap (λ (x : List ℕ). metadata.0 ++ x) from_nullable.1))));
    }))))))))))

-- the fields of bytes are read
pub layout_again : (bytes : List ℕ) (fields : LayoutFields) → HasLayout bytes fields → layout_fields bytes ≡ Ok fields
unfolding layout_fields
layout_again bytes fields h =
    let n = length fields.layout in
    let types = types_of fields.layout in
    let metadata = metadata_of fields.layout in
    let bytes_5 = fields.nullable ++ fields.rest in
    let bytes_4 = metadata ++ bytes_5 in
    let bytes_3 = fields.size ++ bytes_4 in
    let bytes_2 = types ++ bytes_3 in
    let own = spread fields.layout h.columns.known in
    rw h.text
    (step_again (packed_front (fields.count ++ bytes_2)) _ (n, fields.count, bytes_2) fields (packed_again n fields.count bytes_2 h.counted)
    (check_again _ BadBody _ fields (and_from (leb 1 n) (leb n 4096) (le-leb 1 n h.columns.some) (le-leb n 4096 h.columns.few))
    (step_again (cut n bytes_2) _ (types, bytes_3) fields (cut_again n types bytes_3 own.long)
    (check_again _ UnknownType _ fields own.known
    (step_again (packed_front bytes_3) _ (length metadata, fields.size, bytes_4) fields (packed_again (length metadata) fields.size bytes_4 h.sized)
    (check_again _ BadBody _ fields (eq-eqb (length metadata) (metadata_total types) (sym own.total))
    (step_again (cut (length metadata) bytes_4) _ (metadata, bytes_5) fields (cut_again (length metadata) metadata bytes_5 refl)
    (check_again _ BadBody _ fields (ap (list_all is_column) own.back ∙ h.columns.known)
    (step_again (cut (bitmap_len n) bytes_5) _ (fields.nullable, fields.rest) fields (cut_again (bitmap_len n) fields.nullable fields.rest h.nullable_len)
    (ap (λ (l : Layout). Ok (record fields { layout = l })) own.back))))))))))

-- a layout that is read has a column
pub layout_some : (body : List ℕ) (layout : Layout) → layout_of body ≡ Ok layout → 0 < length layout
unfolding layout_of
layout_some body layout e =
    step_found (names_of body) _ layout e (λ names names_is e1.
    reading_found (layout_fields names.rest) _ layout e1 (λ fields fields_is e2.
    let same : fields.layout ≡ layout = cc in
    subst (λ (l : Layout). 0 < length l) same (layout_found names.rest fields fields_is).columns.some))
