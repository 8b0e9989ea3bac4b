-- The content of a rows event: the body that is written is read again.
use Rattle.std.proofs.Common.{◌≡◌, ℕ, ◌+◌, ◌%◌, ◌<◌, ◌^◌, Bool, true, List, [], ◌++◌, length, Ok, sym, ap, ◌∙◌, arith, append-nil, take_at, drop_at, le-leb}
use Rattle.std.specs.Prelude.{nat_le}
use Rattle.std.specs.List.{concat}
use Rattle.std.proofs.lemmas.Bool.Decides.{nat_tests}
use Rattle.byteorder.specs.Endian.{little_bytes, little_number}
use Rattle.byteorder.specs.Numbers.{little_number-reads_back}
use Rattle.blog_row.specs.Column.{Layout}
use Rattle.blog_row.specs.RowsEvent.{rows_of, fixed_len, table_id, flags_of, has_end_flag}
use Rattle.blog_row.specs.RowsWriting.{RowsContent, content_of, kept_flags, no_extra, written_flags, written_fields, written_body}
use Rattle.blog_row.proofs.Images.{images_found, images_again}
use Rattle.blog_row.proofs.Bodies.{rows_again}
use Rattle.blog_row.specs.declared.order.Order.TheVariants.{Forward}
use Rattle.blog_row.proofs.ReversedRows.{IsContent, written-is}
use Rattle.blog_row.proofs.WrittenBody.{body-len}

-- ---- the body that is written

-- it is read again
pub body-again : (last : Bool) (c : RowsContent) (layout : Layout) → 0 < length layout → IsContent layout c → rows_of c.kind layout (written_body last c) ≡ Ok (written_fields last c)
body-again last c layout some h =
    rows_again c.kind layout (written_body last c) (written_fields last c) (λ bytes images. (images_found layout bytes images, λ are. images_again layout bytes images some are.0 are.1)) (written-is last layout c h)

-- its table id
pub body-id : (last : Bool) (c : RowsContent) → length c.id ≡ 6 → table_id (written_body last c) ≡ c.id
unfolding written_body
body-id last c id = take_at c.id _ 6 id

-- what stands behind the flags
abbrev behind-flags : RowsContent → List ℕ
behind-flags c = no_extra c.kind.version ++ (c.count ++ (concat c.bitmaps ++ concat c.images))

-- flags with the end flag fit
flags-fit : (last : Bool) (flags : ℕ) → flags + 1 < 2 ^ 16 → written_flags last flags < 2 ^ 16
flags-fit last flags fits = grind arith

-- its flags
body-flags : (last : Bool) (c : RowsContent) → length c.id ≡ 6 → c.flags + 1 < 2 ^ 16 → flags_of (written_body last c) ≡ written_flags last c.flags
unfolding written_body
body-flags last c id fits =
    ap (little_number 2) (drop_at c.id _ 6 id) ∙ little_number-reads_back 2 (written_flags last c.flags) (behind-flags c) (flags-fit last c.flags fits)

-- the end flag is on the last one
pub body-ends : (last : Bool) (c : RowsContent) → length c.id ≡ 6 → c.flags + 1 < 2 ^ 16 → c.flags % 2 ≡ 0 → has_end_flag (written_body last c) ≡ last
body-ends last c id fits even = rw (body-flags last c id fits) (grind (arith, nat_tests))

-- without it they are the flags of the content
flags-kept : (last : Bool) (flags : ℕ) → flags % 2 ≡ 0 → kept_flags (written_flags last flags) ≡ flags
flags-kept last flags even = grind arith

-- what is kept of the fields that are written is the content
pub content-again : (last : Bool) (c : RowsContent) → c.flags + 1 < 2 ^ 16 → c.flags % 2 ≡ 0 → content_of c.kind (written_fields last c) ≡ c
content-again last c fits even =
    let bytes = little_bytes 2 (written_flags last c.flags) in
    let read = ap (little_number 2) (sym (append-nil bytes)) ∙ little_number-reads_back 2 (written_flags last c.flags) [] (flags-fit last c.flags fits) in
    ap (λ (n : ℕ). record c { flags = kept_flags n }) read ∙ ap (λ (n : ℕ). record c { flags = n }) (flags-kept last c.flags even)

-- it has the fixed part
pub body-long : (last : Bool) (c : RowsContent) → length c.id ≡ 6 → nat_le (fixed_len c.kind.version) (length (written_body last c)) ≡ true
body-long last c id =
    let fixed : fixed_len c.kind.version ≡ 8 + length (no_extra c.kind.version) = grind arith in
    le-leb (fixed_len c.kind.version) (length (written_body last c)) (omega (arith, id, body-len Forward last c))
