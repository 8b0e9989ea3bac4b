-- How the code reads the body of a rows event: part by part.
use Rattle.std.proofs.Common.{◌≡◌, ◌+◌, ◌-◌, ◌%◌, ◌<◌, ◌≤◌, ℕ, zero, suc, Bool, true, false, eqb, List, [], ◌∷◌, ◌++◌, length, take, drop, Option, Some, None, option_and_then, option_map, unwrap_or, is_some, Result, Ok, Err, refl, sym, ap, ◌∙◌, arith, length-append, drop_at}
use Rattle.std.proofs.lemmas.Option.{same_Some}
use Rattle.std.specs.Result.{IfOk}
use Rattle.std.specs.List.{list_all, concat}
use Rattle.blog_row.specs.declared.kind.RowsAction.{RowsAction}
use Rattle.blog_row.specs.declared.kind.RowsAction.TheVariants.{Write, Update, Delete}
use Rattle.blog_row.specs.declared.kind.RowsKind.{RowsKind}
use Rattle.blog_row.specs.declared.kind.RowsVersion.{RowsVersion}
use Rattle.blog_row.specs.declared.kind.RowsVersion.TheVariants.{One, Two}
use Rattle.blog_row.specs.declared.fault.RowFault.{RowFault}
use Rattle.blog_row.specs.declared.fault.RowFault.TheVariants.{BadBody, PartialImage}
use Rattle.blog_row.specs.declared.rows_event.RowsEvent as told
use Rattle.blog_row.specs.declared.layout.Layout as columns
use Rattle.blog_row.specs.code.LayoutView.{layout_columns}
use Rattle.blog_row.specs.RowsKind.{images_a_row}
use Rattle.blog_row.specs.Checks.{◌>>=◌, check, or_bad, cut}
use Rattle.blog_row.specs.Packed.{packed_front}
use Rattle.blog_row.specs.Column.{Layout}
use Rattle.blog_row.specs.Image.{Row, bitmap_len, is_marked, IsImage, image_front, image_len_of, images_up_to, images_of}
use Rattle.blog_row.specs.RowsEvent.{RowsBody, HasExtra, IsRowsBody, are_marked, bitmaps_by, two_bitmaps, extra_of, pieces, rows_of}
use Rattle.blog_row.specs.RowsWriting.{no_extra}
use Rattle.blog_row.specs.code.RowsEventView.{FrontParts, rows_front, rows_body, counted_seen}
use Rattle.blog_row.proofs.Cutting.{none_is_not, map_found, nothing_then, then_of}
use Rattle.blog_row.proofs.Images.{image_found, image_positive, images_found, images_again}
use Rattle.blog_row.proofs.Layouts.{length_of_columns}
use Rattle.blog_row.proofs.Bodies.{marks, rows_found, rows_again}

-- ---- bitmaps

pub not_marked : (n i : ℕ) (bitmap : List ℕ) → i < n → is_marked bitmap i ≡ false → are_marked n bitmap ≡ false
not_marked n i bitmap l e = by_case (are_marked n bitmap) refl
  where
    by_case : (t : Bool) → are_marked n bitmap ≡ t → are_marked n bitmap ≡ false
    by_case false h = h
    by_case true h = let set : is_marked bitmap i ≡ true = (marks n bitmap).0 h i l in absurd (cc)

-- ---- images, one after the other

-- what follows an image is shorter than the bytes
shorter : (layout : Layout) (bytes : List ℕ) (row : Row) (rest : List ℕ) → 0 < length layout → image_front layout bytes ≡ Some (row, rest) → length rest < length bytes
shorter layout bytes row rest some e =
    let f : (image : List ℕ) × IsImage layout row image × (bytes ≡ image ++ rest) = image_found layout bytes row rest e in
    omega (arith, ap length f.2, length-append f.0 rest, image_positive layout row f.0 some f.1)

-- the image in front of what is left, and the images of that
abbrev and_images : ℕ → Layout → List ℕ → Row × List ℕ → Option (List (List ℕ))
and_images n layout bytes r = option_map (λ (images : List (List ℕ)). take (length bytes - length r.1) bytes ∷ images) (images_up_to n layout r.1)

-- more images than there are bytes need not be allowed
same_up_to : (n m : ℕ) (layout : Layout) (bytes : List ℕ) → 0 < length layout → length bytes ≤ n → length bytes ≤ m → images_up_to n layout bytes ≡ images_up_to m layout bytes
unfolding images_up_to
same_up_to zero zero layout bytes some l k = refl
same_up_to zero (suc m) layout [] some l k = refl
same_up_to (suc n) zero layout [] some l k = refl
same_up_to (suc n) (suc m) layout [] some l k = refl
same_up_to zero (suc m) layout (b ∷ bytes) some l k = absurd (omega arith)
same_up_to (suc n) zero layout (b ∷ bytes) some l k = absurd (omega arith)
same_up_to (suc n) (suc m) layout (b ∷ bytes) some l k = by_front (λ rest less. same_up_to n m layout rest some (omega arith) (omega arith)) (image_front layout (b ∷ bytes)) refl
  where
    by_front : ((rest : List ℕ) → length rest < length (b ∷ bytes) → images_up_to n layout rest ≡ images_up_to m layout rest) → (o : Option (Row × List ℕ)) → image_front layout (b ∷ bytes) ≡ o → option_and_then (and_images n layout (b ∷ bytes)) o ≡ option_and_then (and_images m layout (b ∷ bytes)) o
    by_front same None e = refl
    by_front same (Some r) e = ap (option_map (λ (images : List (List ℕ)). take (length (b ∷ bytes) - length r.1) (b ∷ bytes) ∷ images)) (same r.1 (shorter layout (b ∷ bytes) r.0 r.1 some e))

-- an image of so many bytes in front, and the images behind it
pub images_behind : (layout : Layout) (bytes : List ℕ) (row : Row) (rest : List ℕ) (len : ℕ) → 0 < length layout → image_front layout bytes ≡ Some (row, rest) → length bytes ≡ len + length rest → images_of layout bytes ≡ option_map (λ images. take len bytes ∷ images) (images_of layout rest)
unfolding images_up_to
images_behind layout [] row rest len some e l = let less = shorter layout [] row rest some e in absurd (omega arith)
images_behind layout (b ∷ bytes) row rest len some e l =
    let less = shorter layout (b ∷ bytes) row rest some e in
    let taken : length (b ∷ bytes) - length rest ≡ len = omega arith in
    then_of (and_images (length bytes) layout (b ∷ bytes)) (image_front layout (b ∷ bytes)) (row, rest) e
    ∙ ap (option_map (λ (images : List (List ℕ)). take (length (b ∷ bytes) - length rest) (b ∷ bytes) ∷ images)) (same_up_to (length bytes) (length rest) layout rest some (omega arith) (omega arith))
    ∙ ap (λ (k : ℕ). option_map (λ (images : List (List ℕ)). take k (b ∷ bytes) ∷ images) (images_of layout rest)) taken

-- bytes with no image in front are no images
pub images_stop : (layout : Layout) (bytes : List ℕ) → 0 < length bytes → image_front layout bytes ≡ None → images_of layout bytes ≡ None
unfolding images_up_to
images_stop layout [] some e = absurd (omega arith)
images_stop layout (b ∷ bytes) some e = nothing_then (and_images (length bytes) layout (b ∷ bytes)) (image_front layout (b ∷ bytes)) e

-- ---- counting them

-- the images that were counted, and those that are left
abbrev pub counted : ℕ → Option (List (List ℕ)) → Option ℕ
counted done o = option_map (λ more. done + length more) o

one_counted : (done : ℕ) (image : List ℕ) (o : Option (List (List ℕ))) → counted (done + 1) o ≡ counted done (option_map (λ images. image ∷ images) o)
one_counted done image None = refl
one_counted done image (Some images) = ap Some (omega arith)

-- images that were counted behind others
pub counted_behind : (before done : ℕ) (left all : Option (List (List ℕ))) → counted done left ≡ option_map length all → counted (before + done) left ≡ counted before all
counted_behind before done None None e = refl
counted_behind before done None (Some images) e = absurd (cc)
counted_behind before done (Some more) None e = absurd (cc)
counted_behind before done (Some more) (Some images) e =
    let same : done + length more ≡ length images = same_Some (done + length more) (length images) e in
    ap Some (omega (arith, same))

-- an image of so many bytes in front
pub record OneImage (layout : Layout) (bytes : List ℕ) (len : ℕ) : Type 0 where
  pub positive : 0 < len
  pub within : len ≤ length bytes
  pub others : images_of layout bytes ≡ option_map (λ images. take len bytes ∷ images) (images_of layout (drop len bytes))

pub one_image : (layout : Layout) (bytes : List ℕ) (len : ℕ) → 0 < length layout → image_len_of layout bytes ≡ Some len → OneImage layout bytes len
one_image layout bytes len some e =
    let r : (r : Row × List ℕ) × (image_front layout bytes ≡ Some r) × (length bytes - length r.1 ≡ len) = map_found (λ (r : Row × List ℕ). length bytes - length r.1) (image_front layout bytes) len e in
    let less : length r.0.1 < length bytes = shorter layout bytes r.0.0 r.0.1 some r.1 in
    let f : (image : List ℕ) × IsImage layout r.0.0 image × (bytes ≡ image ++ r.0.1) = image_found layout bytes r.0.0 r.0.1 r.1 in
    let parts : length bytes ≡ len + length r.0.1 = omega (arith, r.2) in
    let own : length f.0 ≡ len = omega (arith, ap length f.2, length-append f.0 r.0.1) in
    let rest : drop len bytes ≡ r.0.1 = ap (drop len) f.2 ∙ drop_at f.0 r.0.1 len own in
    record {
      positive = omega (arith, r.2);
      within = omega arith;
      others = images_behind layout bytes r.0.0 r.0.1 len some r.1 parts ∙ ap (λ (t : List ℕ). option_map (λ (images : List (List ℕ)). take len bytes ∷ images) (images_of layout t)) (sym rest);
    }

pub count_step : (layout : Layout) (bytes behind : List ℕ) (len done : ℕ) (all : Option ℕ) → OneImage layout bytes len → behind ≡ drop len bytes → counted done (images_of layout bytes) ≡ all → counted (done + 1) (images_of layout behind) ≡ all
count_step layout bytes behind len done all one behind_is so_far =
    ap (λ (t : List ℕ). counted (done + 1) (images_of layout t)) behind_is
    ∙ one_counted done (take len bytes) (images_of layout (drop len bytes)) ∙ ap (counted done) (sym one.others) ∙ so_far

no_length : (layout : Layout) (bytes : List ℕ) (o : Option (Row × List ℕ)) → option_map (λ r. length bytes - length r.1) o ≡ None → o ≡ None
no_length layout bytes None e = refl
no_length layout bytes (Some r) e = absurd (cc)

pub count_stops : (layout : Layout) (bytes : List ℕ) (done : ℕ) (all : Option ℕ) → 0 < length bytes → image_len_of layout bytes ≡ None → counted done (images_of layout bytes) ≡ all → all ≡ None
count_stops layout bytes done all some e so_far = sym so_far ∙ ap (counted done) (images_stop layout bytes some (no_length layout bytes (image_front layout bytes) e))

pub count_ends : (layout : Layout) (bytes : List ℕ) (done : ℕ) (all : Option ℕ) → length bytes ≡ 0 → counted done (images_of layout bytes) ≡ all → all ≡ Some done
unfolding images_up_to
count_ends layout [] done all none so_far = sym so_far ∙ ap Some (omega arith)
count_ends layout (b ∷ bytes) done all none so_far = absurd (omega arith)

-- ---- a body, part by part

by_next : {A B D : Type 0} (o : Option A) (f : A → Result B RowFault) (part : A → Option D) (g : D → Result B RowFault) → ((x : A) → f x ≡ (or_bad (part x) >>= g)) → (or_bad o >>= f) ≡ (or_bad (option_and_then part o) >>= g)
by_next None f part g same = refl
by_next (Some x) f part g same = same x

by_last : {A B D : Type 0} (o : Option A) (f : A → Result B RowFault) (h : A → D) (g : D → Result B RowFault) → ((x : A) → f x ≡ g (h x)) → (or_bad o >>= f) ≡ (or_bad (option_map h o) >>= g)
by_last None f h g same = refl
by_last (Some x) f h g same = same x

-- what follows the bitmaps
abbrev pub after_bitmaps : RowsKind → Layout → FrontParts → List ℕ → List (List ℕ) × List ℕ → Result RowsBody RowFault
after_bitmaps kind layout front count b =
    check (list_all (are_marked (length layout)) b.0) PartialImage
    (or_bad (images_of layout b.1) >>= (λ images. check (eqb (length images % images_a_row kind.action) 0) BadBody
    (Ok (record { id = front.0; flags = front.1; extra_len = front.2; extra = front.3; count = count; bitmaps = b.0; images = images }))))

-- what follows the extra bytes
abbrev pub after_front : RowsKind → Layout → FrontParts → Result RowsBody RowFault
after_front kind layout front =
    or_bad (packed_front front.4) >>= (λ n. check (eqb n.0 (length layout)) BadBody
    (pieces (images_a_row kind.action) (bitmap_len (length layout)) n.2 >>= after_bitmaps kind layout front n.1))

pub body_parts : (kind : RowsKind) (layout : Layout) (body : List ℕ) → rows_of kind layout body ≡ (or_bad (rows_front kind.version body) >>= after_front kind layout)
unfolding rows_of rows_front
body_parts kind layout body =
    by_next (cut 6 body) _ _ (after_front kind layout) (λ id.
    by_next (cut 2 id.1) _ _ (after_front kind layout) (λ flags.
    by_last (extra_of kind.version flags.1) _ _ (after_front kind layout) (λ extra. refl)))

-- ---- what the reading says

pub event_found : (kind : RowsKind) (layout : Layout) (body : List ℕ) (r : Result (told.RowsEvent × ℕ) RowFault) → 0 < length layout → counted_seen r ≡ rows_of kind layout body → IfOk r (λ read. IsRowsBody kind layout body (rows_body read.0))
event_found kind layout body (Ok read) some e = rows_found kind layout body (rows_body read.0) (λ bytes images. (images_found layout bytes images, λ h. images_again layout bytes images some h.0 h.1)) (sym e)
event_found kind layout body (Err fault) some e = tt

pub event_only : (kind : RowsKind) (layout : Layout) (body : List ℕ) (r : Result (told.RowsEvent × ℕ) RowFault) → 0 < length layout → counted_seen r ≡ rows_of kind layout body → (fields : RowsBody) → IsRowsBody kind layout body fields → counted_seen r ≡ Ok fields
event_only kind layout body r some e fields is = e ∙ rows_again kind layout body fields (λ bytes images. (images_found layout bytes images, λ h. images_again layout bytes images some h.0 h.1)) is

-- a layout has a column
pub some_columns : (layout : columns.Layout) → 0 < length (layout_columns layout)
some_columns layout = omega (arith, layout.some, length_of_columns layout.kinds.now layout.metadata.now)

-- and at most 4,096
pub few_columns : (layout : columns.Layout) → length (layout_columns layout) ≤ 4096
few_columns layout = omega (arith, layout.few, length_of_columns layout.kinds.now layout.metadata.now)

-- the extra length is at least as long as one that is written
pub extra-long : (version : RowsVersion) (len extra : List ℕ) → HasExtra version len extra → length (no_extra version) ≤ length len
extra-long One len extra h = omega arith
extra-long Two len extra h = omega (arith, h.0)

-- how long the fields are
pub record FieldLengths (kind : RowsKind) (body : List ℕ) (fields : RowsBody) : Type 0 where
  pub id_len : length fields.id ≡ 6
  pub flags_len : length fields.flags ≡ 2
  pub extra_long : length (no_extra kind.version) ≤ length fields.extra_len
  pub within : 8 + length fields.extra_len + length fields.count + length (concat fields.bitmaps) + length (concat fields.images) ≤ length body

pub front_lengths : (kind : RowsKind) (layout : Layout) (body : List ℕ) (fields : RowsBody) → 0 < length layout → rows_of kind layout body ≡ Ok fields → FieldLengths kind body fields
front_lengths kind layout body fields some e =
    let h = rows_found kind layout body fields (λ bytes images. (images_found layout bytes images, λ h. images_again layout bytes images some h.0 h.1)) e in
    record {
      id_len = h.id_len;
      flags_len = h.flags_len;
      extra_long = extra-long kind.version fields.extra_len fields.extra h.extra_counted;
      within = omega (arith, ap length h.text, h.id_len, h.flags_len, length-append {A = ℕ});
    }

-- the bitmaps as two are as long as they are together
pub two_lengths : (action : RowsAction) (first second : List ℕ) → (first, second) ≡ two_bitmaps (bitmaps_by action first second)
    → length (concat (bitmaps_by action first second)) ≡ length first + length second
two_lengths Write first second two = let none : second ≡ [] = ap (λ (b : List ℕ × List ℕ). b.1) two in rw none (length-append first [])
two_lengths Update first second two =
    let own = length-append first (second ++ []) in
    omega (arith, own, length-append second [])
two_lengths Delete first second two = let none : second ≡ [] = ap (λ (b : List ℕ × List ℕ). b.1) two in rw none (length-append first [])

-- bytes that are images are these, joined
pub images_are_joined : (layout : Layout) (bytes : List ℕ) → is_some (images_of layout bytes) ≡ true → bytes ≡ concat (unwrap_or (images_of layout bytes) [])
images_are_joined layout bytes are = by_case (images_of layout bytes) refl are
  where
    by_case : (o : Option (List (List ℕ))) → images_of layout bytes ≡ o → is_some o ≡ true → bytes ≡ concat (unwrap_or o [])
    by_case None e some = absurd (cc)
    by_case (Some images) e some = (images_found layout bytes images e).1

-- images that were counted are there
pub counted_are_there : (o : Option (List (List ℕ))) (len : ℕ) → option_map length o ≡ Some len → is_some o ≡ true
counted_are_there None len e = none_is_not len e
counted_are_there (Some images) len e = refl
