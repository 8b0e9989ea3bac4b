-- Rows that are reversed, and the fields that are written of a body.
use Rattle.std.proofs.Common.{◌≡◌, ◌%◌, ℕ, Bool, List, [], ◌∷◌, ◌++◌, length, map, reverse, refl, sym, ap, ap₂, ◌∙◌, subst, arith, length-append}
use Rattle.std.specs.List.{AllByRecursion, concat, flat_map}
use Rattle.std.proofs.lemmas.Grind.{flat_map-append}
use Rattle.std.proofs.lemmas.List.{append-nil, reverse-append, reverse-reverse, length-reverse}
use Rattle.std.proofs.lemmas.List.Folds.{concat-append}
use Rattle.blog_row.specs.declared.kind.RowsAction.{RowsAction}
use Rattle.blog_row.specs.declared.kind.RowsAction.TheVariants.{Write, Update, Delete}
use Rattle.blog_row.specs.declared.kind.RowsKind.{RowsKind}
use Rattle.blog_row.specs.declared.kind.RowsVersion.{RowsVersion}
use Rattle.blog_row.specs.declared.kind.RowsVersion.TheVariants.{One, Two}
use Rattle.blog_row.specs.declared.order.Order.{Order}
use Rattle.blog_row.specs.declared.order.Order.TheVariants.{Forward, Backward}
use Rattle.blog_row.specs.RowsKind.{images_a_row, opposite, opposite_kind}
use Rattle.blog_row.specs.Packed.{IsPacked}
use Rattle.blog_row.specs.Column.{Layout}
use Rattle.blog_row.specs.Image.{IsSomeImage}
use Rattle.blog_row.specs.RowsEvent.{RowsBody, HasExtra, IsFullBitmap, IsRowsBody}
use Rattle.blog_row.specs.RowsWriting.{RowsContent, content_of, content_in, kind_in, in_twos, images_by_row, exchanged, reversed_rows, reversed_content, no_extra, written_fields, written_body}

-- ---- the images of reversed rows

-- the first row comes last
first-last : (row : List (List ℕ)) (rows : List (List (List ℕ))) → reversed_rows (row ∷ rows) ≡ reversed_rows rows ++ exchanged row
first-last row rows =
    ap (flat_map exchanged) (reverse-append (row ∷ []) rows) ∙ flat_map-append exchanged (reverse rows) (row ∷ [])
    ∙ ap (λ (t : List (List ℕ)). reversed_rows rows ++ t) (append-nil (exchanged row))

one-each : (images : List (List ℕ)) → reversed_rows (map (λ image. image ∷ []) images) ≡ reverse images
one-each [] = refl
one-each (image ∷ images) =
    first-last (image ∷ []) (map (λ image. image ∷ []) images) ∙ ap (λ (t : List (List ℕ)). t ++ image ∷ []) (one-each images)
    ∙ sym (reverse-append (image ∷ []) images)

two-each : (images : List (List ℕ)) → reversed_rows (in_twos images) ≡ reverse images
two-each [] = refl
two-each (image ∷ []) = refl
two-each (before ∷ after ∷ images) =
    first-last (before ∷ after ∷ []) (in_twos images) ∙ ap (λ (t : List (List ℕ)). t ++ after ∷ before ∷ []) (two-each images)
    ∙ sym (reverse-append (before ∷ after ∷ []) images)

-- the images of rows that are reversed stand from the last to the first
pub images-reversed : (action : RowsAction) (images : List (List ℕ)) → reversed_rows (images_by_row action images) ≡ reverse images
images-reversed Write images = one-each images
images-reversed Update images = two-each images
images-reversed Delete images = one-each images

-- ---- bitmaps that are exchanged

pub exchanged-twice : (bitmaps : List (List ℕ)) → exchanged (exchanged bitmaps) ≡ bitmaps
exchanged-twice [] = refl
exchanged-twice (one ∷ []) = refl
exchanged-twice (one ∷ two ∷ []) = refl
exchanged-twice (one ∷ two ∷ three ∷ more) = refl

pub length-exchanged : (bitmaps : List (List ℕ)) → length (exchanged bitmaps) ≡ length bitmaps
length-exchanged [] = refl
length-exchanged (one ∷ []) = refl
length-exchanged (one ∷ two ∷ []) = refl
length-exchanged (one ∷ two ∷ three ∷ more) = refl

pub joined-exchanged : (bitmaps : List (List ℕ)) → length (concat (exchanged bitmaps)) ≡ length (concat bitmaps)
joined-exchanged [] = refl
joined-exchanged (one ∷ []) = refl
joined-exchanged (one ∷ two ∷ []) =
    let swapped = length-append two (one ++ []) in
    let own = length-append one (two ++ []) in
    omega (arith, swapped, own, length-append one [], length-append two [])
joined-exchanged (one ∷ two ∷ three ∷ more) = refl

pub all-exchanged : (P : List ℕ → Type 0) (bitmaps : List (List ℕ)) → AllByRecursion P bitmaps → AllByRecursion P (exchanged bitmaps)
all-exchanged P [] all = tt
all-exchanged P (one ∷ []) all = all
all-exchanged P (one ∷ two ∷ []) all = (all.1.0, (all.0, tt))
all-exchanged P (one ∷ two ∷ three ∷ more) all = all

-- ---- all elements of a list

-- what holds of the elements of two lists, holds of those of both joined
pub all-append : {A : Type 0} (P : A → Type 0) (xs ys : List A) → AllByRecursion P xs → AllByRecursion P ys → AllByRecursion P (xs ++ ys)
all-append P [] ys all others = others
all-append P (x ∷ xs) ys all others = (all.0, all-append P xs ys all.1 others)

-- and of the elements in reverse order
pub all-reverse : {A : Type 0} (P : A → Type 0) (xs : List A) → AllByRecursion P xs → AllByRecursion P (reverse xs)
all-reverse P [] all = tt
all-reverse P (x ∷ xs) all = subst (AllByRecursion P) (sym (reverse-append (x ∷ []) xs)) (all-append P (reverse xs) (x ∷ []) (all-reverse P xs all.1) (all.0, tt))

-- ---- the fields that are written

-- what is kept of a body makes fields of a body of its kind
pub record IsContent (layout : Layout) (c : RowsContent) : Type 0 where
  pub id_len : length c.id ≡ 6
  pub counted : IsPacked c.count (length layout)
  pub bitmaps_enough : length c.bitmaps ≡ images_a_row c.kind.action
  pub bitmaps_full : AllByRecursion (IsFullBitmap (length layout)) c.bitmaps
  pub images_each : AllByRecursion (IsSomeImage layout) c.images
  pub rows_whole : length c.images % images_a_row c.kind.action ≡ 0

pub none-extra : (version : RowsVersion) → HasExtra version (no_extra version) []
none-extra One = (refl, refl)
none-extra Two = (refl, refl)

-- the body that is written is a rows body of the fields that are written
pub written-is : (last : Bool) (layout : Layout) (c : RowsContent) → IsContent layout c → IsRowsBody c.kind layout (written_body last c) (written_fields last c)
unfolding written_body
written-is last layout c h = record {
  id_len = h.id_len;
  flags_len = refl;
  extra_counted = none-extra c.kind.version;
  counted = h.counted;
  bitmaps_enough = h.bitmaps_enough;
  bitmaps_full = h.bitmaps_full;
  images_each = h.images_each;
  rows_whole = h.rows_whole;
  text = refl;
}

-- what is kept of a body that was read is content
pub content-is : (kind : RowsKind) (layout : Layout) (body : List ℕ) (fields : RowsBody) → IsRowsBody kind layout body fields → IsContent layout (content_of kind fields)
content-is kind layout body fields h =
    record { id_len = h.id_len; counted = h.counted; bitmaps_enough = h.bitmaps_enough; bitmaps_full = h.bitmaps_full; images_each = h.images_each; rows_whole = h.rows_whole }

pub same-number : (action : RowsAction) → images_a_row (opposite action) ≡ images_a_row action
same-number Write = refl
same-number Update = refl
same-number Delete = refl

-- content that is reversed is content
pub reversed-is : (layout : Layout) (c : RowsContent) → IsContent layout c → IsContent layout (reversed_content c)
reversed-is layout c h =
    let images = images-reversed c.kind.action c.images in
    let same = same-number c.kind.action in
    record {
      id_len = h.id_len;
      counted = h.counted;
      bitmaps_enough = length-exchanged c.bitmaps ∙ h.bitmaps_enough ∙ sym same;
      bitmaps_full = all-exchanged (IsFullBitmap (length layout)) c.bitmaps h.bitmaps_full;
      images_each = subst (AllByRecursion (IsSomeImage layout)) (sym images) (all-reverse (IsSomeImage layout) c.images h.images_each);
      rows_whole =
          ap (λ (xs : List (List ℕ)). length xs % images_a_row (opposite c.kind.action)) images
          ∙ ap (λ (n : ℕ). n % images_a_row (opposite c.kind.action)) (length-reverse c.images) ∙ ap (λ (n : ℕ). length c.images % n) same ∙ h.rows_whole;
    }

pub written-reads : (order : Order) (last : Bool) (kind : RowsKind) (layout : Layout) (body : List ℕ) (fields : RowsBody) → IsRowsBody kind layout body fields
    → IsRowsBody (kind_in order kind) layout (written_body last (content_in order (content_of kind fields))) (written_fields last (content_in order (content_of kind fields)))
written-reads Forward last kind layout body fields h = written-is last layout (content_of kind fields) (content-is kind layout body fields h)
written-reads Backward last kind layout body fields h =
    written-is last layout (reversed_content (content_of kind fields)) (reversed-is layout (content_of kind fields) (content-is kind layout body fields h))

-- ---- twice

opposite-twice : (kind : RowsKind) → opposite_kind (opposite_kind kind) ≡ kind
opposite-twice kind = ap (λ (action : RowsAction). record kind { action = action }) (by_action kind.action)
  where
    by_action : (action : RowsAction) → opposite (opposite action) ≡ action
    by_action Write = refl
    by_action Update = refl
    by_action Delete = refl

pub content-twice : (c : RowsContent) → reversed_content (reversed_content c) ≡ c
content-twice c =
    let once = images-reversed c.kind.action c.images in
    let images =
    images-reversed (opposite c.kind.action) (reversed_rows (images_by_row c.kind.action c.images)) ∙ ap reverse once ∙ reverse-reverse c.images in
    ap (λ (kind : RowsKind). record (reversed_content (reversed_content c)) { kind = kind }) (opposite-twice c.kind)
    ∙ ap₂ (λ (bitmaps images : List (List ℕ)). record c { bitmaps = bitmaps; images = images }) (exchanged-twice c.bitmaps) images

-- ---- how long

pub images-as-long : (action : RowsAction) (images : List (List ℕ)) → length (concat (reversed_rows (images_by_row action images))) ≡ length (concat images)
images-as-long action images = ap (λ (xs : List (List ℕ)). length (concat xs)) (images-reversed action images) ∙ reversed-as-long images
  where
    reversed-as-long : (xs : List (List ℕ)) → length (concat (reverse xs)) ≡ length (concat xs)
    reversed-as-long [] = refl
    reversed-as-long (x ∷ xs) =
        let others = reversed-as-long xs in
        let parts : concat (reverse (x ∷ xs)) ≡ concat (reverse xs) ++ x =
        ap concat (reverse-append (x ∷ []) xs) ∙ concat-append (reverse xs) (x ∷ []) ∙ ap (λ (t : List ℕ). concat (reverse xs) ++ t) (append-nil x) in
        ap length parts ∙ omega (arith, length-append (concat (reverse xs)) x, length-append x (concat xs), others)
