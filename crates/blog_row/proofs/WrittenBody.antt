-- The body that is written for a rows event: its parts, and how long it is.
use Rattle.std.proofs.Common.{◌≡◌, ◌+◌, ◌≤◌, ◌-◌, ℕ, Bool, true, List, [], ◌∷◌, ◌++◌, length, take, drop, refl, sym, ap, ◌∙◌, arith, length-append, length-drop, append_assoc, append-nil, take_at, drop_at, subst}
use Rattle.std.specs.List.{concat}
use Rattle.byteorder.specs.Endian.{little_bytes, little_number}
use Rattle.byteorder.specs.Numbers.{little_from-append}
use Rattle.blog_row.specs.declared.kind.RowsKind.{RowsKind}
use Rattle.blog_row.specs.declared.kind.RowsVersion.{RowsVersion}
use Rattle.blog_row.specs.declared.kind.RowsVersion.TheVariants.{One, Two}
use Rattle.blog_row.specs.declared.order.Order.{Order}
use Rattle.blog_row.specs.declared.order.Order.TheVariants.{Forward, Backward}
use Rattle.blog_row.specs.Column.{Layout}
use Rattle.blog_row.specs.RowsEvent.{HasExtra, RowsBody, IsRowsBody}
use Rattle.blog_row.specs.code.RowsEventView.{written_front}
use Rattle.blog_row.specs.RowsWriting.{RowsContent, content_of, content_in, reversed_content, no_extra, written_flags, written_body}
use Rattle.blog_row.proofs.ReversedRows.{images-as-long, joined-exchanged}
use Rattle.blog_row.proofs.RowsCode.{extra-long}

written-len : (last : Bool) (c : RowsContent) → length (written_body last c) ≡ length c.id + 2 + length (no_extra c.kind.version) + length c.count + length (concat c.bitmaps) + length (concat c.images)
unfolding written_body
written-len last c = simp length-append (omega arith)

pub body-len : (order : Order) (last : Bool) (c : RowsContent)
    → length (written_body last (content_in order c)) ≡ length c.id + 2 + length (no_extra c.kind.version) + length c.count + length (concat c.bitmaps) + length (concat c.images)
body-len Forward last c = written-len last c
body-len Backward last c = written-len last (reversed_content c) ∙ omega (arith, joined-exchanged c.bitmaps, images-as-long c.kind.action c.images)

-- the body is its front and its images
pub body-parts : (last : Bool) (c : RowsContent) → written_body last c ≡ written_front last c ++ concat c.images
unfolding written_body written_front
body-parts last c = simp append_assoc

-- as many images in either order
pub images-len : (order : Order) (c : RowsContent) → length (concat (content_in order c).images) ≡ length (concat c.images)
images-len Forward c = refl
images-len Backward c = images-as-long c.kind.action c.images

-- the slices that are written one after the other are the front
pub front-parts : (last : Bool) (c : RowsContent) (id flags extra count first second : List ℕ) → id ≡ c.id → flags ≡ little_bytes 2 (written_flags last c.flags) → extra ≡ no_extra c.kind.version → count ≡ c.count
    → first ++ second ≡ concat c.bitmaps → id ++ (flags ++ (extra ++ (count ++ (first ++ (second ++ []))))) ≡ written_front last c
unfolding written_front
front-parts last c id flags extra count first second is_id is_flags is_extra is_count is_bitmaps =
    ap (λ (t : List ℕ). id ++ (flags ++ (extra ++ (count ++ (first ++ t))))) (append-nil second) ∙ rw (is_id, is_flags, is_extra, is_count, is_bitmaps) refl

-- the front and then the images
pub body-is-written : (order : Order) (last : Bool) (c : RowsContent) (old new to : List ℕ) (n : ℕ) → length old ≡ length (written_body last (content_in order c)) → n ≡ length (concat c.images)
    → new ≡ written_front last (content_in order c) ++ drop (length (written_front last (content_in order c))) old
    → to ≡ take (length new - n) new ++ concat (content_in order c).images → to ≡ written_body last (content_in order c)
body-is-written order last c old new to n room images front whole =
    let d = content_in order c in
    let text = written_front last d in
    let parts = ap length (body-parts last d) ∙ length-append text (concat d.images) in
    let same = images-len order c in
    let sizes = ap length front ∙ length-append text (drop (length text) old) in
    let left = length-drop (length text) old in
    let at : length new - n ≡ length text = omega (arith, room, parts, same, images, sizes, left) in
    whole
    ∙ ap (λ (k : ℕ). take k new ++ concat d.images) at
    ∙ ap (λ (t : List ℕ). take (length text) t ++ concat d.images) front
    ∙ ap (λ (t : List ℕ). t ++ concat d.images) (take_at text (drop (length text) old) (length text) refl)
    ∙ sym (body-parts last d)

-- what both orders have in common
pub record Kept (c d : RowsContent) : Type 0 where
  pub id : d.id ≡ c.id
  pub flags : d.flags ≡ c.flags
  pub version : d.kind.version ≡ c.kind.version
  pub count : d.count ≡ c.count

pub kept : (order : Order) (c : RowsContent) → Kept c (content_in order c)
kept Forward c = record { id = refl; flags = refl; version = refl; count = refl }
kept Backward c = record { id = refl; flags = refl; version = refl; count = refl }

-- the extra length that is written, a front of its two bytes
pub extra-front : (version : RowsVersion) (n : ℕ) → n ≡ length (no_extra version) → take n (2 ∷ 0 ∷ []) ≡ no_extra version
extra-front One n e = rw e refl
extra-front Two n e = rw e refl

-- the room has a front and the images
pub room-parts : (order : Order) (last : Bool) (c : RowsContent) → length (written_body last (content_in order c)) ≡ length (written_front last (content_in order c)) + length (concat c.images)
room-parts order last c =
    let d = content_in order c in
    let parts = ap length (body-parts last d) ∙ length-append (written_front last d) (concat d.images) in
    omega (arith, parts, images-len order c)

-- the body that is written is no longer than the one that was read
pub written-fits : (kind : RowsKind) (layout : Layout) (body : List ℕ) (b : RowsBody) → IsRowsBody kind layout body b → length (written_body true (content_of kind b)) ≤ length body
written-fits kind layout body b h =
    omega (arith, body-len Forward true (content_of kind b), ap length h.text, h.flags_len, extra-long kind.version b.extra_len b.extra h.extra_counted, length-append {A = ℕ})

-- it leaves out the extra bytes
pub written-long : (kind : RowsKind) (layout : Layout) (body : List ℕ) (b : RowsBody) → IsRowsBody kind layout body b
    → length body + length (no_extra kind.version) ≡ length (written_body true (content_of kind b)) + length b.extra_len + length b.extra
written-long kind layout body b h =
    omega (arith, body-len Forward true (content_of kind b), ap length h.text, h.flags_len, length-append {A = ℕ})

-- in version 1 there are none
pub written-one : (kind : RowsKind) (layout : Layout) (body : List ℕ) (b : RowsBody) → kind.version ≡ One → IsRowsBody kind layout body b → length body ≡ length (written_body true (content_of kind b))
written-one kind layout body b one h =
    let extra = subst (λ version. HasExtra version b.extra_len b.extra) one h.extra_counted in
    omega (arith, written-long kind layout body b h, ap (λ version. length (no_extra version)) one, ap length extra.0, ap length extra.1)

-- in version 2 the extra length counts them and itself
pub record ByExtra (body written : List ℕ) : Type 0 where
  pub long : 10 ≤ length body
  pub counted : length body + 2 ≡ length written + little_number 2 (drop 8 body)
  pub two : 2 ≤ little_number 2 (drop 8 body)
  pub within : little_number 2 (drop 8 body) ≤ length body

pub written-two : (kind : RowsKind) (layout : Layout) (body : List ℕ) (b : RowsBody) → kind.version ≡ Two → IsRowsBody kind layout body b → ByExtra body (written_body true (content_of kind b))
written-two kind layout body b two h =
    let extra = subst (λ version. HasExtra version b.extra_len b.extra) two h.extra_counted in
    let behind = b.extra ++ (b.count ++ (concat b.bitmaps ++ concat b.images)) in
    let head = b.id ++ b.flags in
    let is : body ≡ head ++ (b.extra_len ++ behind) = h.text ∙ sym (append_assoc b.id b.flags (b.extra_len ++ behind)) in
    let long = length-append b.id b.flags in
    let number : little_number 2 (drop 8 body) ≡ little_number 2 b.extra_len =
    ap (λ (bytes : List ℕ). little_number 2 (drop 8 bytes)) is ∙ ap (little_number 2) (drop_at head (b.extra_len ++ behind) 8 (omega (arith, long, h.id_len, h.flags_len))) ∙ little_from-append 2 b.extra_len behind (omega (arith, extra.0)) in
    let sum = written-long kind layout body b h in
    let none = ap (λ version. length (no_extra version)) two in
    let whole = ap length is in
    let parts = length-append head (b.extra_len ++ behind) in
    let front = length-append b.extra_len behind in
    let others = length-append b.extra (b.count ++ (concat b.bitmaps ++ concat b.images)) in
    record {
      long = omega (arith, whole, parts, front, long, h.id_len, h.flags_len, extra.0);
      counted = omega (arith, sum, none, number, extra.0, extra.1);
      two = omega (arith, number, extra.1);
      within = omega (arith, number, extra.0, extra.1, whole, parts, front, others, long, h.id_len, h.flags_len);
    }
