-- How long images of columns of fixed width are, by the byte of their null bits.
use Rattle.std.proofs.Common.{◌≡◌, ◌<◌, ◌≤◌, ℕ, ◌+◌, ◌/◌, ◌%◌, ◌^◌, List, [], ◌∷◌, length, take, drop, get_or, Some, refl, sym, ap, ◌∙◌, subst, arith, leb, le-leb}
use Rattle.std.specs.List.{slice_get}
use Rattle.std.proofs.lemmas.Bool.{cond-true}
use Rattle.std.proofs.lemmas.Option.{slice_get_within}
use Rattle.blog_row.specs.declared.column.Storage as told
use Rattle.blog_row.specs.declared.column.Storage.TheVariants as variants
use Rattle.blog_row.specs.Checks.{cut}
use Rattle.blog_row.specs.Column.{Layout, Fixed, value_stored}
use Rattle.blog_row.specs.Image.{bitmap_len, image_front}
use Rattle.blog_row.specs.code.PositionView.{from_position, EndsAt, behind_from}
use Rattle.blog_row.specs.code.SameNullsView.{IsLengthWith}
use Rattle.blog_row.specs.code.StorageView.{AreStored, storage_seen}
use Rattle.blog_row.proofs.PositionWalking.{rest_of, fixed_ends, image_begins, image_ends, image_cut}
use Rattle.blog_row.proofs.StorageWalking.{next_column, as_many_stored}

-- one column further, the k-th, whose value has so many bytes where it is there
pub next_fixed : (columns : Layout) (storages : List told.Storage) (bits bytes : List ℕ) (nulls k at width own : ℕ) (d : told.Storage)
    → k < 8 → k < length storages → AreStored columns storages → get_or bits 0 0 ≡ nulls → get_or storages k d ≡ variants.Fixed width
    → ((nulls / 2 ^ k) % 2 ≡ 0 → own ≡ width) → ((nulls / 2 ^ k) % 2 ≡ 1 → own ≡ 0)
    → behind_from (drop k columns) bits k at bytes ≡ behind_from (drop (k + 1) columns) bits (k + 1) (at + own) bytes
next_fixed columns storages bits bytes nulls k at width own d low below stored byte fixed there absent =
    let bit : (get_or bits 0 0 / 2 ^ k) % 2 ≡ (nulls / 2 ^ k) % 2 = ap (λ n. (n / 2 ^ k) % 2) byte in
    let here : get_or storages (0 + k) d ≡ variants.Fixed width = ap (λ i. get_or storages i d) (omega arith) ∙ fixed in
    let from : k ≡ 0 + k = omega arith in
    let to : 0 + (k + 1) ≡ k + 1 = omega arith in
    ap (λ i. behind_from (drop k columns) bits i at bytes) from
    ∙ next_column columns storages bits bytes 0 k at d (Some (at + own)) refl low (omega (arith, below)) stored
    (λ clear.
    let end : at + width ≡ at + own = omega (arith, there (sym bit ∙ clear)) in
    let ends : EndsAt (value_stored (Fixed width)) at bytes (Some (at + own)) = subst (λ n. EndsAt (value_stored (Fixed width)) at bytes (Some n)) end (fixed_ends width at bytes) in
    subst (λ (s : told.Storage). EndsAt (value_stored (storage_seen s)) at bytes (Some (at + own))) (sym here) ends)
    (λ set. ap Some (omega (arith, absent (sym bit ∙ set))))
    ∙ ap (λ i. behind_from (drop (k + 1) columns) bits i (at + own) bytes) to

-- the byte in front, alone
first_byte : (bytes : List ℕ) (nulls : ℕ) → slice_get bytes 0 ≡ Some nulls → get_or (take 1 bytes) 0 0 ≡ nulls
first_byte [] nulls e = absurd (cc)
first_byte (b ∷ bytes) nulls e = cc

-- all images with these null bits are so long, where their values end there
pub length_known : (columns : Layout) (storages : List told.Storage) (nulls len : ℕ) → 0 < length storages → length storages ≤ 8 → AreStored columns storages
    → ((bits bytes : List ℕ) → get_or bits 0 0 ≡ nulls → behind_from columns bits 0 1 bytes ≡ from_position len bytes) → IsLengthWith columns nulls len
length_known columns storages nulls len some few stored behind bytes first =
    let here : 0 < length bytes = slice_get_within bytes 0 nulls first in
    let one : 1 ≡ bitmap_len (length columns) = omega (arith, as_many_stored columns storages stored, some, few) in
    let front : cut 1 bytes ≡ Some (take 1 bytes, drop 1 bytes) = cond-true (leb 1 (length bytes)) _ _ (le-leb 1 (length bytes) (omega arith)) in
    let begins = image_begins columns bytes (take 1 bytes) (drop 1 bytes) 1 one front in
    let ends : rest_of (image_front columns bytes) ≡ from_position len bytes = sym begins ∙ behind (take 1 bytes) bytes (first_byte bytes nulls first) in
    (λ within. image_ends columns bytes len ends within, λ short. image_cut columns bytes len ends short)
