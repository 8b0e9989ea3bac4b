-- The body of a rows event: what is read is what stands there.
use Rattle.std.proofs.Common.{◌≡◌, ◌≤◌, ◌<◌, ◌+◌, ◌-◌, ◌%◌, ℕ, zero, suc, Bool, true, false, eqb, leb, List, [], ◌∷◌, ◌++◌, length, Option, Some, None, option_and_then, option_map, Ok, refl, sym, ap, ◌∙◌, subst, arith}
use Rattle.std.specs.List.{list_all, concat, AllByRecursion}
use Rattle.std.specs.Bool.{Decides}
use Rattle.std.proofs.lemmas.Bool.{eqb-true, eq-eqb, leb-true, le-leb, and_parts, and_from}
use Rattle.std.proofs.lemmas.Bool.Decides.{Decides-below_and}
use Rattle.std.proofs.lemmas.List.{append_assoc}
use Rattle.byteorder.specs.Endian.{little_number}
use Rattle.blog_row.specs.declared.kind.RowsKind.{RowsKind}
use Rattle.blog_row.specs.declared.kind.RowsVersion.{RowsVersion}
use Rattle.blog_row.specs.declared.kind.RowsVersion.TheVariants.{One, Two}
use Rattle.blog_row.specs.declared.fault.RowFault.TheVariants.{BadBody, PartialImage}
use Rattle.blog_row.specs.RowsKind.{images_a_row}
use Rattle.blog_row.specs.Checks.{cut}
use Rattle.blog_row.specs.Packed.{IsPacked, packed_front}
use Rattle.blog_row.specs.Column.{Layout}
use Rattle.blog_row.specs.Image.{bitmap_len, is_marked, images_of}
use Rattle.blog_row.specs.RowsEvent.{RowsBody, HasExtra, IsFullBitmap, IsRowsBody, are_marked, counted_extra, extra_of, pieces, rows_of}
use Rattle.blog_row.specs.Laws.{ReadsImages}
use Rattle.blog_row.proofs.Results.{step_found, step_again, reading_found, reading_again, check_found, check_again, same_ok}
use Rattle.std.proofs.lemmas.Option.{same_Some}
use Rattle.blog_row.proofs.Cutting.{cut_found, cut_again, map_found}
use Rattle.blog_row.proofs.PackedLemmas.{packed_found, packed_again}

-- ---- bitmaps

-- the test of a bitmap is the test of each bit
pub marks : (n : ℕ) (bitmap : List ℕ) → Decides (are_marked n bitmap) ((i : ℕ) → i < n → is_marked bitmap i ≡ true)
marks n bitmap = Decides-below_and (is_marked bitmap) (λ i. is_marked bitmap i ≡ true) (λ m. are_marked m bitmap) (λ i. ((λ e. e), (λ e. e))) refl (λ m. refl) n

-- pieces of the right length that pass the test are full bitmaps
pub full_found : (n : ℕ) (bitmaps : List (List ℕ)) → AllByRecursion (λ p. length p ≡ bitmap_len n) bitmaps → list_all (are_marked n) bitmaps ≡ true → AllByRecursion (IsFullBitmap n) bitmaps
full_found n [] long e = tt
full_found n (bitmap ∷ bitmaps) long e =
    let parts = and_parts (are_marked n bitmap) (list_all (are_marked n) bitmaps) e in
    (record { long = long.0; full = (marks n bitmap).0 parts.0 }, full_found n bitmaps long.1 parts.1)

-- full bitmaps have the right length
pub full_long : (n : ℕ) (bitmaps : List (List ℕ)) → AllByRecursion (IsFullBitmap n) bitmaps → AllByRecursion (λ p. length p ≡ bitmap_len n) bitmaps
full_long n [] full = tt
full_long n (bitmap ∷ bitmaps) full = (full.0.long, full_long n bitmaps full.1)

-- full bitmaps pass the test
pub full_again : (n : ℕ) (bitmaps : List (List ℕ)) → AllByRecursion (IsFullBitmap n) bitmaps → list_all (are_marked n) bitmaps ≡ true
full_again n [] full = refl
full_again n (bitmap ∷ bitmaps) full = and_from (are_marked n bitmap) (list_all (are_marked n) bitmaps) ((marks n bitmap).1 full.0.full) (full_again n bitmaps full.1)

-- ---- pieces

-- k pieces of n bytes each stand before the rest
pub record ArePieces (k n : ℕ) (bytes : List ℕ) (p : List (List ℕ) × List ℕ) : Type 0 where
  pub enough : length p.0 ≡ k
  pub each : AllByRecursion (λ x. length x ≡ n) p.0
  pub text : bytes ≡ concat p.0 ++ p.1

-- pieces that are read stand at the front
pub pieces_found : (k n : ℕ) (bytes : List ℕ) (p : List (List ℕ) × List ℕ) → pieces k n bytes ≡ Ok p → ArePieces k n bytes p
pieces_found zero n bytes p e = subst (λ (q : List (List ℕ) × List ℕ). ArePieces 0 n bytes q) (same_ok ([], bytes) p e) (record { enough = refl; each = tt; text = refl })
pieces_found (suc k) n bytes p e =
    step_found (cut n bytes) _ p e (λ first first_is e1.
    reading_found (pieces k n first.1) _ p e1 (λ others others_is e2.
    let from_first = cut_found n bytes first.0 first.1 first_is in
    let from_others = pieces_found k n first.1 others others_is in
    let found : List (List ℕ) × List ℕ = (first.0 ∷ others.0, others.1) in
    subst (λ (q : List (List ℕ) × List ℕ). ArePieces (suc k) n bytes q) (same_ok found p e2) (record {
      enough = ap suc from_others.enough;
      each = (from_first.0, from_others.each);
      text = from_first.1 ∙ ap (λ (x : List ℕ). first.0 ++ x) from_others.text ∙ sym (append_assoc first.0 (concat others.0) others.1);
    })))

-- pieces at the front are read
pub pieces_again : (k n : ℕ) (found : List (List ℕ)) (rest : List ℕ) → length found ≡ k → AllByRecursion (λ x. length x ≡ n) found → pieces k n (concat found ++ rest) ≡ Ok (found, rest)
pieces_again zero n [] rest enough each = refl
pieces_again zero n (first ∷ found) rest enough each = absurd (omega arith)
pieces_again (suc k) n [] rest enough each = absurd (omega arith)
pieces_again (suc k) n (first ∷ found) rest enough each =
    let others = pieces_again k n found rest (omega arith) each.1 in
    rw (append_assoc first (concat found) rest)
    (step_again (cut n (first ++ (concat found ++ rest))) _ (first, concat found ++ rest) (first ∷ found, rest) (cut_again n first (concat found ++ rest) each.0)
    (reading_again (pieces k n (concat found ++ rest)) _ (found, rest) (first ∷ found, rest) others refl))

-- ---- the extra bytes

-- what is read at the front is there
extra_found : (version : RowsVersion) (bytes : List ℕ) (e : List ℕ × List ℕ × List ℕ) → extra_of version bytes ≡ Some e → HasExtra version e.0 e.1 × (bytes ≡ e.0 ++ (e.1 ++ e.2))
extra_found One bytes e is =
    let same : ([], [], bytes) ≡ e = same_Some ([], [], bytes) e is in
    subst (λ (f : List ℕ × List ℕ × List ℕ). HasExtra One f.0 f.1 × (bytes ≡ f.0 ++ (f.1 ++ f.2))) same ((refl, refl), refl)
extra_found Two bytes e is = by_len (cut 2 bytes) refl is
  where
    by_test : (len : List ℕ × List ℕ) → cut 2 bytes ≡ Some len → (b : Bool) → leb 2 (little_number 2 len.0) ≡ b → counted_extra len ≡ Some e → HasExtra Two e.0 e.1 × (bytes ≡ e.0 ++ (e.1 ++ e.2))
    by_test len len_is false few is = absurd (let none : counted_extra len ≡ None = rw few refl in cc)
    by_test len len_is true enough is =
        let own : option_map (λ extra. (len.0, extra.0, extra.1)) (cut (little_number 2 len.0 - 2) len.1) ≡ Some e = sym (rw enough refl) ∙ is in
        let r : (r : List ℕ × List ℕ) × (cut (little_number 2 len.0 - 2) len.1 ≡ Some r) × ((len.0, r.0, r.1) ≡ e) = map_found (λ (extra : List ℕ × List ℕ). (len.0, extra.0, extra.1)) (cut (little_number 2 len.0 - 2) len.1) e own in
        let from_len = cut_found 2 bytes len.0 len.1 len_is in
        let from_extra = cut_found (little_number 2 len.0 - 2) len.1 r.0.0 r.0.1 r.1 in
        let least : 2 ≤ little_number 2 len.0 = leb-true 2 (little_number 2 len.0) enough in
        let counted : little_number 2 len.0 ≡ length r.0.0 + 2 = omega (arith, from_extra.0) in
        subst (λ (f : List ℕ × List ℕ × List ℕ). HasExtra Two f.0 f.1 × (bytes ≡ f.0 ++ (f.1 ++ f.2))) r.2
        ((from_len.0, counted), from_len.1 ∙ ap (λ (x : List ℕ). len.0 ++ x) from_extra.1)

    by_len : (o : Option (List ℕ × List ℕ)) → cut 2 bytes ≡ o → option_and_then counted_extra o ≡ Some e → HasExtra Two e.0 e.1 × (bytes ≡ e.0 ++ (e.1 ++ e.2))
    by_len None len_is is = absurd (cc)
    by_len (Some len) len_is is = by_test len len_is (leb 2 (little_number 2 len.0)) refl is

-- what is there is read
extra_again : (version : RowsVersion) (len extra rest : List ℕ) → HasExtra version len extra → extra_of version (len ++ (extra ++ rest)) ≡ Some (len, extra, rest)
extra_again One len extra rest h = rw (h.0, h.1) refl
extra_again Two len extra rest h =
    let enough : 2 ≤ little_number 2 len = omega (arith, h.1) in
    let long : length extra ≡ little_number 2 len - 2 = omega (arith, h.1) in
    let test : leb 2 (little_number 2 len) ≡ true = le-leb 2 (little_number 2 len) enough in
    let front : cut 2 (len ++ (extra ++ rest)) ≡ Some (len, extra ++ rest) = cut_again 2 len (extra ++ rest) h.0 in
    let behind : cut (little_number 2 len - 2) (extra ++ rest) ≡ Some (extra, rest) = cut_again (little_number 2 len - 2) extra rest long in
    ap (option_and_then counted_extra) front ∙ rw (test, behind) refl

-- ---- rows bodies

-- fields that are read are those of the body
pub rows_found : (kind : RowsKind) (layout : Layout) (body : List ℕ) (fields : RowsBody) → ((bytes : List ℕ) (images : List (List ℕ)) → ReadsImages layout bytes images) → rows_of kind layout body ≡ Ok fields → IsRowsBody kind layout body fields
unfolding rows_of
rows_found kind layout body fields reads_images e =
    step_found (cut 6 body) _ fields e (λ id id_is e1.
    step_found (cut 2 id.1) _ fields e1 (λ flags flags_is e2.
    step_found (extra_of kind.version flags.1) _ fields e2 (λ extra extra_is e5.
    step_found (packed_front extra.2) _ fields e5 (λ counted counted_is e6.
    check_found (eqb counted.0 (length layout)) BadBody _ fields e6 (λ own e7.
    reading_found (pieces (images_a_row kind.action) (bitmap_len (length layout)) counted.2) _ fields e7 (λ bitmaps bitmaps_is e8.
    check_found (list_all (are_marked (length layout)) bitmaps.0) PartialImage _ fields e8 (λ marked e9.
    step_found (images_of layout bitmaps.1) _ fields e9 (λ images images_is e10.
    check_found (eqb (length images % images_a_row kind.action) 0) BadBody _ fields e10 (λ whole e11.
    let from_id = cut_found 6 body id.0 id.1 id_is in
    let from_flags = cut_found 2 id.1 flags.0 flags.1 flags_is in
    let from_extra = extra_found kind.version flags.1 extra extra_is in
    let from_count = packed_found extra.2 counted.0 counted.1 counted.2 counted_is in
    let from_bitmaps = pieces_found (images_a_row kind.action) (bitmap_len (length layout)) counted.2 bitmaps bitmaps_is in
    let from_images = (reads_images bitmaps.1 images).0 images_is in
    let found : RowsBody = record { id = id.0; flags = flags.0; extra_len = extra.0; extra = extra.1; count = counted.1; bitmaps = bitmaps.0; images = images } in
    subst (λ (f : RowsBody). IsRowsBody kind layout body f) (same_ok found fields e11) (record {
      id_len = from_id.0;
      flags_len = from_flags.0;
      extra_counted = from_extra.0;
      counted = subst (IsPacked counted.1) (eqb-true counted.0 (length layout) own) from_count.0;
      bitmaps_enough = from_bitmaps.enough;
      bitmaps_full = full_found (length layout) bitmaps.0 from_bitmaps.each marked;
      images_each = from_images.0;
      rows_whole = eqb-true (length images % images_a_row kind.action) 0 whole;
      text = from_id.1 ∙ ap (λ (x : List ℕ). id.0 ++ x) (from_flags.1 ∙ ap (λ (x : List ℕ). flags.0 ++ x) (from_extra.1 ∙ ap (λ (x : List ℕ). extra.0 ++ (extra.1 ++ x))
          (from_count.1 ∙ ap (λ (x : List ℕ). counted.1 ++ x) (from_bitmaps.text ∙ ap (λ (x : List ℕ). concat bitmaps.0 ++ x) from_images.1))));
    }))))))))))

-- the fields of a body are read
pub rows_again : (kind : RowsKind) (layout : Layout) (body : List ℕ) (fields : RowsBody) → ((bytes : List ℕ) (images : List (List ℕ)) → ReadsImages layout bytes images) → IsRowsBody kind layout body fields → rows_of kind layout body ≡ Ok fields
unfolding rows_of
rows_again kind layout body fields reads_images h =
    let n = length layout in
    let id = fields.id in
    let flags = fields.flags in
    let extra_len = fields.extra_len in
    let extra = fields.extra in
    let bytes_6 = concat fields.images in
    let bytes_5 = concat fields.bitmaps ++ bytes_6 in
    let bytes_4 = fields.count ++ bytes_5 in
    let bytes_2 = extra_len ++ (extra ++ bytes_4) in
    let bytes_1 = flags ++ bytes_2 in
    rw h.text
    (step_again (cut 6 (id ++ bytes_1)) _ (id, bytes_1) fields (cut_again 6 id bytes_1 h.id_len)
    (step_again (cut 2 bytes_1) _ (flags, bytes_2) fields (cut_again 2 flags bytes_2 h.flags_len)
    (step_again (extra_of kind.version bytes_2) _ (extra_len, extra, bytes_4) fields (extra_again kind.version extra_len extra bytes_4 h.extra_counted)
    (step_again (packed_front bytes_4) _ (n, fields.count, bytes_5) fields (packed_again n fields.count bytes_5 h.counted)
    (check_again _ BadBody _ fields (eq-eqb n n refl)
    (reading_again (pieces (images_a_row kind.action) (bitmap_len n) bytes_5) _ (fields.bitmaps, bytes_6) fields (pieces_again (images_a_row kind.action) (bitmap_len n) fields.bitmaps bytes_6 h.bitmaps_enough (full_long n fields.bitmaps h.bitmaps_full))
    (check_again _ PartialImage _ fields (full_again n fields.bitmaps h.bitmaps_full)
    (step_again (images_of layout bytes_6) _ fields.images fields ((reads_images bytes_6 fields.images).1 (h.images_each, refl))
    (check_again _ BadBody _ fields (eq-eqb (length fields.images % images_a_row kind.action) 0 h.rows_whole) refl)))))))))
