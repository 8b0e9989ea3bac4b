-- How the code reads a layout: part by part.
use Rattle.std.proofs.Common.{◌≡◌, ◌<◌, ◌≤◌, ℕ, Bool, true, false, ◌&&◌, cond, eqb, leb, List, length, take, drop, Option, Some, None, option_and_then, Result, Ok, Err, is_ok, refl, sym, ap, ◌∙◌, arith, leb-true, le-leb, ◌+◌, length-append}
use Rattle.std.proofs.lemmas.Bool.{and_parts, and_from, eqb-true}
use Rattle.std.proofs.lemmas.List.{take_at}
use Rattle.std.specs.List.{list_all}
use Rattle.blog_row.specs.declared.fault.RowFault.{RowFault}
use Rattle.blog_row.specs.declared.fault.RowFault.TheVariants.{BadBody, UnknownType}
use Rattle.blog_row.specs.Checks.{◌>>=◌, check, or_bad, cut}
use Rattle.blog_row.specs.Packed.{packed_front}
use Rattle.blog_row.specs.Column.{Layout, is_column, metadata_total, columns_of}
use Rattle.blog_row.specs.Image.{bitmap_len}
use Rattle.blog_row.specs.TableMap.{layout_fields}
use Rattle.blog_row.specs.code.LayoutReading.{are_known, total_of, types_front, metadata_front, layout_behind}
use Rattle.blog_row.proofs.Results.{step_found, check_found}
use Rattle.blog_row.proofs.Cutting.{none_is_not, and_then_found, cut_found}

-- ---- two readings that go on alike

-- a step of both, where the second reading goes on within the step
by_step : {A B C D : Type 0} (o : Option A) (f : A → Result B RowFault) (h : B → Result C RowFault) (part : A → Option D) (g : D → Result C RowFault)
    → ((x : A) → o ≡ Some x → (f x >>= h) ≡ (or_bad (part x) >>= g)) → ((or_bad o >>= f) >>= h) ≡ (or_bad (option_and_then part o) >>= g)
by_step None f h part g same = refl
by_step (Some x) f h part g same = same x refl

-- a check of both, where the second reading goes on within the step
by_test : {B C D : Type 0} (b : Bool) (r : Result B RowFault) (h : B → Result C RowFault) (part : Option D) (g : D → Result C RowFault)
    → (b ≡ true → (r >>= h) ≡ (or_bad part >>= g)) → (check b BadBody r >>= h) ≡ (or_bad (cond b part None) >>= g)
by_test false r h part g same = refl
by_test true r h part g same = same refl

-- a step of both
by_cut : {A B C : Type 0} (o : Option A) (f : A → Result B RowFault) (h : B → Result C RowFault) (g : A → Result C RowFault)
    → ((x : A) → o ≡ Some x → (f x >>= h) ≡ g x) → ((or_bad o >>= f) >>= h) ≡ (or_bad o >>= g)
by_cut None f h g same = refl
by_cut (Some x) f h g same = same x refl

-- a check of both
by_check : {B C : Type 0} (b : Bool) (fault : RowFault) (r : Result B RowFault) (h : B → Result C RowFault) (s : Result C RowFault)
    → (b ≡ true → (r >>= h) ≡ s) → (check b fault r >>= h) ≡ check b fault s
by_check false fault r h s same = refl
by_check true fault r h s same = same refl

-- the last step, of which only its length matters
by_end : {B C : Type 0} (n m : ℕ) (bytes : List ℕ) (f : List ℕ × List ℕ → B) (h : B → Result C RowFault) (y : C) → n ≡ m → ((x : List ℕ × List ℕ) → h (f x) ≡ Ok y)
    → ((or_bad (cut n bytes) >>= (λ x. Ok (f x))) >>= h) ≡ check (leb m (length bytes)) BadBody (Ok y)
by_end n m bytes f h y e same = by_case (leb n (length bytes)) refl
  where
    by_case : (t : Bool) → leb n (length bytes) ≡ t → ((or_bad (cut n bytes) >>= (λ x. Ok (f x))) >>= h) ≡ check (leb m (length bytes)) BadBody (Ok y)
    by_case true fits =
        let other : leb m (length bytes) ≡ true = ap (λ k. leb k (length bytes)) (sym e) ∙ fits in
        rw (fits, other) (same (take n bytes, drop n bytes))
    by_case false short =
        let other : leb m (length bytes) ≡ false = ap (λ k. leb k (length bytes)) (sym e) ∙ short in
        rw (short, other)

-- ---- the columns behind the names, part by part

-- what follows the metadata
abbrev pub behind_metadata : List ℕ → List ℕ × List ℕ → Result Layout RowFault
behind_metadata types metadata =
    check (list_all is_column (columns_of types metadata.0)) BadBody
    (check (leb (bitmap_len (length types)) (length metadata.1)) BadBody (Ok (columns_of types metadata.0)))

-- what follows the types
abbrev pub behind_types : List ℕ × List ℕ → Result Layout RowFault
behind_types types = check (are_known types.0) UnknownType (or_bad (metadata_front (metadata_total types.0) types.1) >>= behind_metadata types.0)

pub layout_parts : (bytes : List ℕ) → layout_behind bytes ≡ (or_bad (types_front bytes) >>= behind_types)
unfolding layout_behind layout_fields types_front metadata_front
layout_parts bytes =
    by_step (packed_front bytes) _ _ _ _ (λ counted counted_is.
    by_test (leb 1 counted.0 && leb counted.0 4096) _ _ _ _ (λ few.
    by_cut (cut counted.0 counted.2) _ _ _ (λ types types_is.
    by_check (are_known types.0) UnknownType _ _ _ (λ known.
    by_step (packed_front types.1) _ _ _ _ (λ sized sized_is.
    by_test (eqb sized.0 (metadata_total types.0)) _ _ _ _ (λ total.
    by_cut (cut sized.0 sized.2) _ _ _ (λ metadata metadata_is.
    by_check (list_all is_column (columns_of types.0 metadata.0)) BadBody _ _ _ (λ stored.
    let long : length types.0 ≡ counted.0 = (cut_found counted.0 counted.2 types.0 types.1 types_is).0 in
    by_end (bitmap_len counted.0) (bitmap_len (length types.0)) metadata.1 _ _ (columns_of types.0 metadata.0) (ap bitmap_len (sym long)) (λ x. refl)))))))))

-- ---- what the parts are

-- a test that passed before an option
test_found : {A : Type 0} (b : Bool) (o : Option A) (x : A) → cond b o None ≡ Some x → (b ≡ true) × (o ≡ Some x)
test_found false o x e = none_is_not x e
test_found true o x e = (refl, e)

pub between : (n : ℕ) → 1 ≤ n → n ≤ 4096 → (leb 1 n && leb n 4096) ≡ true
between n low high = and_from (leb 1 n) (leb n 4096) (le-leb 1 n low) (le-leb n 4096 high)

-- there are 1 to 4,096 types
pub types_found : (bytes types behind : List ℕ) → types_front bytes ≡ Some (types, behind) → (0 < length types) × (length types ≤ 4096)
unfolding types_front
types_found bytes types behind e =
    let counted : (n : ℕ × List ℕ × List ℕ) × (packed_front bytes ≡ Some n) × (cond (leb 1 n.0 && leb n.0 4096) (cut n.0 n.2) None ≡ Some (types, behind)) = and_then_found _ (packed_front bytes) (types, behind) e in
    let test = test_found (leb 1 counted.0.0 && leb counted.0.0 4096) (cut counted.0.0 counted.0.2) (types, behind) counted.2 in
    let bounds = and_parts (leb 1 counted.0.0) (leb counted.0.0 4096) test.0 in
    let long : length types ≡ counted.0.0 = (cut_found counted.0.0 counted.0.2 types behind test.1).0 in
    let low : 1 ≤ counted.0.0 = leb-true 1 counted.0.0 bounds.0 in
    let high : counted.0.0 ≤ 4096 = leb-true counted.0.0 4096 bounds.1 in
    (omega arith, omega arith)

-- the metadata is as long as it is to be
pub metadata_found : (len : ℕ) (bytes metadata last : List ℕ) → metadata_front len bytes ≡ Some (metadata, last) → length metadata ≡ len
unfolding metadata_front
metadata_found len bytes metadata last e =
    let sized : (n : ℕ × List ℕ × List ℕ) × (packed_front bytes ≡ Some n) × (cond (eqb n.0 len) (cut n.0 n.2) None ≡ Some (metadata, last)) = and_then_found _ (packed_front bytes) (metadata, last) e in
    let test = test_found (eqb sized.0.0 len) (cut sized.0.0 sized.0.2) (metadata, last) sized.2 in
    (cut_found sized.0.0 sized.0.2 metadata last test.1).0 ∙ eqb-true sized.0.0 len test.0

-- types that the profile has, or not
pub total_there : (types : List ℕ) (len : ℕ) → total_of types ≡ Some len → (are_known types ≡ true) × (metadata_total types ≡ len)
total_there types len e =
    let test = test_found (are_known types) (Some (metadata_total types)) len e in
    let same : metadata_total types ≡ len = let h = test.1 in cc in
    (test.0, same)

-- ---- a layout that is known to be there

-- a reading that gives a value gives some value
pub ok_there : {A P : Type 0} (r : Result A RowFault) → is_ok r ≡ true → ((x : A) → r ≡ Ok x → P) → P
ok_there (Ok x) e k = k x refl
ok_there (Err fault) e k = absurd (cc)

-- what a cut is
cut_is : (n : ℕ) (bytes a b : List ℕ) → cut n bytes ≡ Some (a, b) → (n ≤ length bytes) × (take n bytes ≡ a)
cut_is n bytes a b e =
    let found = cut_found n bytes a b e in
    let long : length bytes ≡ length a + length b = ap length found.1 ∙ length-append a b in
    (omega arith, ap (take n) found.1 ∙ take_at a b n found.0)

-- and so is its metadata
known_metadata : {P : Type 0} (bytes types behind : List ℕ) → is_ok (layout_behind bytes) ≡ true → types_front bytes ≡ Some (types, behind)
    → ((layout : Layout) (metadata : List ℕ × List ℕ) → layout_behind bytes ≡ Ok layout → metadata_front (metadata_total types) behind ≡ Some metadata → behind_metadata types metadata ≡ Ok layout → P) → P
known_metadata bytes types behind ok e k =
    ok_there (layout_behind bytes) ok (λ layout read.
    check_found (are_known types) UnknownType _ layout (sym (layout_parts bytes ∙ rw e refl) ∙ read) (λ types_known e1.
    step_found (metadata_front (metadata_total types) behind) _ layout e1 (λ metadata metadata_is e2. k layout metadata read metadata_is e2)))

-- what is known of a layout, by the number in front of its metadata
pub record KnownBehind (bytes types behind : List ℕ) (n : ℕ × List ℕ × List ℕ) : Type 0 where
  pub fits : n.0 ≤ length n.2
  pub whole : metadata_total types ≡ length (take n.0 n.2)
  pub known : list_all is_column (columns_of types (take n.0 n.2)) ≡ true
  pub read : layout_behind bytes ≡ Ok (columns_of types (take n.0 n.2))

pub known_number : (bytes types behind : List ℕ) (n : ℕ × List ℕ × List ℕ) → is_ok (layout_behind bytes) ≡ true → types_front bytes ≡ Some (types, behind) → packed_front behind ≡ Some n
    → KnownBehind bytes types behind n
unfolding metadata_front
known_number bytes types behind n ok e number =
    known_metadata bytes types behind ok e (λ layout metadata read metadata_is e1.
    check_found (list_all is_column (columns_of types metadata.0)) BadBody _ layout e1 (λ stored e2.
    check_found (leb (bitmap_len (length types)) (length metadata.1)) BadBody _ layout e2 (λ fits e3.
    let test = test_found (eqb n.0 (metadata_total types)) (cut n.0 n.2) metadata (rw number at metadata_is) in
    let own : (n.0 ≤ length n.2) × (take n.0 n.2 ≡ metadata.0) = cut_is n.0 n.2 metadata.0 metadata.1 test.1 in
    let long : length metadata.0 ≡ metadata_total types = metadata_found (metadata_total types) behind metadata.0 metadata.1 metadata_is in
    record {
      fits = own.0;
      whole = sym long ∙ ap length (sym own.1);
      known = rw own.1 stored;
      read = read ∙ sym e3 ∙ rw own.1 refl;
    })))
