-- The maps that the program holds of a statement: looking one up, one more, and a rows event that goes by one.
-- `statement` has its events so far, the latest first.
use Rattle.std.proofs.Common.{◌≡◌, ℕ, ◌≤◌, Bool, true, false, List, [], ◌∷◌, ◌++◌, length, map, reverse, Option, Some, None, refl, sym, subst, ap, ◌∙◌, arith, take, length-append, rules}
use Rattle.std.specs.Prelude.{◌&&◌, not, if◌then◌else◌, find, is_some, bytes_eq, nat_eq, option_map, Result, IsOk}
use Rattle.std.specs.Option.{option_map_or, option_or}
use Rattle.std.specs.Result.{result_ok}
use Rattle.std.specs.List.{list_any, AllByRecursion, IsDistinct}
use Rattle.std.specs.Map.{lookup, set_value, keys_of}
use Rattle.std.proofs.Math.Bool.{and-true}
use Rattle.std.proofs.lemmas.Bool.{eqb-true}
use Rattle.blog_trans.proofs.ProgressFirsts.{bytes-same}
use Rattle.blog_trans.proofs.ProgressMaps.{bytes-turned}
use Rattle.std.proofs.lemmas.Bool.Decides.{Decides-eqb, Decides-like, same_from_decides}
use Rattle.std.proofs.lemmas.List.{length-take-le, map-append, take_all, take_at}
use Rattle.std.proofs.lemmas.List.Folds.{find-append}
use Rattle.std.proofs.lemmas.Map.Keys.{IsDistinct-head, IsDistinct-tail}
use Rattle.std.proofs.lemmas.Slice.Eq.{bytes_eq-Decides}
use Rattle.byteorder.specs.Endian.{little_number}
use Rattle.blog_event.specs.File.{Placed, AreBytes}
use Rattle.blog_event.proofs.Framing.{bytes-take, number-bytes}
use Rattle.blog_row.specs.code.LayoutView.{layout_columns}
use Rattle.blog_row.specs.TableMap.{Names, HasNames, layout_of}
use Rattle.blog_row.specs.Column.{Layout}
use Rattle.blog_row.specs.declared.fault.RowFault.{RowFault}
use Rattle.blog_row.specs.RowsEvent.{table_id}
use Rattle.blog_row.proofs.ReversedRows.{all-append}
use Rattle.blog_trans.specs.declared.layouts.SelectedTable.{SelectedTable}
use Rattle.blog_trans.specs.declared.checker.MapSeen.{MapSeen}
use Rattle.blog_trans.specs.Selection.{Selection}
use Rattle.blog_trans.specs.Places.{is_map, is_rows, is_map_of, map_in}
use Rattle.blog_trans.specs.Acceptance.{is_selected, clashes_by_id}
use Rattle.blog_trans.specs.code.StatementMaps.{MapFacts, first_of_ids, facts_of, facts_held}
use Rattle.blog_trans.specs.code.CheckerView.{HasChecked, IsPassed, IsPassedStatement}
use Rattle.blog_trans.specs.declared.checker.Checker.{Checker}
use Rattle.blog_trans.proofs.EntriesFound.{mapped}
use Rattle.blog_trans.proofs.CheckingStatement.{map-first, map-there, or-none, facts-kept}

-- ---- table ids

-- six bytes
pub record IsId (id : List ℕ) : Type 0 where
  pub len : length id ≡ 6
  pub bytes : AreBytes id

-- an id's number tells its bytes
same-id : (a b : List ℕ) → IsId a → IsId b → little_number 6 a ≡ little_number 6 b → a ≡ b
same-id a b is_a is_b h = grind (arith, number-bytes 6 a is_a.bytes, number-bytes 6 b is_b.bytes, take_all 6 a, take_all 6 b)

-- so numbers compare as the bytes do
ids-compare : (a b : List ℕ) (k n : ℕ) → IsId a → IsId b → k ≡ little_number 6 a → n ≡ little_number 6 b → nat_eq k n ≡ bytes_eq b a
ids-compare a b k n is_a is_b k_is n_is = same_from_decides (nat_eq k n) (bytes_eq b a) (Decides-eqb k n)
    (Decides-like (bytes_eq b a) (λ e. k_is ∙ ap (little_number 6) (sym e) ∙ sym n_is) (λ e. sym (same-id a b is_a is_b (sym k_is ∙ e ∙ n_is))) (bytes_eq-Decides b a))

-- ---- the first maps of a statement

-- a map that passed its checks
pub record IsPassedMap (sel : Selection) (m : Placed) : Type 0 where
  pub is : is_map m ≡ true
  pub passed : IsPassed sel m

id-of : (sel : Selection) (m : Placed) → IsPassedMap sel m → IsId (table_id m.event.body)
id-of sel m h = record { len = h.passed.id_len; bytes = h.passed.id_bytes }

pub first-passed : (sel : Selection) (statement : List Placed) → AllByRecursion (λ m. is_map m ≡ true → IsPassed sel m) statement
    → AllByRecursion (IsPassedMap sel) (first_of_ids statement)
first-passed sel [] all = tt
first-passed sel (p ∷ statement) all =
    let others = first-passed sel statement all.1 in
    let pushed : is_map p ≡ true → AllByRecursion (IsPassedMap sel) (first_of_ids statement ++ p ∷ []) = λ is. all-append (IsPassedMap sel) (first_of_ids statement) (p ∷ []) others (record { is = is; passed = all.0 is }, tt) in
    grind arith

-- the first of an id among them
or-own : {A : Type 0} (o : Option A) (x : A) (b : Bool) → (b ≡ true → is_some o ≡ true) → option_or o (if b then Some x else None) ≡ o
or-own o x b some = grind arith

find-step : (p : Placed) (statement : List Placed) (id : List ℕ) (b any : Bool) → is_map p ≡ b → list_any (is_map_of (table_id p.event.body)) statement ≡ any
    → find (is_map_of id) (first_of_ids statement) ≡ map_in (reverse statement) id
    → find (is_map_of id) (if b && not any then first_of_ids statement ++ p ∷ [] else first_of_ids statement)
    ≡ option_or (map_in (reverse statement) id) (if b && bytes_eq (table_id p.event.body) id then Some p else None)
find-step p statement id false any is there h = h ∙ sym (or-none (map_in (reverse statement) id))
find-step p statement id true false is there h = find-append (is_map_of id) (first_of_ids statement) (p ∷ []) ∙ rw (h, is) refl
find-step p statement id true true is there h =
    let own = λ (same : bytes_eq (table_id p.event.body) id ≡ true). ap (λ (i : List ℕ). list_any (is_map_of i) statement) (sym (bytes-same (table_id p.event.body) id same)) in
    h ∙ sym (or-own (map_in (reverse statement) id) p (bytes_eq (table_id p.event.body) id) (λ same. map-there statement id ∙ own same ∙ there))

pub find-first : (statement : List Placed) (id : List ℕ) → find (is_map_of id) (first_of_ids statement) ≡ map_in (reverse statement) id
find-first [] id = refl
find-first (p ∷ statement) id =
    find-step p statement id (is_map p) (list_any (is_map_of (table_id p.event.body)) statement) refl refl (find-first statement id) ∙ sym (map-first p statement id)

-- ---- looking a map up

held-step : (sel : Selection) (statement : List Placed) (id : List ℕ) (k : ℕ) (e : ℕ × MapSeen) (m : Placed) (es : List (ℕ × MapSeen)) (ms : List Placed) (b : Bool)
    → nat_eq k e.0 ≡ b → is_map_of id m ≡ b → facts_held e ≡ facts_of sel statement m
    → option_map (λ v. facts_held (k, v)) (lookup (nat_eq k) es) ≡ option_map (facts_of sel statement) (find (is_map_of id) ms)
    → option_map (λ v. facts_held (k, v)) (lookup (nat_eq k) (e ∷ es)) ≡ option_map (facts_of sel statement) (find (is_map_of id) (m ∷ ms))
held-step sel statement id k e m es ms b same own first others = let number = eqb-true k e.0 in grind arith

-- what is held under an id's number is the first map of the id
held : (sel : Selection) (statement : List Placed) (id : List ℕ) (k : ℕ) → IsId id → k ≡ little_number 6 id → (es : List (ℕ × MapSeen)) (ms : List Placed) → AllByRecursion (IsPassedMap sel) ms
    → map facts_held es ≡ map (facts_of sel statement) ms
    → option_map (λ v. facts_held (k, v)) (lookup (nat_eq k) es) ≡ option_map (facts_of sel statement) (find (is_map_of id) ms)
held sel statement id k is_id k_is [] [] all h = refl
held sel statement id k is_id k_is [] (m ∷ ms) all h = absurd (cc)
held sel statement id k is_id k_is (e ∷ es) [] all h = absurd (cc)
held sel statement id k is_id k_is (e ∷ es) (m ∷ ms) all h =
    let first : facts_held e ≡ facts_of sel statement m = cc in
    let compare = ids-compare id (table_id m.event.body) k e.0 is_id (id-of sel m all.0) k_is (ap (λ (f : MapFacts). f.id) first) in
    let own : is_map_of id m ≡ bytes_eq (table_id m.event.body) id = rw (all.0.is) refl in
    held-step sel statement id k e m es ms (bytes_eq (table_id m.event.body) id) compare own first (held sel statement id k is_id k_is es ms all.1 (cc))

pub held-map : (sel : Selection) (statement : List Placed) (id : List ℕ) (k : ℕ) (es : List (ℕ × MapSeen)) → IsId id → k ≡ little_number 6 id → IsPassedStatement sel statement
    → map facts_held es ≡ map (facts_of sel statement) (first_of_ids statement)
    → option_map (λ v. facts_held (k, v)) (lookup (nat_eq k) es) ≡ option_map (facts_of sel statement) (map_in (reverse statement) id)
held-map sel statement id k es is_id k_is passed h =
    held sel statement id k is_id k_is es (first_of_ids statement) (first-passed sel statement passed.maps) h
    ∙ ap (option_map (facts_of sel statement)) (find-first statement id)

-- ---- one more map

pub maps-more : (sel : Selection) (m : Placed) (statement : List Placed) (k : ℕ) (v : MapSeen) (es after : List (ℕ × MapSeen)) → is_map m ≡ true → is_rows m ≡ false
    → list_any (is_map_of (table_id m.event.body)) statement ≡ false → IsPassedStatement sel statement
    → map facts_held es ≡ map (facts_of sel statement) (first_of_ids statement) → after ≡ es ++ (k, v) ∷ [] → facts_held (k, v) ≡ facts_of sel (m ∷ statement) m
    → map facts_held after ≡ map (facts_of sel (m ∷ statement)) (first_of_ids (m ∷ statement))
maps-more sel m statement k v es after is no_rows new passed h after_is last =
    let kept = ap (λ (facts : Placed → MapFacts). map facts (first_of_ids statement)) (sym (facts-kept sel m statement no_rows)) in
    rw (is, new, after_is, map-append facts_held es ((k, v) ∷ []), map-append (facts_of sel (m ∷ statement)) (first_of_ids statement) (m ∷ [])) (λ i. (h ∙ kept) i ++ last i ∷ [])

-- ---- a rows event that goes by a map

-- where a selected map has a layout
layout-there : (b : Bool) (r : Result Layout RowFault) → (b ≡ true → IsOk r) → is_some (if b then result_ok r else None) ≡ b
layout-there b r h = grind arith

some-map : {A B : Type 0} (f : A → B) (o : Option A) → is_some o ≡ is_some (option_map f o)
some-map f o = search rules

module _ (sel : Selection) (p : Placed) (statement : List Placed) (k : ℕ) (is_id : IsId (table_id p.event.body)) (k_is : k ≡ little_number 6 (table_id p.event.body)) (is : is_rows p ≡ true) where
  -- whether it goes by a map
  goes-by : (m : Placed) (n : ℕ) → IsPassedMap sel m → n ≡ little_number 6 (table_id m.event.body) → bytes_eq (table_id p.event.body) (table_id m.event.body) ≡ nat_eq k n
  goes-by m n passed n_is = grind (arith, bytes-turned, ids-compare (table_id p.event.body) (table_id m.event.body) k n is_id (id-of sel m passed) k_is n_is)

  -- a map by which it doesn't go, and the one by which it does
  other : (m : Placed) (e : ℕ × MapSeen) → IsPassedMap sel m → facts_held e ≡ facts_of sel statement m → nat_eq k e.0 ≡ false → facts_held e ≡ facts_of sel (p ∷ statement) m
  other m e passed same apart =
      let off : bytes_eq (table_id p.event.body) (table_id m.event.body) ≡ false = goes-by m e.0 passed (ap (λ (f : MapFacts). f.id) same) ∙ apart in
      rw (is, off) same

  own : (m : Placed) (e : ℕ × MapSeen) → IsPassedMap sel m → facts_held e ≡ facts_of sel statement m → nat_eq k e.0 ≡ true
      → facts_held (e.0, record e.1 { used = is_some e.1.table }) ≡ facts_of sel (p ∷ statement) m
  own m e passed same goes =
      let on : bytes_eq (table_id p.event.body) (table_id m.event.body) ≡ true = goes-by m e.0 passed (ap (λ (f : MapFacts). f.id) same) ∙ goes in
      let used : is_some e.1.table ≡ is_selected sel m.event.body && true =
      some-map (λ (t : SelectedTable). layout_columns t.layout) e.1.table ∙ ap (λ (f : MapFacts). is_some f.layout) same
      ∙ layout-there (is_selected sel m.event.body) (layout_of m.event.body) passed.passed.layout ∙ sym (and-true (is_selected sel m.event.body)) in
      rw (is, on) (λ i. record { id = (same i).id; at = (same i).at; body = (same i).body; layout = (same i).layout; used = used i })

  unmarked : (es : List (ℕ × MapSeen)) (ms : List Placed) → AllByRecursion (IsPassedMap sel) ms → map facts_held es ≡ map (facts_of sel statement) ms → AllByRecursion (λ y. nat_eq k y ≡ false) (keys_of es)
      → map facts_held es ≡ map (facts_of sel (p ∷ statement)) ms
  unmarked [] [] all same apart = refl
  unmarked [] (m ∷ ms) all same apart = absurd (cc)
  unmarked (e ∷ es) [] all same apart = absurd (cc)
  unmarked (e ∷ es) (m ∷ ms) all same apart =
      let first : facts_held e ≡ facts_of sel statement m = cc in
      let others : map facts_held es ≡ map (facts_of sel statement) ms = cc in
      λ i. other m e all.0 first apart.0 i ∷ unmarked es ms all.1 others apart.1 i

  marked : (v : MapSeen) (es : List (ℕ × MapSeen)) (ms : List Placed) → AllByRecursion (IsPassedMap sel) ms → map facts_held es ≡ map (facts_of sel statement) ms → IsDistinct nat_eq (keys_of es)
      → lookup (nat_eq k) es ≡ Some v → map facts_held (set_value (nat_eq k) es (record v { used = is_some v.table })) ≡ map (facts_of sel (p ∷ statement)) ms
  marked v [] ms all same distinct found = absurd (cc)
  marked v (e ∷ es) [] all same distinct found = absurd (cc)
  marked v (e ∷ es) (m ∷ ms) all same distinct found =
      let first : facts_held e ≡ facts_of sel statement m = cc in
      let others : map facts_held es ≡ map (facts_of sel statement) ms = cc in
      let heads = IsDistinct-head nat_eq e.0 (keys_of es) distinct in
      let apart = λ (here : nat_eq k e.0 ≡ true). subst (λ (n : ℕ). AllByRecursion (λ y. nat_eq n y ≡ false) (keys_of es)) (sym (eqb-true k e.0 here)) heads in
      let later = marked v es ms all.1 others (IsDistinct-tail nat_eq e.0 (keys_of es) distinct) in
      grind (arith, own m e all.0 first, other m e all.0 first, λ (here : nat_eq k e.0 ≡ true). unmarked es ms all.1 others (apart here))

pub maps-marked : (sel : Selection) (p : Placed) (statement : List Placed) (k : ℕ) (v w : MapSeen) (es after : List (ℕ × MapSeen)) → IsId (table_id p.event.body)
    → k ≡ little_number 6 (table_id p.event.body) → is_map p ≡ false → is_rows p ≡ true → IsPassedStatement sel statement
    → map facts_held es ≡ map (facts_of sel statement) (first_of_ids statement) → IsDistinct nat_eq (keys_of es) → lookup (nat_eq k) es ≡ Some v → w ≡ record v { used = is_some v.table }
    → after ≡ set_value (nat_eq k) es w → map facts_held after ≡ map (facts_of sel (p ∷ statement)) (first_of_ids (p ∷ statement))
maps-marked sel p statement k v w es after is_id k_is no_map is passed h distinct found w_is after_is =
    rw no_map (ap (map facts_held) (after_is ∙ ap (set_value (nat_eq k) es) w_is)
    ∙ marked sel p statement k is_id k_is is v es (first_of_ids statement) (first-passed sel statement passed.maps) h distinct found)

-- ---- comparing a map with what is held

-- the id of a body
pub body-id : (body : List ℕ) → 6 ≤ length body → AreBytes body → IsId (table_id body)
body-id body long bytes = record { len = length-take-le 6 body long; bytes = bytes-take 6 body bytes }

-- what is held under an id's number
pub held-some : (sel : Selection) (statement : List Placed) (id : List ℕ) (k : ℕ) (v : MapSeen) (es : List (ℕ × MapSeen)) → IsId id → k ≡ little_number 6 id → IsPassedStatement sel statement
    → map facts_held es ≡ map (facts_of sel statement) (first_of_ids statement) → lookup (nat_eq k) es ≡ Some v
    → (m : Placed) × (map_in (reverse statement) id ≡ Some m) × (facts_of sel statement m ≡ facts_held (k, v))
held-some sel statement id k v es is_id k_is passed h found =
    mapped (facts_of sel statement) (map_in (reverse statement) id) (facts_held (k, v))
    (sym (held-map sel statement id k es is_id k_is passed h) ∙ ap (option_map (λ (x : MapSeen). facts_held (k, x))) found)

-- the id of a map
pub map-id : (body : List ℕ) (names : Names) → AreBytes body → HasNames body names → IsId (table_id body) × (little_number 6 names.id ≡ little_number 6 (table_id body))
map-id body names bytes has =
    let long : 6 ≤ length body = omega (arith, ap length has.text, length-append names.id, has.id_len) in
    let front : take 6 body ≡ names.id = ap (take 6) has.text ∙ take_at names.id _ 6 has.id_len in
    (body-id body long bytes, ap (little_number 6) (sym front))

-- so another map of the id is compared with it
pub compare-held : {A : Type 0} (sel : Selection) (statement earlier : List Placed) (p : Placed) (n : Names) (k : ℕ) (checker : Checker A) (o : Option MapSeen)
    → AreBytes p.event.body → HasNames p.event.body n → k ≡ little_number 6 n.id → HasChecked sel statement earlier checker → lookup (nat_eq k) checker.maps.entries ≡ o
    → (list_any (clashes_by_id p) statement ≡ option_map_or (λ v. not (bytes_eq v.body.now p.event.body)) o false)
    × (list_any (is_map_of (table_id p.event.body)) statement ≡ is_some o)
compare-held sel statement earlier p n k checker o bytes has k_is h found =
    let id = map-id p.event.body n bytes has in
    let held = held-map sel statement (table_id p.event.body) k checker.maps.entries id.0 (k_is ∙ id.1) h.passed h.maps_are in
    grind (arith, h.passed.agree p, map-there statement (table_id p.event.body))
