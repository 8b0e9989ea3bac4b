-- What one more event makes of an open statement. `statement` has its events so far, the latest first.
use Rattle.std.proofs.Common.{◌≡◌, ℕ, Bool, true, false, List, [], ◌∷◌, map, reverse, Option, Some, None, refl, sym, ap, ◌∙◌, rules, arith}
use Rattle.std.specs.Prelude.{◌&&◌, ◌||◌, not, if◌then◌else◌, is_some, bytes_eq}
use Rattle.std.specs.Option.{option_map_or, option_or}
use Rattle.std.specs.List.{list_any}
use Rattle.std.proofs.Math.Bool.{or-false}
use Rattle.std.proofs.lemmas.Bool.{or_parts, not-false}
use Rattle.std.proofs.lemmas.List.{reverse-append}
use Rattle.std.proofs.lemmas.List.Folds.{find-append}
use Rattle.blog_trans.proofs.ProgressFirsts.{bytes-same}
use Rattle.blog_event.specs.File.{Placed}
use Rattle.blog_row.specs.RowsEvent.{table_id}
use Rattle.blog_trans.specs.Selection.{Selection}
use Rattle.blog_trans.specs.Places.{is_map, is_rows, is_map_of, map_in}
use Rattle.blog_trans.specs.Acceptance.{clashes_by_id}
use Rattle.blog_trans.specs.code.StatementMaps.{MapFacts, first_of_ids, facts_of}
use Rattle.blog_trans.specs.code.CheckerView.{IsPassed, IsPassedStatement, is_rows_of, differs}

-- ---- the first map of an id

-- the first map before one more event, or else this
pub map-first : (p : Placed) (statement : List Placed) (id : List ℕ)
    → map_in (reverse (p ∷ statement)) id ≡ option_or (map_in (reverse statement) id) (if is_map_of id p then Some p else None)
map-first p statement id = ap (λ events. map_in events id) (reverse-append (p ∷ []) statement) ∙ find-append (is_map_of id) (reverse statement) (p ∷ [])

pub or-none : {A : Type 0} (o : Option A) → option_or o None ≡ o
or-none o = search rules

-- an event that isn't a map of the id
pub map-same : (p : Placed) (statement : List Placed) (id : List ℕ) → is_map_of id p ≡ false → map_in (reverse (p ∷ statement)) id ≡ map_in (reverse statement) id
map-same p statement id h = map-first p statement id ∙ rw h (or-none (map_in (reverse statement) id))

some-or : {A : Type 0} (o : Option A) (x : A) (b any : Bool) → is_some o ≡ any → is_some (option_or o (if b then Some x else None)) ≡ (b || any)
some-or o x b any h = grind arith

-- there is a first one where there is one
pub map-there : (statement : List Placed) (id : List ℕ) → is_some (map_in (reverse statement) id) ≡ list_any (is_map_of id) statement
map-there [] id = refl
map-there (p ∷ statement) id =
    ap is_some (map-first p statement id) ∙ some-or (map_in (reverse statement) id) p (is_map_of id p) (list_any (is_map_of id) statement) (map-there statement id)

-- ---- an event that is neither a map nor a rows event

-- the facts of maps are as they were
pub facts-kept : (sel : Selection) (p : Placed) (statement : List Placed) → is_rows p ≡ false → facts_of sel (p ∷ statement) ≡ facts_of sel statement
facts-kept sel p statement no_rows =
    let at : (m : Placed) → facts_of sel (p ∷ statement) m ≡ facts_of sel statement m = λ m. rw no_rows refl in λ i m. at m i

pub facts-quiet : (sel : Selection) (p : Placed) (statement : List Placed) → is_map p ≡ false → is_rows p ≡ false
    → map (facts_of sel (p ∷ statement)) (first_of_ids (p ∷ statement)) ≡ map (facts_of sel statement) (first_of_ids statement)
facts-quiet sel p statement no_map no_rows =
    ap (λ (facts : Placed → MapFacts). map facts (first_of_ids (p ∷ statement))) (facts-kept sel p statement no_rows)
    ∙ rw no_map refl

-- what is known of one more event that isn't a map
passed-more : (sel : Selection) (p : Placed) (statement : List Placed) → is_map p ≡ false → ((id : List ℕ) → list_any (is_map_of id) statement ≡ false → is_rows_of id p ≡ false)
    → IsPassedStatement sel statement → IsPassedStatement sel (p ∷ statement)
passed-more sel p statement no_map mapped h = record {
  maps = ((λ is. absurd (cc)), h.maps);
  mapped = λ id none. let free : list_any (is_map_of id) statement ≡ false = rw no_map at none in rw (mapped id free) (h.mapped id free);
  agree = λ q. rw no_map (h.agree q) ∙ ap (λ first. option_map_or (differs q) first false) (sym (map-same p statement (table_id q.event.body) (rw no_map refl)));
}

pub passed-quiet : (sel : Selection) (p : Placed) (statement : List Placed) → is_map p ≡ false → is_rows p ≡ false → IsPassedStatement sel statement → IsPassedStatement sel (p ∷ statement)
passed-quiet sel p statement no_map no_rows h = passed-more sel p statement no_map (λ id none. rw no_rows refl) h

-- ---- a rows event

-- it goes by a map of its table id
own-there : (p : Placed) (statement : List Placed) (id : List ℕ) → list_any (is_map_of (table_id p.event.body)) statement ≡ true
    → list_any (is_map_of id) statement ≡ false → is_rows_of id p ≡ false
own-there p statement id there none =
    grind (arith, bytes-same (table_id p.event.body) id, λ (own : table_id p.event.body ≡ id). ap (λ (i : List ℕ). list_any (is_map_of i) statement) own)

pub passed-rows : (sel : Selection) (p : Placed) (statement : List Placed) → is_map p ≡ false → list_any (is_map_of (table_id p.event.body)) statement ≡ true
    → IsPassedStatement sel statement → IsPassedStatement sel (p ∷ statement)
passed-rows sel p statement no_map there h = passed-more sel p statement no_map (λ id none. own-there p statement id there none) h

-- ---- a map

-- tests joined
twice : (a b : Bool) → a ≡ b → (a || b) ≡ b
twice a b h = grind arith

-- another map's body is compared with the first one's
agree-first : (q m : Placed) (o : Option Placed) → option_map_or (differs m) o false ≡ false
    → (differs q m || option_map_or (differs q) o false) ≡ option_map_or (differs q) (option_or o (Some m)) false
agree-first q m None h = or-false (differs q m)
agree-first q m (Some f) h =
    let own = bytes-same f.event.body m.event.body (not-false (bytes_eq f.event.body m.event.body) h) in
    twice (differs q m) (differs q f) (ap (λ (body : List ℕ). not (bytes_eq body q.event.body)) (sym own))

agree-step : (q m : Placed) (statement : List Placed) (same : Bool) → bytes_eq (table_id m.event.body) (table_id q.event.body) ≡ same → list_any (clashes_by_id m) statement ≡ false
    → ((p : Placed) → list_any (clashes_by_id p) statement ≡ option_map_or (differs p) (map_in (reverse statement) (table_id p.event.body)) false)
    → ((same && differs q m) || list_any (clashes_by_id q) statement)
    ≡ option_map_or (differs q) (option_or (map_in (reverse statement) (table_id q.event.body)) (if same then Some m else None)) false
agree-step q m statement false e none agree = agree q ∙ ap (λ first. option_map_or (differs q) first false) (sym (or-none (map_in (reverse statement) (table_id q.event.body))))
agree-step q m statement true e none agree =
    let own = ap (λ (i : List ℕ). option_map_or (differs m) (map_in (reverse statement) i) false) (sym (bytes-same (table_id m.event.body) (table_id q.event.body) e)) in
    ap (λ (b : Bool). differs q m || b) (agree q) ∙ agree-first q m (map_in (reverse statement) (table_id q.event.body)) (own ∙ sym (agree m) ∙ none)

pub passed-map : (sel : Selection) (m : Placed) (statement : List Placed) → is_map m ≡ true → is_rows m ≡ false → IsPassed sel m → list_any (clashes_by_id m) statement ≡ false
    → IsPassedStatement sel statement → IsPassedStatement sel (m ∷ statement)
passed-map sel m statement is no_rows own none h = record {
  maps = ((λ i. own), h.maps);
  mapped = λ id free. rw no_rows (h.mapped id (or_parts (is_map_of id m) (list_any (is_map_of id) statement) free).1);
  agree = λ q.
      let first = map-first m statement (table_id q.event.body) in
      let step = agree-step q m statement (bytes_eq (table_id m.event.body) (table_id q.event.body)) refl none h.agree in
      rw (first, is) step;
}
