-- What is seen of tables, one by one.
use Rattle.std.proofs.Common.{◌≡◌, ◌∙◌, ℕ, zero, suc, ◌+◌, ◌≤◌, ◌<◌, Bool, true, false, List, [], ◌∷◌, ◌++◌, length, take, drop, Option, Some, None, Ok, Err, refl, sym, ap, subst, append_assoc, append-nil, arith}
use Rattle.std.specs.Prelude.{◌&&◌, ◌||◌, Contains, bytes_eq, cond, filter_map, insert, min, not, OnOk, Result}
use Rattle.std.specs.List.{AllByRecursion, list_any}
use Rattle.std.specs.HashSet.{HashSet, contains}
use Rattle.std.proofs.Math.Bool.{or-false}
use Rattle.std.proofs.lemmas.Bool.{and_parts}
use Rattle.std.proofs.lemmas.List.Elements.{Contains-append_left, Contains-push, filter_map-append}
use Rattle.std.proofs.lemmas.List.{length-take}
use Rattle.std.proofs.lemmas.List.Edits.{length-insert}
use Rattle.std.proofs.lemmas.List.Folds.{list_any-append}
use Rattle.blog_event.specs.File.{Placed}
use Rattle.blog_row.specs.TableMap.{Table}
use Rattle.blog_row.proofs.ReversedRows.{all-append}
use Rattle.blog_trans.proofs.ProgressFirsts.{bytes-same}
use Rattle.blog_choice.specs.Choice.{Choice}
use Rattle.blog_reasons.specs.Near.{AreNear, near_table}
use Rattle.blog_reasons.specs.Reasons.{is_chosen, table_named}
use Rattle.blog_reasons.specs.declared.named.NamedTable.{NamedTable}
use Rattle.blog_reasons.specs.declared.near.NearTable.{NearTable}
use Rattle.blog_reasons.specs.declared.tables.SeenTables.{SeenTables}
use Rattle.blog_reasons.specs.code.NamedView.{table_value}
use Rattle.blog_reasons.specs.code.TablesView.{AreKnown, AreSeenTables, is_same_named}

-- ---- results

-- what holds anyway holds of an Ok
pub ok-anyway : {X E : Type 0} {P : Type 0} (r : Result X E) → P → OnOk r P
ok-anyway (Ok x) p = p
ok-anyway (Err e) p = tt

pub not-is : (a b : Bool) → a ≡ not b → a ≡ false → b ≡ true
not-is a true same fails = refl
not-is a false same fails = let clash : false ≡ true = sym fails ∙ same in cc

-- ---- near tables

abbrev IsNamed : {A : Type 0} → List Table → NearTable A → Type 0
IsNamed tables n = Contains tables (near_table n)

more-named : {A : Type 0} (tables others : List Table) (near : List (NearTable A)) → AllByRecursion (IsNamed tables) near → AllByRecursion (IsNamed (tables ++ others)) near
more-named tables others [] all = tt
more-named tables others (n ∷ near) all = (Contains-append_left tables others (near_table n) all.0, more-named tables others near all.1)

-- those of some tables are of more
pub near-more : {A : Type 0} (tables others : List Table) (near : List (NearTable A)) → AreNear tables near → AreNear (tables ++ others) near
near-more tables others near are = record { few = are.few; named = more-named tables others near are.named }

all-front : {A : Type 0} (P : A → Type 0) (n : ℕ) (xs : List A) → AllByRecursion P xs → AllByRecursion P (take n xs)
all-front P zero xs all = tt
all-front P (suc n) [] all = tt
all-front P (suc n) (x ∷ xs) all = (all.0, all-front P n xs all.1)

all-rest : {A : Type 0} (P : A → Type 0) (n : ℕ) (xs : List A) → AllByRecursion P xs → AllByRecursion P (drop n xs)
all-rest P zero xs all = all
all-rest P (suc n) [] all = tt
all-rest P (suc n) (x ∷ xs) all = all-rest P n xs all.1

-- one more is put among the first four
pub near-kept : {A : Type 0} (tables : List Table) (near short new : List (NearTable A)) (place : ℕ) (n : NearTable A) → Contains tables (near_table n) → short ≡ take 4 near
    → new ≡ insert short place n → place ≤ length near → place < 5 → AreNear tables near → AreNear tables new
near-kept tables near short new place n named cut put within below are =
    let fronts = subst (AllByRecursion (IsNamed tables)) (sym cut) (all-front (IsNamed tables) 4 near are.named) in
    let cut_len : length short ≡ min 4 (length near) = ap length cut ∙ length-take 4 near in
    let put_len : length new ≡ length short + 1 = ap length put ∙ length-insert short place n (omega arith) in
    record {
      few = omega arith;
      named = subst (AllByRecursion (IsNamed tables)) (sym put)
          (all-append (IsNamed tables) (take place short) (n ∷ drop place short) (all-front (IsNamed tables) place short fronts) (named, all-rest (IsNamed tables) place short fronts));
    }

-- the last of some tables
pub last-named : (tables : List Table) (t : Table) → Contains (tables ++ t ∷ []) t
last-named tables t = Contains-push tables t

-- ---- tables that are chosen

or-true : (b : Bool) → (b || true) ≡ true
or-true true = refl
or-true false = refl

any-more : (test : Table → Bool) (tables : List Table) (t : Table) (b : Bool) → b ≡ list_any test tables → (b || test t) ≡ list_any test (tables ++ t ∷ [])
any-more test tables t b is =
    ap (λ (c : Bool). c || test t) is ∙ ap (λ (c : Bool). list_any test tables || c) (sym (or-false (test t))) ∙ sym (list_any-append test tables (t ∷ []))

-- ---- one more table

-- it is chosen
pub seen-chosen : {A : Type 0} (choice : Choice) (tables : List Table) (t : Table) (seen new : SeenTables A) → AreSeenTables choice tables seen → is_chosen choice t ≡ true
    → new.has_chosen ≡ true → new.near.items ≡ seen.near.items → AreSeenTables choice (tables ++ t ∷ []) new
seen-chosen choice tables t seen new are chosen has near = record {
  chosen = has ∙ sym (or-true seen.has_chosen) ∙ ap (λ (b : Bool). seen.has_chosen || b) (sym chosen) ∙ any-more (is_chosen choice) tables t seen.has_chosen are.chosen;
  near = subst (AreNear (tables ++ t ∷ [])) (sym near) (near-more tables (t ∷ []) seen.near.items are.near);
}

-- it isn't, or one was chosen before
pub seen-other : {A : Type 0} (choice : Choice) (tables : List Table) (t : Table) (seen new : SeenTables A) → AreSeenTables choice tables seen
    → (seen.has_chosen ≡ false → is_chosen choice t ≡ false) → new.has_chosen ≡ seen.has_chosen → AreNear (tables ++ t ∷ []) new.near.items → AreSeenTables choice (tables ++ t ∷ []) new
seen-other choice tables t seen new are other has near = record {
  chosen = has ∙ same seen.has_chosen other ∙ any-more (is_chosen choice) tables t seen.has_chosen are.chosen;
  near = near;
}
  where
    same : (b : Bool) → (b ≡ false → is_chosen choice t ≡ false) → b ≡ (b || is_chosen choice t)
    same true h = refl
    same false h = sym (h refl)

-- ---- known tables

value-same : (a b : NamedTable) → is_same_named a b ≡ true → table_value a ≡ table_value b
value-same a b h =
    let parts = and_parts (bytes_eq a.schema.now b.schema.now) (bytes_eq a.table.now b.table.now) h in
    let schema = bytes-same a.schema.now b.schema.now parts.0 in
    let table = bytes-same a.table.now b.table.now parts.1 in
    λ i. record { schema = schema i; name = table i }

-- a table is added that isn't chosen
pub known-more : {S : Type 0} (choice : Choice) (has : Bool) (known new : HashSet NamedTable S) (t : NamedTable)
    → ((q : NamedTable) → contains is_same_named new q ≡ cond (is_same_named t q) true (contains is_same_named known q))
    → (has ≡ false → is_chosen choice (table_value t) ≡ false) → AreKnown choice has known → AreKnown choice has new
known-more choice has known new t updates other are = λ none q in_new. by_case none q (is_same_named t q) refl (sym (updates q) ∙ in_new)
  where
    by_case : has ≡ false → (q : NamedTable) (b : Bool) → is_same_named t q ≡ b → cond (is_same_named t q) true (contains is_same_named known q) ≡ true → is_chosen choice (table_value q) ≡ false
    by_case none q true same found = ap (is_chosen choice) (sym (value-same t q same)) ∙ other none
    by_case none q false same found = are none q (sym (ap (λ (b : Bool). cond b true (contains is_same_named known q)) same) ∙ found)

-- ---- on the way through the events of a log

-- what was seen is of some tables, which with those that the events that are left name make up all
pub record IsSeeing {A : Type 0} (choice : Choice) (all : List Table) (seen : SeenTables A) (left : List Placed) : Type 0 where
  pub done : List Table
  pub whole : done ++ filter_map table_named left ≡ all
  pub are : AreSeenTables choice done seen

pub seeing-none : {A : Type 0} (choice : Choice) (tables all : List Table) (seen : SeenTables A) (left : List Placed) → all ≡ filter_map table_named left
    → AreSeenTables choice tables seen → IsSeeing choice (tables ++ all) seen left
seeing-none choice tables all seen left same are = record { done = tables; whole = ap (λ (ts : List Table). tables ++ ts) (sym same); are = are }

-- one more event
pub seeing-event : {A : Type 0} (choice : Choice) (all : List Table) (seen new : SeenTables A) (p : Placed) (left rest : List Placed) → (s : IsSeeing choice all seen left) → left ≡ p ∷ rest
    → AreSeenTables choice (s.done ++ filter_map table_named (p ∷ [])) new → IsSeeing choice all new rest
seeing-event choice all seen new p left rest s first are =
    let named : List Table = filter_map table_named (p ∷ []) in
    let parts : filter_map table_named left ≡ named ++ filter_map table_named rest = ap (filter_map table_named) first ∙ filter_map-append table_named (p ∷ []) rest in record {
      done = s.done ++ named;
      whole = append_assoc s.done named (filter_map table_named rest) ∙ ap (λ (ts : List Table). s.done ++ ts) (sym parts) ∙ s.whole;
      are = are;
    }

-- none is left
pub seeing-end : {A : Type 0} (choice : Choice) (all : List Table) (seen : SeenTables A) (left : List Placed) → IsSeeing choice all seen left → left ≡ [] → AreSeenTables choice all seen
seeing-end choice all seen left s none =
    let done : s.done ≡ all = sym (append-nil s.done) ∙ ap (λ (ps : List Placed). s.done ++ filter_map table_named ps) (sym none) ∙ s.whole in
    subst (λ (ts : List Table). AreSeenTables choice ts seen) done s.are

-- a chosen one was found
pub seeing-stopped : {A : Type 0} (choice : Choice) (all : List Table) (seen : SeenTables A) (left : List Placed) → IsSeeing choice all seen left → seen.has_chosen ≡ true → AreSeenTables choice all seen
seeing-stopped choice all seen left s found =
    let rest : List Table = filter_map table_named left in
    let whole : AreSeenTables choice (s.done ++ rest) seen = record {
      chosen = found ∙ sym (ap (λ (b : Bool). b || list_any (is_chosen choice) rest) (sym s.are.chosen ∙ found)) ∙ sym (list_any-append (is_chosen choice) s.done rest);
      near = near-more s.done rest seen.near.items s.are.near;
    } in
    subst (λ (ts : List Table). AreSeenTables choice ts seen) s.whole whole
