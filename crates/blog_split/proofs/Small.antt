-- Where no statement has more bytes than the limit, nothing is cut.
use Rattle.std.proofs.Common.{◌≡◌, ℕ, ◌+◌, ◌≤◌, Bool, true, false, ◌||◌, if◌then◌else◌, bytes_eq, List, [], ◌∷◌, ◌++◌, map, take, drop, filter, refl, sym, ap, ap₂, ◌∙◌, arith, append-nil, append_assoc}
use Rattle.std.specs.List.{AllByRecursion, flat_map}
use Rattle.std.proofs.lemmas.Bool.{false≢true}
use Rattle.std.proofs.lemmas.List.Folds.{list_any-append}
use Rattle.blog_event.specs.Event.{Event}
use Rattle.blog_event.specs.File.{AreBytes, read}
use Rattle.blog_row.specs.RowsEvent.{table_id}
use Rattle.blog_trans.specs.Selection.{Selection}
use Rattle.blog_trans.specs.Groups.{RowsEvent, Statement, Transaction, groups}
use Rattle.blog_flash.specs.Texts.{laid_out_after, normal_text}
use Rattle.blog_flash.proofs.Agreeing.{Chosen}
use Rattle.blog_flash.proofs.Formed.{IsStatement, IsTransaction, AreGroups}
use Rattle.blog_flash.proofs.Headline.{is-source}
use Rattle.blog_split.specs.Cuts.{rows_bytes, maps_bytes, piece_bytes, IsCut, is_used_by, piece_statement, AreCut, IsCutTransaction, IsCutInto}
use Rattle.blog_split.specs.Laws.{IsSplit, AreSmall}

-- ---- the bytes of rows events

-- of two lists
pub rows_bytes-append : (xs ys : List RowsEvent) → rows_bytes (xs ++ ys) ≡ rows_bytes xs + rows_bytes ys
rows_bytes-append [] ys = omega arith
rows_bytes-append (x ∷ xs) ys = let others = rows_bytes-append xs ys in omega arith

-- ---- the bytes of maps

-- maps that pass a test have no more than those that pass another, which each of them passes too
maps-fewer : (p q : Event → Bool) (maps : List Event) → ((m : Event) → p m ≡ true → q m ≡ true) → maps_bytes (filter p maps) ≤ maps_bytes (filter q maps)
maps-fewer p q [] more = omega arith
maps-fewer p q (m ∷ maps) more = by_case (p m) (q m) (more m) (maps-fewer p q maps more)
  where
    by_case : (a b : Bool) → (a ≡ true → b ≡ true) → maps_bytes (filter p maps) ≤ maps_bytes (filter q maps)
        → maps_bytes (if a then m ∷ filter p maps else filter p maps) ≤ maps_bytes (if b then m ∷ filter q maps else filter q maps)
    by_case true true also others = omega arith
    by_case true false also others = absurd (false≢true (also refl))
    by_case false true also others = omega arith
    by_case false false also others = others

-- those that some rows events use
used-fewer : (maps : List Event) (front behind : List RowsEvent) → maps_bytes (filter (is_used_by front) maps) ≤ maps_bytes (filter (is_used_by (front ++ behind)) maps)
used-fewer maps front behind = maps-fewer (is_used_by front) (is_used_by (front ++ behind)) maps
    (λ m used. list_any-append (λ (r : RowsEvent). bytes_eq (table_id m.body) r.content.id) front behind ∙ ap (λ (b : Bool). b || is_used_by behind m) used)

-- rows events have no more bytes with their maps than with others behind them
pub piece-fewer : (maps : List Event) (front behind : List RowsEvent) → piece_bytes maps front ≤ piece_bytes maps (front ++ behind)
piece-fewer maps front behind = omega (arith, used-fewer maps front behind, rows_bytes-append front behind)

-- ---- one piece

-- a list is its first and the others
first-and-rest : (rows : List RowsEvent) → take 1 rows ++ drop 1 rows ≡ rows
first-and-rest [] = refl
first-and-rest (r ∷ rows) = refl

-- rows events that fit are one piece
one-piece : (limit : ℕ) (maps : List Event) (rows : List RowsEvent) (pieces : List (List RowsEvent)) (r : RowsEvent) (rest : List RowsEvent) → IsCut limit maps rows pieces → rows ≡ r ∷ rest
    → piece_bytes maps rows ≤ limit → pieces ≡ rows ∷ []
one-piece limit maps rows [] r rest cut some fits = absurd (cc (cut.joined, some))
one-piece limit maps rows (piece ∷ []) r rest cut some fits = ap (λ p. p ∷ []) (sym (append-nil piece) ∙ cut.joined)
one-piece limit maps rows (piece ∷ next ∷ pieces) r rest cut some fits =
    let behind : List RowsEvent = drop 1 next ++ flat_map (λ p. p) pieces in
    let all : (piece ++ take 1 next) ++ behind ≡ rows =
    append_assoc piece (take 1 next) behind ∙ ap (λ (rs : List RowsEvent). piece ++ rs) (sym (append_assoc (take 1 next) (drop 1 next) (flat_map (λ p. p) pieces)))
    ∙ ap (λ (rs : List RowsEvent). piece ++ (rs ++ flat_map (λ p. p) pieces)) (first-and-rest next) ∙ cut.joined in
    let over = cut.full.0 in
    absurd (omega (arith, piece-fewer maps (piece ++ take 1 next) behind, ap (piece_bytes maps) all, over, fits))

-- ---- all of it

-- a filter that each passes
filter-all : {A : Type 0} (test : A → Bool) (xs : List A) → AllByRecursion (λ x. test x ≡ true) xs → filter test xs ≡ xs
filter-all test [] all = refl
filter-all test (x ∷ xs) all = rw all.0 (ap (λ ys. x ∷ ys) (filter-all test xs all.1))

-- a statement in one piece is itself
statement-whole : (Known : Event → Type 0) (s : Statement) → IsStatement Known s → piece_statement s s.rows ≡ s
statement-whole Known s h = ap (λ (maps : List Event). record { maps = maps; rows = s.rows }) (filter-all (is_used_by s.rows) s.maps h.used)

statements-whole : (Known : Event → Type 0) (limit : ℕ) (ss cut : List Statement) → AreCut limit ss cut → AllByRecursion (IsStatement Known) ss
    → AllByRecursion (λ (s : Statement). piece_bytes s.maps s.rows ≤ limit) ss → cut ≡ ss
statements-whole Known limit [] cut are h small = are
statements-whole Known limit (s ∷ ss) cut are h small =
    let own = h.0.some in
    are.3 ∙ ap (λ pieces. map (piece_statement s) pieces ++ are.1) (one-piece limit s.maps s.rows are.0 own.0 own.1 are.2 own.2 small.0)
    ∙ ap₂ ◌∷◌ (statement-whole Known s h.0) (statements-whole Known limit ss are.1 are.4 h.1 small.1)

transaction-whole : (Known : Event → Type 0) (limit : ℕ) (t u : Transaction) → IsCutTransaction limit t u → IsTransaction Known t
    → AllByRecursion (λ (s : Statement). piece_bytes s.maps s.rows ≤ limit) t.statements → u ≡ t
transaction-whole Known limit t u cut h small =
    let same = statements-whole Known limit t.statements u.statements cut.statements h.statements_formed small in
    λ i. record { begin = cut.begins i; statements = same i; end = cut.ends i }

groups-whole : (Known : Event → Type 0) (limit : ℕ) (ts us : List Transaction) → IsCutInto limit ts us → AreGroups Known ts → AreSmall limit ts → us ≡ ts
groups-whole Known limit [] [] cut h small = refl
groups-whole Known limit [] (u ∷ us) cut h small = absurd cut
groups-whole Known limit (t ∷ ts) [] cut h small = absurd cut
groups-whole Known limit (t ∷ ts) (u ∷ us) cut h small = ap₂ ◌∷◌ (transaction-whole Known limit t u cut.0 h.0 small.0) (groups-whole Known limit ts us cut.1 h.1 small.1)

-- what is laid out is the normal form
pub small-is-normal : (limit : ℕ) (bytes : List ℕ) (sel : Selection) (cut : List Transaction) (text : List ℕ) → AreBytes bytes → IsSplit limit bytes sel cut text
    → AreSmall limit (groups bytes sel) → text ≡ normal_text bytes sel
unfolding normal_text
small-is-normal limit bytes sel cut text are h small =
    let source = is-source bytes sel are h.source in
    h.laid ∙ ap (laid_out_after (read bytes sel.stop)) (groups-whole (Chosen bytes sel) limit (groups bytes sel) cut h.is_cut source.forward.are_groups small)
