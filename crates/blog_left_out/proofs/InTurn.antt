-- What is written for events of groups in turn are the events of the groups that stay.
use Rattle.std.proofs.Common.{◌≡◌, ℕ, ◌+◌, Bool, true, false, List, [], ◌∷◌, ◌++◌, length, length-append, drop, drop-drop, filter, map, Option, Some, None, bytes_eq, refl, sym, ap, ap₂, subst, ◌∙◌, append-nil, append_assoc, arith}
use Rattle.std.specs.List.{AllByRecursion, Contains, IsDistinct, flat_map}
use Rattle.std.proofs.lemmas.List.Concat.{flat_map-append}
use Rattle.std.proofs.lemmas.Option.{none-some, same_Some}
use Rattle.blog_event.specs.Event.{Event}
use Rattle.blog_event.specs.File.{Placed, placed_from, read}
use Rattle.blog_row.specs.declared.order.Order.TheVariants.{Forward}
use Rattle.blog_row.specs.RowsEvent.{table_id}
use Rattle.blog_trans.specs.Acceptance.{range}
use Rattle.blog_trans.specs.Changes.{changes_of_rows, changes_of_statement, changes_of_transaction}
use Rattle.blog_trans.specs.Groups.{PlacedRows, PlacedStatement, PlacedTransaction, Statement, Transaction, event_value, groups, placed_groups, placed_groups_in, rows_value, statement_value, transaction_value}
use Rattle.blog_trans.specs.Places.{is_map, map_in}
use Rattle.blog_trans.specs.PlacedFacts.{IsPlacedMap, IsPlacedRows, IsPlacedStatement, IsPlacedTransaction}
use Rattle.blog_trans.specs.Selection.{Selection}
use Rattle.blog_trans.specs.code.InTurn.{GroupEvent, Maps, Changes, Ends, in_turn, rows_in_turn, statement_in_turn, transaction_in_turn}
use Rattle.blog_trans.proofs.PlacedFacts.{groups-among}
use Rattle.blog_trans.proofs.PlacedParts.{all-by}
use Rattle.blog_trans.proofs.ProgressFirsts.{bytes-same}
use Rattle.blog_trans.proofs.ProgressMaps.{bytes-turned}
use Rattle.blog_trans.proofs.RowsFields.{id-found}
use Rattle.blog_flash.specs.Texts.{group_events, statement_events, transaction_events}
use Rattle.blog_left_out.specs.LeftOut.{by_marks, event_kept, rows_kept, statement_kept, stays, transaction_kept, transactions_kept, with_statements}
use Rattle.blog_left_out.specs.code.InTurn.{written_in_turn}

-- ---- the maps of table ids

-- the only map of the table id of a rows event is its own
abbrev GoesBy : List Placed → PlacedRows → Type 0
GoesBy maps r = filter (λ (m : Event). bytes_eq (table_id m.body) r.body.id) (map event_value maps) ≡ event_value r.map ∷ []

-- of maps with other ids there is none
none-of-id : (maps : List Placed) (id : List ℕ) → AllByRecursion (λ (other : List ℕ). bytes_eq id other ≡ false) (map (λ (m : Placed). table_id m.event.body) maps)
    → filter (λ (m : Event). bytes_eq (table_id m.body) id) (map event_value maps) ≡ []
none-of-id [] id all = refl
none-of-id (m ∷ maps) id all = rw (bytes-turned (table_id m.event.body) id ∙ all.0) (none-of-id maps id all.1)

-- the first map of an id is the only one
first-alone : (maps : List Placed) (id : List ℕ) (p : Placed) → AllByRecursion (λ m. is_map m ≡ true) maps → IsDistinct bytes_eq (map (λ (m : Placed). table_id m.event.body) maps)
    → map_in maps id ≡ Some p → filter (λ (m : Event). bytes_eq (table_id m.body) id) (map event_value maps) ≡ event_value p ∷ []
unfolding IsDistinct
first-alone [] id p are distinct found = absurd (none-some p found)
first-alone (m ∷ maps) id p are distinct found =
    by_case (bytes_eq (table_id m.event.body) id) refl (λ later. first-alone maps id p are.1 distinct.1 later)
  where
    by_case : (b : Bool) → bytes_eq (table_id m.event.body) id ≡ b
        → (map_in maps id ≡ Some p → filter (λ (m : Event). bytes_eq (table_id m.body) id) (map event_value maps) ≡ event_value p ∷ [])
        → filter (λ (m : Event). bytes_eq (table_id m.body) id) (map event_value (m ∷ maps)) ≡ event_value p ∷ []
    by_case true is others =
        let same = bytes-same (table_id m.event.body) id is in
        let first : m ≡ p = same_Some m p (rw (are.0, is) at found) in
        let apart = subst (λ (own : List ℕ). AllByRecursion (λ (other : List ℕ). bytes_eq own other ≡ false) (map (λ (m : Placed). table_id m.event.body) maps)) same distinct.0 in
        rw is (ap (λ es. event_value m ∷ es) (none-of-id maps id apart) ∙ ap (λ (q : Placed). event_value q ∷ []) first)
    by_case false is others = rw is (others (rw (are.0, is) at found))

row-goes : (Member : Placed → Type 0) (sel : Selection) (s : PlacedStatement) → IsPlacedStatement Member sel s → (r : PlacedRows) → IsPlacedRows Member sel s.maps r → GoesBy s.maps r
row-goes Member sel s h r known =
    let maps = all-by (IsPlacedMap Member sel) (λ m. is_map m ≡ true) (λ m own. own.is_one) s.maps h.maps in
    first-alone s.maps r.body.id r.map maps h.distinct (ap (map_in s.maps) (sym (id-found Member sel s.maps r known)) ∙ known.found)

abbrev GoByMaps : PlacedStatement → Type 0
GoByMaps s = AllByRecursion (GoesBy s.maps) s.rows

abbrev AllGoByMaps : PlacedTransaction → Type 0
AllGoByMaps t = AllByRecursion GoByMaps t.statements

-- so it is in all groups of a range
groups-go : (bytes : List ℕ) (sel : Selection) → AllByRecursion AllGoByMaps (placed_groups bytes sel)
unfolding placed_groups
groups-go bytes sel =
    let events : List Placed = range sel (placed_from 4 (read bytes sel.stop)) in
    let Member : Placed → Type 0 = Contains events in
    let statement-goes : (s : PlacedStatement) → IsPlacedStatement Member sel s → GoByMaps s = λ s h. all-by (IsPlacedRows Member sel s.maps) (GoesBy s.maps) (row-goes Member sel s h) s.rows h.rows in
    all-by (IsPlacedTransaction Member sel) AllGoByMaps (λ t h. all-by (IsPlacedStatement Member sel) GoByMaps statement-goes t.statements h.statements) (placed_groups_in sel events) (groups-among sel events)

-- ---- runs of events

-- the `BEGIN` that is held is written in front of the first statement
abbrev begun : Option Event → List Statement → List Event
begun None ss = []
begun (Some begin) [] = []
begun (Some begin) (s ∷ ss) = begin ∷ []

-- and isn't held after it
abbrev held_by : Option Event → List Statement → Option Event
held_by held [] = held
held_by held (s ∷ ss) = None

-- what is written for these statements
abbrev written_of : Option Event → List Statement → List Event
written_of held ss = begun held ss ++ flat_map statement_events ss

-- these statements stay of events with so many changes
abbrev IsRun : List Bool → Option Event → List GroupEvent → List Statement → ℕ → Type 0
IsRun ms held events ss n = (es : List GroupEvent) → written_in_turn ms held (events ++ es) ≡ written_of held ss ++ written_in_turn (drop n ms) (held_by held ss) es

begun-none : (held : Option Event) → begun held [] ≡ []
begun-none None = refl
begun-none (Some begin) = refl

written-append : (held : Option Event) (ss us : List Statement) → written_of held (ss ++ us) ≡ written_of held ss ++ written_of (held_by held ss) us
written-append None [] us = refl
written-append (Some begin) [] us = refl
written-append None (s ∷ ss) us = flat_map-append statement_events (s ∷ ss) us
written-append (Some begin) (s ∷ ss) us = ap (λ es. begin ∷ es) (flat_map-append statement_events (s ∷ ss) us)

held-append : (held : Option Event) (ss us : List Statement) → held_by held (ss ++ us) ≡ held_by (held_by held ss) us
held-append held [] us = refl
held-append held (s ∷ ss) [] = refl
held-append held (s ∷ ss) (u ∷ us) = refl

run-none : (ms : List Bool) (held : Option Event) → IsRun ms held [] [] 0
run-none ms held = λ es. ap (λ bs. (bs ++ []) ++ written_in_turn ms held es) (sym (begun-none held))

run-append : (ms : List Bool) (held : Option Event) (first second : List GroupEvent) (ss us : List Statement) (n k both : ℕ) → IsRun ms held first ss n → IsRun (drop n ms) (held_by held ss) second us k
    → both ≡ n + k → IsRun ms held (first ++ second) (ss ++ us) both
run-append ms held first second ss us n k both one other sum = λ es.
    ap (written_in_turn ms held) (append_assoc first second es)
    ∙ one (second ++ es)
    ∙ ap (λ ws. written_of held ss ++ ws) (other es)
    ∙ sym (append_assoc (written_of held ss) (written_of (held_by held ss) us) (written_in_turn (drop k (drop n ms)) (held_by (held_by held ss) us) es))
    ∙ ap₂ (λ (ws : List Event) (left : List Bool). ws ++ written_in_turn left (held_by (held_by held ss) us) es) (sym (written-append held ss us)) (drop-drop k n ms ∙ ap (λ (m : ℕ). drop m ms) (sym sum))
    ∙ ap (λ (h : Option Event). written_of held (ss ++ us) ++ written_in_turn (drop both ms) h es) (sym (held-append held ss us))

-- ---- of a statement

own-run : (maps : List Placed) (ms : List Bool) (held : Option Event) (r : PlacedRows) (last : Bool) → GoesBy maps r
    → IsRun ms held (Changes r last ∷ []) (event_kept (map event_value maps) ms (rows_value r)) (length (changes_of_rows (rows_value r)))
own-run maps ms held r last goes = λ es. by_case es held (stays ms (rows_value r).content) refl
  where
    statement : Statement
    statement = record { maps = filter (λ (m : Event). bytes_eq (table_id m.body) r.body.id) (map event_value maps); rows = rows_kept ms (rows_value r) ∷ [] }

    behind : List Bool
    behind = drop (length (changes_of_rows (rows_value r))) ms

    by_case : (es : List GroupEvent) (h : Option Event) (b : Bool) → stays ms (rows_value r).content ≡ b
        → written_in_turn ms h (Changes r last ∷ es)
        ≡ written_of h (event_kept (map event_value maps) ms (rows_value r)) ++ written_in_turn (drop (length (changes_of_rows (rows_value r))) ms) (held_by h (event_kept (map event_value maps) ms (rows_value r))) es
    by_case es None true is = rw (is, goes) refl
    by_case es (Some begin) true is = rw (is, goes) refl
    by_case es None false is = rw is refl
    by_case es (Some begin) false is = rw is refl

maps-run : (ms : List Bool) (held : Option Event) (maps : List Placed) → IsRun ms held (map Maps maps) [] 0
maps-run ms held [] = run-none ms held
maps-run ms held (m ∷ maps) = maps-run ms held maps

rows-run : (maps : List Placed) (ms : List Bool) (held : Option Event) (rs : List PlacedRows) → AllByRecursion (GoesBy maps) rs
    → IsRun ms held (rows_in_turn rs) (by_marks changes_of_rows (event_kept (map event_value maps)) ms (map rows_value rs)) (length (flat_map changes_of_rows (map rows_value rs)))
rows-run maps ms held [] go = run-none ms held
rows-run maps ms held (r ∷ []) go =
    run-append ms held (Changes r true ∷ []) [] (event_kept (map event_value maps) ms (rows_value r)) [] (length (changes_of_rows (rows_value r))) 0 _
    (own-run maps ms held r true go.0)
    (run-none (drop (length (changes_of_rows (rows_value r))) ms) (held_by held (event_kept (map event_value maps) ms (rows_value r))))
    (length-append (changes_of_rows (rows_value r)) [])
rows-run maps ms held (r ∷ s ∷ rs) go =
    let own = event_kept (map event_value maps) ms (rows_value r) in
    let behind = drop (length (changes_of_rows (rows_value r))) ms in
    run-append ms held (Changes r false ∷ []) (rows_in_turn (s ∷ rs)) own (by_marks changes_of_rows (event_kept (map event_value maps)) behind (map rows_value (s ∷ rs)))
    (length (changes_of_rows (rows_value r))) (length (flat_map changes_of_rows (map rows_value (s ∷ rs)))) _
    (own-run maps ms held r false go.0) (rows-run maps behind (held_by held own) (s ∷ rs) go.1)
    (length-append (changes_of_rows (rows_value r)) (flat_map changes_of_rows (map rows_value (s ∷ rs))))

statement-run : (ms : List Bool) (held : Option Event) (s : PlacedStatement) → GoByMaps s
    → IsRun ms held (statement_in_turn Forward s) (statement_kept ms (statement_value s)) (length (changes_of_statement (statement_value s)))
statement-run ms held s go =
    run-append ms held (map Maps s.maps) (rows_in_turn s.rows) [] (statement_kept ms (statement_value s)) 0 (length (changes_of_statement (statement_value s))) _
    (maps-run ms held s.maps) (rows-run s.maps ms held s.rows go) (omega arith)

-- ---- of a transaction

statements-run : (ms : List Bool) (held : Option Event) (ss : List PlacedStatement) → AllByRecursion GoByMaps ss
    → IsRun ms held (flat_map (statement_in_turn Forward) ss) (by_marks changes_of_statement statement_kept ms (map statement_value ss)) (length (flat_map changes_of_statement (map statement_value ss)))
statements-run ms held [] go = run-none ms held
statements-run ms held (s ∷ ss) go =
    let own = statement_kept ms (statement_value s) in
    let behind = drop (length (changes_of_statement (statement_value s))) ms in
    run-append ms held (statement_in_turn Forward s) (flat_map (statement_in_turn Forward) ss) own (by_marks changes_of_statement statement_kept behind (map statement_value ss))
    (length (changes_of_statement (statement_value s))) (length (flat_map changes_of_statement (map statement_value ss))) _
    (statement-run ms held s go.0) (statements-run behind (held_by held own) ss go.1)
    (length-append (changes_of_statement (statement_value s)) (flat_map changes_of_statement (map statement_value ss)))

-- the end event is written after some statement
ended : (t : Transaction) (ss : List Statement) (left : List Bool) (end : Placed) (es : List GroupEvent) → event_value end ≡ t.end
    → written_of (Some t.begin) ss ++ written_in_turn left (held_by (Some t.begin) ss) (Ends end ∷ es) ≡ group_events (with_statements t ss) ++ written_in_turn left None es
ended t [] left end es is = refl
ended t (s ∷ ss) left end es is =
    ap (λ ws. t.begin ∷ ws)
    (ap (λ (e : Event). flat_map statement_events (s ∷ ss) ++ e ∷ written_in_turn left None es) is
    ∙ sym (append_assoc (flat_map statement_events (s ∷ ss)) (t.end ∷ []) (written_in_turn left None es))
    ∙ ap (λ ws. ws ++ written_in_turn left None es) (sym (append-nil (flat_map statement_events (s ∷ ss) ++ t.end ∷ []))))

transaction-run : (ms : List Bool) (t : PlacedTransaction) (es : List GroupEvent) → AllGoByMaps t
    → written_in_turn ms None (transaction_in_turn Forward t ++ es)
    ≡ group_events (transaction_kept ms (transaction_value t)) ++ written_in_turn (drop (length (changes_of_transaction (transaction_value t))) ms) None es
transaction-run ms t es go =
    let begin : Option Event = Some (event_value t.begin) in
    ap (written_in_turn ms begin) (append_assoc (flat_map (statement_in_turn Forward) t.statements) (Ends t.end ∷ []) es)
    ∙ statements-run ms begin t.statements go (Ends t.end ∷ es)
    ∙ ended (transaction_value t) (by_marks changes_of_statement statement_kept ms (map statement_value t.statements)) (drop (length (changes_of_transaction (transaction_value t))) ms) t.end es refl

-- ---- of groups

groups-run : (ms : List Bool) (ts : List PlacedTransaction) → AllByRecursion AllGoByMaps ts
    → written_in_turn ms None (flat_map (transaction_in_turn Forward) ts) ≡ group_events (transactions_kept ms (map transaction_value ts))
groups-run ms [] go = refl
groups-run ms (t ∷ ts) go =
    let behind = drop (length (changes_of_transaction (transaction_value t))) ms in
    transaction-run ms t (flat_map (transaction_in_turn Forward) ts) go.0
    ∙ ap (λ ws. group_events (transaction_kept ms (transaction_value t)) ++ ws) (groups-run behind ts go.1)
    ∙ sym (flat_map-append transaction_events (transaction_kept ms (transaction_value t)) (transactions_kept behind (map transaction_value ts)))

-- what is written for the groups of a range in turn
pub kept-in-turn : (ms : List Bool) (bytes : List ℕ) (sel : Selection) → written_in_turn ms None (in_turn Forward (placed_groups bytes sel)) ≡ group_events (transactions_kept ms (groups bytes sel))
unfolding in_turn groups
kept-in-turn ms bytes sel = groups-run ms (placed_groups bytes sel) (groups-go bytes sel)
