-- Well-formed groups: they stay so in reverse order, and their events are as their kinds and bodies say.
use Rattle.std.proofs.Common.{◌≡◌, ℕ, suc, length, ◌<◌, ◌^◌, Bool, true, false, ◌||◌, List, [], ◌∷◌, map, reverse, Result, Ok, refl, ap, ◌∙◌, arith}
use Rattle.std.specs.List.{AllByRecursion, list_any, flat_map}
use Rattle.std.proofs.lemmas.List.{length-map, length-reverse}
use Rattle.std.proofs.lemmas.List.Folds.{list_any-append}
use Rattle.std.proofs.Math.Bool.{or_comm, or-false}
use Rattle.blog_event.specs.Event.{Event}
use Rattle.blog_row.specs.declared.kind.RowsVersion.{RowsVersion}
use Rattle.blog_row.specs.declared.kind.RowsVersion.TheVariants.{One, Two}
use Rattle.blog_row.specs.declared.kind.RowsAction.{RowsAction}
use Rattle.blog_row.specs.declared.kind.RowsAction.TheVariants.{Write}
use Rattle.blog_row.specs.declared.fault.RowFault.{RowFault}
use Rattle.blog_row.specs.RowsKind.{number_by}
use Rattle.blog_row.specs.RowsWriting.{written_fields, written_body}
use Rattle.blog_row.specs.Column.{Layout}
use Rattle.blog_row.specs.TableMap.{layout_of}
use Rattle.blog_row.proofs.Layouts.{layout_some}
use Rattle.blog_row.proofs.ReversedRows.{IsContent, all-append, all-reverse, reversed-is}
use Rattle.blog_row.specs.declared.event_kinds.EventKind.TheVariants as kind
use Rattle.blog_row.specs.Kinds.{kind_of}
use Rattle.blog_trans.specs.Acceptance.{rows_under, rows_by_map}
use Rattle.blog_trans.specs.Groups.{RowsEvent, Statement, Transaction}
use Rattle.blog_flash.specs.Reversal.{reversed_rows, reversed_statement, reversed_transaction, reversed}
use Rattle.blog_flash.specs.Texts.{rows_event, rows_events, statement_events, transaction_events, group_events}
use Rattle.blog_flash.proofs.Formed.{Fits, IsMapEvent, IsRowsEvent, IsUsed, IsStatement, IsTransaction, AreGroups}
use Rattle.blog_trans.proofs.PlacedParts.{all-by, all-map, all-joined}
use Rattle.blog_trans.proofs.ProgressSteps.{reverse-latest}
use Rattle.blog_flash.proofs.Content.{body-again}

-- ---- the events of groups

-- a kind doesn't depend on log_pos
pub kind-placed : (e : Event) (n : ℕ) → kind_of (record e { log_pos = n }) ≡ kind_of e
unfolding kind_of
kind-placed e n = refl

-- the event type of a kind of rows event is of this kind, and one byte
numbered : (e : Event) (version : RowsVersion) (action : RowsAction)
    → (kind_of (record e { kind = number_by version action }) ≡ kind.Rows (record { version = version; action = action })) × (number_by version action < 2 ^ 8)
unfolding kind_of
numbered e One Write = (refl, omega arith)
numbered e Two Write = (refl, omega arith)
numbered e _ _ = (refl, omega arith)

-- the event of a rows event has its kind
pub rows_event-kind : (last : Bool) (r : RowsEvent) → kind_of (rows_event last r) ≡ kind.Rows r.content.kind
rows_event-kind last r = (numbered (rows_event last r) r.content.kind.version r.content.kind.action).0

-- its header fits
rows_event-fits : (maps : List Event) (last : Bool) (r : RowsEvent) → IsRowsEvent maps r → Fits (rows_event last r)
rows_event-fits maps last r h =
    record { timestamp = h.timestamp_fits; kind = (numbered (rows_event last r) r.content.kind.version r.content.kind.action).1; server_id = h.server_id_fits; flags = h.header_flags_fit }

-- its body is read again
pub reads : (maps : List Event) (last : Bool) (r : RowsEvent) → IsRowsEvent maps r → rows_by_map r.content.kind r.map (written_body last r.content) ≡ Ok (written_fields last r.content)
reads maps last r h =
    ap (λ (l : Result Layout RowFault). rows_under r.content.kind l (written_body last r.content)) h.content.1 ∙ body-again last r.content h.content.0 (layout_some r.map h.content.0 h.content.1) h.content.2

-- ---- lists

-- what holds of the elements, each changed and in reverse order
all-turned : {A : Type 0} (P : A → Type 0) (f : A → A) → ((x : A) → P x → P (f x)) → (xs : List A) → AllByRecursion P xs → AllByRecursion P (reverse (map f xs))
all-turned P f by xs all = all-reverse P (map f xs) (all-map P P f by xs all)

-- there is a first one
abbrev HasFirst : {A : Type 0} → List A → Type 0
HasFirst {A = A} xs = (x : A) × (rest : List A) × (xs ≡ x ∷ rest)

-- as there is in a list as long
first-of : {A : Type 0} (n : ℕ) (xs : List A) → length xs ≡ suc n → HasFirst xs
first-of n [] long = absurd (omega (arith, long))
first-of n (x ∷ xs) long = (x, xs, refl)

-- also of the elements, each changed and in reverse order
first-turned : {A : Type 0} (f : A → A) (xs : List A) → HasFirst xs → HasFirst (reverse (map f xs))
first-turned f xs (x, rest, is) = first-of (length rest) (reverse (map f xs)) (length-reverse (map f xs) ∙ length-map xs f ∙ ap length is)

-- ---- reversed groups

-- what some element passes, some element passes where each is changed so that it passes alike, and in reverse order
any-turned : {A : Type 0} (p : A → Bool) (f : A → A) → ((x : A) → p (f x) ≡ p x) → (xs : List A) → list_any p (reverse (map f xs)) ≡ list_any p xs
any-turned p f alike [] = refl
any-turned p f alike (x ∷ xs) =
    rw (reverse-latest (f x) (map f xs), list_any-append p (reverse (map f xs)) (f x ∷ []), any-turned p f alike xs, alike x)
    (or_comm (list_any p xs) (p x || false) ∙ ap (λ (b : Bool). b || list_any p xs) (or-false (p x)))

-- a reversed rows event
pub rows-reversed : (maps : List Event) (r : RowsEvent) → IsRowsEvent maps r → IsRowsEvent maps (reversed_rows r)
rows-reversed maps r h =
    let content : (c : Layout) × (layout_of r.map ≡ Ok c) × IsContent c (reversed_rows r).content = (h.content.0, h.content.1, reversed-is h.content.0 r.content h.content.2) in
    assumption content

-- a reversed statement
pub statement-reversed : (Known : Event → Type 0) (s : Statement) → IsStatement Known s → IsStatement Known (reversed_statement s)
statement-reversed Known s h =
    let used = all-by (IsUsed s.rows) (IsUsed (reverse (map reversed_rows s.rows))) (λ m used. any-turned _ reversed_rows (λ r. refl) s.rows ∙ used) s.maps h.used in
    assumption (used, all-turned (IsRowsEvent s.maps) reversed_rows (rows-reversed s.maps) s.rows h.rows_formed, first-turned reversed_rows s.rows h.some)

-- a reversed transaction
pub transaction-reversed : (Known : Event → Type 0) (t : Transaction) → IsTransaction Known t → IsTransaction Known (reversed_transaction t)
transaction-reversed Known t h =
    assumption (all-turned (IsStatement Known) reversed_statement (statement-reversed Known) t.statements h.statements_formed, first-turned reversed_statement t.statements h.some)

-- reversed groups
pub groups-reversed : (Known : Event → Type 0) (ts : List Transaction) → AreGroups Known ts → AreGroups Known (reversed ts)
groups-reversed Known ts h = all-turned (IsTransaction Known) reversed_transaction (transaction-reversed Known) ts h

-- ---- events of groups

-- what holds of the events of rows events
all-rows : (P : Event → Type 0) (Q : RowsEvent → Type 0) → ((last : Bool) (r : RowsEvent) → Q r → P (rows_event last r)) → (rows : List RowsEvent) → AllByRecursion Q rows → AllByRecursion P (rows_events rows)
all-rows P Q by [] all = tt
all-rows P Q by (r ∷ []) all = (by true r all.0, tt)
all-rows P Q by (r ∷ s ∷ rows) all = (by false r all.0, all-rows P Q by (s ∷ rows) all.1)

-- and of maps holds of the events of a statement
pub all-events : (P Known : Event → Type 0) → ((m : Event) → IsMapEvent Known m → P m) → ((maps : List Event) (last : Bool) (r : RowsEvent) → IsRowsEvent maps r → P (rows_event last r)) → (s : Statement)
    → IsStatement Known s → AllByRecursion P (statement_events s)
all-events P Known by_map by_rows s h = all-append P s.maps (rows_events s.rows) (all-by (IsMapEvent Known) P by_map s.maps h.maps_formed) (all-rows P (IsRowsEvent s.maps) (by_rows s.maps) s.rows h.rows_formed)

-- headers fit: those of a transaction
transaction-fits : (Known : Event → Type 0) (t : Transaction) → IsTransaction Known t → AllByRecursion Fits (transaction_events t)
transaction-fits Known t h =
    let inside = all-joined (IsStatement Known) Fits statement_events (all-events Fits Known (λ m is. is.fits) rows_event-fits) t.statements h.statements_formed in
    (h.begin_fits, all-append Fits (flat_map statement_events t.statements) (t.end ∷ []) inside (h.end_fits, tt))

-- and those of groups
pub events-fit : (Known : Event → Type 0) (ts : List Transaction) → AreGroups Known ts → AllByRecursion Fits (group_events ts)
events-fit Known ts h = all-joined (IsTransaction Known) Fits transaction_events (transaction-fits Known) ts h
