-- Where the events of groups stand: each transaction is one span, and each statement is one cut of its inside.
use Rattle.std.proofs.Common.{◌≡◌, ℕ, ◌+◌, List, [], ◌∷◌, ◌++◌, find, Bool, true, false, ◌&&◌, not, Option, Some, is_some, refl, sym, ap, subst, ◌∙◌, inl, inr, append_assoc, arith}
use Rattle.std.specs.List.{AllByRecursion, flat_map}
use Rattle.blog_event.specs.Event.{Event, event_size}
use Rattle.blog_event.specs.File.{Placed, end_of}
use Rattle.blog_event.specs.Format.{front_while}
use Rattle.blog_row.specs.RowsEvent.{has_end_flag}
use Rattle.blog_row.specs.declared.event_kinds.EventKind.{EventKind}
use Rattle.blog_row.specs.declared.event_kinds.EventKind.TheVariants as kind
use Rattle.blog_row.specs.Kinds.{kind_of, is_begin_kind, is_end_kind, is_map_kind, rows_of_kind}
use Rattle.blog_trans.specs.Places.{kind_at, is_begin, is_end, is_last_rows, map_in}
use Rattle.blog_trans.specs.Groups.{Span, spans, onto_first, statements_of, RowsEvent, Statement, Transaction}
use Rattle.blog_trans.proofs.PlacedParts.{all-joined}
use Rattle.blog_flash.specs.Texts.{rows_event, rows_events, statement_events, transaction_events}
use Rattle.blog_flash.proofs.Formed.{map_among, is_map_of_id, IsMapEvent, IsRowsEvent, IsStatement, IsEndEvent, IsTransaction}
use Rattle.blog_flash.proofs.Standing.{stood, stood-append}
use Rattle.blog_flash.proofs.Content.{body-ends}
use Rattle.blog_flash.proofs.Forming.{all-events, kind-placed, rows_event-kind}

-- ---- kinds

-- an event that is laid out at a position
abbrev pub stands_at : ℕ → Event → Placed
stands_at pos e = record { pos = pos; event = record e { log_pos = pos + event_size e } }

-- what is asked of an event's kind is answered as before it was laid out
pub by-kind : {A : Type 0} (f : EventKind → A) (pos : ℕ) (e : Event) (k : EventKind) → kind_of e ≡ k → f (kind_at (stands_at pos e)) ≡ f k
by-kind f pos e k h = ap f (kind-placed e (pos + event_size e) ∙ h)

-- ---- maps where they stand

-- an answer of this value
abbrev pub HasValue : {A B : Type 0} → Option A → (A → B) → B → Type 0
HasValue {A = A} o value y = (x : A) × (o ≡ Some x) × (value x ≡ y)

-- each map of these is found among the events
abbrev pub HasMaps : List Placed → List Event → Type 0
HasMaps events maps = (id : List ℕ) (m : Event) → map_among maps id ≡ Some m → HasValue (map_in events id) (λ map. map.event.body) m.body

-- they are found where they stand
pub maps-stand : (pos : ℕ) (maps : List Event) (more : List Placed) → HasMaps (stood pos maps ++ more) maps
maps-stand pos [] more id m found = cc
maps-stand pos (x ∷ maps) more id m found = by_case (is_map_of_id id x) refl (maps-stand (pos + event_size x) maps more id m)
  where
    by_case : (b : Bool) → is_map_of_id id x ≡ b → (map_among maps id ≡ Some m → HasValue (map_in (stood (pos + event_size x) maps ++ more) id) (λ map. map.event.body) m.body)
        → HasValue (map_in (stood pos (x ∷ maps) ++ more) id) (λ map. map.event.body) m.body
    by_case true e later = let it = rw e at found in (stands_at pos x, rw (by-kind is_map_kind pos x (kind_of x) refl, e) refl, cc)
    by_case false e later = rw (by-kind is_map_kind pos x (kind_of x) refl, e) (later (rw e at found))

-- ---- inside of a transaction

-- neither a begin nor an end
abbrev pub IsInnerKind : EventKind → Type 0
IsInnerKind k = (is_begin_kind k ≡ false) × (is_end_kind k ≡ false)

abbrev pub IsInner : Event → Type 0
IsInner e = IsInnerKind (kind_of e)

-- the events of statements neither begin nor end a transaction
pub statements-inner : (Known : Event → Type 0) (ss : List Statement) → AllByRecursion (IsStatement Known) ss → AllByRecursion IsInner (flat_map statement_events ss)
statements-inner Known ss h =
    all-joined (IsStatement Known) IsInner statement_events
    (all-events IsInner Known (λ m is. subst IsInnerKind (sym is.kind) (refl, refl)) (λ maps last r is. subst IsInnerKind (sym (rows_event-kind last r)) (refl, refl))) ss h

-- nor do events where they stand
inner-stood : (pos : ℕ) (es : List Event) → AllByRecursion IsInner es → AllByRecursion (λ p. IsInner p.event) (stood pos es)
inner-stood pos [] h = tt
inner-stood pos (e ∷ es) h = (subst IsInnerKind (sym (kind-placed e (pos + event_size e))) h.0, inner-stood (pos + event_size e) es h.1)

-- an end is one where it stands, and no begin
pub end-stands : (pos : ℕ) (e : Event) → IsEndEvent e → (is_end (stands_at pos e) ≡ true) × (is_begin (stands_at pos e) ≡ false)
end-stands pos e (inl h) = (by-kind is_end_kind pos e kind.Commit h, by-kind is_begin_kind pos e kind.Commit h)
end-stands pos e (inr h) = (by-kind is_end_kind pos e kind.Xid h.0, by-kind is_begin_kind pos e kind.Xid h.0)

-- ---- a transaction is one span

-- past events that neither begin nor end one, to the end
past-inner : (xs rest : List Placed) (e : Placed) → AllByRecursion (λ p. IsInner p.event) xs → is_end e ≡ true
    → (find is_end (xs ++ e ∷ rest) ≡ Some e) × (front_while (λ x. not (is_end x)) (xs ++ e ∷ rest) ≡ xs) × (spans (xs ++ e ∷ rest) ≡ spans (e ∷ rest))
past-inner [] rest e inner ends = (rw ends refl, rw ends refl, refl)
past-inner (x ∷ xs) rest e inner ends = let others = past-inner xs rest e inner.1 ends in grind arith

-- a begin, no further one, and the first end
span-of : (b e : Placed) (xs rest : List Placed) → is_begin b ≡ true → AllByRecursion (λ p. IsInner p.event) xs → (is_end e ≡ true) × (is_begin e ≡ false)
    → spans (b ∷ (xs ++ e ∷ rest)) ≡ record { begin = b; inside = xs; end = e } ∷ spans rest
span-of b e xs rest begins inner ends =
    let (found, front, others) = past-inner xs rest e inner ends.0 in
    rw (begins, found, front) (ap (λ l. record { begin = b; inside = xs; end = e } ∷ l) (others ∙ rw ends.1 refl))

-- where the events of a transaction stand
abbrev pub span_at : ℕ → Transaction → Span
span_at pos t =
    let from = pos + event_size t.begin in
    let inside = flat_map statement_events t.statements in
    record { begin = stands_at pos t.begin; inside = stood from inside; end = stands_at (end_of from inside) t.end }

-- the first span of events that begin with those of a transaction
pub span-first : (Known : Event → Type 0) (pos : ℕ) (t : Transaction) (rest : List Placed) → IsTransaction Known t → spans (stood pos (transaction_events t) ++ rest) ≡ span_at pos t ∷ spans rest
span-first Known pos t rest h =
    let from : ℕ = pos + event_size t.begin in
    let inside : List Event = flat_map statement_events t.statements in
    let span : Span = span_at pos t in
    rw (stood-append from inside (t.end ∷ []), append_assoc span.inside (span.end ∷ []) rest)
    (span-of span.begin span.end span.inside rest (by-kind is_begin_kind pos t.begin kind.Begin h.begin_kind)
    (inner-stood from inside (statements-inner Known t.statements h.statements_formed)) (end-stands (end_of from inside) t.end h.end_is))

-- ---- a statement is one cut

-- a rows event of a statement has the end flag if it was written as the last
rows-last : (maps : List Event) (pos : ℕ) (last : Bool) (r : RowsEvent) → IsRowsEvent maps r → is_last_rows (stands_at pos (rows_event last r)) ≡ last
rows-last maps pos last r h =
    by-kind (λ k. is_some (rows_of_kind k) && has_end_flag (rows_event last r).body) pos (rows_event last r) (kind.Rows r.content.kind) (rows_event-kind last r)
    ∙ body-ends last r.content h.content.2.id_len h.flags h.even

cut-rows : (maps : List Event) (pos : ℕ) (rows : List RowsEvent) (rest : List Placed) (first : RowsEvent) (others : List RowsEvent) → rows ≡ first ∷ others → AllByRecursion (IsRowsEvent maps) rows
    → statements_of (stood pos (rows_events rows) ++ rest) ≡ stood pos (rows_events rows) ∷ statements_of rest
cut-rows maps pos [] rest first others some h = cc
cut-rows maps pos (r ∷ []) rest first others some h = rw (rows-last maps pos true r h.0) refl
cut-rows maps pos (r ∷ s ∷ rows) rest first others some h =
    rw (rows-last maps pos false r h.0) (ap (onto_first (stands_at pos (rows_event false r))) (cut-rows maps (pos + event_size (rows_event false r)) (s ∷ rows) rest s rows refl h.1))

cut-maps : (Known : Event → Type 0) (pos : ℕ) (ms : List Event) (rows rest : List Placed) (cuts : List (List Placed)) → AllByRecursion (IsMapEvent Known) ms
    → statements_of (rows ++ rest) ≡ rows ∷ cuts → statements_of ((stood pos ms ++ rows) ++ rest) ≡ (stood pos ms ++ rows) ∷ cuts
cut-maps Known pos [] rows rest cuts h cut = cut
cut-maps Known pos (m ∷ ms) rows rest cuts h cut =
    rw (by-kind (λ k. is_some (rows_of_kind k) && has_end_flag m.body) pos m kind.TableMap h.0.kind) (ap (onto_first (stands_at pos m)) (cut-maps Known (pos + event_size m) ms rows rest cuts h.1 cut))

-- the first cut of events that begin with those of a statement
pub cut-first : (Known : Event → Type 0) (pos : ℕ) (s : Statement) (rest : List Placed) → IsStatement Known s
    → statements_of (stood pos (statement_events s) ++ rest) ≡ stood pos (statement_events s) ∷ statements_of rest
cut-first Known pos s rest h =
    let behind : ℕ = end_of pos s.maps in
    rw (stood-append pos s.maps (rows_events s.rows))
    (cut-maps Known pos s.maps (stood behind (rows_events s.rows)) rest (statements_of rest) h.maps_formed (cut-rows s.maps behind s.rows rest h.some.0 h.some.1 h.some.2 h.rows_formed))
