-- Going through events whose statements are cut: one step of the source, of the walk ahead of it, and of a piece.
use Rattle.std.proofs.Common.{◌≡◌, ℕ, zero, suc, ◌+◌, ◌-◌, ◌≤◌, ◌<◌, Bool, true, false, ◌||◌, if◌then◌else◌, nat_le, List, [], ◌∷◌, ◌++◌, length, take, drop, Option, None, Some, refl, sym, ap, ap₂, subst, ◌∙◌, arith, inl, inr, ◌⊎◌}
use Rattle.std.specs.Prelude.{nat_eq, MatchOption, ⊤}
use Rattle.std.specs.Iterator.{YieldsFirstBy}
use Rattle.std.specs.Option.{option_to_list}
use Rattle.std.proofs.Math.Numerals.{add-one}
use Rattle.std.proofs.lemmas.Bool.{false≢true, leb-true, leb-false}
use Rattle.blog_event.specs.declared.event.Event as told
use Rattle.blog_event.specs.Event.{Event, event_size}
use Rattle.blog_event.specs.File.{AreBytes}
use Rattle.blog_row.specs.RowsEvent.{table_id}
use Rattle.blog_trans.specs.Groups.{RowsEvent}
use Rattle.blog_trans.specs.declared.group_events.SkippedEvent.{SkippedEvent}
use Rattle.blog_trans.specs.declared.group_events.SkippedEvent.TheVariants as over
use Rattle.blog_trans.specs.declared.group_events.SkippedRows.{SkippedRows}
use Rattle.blog_flash.specs.Texts.{rows_event}
use Rattle.blog_flash.specs.Written.{Written, Same, Maps, Changes, rows_written}
use Rattle.blog_flash.specs.code.Skipping.{IsSkippedRows, Skips}
use Rattle.blog_flash.specs.code.WrittenView.{written_told}
use Rattle.blog_flash.specs.declared.written_event.WrittenEvent.{WrittenEvent}
use Rattle.blog_split.specs.Cuts.{maps_bytes, piece_bytes}
use Rattle.blog_split.specs.declared.most.Most.{Most}
use Rattle.blog_split.specs.code.CutView.{IsAhead}
use Rattle.blog_split.specs.code.CutWritten.{AreApart, CanBeCut, HasId, cut_written, ending, has_room, piece_written, rows_among}
use Rattle.blog_split.specs.code.Marks.{AreFlags, AreMarks, IsFound, IsTable, IsUnmarked, id_number, numbered}
use Rattle.blog_split.specs.declared.used_maps.MapId.{MapId}
use Rattle.blog_split.proofs.MapIds.{differs, number-found}
use Rattle.blog_split.proofs.Adding.{piece-more}
use Rattle.blog_split.proofs.Marks.{IsAdded, added-unmarked}
use Rattle.blog_split.proofs.CutWritten.{joins-last, joins-open, nothing-written, room-is, rows-first, stops-full, stops-maps, stops-none, stops-same, written-first}
use Rattle.blog_split.proofs.Turned.{rows_event-size}

-- ---- one step

-- the first event is taken, or there is none
abbrev pub Steps : List Written → List Written → Type 0
Steps ws rest = ((ws ≡ []) × (rest ≡ [])) ⊎ ((w : Written) × (ws ≡ w ∷ rest))

module _ {S : Type 0} (to_come : S → List Written) (before after : S) where
  pub yields-steps : (event : Option WrittenEvent) → YieldsFirstBy written_told to_come before event after → Steps (to_come before) (to_come after)
  yields-steps None none = inl none
  yields-steps (Some event) first = inr (written_told event, first)

  pub skips-steps : (event : Option SkippedEvent) → Skips to_come before event after → Steps (to_come before) (to_come after)
  skips-steps None none = inl none
  skips-steps (Some event) (w, first, is) = inr (w, first)

  pub skips-ahead : (event : Option SkippedEvent) → Skips to_come before event after → IsAhead event (to_come before) (to_come after)
  skips-ahead None none = none
  skips-ahead (Some event) first = first

-- by what is to come
pub skips-by : {S : Type 0} (to_come : S → List Written) (before : S) (event : Option SkippedEvent) (after : S) (ws rest : List Written) → to_come before ≡ ws → to_come after ≡ rest
    → Skips (λ (own : List Written). own) ws event rest → Skips to_come before event after
skips-by to_come before None after ws rest first left (none, also) = (first ∙ none, left ∙ also)
skips-by to_come before (Some event) after ws rest first left (w, taken, is) = (w, first ∙ taken ∙ ap (λ (own : List Written). w ∷ own) (sym left), is)

-- what is left is what the walk ahead has to come
pub steps-ahead : (next : Option SkippedEvent) (ws others rest : List Written) → IsAhead next ws others → Steps ws rest → rest ≡ others
steps-ahead None ws others rest (none, left) (inl (empty, is)) = is ∙ sym left
steps-ahead None ws others rest (none, left) (inr (w, is)) = absurd (cc (none, is))
steps-ahead (Some event) ws others rest (v, first, skipped) (inl (empty, is)) = absurd (cc (first, empty))
steps-ahead (Some event) ws others rest (v, first, skipped) (inr (w, is)) = cc (first, is)

-- ---- what is of no statement

abbrev pub IsOther : List Written → Type 0
IsOther [] = ⊤
IsOther (Same e ∷ ws) = ⊤
IsOther (Maps m ∷ ws) = ⊥
IsOther (Changes r last ∷ ws) = ⊥

pub is-other : (next : Option SkippedEvent) (ws others : List Written) → IsAhead next ws others → ((event : told.Event) → next ≡ Some (over.Map event) → ⊥)
    → (((rows : SkippedRows) × (next ≡ Some (over.Rows rows))) → ⊥) → IsOther ws
is-other None ws others (none, left) no_map no_rows = subst IsOther (sym none) tt
is-other (Some (over.Begin event)) ws others (w, first, is) no_map no_rows = subst IsOther (sym (first ∙ ap (λ (v : Written). v ∷ others) is)) tt
is-other (Some (over.Map event)) ws others ahead no_map no_rows = absurd (no_map event refl)
is-other (Some (over.Rows rows)) ws others ahead no_map no_rows = absurd (no_rows (rows, refl))
is-other (Some (over.End event)) ws others (w, first, is) no_map no_rows = subst IsOther (sym (first ∙ ap (λ (v : Written). v ∷ others) is)) tt

-- it is written as it is, and ends what is known of the open statement
pub other-cut : (limit : ℕ) (maps : List Event) (ws : List Written) (w : Written) (rest : List Written) → IsOther ws → ws ≡ w ∷ rest
    → cut_written limit maps [] ws ≡ w ∷ cut_written limit [] [] rest
other-cut limit maps [] w rest other is = absurd (cc is)
other-cut limit maps (Maps m ∷ ws) w rest other is = absurd other
other-cut limit maps (Changes r last ∷ ws) w rest other is = absurd other
other-cut limit maps (Same e ∷ ws) w rest other is =
    ap (λ (es : List Written). es ++ Same e ∷ cut_written limit [] [] ws) (nothing-written maps)
    ∙ (λ i. head-or (Same e) (is i) ∷ cut_written limit [] [] (drop 1 (is i)))
  where
    head-or : Written → List Written → Written
    head-or w [] = w
    head-or w (v ∷ vs) = v

pub none-cut : (limit : ℕ) (maps : List Event) (ws : List Written) → ws ≡ [] → cut_written limit maps [] ws ≡ []
none-cut limit maps ws none = ap (cut_written limit maps []) none ∙ nothing-written maps

pub other-can : (most : Most) (maps : List Event) (ws rest : List Written) → IsOther ws → Steps ws rest → CanBeCut most maps 0 ws → CanBeCut most [] 0 rest
other-can most maps ws rest other (inl (none, is)) can = subst (CanBeCut most [] 0) (sym is) tt
other-can most maps [] rest other (inr (w, is)) can = absurd (cc is)
other-can most maps (Maps m ∷ ws) rest other (inr (w, is)) can = absurd other
other-can most maps (Changes r last ∷ ws) rest other (inr (w, is)) can = absurd other
other-can most maps (Same e ∷ ws) rest other (inr (w, is)) can = subst (CanBeCut most [] 0) (ap (drop 1) is) can

module _ {S : Type 0} (to_come : S → List Written) (before after : S) (limit : ℕ) (maps : List Event) where
  pub other-gives : (event : Option WrittenEvent) → YieldsFirstBy written_told to_come before event after → IsOther (to_come before)
      → MatchOption event ((cut_written limit maps [] (to_come before) ≡ []) × (cut_written limit [] [] (to_come after) ≡ []))
      (λ e. cut_written limit maps [] (to_come before) ≡ written_told e ∷ cut_written limit [] [] (to_come after))
  other-gives None (none, left) other = (none-cut limit maps (to_come before) none, none-cut limit [] (to_come after) left)
  other-gives (Some event) first other = other-cut limit maps (to_come before) (written_told event) (to_come after) other first

  pub other-skips : (event : Option SkippedEvent) → Skips to_come before event after → IsOther (to_come before)
      → Skips (λ (ws : List Written). ws) (cut_written limit maps [] (to_come before)) event (cut_written limit [] [] (to_come after))
  other-skips None (none, left) other = (none-cut limit maps (to_come before) none, none-cut limit [] (to_come after) left)
  other-skips (Some event) (w, first, is) other = (w, other-cut limit maps (to_come before) w (to_come after) other first, is)

-- ---- the maps of a statement

-- a map is taken into the statement
pub map-first : (limit : ℕ) (maps : List Event) (m : Event) (ws : List Written) → cut_written limit maps [] (Maps m ∷ ws) ≡ cut_written limit (maps ++ m ∷ []) [] ws
map-first limit maps m ws = ap (λ (es : List Written). es ++ cut_written limit (maps ++ m ∷ []) [] ws) (nothing-written maps)

-- ---- rows events of a piece

-- the first of n + 1 of them, and the others
pub record IsFirst (n rows : ℕ) (ws : List Written) (w : Written) (rest : List Written) : Type 0 where
  pub counted : length (rows_among (take n rest)) ≡ n
  pub written : rows_written (rows_among (take rows ws)) ≡ ending (nat_eq n 0) w ∷ rows_written (rows_among (take n rest))
  pub left : drop rows ws ≡ drop n rest

written-next : (n : ℕ) (r : RowsEvent) (last : Bool) (rest : List Written) → length (rows_among (take n rest)) ≡ n
    → rows_written (rows_among (take (n + 1) (Changes r last ∷ rest))) ≡ Changes r (nat_eq n 0) ∷ rows_written (rows_among (take n rest))
written-next n r last rest counted =
    let others = rows_among (take n rest) in
    ap (λ (m : ℕ). rows_written (rows_among (take m (Changes r last ∷ rest)))) (add-one n) ∙ written-first r others ∙ ap (λ (m : ℕ). Changes r (nat_eq m 0) ∷ rows_written others) counted

pub first-rows : (n rows : ℕ) (ws : List Written) (w : Written) (rest : List Written) → rows ≡ n + 1 → length (rows_among (take rows ws)) ≡ rows → ws ≡ w ∷ rest → IsFirst n rows ws w rest
first-rows n rows ws w rest many counted is =
    let (r, last, behind, here, others) = rows-first n ws (subst (λ (m : ℕ). length (rows_among (take m ws)) ≡ m) many counted) in
    let same : behind ≡ rest = cc (is, here) in
    let first : w ≡ Changes r last = cc (is, here) in
    let all = subst (λ (xs : List Written). length (rows_among (take n xs)) ≡ n) same others in
    record {
      counted = all;
      written = ap₂ (λ (m : ℕ) (xs : List Written). rows_written (rows_among (take m xs))) many (is ∙ ap (λ (v : Written). v ∷ rest) first)
          ∙ written-next n r last rest all ∙ ap (λ (v : Written). ending (nat_eq n 0) v ∷ rows_written (rows_among (take n rest))) (sym first);
      left = ap₂ (λ (m : ℕ) (xs : List Written). drop m xs) many is ∙ ap (λ (m : ℕ). drop m (w ∷ rest)) (add-one n);
    }

-- there is a first one
pub some-rows : (rows : ℕ) (ws : List Written) → 0 < rows → length (rows_among (take rows ws)) ≡ rows → ws ≡ [] → ⊥
some-rows zero ws some counted none = absurd (omega (arith, some))
some-rows (suc n) ws some counted none =
    let (r, last, behind, is, others) = rows-first n ws (subst (λ (m : ℕ). length (rows_among (take m ws)) ≡ m) (sym (add-one n)) counted) in
    absurd (cc (is, none))

-- fewer rows events of an open statement are no more than so many
pub fewer-rows : (most : Most) (maps : List Event) (m n : ℕ) (ws : List Written) → m ≤ n → CanBeCut most maps n ws → CanBeCut most maps m ws
fewer-rows most maps m n [] few can = tt
fewer-rows most maps m n (Same e ∷ ws) few can = can
fewer-rows most maps m n (Maps x ∷ ws) few (id, room, apart, others) = (id, room, apart, fewer-rows most (maps ++ x ∷ []) m n ws few others)
fewer-rows most maps m n (Changes r true ∷ ws) few (id, room, others) = (id, omega (arith, few, room), others)
fewer-rows most maps m n (Changes r false ∷ ws) few (id, room, others) = (id, omega (arith, few, room), fewer-rows most maps (m + 1) (n + 1) ws (omega (arith, few)) others)

-- ---- a piece goes on

-- after a piece, which ends its statement or doesn't
abbrev pub going : ℕ → Bool → List Event → List RowsEvent → List Written → List Written
going limit true maps piece ws = piece_written maps piece ++ cut_written limit [] [] ws
going limit false maps piece ws = cut_written limit maps piece ws

abbrev pub rows_open : Bool → ℕ → ℕ
rows_open true rows = 0
rows_open false rows = rows

-- how many bytes a piece gets by a rows event and the map of this number
abbrev pub gets : List Event → SkippedRows → Option ℕ → ℕ
gets maps skipped number = (19 + skipped.len) + maps_bytes (numbered maps (option_to_list number))

-- the size of a rows event doesn't hang on its end flag
pub size-known : (r : RowsEvent) (rows : SkippedRows) → IsSkippedRows r rows → event_size (rows_event true r) ≡ 19 + rows.len
size-known r rows known = rows_event-size true r ∙ sym (rows_event-size rows.last r) ∙ known.len

-- so the piece has so many more with it
pub gets-more : (maps : List Event) (piece : List RowsEvent) (r : RowsEvent) (skipped : SkippedRows) (number : Option ℕ) → IsSkippedRows r skipped → IsAdded maps piece r number
    → piece_bytes maps (piece ++ r ∷ []) ≡ piece_bytes maps piece + gets maps skipped number
gets-more maps piece r skipped number known is = omega (arith, piece-more maps piece r number is, size-known r skipped known)

-- the piece has room, as it is asked by the bytes that are left
pub room-as-asked : (limit left rows more : ℕ) (maps : List Event) (piece : List RowsEvent) (r : RowsEvent) → length piece ≡ rows → 0 < more → left ≡ limit - piece_bytes maps piece
    → piece_bytes maps (piece ++ r ∷ []) ≡ piece_bytes maps piece + more → has_room limit maps piece r ≡ (nat_eq rows 0 || nat_le more left)
room-as-asked limit left rows more maps [] r counted own is bytes = ap (λ (n : ℕ). nat_eq n 0 || nat_le more left) counted
room-as-asked limit left rows more maps (p ∷ piece) r counted own is bytes = by_case (nat_le more left) refl (room-is limit left more maps (p ∷ piece) r (omega arith) own is bytes)
  where
    by_case : (b : Bool) → nat_le more left ≡ b → (more ≤ left → has_room limit maps (p ∷ piece) r ≡ true) × (left < more → has_room limit maps (p ∷ piece) r ≡ false)
        → has_room limit maps (p ∷ piece) r ≡ (nat_eq rows 0 || b)
    by_case true fits asked = asked.0 (leb-true more left fits) ∙ sym (ap (λ (t : Bool). t || true) (differs rows 0 (λ none. omega (arith, counted, none))))
    by_case false over asked = asked.1 (leb-false more left over) ∙ sym (ap (λ (t : Bool). t || false) (differs rows 0 (λ none. omega (arith, counted, none))))

-- by one more rows event
pub goes-on : (limit : ℕ) (maps : List Event) (piece : List RowsEvent) (r : RowsEvent) (last : Bool) (ws : List Written) → has_room limit maps piece r ≡ true
    → cut_written limit maps piece (Changes r last ∷ ws) ≡ going limit last maps (piece ++ r ∷ []) ws
goes-on limit maps piece r true ws room = joins-last limit maps piece r ws room
goes-on limit maps piece r false ws room = joins-open limit maps piece r ws room

-- what can be cut after it
pub can-go-on : (most : Most) (maps : List Event) (rows : ℕ) (r : RowsEvent) (last : Bool) (ws : List Written) → CanBeCut most maps rows (Changes r last ∷ ws)
    → (length r.content.id ≡ 6) × (rows < most.rows) × CanBeCut most (if last then [] else maps) (rows_open last (rows + 1)) ws
can-go-on most maps rows r true ws can = can
can-go-on most maps rows r false ws can = can

-- its map comes with it, unless the piece uses it already
pub added-one : (maps : List Event) (ids : List MapId) (piece : List RowsEvent) (used : List ℕ) (flags : List Bool) (r : RowsEvent) (skipped : SkippedRows) (found number : Option ℕ)
    → AreMarks maps piece used → AreFlags used flags → AreApart maps → IsTable maps ids → length r.content.id ≡ 6 → IsSkippedRows r skipped → AreBytes (table_id skipped.event.body.now)
    → IsFound ids (id_number (table_id skipped.event.body.now)) found → IsUnmarked flags found number → IsAdded maps piece r number
added-one maps ids piece used flags r skipped found number marks are apart table long known bytes is_found unmarked =
    added-unmarked maps piece used flags marks are r found number
    (number-found maps ids r (id_number (table_id skipped.event.body.now)) found apart table (record { len = long; bytes = subst AreBytes known.id bytes }) (ap id_number known.id) is_found) unmarked

-- or the piece ends: it has no room for the next rows event, as it is asked by what the piece would get
abbrev pub IsFull : Bool → List Event → List RowsEvent → Option SkippedEvent → ℕ → ℕ → Type 0
IsFull is_last maps piece next rows left = (skipped : SkippedRows) (r : RowsEvent) → is_last ≡ false → next ≡ Some (over.Rows skipped) → IsSkippedRows r skipped → length r.content.id ≡ 6
    → (number : Option ℕ) × IsAdded maps piece r number × ((nat_eq rows 0 || nat_le (gets maps skipped number) left) ≡ false)

-- the next one has a table id
abbrev pub NextHasId : List Written → Type 0
NextHasId [] = ⊤
NextHasId (w ∷ ws) = HasId w

pub next-has-id : (most : Most) (maps : List Event) (n : ℕ) (ws : List Written) → CanBeCut most maps n ws → NextHasId ws
next-has-id most maps n [] can = tt
next-has-id most maps n (Same e ∷ ws) can = tt
next-has-id most maps n (Maps m ∷ ws) can = can.0
next-has-id most maps n (Changes r true ∷ ws) can = can.0
next-has-id most maps n (Changes r false ∷ ws) can = can.0

pub ends : (limit left rows : ℕ) (is_last : Bool) (maps : List Event) (piece : List RowsEvent) (next : Option SkippedEvent) (rest others : List Written) → IsAhead next rest others
    → length piece ≡ rows → left ≡ limit - piece_bytes maps piece → NextHasId rest → IsFull is_last maps piece next rows left
    → going limit is_last maps piece rest ≡ piece_written maps piece ++ cut_written limit (if is_last then [] else maps) [] rest
ends limit left rows true maps piece next rest others ahead counted is long full = refl
ends limit left rows false maps piece None rest others (none, also) counted is long full =
    subst (λ (ws : List Written). cut_written limit maps piece ws ≡ piece_written maps piece ++ cut_written limit maps [] ws) (sym none) (stops-none limit maps piece)
ends limit left rows false maps piece (Some (over.Begin event)) rest others (w, first, same) counted is long full =
    subst (λ (ws : List Written). cut_written limit maps piece ws ≡ piece_written maps piece ++ cut_written limit maps [] ws) (sym (first ∙ ap (λ (v : Written). v ∷ others) same)) (stops-same limit maps piece _ others)
ends limit left rows false maps piece (Some (over.Map event)) rest others (w, first, same) counted is long full =
    subst (λ (ws : List Written). cut_written limit maps piece ws ≡ piece_written maps piece ++ cut_written limit maps [] ws) (sym (first ∙ ap (λ (v : Written). v ∷ others) same)) (stops-maps limit maps piece _ others)
ends limit left rows false maps piece (Some (over.Rows skipped)) rest others (w, first, (r, same, known)) counted is long full =
    let here = first ∙ ap (λ (v : Written). v ∷ others) same in
    let (number, added, over_full) = full skipped r refl refl known (subst NextHasId here long) in
    subst (λ (ws : List Written). cut_written limit maps piece ws ≡ piece_written maps piece ++ cut_written limit maps [] ws) (sym here)
    (stops-full limit maps piece r skipped.last others (room-as-asked limit left rows (gets maps skipped number) maps piece r counted (omega arith) is (gets-more maps piece r skipped number known added) ∙ over_full))
ends limit left rows false maps piece (Some (over.End event)) rest others (w, first, same) counted is long full =
    subst (λ (ws : List Written). cut_written limit maps piece ws ≡ piece_written maps piece ++ cut_written limit maps [] ws) (sym (first ∙ ap (λ (v : Written). v ∷ others) same)) (stops-same limit maps piece _ others)

-- neither of two is so
pub neither-is : (a b : Bool) → (a || b) ≡ false → a ≡ false
neither-is true b none = none
neither-is false b none = refl

-- it has some
pub is-some : (rows : ℕ) (is_last : Bool) (next : Option SkippedEvent) → (rows ≡ 0 → (skipped : SkippedRows) × (next ≡ Some (over.Rows skipped))) → (rows ≡ 0 → is_last ≡ false)
    → ((skipped : SkippedRows) → is_last ≡ false → next ≡ Some (over.Rows skipped) → nat_eq rows 0 ≡ false) → 0 < rows
is-some zero is_last next some not_last stops = let (skipped, is) = some refl in absurd (false≢true (sym (stops skipped (not_last refl) is)))
is-some (suc n) is_last next some not_last stops = omega arith
