-- What a contract sees of events whose statements are cut.
use Rattle.std.specs.Prelude.{◌≡◌, ℕ, ◌+◌, ◌-◌, ◌<◌, ◌≤◌, ◌||◌, nat_eq, nat_le, Bool, true, false, vec_len, List, [], ◌∷◌, ◌++◌, length, map, drop, take, if◌then◌else◌, Option, Some, MatchOption, option_to_list}
use Rattle.std.specs.List.{All}
use Rattle.std.specs.Iterator.{YieldsFirstBy}
use Rattle.blog_event.specs.declared.event.Event as told
use Rattle.blog_event.specs.Event.{Event}
use Rattle.blog_event.specs.File.{AreBytes}
use Rattle.blog_row.specs.RowsEvent.{table_id}
use Rattle.blog_trans.specs.declared.group_events.SkippedEvent.{SkippedEvent}
use Rattle.blog_trans.specs.declared.group_events.SkippedEvent.TheVariants as over
use Rattle.blog_trans.specs.declared.group_events.SkippedRows.{SkippedRows}
use Rattle.blog_flash.specs.Written.{Written, Maps, rows_written}
use Rattle.blog_flash.specs.code.Skipping.{IsSkipped}
use Rattle.blog_flash.specs.code.WrittenView.{written_told}
use Rattle.blog_flash.specs.declared.written_event.WrittenEvent.{WrittenEvent}
use Rattle.blog_split.specs.Cuts.{maps_bytes}
use Rattle.blog_split.specs.code.CutWritten.{CanBeCut, cut_written, piece_written, rows_among}
use Rattle.blog_split.specs.declared.cut_events.Coming.{Coming}
use Rattle.blog_split.specs.declared.cut_events.Coming.TheVariants as coming
use Rattle.blog_split.specs.declared.cut_events.CutEvents.{CutEvents}
use Rattle.blog_split.specs.declared.cut_events.Joining.{Joining}
use Rattle.blog_split.specs.code.Marks.{AreMarks, IsFound, IsUnmarked, event_told, id_number, numbered}

-- the next event was skipped, and the others are left; or there is none
abbrev pub IsAhead : Option SkippedEvent → List Written → List Written → Type 0
IsAhead next ws others = MatchOption next ((ws ≡ []) × (others ≡ [])) (λ event. (w : Written) × (ws ≡ w ∷ others) × IsSkipped event w)

-- the maps by which later rows events can go: none where the open piece ends its statement
abbrev pub maps_left : Bool → List told.Event → List Event
maps_left is_last maps = if is_last then [] else map event_told maps

-- the events that are still to come: what the open piece has left, and the others as they are cut
abbrev pub cut_to_come : {E A : Type 0} → (E → List Written) → CutEvents E A → List Written
cut_to_come to_come cut =
    map Maps (numbered (map event_told cut.maps.items) (drop cut.given cut.used.items)) ++ (rows_written (rows_among (take cut.rows (to_come cut.events)))
    ++ cut_written cut.limit (maps_left cut.is_last cut.maps.items) [] (drop cut.rows (to_come cut.events)))

-- the source and the walk ahead of it agree, and the other events can be cut
pub record IsSound {E A : Type 0} (can_next : E → Type 0) (to_come : E → List Written) (cut : CutEvents E A) : Type 0 where
  pub events : can_next cut.events
  pub ahead : can_next cut.ahead
  pub counted : length (rows_among (take cut.rows (to_come cut.events))) ≡ cut.rows
  pub next : IsAhead cut.next (drop cut.rows (to_come cut.events)) (to_come cut.ahead)
  pub can_be_cut : CanBeCut cut.most (maps_left cut.is_last cut.maps.items) 0 (drop cut.rows (to_come cut.events))
  pub used : All (λ n. n < length cut.maps.items) cut.used.items

-- a step gives the first event that is left, and none where none is
pub record GivesCut {E A : Type 0} (to_come : E → List Written) (before : CutEvents E A) (event : Option WrittenEvent) (after : CutEvents E A) : Type 0 where
  pub first : YieldsFirstBy written_told (cut_to_come to_come) before event after

-- a map
pub record GivesMap {E A : Type 0} (to_come : E → List Written) (before : CutEvents E A) (event : told.Event) (after : CutEvents E A) : Type 0 where
  pub first : cut_to_come to_come before ≡ Maps (event_told event) ∷ cut_to_come to_come after

-- the event that was skipped is a map, or a rows event
abbrev pub HasMap : {E A : Type 0} → CutEvents E A → told.Event → Type 0
HasMap cut event = cut.next ≡ Some (over.Map event)

abbrev pub HasRows : {E A : Type 0} → CutEvents E A → Type 0
HasRows cut = (rows : SkippedRows) × (cut.next ≡ Some (over.Rows rows))

-- the open piece has nothing left
pub record IsThrough {E A : Type 0} (cut : CutEvents E A) : Type 0 where
  pub maps : vec_len cut.used ≤ cut.given
  pub rows : cut.rows ≡ 0

-- what comes next is there
abbrev pub IsReady : {E A : Type 0} → CutEvents E A → Coming → Type 0
IsReady cut coming.Map = cut.given < vec_len cut.used
IsReady cut coming.Rows = (vec_len cut.used ≤ cut.given) × (0 < cut.rows)
IsReady cut coming.Other = IsThrough cut × ((event : told.Event) → HasMap cut event → ⊥) × (HasRows cut → ⊥)

-- the map that comes with a rows event: it goes by the map, which the open piece doesn't use yet
pub record ComesWith {E A : Type 0} (cut : CutEvents E A) (rows : SkippedRows) (number : Option ℕ) : Type 0 where
  pub found : Option ℕ
  pub bytes : AreBytes (table_id rows.event.body.now)
  pub is_found : IsFound cut.ids.items (id_number (table_id rows.event.body.now)) found
  pub is_new : IsUnmarked cut.flags.items found number

-- how many bytes the open piece gets by a rows event and the map of this number
abbrev pub added : {E A : Type 0} → CutEvents E A → SkippedRows → Option ℕ → ℕ
added cut rows number = (19 + rows.len) + maps_bytes (numbered (map event_told cut.maps.items) (option_to_list number))

-- it takes them, where so many bytes are left to its limit
abbrev pub takes : {E A : Type 0} → CutEvents E A → ℕ → SkippedRows → Option ℕ → Bool
takes cut left rows number = nat_eq cut.rows 0 || nat_le (added cut rows number) left

-- it goes on with the next event
pub record GoesOn {E A : Type 0} (cut : CutEvents E A) (left : ℕ) (joining : Joining) : Type 0 where
  pub same_statement : cut.is_last ≡ false
  pub next : cut.next ≡ Some (over.Rows joining.rows)
  pub comes : ComesWith cut joining.rows joining.map
  pub room : takes cut left joining.rows joining.map ≡ true
  pub rest : joining.left ≡ left - added cut joining.rows joining.map

-- it doesn't
abbrev pub Stops : {E A : Type 0} → CutEvents E A → ℕ → Type 0
Stops cut left = (rows : SkippedRows) → cut.is_last ≡ false → cut.next ≡ Some (over.Rows rows)
    → (number : Option ℕ) × ComesWith cut rows number × (takes cut left rows number ≡ false)

-- the rows events of the next piece are ahead, and their maps are marked
pub record MarksPiece {E A : Type 0} (to_come : E → List Written) (before after : CutEvents E A) : Type 0 where
  pub limit : after.limit ≡ before.limit
  pub events : after.events ≡ before.events
  pub maps : after.maps ≡ before.maps
  pub given : after.given ≡ before.given
  pub some : 0 < after.rows
  pub marks : AreMarks (map event_told before.maps.items) (rows_among (take after.rows (to_come before.events))) after.used.items
  pub cut : cut_written before.limit (map event_told before.maps.items) [] (to_come before.events)
      ≡ piece_written (map event_told before.maps.items) (rows_among (take after.rows (to_come before.events)))
      ++ cut_written before.limit (maps_left after.is_last before.maps.items) [] (drop after.rows (to_come before.events))
