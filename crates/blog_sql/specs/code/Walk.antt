-- Written events as SQL, as they come: what is left to be printed.
use Rattle.std.specs.Prelude.{◌≡◌, ℕ, ◌+◌, ◌≤◌, Bool, true, false, not, if◌then◌else◌, List, [], ◌∷◌, ◌++◌, length, map, codes, Option, vec_len, vec_capacity}
use Rattle.std.specs.Io.KnownBytes.{Appends}
use Rattle.blog_event.specs.Event.{Event, event_size}
use Rattle.blog_device.specs.Devices.{AppendsBeginning}
use Rattle.blog_flash.specs.Printed.{line}
use Rattle.blog_flash.specs.Texts.{rows_event}
use Rattle.blog_flash.specs.Written.{Written, Same, Maps, Changes}
use Rattle.blog_flash.specs.code.LaidOut.{text_from}
use Rattle.blog_sql.specs.Changed.{changed}
use Rattle.blog_sql.specs.Sql.{base64_lines, begin_lines, count_errors, end_lines, head_sql, tail_sql}
use Rattle.blog_sql.specs.declared.options.SqlOptions.{SqlOptions}
use Rattle.blog_sql.specs.declared.output.Output.{Output}

-- before the first event of a statement
abbrev pub opening : Bool → List ℕ
opening true = []
opening false = line (codes "BINLOG '")

-- after the last one, of which these bytes are left
abbrev pub closing : Bool → List ℕ → List ℕ
closing true held = base64_lines held ++ (line (codes "';") ++ count_errors)
closing false held = []

-- at the begin or at the end of a transaction
abbrev pub edge : Bool → Bool → List ℕ
edge each inside = if each then (if inside then end_lines else begin_lines) else []

-- what is printed for events: inside of a transaction or not, from this position on, with a statement open or not, of which
-- these bytes are left
abbrev pub left : Bool → Bool → ℕ → Bool → List ℕ → List Written → List ℕ
left each inside pos begun held [] = closing begun held
left each inside pos begun held (Same e ∷ ws) = closing begun held ++ (edge each inside ++ left each (not inside) (pos + event_size e) false [] ws)
left each inside pos begun held (Maps m ∷ ws) = opening begun ++ left each inside (pos + event_size m) true (held ++ text_from pos (m ∷ [])) ws
left each inside pos begun held (Changes r false ∷ ws) =
    opening begun ++ left each inside (pos + event_size (rows_event false r)) true (held ++ text_from pos (rows_event false r ∷ [])) ws
left each inside pos begun held (Changes r true ∷ ws) =
    opening begun ++ (closing true (held ++ text_from pos (rows_event true r ∷ [])) ++ left each inside (pos + event_size (rows_event true r)) false [] ws)

-- after the format description
abbrev pub after_format : Bool → List ℕ
after_format each =
    line (codes "';") ++ (line (codes "/*!50700 SET @@SESSION.GTID_NEXT='AUTOMATIC' */;") ++ (if each then line (codes "SET @undo_end = 'COMMIT';") else begin_lines))

-- the whole
abbrev pub walk_sql : SqlOptions → List ℕ → List Written → List ℕ
walk_sql how front ws =
    let each = how.each_transaction in
    head_sql each front ++ (left each false (length front) false [] (map (changed how) ws) ++ tail_sql each)

-- ---- what a contract sees of the output

abbrev pub left_of : {A : Type 0} → Output A → List Written → List ℕ
left_of out ws = left out.each_transaction out.is_inside out.pos out.is_open out.held.items ws

-- it has room for events up to this size
pub record HasRoom {A : Type 0} (largest : ℕ) (out : Output A) : Type 0 where
  pub held : vec_len out.held ≤ 56
  pub within : vec_len out.held ≤ out.pos
  pub room : 56 + largest ≤ vec_capacity out.held
  pub chunk : 512 ≤ vec_capacity out.chunk

-- an event was printed
pub record Prints {A : Type 0} (had has : Option (List ℕ)) (before : Output A) (w : Written) (after : Output A) : Type 0 where
  pub done : List ℕ
  pub written : Appends had has done
  pub text : (ws : List Written) → done ++ (after.chunk.items ++ left_of after ws) ≡ before.chunk.items ++ left_of before (w ∷ ws)

-- or a beginning of what is left
abbrev pub PrintsBeginning : {A : Type 0} → Option (List ℕ) → Option (List ℕ) → Output A → Written → Type 0
PrintsBeginning had has before w = (ws : List Written) → AppendsBeginning had has (before.chunk.items ++ left_of before (w ∷ ws))

-- what is left with this event, which is inside of a statement, before the others
abbrev pub left_with : {A : Type 0} → Output A → Event → List Written → List ℕ
left_with before e ws =
    opening before.is_open ++ left before.each_transaction before.is_inside (before.pos + event_size e) true (before.held.items ++ text_from before.pos (e ∷ [])) ws

-- it was printed
pub record PrintsInside {A : Type 0} (had has : Option (List ℕ)) (before : Output A) (e : Event) (after : Output A) : Type 0 where
  pub done : List ℕ
  pub written : Appends had has done
  pub text : (ws : List Written) → done ++ (after.chunk.items ++ left_of after ws) ≡ before.chunk.items ++ left_with before e ws
  pub begun : after.is_open ≡ true
  pub same : after.is_inside ≡ before.is_inside
  pub each : after.each_transaction ≡ before.each_transaction

abbrev pub BeginsInside : {A : Type 0} → Option (List ℕ) → Option (List ℕ) → Output A → Event → Type 0
BeginsInside had has before e = (ws : List Written) → AppendsBeginning had has (before.chunk.items ++ left_with before e ws)

-- nothing is printed yet
pub record IsNew {A : Type 0} (how : SqlOptions) (front : List ℕ) (out : Output A) : Type 0 where
  pub chunk : out.chunk.items ≡ []
  pub each : out.each_transaction ≡ how.each_transaction
  pub inside : out.is_inside ≡ false
  pub pos : out.pos ≡ length front
  pub begun : out.is_open ≡ false
  pub held : out.held.items ≡ []
