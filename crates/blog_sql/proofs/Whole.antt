-- The text as a whole: what is before the events, the events, and what is after them.
use Rattle.std.proofs.Common.{◌≡◌, ℕ, Bool, true, false, not, ◌≤◌, List, [], ◌∷◌, ◌++◌, length, drop, Option, Vec, vec_capacity, Result, Ok, Err, OnOk, OnErr, IfErr, codes, refl, sym, ap, subst, ◌∙◌, append_assoc, arith}
use Rattle.std.specs.List.{AllByRecursion}
use Rattle.blog_event.specs.Event.{Event, event_size}
use Rattle.std.specs.Io.KnownBytes.{Appends}
use Rattle.std.proofs.KnownBytes.{Appends-trans}
use Rattle.blog_device.specs.Devices.{AppendsBeginning}
use Rattle.blog_device.specs.declared.fault.RunFault.{RunFault}
use Rattle.blog_device.specs.declared.fault.RunFault.TheVariants as run
use Rattle.blog_flash.specs.Printed.{line}
use Rattle.blog_flash.specs.Runs.{IsWritten}
use Rattle.blog_flash.specs.Written.{Written}
use Rattle.blog_flash.proofs.WritingOut.{IsOnTheWay}
use Rattle.blog_sql.specs.Sql.{base64_lines, head_sql, tail_sql}
use Rattle.blog_sql.specs.code.Adding.{Adds}
use Rattle.blog_sql.specs.code.Walk.{HasRoom, IsNew, Prints, after_format, edge, left, left_of}
use Rattle.blog_sql.specs.declared.options.SqlOptions.{SqlOptions}
use Rattle.blog_sql.specs.declared.output.Output.{Output}
use Rattle.blog_sql.proofs.Walking.{same-left}

-- ---- what is before the events and after them

abbrev pub first_lines : List ℕ
first_lines = line (codes "-- flashback 0.1.0") ++ (line (codes "SET @undo_errors = 0;") ++ line (codes "BINLOG '"))

abbrev pub last_line : List ℕ
last_line = line (codes "SELECT @undo_end AS ended_with, @undo_errors AS errors;")

pub head-parts : (each : Bool) (front : List ℕ) → first_lines ++ (base64_lines (drop 4 front) ++ after_format each) ≡ head_sql each front
unfolding head_sql
head-parts true front =
    let ends : List ℕ = line (codes "';") in
    let more : List ℕ = line (codes "/*!50700 SET @@SESSION.GTID_NEXT='AUTOMATIC' */;") ++ line (codes "SET @undo_end = 'COMMIT';") in
    ap (λ (text : List ℕ). first_lines ++ text) (sym (append_assoc (base64_lines (drop 4 front)) ends more))
head-parts false front =
    let ends : List ℕ = line (codes "';") in
    let more : List ℕ = line (codes "/*!50700 SET @@SESSION.GTID_NEXT='AUTOMATIC' */;") ++ line (codes "BEGIN;") in
    ap (λ (text : List ℕ). first_lines ++ text) (sym (append_assoc (base64_lines (drop 4 front)) ends more))

pub tail-parts : (each : Bool) → edge (not each) true ++ last_line ≡ tail_sql each
unfolding tail_sql
tail-parts true = refl
tail-parts false = refl

-- ---- what was added is written

-- a text was added, and then all was written
pub adds-written : (had has now : Option (List ℕ)) (a b s t : List ℕ) → Adds had has a b s → Appends has now (b ++ t) → Appends had now (a ++ (s ++ t))
adds-written had has now a b s t (done, written, all) later =
    subst (Appends had now) (sym (append_assoc done b t) ∙ ap (λ (bytes : List ℕ). bytes ++ t) all ∙ append_assoc a s t) (Appends-trans had has now done (b ++ t) written later)

-- all of it
pub all-written : (had has now : Option (List ℕ)) (a b s : List ℕ) → Adds had has a b s → Appends has now b → Appends had now (a ++ s)
all-written had has now a b s (done, written, all) later = subst (Appends had now) all (Appends-trans had has now done b written later)

-- or a beginning
pub all-broken : (had has now : Option (List ℕ)) (a b s : List ℕ) → Adds had has a b s → AppendsBeginning has now b → AppendsBeginning had now (a ++ s)
all-broken had has now a b s (done, written, all) (front, rest, split, later) =
    (done ++ front, rest, sym all ∙ ap (λ (bytes : List ℕ). done ++ bytes) split ∙ sym (append_assoc done front rest), Appends-trans had has now done front written later)

-- ---- the events

-- one is printed
pub way-prints : {A : Type 0} (had has now : Option (List ℕ)) (text : List ℕ) (before after : Output A) (w : Written) (ws rest : List Written)
    → IsOnTheWay had has text (before.chunk.items ++ left_of before ws) → ws ≡ w ∷ rest → Prints has now before w after → IsOnTheWay had now text (after.chunk.items ++ left_of after rest)
way-prints had has now text before after w ws rest way first prints = record {
  done = way.done ++ prints.done;
  written = Appends-trans had has now way.done prints.done way.written prints.written;
  all = append_assoc way.done prints.done (after.chunk.items ++ left_of after rest)
      ∙ ap (λ (bytes : List ℕ). way.done ++ bytes) (prints.text rest ∙ ap (λ (xs : List Written). before.chunk.items ++ left_of before xs) (sym first)) ∙ way.all;
}

-- or a beginning of what is left is written
pub way-begun : (had has now : Option (List ℕ)) (text more : List ℕ) → IsOnTheWay had has text more → AppendsBeginning has now more → AppendsBeginning had now text
way-begun had has now text more way (front, rest, split, later) =
    (way.done ++ front, rest, sym way.all ∙ ap (λ (bytes : List ℕ). way.done ++ bytes) split ∙ sym (append_assoc way.done front rest), Appends-trans had has now way.done front way.written later)

-- at last none is left
pub way-closed : (had has now : Option (List ℕ)) (x y z s t : List ℕ) → IsOnTheWay had has (x ++ s) (y ++ t) → Adds has now y z t → Adds had now x z s
way-closed had has now x y z s t way (more, written, all) =
    (way.done ++ more, Appends-trans had has now way.done more way.written written, append_assoc way.done more z ∙ ap (λ (bytes : List ℕ). way.done ++ bytes) all ∙ way.all)

-- ---- the whole

-- what is left where nothing is printed yet
pub new-left : {A : Type 0} (how : SqlOptions) (front : List ℕ) (out : Output A) (ws : List Written) → IsNew how front out → left_of out ws ≡ left how.each_transaction false (length front) false [] ws
new-left how front out ws new = same-left _ _ _ _ _ _ _ _ _ _ ws new.each new.inside new.pos new.begun new.held

-- what comes of writing it
pub is-written : (had has : Option (List ℕ)) (text : List ℕ) (r : Result Unit RunFault) → OnOk r (Appends had has text) → OnErr r (AppendsBeginning had has text) → IfErr r (λ e. e ≡ run.Write) → IsWritten had has text r
is-written had has text (Ok done) all begun fault = all
is-written had has text (Err (run.Log f)) all begun fault = cc
is-written had has text (Err run.Read) all begun fault = cc
is-written had has text (Err run.Write) all begun fault = begun

-- ---- room

-- another chunk with room
pub chunk-room : {A : Type 0} (n : ℕ) (out : Output A) (chunk : Vec ℕ A) → 512 ≤ vec_capacity chunk → HasRoom n out → HasRoom n (record out { chunk = chunk })
chunk-room n out chunk room h = record { held = h.held; within = h.within; room = h.room; chunk = room }

pub chunk-rooms : {A : Type 0} (out : Output A) (chunk : Vec ℕ A) (es : List Event) → 512 ≤ vec_capacity chunk → AllByRecursion (λ e. HasRoom (event_size e) out) es
    → AllByRecursion (λ e. HasRoom (event_size e) (record out { chunk = chunk })) es
chunk-rooms out chunk [] room all = tt
chunk-rooms out chunk (e ∷ es) room (h, all) = (chunk-room (event_size e) out chunk room h, chunk-rooms out chunk es room all)

-- room for the largest event is room for each
pub each-room : {A : Type 0} (out : Output A) (largest : ℕ) (es : List Event) → HasRoom largest out → AllByRecursion (λ e. event_size e ≤ largest) es → AllByRecursion (λ e. HasRoom (event_size e) out) es
each-room out largest [] h all = tt
each-room out largest (e ∷ es) h (small, all) = (record { held = h.held; within = h.within; room = omega (arith, h.room, small); chunk = h.chunk }, each-room out largest es h all)
