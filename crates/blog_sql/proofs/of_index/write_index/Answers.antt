use Rattle.std.proofs.Common.{ℕ, ◌≤◌, List, [], Err, length, map, refl, sym, ap, ap₂, subst, ◌∙◌, arith}
use Rattle.blog_device.specs.Watched.{device_of}
use Rattle.blog_event.specs.Event.{Event}
use Rattle.blog_event.specs.File.{end_of}
use Rattle.blog_trans.specs.Groups.{groups}
use Rattle.blog_trans.specs.code.IndexView.{index_bytes, index_selection}
use Rattle.blog_flash.specs.Runs.{IsWritten}
use Rattle.blog_flash.specs.Written.{Written, event_written}
use Rattle.blog_flash.specs.code.LaidOut.{groups_in}
use Rattle.blog_flash.specs.code.Measured.{AreWithin}
use Rattle.blog_split.specs.Putting.{Refuses}
use Rattle.blog_sql.specs.Changed.{changed}
use Rattle.blog_sql.specs.OfIndex.{cut_of, front_of, printed_end}
use Rattle.blog_sql.specs.Sql.{sql_text}
use Rattle.blog_sql.proofs.OfIndex.{changed-events, cut-have, ends-there, front-is, front-long}
use Rattle.blog_sql.proofs.of_index.write_index.Goals as goal

pub returns-in-Err-clause-printed : goal.returns-in-Err-clause-printed
returns-in-Err-clause-printed g c =
    let index = c.args.index.now in
    let ts = cut_of c.args.order c.args.limit (index_bytes index) (index_selection index) in
    let same = front-is c.front-front.result.now (front_of (index_bytes index) (index_selection index)) (c.front-front.ensures.any []) in
    subst (λ (n : ℕ). Refuses n c.in-Err.fault) (ap₂ (λ (n : ℕ) (es : List Event). end_of n es) (ap length same) (changed-events c.args.how.now ts)) c.in-Err.ensures

pub write_sql-requires : goal.write_sql-requires
write_sql-requires g c k =
    let index = c.args.index.now in
    let how = c.args.how.now in
    let same = front-is c.front-front.result.now (front_of (index_bytes index) (index_selection index)) (c.front-front.ensures.any []) in
    let long = subst (λ (front : List ℕ). 4 ≤ length front) (sym same) (front-long (index_bytes index) (index_selection index) index.accepted) in
    let left = ap (λ (ws : List Written). map event_written (map (changed how) ws)) c.in-Ok-cut_groups_of.ensures.left in
    let has = c.in-Ok.ensures.0 in
    let within = subst (λ (es : List Event). AreWithin (length c.front-front.result.now) es c.in-Ok.sizes) (sym left) (record { short = omega (arith, has.len, has.short); each = has.each }) in
    ((refl, tt), (c.in-Ok-cut_groups_of.ensures.sound, (c.requires, (long, (within, c.in-Ok.ensures.1)))))

pub returns-in-Ok-write_sql-clause-printed : goal.returns-in-Ok-write_sql-clause-printed
returns-in-Ok-write_sql-clause-printed g c =
    let index = c.args.index.now in
    let had = g.W.Write.contents (device_of c.args.writer.now) in
    let has = g.W.Write.contents (device_of c.write_sql.new.writer) in
    let ts = cut_of c.args.order c.args.limit (index_bytes index) (index_selection index) in
    let same = front-is c.front-front.result.now (front_of (index_bytes index) (index_selection index)) (c.front-front.ensures.any []) in
    let written = c.write_sql.ensures.written ts c.in-Ok-cut_groups_of.ensures.left (cut-have c.args.limit (groups_in c.args.order (groups (index_bytes index) (index_selection index)))) in
    let whole = subst (λ (front : List ℕ). IsWritten had has (sql_text c.args.how.now front ts) c.write_sql.result) same written in
    let fits = ends-there c.args.how.now c.front-front.result.now (front_of (index_bytes index) (index_selection index)) ts c.in-Ok.sizes same c.in-Ok.ensures.0 in
    (subst (IsWritten had has (sql_text c.args.how.now (front_of (index_bytes index) (index_selection index)) ts)) c.in-Ok-write_sql.is whole, fits)

pub returns-in-Err-Log-clause-printed : goal.returns-in-Err-Log-clause-printed
returns-in-Err-Log-clause-printed g c =
    let index = c.args.index.now in
    let had = g.W.Write.contents (device_of c.args.writer.now) in
    let has = g.W.Write.contents (device_of c.write_sql.new.writer) in
    let ts = cut_of c.args.order c.args.limit (index_bytes index) (index_selection index) in
    let written = c.write_sql.ensures.written ts c.in-Ok-cut_groups_of.ensures.left (cut-have c.args.limit (groups_in c.args.order (groups (index_bytes index) (index_selection index)))) in
    subst (IsWritten had has (sql_text c.args.how.now c.front-front.result.now ts)) (c.in-Err-Log.is ∙ ap Err c.in-Err-Log.field-0-is) written

pub returns-in-Err-Write-clause-printed : goal.returns-in-Err-Write-clause-printed
returns-in-Err-Write-clause-printed g c =
    let index = c.args.index.now in
    let had = g.W.Write.contents (device_of c.args.writer.now) in
    let has = g.W.Write.contents (device_of c.write_sql.new.writer) in
    let ts = cut_of c.args.order c.args.limit (index_bytes index) (index_selection index) in
    let same = front-is c.front-front.result.now (front_of (index_bytes index) (index_selection index)) (c.front-front.ensures.any []) in
    let written = c.write_sql.ensures.written ts c.in-Ok-cut_groups_of.ensures.left (cut-have c.args.limit (groups_in c.args.order (groups (index_bytes index) (index_selection index)))) in
    let whole = subst (λ (front : List ℕ). IsWritten had has (sql_text c.args.how.now front ts) c.write_sql.result) same written in
    let fits = ends-there c.args.how.now c.front-front.result.now (front_of (index_bytes index) (index_selection index)) ts c.in-Ok.sizes same c.in-Ok.ensures.0 in
    (subst (IsWritten had has (sql_text c.args.how.now (front_of (index_bytes index) (index_selection index)) ts)) (c.in-Err-Write.is ∙ ap Err c.in-Err-Write.field-0-is) whole, fits)

pub unreachable-requires : goal.unreachable-requires
unreachable-requires g c =
    let index = c.args.index.now in
    let had = g.W.Write.contents (device_of c.args.writer.now) in
    let has = g.W.Write.contents (device_of c.write_sql.new.writer) in
    let ts = cut_of c.args.order c.args.limit (index_bytes index) (index_selection index) in
    let written = c.write_sql.ensures.written ts c.in-Ok-cut_groups_of.ensures.left (cut-have c.args.limit (groups_in c.args.order (groups (index_bytes index) (index_selection index)))) in
    subst (IsWritten had has (sql_text c.args.how.now c.front-front.result.now ts)) (c.in-Err-Read.is ∙ ap Err c.in-Err-Read.field-0-is) written
