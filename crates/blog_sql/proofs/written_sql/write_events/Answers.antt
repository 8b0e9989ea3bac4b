use Rattle.std.proofs.Common.{ℕ, ◌≤◌, ◌++◌, List, vec_capacity, [], false, length, map, refl, ap, subst, arith}
use Rattle.std.proofs.lemmas.Result.{err_from_is_err_and, on_err_weaker}
use Rattle.blog_device.specs.Devices.{AppendsBeginning}
use Rattle.blog_device.specs.Watched.{device_of}
use Rattle.blog_event.specs.File.{end_of}
use Rattle.blog_flash.specs.Written.{event_written}
use Rattle.blog_sql.specs.Changed.{changed}
use Rattle.blog_sql.specs.Sql.{head_sql, tail_sql}
use Rattle.blog_sql.specs.code.Adding.{Adds}
use Rattle.blog_sql.specs.code.Walk.{left}
use Rattle.blog_sql.proofs.Adding.{adds-broken}
use Rattle.blog_sql.proofs.Walking.{longer}
use Rattle.blog_sql.proofs.Whole.{chunk-room, chunk-rooms, new-left}
use Rattle.blog_sql.proofs.written_sql.write_events.Goals as goal

pub returns-in_err-put_head-clause-beginning : goal.returns-in_err-put_head-clause-beginning
returns-in_err-put_head-clause-beginning g c =
    let had = g.W.Write.contents (device_of c.args.writer.now) in
    let has = g.W.Write.contents (device_of c.put_head.new.writer) in
    let how = c.args.how.now in
    let each = how.each_transaction in
    let front = c.args.front.now in
    let ws = map (changed how) (g.E.WrittenEvents.to_come c.args.events.now) in
    let events = left each false (length front) false [] ws in
    let whole = head_sql each front ++ (events ++ tail_sql each) in
    let p = err_from_is_err_and c.from_residual.result c.from_residual.ensures.1 in
    rw p.1 (subst (λ (x : List ℕ). AppendsBeginning had has (x ++ whole)) c.requires.is_new.chunk
    (longer had has c.args.out.now.chunk.items (head_sql each front) (events ++ tail_sql each) c.in_err-put_head.ensures.beginning))

pub put_events-requires : goal.put_events-requires
put_events-requires g c k =
    let out = c.args.out.now in
    let how = c.args.how.now in
    let room : 512 ≤ vec_capacity c.put_head.new.chunk = omega (arith, c.requires.ready.chunk, c.in_ok-put_head.ensures.capacity) in
    let es = map event_written (map (changed how) (g.E.WrittenEvents.to_come c.args.events.now)) in
    let end = ap (λ (n : ℕ). end_of n es) c.requires.is_new.pos in
    ((refl, tt), (c.requires.events, (c.requires.names, (chunk-room 0 out c.put_head.new.chunk room c.requires.ready, (chunk-rooms out c.put_head.new.chunk es room c.requires.room, omega (arith, end, c.requires.short))))))

pub returns-in_err-put_events-clause-beginning : goal.returns-in_err-put_events-clause-beginning
returns-in_err-put_events-clause-beginning g c =
    let had = g.W.Write.contents (device_of c.args.writer.now) in
    let has = g.W.Write.contents (device_of c.put_head.new.writer) in
    let now = g.W.Write.contents (device_of c.put_events.new.writer) in
    let how = c.args.how.now in
    let each = how.each_transaction in
    let front = c.args.front.now in
    let ws = map (changed how) (g.E.WrittenEvents.to_come c.args.events.now) in
    let events = left each false (length front) false [] ws in
    let whole = head_sql each front ++ (events ++ tail_sql each) in
    let x = c.args.out.now.chunk.items in
    let y = c.put_head.new.chunk.items in
    let broken = subst (λ (text : List ℕ). AppendsBeginning has now (y ++ text)) (new-left how front c.args.out.now ws c.requires.is_new) c.in_err-put_events.ensures.beginning in
    let p = err_from_is_err_and c.from_residual-in_err-put_events.result c.from_residual-in_err-put_events.ensures.1 in
    rw p.1 (subst (λ (b : List ℕ). AppendsBeginning had now (b ++ whole)) c.requires.is_new.chunk
    (adds-broken had has now x y (head_sql each front) (events ++ tail_sql each) c.in_ok-put_head.ensures.adds (longer has now y events (tail_sql each) broken)))

pub returns-clause-beginning : goal.returns-clause-beginning
returns-clause-beginning g c =
    let had = g.W.Write.contents (device_of c.args.writer.now) in
    let has = g.W.Write.contents (device_of c.put_head.new.writer) in
    let now = g.W.Write.contents (device_of c.put_events.new.writer) in
    let last = g.W.Write.contents (device_of c.put_tail.new.writer) in
    let how = c.args.how.now in
    let each = how.each_transaction in
    let front = c.args.front.now in
    let ws = map (changed how) (g.E.WrittenEvents.to_come c.args.events.now) in
    let events = left each false (length front) false [] ws in
    let whole = head_sql each front ++ (events ++ tail_sql each) in
    let x = c.args.out.now.chunk.items in
    let y = c.put_head.new.chunk.items in
    let z = c.put_events.new.out.chunk.items in
    let second = subst (Adds has now y z) (new-left how front c.args.out.now ws c.requires.is_new) c.in_ok-put_events.ensures.adds in
    on_err_weaker c.put_tail.result (λ broken. subst (λ (b : List ℕ). AppendsBeginning had last (b ++ whole)) c.requires.is_new.chunk
    (adds-broken had has last x y (head_sql each front) (events ++ tail_sql each) c.in_ok-put_head.ensures.adds (adds-broken has now last y z events (tail_sql each) second broken))) c.put_tail.ensures.beginning
