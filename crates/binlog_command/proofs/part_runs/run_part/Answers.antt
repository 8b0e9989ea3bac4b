use Rattle.std.proofs.Common.{List, ℕ, subst}
use Rattle.std.specs.Io.KnownBytes.{Appends}
use Rattle.std.proofs.lemmas.Result.{on_ok_weaker}
use Rattle.blog_device.specs.Watched.{device_of}
use Rattle.binlog_command.proofs.part_runs.run_part.Goals as goal

pub returns-then-task-clause-tells : goal.returns-then-task-clause-tells
returns-then-task-clause-tells g c = λ asked.
    let had = g.O.Write.contents (device_of c.args.output.now) in
    let has = g.O.Write.contents (device_of c.tell.new.output) in
    let task = c.args.task.now in
    on_ok_weaker c.tell.result
    (λ appends. (
      c.writing-writing.result,
      c.writing-writing.ensures.asked,
      (
        c.request-units.result,
        c.request-units.ensures,
        (
          c.in_ok-told.told.items,
          c.in_ok-told.ensures.told,
          subst (λ (text : List ℕ). Appends had has text) c.deref.ensures.value appends,
        ),
      ),
    ))
    c.tell.ensures.told

pub returns-in_ok-told-in-Some-clause-tells : goal.returns-in_ok-told-in-Some-clause-tells
returns-in_ok-told-in-Some-clause-tells g c = λ asked.
    let had = g.O.Write.contents (device_of c.args.output.now) in
    let has = g.O.Write.contents (device_of c.tell-in-Some.new.output) in
    on_ok_weaker c.tell-in-Some.result
    (λ appends. (
      c.writing-writing.result,
      c.writing-writing.ensures.asked,
      (c.request-units.result, c.request-units.ensures, (c.in_ok-told-in-Some.told.items, c.in_ok-told-in-Some.ensures.told, subst (λ (text : List ℕ). Appends had has text) c.deref-in-Some.ensures.value appends)),
    ))
    c.tell-in-Some.ensures.told

pub returns-in_ok-told-in-None-clause-writes : goal.returns-in_ok-told-in-None-clause-writes
returns-in_ok-told-in-None-clause-writes g c = λ printed written.
    (c.writing-writing.result, c.writing-writing.ensures.asked, (c.request-units.result, c.request-units.ensures, (c.in_ok-told-in-None.told, c.in_ok-told-in-None.ensures.writes)))
