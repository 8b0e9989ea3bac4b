use Rattle.std.proofs.Common.{List, ◌<◌, map, ap, subst}
use Rattle.blog_event.specs.File.{end_of}
use Rattle.blog_flash.specs.Written.{Written, event_written}
use Rattle.blog_flash.specs.code.Measured.{HasSizes}
use Rattle.blog_sql.specs.Changed.{changed}
use Rattle.blog_sql.proofs.of_index.measured.Goals as goal

pub returns-in-Some : goal.returns-in-Some
returns-in-Some g c =
    let left = ap (λ (ws : List Written). map event_written (map (changed c.args.how.now) ws)) c.in_ok-events.ensures.left in
    (subst (λ es. HasSizes c.args.front_len es c.in-Some.sizes) left c.in-Some.ensures.measures, c.in-Some.ensures.bounded)

pub returns : goal.returns
returns g c =
    let left = ap (λ (ws : List Written). map event_written (map (changed c.args.how.now) ws)) c.in_ok-events.ensures.left in
    subst (λ es. 4294967295 < end_of c.args.front_len es) left c.in-None.ensures.measures
