use Rattle.std.proofs.Common.{map, vec_len, arith}
use Rattle.blog_flash.specs.Written.{event_written}
use Rattle.blog_flash.proofs.Lengths.{end-total}
use Rattle.blog_flash.proofs.laid_out.add_events.Goals as goal

pub overflow_sub-sizes : goal.overflow_sub-sizes
overflow_sub-sizes g c =
    let end = end-total (vec_len c.args.out.now) (map event_written (g.E.WrittenEvents.to_come c.args.events.now)) in
    omega (arith, end, c.requires.sizes.len, c.len.ensures)
