use Rattle.std.specs.List.{flat_map}
use Rattle.std.proofs.Common.{◌≡◌, ◌-◌, length, take, drop, ap, ◌∙◌}
use Rattle.blog_text.specs.Escapes.{marks, quoted_mark}
use Rattle.blog_text.specs.code.MarksView.{marks_left}
use Rattle.blog_text.proofs.Growing.{quote-begun}
use Rattle.blog_text.proofs.Plain.{plain-quoted}
use Rattle.blog_text.proofs.escapes.put_quoted.Goals as goal

pub loop-mark-init : goal.loop-mark-init
loop-mark-init g c =
    let name = c.args.name.now in
    let plain = c.plain_len-plain.result in
    let left = marks_left c.into_iter-mark-iterator.result in
    let behind : left ≡ marks (take (length name - plain) (drop plain name)) = ap marks_left c.into_iter-mark-iterator.ensures.into_iter_gives ∙ c.new-mark-items.ensures in
    record {
      next = tt;
      finite = tt;
      text = quote-begun 96 c.args.out.now.items c.put_text.new.out.items c.put_text-2.new.out.items (take plain name) (flat_map quoted_mark left) (flat_map quoted_mark (marks name))
          c.in_ok-put_text.ensures c.in_ok-put_text-2.ensures (plain-quoted name plain left c.plain_len-plain.ensures.all behind);
    }
