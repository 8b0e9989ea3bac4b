use Rattle.std.specs.List.{flat_map}
use Rattle.std.proofs.Common.{◌≡◌, ◌-◌, length, take, drop, refl, ap, ◌∙◌}
use Rattle.blog_text.specs.Escapes.{marks, shown}
use Rattle.blog_text.specs.code.MarksView.{marks_left}
use Rattle.blog_text.proofs.Growing.{next-part}
use Rattle.blog_text.proofs.Plain.{plain-escaped}
use Rattle.blog_text.proofs.escapes.put_escaped.Goals as goal

pub loop-mark-init : goal.loop-mark-init
loop-mark-init g c =
    let text = c.args.text.now in
    let plain = c.plain_len-plain.result in
    let left = marks_left c.into_iter-mark-iterator.result in
    let behind : left ≡ marks (take (length text - plain) (drop plain text)) = ap marks_left c.into_iter-mark-iterator.ensures.into_iter_gives ∙ c.new-mark-items.ensures in
    record {
      next = tt;
      finite = tt;
      text = next-part c.args.out.now.items (flat_map shown (marks text)) _ (take plain text) (flat_map shown left) c.put_text.new.out.items refl
          (plain-escaped text plain left c.plain_len-plain.ensures.all behind) c.in_ok-put_text.ensures;
    }
