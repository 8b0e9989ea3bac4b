-- By whether the number behind the front is the sum.
use Rattle.std.proofs.Common.{◌≡◌, ◌+◌, ◌-◌, true, false, sym, ◌∙◌, arith}
use Rattle.std.specs.Prelude.{◌==◌}
use Rattle.std.proofs.lemmas.Bool.Decides.{nat_tests}
use Rattle.blog_event.specs.Event.{Event, event_of}
use Rattle.blog_sum.specs.Sums.{not_in_use}
use Rattle.blog_sum.proofs.Texts.{format-sum}
use Rattle.blog_sum.proofs.Walk.{sum-check-is}
use Rattle.blog_sum.proofs.sums.check_format_sum.Goals as goal

pub returns-then-read_u32-value : goal.returns-then-read_u32-value
returns-then-read_u32-value c =
    let format : Event = event_of c.args.format.now in
    let size = c.requires.size in
    let test : (c.read_u32.result == c.value.result) ≡ false = grind (arith, nat_tests) in
    let sum =
    format-sum c.args.bytes.now (4 + c.args.format.now.header.size) (c.args.format.now.header.size - 4) format c.split_at.result.0.now c.split_at.result.1.now
    c.read_u32.result c.value.result false (λ i. omega (arith, c.type_inv.bytes i)) c.requires.event (omega arith) (omega arith) (omega arith) c.split_at.ensures.front c.split_at.ensures.back
    c.read_u32.ensures (c.value.ensures.value ∙ c.crc_not_in_use.ensures) test in
    record { exact = sym (sum-check-is (record { pos = 4; event = not_in_use format }) false (omega arith) sum) }

pub returns : goal.returns
returns c =
    let format : Event = event_of c.args.format.now in
    let size = c.requires.size in
    let test : (c.read_u32.result == c.value.result) ≡ true = grind (arith, nat_tests) in
    let sum =
    format-sum c.args.bytes.now (4 + c.args.format.now.header.size) (c.args.format.now.header.size - 4) format c.split_at.result.0.now c.split_at.result.1.now
    c.read_u32.result c.value.result true (λ i. omega (arith, c.type_inv.bytes i)) c.requires.event (omega arith) (omega arith) (omega arith) c.split_at.ensures.front c.split_at.ensures.back
    c.read_u32.ensures (c.value.ensures.value ∙ c.crc_not_in_use.ensures) test in
    record { exact = sym (sum-check-is (record { pos = 4; event = not_in_use format }) true (omega arith) sum) }
