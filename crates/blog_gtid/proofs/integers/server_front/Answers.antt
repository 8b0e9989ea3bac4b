-- One byte of the UUID after the other.
use Rattle.std.proofs.Common.{◌≡◌, None, ◌∙◌, arith, rules}
use Rattle.std.proofs.lemmas.List.{length-set}
use Rattle.blog_gtid.specs.Integers.{bytes_front}
use Rattle.blog_gtid.proofs.Fronts.{front-more, front-none}
use Rattle.blog_gtid.proofs.integers.server_front.Goals as goal

pub loop-byte-preserved : goal.loop-byte-preserved
loop-byte-preserved c = record {
  sixteen = length-set c.loop-byte.byte-items c.loop-byte.byte-index _ ∙ c.loop-byte.invariant.sixteen;
  read = c.loop-byte.invariant.read ∙ front-more 16 c.loop-byte.byte-items c.loop-byte.byte-index c.loop-byte.rest.now _ _ (omega arith) c.loop-byte.invariant.sixteen c.in_ok-value.ensures;
}

pub returns-in_err-value : goal.returns-in_err-value
returns-in_err-value c =
    let unread : bytes_front 16 c.args.bytes.now ≡ None = c.loop-byte.invariant.read ∙ front-none 16 c.loop-byte.byte-items c.loop-byte.byte-index c.loop-byte.rest.now (omega arith) c.in_err-value.ensures in
    rw unread (search rules)
