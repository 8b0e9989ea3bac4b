use Rattle.std.proofs.Common.{refl, sym, ◌∙◌}
use Rattle.base64.specs.Engines.{standard}
use Rattle.base64.proofs.EngineFacts.{encode_of-nil}
use Rattle.blog_sql.proofs.FullLine.{next-part, part-long, end-kept, line-is}
use Rattle.blog_sql.proofs.full_line.encoded_line.Goals as goal

pub parts-init : goal.parts-init
parts-init c = record { parts = sym (encode_of-nil standard); end = refl }

pub parts-preserved : goal.parts-preserved
parts-preserved c =
    let p = c.parts.part in
    let bytes = c.args.bytes.now in
    let line = c.parts.line in
    let part = c.encoded.result in
    let now = c.put_part.new.line in
    let long = part-long p bytes part c.parts-test.true c.requires c.encoded.ensures in
    record {
      parts = next-part p bytes line part now c.parts-test.true c.requires c.encoded.array_long c.parts.invariant.parts c.encoded.ensures c.put_part.ensures;
      end = end-kept p line part now c.parts-test.true c.encoded.array_long long c.put_part.ensures ∙ c.parts.invariant.end;
    }

pub returns : goal.returns
returns c =
    line-is c.parts.part c.args.bytes.now c.parts.line c.encoded-2.result c.put_part-2.new.line c.parts-test.false c.parts.auto.part-end c.requires c.parts.invariant.parts c.parts.invariant.end
    c.encoded-2.ensures c.put_part-2.ensures
