use Rattle.std.proofs.Common.{arith, rules, ◌≡◌, ◌∷◌, [], ◌++◌, take, drop, ap, ◌∙◌}
use Rattle.base64.specs.Engines.{standard}
use Rattle.base64.specs.GeneralPurpose.{encode_of}
use Rattle.blog_json.specs.Opaques.{lines_of}
use Rattle.blog_json.proofs.Base64Lines.{line_appended, next_line}
use Rattle.blog_json.proofs.opaques.put_lines.Goals as goal

pub lines-preserved : goal.lines-preserved
lines-preserved g c =
    let rest = c.lines.rest.now in
    let line = encode_of standard (take 57 rest) in
    let is : c.put_line.new.out.items ≡ c.lines.out.items ++ line = c.in_ok-put_line.ensures.appended ∙ ap (λ x. c.lines.out.items ++ encode_of standard x) c.split_at.ensures.front in
    record {
      appended = rw c.split_at.ensures.back (line_appended c.lines.out.items c.put_line.new.out.items c.put_text.new.out.items line (92 ∷ 110 ∷ []) (lines_of (drop 57 rest)) (lines_of rest) _ is c.in_ok-put_text.ensures.appended (next_line rest (omega arith)) c.lines.invariant.appended);
      kept = λ start begins. search (rules, c.in_ok-put_text.ensures.kept, c.in_ok-put_line.ensures.kept, c.lines.invariant.kept);
    }
