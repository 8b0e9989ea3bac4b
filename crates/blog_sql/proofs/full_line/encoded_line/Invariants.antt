use Rattle.std.proofs.Common.{◌≡◌, ◌*◌, take, drop, [], ◌∷◌}
use Rattle.base64.specs.Engines.{standard}
use Rattle.base64.specs.GeneralPurpose.{encode_of}
use Rattle.blog_sql.proofs.full_line.encoded_line.Given as goal

-- the parts so far, and the end of the line
abbrev pub invariant-parts : goal.invariant-parts
invariant-parts l = record {
  parts : take (16 * l.part) l.line ≡ encode_of standard (take (12 * l.part) l.bytes);
  end : drop 76 l.line ≡ 10 ∷ [];
}
