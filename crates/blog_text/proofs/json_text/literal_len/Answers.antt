use Rattle.std.proofs.Common.{sym, ap, ◌∙◌, arith}
use Rattle.std.proofs.lemmas.List.Sums.{prefix_len-le-length}
use lib.Count.{count_trailing_zeros}
use Rattle.blog_text.specs.code.JsonBytes.{is_literal}
use Rattle.blog_text.proofs.JsonLanes.{run-ends, run-through}
use Rattle.blog_text.proofs.json_text.literal_len.Goals as goal

pub returns-then-escaped-ne0-clause-all : goal.returns-then-escaped-ne0-clause-all
returns-then-escaped-ne0-clause-all c =
    let escaped = c.escaped_of-escaped in
    let run = run-ends c.args.text.now c.blocks-2.len (omega arith) (omega (arith, escaped.ensures)) ∙ ap (count_trailing_zeros 64) (sym escaped.ensures) in
    omega (arith, run, c.blocks-2.invariant.0)

pub returns-then-escaped-ne0-clause-within : goal.returns-then-escaped-ne0-clause-within
returns-then-escaped-ne0-clause-within c =
    let escaped = c.escaped_of-escaped in
    let run = run-ends c.args.text.now c.blocks-2.len (omega arith) (omega (arith, escaped.ensures)) ∙ ap (count_trailing_zeros 64) (sym escaped.ensures) in
    omega (arith, run, c.blocks-2.invariant.0, prefix_len-le-length is_literal c.args.text.now)

pub blocks-2-preserved : goal.blocks-2-preserved
blocks-2-preserved c =
    let run = run-through c.args.text.now c.blocks-2.len (omega arith) (omega (arith, c.escaped_of-escaped.ensures)) in
    (omega (arith, run, c.blocks-2.invariant.0), omega arith)
