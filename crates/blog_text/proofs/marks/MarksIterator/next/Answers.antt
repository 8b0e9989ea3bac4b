use Rattle.std.proofs.Common.{sym, ◌∙◌, arith, length-drop}
use Rattle.bstr.proofs.lemmas.PieceLemmas.{size-within, piece-bounds}
use Rattle.blog_text.proofs.Marking.{none-left, character-first, byte-first, goes}
use Rattle.blog_text.proofs.marks.MarksIterator.next.Goals as goal

pub returns-in_err-first-clause-steps : goal.returns-in_err-first-clause-steps
returns-in_err-first-clause-steps c =
    let none = none-left c.args.self.now.rest.now (omega (arith, c.in_err-first.ensures.item.3)) in
    rw c.from_residual.ensures (none, none)

pub slice_bounds-self-count : goal.slice_bounds-self-count
slice_bounds-self-count c = omega (arith, c.decode.ensures.size, size-within c.args.self.now.rest.now)

pub slice_bounds-self-start : goal.slice_bounds-self-start
slice_bounds-self-start c = omega (arith, c.decode.ensures.size, size-within c.args.self.now.rest.now)

pub returns-in-Some-default-clause-steps : goal.returns-in-Some-default-clause-steps
returns-in-Some-default-clause-steps c =
    character-first c.args.self.now.rest.now c.in-Some-default.c c.decode.result.1 (omega (arith, c.in_ok-first.ensures.item.3.0)) (sym c.decode.ensures.char ∙ c.in-Some-default.is-0) c.decode.ensures.size

pub returns-in-Some-default-clause-goes : goal.returns-in-Some-default-clause-goes
returns-in-Some-default-clause-goes c =
    let bounds = piece-bounds c.args.self.now.rest.now (omega (arith, c.in_ok-first.ensures.item.3.0)) in
    goes _ _ _ (omega (arith, bounds, c.decode.ensures.size, length-drop c.decode.result.1 c.args.self.now.rest.now))

pub returns-in-None-default-clause-steps : goal.returns-in-None-default-clause-steps
returns-in-None-default-clause-steps c =
    byte-first c.args.self.now.rest.now c.in_ok-first.field-0.now c.in_ok-first.ensures.value (sym c.decode.ensures.char ∙ c.in-None-default.is-0)
