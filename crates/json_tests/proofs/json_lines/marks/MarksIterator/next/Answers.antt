use Rattle.std.specs.Prelude.{⊤}
use Rattle.std.specs.Iterator.{MakesProgress, at_most}
use Rattle.std.proofs.Common.{◌<◌, length, Some, arith, length-drop}
use Rattle.bstr.proofs.lemmas.PieceLemmas.{size-within, piece-bounds}
use Rattle.json_tests.specs.declared.json_lines.marks.Marks.{Marks}
use Rattle.json_tests.proofs.json_lines.marks.MarksIterator.next.Goals as goal

-- a mark is taken, and fewer bytes are left
goes : {I : Type 0} (item : I) (s t : Marks) → length t.rest.now < length s.rest.now → MakesProgress (λ _. ⊤) (λ left. at_most (length left.rest.now)) s (Some item) t
goes item s t less = record { on = λ _. (tt, tt, less); keeps = tt; rests = λ _. tt }

pub slice_bounds-self-count : goal.slice_bounds-self-count
slice_bounds-self-count c = omega (arith, c.decode.ensures.size, size-within c.args.self.now.rest.now)

pub slice_bounds-self-start : goal.slice_bounds-self-start
slice_bounds-self-start c = omega (arith, c.decode.ensures.size, size-within c.args.self.now.rest.now)

pub returns-in-Some-default-clause-goes : goal.returns-in-Some-default-clause-goes
returns-in-Some-default-clause-goes c =
    let bounds = piece-bounds c.args.self.now.rest.now (omega (arith, c.in_ok-first.ensures.item.3.0)) in
    goes _ _ _ (omega (arith, bounds, c.decode.ensures.size, length-drop c.decode.result.1 c.args.self.now.rest.now))
