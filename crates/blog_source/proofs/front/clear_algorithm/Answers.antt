-- The last five bytes are written over.
use Rattle.std.proofs.Common.{◌+◌, ◌-◌, ◌++◌, ◌∙◌, List, ℕ, ap, arith, take}
use Rattle.blog_source.proofs.Moving.{part-long}
use Rattle.blog_source.proofs.Tails.{tail-front, tail-behind}
use Rattle.blog_source.proofs.front.clear_algorithm.Goals as goal

pub returns-clause-text : goal.returns-clause-text
returns-clause-text c =
    let place : ℕ = 4 + c.args.size - 5 in
    let end : ℕ = 4 + c.args.size in
    let long = part-long c.args.bytes.now c.copy_from_slice.new.self place (end - place) 5 c.copy_from_slice.ensures.len (omega arith) (omega arith) in
    λ e found is. tail-front c.args.bytes.now c.copy_from_slice.new.self place (end - place) end (omega arith) (omega arith) long c.requires.within
    ∙ ap (λ (tail : List ℕ). take place c.args.bytes.now ++ tail) c.copy_from_slice.ensures.after ∙ c.plain_tail-tail.ensures.text e found is

pub returns-clause-behind : goal.returns-clause-behind
returns-clause-behind c =
    let place : ℕ = 4 + c.args.size - 5 in
    let end : ℕ = 4 + c.args.size in
    let long = part-long c.args.bytes.now c.copy_from_slice.new.self place (end - place) 5 c.copy_from_slice.ensures.len (omega arith) (omega arith) in
    tail-behind c.args.bytes.now c.copy_from_slice.new.self place (end - place) end (omega arith) (omega arith) long c.requires.within
