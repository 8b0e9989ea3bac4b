use Rattle.std.proofs.Common.{◌+◌, ◌≤◌, ◌++◌, List, ℕ, length, vec_len, vec_capacity, sym, ap, subst, ◌∙◌, arith}
use Rattle.std.specs.List.{flat_map}
use Rattle.blog_flash.proofs.Quoting.{quoted-parts, quoted-plain}
use Rattle.blog_flash.specs.Printed.{between_backticks}
use Rattle.blog_flash.proofs.Printing.{has-room}
use Rattle.blog_flash.proofs.printed.put_quoted.Goals as goal

pub loop-part-init : goal.loop-part-init
loop-part-init g c =
    let parts = c.into_iter-part-iterator.ensures.into_iter_gives ∙ c.split_str-part-items.ensures.value in
    record { text = ap (λ (left : List (List ℕ)). c.args.out.now.items ++ flat_map between_backticks left) parts ∙ ap (λ (text : List ℕ). c.args.out.now.items ++ text) (quoted-parts c.args.name.now); capacity = omega arith }

pub returns-then-not-contains-clause-ok : goal.returns-then-not-contains-clause-ok
returns-then-not-contains-clause-ok g c =
    rw (quoted-plain c.args.name.now (sym c.contains.ensures.value ∙ c.if-not-contains.true)) c.put_between_backticks.ensures.ok

pub returns-then-not-contains-clause-room : goal.returns-then-not-contains-clause-room
returns-then-not-contains-clause-room g c enough =
    let one = quoted-plain c.args.name.now (sym c.contains.ensures.value ∙ c.if-not-contains.true) in
    c.put_between_backticks.ensures.room (subst (λ (text : List ℕ). vec_len c.args.out.now + length text ≤ vec_capacity c.args.out.now) one enough)

pub returns-in_err-put_between_backticks-clause-room : goal.returns-in_err-put_between_backticks-clause-room
returns-in_err-put_between_backticks-clause-room g c enough =
    has-room _ _ _ _ (between_backticks c.in-Some.part.now) _ _ _ _ _ _ _ c.in_err-put_between_backticks.was c.put_between_backticks-in-loop-part.ensures.room c.loop-part.invariant.text
    (ap (flat_map between_backticks) c.in-Some.ensures.steps) c.loop-part.out.ok.0 c.args.out.now.ok.0 c.loop-part.invariant.capacity enough
