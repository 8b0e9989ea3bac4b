-- Digits are text, and what the parser makes of them is their number.
use Rattle.std.proofs.Common.{sym, arith}
use Rattle.blog_request.proofs.Numbers.{digits-utf8, not-digits, number-is, parsed-ok, parsed-err, refused-is, zero-is}
use Rattle.blog_request.proofs.ids.read_number.Goals as goal

pub returns-then-not-are_digits : goal.returns-then-not-are_digits
returns-then-not-are_digits c = not-digits c.args.text.now (sym c.if-not-are_digits.ensures)

pub returns-in_default : goal.returns-in_default
returns-in_default c = absurd (c.in_default.ensures.cases.0 (digits-utf8 c.args.text.now (sym c.if-not-are_digits.ensures)))

pub returns-in_default-parse : goal.returns-in_default-parse
returns-in_default-parse c =
    let digits = sym c.if-not-are_digits.ensures in
    refused-is c.args.text.now digits (parsed-err c.args.text.now c.in-Ok.digits.now c.in-Ok.ensures.cases.0 c.in_default-parse.ensures.value.0 digits)

pub returns-then-number-gt0 : goal.returns-then-number-gt0
returns-then-number-gt0 c =
    let digits = sym c.if-not-are_digits.ensures in
    let known = parsed-ok c.args.text.now c.in-Ok.digits.now c.in-Ok-parse.number c.in-Ok.ensures.cases.0 c.in-Ok-parse.ensures.value.0 digits in
    number-is c.args.text.now c.in-Ok-parse.number digits known.1 (omega arith) known.0.1

pub returns-else-number-gt0 : goal.returns-else-number-gt0
returns-else-number-gt0 c =
    let digits = sym c.if-not-are_digits.ensures in
    let known = parsed-ok c.args.text.now c.in-Ok.digits.now c.in-Ok-parse.number c.in-Ok.ensures.cases.0 c.in-Ok-parse.ensures.value.0 digits in
    zero-is c.args.text.now digits (omega (arith, known.1))
