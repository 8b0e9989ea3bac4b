-- The fault that a whole reading finds; where it finds none, each event is put.
use Rattle.std.proofs.Common.{◌∙◌, ◌≡◌, None, ap, sym}
use Rattle.blog_source.specs.Found.{Found, source_refusal}
use Rattle.blog_source.specs.Laws.{whole_reading}
use Rattle.blog_source.proofs.Opened.{found-is}
use Rattle.blog_source.proofs.Plained.{err-handed, plain-is}
use Rattle.blog_source.proofs.WholeReading.{reading_refused, reading_whole}
use Rattle.blog_source.proofs.plain_copy.plain_in_place.Goals as goal

pub returns-in_err-front-clause-exact : goal.returns-in_err-front-clause-exact
returns-in_err-front-clause-exact c =
    err-handed c.from_residual.result _ _ c.from_residual.ensures.1 (reading_refused c.args.bytes.now _ (sym c.in_err-front.ensures.exact))

pub returns-in-Some-clause-exact : goal.returns-in-Some-clause-exact
returns-in-Some-clause-exact c =
    let opened : source_refusal c.args.bytes.now ≡ None = sym c.in_ok-front.ensures.exact in
    let found = found-is whole_reading c.in_ok-front.front c.args.bytes.now c.open_front.new.bytes c.in_ok-front.ensures.front in
    sym c.in-Some.is ∙ c.hand_out-walked.ensures.fault ∙ ap (λ (f : Found). f.fault) found ∙ reading_whole c.args.bytes.now opened

pub returns-in-None-clause-exact : goal.returns-in-None-clause-exact
returns-in-None-clause-exact c =
    let opened : source_refusal c.args.bytes.now ≡ None = sym c.in_ok-front.ensures.exact in
    let found = found-is whole_reading c.in_ok-front.front c.args.bytes.now c.open_front.new.bytes c.in_ok-front.ensures.front in
    sym c.in-None.is ∙ c.hand_out-walked.ensures.fault ∙ ap (λ (f : Found). f.fault) found ∙ reading_whole c.args.bytes.now opened

pub returns-in-None-clause-log : goal.returns-in-None-clause-log
returns-in-None-clause-log c =
    let found = found-is whole_reading c.in_ok-front.front c.args.bytes.now c.open_front.new.bytes c.in_ok-front.ensures.front in
    let none = ap (λ (f : Found). f.fault) (sym found) ∙ sym c.hand_out-walked.ensures.fault ∙ c.in-None.is in
    c.hand_out-walked.ensures.text ∙ plain-is c.in_ok-front.front c.args.bytes.now c.open_front.new.bytes c.in_ok-front.ensures.front none
