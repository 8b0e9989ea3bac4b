-- What is found behind the front, and handed out, is what there is to find and to hand out.
use Rattle.std.proofs.Common.{◌∙◌, ap}
use Rattle.blog_source.specs.Found.{Found}
use Rattle.blog_source.proofs.Opened.{found-is, handed-is}
use Rattle.blog_source.proofs.source.read_in_place.Goals as goal

pub returns-clause-log : goal.returns-clause-log
returns-clause-log c = c.hand_out.ensures.text ∙ handed-is c.args.how c.in_ok-front.front c.args.bytes.now c.open_front.new.bytes c.in_ok-front.ensures.front

pub returns-clause-fault : goal.returns-clause-fault
returns-clause-fault c =
    c.hand_out.ensures.fault ∙ ap (λ (f : Found). f.fault) (found-is c.args.how c.in_ok-front.front c.args.bytes.now c.open_front.new.bytes c.in_ok-front.ensures.front)

pub returns-clause-end : goal.returns-clause-end
returns-clause-end c =
    c.hand_out.ensures.end ∙ ap (λ (f : Found). f.end) (found-is c.args.how c.in_ok-front.front c.args.bytes.now c.open_front.new.bytes c.in_ok-front.ensures.front)

pub returns-clause-damaged : goal.returns-clause-damaged
returns-clause-damaged c =
    c.hand_out.ensures.damaged ∙ ap (λ (f : Found). f.damaged) (found-is c.args.how c.in_ok-front.front c.args.bytes.now c.open_front.new.bytes c.in_ok-front.ensures.front)
