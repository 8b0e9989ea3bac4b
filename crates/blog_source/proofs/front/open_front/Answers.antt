-- A log without sums is as it was.
use Rattle.std.proofs.Common.{◌≡◌, ℕ, ◌+◌, ◌-◌, ◌++◌, ◌∙◌, Bool, ap, arith, drop, refl, sym, take}
use Rattle.blog_event.specs.Event.{event_text}
use Rattle.blog_event.specs.File.{magic}
use Rattle.blog_source.specs.Handed.{handed_format}
use Rattle.blog_source.proofs.front.open_front.Goals as goal

pub returns-then-front-clause-front : goal.returns-then-front-clause-front
returns-then-front-clause-front c =
    let is = c.in_ok-front.ensures.front in
    let put = c.clear_algorithm.ensures in
    let first : 4 + (c.in_ok-front.front.first - 4) ≡ c.in_ok-front.front.first = omega (arith, is.first) in
    let format = put.text is.format is.stands (omega (arith, is.first)) in record {
      is = is;
      text = ap (λ (n : ℕ). take n c.clear_algorithm.new.bytes) (sym first) ∙ format ∙ ap (λ (sums : Bool). magic ++ event_text (handed_format sums is.format)) (sym c.if-front.true);
      behind = ap (λ (n : ℕ). drop n c.clear_algorithm.new.bytes) (sym first) ∙ put.behind ∙ ap (λ (n : ℕ). drop n c.args.bytes.now) first;
      len = put.len;
    }

pub returns-else-front-clause-front : goal.returns-else-front-clause-front
returns-else-front-clause-front c =
    let is = c.in_ok-front.ensures.front in record {
      is = is;
      text = is.text ∙ ap (λ (sums : Bool). magic ++ event_text (handed_format sums is.format)) (sym c.if-front.false);
      behind = refl;
      len = refl;
    }
