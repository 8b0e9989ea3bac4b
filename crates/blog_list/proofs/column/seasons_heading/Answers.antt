use Rattle.std.proofs.lemmas.Result.{IfOk-weaker}
use Rattle.jiff.specs.Words.{plain_info}
use Rattle.blog_list.proofs.column.seasons_heading.Goals as goal

pub returns : goal.returns
returns g c =
    IfOk-weaker c.heading_of_two.result _ _
    (λ text made. (
      plain_info c.to_offset_info-winter.result,
      plain_info c.to_offset_info-summer.result,
      rw (← c.instant_of.ensures) c.to_offset_info-winter.ensures,
      rw (← c.instant_of-2.ensures) c.to_offset_info-summer.ensures,
      rw (← c.abbreviation.ensures, ← c.abbreviation-2.ensures) made,
    ))
    c.heading_of_two.ensures
