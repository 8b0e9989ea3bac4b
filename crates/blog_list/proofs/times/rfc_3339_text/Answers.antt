use Rattle.blog_list.proofs.times.rfc_3339_text.Goals as goal

pub returns : goal.returns
returns c =
    let shown = c.display_with_offset.ensures in
    (shown.0, c.whole_minutes-offset.result, rw (← c.instant_of-instant.ensures, ← c.to_offset.ensures) c.whole_minutes-offset.ensures, rw (← c.instant_of-instant.ensures) shown.1, shown.2)
