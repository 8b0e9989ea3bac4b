use Rattle.std.proofs.Common.{◌≡◌, Bool, true, List, ◌++◌, Result, Ok, Err, OnOk, refl, sym, ap, ◌∙◌}
use Rattle.std.specs.List.{concat}
use Rattle.blog_row.specs.RowsWriting.{RowsContent}
use Rattle.blog_row.specs.code.RowsEventView.{rows_content, written_front}
use Rattle.blog_row.proofs.WrittenBody.{body-parts}
use Rattle.blog_left_out.specs.LeftOut.{content_kept}
use Rattle.blog_left_out.proofs.kept_rows.put_body.Goals as goal

-- the fields in front of the images are the same
front-same : (ms : List Bool) (c : RowsContent) → written_front true (content_kept ms c) ≡ written_front true c
unfolding written_front
front-same ms c = refl

on-ok : {A B : Type 0} (result : Result A B) (P Q : Type 0) → (P → Q) → OnOk result P → OnOk result Q
on-ok (Ok x) P Q by is = by is
on-ok (Err e) P Q by is = tt

pub returns-clause-body : goal.returns-clause-body
returns-clause-body g c =
    let content = rows_content c.args.rows.now in
    let kept = content_kept c.args.marks.now content in
    on-ok c.put_rows.result _ _ (λ put. put ∙ ap (λ (front : List _). front ++ concat kept.images) (c.in_ok-put_front.ensures ∙ sym (front-same c.args.marks.now content)) ∙ sym (body-parts true kept)) c.put_rows.ensures.images
