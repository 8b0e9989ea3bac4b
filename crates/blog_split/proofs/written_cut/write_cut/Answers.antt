use Rattle.std.proofs.Common.{ℕ, length, refl, sym, ap, subst, ◌∙◌}
use Rattle.std.specs.Io.KnownBytes.{Appends}
use Rattle.blog_device.specs.Watched.{device_of}
use Rattle.blog_trans.specs.Groups.{groups}
use Rattle.blog_trans.specs.code.IndexView.{index_bytes, index_selection}
use Rattle.blog_flash.specs.Texts.{group_events}
use Rattle.blog_flash.specs.code.LaidOut.{groups_in}
use Rattle.blog_flash.proofs.Lengths.{text-end}
use Rattle.blog_split.specs.code.Greedy.{cut_groups}
use Rattle.blog_split.specs.Putting.{Refuses}
use Rattle.blog_split.proofs.Splitting.{cut-broken, whole-text, written-sizes}
use Rattle.blog_split.proofs.written_cut.write_cut.Goals as goal

pub returns-in-Err-clause-written : goal.returns-in-Err-clause-written
returns-in-Err-clause-written g c =
    let ts = cut_groups c.args.limit (groups_in c.args.order (groups (index_bytes c.args.index.now) (index_selection c.args.index.now))) in
    let front = c.front-front.result.now in
    let end = sym (text-end front (group_events ts)) ∙ ap length (c.front-front.ensures.any ts) in
    subst (λ (n : ℕ). Refuses n c.in-Err.fault) end c.in-Err.ensures

pub write_out-requires : goal.write_out-requires
write_out-requires g c k =
    let ts = cut_groups c.args.limit (groups_in c.args.order (groups (index_bytes c.args.index.now) (index_selection c.args.index.now))) in
    let has = written-sizes (length c.front-front.result.now) ts _ c.in-Ok.sizes c.in-Ok-cut_groups_of.ensures.left c.in-Ok.ensures in
    ((refl, tt), (c.in-Ok-cut_groups_of.ensures.sound, has))

pub returns-in-Ok-write_out-clause-written : goal.returns-in-Ok-write_out-clause-written
returns-in-Ok-write_out-clause-written g c =
    let ts = cut_groups c.args.limit (groups_in c.args.order (groups (index_bytes c.args.index.now) (index_selection c.args.index.now))) in
    let (text, short) = whole-text c.front-front.result.now _ ts _ c.in-Ok.sizes (c.front-front.ensures.any ts) c.in-Ok.ensures c.in-Ok-cut_groups_of.ensures.left in
    (subst (Appends (g.W.Write.contents (device_of c.args.writer.now)) (g.W.Write.contents (device_of c.write_out.new.writer))) text c.in-Ok-write_out.ensures.written, short)

pub returns-in-Err-Write-clause-written : goal.returns-in-Err-Write-clause-written
returns-in-Err-Write-clause-written g c =
    let ts = cut_groups c.args.limit (groups_in c.args.order (groups (index_bytes c.args.index.now) (index_selection c.args.index.now))) in
    let (text, short) = whole-text c.front-front.result.now _ ts _ c.in-Ok.sizes (c.front-front.ensures.any ts) c.in-Ok.ensures c.in-Ok-cut_groups_of.ensures.left in
    (cut-broken _ _ _ _ c.write_out.result c.in-Err-Write.field-0 c.in-Err-Write.is c.in-Err-Write.field-0-is text c.write_out.ensures.written, short)
