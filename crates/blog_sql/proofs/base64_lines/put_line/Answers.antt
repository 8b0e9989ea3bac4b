use Rattle.std.proofs.Common.{◌≡◌, ℕ, ◌++◌, List, length, OnOk, OnErr, subst, arith}
use Rattle.blog_device.specs.Watched.{device_of}
use Rattle.blog_device.specs.Devices.{AppendsBeginning}
use Rattle.base64.specs.Engines.{standard}
use Rattle.base64.specs.GeneralPurpose.{encoded_size_of}
use Rattle.blog_sql.specs.code.Adding.{Adds}
use Rattle.blog_sql.proofs.Lines.{line-put}
use Rattle.blog_sql.proofs.base64_lines.put_line.Goals as goal

pub returns-clause-adds : goal.returns-clause-adds
returns-clause-adds g c =
    let m = c.args.bytes.now in
    let size : c.in-Ok.len ≡ encoded_size_of standard (length m) = let fits = c.encode_slice.ensures.fits (omega arith) in cc in
    let text = line-put m _ _ c.in-Ok.len c.requires.some c.requires.few c.in-Ok.ensures.written (omega arith) size in
    subst (λ (b : List ℕ). OnOk c.append.result (Adds (g.W.Write.contents (device_of c.args.writer.now)) (g.W.Write.contents (device_of c.append.new.writer)) c.args.chunk.now.items c.append.new.chunk.items b)) text c.append.ensures.adds

pub returns-clause-beginning : goal.returns-clause-beginning
returns-clause-beginning g c =
    let m = c.args.bytes.now in
    let size : c.in-Ok.len ≡ encoded_size_of standard (length m) = let fits = c.encode_slice.ensures.fits (omega arith) in cc in
    let text = line-put m _ _ c.in-Ok.len c.requires.some c.requires.few c.in-Ok.ensures.written (omega arith) size in
    subst (λ (b : List ℕ). OnErr c.append.result (AppendsBeginning (g.W.Write.contents (device_of c.args.writer.now)) (g.W.Write.contents (device_of c.append.new.writer)) (c.args.chunk.now.items ++ b))) text c.append.ensures.beginning
