-- What is put is what is handed out for all logs; it opens, since the front stays.
use Rattle.std.proofs.Common.{◌≡◌, ◌+◌, ◌<◌, ◌≤◌, ◌^◌, ◌++◌, ◌∙◌, List, ℕ, length, ap, arith, subst, sym}
use Rattle.blog_event.specs.Opening.{opening_fault}
use Rattle.blog_source.specs.Appended.{appended}
use Rattle.blog_source.specs.code.SourceView.{end_of, log_of}
use Rattle.blog_source.proofs.Appending.{all-put, appended-opens, moved_left}
use Rattle.blog_source.proofs.source.Source.append.Goals as goal

-- what is put
put-is : (log old new further seen : List ℕ) (start first : ℕ) → old ≡ log → seen ≡ further → new ≡ old ++ moved_left start seen first → new ≡ log ++ moved_left start further first
put-is log old new further seen start first same is put = put ∙ (λ i. same i ++ moved_left start (is i) first)

pub returns-then-len-clause-refused : goal.returns-then-len-clause-refused
returns-then-len-clause-refused g c short =
    let log = log_of c.args.self in
    let further = log_of c.args.further.now in
    let put = put-is log c.reserve_exact.new.self.items c.put_moved.new.out.items further c.bytes-3.result.now (end_of c.args.self) c.first.result c.in_ok-reserve_exact.ensures.items c.bytes-3.ensures
    c.in_ok-put_moved.ensures.text in
    let all = all-put log further c.put_moved.new.out.items (end_of c.args.self) c.first.result c.first.ensures put in
    omega (arith, short.text, ap length all, c.len-2.ensures, c.put_moved.new.out.ok.0, c.if-len.true)

pub returns-clause-log : goal.returns-clause-log
returns-clause-log g c =
    let log = log_of c.args.self in
    let further = log_of c.args.further.now in
    all-put log further c.put_moved.new.out.items (end_of c.args.self) c.first.result c.first.ensures
    (put-is log c.reserve_exact.new.self.items c.put_moved.new.out.items further c.bytes-3.result.now (end_of c.args.self) c.first.result c.in_ok-reserve_exact.ensures.items c.bytes-3.ensures
    c.in_ok-put_moved.ensures.text)

pub returns-clause-opens : goal.returns-clause-opens
returns-clause-opens g c opened =
    let log = log_of c.args.self in
    let further = log_of c.args.further.now in
    let all = all-put log further c.put_moved.new.out.items (end_of c.args.self) c.first.result c.first.ensures
    (put-is log c.reserve_exact.new.self.items c.put_moved.new.out.items further c.bytes-3.result.now (end_of c.args.self) c.first.result c.in_ok-reserve_exact.ensures.items c.bytes-3.ensures
    c.in_ok-put_moved.ensures.text) in
    let short : length c.put_moved.new.out.items ≤ 4294967295 = omega (arith, c.len-2.ensures, c.put_moved.new.out.ok.0, c.if-len.false) in
    appended-opens log further c.put_moved.new.out.items (end_of c.args.self) all opened (omega (arith, short))
