-- By what the event becomes.
use Rattle.std.proofs.Common.{◌+◌, arith, drop, refl, sym}
use Rattle.std.proofs.lemmas.List.{length-drop, length-take-le}
use Rattle.blog_source.proofs.Moving.{drops-more}
use Rattle.blog_source.proofs.Puts.{begin-put, nothing-put, same-put, tagged-put}
use Rattle.blog_source.proofs.putting.put_kept.Goals as goal

pub returns-in-Gtid-clause-front : goal.returns-in-Gtid-clause-front
returns-in-Gtid-clause-front c =
    let put = c.put_gtid.ensures in
    (tagged-put c.args.bytes.now c.put_gtid.new.bytes c.args.form c.args.sums c.args.to c.args.at c.args.header c.put_gtid.result c.bare_len-body_len.result c.bare_len-body_len.ensures.exact
    c.in-Gtid.ensures.exact put.end put.front).front

pub returns-in-Gtid-clause-end : goal.returns-in-Gtid-clause-end
returns-in-Gtid-clause-end c =
    let put = c.put_gtid.ensures in
    (tagged-put c.args.bytes.now c.put_gtid.new.bytes c.args.form c.args.sums c.args.to c.args.at c.args.header c.put_gtid.result c.bare_len-body_len.result c.bare_len-body_len.ensures.exact
    c.in-Gtid.ensures.exact put.end put.front).end_is

pub returns-in-Gtid-clause-behind : goal.returns-in-Gtid-clause-behind
returns-in-Gtid-clause-behind c =
    drops-more c.put_gtid.new.bytes c.args.bytes.now _ _ c.put_gtid.ensures.behind (omega (arith, c.put_gtid.ensures.before, c.bare_len-body_len.ensures.within))

pub returns-in-Begin-clause-front : goal.returns-in-Begin-clause-front
returns-in-Begin-clause-front c =
    let put = c.put_begin.ensures in
    (begin-put c.args.bytes.now c.put_begin.new.bytes c.args.form c.args.sums c.args.to c.args.at c.args.header c.put_begin.result c.bare_len-body_len.result c.bare_len-body_len.ensures.exact
    c.in-Begin.ensures.exact put.end put.front).front

pub returns-in-Begin-clause-end : goal.returns-in-Begin-clause-end
returns-in-Begin-clause-end c =
    let put = c.put_begin.ensures in
    (begin-put c.args.bytes.now c.put_begin.new.bytes c.args.form c.args.sums c.args.to c.args.at c.args.header c.put_begin.result c.bare_len-body_len.result c.bare_len-body_len.ensures.exact
    c.in-Begin.ensures.exact put.end put.front).end_is

pub returns-in-Begin-clause-behind : goal.returns-in-Begin-clause-behind
returns-in-Begin-clause-behind c =
    let room = c.in-Begin.ensures.begin refl in
    drops-more c.put_begin.new.bytes c.args.bytes.now _ _ c.put_begin.ensures.behind
    (omega (arith, room, c.put_begin.ensures.end, c.bare_len-body_len.ensures.within, c.requires.order))

pub returns-in-Nothing-clause-front : goal.returns-in-Nothing-clause-front
returns-in-Nothing-clause-front c =
    (nothing-put c.args.bytes.now c.args.form c.args.sums c.args.to c.args.at c.args.header c.bare_len-body_len.result c.bare_len-body_len.ensures.exact c.in-Nothing.ensures.exact).front

pub returns-in-Nothing-clause-end : goal.returns-in-Nothing-clause-end
returns-in-Nothing-clause-end c =
    (nothing-put c.args.bytes.now c.args.form c.args.sums c.args.to c.args.at c.args.header c.bare_len-body_len.result c.bare_len-body_len.ensures.exact c.in-Nothing.ensures.exact).end_is

pub returns-in-Itself-clause-front : goal.returns-in-Itself-clause-front
returns-in-Itself-clause-front c =
    let len = c.bare_len-body_len.ensures in
    let left = length-drop (c.args.at + 19) c.args.bytes.now in
    let long = length-take-le c.bare_len-body_len.result (drop (c.args.at + 19) c.args.bytes.now) (omega (arith, left, len.within, c.requires.within)) in
    let put = c.put_same.ensures in
    (same-put c.args.bytes.now c.put_same.new.bytes c.args.form c.args.sums c.args.to c.args.at c.args.header c.put_same.result c.bare_len-body_len.result len.exact c.in-Itself.ensures.exact
    (sym long) put.end put.front).front

pub returns-in-Itself-clause-end : goal.returns-in-Itself-clause-end
returns-in-Itself-clause-end c =
    let len = c.bare_len-body_len.ensures in
    let left = length-drop (c.args.at + 19) c.args.bytes.now in
    let long = length-take-le c.bare_len-body_len.result (drop (c.args.at + 19) c.args.bytes.now) (omega (arith, left, len.within, c.requires.within)) in
    let put = c.put_same.ensures in
    (same-put c.args.bytes.now c.put_same.new.bytes c.args.form c.args.sums c.args.to c.args.at c.args.header c.put_same.result c.bare_len-body_len.result len.exact c.in-Itself.ensures.exact
    (sym long) put.end put.front).end_is

pub returns-in-Itself-clause-behind : goal.returns-in-Itself-clause-behind
returns-in-Itself-clause-behind c =
    drops-more c.put_same.new.bytes c.args.bytes.now _ _ c.put_same.ensures.behind (omega (arith, c.put_same.ensures.end, c.bare_len-body_len.ensures.within, c.requires.order))
