use Rattle.std.proofs.Common.{◌≡◌, ℕ, ◌<◌, List, ◌++◌, map, length, vec_len, sym, ap, ap₂, subst, ◌∙◌, arith}
use Rattle.blog_event.specs.File.{end_of}
use Rattle.blog_flash.specs.Written.{event_written}
use Rattle.blog_flash.specs.code.LaidOut.{text_from}
use Rattle.blog_flash.specs.code.WrittenGroupsView.{groups_to_come}
use Rattle.blog_trans.specs.Groups.{groups}
use Rattle.blog_gathered.specs.code.GatheredView.{range_of}
use Rattle.blog_gathered.proofs.Gathering.{gathered-long, gathered-more, sound-more, still-short}
use Rattle.blog_gathered.proofs.gathered.Gathered.add.Goals as goal

pub returns-in_default : goal.returns-in_default
unfolding groups
returns-in_default g c = λ first rs is.
    let ws = groups_to_come c.new.result in
    let own : vec_len c.args.self.now.bytes ≡ length c.args.self.now.bytes.items = omega (arith, c.args.self.now.bytes.ok.0) in
    let long = subst (λ (n : ℕ). 4294967295 < end_of n (map event_written ws)) (c.len.ensures ∙ own ∙ ap length is.text) c.in_default.ensures in
    (is, gathered-long first rs (range_of c.args.index.now) ws is.first_sound c.new.ensures long)

pub invariant_of-self : goal.invariant_of-self
invariant_of-self g c =
    let same = ap (map event_written) (c.new.ensures ∙ sym c.new-2.ensures) in
    let end = ap₂ end_of c.len.ensures same in
    let fits = c.in-Some.ensures in
    let own : vec_len c.args.self.now.bytes ≡ length c.args.self.now.bytes.items = omega (arith, c.args.self.now.bytes.ok.0) in
    let short = still-short c.add_events.result c.args.self.now.bytes.items c.add_events.new.out.items (vec_len c.args.self.now.bytes) (map event_written (groups_to_come c.new-2.result)) c.add_events.ensures.text c.add_events.ensures.kept
    own c.args.self.now.short (omega (arith, fits.len, fits.short, end)) in
    record { short = omega (arith, short, c.add_events.new.out.ok.0) }

pub returns-in-Ok : goal.returns-in-Ok
unfolding groups
returns-in-Ok g c = λ first rs is.
    let ws = groups_to_come c.new-2.result in
    let own : vec_len c.args.self.now.bytes ≡ length c.args.self.now.bytes.items = omega (arith, c.args.self.now.bytes.ok.0) in
    record {
      text = c.in-Ok.ensures.text ∙ ap (λ (n : ℕ). c.args.self.now.bytes.items ++ text_from n (map event_written ws)) own ∙ ap (λ (t : List ℕ). t ++ text_from (length t) (map event_written ws)) is.text ∙ gathered-more first rs (range_of c.args.index.now) ws is.first_sound c.new-2.ensures;
      first_sound = is.first_sound;
      sound = sound-more rs (range_of c.args.index.now) is.sound c.is_sound.ensures;
    }
