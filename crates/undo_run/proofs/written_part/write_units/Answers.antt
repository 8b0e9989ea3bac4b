use Rattle.std.proofs.Common.{◌≡◌, ◌||◌, ◌&&◌, ℕ, [], Bool, true, Option, None, Ok, Err, ap, map, subst, sym, ◌∙◌}
use Rattle.std.proofs.Math.Bool.{or-false}
use Rattle.std.proofs.KnownBytes.{Keeps-refl}
use Rattle.std.proofs.lemmas.Bool.{and_parts}
use Rattle.std.specs.Prelude.{Vec}
use Rattle.blog_device.specs.Watched.{device_of, has_failed}
use Rattle.blog_event.specs.code.LogView.{log_bytes}
use Rattle.blog_request.specs.declared.wanted.Wanted.{Wanted}
use Rattle.blog_source.specs.Places.{position_of}
use Rattle.blog_source.specs.code.SourceView.{end_of, fault_of, log_of}
use Rattle.blog_sum.specs.declared.fault.SumFault.{SumFault}
use Rattle.blog_trans.specs.Selection.{Selection, selection_of}
use Rattle.blog_trans.specs.code.IndexView.{index_bytes, index_selection}
use Rattle.blog_units.specs.Units.{Facts}
use Rattle.undo_run.specs.Parts.{damage_before, has_start, selection_in}
use Rattle.undo_run.specs.Units.{AreSound, AreSoundUnits, AreThere, LacksUnit, RefusesChosen, RefusesUnits, chosen_taken, chosen_units, damage_among, is_asked, is_chosen, kept_log, units_taken}
use Rattle.undo_run.specs.Writes.{plan_by}
use Rattle.undo_run.specs.code.Leaves.{WritesLeft}
use Rattle.undo_run.specs.code.Merges.{WritesMerged}
use Rattle.undo_run.specs.code.NamesView.{names_told}
use Rattle.undo_run.specs.code.Steps.{Chooses, Looks}
use Rattle.undo_run.proofs.Stages.{by-all, by-left, by-merged, chosen-refused, no-write-failed, not-chosen, not-free, not-selected, of-units, taken-written, unit-lacking}
use Rattle.undo_run.proofs.written_part.write_units.Goals as goal

pub write_merged-requires-clause-left : goal.write_merged-requires-clause-left
write_merged-requires-clause-left g c =
    let (none, has, marked) = c.in-Ok-choose.ensures in
    has.left (and_parts c.args.looks c.args.asked.now.merges (sym c.merges_rows-merges.ensures ∙ c.if-merges.true)).0

pub write_untouched-requires-clause-left : goal.write_untouched-requires-clause-left
write_untouched-requires-clause-left g c =
    let (none, has, marked) = c.in-Ok-choose.ensures in
    has.left (and_parts c.args.looks c.args.asked.now.leaves (sym c.leaves_rows-leaves.ensures ∙ c.if-leaves.true)).0

pub returns-in-Some-clause-writes : goal.returns-in-Some-clause-writes
returns-in-Some-clause-writes g c =
    let part = selection_of c.args.part.now in
    let source = c.args.source.now in
    let handed = log_of source in
    let end = end_of source in
    let fault = fault_of source in
    let r = c.args.asked.now in
    let sel = selection_of c.inside_of-inside.result in
    let chosen : sel ≡ selection_in part handed = c.inside_of-inside.ensures in
    let start : has_start part handed end ≡ true = sym c.has_start.ensures ∙ c.if-not-has_start.false in
    let cause = c.in-Some.fault in
    let lacks = subst (λ (d : Option SumFault). LacksUnit {A = g.row.A.Denot} r sel handed end d cause) c.damage_before.ensures c.in-Some.ensures in (
      [],
      not-selected c.args.looks g.L.Read.remaining c.args.later.items c.args.writing.now (plan_by (c.args.looks && r.merges) (c.args.looks && r.leaves) c.args.looks c.args.writing.now (names_told c.args.logs.now) (units_taken r (names_told c.args.logs.now) part handed end fault) []) (AreSoundUnits r part handed end (damage_among c.args.looks part end fault)) (RefusesUnits {A = g.row.A.Denot} r part handed end fault (damage_among c.args.looks part end fault)) _ _ cause
          (unit-lacking r part handed end fault (damage_among c.args.looks part end fault) cause start (subst (λ (s : Selection). LacksUnit {A = g.row.A.Denot} r s handed end (damage_before true part end fault) cause) chosen lacks))
          (Keeps-refl (g.W.Write.contents (device_of c.args.writer.now))),
    )

pub returns-in-Err-choose-clause-writes : goal.returns-in-Err-choose-clause-writes
returns-in-Err-choose-clause-writes g c =
    let part = selection_of c.args.part.now in
    let source = c.args.source.now in
    let handed = log_of source in
    let end = end_of source in
    let fault = fault_of source in
    let r = c.args.asked.now in
    let sel = selection_of c.inside_of-inside.result in
    let w : Wanted = record r.wanted { start = None; stop = c.inside_of-inside.result.stop } in
    let p : Facts → Bool = is_chosen w c.deref.result.now sel handed in
    let chosen : sel ≡ selection_in part handed = c.inside_of-inside.ensures in
    let places : c.deref.result.now ≡ map (position_of handed) r.at.now = c.deref.ensures.value ∙ c.in_ok-at.ensures in
    let same : p ≡ is_asked r part handed = λ i. is_chosen (record r.wanted { start = None; stop = (chosen i).stop }) (places i) (chosen i) handed in
    let start : has_start part handed end ≡ true = sym c.has_start.ensures ∙ c.if-not-has_start.false in
    let here : log_bytes c.with_seed-log.result ≡ handed = c.with_seed-log.ensures.bytes ∙ c.in-Ok.ensures.bytes ∙ c.bytes.ensures in
    let damage = damage_among c.args.looks part end fault in
    let cause = c.in-Err-choose.fault in
    let fails = subst (λ (d : Option SumFault). Chooses {A = g.row.A.Denot} c.args.looks p sel handed end d (Err cause)) c.damage_among-damage.ensures c.in-Err-choose.ensures in (
      [],
      not-selected c.args.looks g.L.Read.remaining c.args.later.items c.args.writing.now (plan_by (c.args.looks && r.merges) (c.args.looks && r.leaves) c.args.looks c.args.writing.now (names_told c.args.logs.now) (units_taken r (names_told c.args.logs.now) part handed end fault) []) (AreSoundUnits r part handed end (damage_among c.args.looks part end fault)) (RefusesUnits {A = g.row.A.Denot} r part handed end fault (damage_among c.args.looks part end fault)) _ _ cause
          (not-chosen c.args.looks r part handed end fault damage cause start (of-units (λ q s. Chooses {A = g.row.A.Denot} c.args.looks q s handed end damage (Err cause)) p (is_asked r part handed) sel (selection_in part handed) same chosen fails))
          (Keeps-refl (g.W.Write.contents (device_of c.args.writer.now))),
    )

pub returns-in-Err-index_of_chosen-clause-writes : goal.returns-in-Err-index_of_chosen-clause-writes
returns-in-Err-index_of_chosen-clause-writes g c =
    let part = selection_of c.args.part.now in
    let source = c.args.source.now in
    let handed = log_of source in
    let end = end_of source in
    let fault = fault_of source in
    let r = c.args.asked.now in
    let sel = selection_of c.inside_of-inside.result in
    let w : Wanted = record r.wanted { start = None; stop = c.inside_of-inside.result.stop } in
    let p : Facts → Bool = is_chosen w c.deref.result.now sel handed in
    let chosen : sel ≡ selection_in part handed = c.inside_of-inside.ensures in
    let places : c.deref.result.now ≡ map (position_of handed) r.at.now = c.deref.ensures.value ∙ c.in_ok-at.ensures in
    let same : p ≡ is_asked r part handed = λ i. is_chosen (record r.wanted { start = None; stop = (chosen i).stop }) (places i) (chosen i) handed in
    let start : has_start part handed end ≡ true = sym c.has_start.ensures ∙ c.if-not-has_start.false in
    let here : log_bytes c.with_seed-log.result ≡ handed = c.with_seed-log.ensures.bytes ∙ c.in-Ok.ensures.bytes ∙ c.bytes.ensures in
    let none : damage_among c.args.looks part end fault ≡ None = sym c.damage_among-damage.ensures ∙ c.in-Ok-choose.ensures.0 in
    let damage = damage_among c.args.looks part end fault in
    let cause = c.in-Err-index_of_chosen.fault in
    let fails = subst (λ (d : Option SumFault). RefusesChosen p sel handed end d cause) (sym none) c.in-Err-index_of_chosen.ensures in (
      [],
      not-selected c.args.looks g.L.Read.remaining c.args.later.items c.args.writing.now (plan_by (c.args.looks && r.merges) (c.args.looks && r.leaves) c.args.looks c.args.writing.now (names_told c.args.logs.now) (units_taken r (names_told c.args.logs.now) part handed end fault) []) (AreSoundUnits r part handed end (damage_among c.args.looks part end fault)) (RefusesUnits {A = g.row.A.Denot} r part handed end fault (damage_among c.args.looks part end fault)) _ _ cause
          (chosen-refused r part handed end fault damage cause start (of-units (λ q s. RefusesChosen q s handed end damage cause) p (is_asked r part handed) sel (selection_in part handed) same chosen fails))
          (Keeps-refl (g.W.Write.contents (device_of c.args.writer.now))),
    )

pub returns-in-Err-look_among_if-clause-writes : goal.returns-in-Err-look_among_if-clause-writes
returns-in-Err-look_among_if-clause-writes g c =
    let part = selection_of c.args.part.now in
    let source = c.args.source.now in
    let handed = log_of source in
    let end = end_of source in
    let fault = fault_of source in
    let r = c.args.asked.now in
    let sel = selection_of c.inside_of-inside.result in
    let w : Wanted = record r.wanted { start = None; stop = c.inside_of-inside.result.stop } in
    let p : Facts → Bool = is_chosen w c.deref.result.now sel handed in
    let chosen : sel ≡ selection_in part handed = c.inside_of-inside.ensures in
    let places : c.deref.result.now ≡ map (position_of handed) r.at.now = c.deref.ensures.value ∙ c.in_ok-at.ensures in
    let same : p ≡ is_asked r part handed = λ i. is_chosen (record r.wanted { start = None; stop = (chosen i).stop }) (places i) (chosen i) handed in
    let start : has_start part handed end ≡ true = sym c.has_start.ensures ∙ c.if-not-has_start.false in
    let here : log_bytes c.with_seed-log.result ≡ handed = c.with_seed-log.ensures.bytes ∙ c.in-Ok.ensures.bytes ∙ c.bytes.ensures in
    let none : damage_among c.args.looks part end fault ≡ None = sym c.damage_among-damage.ensures ∙ c.in-Ok-choose.ensures.0 in
    let there : AreThere r (selection_in part handed) handed end = subst (λ (s : Selection). AreThere r s handed end) chosen c.in_default.ensures in
    let (are, bytes, whole) = c.in-Ok-index_of_chosen.ensures in
    let sound : AreSoundUnits r part handed end (damage_among c.args.looks part end fault) =
    (start, there, subst (λ (d : Option SumFault). AreSound (is_asked r part handed) (selection_in part handed) handed d) (sym none) (of-units (λ q s. AreSound q s handed None) p (is_asked r part handed) sel (selection_in part handed) same chosen are)) in
    let cause = c.in-Err-look_among_if.fault in
    let looked = of-units (λ q s. Looks c.args.looks g.L.Read.remaining c.args.later.items (chosen_taken (names_told c.args.logs.now) q s handed end fault) (Err cause)) p (is_asked r part handed) sel (selection_in part handed) same chosen c.in-Err-look_among_if.ensures in
    by-all (c.args.looks && r.merges) (c.args.looks && r.leaves) c.args.looks g.L.Read.remaining c.args.later.items c.args.writing.now (names_told c.args.logs.now) (units_taken r (names_told c.args.logs.now) part handed end fault) (AreSoundUnits r part handed end (damage_among c.args.looks part end fault)) (RefusesUnits {A = g.row.A.Denot} r part handed end fault (damage_among c.args.looks part end fault)) _ _ (Err cause) (sym c.merges_rows-merges.ensures ∙ c.if-merges.false) (sym c.leaves_rows-leaves.ensures ∙ c.if-leaves.false)
    (not-free c.args.looks g.L.Read.remaining c.args.later.items c.args.writing.now (names_told c.args.logs.now) (units_taken r (names_told c.args.logs.now) part handed end fault) (AreSoundUnits r part handed end (damage_among c.args.looks part end fault)) (RefusesUnits {A = g.row.A.Denot} r part handed end fault (damage_among c.args.looks part end fault)) _ _ cause sound looked (Keeps-refl (g.W.Write.contents (device_of c.args.writer.now))))

pub returns-in-Err-look_among_if-clause-mark : goal.returns-in-Err-look_among_if-clause-mark
returns-in-Err-look_among_if-clause-mark g c =
    let sel = selection_of c.inside_of-inside.result in
    let source = c.args.source.now in
    let handed = log_of source in
    let w : Wanted = record c.args.asked.now.wanted { start = None; stop = c.inside_of-inside.result.stop } in
    let t = chosen_taken (names_told c.args.logs.now) (is_chosen w c.deref.result.now sel handed) sel handed (end_of source) (fault_of source) in
    sym (ap (λ (b : Bool). has_failed c.args.writer.now || b) (no-write-failed (Vec ℕ g.row.A.Denot) c.args.looks g.L.Read.remaining c.args.later.items t c.in-Err-look_among_if.fault c.in-Err-look_among_if.ensures) ∙ or-false (has_failed c.args.writer.now))

pub returns-clause-writes : goal.returns-clause-writes
returns-clause-writes g c =
    let part = selection_of c.args.part.now in
    let source = c.args.source.now in
    let handed = log_of source in
    let end = end_of source in
    let fault = fault_of source in
    let r = c.args.asked.now in
    let sel = selection_of c.inside_of-inside.result in
    let w : Wanted = record r.wanted { start = None; stop = c.inside_of-inside.result.stop } in
    let p : Facts → Bool = is_chosen w c.deref.result.now sel handed in
    let chosen : sel ≡ selection_in part handed = c.inside_of-inside.ensures in
    let places : c.deref.result.now ≡ map (position_of handed) r.at.now = c.deref.ensures.value ∙ c.in_ok-at.ensures in
    let same : p ≡ is_asked r part handed = λ i. is_chosen (record r.wanted { start = None; stop = (chosen i).stop }) (places i) (chosen i) handed in
    let start : has_start part handed end ≡ true = sym c.has_start.ensures ∙ c.if-not-has_start.false in
    let here : log_bytes c.with_seed-log.result ≡ handed = c.with_seed-log.ensures.bytes ∙ c.in-Ok.ensures.bytes ∙ c.bytes.ensures in
    let none : damage_among c.args.looks part end fault ≡ None = sym c.damage_among-damage.ensures ∙ c.in-Ok-choose.ensures.0 in
    let there : AreThere r (selection_in part handed) handed end = subst (λ (s : Selection). AreThere r s handed end) chosen c.in_default.ensures in
    let (are, bytes, whole) = c.in-Ok-index_of_chosen.ensures in
    let sound : AreSoundUnits r part handed end (damage_among c.args.looks part end fault) =
    (start, there, subst (λ (d : Option SumFault). AreSound (is_asked r part handed) (selection_in part handed) handed d) (sym none) (of-units (λ q s. AreSound q s handed None) p (is_asked r part handed) sel (selection_in part handed) same chosen are)) in
    let since = c.in-Ok-look_among_if.since in
    let looked = of-units (λ q s. Looks c.args.looks g.L.Read.remaining c.args.later.items (chosen_taken (names_told c.args.logs.now) q s handed end fault) (Ok since)) p (is_asked r part handed) sel (selection_in part handed) same chosen c.in-Ok-look_among_if.ensures in
    let index = c.in-Ok-index_of_chosen.index in
    let text = bytes ∙ (λ i. kept_log (chosen i) handed (chosen_units (same i) (chosen i) handed)) in
    by-all (c.args.looks && r.merges) (c.args.looks && r.leaves) c.args.looks g.L.Read.remaining c.args.later.items c.args.writing.now (names_told c.args.logs.now) (units_taken r (names_told c.args.logs.now) part handed end fault) (AreSoundUnits r part handed end (damage_among c.args.looks part end fault)) (RefusesUnits {A = g.row.A.Denot} r part handed end fault (damage_among c.args.looks part end fault)) _ _ c.write_index.result (sym c.merges_rows-merges.ensures ∙ c.if-merges.false) (sym c.leaves_rows-leaves.ensures ∙ c.if-leaves.false)
    (taken-written c.args.looks g.L.Read.remaining c.args.later.items c.args.writing.now (names_told c.args.logs.now) (units_taken r (names_told c.args.logs.now) part handed end fault) (AreSoundUnits r part handed end (damage_among c.args.looks part end fault)) (RefusesUnits {A = g.row.A.Denot} r part handed end fault (damage_among c.args.looks part end fault)) _ _ since (index_bytes index) (index_selection index) c.write_index.result
    sound looked text whole c.write_index.ensures.writes)

pub returns-then-leaves-clause-writes : goal.returns-then-leaves-clause-writes
returns-then-leaves-clause-writes g c =
    let part = selection_of c.args.part.now in
    let source = c.args.source.now in
    let handed = log_of source in
    let end = end_of source in
    let fault = fault_of source in
    let r = c.args.asked.now in
    let sel = selection_of c.inside_of-inside.result in
    let w : Wanted = record r.wanted { start = None; stop = c.inside_of-inside.result.stop } in
    let p : Facts → Bool = is_chosen w c.deref.result.now sel handed in
    let chosen : sel ≡ selection_in part handed = c.inside_of-inside.ensures in
    let places : c.deref.result.now ≡ map (position_of handed) r.at.now = c.deref.ensures.value ∙ c.in_ok-at.ensures in
    let same : p ≡ is_asked r part handed = λ i. is_chosen (record r.wanted { start = None; stop = (chosen i).stop }) (places i) (chosen i) handed in
    let start : has_start part handed end ≡ true = sym c.has_start.ensures ∙ c.if-not-has_start.false in
    let none : damage_among c.args.looks part end fault ≡ None = sym c.damage_among-damage.ensures ∙ c.in-Ok-choose.ensures.0 in
    let there : AreThere r (selection_in part handed) handed end = subst (λ (s : Selection). AreThere r s handed end) chosen c.in_default.ensures in
    let (are, bytes, whole) = c.in-Ok-index_of_chosen.ensures in
    let sound : AreSoundUnits r part handed end (damage_among c.args.looks part end fault) =
    (start, there, subst (λ (d : Option SumFault). AreSound (is_asked r part handed) (selection_in part handed) handed d) (sym none) (of-units (λ q s. AreSound q s handed None) p (is_asked r part handed) sel (selection_in part handed) same chosen are)) in
    let had = g.W.Write.contents (device_of c.args.writer.now) in
    let has = g.W.Write.contents (device_of c.write_untouched.new.writer) in
    by-left (c.args.looks && r.merges) c.args.looks r.leaves g.L.Read.remaining c.args.later.items c.args.writing.now (names_told c.args.logs.now) (units_taken r (names_told c.args.logs.now) part handed end fault) (AreSoundUnits r part handed end (damage_among c.args.looks part end fault)) (RefusesUnits {A = g.row.A.Denot} r part handed end fault (damage_among c.args.looks part end fault)) had has c.write_untouched.result (sym c.merges_rows-merges.ensures ∙ c.if-merges.false) (sym c.leaves_rows-leaves.ensures ∙ c.if-leaves.true) sound
    (of-units (λ q s. WritesLeft g.L.Read.remaining c.args.later.items c.args.writing.now (names_told c.args.logs.now) (chosen_taken (names_told c.args.logs.now) q s handed end fault) had has c.write_untouched.result) p (is_asked r part handed) sel (selection_in part handed) same chosen c.write_untouched.ensures.writes)

pub returns-then-merges-clause-writes : goal.returns-then-merges-clause-writes
returns-then-merges-clause-writes g c =
    let part = selection_of c.args.part.now in
    let source = c.args.source.now in
    let handed = log_of source in
    let end = end_of source in
    let fault = fault_of source in
    let r = c.args.asked.now in
    let sel = selection_of c.inside_of-inside.result in
    let w : Wanted = record r.wanted { start = None; stop = c.inside_of-inside.result.stop } in
    let p : Facts → Bool = is_chosen w c.deref.result.now sel handed in
    let chosen : sel ≡ selection_in part handed = c.inside_of-inside.ensures in
    let places : c.deref.result.now ≡ map (position_of handed) r.at.now = c.deref.ensures.value ∙ c.in_ok-at.ensures in
    let same : p ≡ is_asked r part handed = λ i. is_chosen (record r.wanted { start = None; stop = (chosen i).stop }) (places i) (chosen i) handed in
    let start : has_start part handed end ≡ true = sym c.has_start.ensures ∙ c.if-not-has_start.false in
    let none : damage_among c.args.looks part end fault ≡ None = sym c.damage_among-damage.ensures ∙ c.in-Ok-choose.ensures.0 in
    let there : AreThere r (selection_in part handed) handed end = subst (λ (s : Selection). AreThere r s handed end) chosen c.in_default.ensures in
    let (are, bytes, whole) = c.in-Ok-index_of_chosen.ensures in
    let sound : AreSoundUnits r part handed end (damage_among c.args.looks part end fault) =
    (start, there, subst (λ (d : Option SumFault). AreSound (is_asked r part handed) (selection_in part handed) handed d) (sym none) (of-units (λ q s. AreSound q s handed None) p (is_asked r part handed) sel (selection_in part handed) same chosen are)) in
    let had = g.W.Write.contents (device_of c.args.writer.now) in
    let has = g.W.Write.contents (device_of c.write_merged.new.writer) in
    by-merged c.args.looks r.merges (c.args.looks && r.leaves) g.L.Read.remaining c.args.later.items c.args.writing.now (names_told c.args.logs.now) (units_taken r (names_told c.args.logs.now) part handed end fault) (AreSoundUnits r part handed end (damage_among c.args.looks part end fault)) (RefusesUnits {A = g.row.A.Denot} r part handed end fault (damage_among c.args.looks part end fault)) had has c.write_merged.result (sym c.merges_rows-merges.ensures ∙ c.if-merges.true) sound
    (of-units (λ q s. WritesMerged g.L.Read.remaining c.args.later.items c.args.writing.now (names_told c.args.logs.now) (chosen_taken (names_told c.args.logs.now) q s handed end fault) had has c.write_merged.result) p (is_asked r part handed) sel (selection_in part handed) same chosen c.write_merged.ensures.writes)
