use Rattle.std.proofs.Common.{◌≡◌, ◌≤◌, ℕ, Option, true, sym, ap, ◌∙◌, arith}
use Rattle.blog_event.specs.code.LogView.{log_bytes}
use Rattle.blog_event.proofs.Opened.{log-opened}
use Rattle.blog_trans.specs.Selection.{selection_of}
use Rattle.blog_units.specs.Units.{is_behind}
use Rattle.blog_units.proofs.Behind.{boundary-reached, stop-behind}
use Rattle.blog_units.proofs.unit_facts.UnitFacts.groups_of.Goals.{in-Some, in-None}
use Rattle.blog_units.proofs.unit_facts.UnitFacts.groups_of.Goals as goal

pub index_from-requires : goal.index_from-requires
index_from-requires g c =
    let start = c.args.self.now.start in
    let order : start ≤ c.match-sel.stop = elim c.match-sel.branch [
      | in-Some w ↦
          let behind = stop-behind start w.in-Some.stop (ap (λ (o : Option ℕ). is_behind o start) (sym w.in-Some.is) ∙ c.requires) in
          let whole = c.args.self.now.order in
          let least = w.min-stop.ensures in
          let same = w.stop-is in
          omega (arith, behind, whole, least, same)
      | in-None w ↦
          let whole = c.args.self.now.order in
          let same = w.stop-is in
          omega (arith, whole, same)
    ] in
    record { reached = boundary-reached (log_bytes c.args.self.now.log) (selection_of c.args.sel.now) start c.match-sel.stop order (log-opened c.args.self.now.log) c.args.self.now.boundary }
