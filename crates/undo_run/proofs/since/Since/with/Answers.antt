use Rattle.std.proofs.Common.{◌≡◌, ◌||◌, ◌++◌, List, ℕ, Bool, Some, map, sym, ap, ◌∙◌, arith}
use Rattle.std.specs.Prelude.{is_some, slice_get}
use Rattle.blog_source.specs.code.SourceView.{end_of, fault_of, log_of}
use Rattle.undo_run.specs.After.{place_at, place_in}
use Rattle.undo_run.specs.code.NamesView.{names_told}
use Rattle.undo_run.specs.code.SinceView.{later_of}
use Rattle.undo_run.proofs.LookedAt.{with-more}
use Rattle.undo_run.proofs.since.Since.with.Goals.{then-self, else-self}
use Rattle.undo_run.proofs.since.Since.with.Goals as goal

pub returns : goal.returns
returns g c n m choice us ls looked seen =
    let names = names_told c.args.logs.now in
    let source = c.args.source.now in
    let few = c.len.type_inv in
    let short = c.len-2.type_inv in
    let damaged : c.if-self.result ≡ (c.args.self.now.is_damaged || is_some (fault_of source)) = elim c.if-self.branch [
      | then-self w ↦ w.result-is ∙ w.if-self.true ∙ sym (ap (λ (b : Bool). b || is_some (fault_of source)) w.if-self.true)
      | else-self w ↦ w.result-is ∙ w.is_some.ensures ∙ ap is_some w.fault.ensures ∙ sym (ap (λ (b : Bool). b || is_some (fault_of source)) w.if-self.false)
    ] in
    with-more n m choice ls (later_of names source us) c.args.looked.now c.args.self.now _ c.len.result c.len-2.result looked seen
    (c.len.ensures ∙ c.args.looked.now.unknown.ok.0) (omega (arith, few)) (c.len-2.ensures ∙ c.args.looked.now.apart.ok.0) (omega (arith, short))
    c.saturating_add.ensures c.saturating_add-2.ensures c.saturating_add-3.ensures c.saturating_add-4.ensures
    (λ ps first. c.first_place.ensures ps first ∙ ap (λ (ats : List ℕ). slice_get (ps ++ map (place_at names (log_of source) (end_of source)) ats) 0) c.deref.ensures.value)
    (ap Some (c.place.ensures ∙ ap (place_in names) c.end.ensures))
    (c.in_ok-extend_from_slice.ensures.items ∙ ap (λ (front : List ℕ). front ++ c.args.next.now) c.new-goes_on.ensures.items ∙ c.requires) damaged
