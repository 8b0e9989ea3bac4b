use Rattle.std.proofs.Common.{◌≡◌, ℕ, ◌≤◌, List, length, Result, Ok, Err, sym, ap, ap₂, subst, ◌∙◌, arith}
use Rattle.std.specs.Prelude.{IfOk}
use Rattle.blog_event.specs.declared.fault.Fault.{Fault}
use Rattle.blog_trans.specs.Groups.{groups}
use Rattle.blog_trans.specs.Selection.{Selection, all}
use Rattle.blog_trans.specs.code.IndexView.{index_bytes, index_selection}
use Rattle.blog_trans.specs.declared.groups.Index.{Index}
use Rattle.blog_gathered.specs.Gathered.{gathered_text}
use Rattle.blog_gathered.proofs.Forming.{gathered-groups}
use Rattle.blog_gathered.proofs.gathered.Gathered.index.Goals as goal

-- the groups of an index of these bytes
groups-indexed : {A : Type 0} (bytes : List ℕ) (result : Result (Index A) Fault) → IfOk result (λ index. index_bytes index ≡ bytes) → IfOk result (λ index. index_selection index ≡ all)
    → IfOk result (λ index. groups (index_bytes index) (index_selection index) ≡ groups bytes all)
groups-indexed bytes (Ok index) same sel = ap₂ groups same sel
groups-indexed bytes (Err fault) same sel = tt

is-moved : {A : Type 0} (ts us : _) (result : Result (Index A) Fault) → ts ≡ us → IfOk result (λ index. groups (index_bytes index) (index_selection index) ≡ ts) → IfOk result (λ index. groups (index_bytes index) (index_selection index) ≡ us)
is-moved ts us (Ok index) same is = is ∙ same
is-moved ts us (Err fault) same is = tt

pub returns-clause-groups : goal.returns-clause-groups
returns-clause-groups g c = λ first rs is.
    let long = ap length is.text in
    let short : length (gathered_text first rs) ≤ 4294967295 = omega (arith, long, c.args.self.now.short, c.args.self.now.bytes.ok.0) in
    is-moved _ _ c.selected.result (ap (λ (t : List ℕ). groups t all) is.text ∙ gathered-groups first rs is.first_sound is.sound short)
    (groups-indexed c.args.self.now.bytes.items c.selected.result (rw c.deref.ensures.value at c.selected.ensures.bytes) (rw c.all.ensures at c.selected.ensures.selection))
