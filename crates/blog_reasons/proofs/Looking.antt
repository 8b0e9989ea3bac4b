-- What is seen of one more log.
use Rattle.std.proofs.Common.{◌≡◌, ◌∙◌, ℕ, List, [], ◌∷◌, ◌++◌, sym, ap, subst, append-nil}
use Rattle.std.specs.Prelude.{OnOk, Result, flat_map}
use Rattle.std.proofs.lemmas.List.Concat.{flat_map-append}
use Rattle.std.proofs.lemmas.Result.{on_ok_weaker}
use Rattle.blog_row.specs.TableMap.{Table}
use Rattle.blog_units.specs.Units.{Facts}
use Rattle.blog_choice.specs.code.Views.{choice_value}
use Rattle.blog_request.specs.declared.wanted.Wanted.{Wanted}
use Rattle.blog_reasons.specs.Reasons.{Looked, all_tables, all_units, tables_named, units_in_range}
use Rattle.blog_reasons.specs.declared.reasons.Reasons.{Reasons}
use Rattle.blog_reasons.specs.code.ReasonsView.{HasLooked}
use Rattle.blog_reasons.specs.code.TablesView.{AreSeenTables}
use Rattle.blog_reasons.specs.code.UnitsView.{AreSeenUnits}

flat-more : {A : Type 0} (f : Looked → List A) (logs : List Looked) (l : Looked) → flat_map f (logs ++ l ∷ []) ≡ flat_map f logs ++ f l
flat-more f logs l = flat_map-append f logs (l ∷ []) ∙ ap (λ xs. flat_map f logs ++ xs) (append-nil (f l))

pub looked-more : {A X E : Type 0} (reasons new : Reasons A) (w : Wanted) (logs : List Looked) (l : Looked) (r : Result X E) → HasLooked w logs reasons → new.wanted ≡ reasons.wanted
    → ((us : List Facts) → AreSeenUnits reasons.wanted us reasons.units → AreSeenUnits reasons.wanted (us ++ units_in_range l) new.units)
    → ((ts : List Table) → AreSeenTables (choice_value reasons.wanted.choice) ts reasons.tables → OnOk r (AreSeenTables (choice_value reasons.wanted.choice) (ts ++ tables_named l.log) new.tables))
    → OnOk r (HasLooked w (logs ++ l ∷ []) new)
looked-more reasons new w logs l r looked same units tables =
    let us = subst (λ (v : Wanted). AreSeenUnits v (all_units logs) reasons.units) (sym looked.wanted) looked.units in
    let ts = subst (λ (v : Wanted). AreSeenTables (choice_value v.choice) (all_tables logs) reasons.tables) (sym looked.wanted) looked.tables in
    on_ok_weaker r
    (λ seen. record {
      wanted = same ∙ looked.wanted;
      units = subst (λ (v : Wanted). AreSeenUnits v (all_units (logs ++ l ∷ [])) new.units) looked.wanted
          (subst (λ (xs : List Facts). AreSeenUnits reasons.wanted xs new.units) (sym (flat-more units_in_range logs l)) (units (all_units logs) us));
      tables = subst (λ (v : Wanted). AreSeenTables (choice_value v.choice) (all_tables (logs ++ l ∷ [])) new.tables) looked.wanted
          (subst (λ (xs : List Table). AreSeenTables (choice_value reasons.wanted.choice) xs new.tables) (sym (flat-more (λ l. tables_named l.log) logs l)) seen);
    })
    (tables (all_tables logs) ts)
