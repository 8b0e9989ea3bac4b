-- Chosen units, whose groups are gathered one after the other.
use Rattle.std.proofs.Common.{◌≡◌, ◌<◌, ℕ, Bool, true, false, ◌&&◌, List, [], ◌∷◌, ◌++◌, length, map, Option, Some, None, Ok, Err, refl, sym, ap, ap₂, subst, ◌∙◌, inl, inr, append_assoc, append-nil}
use Rattle.std.specs.Prelude.{is_some, not, ⊤}
use Rattle.std.specs.List.{AllByRecursion}
use Rattle.std.proofs.lemmas.Bool.{cond-false, cond-true}
use Rattle.std.proofs.lemmas.List.{map-append}
use Rattle.std.proofs.lemmas.List.Elements.{filter-append}
use Rattle.blog_device.specs.declared.fault.RunFault.TheVariants as run
use Rattle.blog_event.specs.declared.fault.Fault.{Fault}
use Rattle.blog_gathered.specs.Gathered.{IsSoundRange, Range, gathered_text}
use Rattle.blog_gathered.specs.code.GatheredView.{Adds as AddsRange, IsGathered, bytes_gathered}
use Rattle.blog_gathered.specs.declared.fault.GatherFault.TheVariants as gather
use Rattle.blog_gathered.specs.declared.gathered.Gathered.{Gathered}
use Rattle.blog_later.specs.Among.{chosen_of}
use Rattle.blog_later.specs.Later.{leaves_alone}
use Rattle.blog_request.specs.declared.wanted.Wanted.{Wanted}
use Rattle.blog_sum.specs.declared.fault.SumFault.{SumFault}
use Rattle.blog_trans.specs.Acceptance.{IsRefusal, fault}
use Rattle.blog_trans.specs.Changes.{changes}
use Rattle.blog_trans.specs.Selection.{Selection, all}
use Rattle.blog_units.specs.Units.{Facts, range_of_unit}
use Rattle.undo_run.specs.Units.{AreAccepted, IsFirstRefused, IsUnitAccepted, chosen_range, chosen_units, is_chosen, is_left_out, is_meant, kept_log, tables_in, units_of_part}
use Rattle.undo_run.specs.code.Steps.{Adds, Chooses, Gathers, HandsGroups, HasChosen, IsKept, chosen_changes}
use Rattle.undo_run.specs.declared.chosen.Chosen.{Chosen}
use Rattle.undo_run.specs.declared.fault.PartFault.{PartFault}
use Rattle.undo_run.specs.declared.fault.PartFault.TheVariants.{Run, Sums, NoEventAt, NoUnitAt, NoUnitWithGtid, Log, NothingSelected, LaterLog, ChangedSince, UnknownSince, Unmerged, TooLong, NoSchema}

-- ---- one more

-- the groups of some units are gathered, which begin with this one, as soon as one more is
abbrev pub IsReady : {A : Type 0} → Selection → List ℕ → List Facts → Facts → Gathered A → Type 0
IsReady sel handed us u gathered = (v : Facts) × (ws : List Facts) × (us ++ u ∷ [] ≡ v ∷ ws) × IsGathered (chosen_range sel handed v) (map (chosen_range sel handed) us) gathered

pub ready-more : {A : Type 0} (sel : Selection) (handed : List ℕ) (us : List Facts) (u : Facts) (gathered : Gathered A) → IsKept sel handed us (Some gathered) → IsReady sel handed us u gathered
ready-more sel handed us u gathered (v, ws, is, are) = (v, ws ++ u ∷ [], ap (λ (vs : List Facts). vs ++ u ∷ []) is, are)

pub ready-first : {A : Type 0} (sel : Selection) (handed : List ℕ) (us : List Facts) (u : Facts) (r : Range) (gathered : Gathered A) → us ≡ [] → r ≡ chosen_range sel handed u → IsGathered r [] gathered → IsReady sel handed us u gathered
ready-first sel handed us u r gathered none is are = (
  u,
  [],
  ap (λ (vs : List Facts). vs ++ u ∷ []) none,
  subst (λ (vs : List Facts). IsGathered (chosen_range sel handed u) (map (chosen_range sel handed) vs) gathered) (sym none) (subst (λ (f : Range). IsGathered f [] gathered) is are),
)

ranges-more : (sel : Selection) (handed : List ℕ) (us : List Facts) (u : Facts) (r : Range) → r ≡ chosen_range sel handed u → map (chosen_range sel handed) us ++ r ∷ [] ≡ map (chosen_range sel handed) (us ++ u ∷ [])
ranges-more sel handed us u r is = ap (λ (x : Range). map (chosen_range sel handed) us ++ x ∷ []) is ∙ sym (map-append (chosen_range sel handed) us (u ∷ []))

kept-text : (sel : Selection) (handed : List ℕ) (us : List Facts) (v : Facts) (ws : List Facts) → us ≡ v ∷ ws → kept_log sel handed us ≡ gathered_text (chosen_range sel handed v) (map (chosen_range sel handed) us)
kept-text sel handed us v ws is = ap (kept_log sel handed) is ∙ ap (λ (vs : List Facts). gathered_text (chosen_range sel handed v) (map (chosen_range sel handed) vs)) (sym is)

pub gathers-more : {A : Type 0} (sel : Selection) (handed : List ℕ) (us : List Facts) (u : Facts) (r : Range) (old new : Gathered A) (done : ⊤) → r ≡ chosen_range sel handed u → IsReady sel handed us u old
    → ((first : Range) (rs : List Range) → IsGathered first rs old → AddsRange first rs r new (Ok done)) → IsKept sel handed (us ++ u ∷ []) (Some new)
gathers-more sel handed us u r old new done is (v, ws, begins, are) adds =
    (v, ws, begins, subst (λ (rs : List Range). IsGathered (chosen_range sel handed v) rs new) (ranges-more sel handed us u r is) (adds (chosen_range sel handed v) (map (chosen_range sel handed) us) are))

pub gathers-too-long : {A : Type 0} (sel : Selection) (handed : List ℕ) (us : List Facts) (u : Facts) (r : Range) (old new : Gathered A) → r ≡ chosen_range sel handed u → IsReady sel handed us u old
    → ((first : Range) (rs : List Range) → IsGathered first rs old → AddsRange first rs r new (Err gather.TooLong)) → 4294967295 < length (kept_log sel handed (us ++ u ∷ []))
gathers-too-long sel handed us u r old new is (v, ws, begins, are) adds =
    let (same, long) = adds (chosen_range sel handed v) (map (chosen_range sel handed) us) are in
    subst (λ (text : List ℕ). 4294967295 < length text)
    (ap (gathered_text (chosen_range sel handed v)) (ranges-more sel handed us u r is) ∙ sym (kept-text sel handed (us ++ u ∷ []) v ws begins)) long

-- the rows that one more left are kept too
pub list-more : (sel : Selection) (handed : List ℕ) (us : List Facts) (u : Facts) → chosen_changes sel handed (us ++ u ∷ []) ≡ chosen_changes sel handed us ++ changes handed (range_of_unit sel u) ∷ []
list-more sel handed us u = map-append (λ (v : Facts). changes handed (range_of_unit sel v)) us (u ∷ [])

pub not-gathered : {B : Type 0} (looks : Bool) (sel : Selection) (handed : List ℕ) (us : List Facts) (cause : PartFault B) → Gathers {A = B} sel handed us (Err cause) → Adds {A = B} looks sel handed us (Err cause)
not-gathered looks sel handed us (Run (run.Log f)) is = is
not-gathered looks sel handed us TooLong long = long
not-gathered looks sel handed us (Run run.Read) none = absurd none
not-gathered looks sel handed us (Run run.Write) none = absurd none
not-gathered looks sel handed us (Sums f) none = absurd none
not-gathered looks sel handed us (NoEventAt pos) none = absurd none
not-gathered looks sel handed us (NoUnitAt place) none = absurd none
not-gathered looks sel handed us (NoUnitWithGtid gtid) none = absurd none
not-gathered looks sel handed us (Log f) none = absurd none
not-gathered looks sel handed us (LaterLog n f) none = absurd none
not-gathered looks sel handed us (ChangedSince rows lines) none = absurd none
not-gathered looks sel handed us (UnknownSince lines) none = absurd none
not-gathered looks sel handed us (NoSchema text) none = absurd none
not-gathered looks sel handed us (Unmerged lines) none = absurd none
not-gathered looks sel handed us NothingSelected none = absurd none

-- ---- what is kept

pub kept-bytes : {A : Type 0} (sel : Selection) (handed : List ℕ) (us : List Facts) (gathered : Gathered A) → IsKept sel handed us (Some gathered) → bytes_gathered gathered ≡ kept_log sel handed us
kept-bytes sel handed us gathered (v, ws, is, are) = are.text ∙ sym (kept-text sel handed us v ws is)

ranges-accepted : (sel : Selection) (handed : List ℕ) (us : List Facts) → AllByRecursion IsSoundRange (map (chosen_range sel handed) us) → AreAccepted sel handed us
ranges-accepted sel handed [] are = tt
ranges-accepted sel handed (u ∷ us) ((bytes, accepted), are) = (accepted, ranges-accepted sel handed us are)

pub kept-accepted : {A : Type 0} (sel : Selection) (handed : List ℕ) (us : List Facts) (gathered : Option (Gathered A)) → IsKept sel handed us gathered → AreAccepted sel handed us
kept-accepted sel handed us None none = subst (AreAccepted sel handed) (sym none) tt
kept-accepted sel handed us (Some gathered) (v, ws, is, are) = ranges-accepted sel handed us are.sound

accepted-more : (sel : Selection) (handed : List ℕ) (us : List Facts) (u : Facts) → AreAccepted sel handed us → IsUnitAccepted sel handed u → AreAccepted sel handed (us ++ u ∷ [])
accepted-more sel handed [] u are is = (is, tt)
accepted-more sel handed (v ∷ us) u (first, are) is = (first, accepted-more sel handed us u are is)

-- ---- on the way through the units

pub record AreChosen {A : Type 0} (looks : Bool) (p : Facts → Bool) (sel : Selection) (handed : List ℕ) (chosen : Chosen A) (marks : List Bool) (left : List Facts) : Type 0 where
  pub done : List Facts
  pub whole : done ++ left ≡ units_of_part sel handed
  pub has : HasChosen looks sel handed (chosen_of p done) chosen
  pub marked : marks ≡ map p done

whole-more : (every done rest left : List Facts) (u : Facts) → done ++ left ≡ every → left ≡ u ∷ rest → (done ++ u ∷ []) ++ rest ≡ every
whole-more every done rest left u whole first = append_assoc done (u ∷ []) rest ∙ ap (λ (xs : List Facts). done ++ xs) (sym first) ∙ whole

chosen-in : (p : Facts → Bool) (us : List Facts) (u : Facts) → p u ≡ true → chosen_of p (us ++ u ∷ []) ≡ chosen_of p us ++ u ∷ []
chosen-in p us u is = filter-append p us (u ∷ []) ∙ ap (λ (vs : List Facts). chosen_of p us ++ vs) (cond-true (p u) (u ∷ []) [] is)

chosen-out : (p : Facts → Bool) (us : List Facts) (u : Facts) → p u ≡ false → chosen_of p (us ++ u ∷ []) ≡ chosen_of p us
chosen-out p us u is = filter-append p us (u ∷ []) ∙ ap (λ (vs : List Facts). chosen_of p us ++ vs) (cond-false (p u) (u ∷ []) [] is) ∙ append-nil (chosen_of p us)

-- one more is marked
marked-more : (p : Facts → Bool) (us : List Facts) (u : Facts) (marks more : List Bool) (mark : Bool) → marks ≡ map p us → mark ≡ p u → more ≡ marks ++ mark ∷ [] → more ≡ map p (us ++ u ∷ [])
marked-more p us u marks more mark are is next = next ∙ ap₂ (λ (ms : List Bool) (m : Bool). ms ++ m ∷ []) are is ∙ sym (map-append p us (u ∷ []))

pub chosen-none : {A : Type 0} (looks : Bool) (p : Facts → Bool) (sel : Selection) (handed : List ℕ) (chosen : Chosen A) (marks : List Bool) (left : List Facts) → marks ≡ [] → left ≡ units_of_part sel handed → HasChosen looks sel handed [] chosen
    → AreChosen looks p sel handed chosen marks left
chosen-none looks p sel handed chosen marks left none same has = record { done = []; whole = same; has = has; marked = none }

pub chosen-more : {A : Type 0} (looks : Bool) (p : Facts → Bool) (sel : Selection) (handed : List ℕ) (old new : Chosen A) (marks more : List Bool) (mark : Bool) (left rest : List Facts) (u : Facts) → (s : AreChosen looks p sel handed old marks left) → left ≡ u ∷ rest → mark ≡ p u → mark ≡ true
    → more ≡ marks ++ mark ∷ [] → HasChosen looks sel handed (chosen_of p s.done ++ u ∷ []) new → AreChosen looks p sel handed new more rest
chosen-more looks p sel handed old new marks more mark left rest u s first told is next has = record {
  done = s.done ++ u ∷ [];
  whole = whole-more (units_of_part sel handed) s.done rest left u s.whole first;
  has = subst (λ (us : List Facts). HasChosen looks sel handed us new) (sym (chosen-in p s.done u (sym told ∙ is))) has;
  marked = marked-more p s.done u marks more mark s.marked told next;
}

pub chosen-other : {A : Type 0} (looks : Bool) (p : Facts → Bool) (sel : Selection) (handed : List ℕ) (chosen : Chosen A) (marks more : List Bool) (mark : Bool) (left rest : List Facts) (u : Facts) → AreChosen looks p sel handed chosen marks left → left ≡ u ∷ rest → mark ≡ p u → mark ≡ false
    → more ≡ marks ++ mark ∷ [] → AreChosen looks p sel handed chosen more rest
chosen-other looks p sel handed chosen marks more mark left rest u s first told is next = record {
  done = s.done ++ u ∷ [];
  whole = whole-more (units_of_part sel handed) s.done rest left u s.whole first;
  has = subst (λ (us : List Facts). HasChosen looks sel handed us chosen) (sym (chosen-out p s.done u (sym told ∙ is))) s.has;
  marked = marked-more p s.done u marks more mark s.marked told next;
}

-- all are gone through
pub all-chosen : {A : Type 0} (looks : Bool) (p : Facts → Bool) (sel : Selection) (handed : List ℕ) (chosen : Chosen A) (marks : List Bool) (left : List Facts) → AreChosen looks p sel handed chosen marks left → left ≡ []
    → HasChosen looks sel handed (chosen_units p sel handed) chosen × (marks ≡ map p (units_of_part sel handed))
all-chosen looks p sel handed chosen marks left s none =
    let every : s.done ≡ units_of_part sel handed = sym (append-nil s.done) ∙ ap (λ (xs : List Facts). s.done ++ xs) (sym none) ∙ s.whole in
    (subst (λ (us : List Facts). HasChosen looks sel handed (chosen_of p us) chosen) every s.has, s.marked ∙ ap (map p) every)

pub damaged-after : {A : Type 0} (B : Type 0) (looks : Bool) (p : Facts → Bool) (sel : Selection) (handed : List ℕ) (end : ℕ) (chosen : Chosen A) (marks : List Bool) (left : List Facts) (damage : Option SumFault) (f : SumFault) → AreChosen looks p sel handed chosen marks left → left ≡ []
    → damage ≡ Some f → Chooses {A = B} looks p sel handed end damage (Err (Sums f))
damaged-after B looks p sel handed end chosen marks left damage f s none is =
    let (has, marked) = all-chosen looks p sel handed chosen marks left s none in (is, inl (kept-accepted sel handed (chosen_units p sel handed) chosen.gathered has.kept))

-- ---- one that is asked for

-- it is chosen where it is accepted, or isn't left out
pub meant-chosen : (w : Wanted) (at : List ℕ) (sel : Selection) (handed : List ℕ) (u : Facts) → is_meant w at handed u ≡ true → is_left_out sel handed u ≡ false → is_chosen w at sel handed u ≡ true
meant-chosen w at sel handed u is kept = ap₂ (λ (a b : Bool). a && not b) is kept

pub not-meant : (w : Wanted) (at : List ℕ) (sel : Selection) (handed : List ℕ) (u : Facts) → is_meant w at handed u ≡ false → is_chosen w at sel handed u ≡ false
not-meant w at sel handed u isnt = ap (λ (a : Bool). a && not (is_left_out sel handed u)) isnt

pub accepted-kept : (sel : Selection) (handed : List ℕ) (u : Facts) → IsUnitAccepted sel handed u → is_left_out sel handed u ≡ false
accepted-kept sel handed u accepted = ap (λ (f : Option Fault). is_some f && (u.whole && leaves_alone (tables_in sel) handed u)) accepted

and-false : (a b : Bool) → b ≡ false → (a && b) ≡ false
and-false true b e = e
and-false false b e = refl

pub concerned-kept : (sel : Selection) (handed : List ℕ) (u : Facts) → (u.whole && leaves_alone (tables_in sel) handed u) ≡ false → is_left_out sel handed u ≡ false
concerned-kept sel handed u concerns = and-false (is_some (fault handed (range_of_unit sel u))) _ concerns

-- a statement that leaves the tables alone isn't
pub left-out : (w : Wanted) (at : List ℕ) (sel : Selection) (handed : List ℕ) (u : Facts) (inner : Fault) → fault handed (range_of_unit sel u) ≡ Some inner → (u.whole && leaves_alone (tables_in sel) handed u) ≡ true → is_chosen w at sel handed u ≡ false
left-out w at sel handed u inner refused alone =
    and-false (is_meant w at handed u) _ (ap not (ap (λ (f : Option Fault). is_some f && (u.whole && leaves_alone (tables_in sel) handed u)) refused ∙ alone))

-- ---- one that is refused

chosen-split : (p : Facts → Bool) (sel : Selection) (handed : List ℕ) (done left rest : List Facts) (u : Facts) → done ++ left ≡ units_of_part sel handed → left ≡ u ∷ rest → p u ≡ true
    → chosen_units p sel handed ≡ chosen_of p done ++ u ∷ chosen_of p rest
chosen-split p sel handed done left rest u whole first is =
    ap (chosen_of p) (sym whole ∙ ap (λ (xs : List Facts). done ++ xs) first) ∙ filter-append p done (u ∷ rest)
    ∙ ap (λ (vs : List Facts). chosen_of p done ++ vs) (cond-true (p u) (u ∷ chosen_of p rest) (chosen_of p rest) is)

pub first-refused : {A : Type 0} (looks : Bool) (p : Facts → Bool) (sel : Selection) (handed : List ℕ) (chosen : Chosen A) (marks : List Bool) (left rest : List Facts) (u : Facts) (inner : Fault) → AreChosen looks p sel handed chosen marks left → left ≡ u ∷ rest → p u ≡ true
    → IsRefusal (fault handed (range_of_unit sel u)) inner → IsFirstRefused p sel handed inner
first-refused looks p sel handed chosen marks left rest u inner s first is refused = record {
  before = chosen_of p s.done;
  unit = u;
  rest = chosen_of p rest;
  chosen = chosen-split p sel handed s.done left rest u s.whole first is;
  accepted = kept-accepted sel handed (chosen_of p s.done) chosen.gathered s.has.kept;
  refused = refused;
}

-- its groups aren't handed out
pub not-handed : {A : Type 0} (looks : Bool) (p : Facts → Bool) (sel : Selection) (handed : List ℕ) (end : ℕ) (damage : Option SumFault) (chosen : Chosen A) (marks : List Bool) (left rest : List Facts) (u : Facts) (cause : PartFault A)
    → AreChosen looks p sel handed chosen marks left → left ≡ u ∷ rest → HandsGroups p sel handed end damage u (Err cause) → Chooses looks p sel handed end damage (Err cause)
not-handed looks p sel handed end damage chosen marks left rest u (Run (run.Log f)) s first fails = fails
not-handed looks p sel handed end damage chosen marks left rest u (Sums f) s first (is, (inner, refused, (damaged, ends))) = (damaged, inr (inner, first-refused looks p sel handed chosen marks left rest u inner s first is refused, ends))
not-handed looks p sel handed end damage chosen marks left rest u (Log f) s first (is, (inner, refused, (own, placed))) = inl (inner, first-refused looks p sel handed chosen marks left rest u inner s first is refused, own, placed)
not-handed looks p sel handed end damage chosen marks left rest u (Run run.Read) s first (is, (inner, refused, none)) = absurd none
not-handed looks p sel handed end damage chosen marks left rest u (Run run.Write) s first (is, (inner, refused, none)) = absurd none
not-handed looks p sel handed end damage chosen marks left rest u (NoEventAt pos) s first (is, (inner, refused, none)) = absurd none
not-handed looks p sel handed end damage chosen marks left rest u (NoUnitAt place) s first (is, (inner, refused, none)) = absurd none
not-handed looks p sel handed end damage chosen marks left rest u (NoUnitWithGtid gtid) s first (is, (inner, refused, none)) = absurd none
not-handed looks p sel handed end damage chosen marks left rest u (LaterLog n f) s first (is, (inner, refused, none)) = absurd none
not-handed looks p sel handed end damage chosen marks left rest u (ChangedSince rows lines) s first (is, (inner, refused, none)) = absurd none
not-handed looks p sel handed end damage chosen marks left rest u (UnknownSince lines) s first (is, (inner, refused, none)) = absurd none
not-handed looks p sel handed end damage chosen marks left rest u (NoSchema text) s first (is, (inner, refused, none)) = absurd none
not-handed looks p sel handed end damage chosen marks left rest u (Unmerged lines) s first (is, (inner, refused, none)) = absurd none
not-handed looks p sel handed end damage chosen marks left rest u NothingSelected s first (is, (inner, refused, none)) = absurd none
not-handed looks p sel handed end damage chosen marks left rest u TooLong s first (is, (inner, refused, none)) = absurd none

-- the groups of one more can't be added
pub not-added : {A B : Type 0} (looks : Bool) (p : Facts → Bool) (sel : Selection) (handed : List ℕ) (end : ℕ) (damage : Option SumFault) (chosen : Chosen A) (marks : List Bool) (left rest : List Facts) (u : Facts) (cause : PartFault B)
    → (s : AreChosen looks p sel handed chosen marks left) → left ≡ u ∷ rest → p u ≡ true → IsUnitAccepted sel handed u → Adds looks sel handed (chosen_of p s.done ++ u ∷ []) (Err cause)
    → Chooses looks p sel handed end damage (Err cause)
not-added looks p sel handed end damage chosen marks left rest u (Run (run.Log f)) s first is accepted fails = fails
not-added looks p sel handed end damage chosen marks left rest u TooLong s first is accepted long = (
  chosen_of p s.done ++ u ∷ [],
  chosen_of p rest,
  chosen-split p sel handed s.done left rest u s.whole first is ∙ sym (append_assoc (chosen_of p s.done) (u ∷ []) (chosen_of p rest)),
  accepted-more sel handed (chosen_of p s.done) u (kept-accepted sel handed (chosen_of p s.done) chosen.gathered s.has.kept) accepted,
  long,
)
not-added looks p sel handed end damage chosen marks left rest u (Run run.Read) s first is accepted none = absurd none
not-added looks p sel handed end damage chosen marks left rest u (Run run.Write) s first is accepted none = absurd none
not-added looks p sel handed end damage chosen marks left rest u (Sums f) s first is accepted none = absurd none
not-added looks p sel handed end damage chosen marks left rest u (NoEventAt pos) s first is accepted none = absurd none
not-added looks p sel handed end damage chosen marks left rest u (NoUnitAt place) s first is accepted none = absurd none
not-added looks p sel handed end damage chosen marks left rest u (NoUnitWithGtid gtid) s first is accepted none = absurd none
not-added looks p sel handed end damage chosen marks left rest u (Log f) s first is accepted none = absurd none
not-added looks p sel handed end damage chosen marks left rest u (LaterLog n f) s first is accepted none = absurd none
not-added looks p sel handed end damage chosen marks left rest u (ChangedSince rows lines) s first is accepted none = absurd none
not-added looks p sel handed end damage chosen marks left rest u (UnknownSince lines) s first is accepted none = absurd none
not-added looks p sel handed end damage chosen marks left rest u (NoSchema text) s first is accepted none = absurd none
not-added looks p sel handed end damage chosen marks left rest u (Unmerged lines) s first is accepted none = absurd none
not-added looks p sel handed end damage chosen marks left rest u NothingSelected s first is accepted none = absurd none
