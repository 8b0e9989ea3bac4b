-- Which faults of a log come.
use Rattle.std.proofs.Common.{◌≡◌, ℕ, ◌^◌, ◌++◌, Bool, true, false, List, [], ◌∷◌, length, take, drop, Option, Some, None, refl, subst}
use Rattle.std.specs.Prelude.{◌==◌, ◌&&◌, if◌then◌else◌, map, nat_le, nat_lt, bytes_eq, is_some, option_map}
use Rattle.std.specs.List.{AllByRecursion}
use Rattle.std.specs.Option.{option_map_or}
use Rattle.std.proofs.lemmas.Option.{none-some, same_Some}
use Rattle.blog_event.specs.declared.fault.Fault.{Fault}
use Rattle.blog_event.specs.declared.fault.Fault.TheVariants.{NotABinlog, CutEvent, BadFormat, OldServer, TooLong}
use Rattle.blog_event.specs.Event.{Event, event_size, event_text, event_at}
use Rattle.blog_event.specs.Fault.{Cause, needs, first_failing, fault_at}
use Rattle.blog_event.specs.File.{Placed, magic, placed_from, end_of, read}
use Rattle.blog_event.specs.Format.{Version, version_of, version_text, binlog_version, header_length, is_old, server_checks, description_fault}
use Rattle.blog_event.specs.Opening.{front_fault}
use Rattle.blog_sum.specs.declared.fault.SumFault.{SumFault}
use Rattle.blog_sum.specs.declared.fault.SumFault.TheVariants.{Log, UnknownAlgorithm, WrongSum}
use Rattle.blog_sum.specs.Sums.{ends_in_its_sum, unless, sum_check, summed, algorithm_of, has_sums, sum_fault, is_of_a_front}

-- what a check says, if it fails
Says : {A : Type 0} → (A → Type 0) → Option A → Type 0
Says {A = A} P check = (failure : A) → check ≡ Some failure → P failure

says-none : {A : Type 0} (P : A → Type 0) → Says P None
unfolding Says
says-none P failure is = absurd (none-some failure is)

says-some : {A : Type 0} (P : A → Type 0) (failure : A) → P failure → Says P (Some failure)
unfolding Says
says-some P failure holds other is = subst P (same_Some failure other is) holds

-- the first of checks says what one of them does
says-first : {A : Type 0} (P : A → Type 0) (checks : List (Option A)) → AllByRecursion (Says P) checks → Says P (first_failing checks)
says-first P [] all = says-none P
says-first P (None ∷ checks) all = says-first P checks all.1
says-first P (Some failure ∷ checks) all = all.0

-- ---- the front

-- a fault of a front
Front : Fault → Type 0
Front fault = is_of_a_front fault ≡ true

FrontCause : Cause → Type 0
FrontCause cause = (pos : ℕ) → is_of_a_front (cause pos) ≡ true

says-needs : (test : Bool) (cause : Cause) → FrontCause cause → Says FrontCause (needs test cause)
says-needs true cause holds = says-none FrontCause
says-needs false cause holds = says-some FrontCause cause holds

says-at : (pos : ℕ) (check : Option Cause) → Says FrontCause check → Says Front (fault_at pos check)
unfolding Says Front FrontCause
says-at pos None says = says-none Front
says-at pos (Some cause) says = says-some Front (cause pos) (says cause refl pos)

bad-format : FrontCause BadFormat
unfolding FrontCause
bad-format pos = refl

old-server : FrontCause OldServer
unfolding FrontCause
old-server pos = refl

says-either : (old test other : Bool) → Says FrontCause (if old then needs test BadFormat else needs other BadFormat)
says-either true test other = says-needs test BadFormat bad-format
says-either false test other = says-needs other BadFormat bad-format

says-server : (v : Option Version) (body : List ℕ) → AllByRecursion (Says FrontCause) (server_checks v body)
says-server None body = (says-some FrontCause OldServer old-server, tt)
says-server (Some v) body = (says-either (is_old v) _ _, tt)

says-description : (e : Event) → Says FrontCause (description_fault e)
unfolding description_fault
says-description e =
    let fixed : Bool = binlog_version e.body == 4 && header_length e.body == 19 in
    let server : List (Option Cause) = server_checks (version_of (version_text e.body)) e.body in
    let all : AllByRecursion (Says FrontCause)
    (needs (e.kind == 15) BadFormat ∷ needs (nat_le 57 (length e.body)) BadFormat ∷ needs fixed BadFormat ∷ server) = (
      says-needs (e.kind == 15) BadFormat bad-format,
      (
        says-needs (nat_le 57 (length e.body)) BadFormat bad-format,
        (says-needs fixed BadFormat bad-format, says-server (version_of (version_text e.body)) e.body),
      ),
    ) in
    says-first FrontCause (needs (e.kind == 15) BadFormat ∷ needs (nat_le 57 (length e.body)) BadFormat ∷ needs fixed BadFormat ∷ server) all

says-of : (found : Option Event) → Says FrontCause (option_map_or description_fault found None)
says-of None = says-none FrontCause
says-of (Some e) = says-description e

too-long : FrontCause TooLong
unfolding FrontCause
too-long pos = refl

unmarked : FrontCause NotABinlog
unfolding FrontCause
unmarked pos = refl

cut : FrontCause CutEvent
unfolding FrontCause
cut pos = refl

says-front : (bytes : List ℕ) → Says Front (front_fault bytes)
unfolding front_fault
says-front bytes =
    let found : Option Event = event_at (drop 4 bytes) in
    let short : Option Cause = needs (nat_lt (length bytes) (2 ^ 32)) TooLong in
    let mark : Option Cause = needs (bytes_eq (take 4 bytes) magic) NotABinlog in
    let there : Option Cause = needs (is_some found) CutEvent in
    let format : Option Cause = option_map_or description_fault found None in
    let checks : List (Option Fault) = fault_at 0 short ∷ fault_at 0 mark ∷ fault_at 4 there ∷ fault_at 4 format ∷ [] in
    let all : AllByRecursion (Says Front) checks = (
      says-at 0 short (says-needs (nat_lt (length bytes) (2 ^ 32)) TooLong too-long),
      (
        says-at 0 mark (says-needs (bytes_eq (take 4 bytes) magic) NotABinlog unmarked),
        (says-at 4 there (says-needs (is_some found) CutEvent cut), (says-at 4 format (says-of found), tt)),
      ),
    ) in
    says-first Front checks all

-- ---- the sums

-- if it is a fault of a log, one of a front
OfFront : SumFault → Type 0
OfFront fault = (of_log : Fault) → fault ≡ Log of_log → is_of_a_front of_log ≡ true

says-log : (front : Option Fault) → Says Front front → Says OfFront (option_map Log front)
unfolding Says Front OfFront
says-log None says = says-none OfFront
says-log (Some fault) says = says-some OfFront (Log fault) (λ of_log is. let same : fault ≡ of_log = cc in subst (λ (fault : Fault). is_of_a_front fault ≡ true) same (says fault refl))

says-unless : (test : Bool) (fault : SumFault) → OfFront fault → Says OfFront (unless test fault)
says-unless true fault holds = says-none OfFront
says-unless false fault holds = says-some OfFront fault holds

cut-at : (pos : ℕ) → OfFront (Log (CutEvent pos))
unfolding OfFront
cut-at pos of_log is = let same : CutEvent pos ≡ of_log = cc in subst (λ (fault : Fault). is_of_a_front fault ≡ true) same refl

wrong : (pos : ℕ) → OfFront (WrongSum pos)
unfolding OfFront
wrong pos of_log is = absurd (cc)

unknown : (pos : ℕ) → OfFront (UnknownAlgorithm pos)
unfolding OfFront
unknown pos of_log is = absurd (cc)

says-sum : (p : Placed) → Says OfFront (sum_check p)
says-sum p =
    let room : Bool = nat_le 23 (event_size p.event) in
    let sum : Bool = ends_in_its_sum (event_text p.event) in
    let checks : List (Option SumFault) = unless room (Log (CutEvent p.pos)) ∷ unless sum (WrongSum p.pos) ∷ [] in
    let all : AllByRecursion (Says OfFront) checks =
    (says-unless room (Log (CutEvent p.pos)) (cut-at p.pos), (says-unless sum (WrongSum p.pos) (wrong p.pos), tt)) in
    says-first OfFront checks all

-- the sums of events, and a check behind them
says-sums : (ps : List Placed) (last : Option SumFault) → Says OfFront last → AllByRecursion (Says OfFront) (map sum_check ps ++ last ∷ [])
says-sums [] last says = (says, tt)
says-sums (p ∷ ps) last says = (says-sum p, says-sums ps last says)

says-if : (sums : Bool) (ps : List Placed) (last : Option SumFault) → Says OfFront last
    → AllByRecursion (Says OfFront) ((if sums then map sum_check ps else []) ++ last ∷ [])
says-if true ps last says = says-sums ps last says
says-if false ps last says = (says, tt)

says-fault : (bytes : List ℕ) → Says OfFront (sum_fault bytes)
unfolding sum_fault
says-fault bytes =
    let ps : List Placed = placed_from 4 (summed (read bytes None)) in
    let end : ℕ = end_of 4 (read bytes None) in
    let known : Bool = nat_le (algorithm_of bytes) 1 in
    let last : Option SumFault = unless (end == length bytes) (Log (CutEvent end)) in
    let checks : List (Option SumFault) =
    option_map Log (front_fault bytes) ∷ unless known (UnknownAlgorithm 4) ∷ ((if has_sums bytes then map sum_check ps else []) ++ last ∷ []) in
    let all : AllByRecursion (Says OfFront) checks = (
      says-log (front_fault bytes) (says-front bytes),
      (
        says-unless known (UnknownAlgorithm 4) (unknown 4),
        says-if (has_sums bytes) ps last (says-unless (end == length bytes) (Log (CutEvent end)) (cut-at end)),
      ),
    ) in
    says-first OfFront checks all

pub faults_of_front : (bytes : List ℕ) (fault : Fault) → sum_fault bytes ≡ Some (Log fault) → is_of_a_front fault ≡ true
unfolding Says OfFront
faults_of_front bytes fault is = says-fault bytes (Log fault) is fault refl
