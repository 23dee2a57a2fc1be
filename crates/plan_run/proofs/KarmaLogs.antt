-- What is accepted is a log of Karma.
use Rattle.std.proofs.Common.{◌≡◌, ◌⊎◌, ℕ, ◌+◌, ◌<◌, ◌≤◌, ◌^◌, Bool, true, false, cond, ◌&&◌, eqb, nat_le, List, [], ◌∷◌, ◌++◌, length, map, drop, Option, Some, None, refl, sym, ◌∙◌, ap, subst, inl, inr, arith, append_assoc}
use Rattle.std.specs.List.{All, list_all}
use Rattle.std.specs.Str.{bytes_eq}
use Rattle.std.proofs.lemmas.Bool.{cond-true, cond-false, and_parts, leb-false, eqb-true}
use Rattle.std.proofs.lemmas.List.{length-replicate}
use Rattle.std.proofs.lemmas.List.Elements.{All-nil, All-cons, All-replicate}
use Rattle.std.proofs.lemmas.List.Folds.{sum_by-replicate}
use Rattle.std.proofs.lemmas.Slice.Eq.{bytes_eq-Decides}
use Rattle.far_io.specs.Decimals.{value_of}
use Rattle.far_io.specs.Words.{words_of}
use Rattle.karma_rule.specs.declared.row.Share.{Share}
use Rattle.karma_rule.specs.declared.shape.Shape.{Shape}
use Rattle.karma_rule.specs.Limits.{IsPlan}
use Rattle.demand_book.specs.Book.{BookView, opening_book}
use Rattle.demand_book.specs.Roster.{fair_of_seat}
use Rattle.quantum_text.specs.declared.line_kind.LineKind.{LineKind}
use Rattle.quantum_text.specs.declared.line_kind.LineKind.TheVariants.{Quantum, Demand, Slices, Credits}
use Rattle.quantum_text.specs.LineKind.{limit_of, count_of, is_first}
use Rattle.quantum_text.specs.Block.{line_text, IsLine}
use Rattle.quantum_text.specs.Shares.{IsSeat}
use Rattle.run_end.specs.declared.TheConstants.{MOST_LINE}
use Rattle.run_end.specs.declared.status.Status.TheVariants.{Done}
use Rattle.plan_run.specs.Ending.{Ending}
use Rattle.plan_run.specs.SharesLine.{is_roster, roster_of_line}
use Rattle.plan_run.specs.AuditText.{numbers_of_line, due_numbers, due_roster, may_be_shares, wanted, compared, AuditState, audit_state, audit_one, audit_over, audit_end, audited, read_as, taken_as, judged, next_kind, with_seats, after_demands}
use Rattle.plan_run.specs.KarmaLog.{Cause, IsCause, after_cause, shares_lines, log_lines, IsKarmaLog}
use Rattle.plan_run.proofs.Choices.{some_in, some_out}
use Rattle.plan_run.proofs.SharesLines.{IsTold, roster_some, roster_from, same_roster_self}
use Rattle.plan_run.proofs.AuditLines.{all_within, compared_one, shares_need_demand}

-- a line that has numbers is one of its kind
line_some : (kind : LineKind) (users : ℕ) (line numbers : List ℕ) → numbers_of_line kind users line ≡ Some numbers → IsLine kind users line numbers
line_some kind users line numbers some =
    let read = map value_of (drop 1 (words_of line)) in
    let outer = some_in (nat_le (length line) MOST_LINE) _ numbers some in
    let inner = some_in (bytes_eq line (line_text kind read) && (eqb (length read) (count_of kind users)) && list_all (λ n. nat_le n (limit_of kind)) read) (Some read) numbers outer.1 in
    let same : read ≡ numbers = cc in
    let parts = and_parts _ _ inner.0 in
    let two = and_parts _ _ parts.0 in
    subst (IsLine kind users line) same (record {
      spelled = (bytes_eq-Decides line (line_text kind read)).0 two.0;
      many = eqb-true (length read) (count_of kind users) two.1;
      within = (all_within (limit_of kind) read).0 parts.1;
    })

-- one line of numbers after which all ended well
record Goes (book : BookView) (kind : LineKind) (shares_read : Bool) (lines : ℕ) (line : List ℕ) (others : AuditState → Ending) : Type 0 where
  numbers : List ℕ
  is_line : IsLine kind book.shape.users line numbers
  left : (is_first kind && nat_le (2 ^ 28) book.quanta) ≡ false
  on : (judged kind (audit_state book kind shares_read lines) line numbers others).end.status ≡ Done

-- one line of shares after which all ended well
record GoesOn (book : BookView) (kind : LineKind) (shares_read : Bool) (lines : ℕ) (line : List ℕ) (others : AuditState → Ending) : Type 0 where
  roster : List (Option Share)
  may_stand : may_be_shares kind shares_read ≡ true
  is_told : IsTold book.shape book.roster line roster
  on : (others (audit_state (with_seats book roster) Demand true (lines + 1))).end.status ≡ Done

bad_end : (spent : Bool) (one other : Ending) → (one.end.status ≡ Done → ⊥) → (other.end.status ≡ Done → ⊥) → (cond spent one other).end.status ≡ Done → ⊥
bad_end true one other first second done = first done
bad_end false one other first second done = second done

module _ (book : BookView) (kind : LineKind) (shares_read : Bool) (lines : ℕ) (line : List ℕ) (others : AuditState → Ending) where
  goes_as : (due : Option (List ℕ)) → due_numbers book kind line ≡ due → (read_as (audit_state book kind shares_read lines) line due others).end.status ≡ Done → Goes book kind shares_read lines line others
  goes_as None is done = absurd (bad_end (is_first kind && nat_le (2 ^ 28) book.quanta) _ _ (λ e. absurd (cc)) (λ e. absurd (cc)) done)
  goes_as (Some numbers) is done =
      let parts = some_out (is_first kind && nat_le (2 ^ 28) book.quanta) (numbers_of_line kind book.shape.users line) numbers is in
      record { numbers = numbers; is_line = line_some kind book.shape.users line numbers parts.1; left = parts.0; on = done }

  told_as : (due : Option (List (Option Share))) → due_roster book kind shares_read line ≡ due → (taken_as (audit_state book kind shares_read lines) line due others).end.status ≡ Done
      → GoesOn book kind shares_read lines line others ⊎ Goes book kind shares_read lines line others
  told_as None is done = inr (goes_as (due_numbers book kind line) refl done)
  told_as (Some roster) is done =
      let parts = some_in (may_be_shares kind shares_read) (roster_of_line book.shape book.roster line) roster is in
      inl (record { roster = roster; may_stand = parts.0; is_told = roster_some book.shape book.roster line roster parts.1; on = done })

  goes : (audit_one (audit_state book kind shares_read lines) line others).end.status ≡ Done → GoesOn book kind shares_read lines line others ⊎ Goes book kind shares_read lines line others
  goes done = told_as (due_roster book kind shares_read line) refl done

compared_well : (test : Bool) (one other : Ending) → (other.end.status ≡ Done → ⊥) → (cond test one other).end.status ≡ Done → (test ≡ true) × (one.end.status ≡ Done)
compared_well true one other bad done = (refl, done)
compared_well false one other bad done = absurd (bad done)

-- a line that is compared is the one that is wanted
record Same (book : BookView) (kind : LineKind) (lines : ℕ) (line : List ℕ) (others : AuditState → Ending) : Type 0 where
  line_is : line ≡ line_text kind (wanted kind book)
  left : (is_first kind && nat_le (2 ^ 28) book.quanta) ≡ false
  on : (others (audit_state book (next_kind kind) false (lines + 1))).end.status ≡ Done

same : (book : BookView) (kind : LineKind) (shares_read : Bool) (lines : ℕ) (line : List ℕ) (others : AuditState → Ending) → (kind ≡ Demand → ⊥) → (audit_one (audit_state book kind shares_read lines) line others).end.status ≡ Done
    → Same book kind lines line others
same book kind shares_read lines line others other done = elim (goes book kind shares_read lines line others done) [
  | inl shares ↦ absurd (other (shares_need_demand kind shares_read shares.may_stand).0)
  | inr here ↦
      let state = audit_state book kind shares_read lines in
      let on : (compared kind state line here.numbers others).end.status ≡ Done = subst (λ (ending : Ending). ending.end.status ≡ Done) (compared_one kind other state line here.numbers others) here.on in
      let both = compared_well (bytes_eq here.numbers (wanted kind book)) _ _ (λ e. absurd (cc)) on in
      record {
        line_is = here.is_line.spelled ∙ ap (line_text kind) ((bytes_eq-Decides here.numbers (wanted kind book)).0 both.0);
        left = here.left;
        on = both.1;
      }
]

-- ---- the lines of a log from this book on
pub record IsLogFrom (book : BookView) (lines : List (List ℕ)) : Type 0 where
  pub causes : List Cause
  pub many : book.quanta + length causes ≤ 2 ^ 28
  pub within : All (IsCause book.shape) causes
  pub lines_are : lines ≡ log_lines book causes

pub no_quanta : (book : BookView) → book.quanta ≤ 2 ^ 28 → IsLogFrom book []
unfolding log_lines
no_quanta book most = record { causes = []; many = omega arith; within = All-nil (IsCause book.shape); lines_are = refl }

-- these lines, and then those of a log from the book
pub record ComesTo (front : List (List ℕ)) (book : BookView) (lines : List (List ℕ)) : Type 0 where
  pub others : List (List ℕ)
  pub lines_are : lines ≡ front ++ others
  pub rest : IsLogFrom book others

pub one_more_line : (line wanted_line : List ℕ) (front lines : List (List ℕ)) (book : BookView) → line ≡ wanted_line → ComesTo front book lines → ComesTo (wanted_line ∷ front) book (line ∷ lines)
one_more_line line wanted_line front lines book is rest = record { others = rest.others; lines_are = let e = rest.lines_are in cc; rest = rest.rest }

abbrev pub credits_line : BookView → List (List ℕ)
credits_line book = line_text Credits (wanted Credits book) ∷ []

abbrev pub slices_lines : BookView → List (List ℕ)
slices_lines book = line_text Slices (wanted Slices book) ∷ credits_line book

-- the lines of a block after its number
abbrev pub demand_lines : BookView → List ℕ → List (List ℕ)
demand_lines book demands = line_text Demand demands ∷ slices_lines (after_demands book demands)

abbrev pub told_lines : BookView → Cause → List (List ℕ)
told_lines book cause = shares_lines book.roster cause.roster ++ demand_lines (with_seats book cause.roster) cause.demands

-- a quantum of these demands, for the book's roster
pub record HasDemands (book : BookView) (lines : List (List ℕ)) : Type 0 where
  pub demands : List ℕ
  pub users : length demands ≡ book.shape.users
  pub within : All (λ demand. demand ≤ 2 ^ 42) demands
  pub comes : ComesTo (demand_lines book demands) (after_demands book demands) lines

-- and one for a roster that may be told
pub record HasCause (book : BookView) (lines : List (List ℕ)) : Type 0 where
  pub cause : Cause
  pub within : IsCause book.shape cause
  pub comes : ComesTo (told_lines book cause) (after_cause book cause) lines

-- what is left to be read, by the line that is due
abbrev LeftBy : LineKind → Bool → BookView → List (List ℕ) → Type 0
LeftBy Quantum shares_read book lines = IsLogFrom book lines
LeftBy Demand true book lines = HasDemands book lines
LeftBy Demand false book lines = HasCause book lines
LeftBy Slices shares_read book lines = ComesTo (slices_lines book) book lines
LeftBy Credits shares_read book lines = ComesTo (credits_line book) book lines

-- where demands are due, a quantum is left for them
abbrev IsCounted : LineKind → ℕ → Type 0
IsCounted Quantum quanta = quanta ≤ 2 ^ 28
IsCounted Demand quanta = quanta < 2 ^ 28
IsCounted Slices quanta = quanta ≤ 2 ^ 28
IsCounted Credits quanta = quanta ≤ 2 ^ 28

pub one_quantum : (book : BookView) (line : List ℕ) (lines : List (List ℕ)) → line ≡ line_text Quantum (wanted Quantum book) → HasCause book lines → IsLogFrom book (line ∷ lines)
unfolding log_lines
one_quantum book line lines is it =
    let after = after_cause book it.cause in
    let regroup : (first : List ℕ) (xs ys zs : List (List ℕ)) → first ∷ ((xs ++ ys) ++ zs) ≡ (first ∷ xs) ++ (ys ++ zs) = λ first xs ys zs. ap (λ ls. first ∷ ls) (append_assoc xs ys zs) in
    record {
      causes = it.cause ∷ it.comes.rest.causes;
      many = let more : (book.quanta + 1) + length it.comes.rest.causes ≤ 2 ^ 28 = it.comes.rest.many in omega arith;
      within = All-cons (IsCause book.shape) it.cause it.comes.rest.causes it.within it.comes.rest.within;
      lines_are = ap (λ l. l ∷ lines) is ∙ ap (λ ls. line_text Quantum (wanted Quantum book) ∷ ls) it.comes.lines_are
          ∙ regroup (line_text Quantum (wanted Quantum book)) (shares_lines book.roster it.cause.roster) (demand_lines (with_seats book it.cause.roster) it.cause.demands) it.comes.others
          ∙ ap (λ ls. (line_text Quantum (wanted Quantum book) ∷ shares_lines book.roster it.cause.roster) ++ (demand_lines (with_seats book it.cause.roster) it.cause.demands ++ ls)) it.comes.rest.lines_are;
    }

-- demands for the roster of the block before, and for a roster that a line told
pub same_shares : (book : BookView) (lines : List (List ℕ)) → is_roster book.shape book.roster ≡ true → HasDemands book lines → HasCause book lines
same_shares book lines roster_is it =
    let none : shares_lines book.roster book.roster ≡ [] = cond-true _ _ _ (same_roster_self book.roster) in
    record {
      cause = record { roster = book.roster; demands = it.demands };
      within = record { roster = roster_is; users = it.users; within = it.within };
      comes = record { others = it.comes.others; lines_are = it.comes.lines_are ∙ ap (λ ls. (ls ++ demand_lines book it.demands) ++ it.comes.others) (sym none); rest = it.comes.rest };
    }

other_shares : (book : BookView) (line : List ℕ) (roster : List (Option Share)) (lines : List (List ℕ)) → IsTold book.shape book.roster line roster → HasDemands (with_seats book roster) lines → HasCause book (line ∷ lines)
other_shares book line roster lines told it =
    let one : shares_lines book.roster roster ≡ line ∷ [] = cond-false _ _ _ told.another ∙ ap (λ l. l ∷ []) (sym told.spelled) in
    record {
      cause = record { roster = roster; demands = it.demands };
      within = record { roster = told.roster_is; users = it.users; within = it.within };
      comes = record {
        others = it.comes.others;
        lines_are = ap (λ ls. line ∷ ls) it.comes.lines_are ∙ ap (λ ls. (ls ++ demand_lines (with_seats book roster) it.demands) ++ it.comes.others) (sym one);
        rest = it.comes.rest;
      };
    }

over_bad : (book : BookView) (kind : LineKind) (shares_read : Bool) (lines : ℕ) → (kind ≡ Quantum → ⊥) → (audit_over (audit_state book kind shares_read lines)).end.status ≡ Done → ⊥
over_bad book Quantum shares_read lines other done = other refl
over_bad book Demand shares_read lines other done = cc
over_bad book Slices shares_read lines other done = cc
over_bad book Credits shares_read lines other done = cc

-- demands that were read, and what comes after them
demands_read : (book : BookView) (line numbers : List ℕ) (lines : List (List ℕ)) → IsLine Demand book.shape.users line numbers → ComesTo (slices_lines (after_demands book numbers)) (after_demands book numbers) lines → HasDemands book (line ∷ lines)
demands_read book line numbers lines is_line rest = record {
  demands = numbers;
  users = is_line.many;
  within = is_line.within;
  comes = one_more_line line (line_text Demand numbers) (slices_lines (after_demands book numbers)) lines (after_demands book numbers) is_line.spelled rest;
}

log_from : (lines : List (List ℕ)) (kind : LineKind) (shares_read : Bool) (book : BookView) (number : ℕ) → IsCounted kind book.quanta → is_roster book.shape book.roster ≡ true
    → (audit_end (audit_state book kind shares_read number) lines).end.status ≡ Done → LeftBy kind shares_read book lines
unfolding audit_end
log_from [] Quantum shares_read book number counted roster_is done = no_quanta book counted
log_from [] Demand shares_read book number counted roster_is done = absurd (over_bad book Demand shares_read number (λ e. absurd (cc)) done)
log_from [] Slices shares_read book number counted roster_is done = absurd (over_bad book Slices shares_read number (λ e. absurd (cc)) done)
log_from [] Credits shares_read book number counted roster_is done = absurd (over_bad book Credits shares_read number (λ e. absurd (cc)) done)
log_from (line ∷ lines) Quantum shares_read book number counted roster_is done =
    let here = same book Quantum shares_read number line (λ next. audit_end next lines) (λ e. absurd (cc)) done in
    one_quantum book line lines here.line_is (log_from lines Demand false book (number + 1) (leb-false (2 ^ 28) book.quanta here.left) roster_is here.on)
log_from (line ∷ lines) Demand true book number counted roster_is done = elim (goes book Demand true number line (λ next. audit_end next lines) done) [
  | inl shares ↦ absurd (let none = shares.may_stand in cc)
  | inr here ↦ demands_read book line here.numbers lines here.is_line (log_from lines Slices false (after_demands book here.numbers) (number + 1) (let more : book.quanta < 2 ^ 28 = counted in omega arith) roster_is here.on)
]
log_from (line ∷ lines) Demand false book number counted roster_is done = elim (goes book Demand false number line (λ next. audit_end next lines) done) [
  | inl shares ↦ other_shares book line shares.roster lines shares.is_told (log_from lines Demand true (with_seats book shares.roster) (number + 1) counted shares.is_told.roster_is shares.on)
  | inr here ↦ same_shares book (line ∷ lines) roster_is
      (demands_read book line here.numbers lines here.is_line (log_from lines Slices false (after_demands book here.numbers) (number + 1) (let more : book.quanta < 2 ^ 28 = counted in omega arith) roster_is here.on))
]
log_from (line ∷ lines) Slices shares_read book number counted roster_is done =
    let here = same book Slices shares_read number line (λ next. audit_end next lines) (λ e. absurd (cc)) done in
    one_more_line line _ (credits_line book) lines book here.line_is (log_from lines Credits false book (number + 1) counted roster_is here.on)
log_from (line ∷ lines) Credits shares_read book number counted roster_is done =
    let here = same book Credits shares_read number line (λ next. audit_end next lines) (λ e. absurd (cc)) done in
    one_more_line line _ [] lines book here.line_is (record { others = lines; lines_are = refl; rest = log_from lines Quantum false book (number + 1) counted roster_is here.on })

pub from_opening : (shape : Shape) (lines : List (List ℕ)) → IsLogFrom (opening_book shape) lines → IsKarmaLog shape lines
from_opening shape lines log = record {
  causes = log.causes;
  many = let most : 0 + length log.causes ≤ 2 ^ 28 = log.many in omega arith;
  within = log.within;
  lines_are = log.lines_are;
}

-- the opening roster is one that a block may have
pub opening_roster : (shape : Shape) → IsPlan shape → is_roster shape (opening_book shape).roster ≡ true
opening_roster shape plan = roster_from shape (opening_book shape).roster (record {
  many = length-replicate shape.users (Some shape.share);
  within = All-replicate IsSeat shape.users (Some shape.share) (record { some = plan.fair.0; fair = plan.fair.1; floor = plan.floor });
  together = omega (arith, sum_by-replicate fair_of_seat shape.users (Some shape.share));
})

-- what is accepted is a log of Karma
pub accepts : (shape : Shape) (lines : List (List ℕ)) → IsPlan shape → (audited shape lines).end.status ≡ Done → IsKarmaLog shape lines
accepts shape lines plan done = from_opening shape lines (log_from lines Quantum false (opening_book shape) 0 (omega arith) (opening_roster shape plan) done)
