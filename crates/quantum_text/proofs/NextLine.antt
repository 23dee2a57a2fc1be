-- What the next line of a source tells of a line of a block.
use Rattle.std.proofs.Common.{◌≡◌, ◌≢◌, ℕ, ◌<◌, ◌≤◌, Bool, true, false, List, [], length, Option, Some, refl, sym, ◌∙◌, ap, subst, inl, inr, arith}
use Rattle.std.proofs.lemmas.List.{length-map}
use Rattle.far_io.specs.Faults.{one_more}
use Rattle.far_io.specs.Left.{IsAtEnd}
use Rattle.far_io.specs.LineView.{LineView}
use Rattle.far_io.specs.Lines.{line_of, after_line, lines_of, IsFirstLine}
use Rattle.far_io.specs.Reads.{ReadsLine, ReadsEnd, ReadsTooLong}
use Rattle.far_io.proofs.LineLaws.{lines_of_none, line_of_none}
use Rattle.karma_rule.specs.declared.row.Share.{Share}
use Rattle.karma_rule.specs.declared.shape.Shape.{Shape}
use Rattle.demand_book.specs.declared.report.Report.{Report}
use Rattle.demand_book.specs.Roster.{seat_of}
use Rattle.quantum_text.specs.declared.line_kind.LineKind.{LineKind}
use Rattle.quantum_text.specs.declared.line_kind.LineKind.TheVariants.{Quantum, Demand, Slices, Credits}
use Rattle.quantum_text.specs.declared.read.ReportTextEnd.{ReportTextEnd}
use Rattle.quantum_text.specs.declared.read.ReportTextEnd.TheVariants.{End, BadLine, ReadFault}
use Rattle.quantum_text.specs.LineKind.{is_first, count_of, numbers_of, KeepsOtherKinds}
use Rattle.quantum_text.specs.Shares.{roster_of, shares_text, IsSharesLine, IsNoSharesLine, ChangesRoster}
use Rattle.quantum_text.specs.Block.{BlockLine, Roster, Numbers, line_text, IsLine, IsNoLine, IsNoLineOf}
use Rattle.quantum_text.specs.Reading.{IsSame, second_line, TakesNone, ReadsOne, ReadsBad, ReadsNone}

after_line_none : after_line [] ≡ []
unfolding after_line
after_line_none = refl

-- where a line stands, so does a byte
some_line : (bytes first others : List ℕ) → IsFirstLine bytes first others → bytes ≢ []
some_line bytes first others is_first none =
    let lines : lines_of bytes ≡ [] = ap lines_of none ∙ lines_of_none in
    let stands = is_first.lines in
    cc

-- ---- an empty line is none of a block
pub no_line_none : (kind : LineKind) (users : ℕ) → IsNoLine kind users []
unfolding line_text
no_line_none Quantum users = λ numbers is_line. let spelled = is_line.spelled in cc
no_line_none Demand users = λ numbers is_line. let spelled = is_line.spelled in cc
no_line_none Slices users = λ numbers is_line. let spelled = is_line.spelled in cc
no_line_none Credits users = λ numbers is_line. let spelled = is_line.spelled in cc

no_roster_none : (shape : Shape) (before : List (Option Share)) → IsNoSharesLine shape before []
unfolding shares_text
no_roster_none shape before = λ roster is_line. let spelled = is_line.spelled in cc

pub nothing_none : (shape : Shape) (before : List (Option Share)) (line : BlockLine) → IsNoLineOf shape before line []
nothing_none shape before Roster = no_roster_none shape before
nothing_none shape before (Numbers kind) = no_line_none kind (length before)

pub no_line_of : (shape : Shape) (out : Report) (kind : LineKind) (line : List ℕ) → IsNoLine kind (length out.rows) line → IsNoLineOf shape (roster_of out) (Numbers kind) line
no_line_of shape out kind line no_line = subst (λ users. IsNoLine kind users line) (sym (length-map out.rows seat_of)) no_line

pub first_kind : (kind : LineKind) → is_first kind ≡ true → Numbers Quantum ≡ Numbers kind
first_kind Quantum first = refl
first_kind Demand first = cc
first_kind Slices first = cc
first_kind Credits first = cc

pub kind_first : (kind : LineKind) → Numbers Quantum ≡ Numbers kind → is_first kind ≡ true
kind_first Quantum same = refl
kind_first Demand same = cc
kind_first Slices same = cc
kind_first Credits same = cc

-- a block doesn't begin with its second line
pub not_second : (told : Bool) → Numbers Quantum ≡ second_line told → ⊥
not_second true same = cc
not_second false same = cc

pub second_none : (shape : Shape) (out : Report) (line : List ℕ) (told : Bool) → IsNoSharesLine shape (roster_of out) line → IsNoLine Demand (length out.rows) line
    → IsNoLineOf shape (roster_of out) (second_line told) line
second_none shape out line true no_roster no_demand = no_roster
second_none shape out line false no_roster no_demand = no_line_of shape out Demand line no_demand

-- ---- a line that isn't taken
module _ (begins : Bool) (before now : Option (List ℕ)) (old new : LineView) where
  pub missing : begins ≡ false → ReadsEnd before now old new → IsAtEnd before → TakesNone old.limit old.number begins before now (BadLine (one_more new.number))
  missing on reads end = (
    ap one_more reads.number,
    λ bytes told. record {
      stands = λ first. absurd (cc);
      bad = inr (ap line_of (end bytes told) ∙ line_of_none);
      past = record {
        taken = λ _. reads.kept ∙ told ∙ ap Some (end bytes told ∙ sym (ap after_line (end bytes told) ∙ after_line_none));
        kept = λ _. reads.kept ∙ told;
      };
    },
  )

  pub too_long : (limit : ℕ) → ReadsTooLong before now old new limit → TakesNone old.limit old.number begins before now (BadLine (one_more new.number))
  too_long limit reads = (
    ap one_more reads.number,
    λ bytes told.
        let got = reads.told bytes told in
        record {
          stands = λ _ none. some_line bytes (line_of bytes) (after_line bytes) got.1 none;
          bad = inl (subst (λ n. n < length (line_of bytes)) reads.limit_is got.0);
          past = record { taken = λ short. absurd (omega (arith, got.0, reads.limit_is)); kept = λ _. reads.kept ∙ told };
        },
  )

-- so that none of those that are due is read
pub none_read : (limit number : ℕ) (shape : Shape) (begins : Bool) (before now : Option (List ℕ)) (out : Report) (due : BlockLine → Type 0) (end : ReportTextEnd)
    → (begins ≡ true → due (Numbers Quantum)) → (due (Numbers Quantum) → begins ≡ true) → TakesNone limit number begins before now end
    → ReadsNone limit shape number due before now out out end
none_read limit number shape begins before now out due End first starts none = (first none.0, (none.1.0, (none.1.1, refl)))
none_read limit number shape begins before now out due (BadLine line) first starts none = record {
  report = refl;
  line_is = none.0;
  bad = λ bytes told.
      let untaken = none.1 bytes told in
      record {
        stands = λ is_due. untaken.stands (starts is_due);
        bad = elim untaken.bad [
          | inl long ↦ inl long
          | inr empty ↦ inr (λ next is_due. subst (IsNoLineOf shape (roster_of out) next) (sym empty) (nothing_none shape (roster_of out) next))
        ];
      };
  past = λ bytes told. (none.1 bytes told).past;
}
none_read limit number shape begins before now out due ReadFault first starts none = (refl, none)

-- ---- a line that is taken
module _ (shape : Shape) (before now : Option (List ℕ)) (old new : LineView) (out later : Report) (line : List ℕ) (reads : ReadsLine before now old new) (line_is : line ≡ new.line) where
  others_same : (kind : LineKind) → KeepsOtherKinds kind out later → (other : BlockLine) → other ≢ Numbers kind → IsSame other later out
  others_same kind keeps Roster ne = keeps.shares
  others_same kind keeps (Numbers other) ne = keeps.others other (λ same. ne (ap Numbers same))

  numbers_same : ChangesRoster out later → (other : BlockLine) → other ≢ Roster → IsSame other later out
  numbers_same changes Roster ne = absurd (ne refl)
  numbers_same changes (Numbers kind) ne = changes.numbers kind

  pub kind_read : (kind : LineKind) → IsLine kind (length out.rows) line (numbers_of kind later) → KeepsOtherKinds kind out later
      → ReadsOne old.limit shape (Numbers kind) before now out later
  kind_read kind is_line keeps = record {
    users = keeps.users;
    changed = keeps.changed;
    within = is_line.within;
    others = others_same kind keeps;
    told = λ bytes told.
        let got = reads.told bytes told in
        let same : line_of bytes ≡ line = sym got.2.line ∙ sym line_is in
        let fits : length (line_of bytes) ≤ old.limit = omega (arith, ap length same, ap length line_is, reads.fits) in (
          got.0,
          got.1,
          (
            fits,
            (
              record {
                spelled = same ∙ is_line.spelled;
                many = subst (λ users. length (numbers_of kind later) ≡ count_of kind users) (sym keeps.users) is_line.many;
                within = is_line.within;
              },
              got.2.rest,
            ),
          ),
        );
  }

  pub roster_read : IsSharesLine shape (roster_of out) line (roster_of later) → ChangesRoster out later → ReadsOne old.limit shape Roster before now out later
  roster_read is_line changes = record {
    users = changes.users;
    changed = changes.changed;
    within = (is_line.told, changes.seated);
    others = numbers_same changes;
    told = λ bytes told.
        let got = reads.told bytes told in
        let same : line_of bytes ≡ line = sym got.2.line ∙ sym line_is in
        let fits : length (line_of bytes) ≤ old.limit = omega (arith, ap length same, ap length line_is, reads.fits) in
        (got.0, got.1, (fits, (record { spelled = same ∙ is_line.spelled; told = is_line.told }, got.2.rest)));
  }

  pub line_outside : (due : BlockLine → Type 0) (number : ℕ) → ((next : BlockLine) → due next → IsNoLineOf shape (roster_of out) next line) → later ≡ out → number ≡ new.number
      → ReadsBad old.limit shape old.number due before now out later number
  line_outside due number no_line kept number_is = record {
    report = kept;
    line_is = number_is ∙ reads.number;
    bad = λ bytes told.
        let got = reads.told bytes told in
        record {
          stands = λ _ none. some_line bytes new.line got.0 got.2 none;
          bad = inr (λ next is_due. subst (IsNoLineOf shape (roster_of out) next) (line_is ∙ got.2.line) (no_line next is_due));
        };
    past = λ bytes told.
        let got = reads.told bytes told in
        record {
          taken = λ _. got.1 ∙ ap Some got.2.rest;
          kept = λ long. absurd (omega (arith, ap length got.2.line, reads.fits));
        };
  }
