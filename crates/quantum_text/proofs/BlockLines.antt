-- The lines of a block, read one after another.
use Rattle.std.proofs.Common.{◌≡◌, ◌≢◌, ℕ, ◌+◌, ◌-◌, ◌^◌, ◌≤◌, if◌then◌else◌, min, Bool, true, false, List, [], ◌∷◌, ◌++◌, length, map, Option, Err, refl, sym, ◌∙◌, ap, subst, inl, inr, arith}
use Rattle.std.specs.Prelude.{All}
use Rattle.std.proofs.lemmas.List.{length-map}
use Rattle.std.proofs.lemmas.List.Elements.{All-nil, All-cons, All-head, All-tail, All-push, All-weaker}
use Rattle.far_io.specs.Faults.{one_more}
use Rattle.far_io.specs.Lines.{line_of, after_line}
use Rattle.karma_rule.specs.declared.row.Row.{Row}
use Rattle.karma_rule.specs.declared.row.Share.{Share}
use Rattle.karma_rule.specs.declared.shape.Shape.{Shape}
use Rattle.demand_book.specs.declared.report.Report.{Report}
use Rattle.demand_book.specs.Roster.{seat_of}
use Rattle.quantum_text.specs.declared.line_kind.LineKind.{LineKind}
use Rattle.quantum_text.specs.declared.line_kind.LineKind.TheVariants.{Quantum, Demand, Slices, Credits}
use Rattle.quantum_text.specs.declared.read.ReportTextEnd.{ReportTextEnd}
use Rattle.quantum_text.specs.declared.read.ReportTextEnd.TheVariants.{End, BadLine, ReadFault}
use Rattle.quantum_text.specs.LineKind.{limit_of, numbers_of, untold}
use Rattle.quantum_text.specs.Shares.{roster_of, IsNewRoster, IsSharesLine, IsSeated}
use Rattle.quantum_text.specs.Block.{BlockLine, Roster, Numbers, IsLine, IsNoLine, IsWithin, IsLineOf, IsNoLineOf}
use Rattle.quantum_text.specs.Reading.{BeginsWith, MayFollow, IsPast, IsSame, tells_roster, ReadsLines, StopsAt, ReadsTo, ReadsOne, ReadsNone}

-- ---- rosters by the rows' shares
pub seats_same : (xs ys : List Row) → map untold xs ≡ map untold ys → map seat_of xs ≡ map seat_of ys
seats_same [] [] same = refl
seats_same [] (y ∷ ys) same = cc
seats_same (x ∷ xs) [] same = cc
seats_same (x ∷ xs) (y ∷ ys) same =
    let head : untold x ≡ untold y = cc in
    let tails : map untold xs ≡ map untold ys = cc in
    let seat : seat_of x ≡ seat_of y = ap seat_of head in
    ap (λ s. s ∷ map seat_of xs) seat ∙ ap (λ ss. seat_of y ∷ ss) (seats_same xs ys tails)

seated_same : (xs ys : List Row) → map untold xs ≡ map untold ys → All IsSeated ys → All IsSeated xs
seated_same [] ys same seated = All-nil IsSeated
seated_same (x ∷ xs) [] same seated = cc
seated_same (x ∷ xs) (y ∷ ys) same seated =
    let head : untold y ≡ untold x = cc in
    let tails : map untold xs ≡ map untold ys = cc in
    let first : IsSeated x = subst IsSeated head (All-head IsSeated y ys seated) in
    All-cons IsSeated x xs first (seated_same xs ys tails (All-tail IsSeated y ys seated))

pub users_of : (report : Report) → length (roster_of report) ≡ length report.rows
users_of report = length-map report.rows seat_of

-- ---- what two reports have for a line
abbrev pub AllSame : List BlockLine → Report → Report → Type 0
AllSame lines new old = All (λ line. IsSame line new old) lines

pub unchanged_same : (line : BlockLine) (report : Report) → IsSame line (record report { changed = false }) report
unchanged_same Roster report = refl
unchanged_same (Numbers Quantum) report = refl
unchanged_same (Numbers Demand) report = refl
unchanged_same (Numbers Slices) report = refl
unchanged_same (Numbers Credits) report = refl

same_on : (line : BlockLine) (a b c : Report) → IsSame line c b → IsSame line b a → IsSame line c a
same_on Roster a b c second first = second ∙ first
same_on (Numbers kind) a b c second first = second ∙ first

within_moves : (shape : Shape) (before : List (Option Share)) (old new : Report) (line : BlockLine) → IsSame line new old → IsWithin shape before old line → IsWithin shape before new line
within_moves shape before old new Roster same within =
    (subst (IsNewRoster shape before) (sym (seats_same new.rows old.rows same)) within.0, seated_same new.rows old.rows same within.1)
within_moves shape before old new (Numbers kind) same within = subst (All (λ number. number ≤ limit_of kind)) (sym same) within

same_line : (kind : LineKind) (users many : ℕ) (line xs ys : List ℕ) → many ≡ users → ys ≡ xs → IsLine kind users line xs → IsLine kind many line ys
same_line kind users many line xs ys same_users same_numbers is_line = rw (same_users, same_numbers) is_line

line_moves : (shape : Shape) (before : List (Option Share)) (old new : Report) (line : BlockLine) (bytes : List ℕ) → length new.rows ≡ length old.rows → IsSame line new old
    → IsLineOf shape before old line bytes → IsLineOf shape before new line bytes
line_moves shape before old new Roster bytes users same is_line = subst (IsSharesLine shape before bytes) (sym (seats_same new.rows old.rows same)) is_line
line_moves shape before old new (Numbers kind) bytes users same is_line = same_line kind (length old.rows) (length new.rows) bytes (numbers_of kind old) (numbers_of kind new) users same is_line

begins_moves : (limit : ℕ) (shape : Shape) (before : List (Option Share)) (old new : Report) (lines : List BlockLine) (bytes rest : List ℕ) → length new.rows ≡ length old.rows
    → AllSame lines new old → BeginsWith limit shape before old lines bytes rest → BeginsWith limit shape before new lines bytes rest
begins_moves limit shape before old new [] bytes rest users same begins = begins
begins_moves limit shape before old new (line ∷ lines) bytes rest users same begins = (
  begins.0,
  (
    line_moves shape before old new line (line_of bytes) users (All-head (λ l. IsSame l new old) line lines same) begins.1.0,
    begins_moves limit shape before old new lines (after_line bytes) rest users (All-tail (λ l. IsSame l new old) line lines same) begins.1.1,
  ),
)

begins_more : (limit : ℕ) (shape : Shape) (before : List (Option Share)) (report : Report) (lines : List BlockLine) (line : BlockLine) (bytes middle rest : List ℕ)
    → BeginsWith limit shape before report lines bytes middle → BeginsWith limit shape before report (line ∷ []) middle rest → BeginsWith limit shape before report (lines ++ line ∷ []) bytes rest
begins_more limit shape before report [] line bytes middle rest first second = subst (λ b. BeginsWith limit shape before report (line ∷ []) b rest) first second
begins_more limit shape before report (l ∷ ls) line bytes middle rest first second =
    (first.0, (first.1.0, begins_more limit shape before report ls line (after_line bytes) middle rest first.1.1 second))

-- ---- the roster of before
abbrev pub IsNew : List BlockLine → BlockLine → Type 0
IsNew lines line = All (λ read. line ≢ read) lines

line_after : (shape : Shape) (before now : List (Option Share)) (report : Report) (line : BlockLine) (bytes : List ℕ) → (line ≡ Roster → now ≡ before) → IsLineOf shape now report line bytes
    → IsLineOf shape before report line bytes
line_after shape before now report Roster bytes same is_line = subst (λ r. IsSharesLine shape r bytes (roster_of report)) (same refl) is_line
line_after shape before now report (Numbers kind) bytes same is_line = is_line

within_after : (shape : Shape) (before now : List (Option Share)) (report : Report) (line : BlockLine) → (line ≡ Roster → now ≡ before) → IsWithin shape now report line → IsWithin shape before report line
within_after shape before now report Roster same within = subst (λ r. IsNewRoster shape r (roster_of report) × All IsSeated report.rows) (same refl) within
within_after shape before now report (Numbers kind) same within = within

none_after : (shape : Shape) (before now : List (Option Share)) (line : BlockLine) (bytes : List ℕ) → length now ≡ length before → (line ≡ Roster → now ≡ before) → IsNoLineOf shape now line bytes
    → IsNoLineOf shape before line bytes
none_after shape before now Roster bytes users same no_line = subst (λ r. IsNoLineOf shape r Roster bytes) (same refl) no_line
none_after shape before now (Numbers kind) bytes users same no_line = subst (λ n. IsNoLine kind n bytes) users no_line

tells_more : (lines : List BlockLine) (line : BlockLine) → tells_roster (lines ++ line ∷ []) ≡ (if tells_roster (line ∷ []) then true else tells_roster lines)
tells_more [] Roster = refl
tells_more [] (Numbers kind) = refl
tells_more (Roster ∷ lines) Roster = refl
tells_more (Roster ∷ lines) (Numbers kind) = refl
tells_more (Numbers other ∷ lines) line = tells_more lines line

parted : (line : BlockLine) (lines : List BlockLine) (last : BlockLine) → IsNew (lines ++ last ∷ []) line → IsNew lines line × (line ≢ last)
parted line [] last new = (All-nil (λ read. line ≢ read), All-head (λ read. line ≢ read) last [] new)
parted line (l ∷ ls) last new =
    let others = parted line ls last (All-tail (λ read. line ≢ read) l (ls ++ last ∷ []) new) in
    (All-cons (λ read. line ≢ read) l ls (All-head (λ read. line ≢ read) l (ls ++ last ∷ []) new) others.0, others.1)

-- no line was read yet
pub lines_none : (limit : ℕ) (shape : Shape) (before : Option (List ℕ)) (report : Report) → ReadsLines limit shape [] before before report (record report { changed = false })
lines_none limit shape before report = record {
  users = refl;
  changed = refl;
  within = All-nil (IsWithin shape (roster_of report) (record report { changed = false }));
  others = λ line _. unchanged_same line report;
  told = λ bytes told. (bytes, told, refl);
}

module _ (limit : ℕ) (shape : Shape) (before middle : Option (List ℕ)) (old out : Report) (lines : List BlockLine) (reads : ReadsLines limit shape lines before middle old out) where
  roster_stays : (line : BlockLine) → IsNew lines line → line ≡ Roster → roster_of out ≡ roster_of old
  roster_stays Roster new same = seats_same out.rows old.rows (reads.others Roster new)
  roster_stays (Numbers kind) new same = cc

  -- one line more
  pub lines_more : (now : Option (List ℕ)) (later : Report) (most : ℕ) (line : BlockLine) → most ≡ limit → IsNew lines line → ReadsOne most shape line middle now out later
      → ReadsLines limit shape (lines ++ line ∷ []) before now old later
  lines_more now later most line same_limit new one =
      let stays = roster_stays line new in
      let same : AllSame lines later out = All-weaker (λ read. line ≢ read) (λ read. IsSame read later out) (λ read ne. one.others read (λ e. ne (sym e))) lines new in
      record {
        users = one.users ∙ reads.users;
        changed = one.changed ∙ ap (λ told. if tells_roster (line ∷ []) then true else told) reads.changed ∙ sym (tells_more lines line);
        within = All-push (IsWithin shape (roster_of old) later) lines line
            (λ k d inside. within_moves shape (roster_of old) out later _ (same k d inside) (reads.within k d inside))
            (within_after shape (roster_of old) (roster_of out) later line stays one.within);
        others = λ other absent.
            let parts = parted other lines line absent in
            same_on other old out later (one.others other parts.1) (reads.others other parts.0);
        told = λ bytes told.
            let first = reads.told bytes told in
            let second = one.told first.0 first.1 in
            let begins : BeginsWith limit shape (roster_of old) later (line ∷ []) first.0 second.0 = (
              omega (arith, second.2.0),
              (line_after shape (roster_of old) (roster_of out) later line (line_of first.0) stays second.2.1.0, second.2.1.1),
            ) in (
              second.0,
              second.1,
              begins_more limit shape (roster_of old) later lines line bytes first.0 second.0 (begins_moves limit shape (roster_of old) out later lines bytes first.0 one.users same first.2) begins,
            );
      }

  -- a line that wasn't read
  pub lines_stop : (line : BlockLine) (now : Option (List ℕ)) (later : Report) → MayFollow lines line → now ≡ middle → later ≡ out → StopsAt limit shape before now old later
  lines_stop line now later follows same_left same_report = record { lines = lines; due = line; follows = follows; front = rw (same_left, same_report) reads }

  -- why it wasn't is why the block ends
  pub lines_end : (whole : Bool → List BlockLine) (number read most : ℕ) (due : BlockLine → Type 0) (line : BlockLine) (now : Option (List ℕ)) (later : Report) (end : ReportTextEnd)
      → most ≡ limit → MayFollow lines line → ((next : BlockLine) → MayFollow lines next → due next × IsNew lines next) → (due (Numbers Quantum) → (middle ≡ before) × (out ≡ record old { changed = false }))
      → one_more read ≡ min (number + length lines + 1) (2 ^ 64 - 1) → ReadsNone most shape read due middle now out later end → ReadsTo whole limit shape number before now old later (Err end)
  lines_end whole number read most due line now later End same_limit follows only starts counted none =
      let start = starts none.0 in
      record {
        nothing = λ bytes told. none.1.0 bytes (start.0 ∙ told);
        kept = none.1.1.0 ∙ start.0;
        report = none.1.1.1 ∙ start.1;
      }
  lines_end whole number read most due line now later (BadLine bad_line) same_limit follows only starts counted none = record {
    stop = middle;
    stops = record { lines = lines; due = line; follows = follows; front = rw none.report reads };
    line_is = none.line_is ∙ counted;
    bad = λ bytes told.
        let next_bad = none.bad bytes told in
        record {
          stands = λ next. next_bad.stands (only (Numbers Quantum) next).0;
          bad = elim next_bad.bad [
            | inl long ↦ inl (omega (arith, long))
            | inr no_line ↦ inr (λ next may.
                let is = only next may in
                none_after shape (roster_of old) (roster_of out) next (line_of bytes) (users_of out ∙ reads.users ∙ sym (users_of old)) (roster_stays next is.1) (no_line next is.0))
          ];
        };
    past = λ bytes told. subst (λ n. IsPast n bytes now) same_limit (none.past bytes told);
  }
  lines_end whole number read most due line now later ReadFault same_limit follows only starts counted none = lines_stop line now later follows none.1 none.0
