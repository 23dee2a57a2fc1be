-- One number of a report, changed.
use Rattle.std.proofs.Common.{◌≡◌, ◌≢◌, ℕ, ◌<◌, List, ◌++◌, length, map, take, drop, get_or, set, refl, sym, ◌∙◌, ap, append-nil, arith}
use Rattle.std.proofs.lemmas.List.{length-set, length-map, map-set, set-get_or, get_or-map, drop_all, take_all}
use Rattle.karma_rule.specs.declared.row.Row.{Row}
use Rattle.demand_book.specs.declared.report.Report.{Report}
use Rattle.quantum_text.specs.declared.line_kind.LineKind.{LineKind}
use Rattle.quantum_text.specs.declared.line_kind.LineKind.TheVariants.{Quantum, Demand, Slices, Credits}
use Rattle.quantum_text.specs.LineKind.{count_of, numbers_of, untold, KeepsOtherKinds}

pub length_numbers : (kind : LineKind) (report : Report) → length (numbers_of kind report) ≡ count_of kind (length report.rows)
length_numbers Quantum report = refl
length_numbers Demand report = length-map report.rows (λ (row : Row). row.demand)
length_numbers Slices report = length-map report.rows (λ (row : Row). row.given)
length_numbers Credits report = length-map report.rows (λ (row : Row). row.credits)

pub keeps_all : (kind : LineKind) (report : Report) → KeepsOtherKinds kind report report
keeps_all kind report = record { users = refl; shares = refl; changed = refl; others = λ other ne. refl }

pub keeps_on : (kind : LineKind) (a b c : Report) → KeepsOtherKinds kind a b → KeepsOtherKinds kind b c → KeepsOtherKinds kind a c
keeps_on kind a b c first second = record {
  users = second.users ∙ first.users;
  shares = second.shares ∙ first.shares;
  changed = second.changed ∙ first.changed;
  others = λ other ne. second.others other ne ∙ first.others other ne;
}

-- the rows after a write at one place
pub rows_after : (rows items : List Row) (i : ℕ) (row : Row) → items ≡ rows
    → take (length rows) (set items i row ++ drop (length (set items i row)) rows) ≡ set rows i row
rows_after rows items i row same =
    let long : length (set items i row) ≡ length rows = length-set items i row ∙ ap length same in
    ap (λ t. take (length rows) (set items i row ++ t)) (drop_all (length (set items i row)) rows (omega arith))
    ∙ ap (take (length rows)) (append-nil (set items i row)) ∙ take_all (length rows) (set items i row) (omega arith)
    ∙ ap (λ t. set t i row) same

pub column_set : {A : Type 0} (column : Row → A) (rows items : List Row) (i : ℕ) (row : Row) → items ≡ rows
    → map column (take (length rows) (set items i row ++ drop (length (set items i row)) rows)) ≡ set (map column rows) i (column row)
column_set column rows items i row same = ap (map column) (rows_after rows items i row same) ∙ map-set column rows i row

column_kept : {A : Type 0} (column : Row → A) (rows items : List Row) (i : ℕ) (row d : Row) → items ≡ rows → i < length rows → column row ≡ column (get_or items i d)
    → map column (take (length rows) (set items i row ++ drop (length (set items i row)) rows)) ≡ map column rows
column_kept column rows items i row d same here kept =
    column_set column rows items i row same
    ∙ ap (set (map column rows) i) (kept ∙ ap (λ t. column (get_or t i d)) same ∙ sym (get_or-map column rows i d (column d) here))
    ∙ set-get_or (map column rows) i (column d)

abbrev with_row : Report → List Row → ℕ → Row → Report
with_row report items i row = record report { rows = take (length report.rows) (set items i row ++ drop (length (set items i row)) report.rows) }

column_keeps : (kind other : LineKind) (report : Report) (items : List Row) (i : ℕ) (row d : Row) → items ≡ report.rows → i < length report.rows
    → (kind ≢ Demand → row.demand ≡ (get_or items i d).demand) → (kind ≢ Slices → row.given ≡ (get_or items i d).given) → (kind ≢ Credits → row.credits ≡ (get_or items i d).credits)
    → other ≢ kind → numbers_of other (with_row report items i row) ≡ numbers_of other report
column_keeps kind Quantum report items i row d same here demand given credits ne = refl
column_keeps kind Demand report items i row d same here demand given credits ne = column_kept (λ (r : Row). r.demand) report.rows items i row d same here (demand (λ e. ne (sym e)))
column_keeps kind Slices report items i row d same here demand given credits ne = column_kept (λ (r : Row). r.given) report.rows items i row d same here (given (λ e. ne (sym e)))
column_keeps kind Credits report items i row d same here demand given credits ne = column_kept (λ (r : Row). r.credits) report.rows items i row d same here (credits (λ e. ne (sym e)))

pub row_keeps : (kind : LineKind) (report : Report) (items : List Row) (i : ℕ) (row d : Row) → items ≡ report.rows → i < length report.rows
    → (kind ≢ Demand → row.demand ≡ (get_or items i d).demand) → (kind ≢ Slices → row.given ≡ (get_or items i d).given) → (kind ≢ Credits → row.credits ≡ (get_or items i d).credits) → untold row ≡ untold (get_or items i d)
    → KeepsOtherKinds kind report (with_row report items i row)
row_keeps kind report items i row d same here demand given credits share = record {
  users = ap length (rows_after report.rows items i row same) ∙ length-set report.rows i row;
  shares = column_kept untold report.rows items i row d same here share;
  changed = refl;
  others = λ other ne. column_keeps kind other report items i row d same here demand given credits ne;
}
