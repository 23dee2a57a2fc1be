-- What a sink took of the lines of a block.
use Rattle.std.proofs.Common.{◌≡◌, ℕ, ◌+◌, ◌<◌, if◌then◌else◌, Bool, true, false, List, [], ◌∷◌, ◌++◌, length, take, drop, get_or, sym, ap, append_assoc, append-nil}
use Rattle.std.specs.List.{flat_map}
use Rattle.far_io.proofs.Sends.{flat_map_take, flat_map_parted}
use Rattle.demand_book.specs.declared.report.Report.{Report}
use Rattle.quantum_text.specs.declared.line_kind.LineKind.{LineKind}
use Rattle.quantum_text.specs.declared.line_kind.LineKind.TheVariants.{Quantum, Demand, Slices, Credits}
use Rattle.quantum_text.specs.LineKind.{numbers_of}
use Rattle.quantum_text.specs.Block.{Roster, block_lines, ended_line, ended_text, roster_text, lines_text, report_text}

-- the kinds of lines that come after the roster
abbrev pub other_kinds : List LineKind
other_kinds = Demand ∷ Slices ∷ Credits ∷ []

-- the lines of these kinds
abbrev pub kinds_text : Report → List LineKind → List ℕ
kinds_text report kinds = flat_map (λ kind. ended_line kind (numbers_of kind report)) kinds

pub kinds_text_more : (report : Report) (kinds : List LineKind) (i : ℕ) → i < length kinds
    → kinds_text report (take (i + 1) kinds) ≡ kinds_text report (take i kinds) ++ ended_line (get_or kinds i Quantum) (numbers_of (get_or kinds i Quantum) report)
kinds_text_more report kinds i here = flat_map_take (λ kind. ended_line kind (numbers_of kind report)) kinds i Quantum here

pub kinds_text_parted : (report : Report) (kinds : List LineKind) (i : ℕ) → kinds_text report kinds ≡ kinds_text report (take i kinds) ++ kinds_text report (drop i kinds)
kinds_text_parted report kinds i = flat_map_parted (λ kind. ended_line kind (numbers_of kind report)) kinds i

-- the first line, and that of the roster where it changed
abbrev pub opening_text : Report → List ℕ
opening_text report = ended_line Quantum (numbers_of Quantum report) ++ roster_text report

text_by : (told : Bool) (report : Report)
    → lines_text report (block_lines told) ≡ (ended_line Quantum (numbers_of Quantum report) ++ (if told then ended_text report Roster else [])) ++ kinds_text report other_kinds
text_by true report = sym (append_assoc (ended_line Quantum (numbers_of Quantum report)) (ended_text report Roster) (kinds_text report other_kinds))
text_by false report = ap (λ t. t ++ kinds_text report other_kinds) (sym (append-nil (ended_line Quantum (numbers_of Quantum report))))

pub whole_text : (report : Report) → report_text report ≡ opening_text report ++ kinds_text report other_kinds
whole_text report = text_by report.changed report
