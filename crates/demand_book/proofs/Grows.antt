-- A book's history that grows by one entry.
use Rattle.std.proofs.Common.{◌≡◌, ℕ, List, [], ◌∷◌, ◌++◌, map, true, false, Ok, Err, OnOk, OnErr, IsErr, ◌≤◌, ◌↔◌, refl, ap, sym, ◌∙◌, subst}
use mathlib.Core.Bool.{true≢false, false≢true}
use Rattle.std.specs.Result.{is_err}
use Rattle.std.specs.declared.result.Result.{Result}
use Rattle.karma_rule.specs.declared.shape.Shape.{Shape}
use Rattle.demand_book.specs.declared.book.ReportEnd.{ReportEnd}
use Rattle.demand_book.specs.declared.book.JoinEnd.{JoinEnd}
use Rattle.demand_book.specs.declared.book.LeaveEnd.{LeaveEnd}
use Rattle.demand_book.specs.declared.book.QuantaSpent.{QuantaSpent}
use Rattle.demand_book.specs.declared.book.TheConstants.{QUANTA}
use Rattle.demand_book.specs.declared.report.Report.{Report as Told}
use Rattle.demand_book.specs.declared.as_object.BookAsk.{BookAsk}
use Rattle.demand_book.specs.declared.as_object.BookAsk.TheVariants.{Report, Join, Leave, Share, Tick}
use Rattle.demand_book.specs.declared.as_object.BookTell.{BookTell}
use Rattle.demand_book.specs.declared.as_object.BookTell.TheVariants.{Report as Reported, Join as Joined, Leave as Left, Share as Shared, Tick as Ticked}
use Rattle.demand_book.specs.declared.as_object.BookEntry.{BookEntry}
use Rattle.demand_book.specs.Book.{BookView, opening_book, reported, joined, left, ticked}
use Rattle.demand_book.specs.Roster.{seat_of}
use Rattle.demand_book.specs.BookLegal.{entry_of, book_with, book_after, IsRight, AnswersTick, BookLegal, StandsFor}

after_one : (book : BookView) (history : List BookEntry) (entry : BookEntry) → book_after book (history ++ entry ∷ []) ≡ book_with (book_after book history) entry.ask entry.tell
after_one book [] entry = refl
after_one book (first ∷ history) entry = after_one (book_with book first.ask first.tell) history entry

legal_one : (book : BookView) (history : List BookEntry) (entry : BookEntry) → BookLegal book history → IsRight (book_after book history) entry.ask entry.tell → BookLegal book (history ++ entry ∷ [])
legal_one book [] entry legal result = (result, tt)
legal_one book (first ∷ history) entry legal result = (legal.0, legal_one (book_with book first.ask first.tell) history entry legal.1 result)

pub shape_stays : (book : BookView) (ask : BookAsk) (tell : BookTell) → (book_with book ask tell).shape ≡ book.shape
shape_stays book (Report user demand) (Reported (Ok made)) = refl
shape_stays book (Report user demand) (Reported (Err end)) = refl
shape_stays book (Report user demand) (Joined answer) = refl
shape_stays book (Report user demand) (Left answer) = refl
shape_stays book (Report user demand) (Shared answer) = refl
shape_stays book (Report user demand) (Ticked told spent) = refl
shape_stays book (Join user fair floor) (Reported answer) = refl
shape_stays book (Join user fair floor) (Joined (Ok made)) = refl
shape_stays book (Join user fair floor) (Joined (Err end)) = refl
shape_stays book (Join user fair floor) (Left answer) = refl
shape_stays book (Join user fair floor) (Shared answer) = refl
shape_stays book (Join user fair floor) (Ticked told spent) = refl
shape_stays book (Leave user) (Reported answer) = refl
shape_stays book (Leave user) (Joined answer) = refl
shape_stays book (Leave user) (Left (Ok made)) = refl
shape_stays book (Leave user) (Left (Err end)) = refl
shape_stays book (Leave user) (Shared answer) = refl
shape_stays book (Leave user) (Ticked told spent) = refl
shape_stays book (Share user) tell = refl
shape_stays book (Tick report) (Reported answer) = refl
shape_stays book (Tick report) (Joined answer) = refl
shape_stays book (Tick report) (Left answer) = refl
shape_stays book (Tick report) (Shared answer) = refl
shape_stays book (Tick report) (Ticked told true) = refl
shape_stays book (Tick report) (Ticked told false) = refl

-- an answer that is right of the book is right of its history
pub right_of : (book : BookView) (ask : BookAsk) (tell : BookTell) (history : List BookEntry) → StandsFor book history → IsRight book ask tell → IsRight (book_after (opening_book book.shape) history) ask tell
right_of book ask tell history stands right = subst (λ (state : BookView). IsRight state ask tell) stands.became right

pub stands_more : (book later : BookView) (ask : BookAsk) (tell : BookTell) (history : List BookEntry) → StandsFor book history → later ≡ book_with book ask tell → IsRight book ask tell → StandsFor later (history ++ entry_of ask tell ∷ [])
stands_more book later ask tell history stands now right =
    let entry : BookEntry = entry_of ask tell in
    let start : BookView = opening_book book.shape in
    let shape : later.shape ≡ book.shape = ap (λ (state : BookView). state.shape) now ∙ shape_stays book ask tell in
    let became : later ≡ book_after start (history ++ entry ∷ []) = now ∙ (ap (λ (state : BookView). book_with state ask tell) stands.became ∙ sym (after_one start history entry)) in
    record {
      legal = subst (λ (shape_then : Shape). BookLegal (opening_book shape_then) (history ++ entry ∷ [])) (sym shape) (legal_one start history entry stands.legal (right_of book ask tell history stands right));
      became = subst (λ (shape_then : Shape). later ≡ book_after (opening_book shape_then) (history ++ entry ∷ [])) (sym shape) became;
    }

pub report_leaves : (book later : BookView) (user demand : ℕ) (result : Result ℕ ReportEnd) → OnOk result (later ≡ reported book user demand) → OnErr result (later ≡ book) → later ≡ book_with book (Report user demand) (Reported result)
report_leaves book later user demand (Ok made) ok err = ok
report_leaves book later user demand (Err end) ok err = err

pub join_leaves : (book later : BookView) (user fair floor : ℕ) (result : Result ℕ JoinEnd) → OnOk result (later ≡ joined book user (record { fair = fair; floor = floor })) → OnErr result (later ≡ book) → later ≡ book_with book (Join user fair floor) (Joined result)
join_leaves book later user fair floor (Ok made) ok err = ok
join_leaves book later user fair floor (Err end) ok err = err

pub leave_leaves : (book later : BookView) (user : ℕ) (result : Result ℕ LeaveEnd) → OnOk result (later ≡ left book user) → OnErr result (later ≡ book) → later ≡ book_with book (Leave user) (Left result)
leave_leaves book later user (Ok made) ok err = ok
leave_leaves book later user (Err end) ok err = err

-- a new book stands for no call
pub stands_new : (book : BookView) (shape : Shape) → book ≡ opening_book shape → StandsFor book []
stands_new book shape opens = rw opens (record { legal = tt; became = refl })

-- ---- a quantum, or none
module _ (book later : BookView) (report told : Told) where
  pub tick_leaves : (result : Result (Unit {0}) QuantaSpent) → OnOk result (later ≡ ticked book) → OnErr result (later ≡ book) → later ≡ book_with book (Tick report) (Ticked told (is_err result))
  tick_leaves (Ok done) made kept = made
  tick_leaves (Err spent) made kept = kept

  pub tick_answers : (result : Result (Unit {0}) QuantaSpent) → (IsErr result ↔ (QUANTA ≤ book.quanta)) → OnOk result (later ≡ ticked book) → OnErr result (told ≡ report)
      → OnOk result ((told.quantum ≡ book.quanta) × (told.rows ≡ later.rows)) → OnOk result ((told.changed ≡ false) ↔ (map seat_of book.rows ≡ book.roster)) → AnswersTick book report told (is_err result)
  tick_answers (Ok done) spent made untold new changed = record {
    exactly = spent;
    untold = λ told_then. absurd (false≢true told_then);
    quantum = λ made_one. new.0;
    changed = λ made_one. changed;
    rows = λ made_one. new.1 ∙ ap (λ (state : BookView). state.rows) made;
  }
  tick_answers (Err end) spent made untold new changed = record {
    exactly = spent;
    untold = λ told_then. untold;
    quantum = λ made_one. absurd (true≢false made_one);
    changed = λ made_one. absurd (true≢false made_one);
    rows = λ made_one. absurd (true≢false made_one);
  }
