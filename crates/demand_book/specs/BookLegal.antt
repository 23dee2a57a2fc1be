-- Which histories a demand book can have, by their entries alone.
use Rattle.std.specs.Prelude.{◌≡◌, ◌==◌, nat_le, ◌&&◌, ℕ, ◌<◌, ◌≤◌, ◌↔◌, Bool, true, false, List, [], ◌∷◌, length, map, slice_get, Ok, Err, Some, IsNone, IfSome}
use Rattle.std.specs.declared.option.Option.{Option}
use Rattle.std.specs.declared.result.Result.{Result}
use Rattle.karma_rule.specs.declared.row.Row.{Row}
use Rattle.karma_rule.specs.declared.shape.Shape.{Shape}
use Rattle.karma_rule.specs.declared.limits.TheConstants.{MOST_FAIR, MOST_DEMAND}
use Rattle.demand_book.specs.declared.book.TheConstants.{QUANTA}
use Rattle.demand_book.specs.declared.book.ReportEnd.{ReportEnd}
use Rattle.demand_book.specs.declared.book.ReportEnd.TheVariants.{AbsentUser, TooMuch}
use Rattle.demand_book.specs.declared.book.JoinEnd.{JoinEnd}
use Rattle.demand_book.specs.declared.book.JoinEnd.TheVariants.{AbsentUser as NobodyJoins, TooMuch as TooLarge}
use Rattle.demand_book.specs.declared.book.LeaveEnd.{LeaveEnd}
use Rattle.demand_book.specs.declared.book.LeaveEnd.TheVariants.{AbsentUser as NobodyLeaves}
use Rattle.demand_book.specs.declared.report.Report.{Report as Told}
use Rattle.demand_book.specs.declared.as_object.BookAsk.{BookAsk}
use Rattle.demand_book.specs.declared.as_object.BookAsk.TheVariants.{Report, Join, Leave, Share, Tick}
use Rattle.demand_book.specs.declared.as_object.BookTell.{BookTell}
use Rattle.demand_book.specs.declared.as_object.BookTell.TheVariants.{Report as Reported, Join as Joined, Leave as Left, Share as Shared, Tick as Ticked}
use Rattle.demand_book.specs.declared.as_object.BookEntry.{BookEntry}
use Rattle.demand_book.specs.Book.{BookView, opening_book, reported, joined, left, limit_for, ticked}
use Rattle.demand_book.specs.Roster.{seat_of}

abbrev pub entry_of : BookAsk → BookTell → BookEntry
entry_of ask tell = record { ask = ask; tell = tell }

abbrev pub shape_of_book : BookView → Shape
shape_of_book book = book.shape

-- a share has to be within its limits, and a tick has to bring a row for each user
abbrev pub fits_book : Shape → BookAsk → Bool
fits_book shape (Report user demand) = true
fits_book shape (Join user fair floor) = nat_le 1 fair && (nat_le fair MOST_FAIR && nat_le floor fair)
fits_book shape (Leave user) = true
fits_book shape (Share user) = true
fits_book shape (Tick report) = length report.rows == shape.users

-- the book after a call: what was taken stands, a tick that wasn't spent makes a quantum, and all else changes nothing
abbrev pub book_with : BookView → BookAsk → BookTell → BookView
book_with book (Report user demand) (Reported (Ok made)) = reported book user demand
book_with book (Join user fair floor) (Joined (Ok made)) = joined book user (record { fair = fair; floor = floor })
book_with book (Leave user) (Left (Ok made)) = left book user
book_with book (Tick report) (Ticked told false) = ticked book
book_with book _ _ = book

abbrev pub book_after : BookView → List BookEntry → BookView
book_after book [] = book
book_after book (entry ∷ history) = book_after (book_with book entry.ask entry.tell) history

-- A report for nobody is refused first, then one above the greatest demand. One that is taken tells how many quanta were made.
pub record AnswersReport (book : BookView) (user demand : ℕ) (answer : Result ℕ ReportEnd) : Type 0 where
  pub absent : book.shape.users ≤ user → answer ≡ Err (AbsentUser book.shape.users)
  pub too_much : user < book.shape.users → MOST_DEMAND < demand → answer ≡ Err (TooMuch MOST_DEMAND)
  pub taken : user < book.shape.users → demand ≤ MOST_DEMAND → answer ≡ Ok book.quanta

-- A user that there isn't doesn't join, and then none whose fair share is above what the others leave. One that joins is told how many quanta were made.
pub record AnswersJoin (book : BookView) (user fair : ℕ) (answer : Result ℕ JoinEnd) : Type 0 where
  pub absent : book.shape.users ≤ user → answer ≡ Err (NobodyJoins book.shape.users)
  pub too_much : user < book.shape.users → limit_for book user < fair → answer ≡ Err (TooLarge (limit_for book user))
  pub taken : user < book.shape.users → fair ≤ limit_for book user → answer ≡ Ok book.quanta

pub record AnswersLeave (book : BookView) (user : ℕ) (answer : Result ℕ LeaveEnd) : Type 0 where
  pub absent : book.shape.users ≤ user → answer ≡ Err (NobodyLeaves book.shape.users)
  pub taken : user < book.shape.users → answer ≡ Ok book.quanta

-- the user's row: standing demand, credits, and what the last quantum gave, with its share and presence then
pub record AnswersShare (book : BookView) (user : ℕ) (answer : Option Row) : Type 0 where
  pub absent : IsNone answer ↔ (book.shape.users ≤ user)
  pub row : IfSome answer (λ row. slice_get book.rows user ≡ Some row)

-- All is spent exactly after the last quantum, and then the report comes back as it was. Else it has the quantum's number, says whether the roster
-- changed, and has Karma's rows.
pub record AnswersTick (book : BookView) (report told : Told) (spent : Bool) : Type 0 where
  pub exactly : (spent ≡ true) ↔ (QUANTA ≤ book.quanta)
  pub untold : spent ≡ true → told ≡ report
  pub quantum : spent ≡ false → told.quantum ≡ book.quanta
  pub changed : spent ≡ false → (told.changed ≡ false) ↔ (map seat_of book.rows ≡ book.roster)
  pub rows : spent ≡ false → told.rows ≡ (ticked book).rows

-- the answer is right of this book
abbrev pub IsRight : BookView → BookAsk → BookTell → Type 0
IsRight book (Report user demand) (Reported answer) = AnswersReport book user demand answer
IsRight book (Join user fair floor) (Joined answer) = AnswersJoin book user fair answer
IsRight book (Leave user) (Left answer) = AnswersLeave book user answer
IsRight book (Share user) (Shared answer) = AnswersShare book user answer
IsRight book (Tick report) (Ticked told spent) = AnswersTick book report told spent
IsRight book _ _ = ⊥

-- each answer of the history is right at its place
abbrev pub BookLegal : BookView → List BookEntry → Type 0
BookLegal book [] = Unit {0}
BookLegal book (entry ∷ history) = IsRight book entry.ask entry.tell × BookLegal (book_with book entry.ask entry.tell) history

-- the history is that of a new book, and the book is what it became
pub record StandsFor (book : BookView) (history : List BookEntry) : Type 0 where
  pub legal : BookLegal (opening_book book.shape) history
  pub became : book ≡ book_after (opening_book book.shape) history
