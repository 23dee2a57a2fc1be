use Rattle.std.proofs.Common.{◌≡◌, ℕ, ◌+◌, ◌<◌, ◌≤◌, ◌^◌, Bool, true, false, List, length, map, Option, Some, None, OnOk, MatchOption, is_err, is_some, not, Bor, refl, sym, ◌∙◌, ap, subst, inl, inr, arith}
use Rattle.std.specs.Option.{option_copied}
use Rattle.std.proofs.lemmas.Bool.{cases_lt, true≢false, not-true, not-false}
use Rattle.far_io.specs.Words.{words_of}
use Rattle.demand_book.specs.Book.{BookView, reported}
use Rattle.karma_rule.specs.declared.row.Row.{Row}
use Rattle.demand_book.specs.Roster.{seat_of}
use Rattle.plan_run.specs.PlanText.{rows_of_words, demand_of_word}
use Rattle.plan_run.proofs.LineEnds.{seats_reported}
use Rattle.plan_run.proofs.RowsOfWords.{PutSoFar, put_none, put_more, too_few, too_many, all_put, bad_word, demand_good, demand_above, demand_no_decimal}
use Rattle.plan_run.proofs.plan.report_words.Goals as goal

answer : (line : List ℕ) (start book : BookView) (count : ℕ) (rest : Option (Bor (List ℕ))) (none : Bool) → PutSoFar line start.rows (option_copied rest) book.rows count
    → book.shape ≡ start.shape → book.quanta ≡ start.quanta → book.roster ≡ start.roster → length start.rows ≤ count → is_some rest ≡ not none
    → MatchOption (rows_of_words (words_of line) start.rows) (none ≡ false) (λ (rows : List Row). (none ≡ true) × (book ≡ record start { rows = rows }))
answer line start book count None none put shape quanta roster all told =
    let whole = all_put line start.rows book.rows count put all in
    let same : book ≡ record start { rows = book.rows } = ap (λ s. record book { shape = s }) shape ∙ ap (λ q. record book { shape = start.shape; quanta = q }) quanta ∙ ap (λ seats. record start { rows = book.rows; roster = seats }) roster in
    rw whole (not-false none (sym told), same)
answer line start book count (Some text) none put shape quanta roster all told = rw (too_many line start.rows book.rows count text.now put all) (not-true none (sym told))

pub loop-user-init : goal.loop-user-init
loop-user-init c = record { put = put_none c.args.line.now c.args.book.now.rows; shape = refl; quanta = refl; seats = refl; roster = refl }

pub returns-in_default-clause-rows : goal.returns-in_default-clause-rows
returns-in_default-clause-rows c =
    let put : PutSoFar c.args.line.now c.args.book.now.rows None c.loop-user.book.rows c.loop-user.user =
    subst (λ rest. PutSoFar c.args.line.now c.args.book.now.rows (option_copied rest) c.loop-user.book.rows c.loop-user.user) c.in_default.is c.loop-user.invariant.put in
    let bad = too_few c.args.line.now c.args.book.now.rows c.loop-user.book.rows c.loop-user.user put (omega (arith, c.users-user-end.ensures.rows, c.users-user-end.ensures.users)) in
    rw bad refl

pub returns-in_default-parse_decimal-clause-rows : goal.returns-in_default-parse_decimal-clause-rows
returns-in_default-parse_decimal-clause-rows c =
    let put : PutSoFar c.args.line.now c.args.book.now.rows (Some c.in-Some.text.now) c.loop-user.book.rows c.loop-user.user =
    subst (λ rest. PutSoFar c.args.line.now c.args.book.now.rows (option_copied rest) c.loop-user.book.rows c.loop-user.user) c.in-Some.is c.loop-user.invariant.put in
    let bad = bad_word c.args.line.now c.args.book.now.rows c.loop-user.book.rows c.loop-user.user c.in-Some.text.now _ _ put c.split_word.ensures.words (demand_no_decimal _ c.in_default-parse_decimal.ensures.none) in
    rw bad refl

pub returns-then-is_err-clause-rows : goal.returns-then-is_err-clause-rows
returns-then-is_err-clause-rows c =
    let put : PutSoFar c.args.line.now c.args.book.now.rows (Some c.in-Some.text.now) c.loop-user.book.rows c.loop-user.user =
    subst (λ rest. PutSoFar c.args.line.now c.args.book.now.rows (option_copied rest) c.loop-user.book.rows c.loop-user.user) c.in-Some.is c.loop-user.invariant.put in
    let user : c.loop-user.user < c.loop-user.book.shape.users = omega (arith, ap (λ shape. shape.users) c.loop-user.invariant.shape, c.users-user-end.ensures.users) in
    let bad : demand_of_word c.split_word.result.0.now ≡ None = elim (cases_lt (2 ^ 42) c.in-Some-parse_decimal.demand) [
      | inl above ↦ demand_above _ _ c.in-Some-parse_decimal.ensures.value above
      | inr within ↦ absurd (true≢false (c.if-is_err.ensures.value ∙ ap is_err (c.report.ensures.taken user within)))
    ] in
    let none = bad_word c.args.line.now c.args.book.now.rows c.loop-user.book.rows c.loop-user.user c.in-Some.text.now _ _ put c.split_word.ensures.words bad in
    rw none refl

pub loop-user-preserved : goal.loop-user-preserved
loop-user-preserved c =
    let put : PutSoFar c.args.line.now c.args.book.now.rows (Some c.in-Some.text.now) c.loop-user.book.rows c.loop-user.user =
    subst (λ rest. PutSoFar c.args.line.now c.args.book.now.rows (option_copied rest) c.loop-user.book.rows c.loop-user.user) c.in-Some.is c.loop-user.invariant.put in
    let user : c.loop-user.user < c.loop-user.book.shape.users = omega (arith, ap (λ shape. shape.users) c.loop-user.invariant.shape, c.users-user-end.ensures.users) in
    let within : c.in-Some-parse_decimal.demand ≤ 2 ^ 42 = elim (cases_lt (2 ^ 42) c.in-Some-parse_decimal.demand) [
      | inl above ↦ absurd (true≢false (sym (c.if-is_err.ensures.value ∙ ap is_err (c.report.ensures.too_much user above))))
      | inr within ↦ within
    ] in
    let stands : c.report.new.self ≡ reported c.loop-user.book c.loop-user.user c.in-Some-parse_decimal.demand =
    subst (λ result. OnOk result (c.report.new.self ≡ reported c.loop-user.book c.loop-user.user c.in-Some-parse_decimal.demand)) (c.report.ensures.taken user within) c.report.ensures.stands in
    record {
      put = subst (λ (book : BookView). PutSoFar c.args.line.now c.args.book.now.rows (option_copied c.split_word.result.1) book.rows (c.loop-user.user + 1)) (sym stands)
          (put_more c.args.line.now c.args.book.now.rows c.loop-user.book.rows c.loop-user.user c.in-Some.text.now _ _ c.in-Some-parse_decimal.demand put (omega (arith, c.users-user-end.ensures.rows, c.users-user-end.ensures.users)) c.split_word.ensures.words
          (demand_good _ _ c.in-Some-parse_decimal.ensures.spelled c.in-Some-parse_decimal.ensures.value within));
      shape = ap (λ (book : BookView). book.shape) stands ∙ c.loop-user.invariant.shape;
      quanta = ap (λ (book : BookView). book.quanta) stands ∙ c.loop-user.invariant.quanta;
      seats = ap (λ (book : BookView). map seat_of book.rows) stands ∙ seats_reported c.in-Some-parse_decimal.demand c.loop-user.book.rows c.loop-user.user ∙ c.loop-user.invariant.seats;
      roster = ap (λ (book : BookView). book.roster) stands ∙ c.loop-user.invariant.roster;
    }

pub returns-clause-rows : goal.returns-clause-rows
returns-clause-rows c =
    answer c.args.line.now c.args.book.now c.loop-user.book c.loop-user.user c.loop-user.rest c.is_none.result c.loop-user.invariant.put c.loop-user.invariant.shape c.loop-user.invariant.quanta c.loop-user.invariant.roster
    (omega (arith, c.users-user-end.ensures.rows, c.users-user-end.ensures.users)) c.is_none.ensures
