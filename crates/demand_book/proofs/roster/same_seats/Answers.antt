use Rattle.std.proofs.Common.{map, None, refl, ◌∙◌, arith}
use Rattle.std.proofs.lemmas.List.{length-map, get_or-map, get_or_default, same_lists}
use Rattle.demand_book.specs.Book.{blank_row}
use Rattle.demand_book.specs.Roster.{seat_of}
use Rattle.demand_book.proofs.roster.same_seats.Goals as goal

pub returns : goal.returns
returns c = (
  λ same.
      same_lists (map seat_of c.args.rows.now) c.args.roster.now (length-map c.args.rows.now seat_of ∙ c.requires) (λ user default inside.
      get_or-map seat_of c.args.rows.now user blank_row default (omega (arith, length-map c.args.rows.now seat_of))
      ∙ c.loop-user.invariant user (omega (arith, length-map c.args.rows.now seat_of))
      ∙ get_or_default c.args.roster.now user None default (omega (arith, length-map c.args.rows.now seat_of, c.requires))),
  λ same. refl,
)
