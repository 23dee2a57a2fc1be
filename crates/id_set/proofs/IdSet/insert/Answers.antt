use Rattle.std.proofs.Common.{◌≡◌, ◌<◌, length, false, sym, ap, ◌∙◌, arith}
use Rattle.id_set.specs.IdSet.{contains, count}
use Rattle.id_set.proofs.LevelLemmas.{count-absent}
use Rattle.id_set.proofs.IdSet.insert.Goals as goal

pub overflow_add-self : goal.overflow_add-self
overflow_add-self c =
    let absent : contains c.self.inside.members c.args.id ≡ false = sym c.contains.ensures.member ∙ c.if-contains.false in
    let lengths = ap length c.self.view_is in
    let less = count-absent c.self.inside.members c.args.id (omega arith) absent in
    let limit = c.contains.ensures.limit in
    let count_is : c.self.inside.count ≡ count c.self.inside.members = c.self.invariant in
    omega arith
