use Rattle.std.proofs.Common.{◌≡◌, ℕ, suc, ◌+◌, ◌-◌, ◌<◌, Bool, List, length, set as put, ap, ◌∙◌, arith}
use Rattle.id_set.proofs.GrowLemmas.{copied, copied-next}
use Rattle.id_set.proofs.IdSet.grow.Goals as goal

pub loop-id-preserved : goal.loop-id-preserved
loop-id-preserved c =
    let members : List Bool = c.args.self.now in
    let id : ℕ = c.loop-id.id in
    let more : ℕ = c.args.bound - (id + 1) in
    let end = c.loop-id.invariant.end in
    let bounded = c.loop-id.invariant.bounded in
    let inside : id < length members = omega arith in
    let left : c.args.bound - id ≡ suc more = omega arith in
    let next : suc id ≡ id + 1 = omega arith in
    record {
      copied = c.set.ensures
          ∙ ap (λ (grown : List Bool). put grown id c.contains.result) c.loop-id.invariant.copied
          ∙ ap (λ (n : ℕ). put (copied members id n c.args.member) id c.contains.result) left
          ∙ ap (λ (member : Bool). put (copied members id (suc more) c.args.member) id member) c.contains.ensures
          ∙ copied-next members id more c.args.member inside
          ∙ ap (λ (n : ℕ). copied members n more c.args.member) next;
      end = end;
      bounded = bounded;
    }
