use Rattle.std.proofs.Common.{List, ℕ, drop, sym, subst, ◌∙◌}
use Rattle.far_words.specs.declared.stamp.Stamp.{Stamp}
use Rattle.block_image.specs.Images.{IsImage}
use Rattle.block_home.proofs.Fetched.{same_stamp}
use Rattle.block_home.proofs.stored.check_image.Goals as goal

pub returns-then-eq-clause-ok : goal.returns-then-eq-clause-ok
returns-then-eq-clause-ok c =
    let image = c.in-Ok.ensures.ok in
    let bytes : List ℕ = c.args.bytes.now in
    subst (λ (stamp : Stamp). IsImage bytes stamp (drop 53 bytes)) (same_stamp c.in-Ok.view.stamp c.args.kept.now (sym c.eq.ensures ∙ c.if-eq.true))
    (subst (λ (content : List ℕ). IsImage bytes c.in-Ok.view.stamp content) (sym image.rest) image)
