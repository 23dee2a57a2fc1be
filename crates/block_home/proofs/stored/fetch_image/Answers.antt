use Rattle.std.proofs.Common.{subst, arith}
use Rattle.shelf_link.specs.declared.shelf.Got.{Got}
use Rattle.shelf_link.specs.Told.{Gives, IsWithin}
use Rattle.block_home.proofs.Fetched.{fetches_ok, fetches_longer}
use Rattle.block_home.proofs.stored.fetch_image.Goals as goal

pub returns-in-Ok-clause-fetches : goal.returns-in-Ok-clause-fetches
returns-in-Ok-clause-fetches g c =
    let got = c.in-Ok-Bytes in
    fetches_ok _ _ _ _ got.count
    (subst (λ (x : Got). Gives (g.K.Shelf.told c.args.shelf.now) c.args.block c.get.new.out x) got.field-0-is got.ensures.gives)
    (subst (λ (x : Got). IsWithin c.get.new.out x) got.field-0-is got.ensures.bound) c.in-Ok.ensures.ok

pub returns-in-Ok-Longer-clause-fetches : goal.returns-in-Ok-Longer-clause-fetches
returns-in-Ok-Longer-clause-fetches g c =
    let got = c.in-Ok-Longer in
    rw c.damaged-in-Ok-Longer.ensures
    (fetches_longer _ _ _ _ got.len
    (subst (λ (x : Got). Gives (g.K.Shelf.told c.args.shelf.now) c.args.block c.get.new.out x) got.field-0-is got.ensures.gives)
    (subst (λ (x : Got). IsWithin c.get.new.out x) got.field-0-is got.ensures.bound) (omega (arith, c.requires.room, c.get.auto.out)))
