-- What is held, under other names of the same.
use Rattle.std.proofs.Common.{◌≡◌, ℕ, List, subst}
use Rattle.shelf_link.specs.Blocks as map
use Rattle.shelf_link.specs.Told.{Told}
use Rattle.block_seats.specs.Blocks.{Blocks}
use Rattle.block_home.specs.Holding.{Holds}
use Rattle.block_home.specs.Calls.{CarriesWith, IsPart}

pub holds_as : (m : map.Blocks) (told told' : Told) (user user' : ℕ) (blocks blocks' : Blocks) → told ≡ told' → user ≡ user' → blocks ≡ blocks' → Holds m told user blocks → Holds m told' user' blocks'
holds_as m told told' user user' blocks blocks' told_is user_is blocks_is holds =
    subst (λ b. Holds m told' user' b) blocks_is (subst (λ u. Holds m told' u blocks) user_is (subst (λ t. Holds m t user blocks) told_is holds))

pub carries_as : (user user' : ℕ) (told told' now now' : Told) (block : ℕ) (bytes : List ℕ) (old new : Blocks) → user ≡ user' → told ≡ told' → now ≡ now' → CarriesWith user block bytes told old now new → CarriesWith user' block bytes told' old now' new
carries_as user user' told told' now now' block bytes old new user_is told_is now_is carries =
    subst (λ n. CarriesWith user' block bytes told' old n new) now_is
    (subst (λ t. CarriesWith user' block bytes t old now new) told_is (subst (λ u. CarriesWith u block bytes told old now new) user_is carries))

pub part_as : (user user' block from : ℕ) (part : List ℕ) (told told' : Told) (blocks blocks' : Blocks) → user ≡ user' → told ≡ told' → blocks ≡ blocks' → IsPart user block from part told blocks → IsPart user' block from part told' blocks'
part_as user user' block from part told told' blocks blocks' user_is told_is blocks_is is =
    subst (λ b. IsPart user' block from part told' b) blocks_is (subst (λ t. IsPart user' block from part t blocks) told_is (subst (λ u. IsPart u block from part told blocks) user_is is))
