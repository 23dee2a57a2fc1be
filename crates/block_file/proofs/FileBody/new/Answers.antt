use Rattle.std.proofs.Common.{[], sym, refl, subst}
use Rattle.block_file.specs.Files.{file_in, HoldsBytes, IsSound}
use Rattle.block_file.proofs.Holding.{holds-none, sound-empty}
use Rattle.block_file.proofs.FileBody.new.Goals as goal

pub returns-clause-bytes : goal.returns-clause-bytes
returns-clause-bytes c = λ size m. record {
  size_is = refl;
  holds = subst (λ blocks. HoldsBytes size m blocks []) (sym c.new.ensures.items) (holds-none size m);
}

pub returns-clause-sound : goal.returns-clause-sound
returns-clause-sound c = λ seats. subst (λ blocks. IsSound seats (file_in 0 blocks)) (sym c.new.ensures.items) (sound-empty seats)
