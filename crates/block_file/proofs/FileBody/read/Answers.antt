use Rattle.std.proofs.Common.{◌≡◌, length, take, drop, min, sym, ap, ◌∙◌, subst, arith, length-drop}
use Rattle.std.proofs.lemmas.List.{take_at}
use Rattle.std.proofs.lemmas.Grind.{common_steps}
use Rattle.block_file.specs.Files.{FileView, HoldsBytes}
use Rattle.block_file.proofs.Appending.{take_count}
use Rattle.block_file.proofs.FileBody.read.Goals as goal

pub returns-clause-bytes : goal.returns-clause-bytes
returns-clause-bytes g c = λ m bytes holds file.
    let size = c.args.home.now.seats.size in
    let length_is : c.self.inside.length ≡ c.args.self.now.length = ap (λ (f : FileView). f.length) c.self.view_is in
    let blocks_are : c.self.inside.blocks.items ≡ c.args.self.now.blocks = ap (λ (f : FileView). f.blocks) c.self.view_is in
    let read = c.read_blocks.new.out in
    let resized : length c.resize.new.self ≡ c.min-count.result = grind (arith, common_steps) in
    let room : length c.items_mut.result.now ≡ c.min-count.result = c.items_mut.ensures.len ∙ resized in
    let count : c.min-count.result ≡ min (length (drop c.args.from bytes)) c.args.len = omega (arith, length-drop c.args.from bytes, file.size_is, c.min-count.ensures, c.saturating_sub.ensures, c.from.ensures) in
    let held = subst (λ bs. HoldsBytes size m bs bytes) (sym (c.deref.ensures.value ∙ blocks_are)) file.holds in
    take_at read _ (length c.resize.new.self) (c.read_blocks.auto.out ∙ c.items_mut.ensures.len)
    ∙ c.in_default.ensures.bytes m bytes holds (length_is ∙ file.size_is) held
    ∙ ap (λ n. take n (drop c.args.from bytes)) room
    ∙ take_count c.min-count.result c.args.len (drop c.args.from bytes) count
