use Rattle.std.proofs.Common.{◌≡◌, ◌≤◌, length, take, ap, vec_len, arith, length-take}
use Rattle.std.proofs.lemmas.Grind.{common_steps}
use Rattle.slice_seq.specs.Used.{UsedView}
use Rattle.slice_seq.proofs.Bytes.{take-written_at}
use Rattle.slice_seq.proofs.Used.write_at.Goals as goal

pub returns : goal.returns
returns c =
    let inside = c.self.inside in
    let bytes_are : take inside.length inside.buffer.items ≡ c.args.self.now.bytes = ap (λ (u : UsedView). u.bytes) c.self.view_is in
    let size_is : vec_len inside.buffer ≡ c.args.self.now.size = ap (λ (u : UsedView). u.size) c.self.view_is in
    let whole = inside.buffer.ok.0 in
    let within : c.args.at ≤ inside.length = omega (arith, ap length bytes_are, length-take inside.length inside.buffer.items) in
    let written = take-written_at inside.buffer.items c.args.bytes.now inside.length c.args.at within (omega arith) (omega arith) in
    grind (arith, common_steps)
