use Rattle.std.proofs.Common.{◌+◌, ◌-◌, ℕ, length, ap, ◌∙◌}
use Rattle.frame_fields.specs.Fields.{spelling, Word}
use Rattle.frame_fields.proofs.FieldLaws.{length_word}
use Rattle.req_frames.proofs.Closing.{closes}
use Rattle.req_frames.proofs.encode.close_frame.Goals as goal

pub returns : goal.returns
unfolding spelling
returns c =
    let len = length c.args.out.now - (c.args.at + 4) in
    closes c.args.out.now c.items_mut.result.now c.copy_from_slice.new.self (spelling (Word len)) c.args.at
    c.requires.room c.items_mut.ensures.value
    (c.copy_from_slice.ensures.after ∙ c.to_be_bytes.ensures
    ∙ ap (λ (n : ℕ). spelling (Word (n - (c.args.at + 4)))) (ap length c.items.ensures)) (length_word len)
